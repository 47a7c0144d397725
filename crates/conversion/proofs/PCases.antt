-- Every P case of document 01 holds: the table, computed on the definitions. Assumes nothing.
use mathlib.Core.Path.{◌≡◌, refl}
use mathlib.Core.List.{map}
use Rattle.words.specs.Words.{word16, word32, word64, words, links, value_at}
use lib.Ieee.{of_bits, to_bits, of_int, add, sub, mul, div, le, lt, eq}
use Rattle.common.specs.Header.{inside, is_conversion, has_id}
use Rattle.common.specs.Types.{type_of}
use Rattle.common.specs.Text.{until_zero, is_whole_text, run_at, run_of, text_bytes}
use Rattle.blocks.specs.Block.{fixed_at, fields_at, ref_count, fields_place, val_count, is_ranged, values_place, block_end, block_at, opened, parsed_for_repair, few_links, retired, parsed}
use Rattle.blocks.specs.Place.{word_in, references}
use Rattle.blocks.specs.View.{seen, reference_in, value_word_in, value_in}
use Rattle.tree.specs.Images.{bare, two_links}
use Rattle.tree.specs.Walk.{on, classed, walk_links, entered, walk, answer, checked}
use Rattle.leads.specs.Lead.{nested_at, lead_of, lead_at}
use Rattle.rules.specs.Values.{values}
use Rattle.rules.specs.Linear.{linear, rational}
use Rattle.rules.specs.Table.{between, scan, table, holds, first_triple, range_value}
use Rattle.rules.specs.Search.{first_key, key_search, first_range, range_search}
use Rattle.steps.specs.Choice.{last_reference}
use Rattle.steps.specs.Step.{step_of}
use Rattle.pieces.specs.Label.{bar, name_at, label}
use Rattle.engine.specs.Apply.{groups, joined, bit_groups, applied}
use Rattle.conversion.specs.Entry.{answer_in, output_after, settled, applying}
use Rattle.conversion.specs.Cases.{Case, block_of, block, tx, cases, answered}

pub p_cases : map (λ (c : Case). answered c.asked) cases ≡ map (λ (c : Case). c.wanted) cases
unfolding cases block block_of tx links bare two_links applying settled answer_in output_after applied bit_groups groups joined bar name_at label step_of last_reference key_search first_key range_search first_range range_value first_triple holds table scan between linear rational values lead_at lead_of nested_at checked answer walk entered walk_links classed on references value_in value_word_in reference_in word_in seen parsed retired few_links parsed_for_repair opened block_at block_end values_place is_ranged val_count fields_place ref_count fields_at fixed_at run_of run_at is_whole_text text_bytes until_zero type_of inside is_conversion has_id words value_at word64 word32 word16 of_bits to_bits of_int add sub mul div le lt eq
p_cases = refl
