-- Document 01's cases of the check, computed on the definitions: two links to one leaf (P); a chain of 21, of 22, and of 22 whose last block is short. Assumes nothing.
use Rattle.std.specs.Prelude.{Err, Ok}
use mathlib.Core.Path.{◌≡◌, refl}
use lib.ListN.{take}
use Rattle.words.specs.Words.{word16, word32, word64, words, links}
use Rattle.common.specs.Header.{inside, is_conversion}
use Rattle.common.specs.declared.refusal.Refusal.TheVariants.{Limit, Short, Deep}
use Rattle.blocks.specs.Block.{ref_count, fields_place, val_count, is_ranged, values_place, block_end, block_at, opened, few_links}
use Rattle.blocks.specs.Place.{references}
use Rattle.tree.specs.Images.{bare, two_links, chain}
use Rattle.tree.specs.Walk.{on, classed, walk_links, entered, walk, answer, checked}

pub two_links_lem : (checked two_links 0 3 ≡ Ok 3) × (checked two_links 0 2 ≡ Err (Limit 80))
unfolding two_links bare links checked answer walk entered walk_links classed on references words opened few_links block_at block_end values_place is_ranged val_count fields_place ref_count inside is_conversion word64 word32 word16
two_links_lem = (refl, refl)

pub chains : (checked (chain 20 0) 0 21 ≡ Ok 21) × (checked (chain 21 0) 0 21 ≡ Err (Limit 1512)) × (checked (chain 21 0) 0 22 ≡ Err (Deep 1512))
unfolding chain bare links checked answer walk entered walk_links classed on references words opened few_links block_at block_end values_place is_ranged val_count fields_place ref_count inside is_conversion word64 word32 word16
chains = (refl, refl, refl)

-- the 22nd block of a chain is short: Limit comes before Short, and Short before Deep
pub short_at_depth_21 : (checked (take 1570 (chain 21 0)) 0 22 ≡ Err (Short 1512)) × (checked (take 1570 (chain 21 0)) 0 21 ≡ Err (Limit 1512))
unfolding chain bare links checked answer walk entered walk_links classed on references words opened few_links block_at block_end values_place is_ranged val_count fields_place ref_count inside is_conversion word64 word32 word16
short_at_depth_21 = (refl, refl)
