-- What goes down from call to call in `engine`'s cycle, and what the loop over the groups knows. Assumes nothing.
use Rattle.std.proofs.Common.{◌+◌, ◌*◌}
use Rattle.engine.specs.Apply.{applied, groups}
use Rattle.engine.proofs.Groups.{Sofar}
use Rattle.engine.proofs.+apply_bit_groups_part_pass_on_range_to_text_value_to_text.Given as goal

abbrev pub decreases-apply : goal.decreases-apply
decreases-apply l = 4 * l.left

abbrev pub decreases-bit_groups : goal.decreases-bit_groups
decreases-bit_groups l = 4 * l.left + 2

abbrev pub decreases-part : goal.decreases-part
decreases-part l = 4 * l.left + 1

abbrev pub decreases-pass_on : goal.decreases-pass_on
decreases-pass_on l = 4 * l.left + 1

abbrev pub decreases-range_to_text : goal.decreases-range_to_text
decreases-range_to_text l = 4 * l.left + 2

abbrev pub decreases-value_to_text : goal.decreases-value_to_text
decreases-value_to_text l = 4 * l.left + 2

abbrev pub invariant-bit_groups-loop-i : goal.invariant-bit_groups-loop-i
invariant-bit_groups-loop-i l =
    Sofar (groups (applied l.left l.asked.mode l.asked.image.now l.asked.text.now) l.asked.image.now l.b l.bits l.i) l.fn.out l.out l.fn.place l.next l.started l.visits l.malformed
