-- The row is that of the number.
use Rattle.std.proofs.Common.{ℕ, ap, ◌∙◌, ◌%◌}
use Rattle.flow_blocks.specs.Slots.{slot_of}
use Rattle.flow_blocks.proofs.RowLemmas.{row_taken}
use Rattle.flow_blocks.proofs.slots.slot_of.Goals as goal

pub returns-clause-slot : goal.returns-clause-slot
returns-clause-slot c =
    let row = c.deref.ensures.value ∙ row_taken c.args.count c.args.rows.now c.args.number c.index-rows-number.result
    c.index-rows-number.result c.requires.rows c.requires.below c.index-rows-number.is in
    ap (λ (n : ℕ). n % c.args.count) c.sum_of.ensures ∙ ap (slot_of c.args.count) row
