use Rattle.std.proofs.Common.{ap, min, ◌∙◌, sym, ℕ, length}
use Rattle.sync_expand.proofs.Capping.{parts_of_sync}
use Rattle.sync_expand.proofs.counting.parts_of_one.Goals as goal

pub returns-in-Sync : goal.returns-in-Sync
returns-in-Sync c = λ few.
    let n = rw c.deref.ensures.value at c.choice_count.ensures in
    parts_of_sync c.args.counts.now c.args.way.now c.in-Sync.parts c.in-Sync.field-1 _ _ _ _ c.in-Sync.is few n
    c.from-choices.ensures (c.len.ensures ∙ (sym c.deref.ensures.len ∙ ap length c.deref.ensures.value))
    (c.min.ensures ∙ ap (λ (k : ℕ). min k 1000001) c.saturating_mul.ensures)
