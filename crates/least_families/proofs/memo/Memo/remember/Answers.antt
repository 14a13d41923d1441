use Rattle.std.proofs.Common.{inl, inr, ap, ◌∙◌}
use Rattle.least_families.proofs.Held.{remember_after, remember_from, derived_updates}
use Rattle.least_families.proofs.memo.Memo.remember.Goals as goal
use Rattle.least_families.proofs.memo.Memo.remember.Goals.{then-len-ge-MOST_RESULTS, else-len-ge-MOST_RESULTS}

pub returns-clause-entry : goal.returns-clause-entry
returns-clause-entry c =
    let mid = c.if-len-ge-MOST_RESULTS.self-inside.results.entries in
    remember_from c.args.operation c.args.number c.args.self.now mid c.insert.new.self.entries
    (elim c.if-len-ge-MOST_RESULTS.branch [
      | then-len-ge-MOST_RESULTS w ↦ inr (ap (λ m. m.results.entries) w.self-inside-is ∙ w.clear.ensures.empty)
      | else-len-ge-MOST_RESULTS w ↦ inl (ap (λ m. m.results.entries) w.self-inside-is ∙ c.self.view_is)
    ])
    (remember_after _ c.insert.result c.args.operation c.args.number mid c.insert.new.self.entries
    c.insert.ensures.updates c.insert.ensures.err
    (λ u. derived_updates c.args.operation c.args.number mid c.insert.new.self.entries u.0))
