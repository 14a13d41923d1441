use Rattle.std.proofs.Common.{refl}
use Rattle.class_table.proofs.Repeated.{met_new, met_again, not_true, not_false}
use Rattle.class_table.proofs.repeats.Repeats.add.Goals as goal

pub returns-then-not-branch : goal.returns-then-not-branch
returns-then-not-branch c = λ names h.
    met_again names c.args.name.n c.args.at c.args.self.now _ h c.in_ok-insert.ensures.updates.0
    (not_false _ _ c.in_ok-insert.ensures.added c.if-not-branch.true) c.earliest-self.ensures

pub returns-else-not-branch : goal.returns-else-not-branch
returns-else-not-branch c = λ names h.
    met_new names c.args.name.n c.args.at c.args.self.now _ h c.in_ok-insert.ensures.updates.0
    (not_true _ _ c.in_ok-insert.ensures.added c.if-not-branch.false) refl
