use Rattle.std.proofs.Common.{subst}
use Rattle.mode_diagrams.specs.Kept.{Remembers}
use Rattle.mode_diagrams.proofs.Holding.{remember_after, derived_updates}
use Rattle.mode_diagrams.proofs.held.Held.remember.Goals as goal

pub returns-clause-entry : goal.returns-clause-entry
returns-clause-entry c =
    subst (λ old. Remembers c.args.state c.args.number old c.insert.new.self.entries) c.self.view_is
    (remember_after _ c.insert.result c.args.state c.args.number c.self.inside.numbers.entries
    c.insert.new.self.entries c.insert.ensures.updates c.insert.ensures.err
    (λ u. derived_updates c.args.state c.args.number c.self.inside.numbers.entries c.insert.new.self.entries u.0))
