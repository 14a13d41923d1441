use Rattle.std.proofs.Common.{subst}
use Rattle.gate_diagrams.proofs.Holding.{Remembers, remembers}
use Rattle.gate_diagrams.proofs.walked.Walked.remember.Goals as goal

pub returns-clause-held : goal.returns-clause-held
returns-clause-held c =
    subst (λ old. Remembers c.args.state c.args.number old c.insert.new.self.entries) c.self.view_is
    (remembers _ c.insert.result c.args.state c.args.number c.self.inside.numbers.entries c.insert.new.self.entries
    c.insert.ensures.updates c.insert.ensures.err (λ u. u.0))
