use Rattle.std.proofs.Common.{rules, sym}
use Rattle.ar_firing.specs.Rules.{two, outside}
use Rattle.domains.proofs.Domains.{held, listed}
use Rattle.domains.proofs.Members.{first-in}
use Rattle.mode_search.proofs.Leading.{only_there}
use Rattle.mode_search.proofs.moves.judged.Goals as goal

pub returns : goal.returns
returns c =
    let first = c.in-Some.first.now in (
      first-in c.args.values.now first (sym c.in-Some.ensures.value),
      only_there c.args.values.now first c.if-has_other.ensures,
      listed c.args.domain.now first (c.if-not-holds.ensures.0 (search rules)),
    )

pub returns-then-has_other : goal.returns-then-has_other
returns-then-has_other c =
    let first = c.in-Some.first.now in
    let o = c.if-has_other.ensures in
    two o.other first o.has (first-in c.args.values.now first (sym c.in-Some.ensures.value)) o.differs

pub returns-then-not-holds : goal.returns-then-not-holds
returns-then-not-holds c =
    let first = c.in-Some.first.now in
    outside first (first-in c.args.values.now first (sym c.in-Some.ensures.value))
    (λ d. let t = c.if-not-holds.ensures.1 (held c.args.domain.now first c.requires d) in search rules)
