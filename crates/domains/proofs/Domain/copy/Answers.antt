use Rattle.std.proofs.Common.{rules, subst, sym}
use Rattle.std.specs.List.{each_same}
use Rattle.domains.specs.SameInside.{IsSameDomain, boolean, symbols}
use Rattle.domains.specs.declared.Domain.{Domain}
use Rattle.domains.specs.declared.Domain.TheVariants.{Boolean, Symbols}
use Rattle.domains.proofs.SameDomains.{ranges}
use Rattle.domains.proofs.Domain.copy.Goals as goal

pub returns-in-Boolean : goal.returns-in-Boolean
returns-in-Boolean c = subst (λ (d : Domain). IsSameDomain d Boolean) (sym c.in-Boolean.is) boolean

pub returns-in_ok-clone-in-Symbols : goal.returns-in_ok-clone-in-Symbols
returns-in_ok-clone-in-Symbols c =
    subst (λ (d : Domain). IsSameDomain d (Symbols c.in_ok-clone-in-Symbols.field-0)) (sym c.in-Symbols.is)
    (symbols (each_same c.in-Symbols.symbols.items c.in_ok-clone-in-Symbols.field-0.items
    c.in_ok-clone-in-Symbols.ensures.cases.0))

pub returns-in-Range : goal.returns-in-Range
returns-in-Range c = ranges c.args.self.now c.in-Range.low c.in-Range.high _ _ c.in-Range.is (search rules)
    (search rules)
