use Rattle.std.proofs.Common.{Some, None, refl}
use Rattle.domains.specs.declared.Value.TheVariants.{Symbol}
use Rattle.domains.proofs.Ranks.{symbols-more}
use Rattle.domains.proofs.Domain.value_at.Goals as goal

pub returns-in-Some-clause-variant : goal.returns-in-Some-clause-variant
returns-in-Some-clause-variant c =
    symbols-more c.args.self.now c.in-Symbols.symbols c.deref.result.now c.args.position (Some c.in-Some.s)
    (Some (Symbol c.in-Some.s)) c.in-Symbols.is c.deref.ensures.value c.requires c.in-Some.ensures.found
    c.in-Some.ensures.none refl

pub returns-in-None-clause-variant : goal.returns-in-None-clause-variant
returns-in-None-clause-variant c =
    symbols-more c.args.self.now c.in-Symbols.symbols c.deref.result.now c.args.position None None c.in-Symbols.is
    c.deref.ensures.value c.requires c.in-None.ensures.found c.in-None.ensures.none refl
