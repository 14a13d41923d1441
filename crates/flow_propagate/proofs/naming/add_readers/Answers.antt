use Rattle.std.proofs.Common.{inl, inr, Bool, List, subst}
use Rattle.ar_base.specs.Lists.{IsOneOf}
use Rattle.ar_base.specs.Numbers.{VarId}
use Rattle.ar_base.proofs.Results.{ok_as}
use Rattle.typed_expr.specs.Mentions.{Mentions}
use Rattle.typed_expr.specs.declared.expr.Expr.{Expr, out-Expr}
use Rattle.ar_meaning.specs.Dependence.{Tests}
use Rattle.gts_core.specs.Adding.{Adds}
use Rattle.gts_core.specs.Named.{ReadsVariable}
use Rattle.gts_core.proofs.Added.{adds_then}
use Rattle.flow_propagate.specs.Named.{AddsNamed}
use Rattle.flow_propagate.proofs.NamedPairs.{pairs_gathered}
use Rattle.flow_propagate.proofs.naming.add_readers.Goals as goal

pub returns : goal.returns
returns c =
    let a = c.args.assign.now in
    let none = c.clear.new.self.items in
    let some = c.add_named.new.found.items in
    let names = c.add_tests.new.found.items in
    let old = c.args.found.now.items in
    let new = c.add_each.new.found.items in
    let value : VarId → Type 0 = λ x. Mentions x (out-Expr VarId a.value) in
    let tests : VarId → Type 0 = λ x. Tests x a.when.items in
    let added : List (Expr VarId × Bool) → Type 0 = λ z. Adds (λ x. Tests x z) some names in
    let both : Adds (ReadsVariable a) none names =
    adds_then value tests (ReadsVariable a) none some names c.in_ok-add_named.ensures
    (subst added c.deref.ensures.value c.in_ok-add_tests.ensures) (λ x d. d) (λ x d. inl d) (λ x d. inr d) in
    let pairs : List VarId → Type 0 = λ z. AddsNamed c.args.number (λ x. IsOneOf z x) old new in
    ok_as _ _ c.add_each.result (λ h.
    pairs_gathered c.args.number (ReadsVariable a) none names old new c.clear.ensures.items both
    (subst pairs c.deref-2.ensures.value h)) c.add_each.ensures
