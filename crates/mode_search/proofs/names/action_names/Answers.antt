use Rattle.std.proofs.Common.{◌≡◌, [], inl, inr, refl, Bool, List, subst}
use Rattle.typed_expr.specs.Mentions.{Mentions}
use Rattle.typed_expr.specs.declared.expr.Expr.{Expr, out-Expr}
use Rattle.ar_base.specs.Numbers.{VarId}
use Rattle.ar_meaning.specs.Dependence.{Tests}
use Rattle.gts_core.specs.Adding.{Adds}
use Rattle.gts_core.specs.Named.{ReadsVariable}
use Rattle.gts_core.proofs.Added as added
use Rattle.mode_search.specs.Named.{AssignNamesVariable, OneNames}
use Rattle.mode_search.proofs.Added.{some_start, some_on, some_all}
use Rattle.mode_search.proofs.names.action_names.Goals as goal

pub loop-assign-init : goal.loop-assign-init
loop-assign-init c = some_start AssignNamesVariable c.args.action.now c.new-names.result.items c.new-names.ensures.items

pub loop-assign-preserved : goal.loop-assign-preserved
loop-assign-preserved c =
    let a = c.assign-item.result in
    let old = c.loop-assign.names.items in
    let mid = c.push.new.self.items in
    let more = c.add_named.new.found.items in
    let new = c.add_tests.new.found.items in
    let target : VarId → Type 0 = λ x. x ≡ a.target in
    let value : VarId → Type 0 = λ x. Mentions x (out-Expr VarId a.value) in
    let tests : VarId → Type 0 = λ x. Tests x a.when.items in
    let first : Adds target old mid =
    added.adds_one target a.target old mid refl (λ x e. e) c.in_ok-push.ensures.items in
    let read : Adds (ReadsVariable a) mid new =
    added.adds_then value tests (ReadsVariable a) mid more new c.in_ok-add_named.ensures
    (subst (λ (z : List (Expr VarId × Bool)). Adds (λ x. Tests x z) more new) c.deref.ensures.value
    c.in_ok-add_tests.ensures) (λ x d. d) (λ x d. inl d) (λ x d. inr d) in
    some_on AssignNamesVariable [] old new c.args.action.now c.loop-assign.assign-index a c.loop-assign-test.true
    c.assign-item.is c.loop-assign.invariant
    (added.adds_then target (ReadsVariable a) (AssignNamesVariable a) old mid new first read (λ x d. d) (λ x d. inl d)
    (λ x d. inr d))

pub returns : goal.returns
returns c = added.those_of_empty (λ x. OneNames c.args.action.now x) [] c.loop-assign.names.items refl
    (some_all AssignNamesVariable [] c.loop-assign.names.items c.args.action.now c.loop-assign.assign-index
    c.loop-assign-test.false c.loop-assign.invariant)
