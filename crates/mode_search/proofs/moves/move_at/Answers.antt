use Rattle.std.proofs.Common.{List, [], ◌∷◌, Contains, sym, subst, true}
use Rattle.domains.specs.Domains.{values_of}
use Rattle.domains.specs.declared.Value.{Value}
use Rattle.domains.specs.declared.Value.TheVariants.{Truth}
use Rattle.mode_search.specs.Moves.{IsJudged}
use Rattle.mode_search.proofs.FactsAt.{tells}
use Rattle.mode_search.proofs.Leading.{can_there, can_back, judged_is}
use Rattle.mode_search.proofs.moves.move_at.Goals as goal

pub returns-then-not-has : goal.returns-then-not-has
returns-then-not-has c =
    let x = c.args.variable.n in
    let m = c.args.mode in
    let s = tells x (m ∷ []) c.args.guard.now c.in_ok-can.can c.in_ok-can.ensures.yields in
    λ d. c.if-not-has.ensures (subst (λ (z : List Value). Contains z (Truth true)) (sym c.values.ensures.values)
    (s.complete (Truth true) (can_back x m c.args.guard.now c.args.action.now d)))

pub returns : goal.returns
returns c =
    let x = c.args.variable.n in
    let m = c.args.mode in
    let s = tells x (m ∷ []) c.args.guard.now c.in_ok-can.can c.in_ok-can.ensures.yields in
    let y = s.sound (Truth true) (subst (λ (z : List Value). Contains z (Truth true)) c.values.ensures.values
    c.if-not-has.ensures) in
    judged_is x m c.args.guard.now c.args.action.now c.in_ok-values.values.items (values_of c.args.domain.now)
    c.in_ok-values.ensures (can_there x m c.args.guard.now c.args.action.now y) c.judged.result
    (subst (λ (z : List Value). IsJudged z (values_of c.args.domain.now) c.judged.result) c.deref.ensures.value
    c.judged.ensures)
