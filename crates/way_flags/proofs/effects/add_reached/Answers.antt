use Rattle.std.proofs.Common.{◌≡◌, ◌+◌, ◌++◌, ◌∷◌, [], Bool, cond, List, Vec, Global, take, sym, ap, ◌∙◌, append_assoc}
use Rattle.std.proofs.lemmas.List.{append-nil}
use Rattle.std.specs.List.{list_all}
use Rattle.domains.specs.declared.Value.{Value}
use Rattle.typed_expr.specs.declared.expr.Expr.{Expr}
use Rattle.ar_base.specs.Numbers.{VarId}
use Rattle.ar_base.proofs.Items.{take_item}
use Rattle.gts_core.specs.declared.system.Assign.{Assign}
use Rattle.gts_core.specs.Readings.{is_met}
use Rattle.way_flags.specs.Effects.{action_effects, effect_of}
use Rattle.way_flags.specs.declared.effects.Effect.{Effect}
use Rattle.way_flags.proofs.Growing.{action_more, one_effect}
use Rattle.way_flags.proofs.effects.add_reached.Goals as goal
use Rattle.way_flags.proofs.effects.add_reached.Goals.{then-are_met+in_ok-push, else-are_met}

pub loop-assign-preserved : goal.loop-assign-preserved
loop-assign-preserved c =
    let t = c.args.values.now in
    let action = c.args.action.now in
    let i = c.loop-assign.assign-index in
    let a = c.assign-item.result in
    let first = c.args.all.now.items in
    let more : take (i + 1) action ≡ take i action ++ a ∷ [] =
    take_item action i a c.loop-assign-test.true c.assign-item.is in
    let goal_is : first ++ action_effects t (take (i + 1) action)
    ≡ (first ++ action_effects t (take i action)) ++ one_effect t a =
    ap (λ (z : List Assign). first ++ action_effects t z) more
    ∙ ap (λ (z : List Effect). first ++ z) (action_more t (take i action) a)
    ∙ sym (append_assoc first (action_effects t (take i action)) (one_effect t a)) in
    let met : c.are_met.result ≡ list_all (is_met t) a.when.items =
    c.are_met.ensures ∙ ap (λ (z : List (Expr VarId × Bool)). list_all (is_met t) z) c.deref.ensures.value in
    elim c.if-are_met.branch [
      | then-are_met+in_ok-push w ↦
          let one : one_effect t a ≡ effect_of t a ∷ [] =
          ap (λ (z : Bool). cond z (effect_of t a ∷ []) []) (sym met ∙ w.if-are_met.true) in
          ap (λ (z : Vec Effect Global). z.items) w.all-is ∙ w.in_ok-push.ensures.items
          ∙ ap (λ (z : List Effect). z ++ record { target = a.target; value = w.value_in.result } ∷ [])
          c.loop-assign.invariant
          ∙ ap (λ (z : Value). (first ++ action_effects t (take i action)) ++ record
          { target = a.target; value = z } ∷ []) w.value_in.ensures
          ∙ ap (λ (z : List Effect). (first ++ action_effects t (take i action)) ++ z) (sym one) ∙ sym goal_is
      | else-are_met w ↦
          let one : one_effect t a ≡ [] = ap (λ (z : Bool). cond z (effect_of t a ∷ []) [])
          (sym met ∙ w.if-are_met.false) in
          ap (λ (z : Vec Effect Global). z.items) w.all-is ∙ c.loop-assign.invariant
          ∙ sym (append-nil (first ++ action_effects t (take i action)))
          ∙ ap (λ (z : List Effect). (first ++ action_effects t (take i action)) ++ z) (sym one) ∙ sym goal_is
    ]
