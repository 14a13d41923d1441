-- Where transitions lead.
use Rattle.std.proofs.Common.{◌≡◌, ℕ, true, List, [], ◌∷◌, Contains, slice_get, None, refl, sym, ap, ◌∙◌, subst}
use Rattle.ar_base.specs.Lists.{IsOneOf}
use Rattle.ar_base.specs.ListsInside.{HasOther}
use Rattle.ar_base.specs.Numbers.{VarId}
use Rattle.ar_base.proofs.Standing.{one_contains, contains_one, one_none, stands_map, stands_map_back}
use Rattle.domains.specs.declared.Value.{Value}
use Rattle.domains.specs.declared.Value.TheVariants.{Truth}
use Rattle.typed_expr.specs.Yields.{Yields}
use Rattle.typed_expr.proofs.Facts.{yields_more}
use Rattle.typed_expr.specs.declared.expr.Expr.{Expr, out-Expr}
use Rattle.ar_meaning.specs.Systems as s
use Rattle.ar_meaning.specs.Systems.{Transition, Leaf}
use Rattle.ar_meaning.specs.Facts.{PassesConditions}
use Rattle.ar_meaning.specs.Ways.{Can, guard_holds, Effects, acts}
use Rattle.ar_meaning.proofs.Least.{passes_more}
use Rattle.ar_meaning.proofs.OneAnswer.{same_value}
use Rattle.ar_firing.specs.Fragment.{At}
use Rattle.ar_firing.specs.Rules.{GivesOther, nothing, two, outside}
use Rattle.gts_core.specs.View.{numbered, assign_of}
use Rattle.gts_core.specs.declared.system.Assign.{Assign}
use Rattle.mode_search.specs.declared.moves.Move.{Move}
use Rattle.mode_search.specs.declared.moves.Move.TheVariants.{Still, To, Wrong}
use Rattle.gts_core.specs.Adding.{HasThose}
use Rattle.mode_search.specs.Adding.{SomeHas}
use Rattle.mode_search.specs.Modes.{transition_of}
use Rattle.mode_search.specs.Moves.{HasAt, GivesValue, IsMove, IsJudged}
use Rattle.mode_search.proofs.Added.{some_item, some_here}
use Rattle.mode_search.proofs.FactsAt.{at_there, at_back}

module _ (x : ℕ) (m : Value) (g : Expr VarId) (action : List Assign) where
  can_parts : (d : Transition ℕ) → Can (At x m) (Leaf d) → Yields (At x m) (out-Expr ℕ d.guard) (Truth true)
  can_parts d (guard_holds y) = y

  pub can_there : Yields (HasAt x (m ∷ [])) (out-Expr ℕ (numbered g)) (Truth true)
      → Can (At x m) (Leaf (transition_of g action))
  can_there y = guard_holds (yields_more ℕ (HasAt x (m ∷ [])) (At x m) (at_there x m) y)

  pub can_back : Can (At x m) (Leaf (transition_of g action))
      → Yields (HasAt x (m ∷ [])) (out-Expr ℕ (numbered g)) (Truth true)
  can_back c = yields_more ℕ (At x m) (HasAt x (m ∷ [])) (at_back x m) (can_parts (transition_of g action) c)

  pub gives_there : (v : Value) → SomeHas (GivesValue (HasAt x (m ∷ [])) x) action v
      → Effects (At x m) (Leaf (transition_of g action)) x v
  gives_there v h =
      let o = some_item (GivesValue (HasAt x (m ∷ [])) x) action v h in
      subst (λ (k : ℕ). Effects (At x m) (Leaf (transition_of g action)) k v) o.2.target
      (acts (assign_of o.0) (record {
        place = o.1.place;
        stands = stands_map assign_of action o.1.place o.0 o.1.stands;
      })
      (passes_more ℕ (HasAt x (m ∷ [])) (At x m) (at_there x m) o.2.passes)
      (yields_more ℕ (HasAt x (m ∷ [])) (At x m) (at_there x m) o.2.yields))

  effect_parts : (d : Transition ℕ) (n : ℕ) (v : Value) → Effects (At x m) (Leaf d) n v
      → (b : s.Assign ℕ) × IsOneOf d.action b × (b.target ≡ n) × PassesConditions (At x m) b.conditions
      × Yields (At x m) (out-Expr ℕ b.value) v
  effect_parts d n v (acts b o p y) = (b, o, refl, p, y)

  pub gives_back : (v : Value) → Effects (At x m) (Leaf (transition_of g action)) x v
      → SomeHas (GivesValue (HasAt x (m ∷ [])) x) action v
  gives_back v h =
      let o = effect_parts (transition_of g action) x v h in
      let k = stands_map_back assign_of action o.1.place o.0 o.1.stands in
      some_here (GivesValue (HasAt x (m ∷ [])) x) action v k.0 o.1.place k.1 (record {
        target = ap (λ (z : s.Assign ℕ). z.target) k.2 ∙ o.2;
        passes = subst (λ (z : s.Assign ℕ). PassesConditions (HasAt x (m ∷ [])) z.conditions) (sym k.2)
            (passes_more ℕ (At x m) (HasAt x (m ∷ [])) (at_back x m) o.3);
        yields = subst (λ (z : s.Assign ℕ). Yields (HasAt x (m ∷ [])) (out-Expr ℕ z.value) v) (sym k.2)
            (yields_more ℕ (At x m) (HasAt x (m ∷ [])) (at_back x m) o.4);
      })

  -- what was judged of the values that the action gives is a move
  module _ (values domain : List Value) (those : HasThose (SomeHas (GivesValue (HasAt x (m ∷ [])) x) action) values)
      (can : Can (At x m) (Leaf (transition_of g action))) where
    on : (v : Value) → Contains values v → Effects (At x m) (Leaf (transition_of g action)) x v
    on v c = gives_there v (those.only v (one_contains values v c))

    off : (v : Value) → Effects (At x m) (Leaf (transition_of g action)) x v → Contains values v
    off v e = contains_one values v (those.each v (gives_back v e))

    other_there : GivesOther (Contains values) domain
        → GivesOther (Effects (At x m) (Leaf (transition_of g action)) x) domain
    other_there (nothing h) = nothing (λ v e. h v (off v e))
    other_there (two v w a b n) = two v w (on v a) (on w b) n
    other_there (outside v a n) = outside v (on v a) n

    pub judged_is : (move : Move) → IsJudged values domain move → IsMove (At x m) (transition_of g action) x domain move
    judged_is Still h = absurd h
    judged_is (To v) h = record { can = can; gives = on v h.0; one = λ w e. h.1 w (off w e); in_domain = h.2 }
    judged_is Wrong h = record { can = can; gives = other_there h }

-- a list with no first value is empty
pub none_in : (row : List Value) (v : Value) → slice_get row 0 ≡ None → Contains row v → ⊥
none_in [] v e c = one_none v (one_contains [] v c)
none_in (x ∷ xs) v e c = cc

-- where no value is another, each is this one
pub only_there : (row : List Value) (v : Value) → (HasOther row v → ⊥) → (w : Value) → Contains row w → w ≡ v
only_there row v n w c = same_value w v (λ d. n (record { other = w; has = c; differs = d }))
