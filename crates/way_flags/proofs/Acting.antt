-- The effects that are gathered are those of the way that is fired.
use Rattle.std.proofs.Common.{◌≡◌, ◌+◌, ◌⊎◌, ℕ, zero, suc, Bool, true, false, cond, Option, Some, None, slice_get, List, [], ◌∷◌, ◌++◌, map, length, Vec, Global, refl, sym, ap, ◌∙◌, subst, inl, inr}
use Rattle.std.specs.List.{list_all}
use Rattle.ar_base.specs.Lists.{Stands, IsOneOf}
use Rattle.ar_base.proofs.Standing.{stands_left, stands_right, stands_split, stands_map, stands_within}
use Rattle.domains.specs.declared.Value.{Value}
use Rattle.typed_expr.specs.Yields.{Yields}
use Rattle.typed_expr.specs.declared.expr.Expr.{Expr, out-Expr}
use Rattle.ar_meaning.specs.Systems as s
use Rattle.ar_meaning.specs.Facts.{HasValue, PassesConditions}
use Rattle.ar_meaning.specs.Numbered.{Acts, Means_way, leaf, joint}
use Rattle.ar_meaning.specs.Ways.{Effects, acts}
use Rattle.ar_base.specs.Numbers.{VarId, WayId}
use Rattle.gts_core.specs.View.{net_of, way_bodies, body_of_way, of_body, assign_of, numbered}
use Rattle.gts_core.specs.Sound.{IsSound, kind_of_domain}
use Rattle.gts_core.specs.declared.system.Assign.{Assign}
use Rattle.gts_core.specs.declared.system.Way.{Way}
use Rattle.gts_core.specs.declared.system.WayBody.{WayBody}
use Rattle.gts_core.specs.declared.system.WayBody.TheVariants as body
use Rattle.gts_core.specs.declared.system.GtsParts.{GtsParts}
use Rattle.gts_core.specs.Readings.{value_in, is_met}
use Rattle.gts_core.specs.Readings.{IsTotal}
use Rattle.way_flags.specs.Ways.{AreFlags}
use Rattle.way_flags.specs.Taking.{HasWayNumber, TakesPart, AreTakers}
use Rattle.way_flags.specs.Taking as takes
use Rattle.way_flags.specs.Effects.{effect_of, action_effects, body_effects, found_effects, taken_effects, EffectGives}
use Rattle.way_flags.specs.Receiving.{IsStateVariable}
use Rattle.way_flags.specs.declared.effects.Effect.{Effect}
use Rattle.gts_core.proofs.Tests.{answer_true, is_true}
use Rattle.ar_base.proofs.Standing.{one_first, one_rest}
use Rattle.gts_core.proofs.Reading.{passes_answer, value_yielded, yielded_value}
use Rattle.way_flags.proofs.Taking.{acted, taken_effect}

gives_left : (es fs : List Effect) (x : ℕ) (v : Value) → EffectGives es x v → EffectGives (es ++ fs) x v
gives_left es fs x v h = record {
  place = h.place;
  effect = h.effect;
  stands = stands_left es fs h.place h.effect h.stands;
  target = h.target;
  value = h.value;
}

gives_right : (es fs : List Effect) (x : ℕ) (v : Value) → EffectGives fs x v → EffectGives (es ++ fs) x v
gives_right es fs x v h = record {
  place = length es + h.place;
  effect = h.effect;
  stands = stands_right es fs h.place (length es + h.place) h.effect refl h.stands;
  target = h.target;
  value =
      h.value;
}

gives_split : (es fs : List Effect) (x : ℕ) (v : Value) → EffectGives (es ++ fs) x v → EffectGives es x v ⊎ EffectGives fs x v
gives_split es fs x v h = elim (stands_split es fs h.place h.effect h.stands) [
  | inl k ↦ inl (record { place = h.place; effect = h.effect; stands = k; target = h.target; value = h.value })
  | inr k ↦ inr (record { place = k.0; effect = h.effect; stands = k.2; target = h.target; value = h.value })
]

gives_none : (x : ℕ) (v : Value) → EffectGives [] x v → ⊥
gives_none x v h = nothing h.place h.stands
  where
    nothing : (k : ℕ) → Stands [] k h.effect → ⊥
    nothing k st = cc

-- an assignment that is reached, and gives the variable this value
record Reached (t : List Value) (action : List Assign) (x : ℕ) (v : Value) : Type 0 where
  assign : Assign
  is_one : IsOneOf action assign
  met : list_all (is_met t) assign.when.items ≡ true
  target : assign.target.n ≡ x
  value : value_in t assign.value ≡ v

-- what stands where the test holds
given_where : (b : Bool) (es : List Effect) (x : ℕ) (v : Value) → EffectGives (cond b es []) x v → (b ≡ true) × EffectGives es x v
given_where true es x v h = (refl, h)
given_where false es x v h = absurd (gives_none x v h)

where_given : (b : Bool) (es : List Effect) (x : ℕ) (v : Value) → b ≡ true → EffectGives es x v → EffectGives (cond b es []) x v
where_given true es x v e h = h
where_given false es x v e h = absurd (cc e)

only_effect : (e : Effect) (x : ℕ) (v : Value) → EffectGives (e ∷ []) x v → (e.target.n ≡ x) × (e.value ≡ v)
only_effect e x v h = go h.place h.effect h.stands h.target h.value
  where
    go : (k : ℕ) (f : Effect) → Stands (e ∷ []) k f → f.target.n ≡ x → f.value ≡ v → (e.target.n ≡ x) × (e.value ≡ v)
    go zero f st a b = let same : e ≡ f = cc in (ap (λ (z : Effect). z.target.n) same ∙ a, ap (λ (z : Effect). z.value) same ∙ b)
    go (suc k) f st a b = cc

reached_from : (t : List Value) (action : List Assign) (x : ℕ) (v : Value) → EffectGives (action_effects t action) x v
    → Reached t action x v
reached_from t [] x v h = absurd (gives_none x v h)
reached_from t (a ∷ more) x v h = elim
    (gives_split (cond (list_all (is_met t) a.when.items) (effect_of t a ∷ []) []) (action_effects t more) x v h) [
      | inl k ↦ (let w = given_where (list_all (is_met t) a.when.items) (effect_of t a ∷ []) x v k in
          let e = only_effect (effect_of t a) x v w.1 in
          record { assign = a; is_one = one_first a more; met = w.0; target = e.0; value = e.1 })
      | inr k ↦ (let r = reached_from t more x v k in record { assign = r.assign; is_one = one_rest a more r.assign r.is_one; met = r.met; target = r.target; value = r.value })
    ]

reached_there : (t : List Value) (action : List Assign) (k : ℕ) (a : Assign) (x : ℕ) (v : Value) → Stands action k a
    → list_all (is_met t) a.when.items ≡ true → a.target.n ≡ x → value_in t a.value ≡ v
    → EffectGives (action_effects t action) x v
reached_there t [] zero a x v st met e i = cc
reached_there t [] (suc k) a x v st met e i = cc
reached_there t (b ∷ more) zero a x v st met e i =
    let same : b ≡ a = cc in
    let P : Assign → Type 0 = λ z. EffectGives (cond (list_all (is_met t) z.when.items) (effect_of t z ∷ []) []) x v in
    gives_left (cond (list_all (is_met t) b.when.items) (effect_of t b ∷ []) []) (action_effects t more) x v
    (subst P (sym same) (where_given (list_all (is_met t) a.when.items) (effect_of t a ∷ []) x v met
    (record { place = 0; effect = effect_of t a; stands = refl; target = e; value = i })))
reached_there t (b ∷ more) (suc k) a x v st met e i =
    gives_right (cond (list_all (is_met t) b.when.items) (effect_of t b ∷ []) []) (action_effects t more) x v
    (reached_there t more k a x v st met e i)

-- one of these ways gives the variable this value
record Taken (t : List Value) (ways : List Way) (ids : List WayId) (x : ℕ) (v : Value) : Type 0 where
  has : WayId
  is_one : IsOneOf ids has
  way : Way
  stands : Stands ways has.n way
  gives : EffectGives (body_effects t way.body) x v

found_from : (t : List Value) (ways : List Way) (n : ℕ) (f : Option Way) → slice_get ways n ≡ f → (x : ℕ) (v : Value)
    → EffectGives (found_effects t f) x v → (w : Way) × Stands ways n w × EffectGives (body_effects t w.body) x v
found_from t ways n (Some w) e x v h = (w, e, h)
found_from t ways n None e x v h = absurd (gives_none x v h)

taken_from : (t : List Value) (ways : List Way) (ids : List WayId) (x : ℕ) (v : Value)
    → EffectGives (taken_effects t ways ids) x v → Taken t ways ids x v
taken_from t ways [] x v h = absurd (gives_none x v h)
taken_from t ways (id ∷ ids) x v h =
    elim (gives_split (found_effects t (slice_get ways id.n)) (taken_effects t ways ids) x v h) [
      | inl k ↦ (let f = found_from t ways id.n (slice_get ways id.n) refl x v k in record { has = id; is_one = one_first id ids; way = f.0; stands = f.1; gives = f.2 })
      | inr k ↦ (let r = taken_from t ways ids x v k in record { has = r.has; is_one = one_rest id ids r.has r.is_one; way = r.way; stands = r.stands; gives = r.gives })
    ]

taken_there : (t : List Value) (ways : List Way) (ids : List WayId) (k : ℕ) (id : WayId) (w : Way) (x : ℕ) (v : Value)
    → Stands ids k id → Stands ways id.n w → EffectGives (body_effects t w.body) x v → EffectGives (taken_effects t ways ids) x v
taken_there t ways [] zero id w x v st sw g = cc
taken_there t ways [] (suc k) id w x v st sw g = cc
taken_there t ways (a ∷ ids) zero id w x v st sw g =
    let same : a ≡ id = cc in
    let found : slice_get ways a.n ≡ Some w = ap (λ (z : WayId). slice_get ways z.n) same ∙ sw in
    gives_left (found_effects t (slice_get ways a.n)) (taken_effects t ways ids) x v
    (subst (λ (z : Option Way). EffectGives (found_effects t z) x v) (sym found) g)
taken_there t ways (a ∷ ids) (suc k) id w x v st sw g =
    gives_right (found_effects t (slice_get ways a.n)) (taken_effects t ways ids) x v
    (taken_there t ways ids k id w x v st sw g)

-- what a local way does
local_effect : (p : GtsParts) (K : ℕ → Value → Type 0) (n : ℕ) (u : s.Way ℕ) → Means_way (way_bodies p) n u
    → (way : Way) (guard : Expr VarId) (action : Vec Assign Global) → Stands p.ways.items n way
    → way.body ≡ body.Local guard action
    → (a : Assign) → IsOneOf action.items a → (v : Value) → PassesConditions K (assign_of a).conditions
    → Yields K (out-Expr ℕ (assign_of a).value) v → Effects K u a.target.n v
local_effect p K n (s.Leaf d) (leaf j) way guard action st e a one v pa y =
    let there : Stands (way_bodies p) n (body_of_way way) = stands_map body_of_way p.ways.items n way st in
    let is : body_of_way way ≡ Acts (record { guard = numbered guard; action = map assign_of action.items }) =
    ap of_body e in
    let same : d ≡ record { guard = numbered guard; action = map assign_of action.items } = cc in
    let acts_here : d.action ≡ map assign_of action.items = ap (λ (z : s.Transition ℕ). z.action) same in
    acts (assign_of a) (record {
      place = one.place;
      stands = subst (λ (z : List (s.Assign ℕ)). Stands z one.place (assign_of a)) (sym acts_here)
          (stands_map assign_of action.items one.place a one.stands);
    }) pa y
local_effect p K n (s.Joint bs) (joint j m) way guard action st e a one v pa y =
    let there : Stands (way_bodies p) n (body_of_way way) = stands_map body_of_way p.ways.items n way st in
    let is : body_of_way way ≡ Acts (record { guard = numbered guard; action = map assign_of action.items }) = ap of_body e in cc

module _ (p : GtsParts) (sound : IsSound p) (t : List Value) (total : IsTotal p t) (flags : List Bool)
    (right : AreFlags p t flags) (top : ℕ) (w : s.Way ℕ) (m : Means_way (way_bodies p) top w)
    (ids : List WayId) (takers : AreTakers p flags top ids) where
  -- an effect of the way that is fired
  pub given_effect : (x : ℕ) (v : Value) → EffectGives (taken_effects t p.ways.items ids) x v
      → Effects (HasValue (net_of p) t) w x v
  given_effect x v h =
      let r = taken_from t p.ways.items ids x v h in
      go r.has.n r.way r.stands (takers.sound r.has.n
      (record { place = r.is_one.place; way = r.has; stands = r.is_one.stands; number = refl })) r.way.body refl
      r.gives
    where
      go : (n : ℕ) (way : Way) → Stands p.ways.items n way → TakesPart p flags top n → (b : WayBody) → way.body ≡ b
          → EffectGives (body_effects t b) x v → Effects (HasValue (net_of p) t) w x v
      go n way st tk (body.Sync ps) e g = absurd (gives_none x v g)
      go n way st tk (body.Local guard action) e g =
          let r = reached_from t action.items x v g in
          let a = r.assign in
          let typed = sound.actions n way guard action st e a r.is_one in
          let passes : PassesConditions (HasValue (net_of p) t) (assign_of a).conditions =
          answer_true (list_all (is_met t) a.when.items)
          (PassesConditions (HasValue (net_of p) t) (assign_of a).conditions) r.met
          (passes_answer p t total a.when.items typed.conditions) in
          let yields : Yields (HasValue (net_of p) t) (out-Expr ℕ (assign_of a).value) v =
          subst (λ (z : Value). Yields (HasValue (net_of p) t) (out-Expr ℕ (assign_of a).value) z) r.value
          (value_yielded p t total a.value (kind_of_domain typed.variable.domain) typed.value) in
          let tree = sound.trees n (stands_within p.ways.items n way st) in
          let own : Effects (HasValue (net_of p) t) tree.0 a.target.n v =
          local_effect p (HasValue (net_of p) t) n tree.0 tree.1 way guard action st e a r.is_one v passes
          yields in
          subst (λ (z : ℕ). Effects (HasValue (net_of p) t) w z v) r.target
          (taken_effect p (HasValue (net_of p) t) flags top right.flag sound w m n tk tree.0 tree.1 own)

  pub effect_given : (x : ℕ) (v : Value) → Effects (HasValue (net_of p) t) w x v
      → EffectGives (taken_effects t p.ways.items ids) x v
  effect_given x v h =
      let r = acted p (HasValue (net_of p) t) flags top right.flag top takes.itself m h in
      let typed = sound.actions r.number r.way r.guard r.action r.stands r.is_local r.assign r.is_one in
      let met : list_all (is_met t) r.assign.when.items ≡ true =
      is_true (list_all (is_met t) r.assign.when.items)
      (PassesConditions (HasValue (net_of p) t) (assign_of r.assign).conditions)
      (passes_answer p t total r.assign.when.items typed.conditions) r.passes in
      let value : value_in t r.assign.value ≡ v =
      sym (yielded_value p t total r.assign.value (kind_of_domain typed.variable.domain) typed.value v
      r.yields) in
      let own : EffectGives (body_effects t (body.Local r.guard r.action)) x v =
      reached_there t r.action.items r.is_one.place r.assign x v r.is_one.stands met r.target value in
      let has : HasWayNumber ids r.number = takers.complete r.number r.taken in
      taken_there t p.ways.items ids has.place has.way r.way x v has.stands
      (subst (λ (z : ℕ). Stands p.ways.items z r.way) (sym has.number) r.stands)
      (subst (λ (z : WayBody). EffectGives (body_effects t z) x v) (sym r.is_local) own)

-- an effect is on a state variable
pub to_state : (p : GtsParts) (sound : IsSound p) (t : List Value) (ids : List WayId) (x : ℕ) (v : Value)
    → EffectGives (taken_effects t p.ways.items ids) x v → IsStateVariable p x
to_state p sound t ids x v h = let r = taken_from t p.ways.items ids x v h in go r.has.n r.way r.stands r.way.body refl r.gives
  where
    go : (n : ℕ) (way : Way) → Stands p.ways.items n way → (b : WayBody) → way.body ≡ b → EffectGives (body_effects t b) x v
        → IsStateVariable p x
    go n way st (body.Sync ps) e g = absurd (gives_none x v g)
    go n way st (body.Local guard action) e g =
        let r = reached_from t action.items x v g in
        let typed = sound.actions n way guard action st e r.assign r.is_one in
        record {
          variable = typed.variable;
          stands = subst (λ (z : ℕ). Stands p.variables.items z typed.variable) r.target typed.stands;
          is_state =
              typed.is;
        }
