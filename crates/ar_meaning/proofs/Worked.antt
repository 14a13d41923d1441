-- The worked cases.
use Rattle.std.proofs.Common.{◌≡◌, ◌<◌, ◌⊎◌, inl, inr, ⊎_elim, ℕ, zero, suc, Bool, true, false, not, List, [], ◌∷◌, Option, Some, None, Contains, refl, sym, ◌∙◌, ap, subst, arith}
use Rattle.std.proofs.lemmas.Bool.{false≢true}
use Rattle.ar_base.specs.Lists.{Stands}
use Rattle.domains.specs.declared.Value.{Value}
use Rattle.domains.specs.declared.Value.TheVariants.{Truth}
use Rattle.typed_expr.specs.Yields.{Yields}
use Rattle.typed_expr.specs.Values.{is_related}
use Rattle.typed_expr.specs.declared.expr.Relation.TheVariants.{Equal}
use Rattle.typed_expr.specs.declared.expr.Expr.{Expr, out-Expr}
use Rattle.ar_meaning.specs.Systems.{Variable, Way, Net}
use Rattle.ar_meaning.specs.Facts.{PassesConditions, one_and, HasValue, FactOf}
use Rattle.ar_meaning.specs.Facts as facts
use Rattle.ar_meaning.specs.Flows.{HasTwo, Completes, state, known, unknown, Flows, Total, Fails, Two, two}
use Rattle.ar_meaning.specs.Flows as flowing
use Rattle.ar_meaning.specs.Ways.{Can, guard_holds, all_musts, some_may, this, later, Effects, acts, by_part, by_may, by_later}
use Rattle.ar_meaning.specs.Ways as m
use Rattle.ar_meaning.specs.Steps.{changed, kept, Step, Next, Refused, NotEnabled, not_enabled, moves}
use Rattle.ar_meaning.specs.Steps as steps
use Rattle.ar_meaning.specs.Cases.{truths, closed, opened, switches, state_of, flow_of, sets, sets_where, IsPlainVariable, IsRing, IsQuarrel, AreTurns, follower, ring, quarrel, pair, turns, jointly}
use Rattle.ar_meaning.proofs.ByNumber.{value_at, value_from}
use Rattle.ar_meaning.proofs.Tabled.{Known, Starts, Closes, flows, in_list, is_numbered, given_fact, added_fact, at_most}
use Rattle.ar_meaning.proofs.Forms.{constant_is, constant_yields, variable_is, variable_yields, not_yields, either_is, second_yields, closed_is, closed_yields}

known_as : (a v : Value) → Some a ≡ Some v → Some (Some a) ≡ Some (Some v)
known_as a v e = cc

known_is : (a v : Value) → Some (Some a) ≡ Some (Some v) → a ≡ v
known_is a v e = cc

in_truths : (b : Bool) → Contains truths (Truth b)
in_truths true = (1, omega arith, refl)
in_truths false = (0, omega arith, refl)

in_truths_as : (b : Bool) (v : Value) → Truth b ≡ v → Contains truths v
in_truths_as b v e = subst (λ z. Contains truths z) e (in_truths b)

pub follows : (e : Expr ℕ) → IsPlainVariable e 0 → (s f : Bool)
    → Flows (follower e) (Truth s ∷ Truth f ∷ []) (Total (Truth s ∷ Truth s ∷ []))
follows e i s f =
    let net : Net ℕ = follower e in
    let t : List Value = Truth s ∷ Truth f ∷ [] in
    let table : List (Option Value) = Some (Truth s) ∷ Some (Truth s) ∷ [] in
    let total : List Value = Truth s ∷ Truth s ∷ [] in
    let g : FactOf net t 0 (Truth s) =
    given_fact net (refl, (refl, tt)) t 0 (state_of 0 truths (Truth false)) (Truth s) refl refl refl in
    let h : FactOf net t 1 (Truth s) =
    added_fact net (refl, (refl, tt)) t 0 (sets 1 e) 1 (flow_of 1 truths (Truth false)) (Truth s) refl refl refl
    (in_truths s) facts.none (variable_yields (FactOf net t) e 0 (Truth s) i g) in
    flows net (refl, (refl, tt)) t table
    (λ k v o. known_as (Truth s) v o, (λ k v o. absurd (false≢true k), tt))
    (λ v p d. variable_is (Known table) e 0 v i d, tt)
    (λ v k. in_truths_as s v (known_is (Truth s) v k), (λ v k. in_truths_as s v (known_is (Truth s) v k), tt))
    total
    (state refl (known refl h flowing.none)) (
      λ v p d. value_from net (is_numbered net (refl, (refl, tt))) total 1 (flow_of 1 truths (Truth false)) v refl
          (variable_is (Stands total) e 0 v i d),
      tt,
    )

none_known : (v : Value) → ◌≡◌ {A = Option (Option Value)} (Some None) (Some (Some v)) → ⊥
none_known v e = cc

apart : (b : Bool) → ◌≡◌ {A = Value} (Truth b) (Truth (not b)) → ⊥
apart true e = cc
apart false e = cc

known_value : (a v : Value) → v ≡ a → Some (Some a) ≡ Some (Some v)
known_value a v e = ap (λ z. Some (Some z)) (sym e)

stands_value : (a v : Value) → v ≡ a → Some a ≡ Some v
stands_value a v e = ap (λ z. Some z) (sym e)

stands_is : (a v : Value) → Some a ≡ Some v → a ≡ v
stands_is a v e = cc

is_flow : false ≡ true → ⊥
is_flow = false≢true

module _ (first second third : Expr ℕ) (i : IsRing first second third) where
  abbrev around : Net ℕ
  around = ring first second third

  -- the first flow has the value true, or false where both of what it reads are false
  first_is : (P : ℕ → Value → Type 0) (v : Value) → Yields P (out-Expr ℕ first) v →
      ((P 3 (Truth true) ⊎ Yields P (out-Expr ℕ i.test) (Truth true)) × (v ≡ Truth true)) ⊎
      (P 3 (Truth false) × (v ≡ Truth false))
  first_is P v d = ⊎_elim
      (λ r. inl (⊎_elim (λ h. inl (variable_is P i.last 3 (Truth true) i.is_last h)) (λ h. inr h) r.0, r.1))
      (λ r. inr (variable_is P i.last 3 (Truth false) i.is_last r.0, r.2))
      (either_is P first i.last i.test v i.is_either d)

  pub ring_on : (x y z : Bool)
      → Flows around (closed ∷ Truth x ∷ Truth y ∷ Truth z ∷ [])
      (Total (closed ∷ Truth true ∷ Truth true ∷ Truth true ∷ []))
  ring_on x y z =
      let t : List Value = closed ∷ Truth x ∷ Truth y ∷ Truth z ∷ [] in
      let table : List (Option Value) = Some closed ∷ Some (Truth true) ∷ Some (Truth true) ∷ Some (Truth true) ∷ [] in
      let total : List Value = closed ∷ Truth true ∷ Truth true ∷ Truth true ∷ [] in
      let F = FactOf around t in
      let a : F 0 closed =
      given_fact around (refl, (refl, (refl, (refl, tt)))) t 0 (state_of 0 switches closed) closed refl refl refl in
      let b : F 1 (Truth true) =
      added_fact around (refl, (refl, (refl, (refl, tt)))) t 0 (sets 1 first) 1 (flow_of 1 truths (Truth false))
      (Truth true) refl refl refl (in_truths true) facts.none
      (second_yields F first i.last i.test i.is_either (closed_yields F i.test closed i.is_test a)) in
      let c : F 2 (Truth true) =
      added_fact around (refl, (refl, (refl, (refl, tt)))) t 1 (sets 2 second) 2 (flow_of 2 truths (Truth false))
      (Truth true) refl refl refl (in_truths true) facts.none
      (variable_yields F second 1 (Truth true) i.is_second b) in
      let d : F 3 (Truth true) =
      added_fact around (refl, (refl, (refl, (refl, tt)))) t 2 (sets 3 third) 3 (flow_of 3 truths (Truth false))
      (Truth true) refl refl refl (in_truths true) facts.none
      (variable_yields F third 2 (Truth true) i.is_third c) in
      flows around (refl, (refl, (refl, (refl, tt)))) t table (
        λ k v o. known_as closed v o,
        (
          λ k v o. absurd (is_flow k),
          (λ k v o. absurd (is_flow k), (λ k v o. absurd (is_flow k), tt)),
        ),
      ) (
        λ v p e. ⊎_elim (λ r. known_value (Truth true) v r.1)
            (λ r. absurd (apart true (known_is (Truth true) (Truth false) r.0))) (first_is (Known table) v e),
        (
          λ v p e. variable_is (Known table) second 1 v i.is_second e,
          (λ v p e. variable_is (Known table) third 2 v i.is_third e, tt),
        ),
      ) (
        λ v k. subst (λ z. Contains switches z) (known_is closed v k) (0, omega arith, refl),
        (
          λ v k. in_truths_as true v (known_is (Truth true) v k),
          (
            λ v k. in_truths_as true v (known_is (Truth true) v k),
            (λ v k. in_truths_as true v (known_is (Truth true) v k), tt),
          ),
        ),
      )
      total
      (state refl (known refl b (known refl c (known refl d flowing.none)))) (
        λ v p e. ⊎_elim
            (λ r. value_from around (is_numbered around (refl, (refl, (refl, (refl, tt))))) total 1
            (flow_of 1 truths (Truth false)) v refl (stands_value (Truth true) v r.1))
            (λ r. absurd (apart true (stands_is (Truth true) (Truth false) r.0))) (first_is (Stands total) v e),
        (
          λ v p e. value_from around (is_numbered around (refl, (refl, (refl, (refl, tt))))) total 2
              (flow_of 2 truths (Truth false)) v refl (variable_is (Stands total) second 1 v i.is_second e),
          (
            λ v p e. value_from around (is_numbered around (refl, (refl, (refl, (refl, tt))))) total 3
                (flow_of 3 truths (Truth false)) v refl (variable_is (Stands total) third 2 v i.is_third e),
            tt,
          ),
        ),
      )

  -- the switch is not closed
  not_closed : (P : ℕ → Value → Type 0) → ((v : Value) → P 0 v → v ≡ opened) → Yields P (out-Expr ℕ i.test) (Truth true)
      → ⊥
  not_closed P only d =
      let r = closed_is P i.test (Truth true) i.is_test d in
      let e : r.0 ≡ opened = only r.0 r.1 in
      let f : ◌≡◌ {A = Value} (Truth true) (Truth false) =
      r.2 ∙ ap (λ z. Truth (is_related Equal z closed)) e in apart true f

  pub ring_off : (x y z : Bool)
      → Flows around (opened ∷ Truth x ∷ Truth y ∷ Truth z ∷ [])
      (Total (opened ∷ Truth false ∷ Truth false ∷ Truth false ∷ []))
  ring_off x y z =
      let t : List Value = opened ∷ Truth x ∷ Truth y ∷ Truth z ∷ [] in
      let table : List (Option Value) = Some opened ∷ None ∷ None ∷ None ∷ [] in
      let total : List Value = opened ∷ Truth false ∷ Truth false ∷ Truth false ∷ [] in
      let starts : Starts around t table = (
        λ k v o. known_as opened v o,
        (
          λ k v o. absurd (is_flow k),
          (λ k v o. absurd (is_flow k), (λ k v o. absurd (is_flow k), tt)),
        ),
      ) in
      let opened_alone : (v : Value) → Known table 0 v → v ≡ opened = λ v h. sym (known_is opened v h) in
      let closes : Closes around table = (
        λ v p e. ⊎_elim
            (λ r. absurd (⊎_elim (λ h. none_known (Truth true) h) (λ h. not_closed (Known table) opened_alone h) r.0))
            (λ r. absurd (none_known (Truth false) r.0)) (first_is (Known table) v e),
        (
          λ v p e. variable_is (Known table) second 1 v i.is_second e,
          (λ v p e. variable_is (Known table) third 2 v i.is_third e, tt),
        ),
      ) in
      let still : (v : Value) → Stands total 0 v → v ≡ opened = λ v h. sym (stands_is opened v h) in
      let most = at_most around (refl, (refl, (refl, (refl, tt)))) t table starts closes in
      flows around (refl, (refl, (refl, (refl, tt)))) t table starts closes (
        λ v k. subst (λ z. Contains switches z) (known_is opened v k) (1, omega arith, refl),
        (λ v k. absurd (none_known v k), (λ v k. absurd (none_known v k), (λ v k. absurd (none_known v k), tt))),
      )
      total
      (state refl (unknown refl (λ w f. none_known w (most 1 w f))
      (unknown refl (λ w f. none_known w (most 2 w f))
      (unknown refl (λ w f. none_known w (most 3 w f)) flowing.none)))) (
        λ v p e. ⊎_elim
            (λ r. absurd (⊎_elim (λ h. apart false (stands_is (Truth false) (Truth true) h))
            (λ h. not_closed (Stands total) still h) r.0))
            (λ r. value_from around (is_numbered around (refl, (refl, (refl, (refl, tt))))) total 1
            (flow_of 1 truths (Truth false)) v refl (stands_value (Truth false) v r.1))
            (first_is (Stands total) v e),
        (
          λ v p e. value_from around (is_numbered around (refl, (refl, (refl, (refl, tt))))) total 2
              (flow_of 2 truths (Truth false)) v refl (variable_is (Stands total) second 1 v i.is_second e),
          (
            λ v p e. value_from around (is_numbered around (refl, (refl, (refl, (refl, tt))))) total 3
                (flow_of 3 truths (Truth false)) v refl (variable_is (Stands total) third 2 v i.is_third e),
            tt,
          ),
        ),
      )

module _ (test on opposite off first : Expr ℕ) (i : IsQuarrel test on opposite off first) (x y : Bool) where
  abbrev torn : Net ℕ
  torn = quarrel test on opposite off first

  abbrev before : List Value
  before = opened ∷ Truth x ∷ Truth y ∷ []

  open_switch : FactOf torn before 0 opened
  open_switch = given_fact torn (refl, (refl, (refl, tt))) before 0 (state_of 0 switches closed) opened refl refl refl

  passes : PassesConditions (FactOf torn before) ((test, false) ∷ [])
  passes = one_and (closed_yields (FactOf torn before) test opened i.is_test open_switch) facts.none

  is_true : FactOf torn before 1 (Truth true)
  is_true =
      added_fact torn (refl, (refl, (refl, tt))) before 0 (sets_where test false 1 on) 1
      (flow_of 1 truths (Truth false)) (Truth true) refl refl refl (in_truths true) passes
      (constant_yields (FactOf torn before) on (Truth true) i.is_on)

  second_true : FactOf torn before 2 (Truth true)
  second_true =
      added_fact torn (refl, (refl, (refl, tt))) before 3 (sets 2 first) 2 (flow_of 2 truths (Truth false))
      (Truth true) refl refl refl (in_truths true) facts.none
      (variable_yields (FactOf torn before) first 1 (Truth true) i.is_first is_true)

  is_false : FactOf torn before 1 (Truth false)
  is_false =
      added_fact torn (refl, (refl, (refl, tt))) before 1 (sets_where test false 1 opposite) 1
      (flow_of 1 truths (Truth false)) (Truth false) refl refl refl (in_truths false) passes
      (not_yields (FactOf torn before) opposite i.second true i.is_opposite
      (variable_yields (FactOf torn before) i.second 2 (Truth true) i.is_second second_true))

  abbrev is_state_or : Option (Variable ℕ) → Bool
  is_state_or None = true
  is_state_or (Some z) = z.is_state

  state_first : (k : ℕ) (z : Variable ℕ) → k < 1 → Stands torn.variables k z → HasTwo torn before z → ⊥
  state_first zero z l s h = let j = ap is_state_or s in false≢true (sym h.is_flow ∙ sym j)
  state_first (suc k) z l s h = absurd (omega (arith, l))

  pub two_values : Flows torn before (Fails (Two 1))
  two_values = two (record {
    item = flow_of 1 truths (Truth false);
    stands = refl;
    has =
        record {
          is_flow = refl;
          first = Truth true;
          second = Truth false;
          is_first = is_true;
          is_second = is_false;
          differ = λ e. apart true e;
        };
    before = state_first;
  })

-- what a way that sets one variable does
turn_gives : (P : ℕ → Value → Type 0) (guard e : Expr ℕ) (n x : ℕ) (v : Value) → Effects P (turns guard n e) x v
    → (n ≡ x) × Yields P (out-Expr ℕ e) v
turn_gives P guard e n x v (acts a o p d) = go o.place o.stands
  where
    go : (k : ℕ) → Stands (sets n e ∷ []) k a → (n ≡ a.target) × Yields P (out-Expr ℕ e) v
    go zero s =
        let i : sets n e ≡ a = cc in
        (ap (λ z. z.target) i, subst (λ z. Yields P (out-Expr ℕ z.value) v) (sym i) d)
    go (suc k) s = cc

turn_can : (P : ℕ → Value → Type 0) (guard e : Expr ℕ) (n m : ℕ) → IsPlainVariable guard m → Can P (turns guard n e)
    → P m (Truth true)
turn_can P guard e n m i (guard_holds d) = variable_is P guard m (Truth true) i d

module _ (first second off : Expr ℕ) (i : AreTurns first second off) where
  abbrev one_way : Bool → Way ℕ
  one_way must = jointly false (turns first 0 off) must (turns second 1 off)

  abbrev Before : ℕ → Value → Type 0
  Before = HasValue pair (Truth true ∷ Truth false ∷ [])

  abbrev After : ℕ → Value → Type 0
  After = HasValue pair (Truth false ∷ Truth false ∷ [])

  second_cannot : Can Before (turns second 1 off) → ⊥
  second_cannot c =
      apart false
      (stands_is (Truth false) (Truth true)
      (value_at pair (is_numbered pair (refl, (refl, tt))) (Truth true ∷ Truth false ∷ []) 1 (Truth true)
      (turn_can Before second off 1 1 i.is_second c)))

  gives : (x : ℕ) (v : Value) → Effects Before (one_way false) x v → (0 ≡ x) × (v ≡ Truth false)
  gives x v (by_part (by_may c e)) =
      let r = turn_gives Before first off 0 x v e in
      (r.0, constant_is Before off (Truth false) v i.is_off r.1)
  gives x v (by_part (by_later (by_may c e))) = absurd (second_cannot c)
  gives x v (by_part (by_later (by_later e))) = elim e [ ]

  set_off : Effects Before (one_way false) 0 (Truth false)
  set_off =
      by_part
      (by_may first_can (acts (sets 0 off) (record { place = 0; stands = refl }) facts.none
      (constant_yields Before off (Truth false) i.is_off)))
    where
      first_can : Can Before (turns first 0 off)
      first_can =
          guard_holds
          (variable_yields Before first 0 (Truth true) i.is_first
          (value_from pair (is_numbered pair (refl, (refl, tt))) (Truth true ∷ Truth false ∷ []) 0
          (state_of 0 truths (Truth true)) (Truth true) refl refl))

  pub may : Step pair (Truth true ∷ Truth false ∷ []) (one_way false) (Next (Truth false ∷ Truth false ∷ []))
  may = moves (Truth false ∷ Truth false ∷ [])
      (some_may refl (this (guard_holds (variable_yields Before first 0 (Truth true) i.is_first
      (value_from pair (is_numbered pair (refl, (refl, tt))) (Truth true ∷ Truth false ∷ []) 0
      (state_of 0 truths (Truth true)) (Truth true) refl refl)))))
      (record { has_not = λ k x s h. let a = gives x.key h.first h.is_first in let b = gives x.key h.second h.is_second in h.differ (a.1 ∙ sym b.1) })
      (record { has_not = λ k x s h. let a = gives x.key h.value h.received in h.outside (subst (λ z. Contains x.domain z) (sym a.1) (in_list (λ (x : Variable ℕ). Contains x.domain (Truth false)) pair.variables (in_truths false, (in_truths false, tt)) k x s)) })
      (changed set_off (kept (λ w e. let a = gives 1 w e in absurd (omega (arith, a.0))) steps.none))
      (flows pair (refl, (refl, tt)) (Truth false ∷ Truth false ∷ []) (Some (Truth false) ∷ Some (Truth false) ∷ [])
      (λ k v o. known_as (Truth false) v o, (λ k v o. known_as (Truth false) v o, tt)) tt (
        λ v k. in_truths_as false v (known_is (Truth false) v k),
        (λ v k. in_truths_as false v (known_is (Truth false) v k), tt),
      )
      (Truth false ∷ Truth false ∷ []) (state refl (state refl flowing.none)) tt)

  first_off : Can After (turns first 0 off) → ⊥
  first_off c =
      apart false
      (stands_is (Truth false) (Truth true)
      (value_at pair (is_numbered pair (refl, (refl, tt))) (Truth false ∷ Truth false ∷ []) 0 (Truth true)
      (turn_can After first off 0 0 i.is_first c)))

  second_off : Can After (turns second 1 off) → ⊥
  second_off c =
      apart false
      (stands_is (Truth false) (Truth true)
      (value_at pair (is_numbered pair (refl, (refl, tt))) (Truth false ∷ Truth false ∷ []) 1 (Truth true)
      (turn_can After second off 1 1 i.is_second c)))

  pub none_may : Step pair (Truth false ∷ Truth false ∷ []) (one_way false) (Refused NotEnabled)
  none_may = not_enabled neither
    where
      neither : Can After (one_way false) → ⊥
      neither (all_musts e m) = false≢true e
      neither (some_may e (this c)) = first_off c
      neither (some_may e (later (this c))) = second_off c
      neither (some_may e (later (later c))) = elim c [ ]

  pub must : Step pair (Truth true ∷ Truth false ∷ []) (one_way true) (Refused NotEnabled)
  must = not_enabled blocked
    where
      blocked : Can Before (one_way true) → ⊥
      blocked (all_musts e (m.may (m.must c r))) = second_cannot c
      blocked (some_may e c) = false≢true (sym e)
