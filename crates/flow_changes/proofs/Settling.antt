-- Facts that are found where a change of the state reaches, and values that are total there, make what the new state
-- determines.
use Rattle.std.proofs.Common.{◌≡◌, ℕ, zero, suc, ◌+◌, ◌⊎◌, inl, inr, Bool, true, false, List, [], ◌∷◌, length, Contains, slice_get, refl, sym, ap, ◌∙◌, subst, arith}
use Rattle.ar_base.specs.Lists.{Stands, IsOneOf, HasNo}
use Rattle.ar_base.specs.Numbers.{VarId}
use Rattle.ar_base.proofs.Standing.{stands_one, stands_within, stands_map_back}
use Rattle.ar_base.proofs.Sets.{member_told}
use Rattle.domains.proofs.Domains.{listed}
use Rattle.domains.specs.declared.Value.{Value}
use Rattle.typed_expr.specs.Yields.{Yields}
use Rattle.typed_expr.specs.declared.expr.Expr.{out-Expr}
use Rattle.typed_expr.proofs.Facts.{yields_more, yields_named}
use Rattle.ar_meaning.specs.Systems as s
use Rattle.ar_meaning.specs.Facts.{PassesConditions, Allows, HasStateValue, HasValue, FactOf, given}
use Rattle.ar_meaning.specs.Flows.{HasTwo, IsOutside, IsBrokenAssign, Completes, Flows, Total}
use Rattle.ar_meaning.specs.Flows as flows
use Rattle.ar_meaning.specs.Dependence.{Names}
use Rattle.ar_meaning.proofs.Dependence.{passes_named}
use Rattle.ar_meaning.proofs.Least.{least, closed, passes_more}
use Rattle.ar_meaning.proofs.Completing.{Stays, as_state, as_known, as_reset, stays_at}
use Rattle.ar_meaning.proofs.StatesAlone.{states_same, same_flows}
use Rattle.ar_meaning.proofs.ByNumber as number
use Rattle.gts_core.specs.View.{net_of, assign_of, variable_of, variables_from}
use Rattle.gts_core.specs.Sound.{IsSound}
use Rattle.gts_core.specs.Readings.{IsTotal}
use Rattle.gts_core.specs.declared.system.Variable.{Variable}
use Rattle.gts_core.specs.declared.system.Assign.{Assign}
use Rattle.gts_core.specs.declared.system.GtsParts.{GtsParts}
use Rattle.gts_core.proofs.Viewing.{variable_there, variable_back, are_numbered, variables_long}
use Rattle.flow_propagate.specs.NewValues.{written, AreNewValues, IsRenewed}
use Rattle.flow_propagate.proofs.Written.{written_long}
use Rattle.flow_changes.specs.Cone.{IsCone, Knows, HasAll}
use Rattle.flow_changes.proofs.Kept.{facts_stay, no_outside, no_broken}
use Rattle.flow_changes.proofs.Written.{written_not, written_at}

-- a state variable's own value, a fact of a flow, or its reset where it has none
abbrev pub Fills : (ℕ → Value → Type 0) → ℕ → Variable → Value → Value → Type 0
Fills F m x v w = ((x.is_state ≡ true) × (v ≡ w))
    ⊎ (((x.is_state ≡ false) × F m w) ⊎ ((x.is_state ≡ false) × ((z : Value) → F m z → ⊥) × (w ≡ x.value)))

one_filled : (F : ℕ → Value → Type 0) (k : ℕ) (x : Variable) (xs : List Variable) (v w : Value) (vs ws : List Value)
    → Fills F k x v w → Completes F (variables_from (k + 1) xs) vs ws
    → Completes F (variable_of k x ∷ variables_from (k + 1) xs) (v ∷ vs) (w ∷ ws)
one_filled F k x xs v w vs ws (inl h) c =
    subst (λ (z : Value). Completes F (variable_of k x ∷ variables_from (k + 1) xs) (v ∷ vs) (z ∷ ws)) h.1
    (flows.state h.0 c)
one_filled F k x xs v w vs ws (inr (inl h)) c = flows.known h.0 h.1 c
one_filled F k x xs v w vs ws (inr (inr h)) c =
    subst (λ (z : Value). Completes F (variable_of k x ∷ variables_from (k + 1) xs) (v ∷ vs) (z ∷ ws)) (sym h.2)
    (flows.unknown h.0 h.1 c)

-- values each of which is right complete the state
completes_by : (F : ℕ → Value → Type 0) (k : ℕ) (xs : List Variable) (vs ws : List Value) → length vs ≡ length xs
    → length ws ≡ length xs
    → ((n m : ℕ) (x : Variable) (v w : Value) → m ≡ k + n → Stands xs n x → Stands vs n v → Stands ws n w
    → Fills F m x v w) → Completes F (variables_from k xs) vs ws
completes_by F k [] [] [] l m h = flows.none
completes_by F k [] (v ∷ vs) ws l m h = absurd (omega (arith, l))
completes_by F k [] [] (w ∷ ws) l m h = absurd (omega (arith, m))
completes_by F k (x ∷ xs) [] ws l m h = absurd (omega (arith, l))
completes_by F k (x ∷ xs) (v ∷ vs) [] l m h = absurd (omega (arith, m))
completes_by F k (x ∷ xs) (v ∷ vs) (w ∷ ws) l m h =
    one_filled F k x xs v w vs ws (h 0 k x v w (omega arith) refl refl refl)
    (completes_by F (k + 1) xs vs ws (omega (arith, l)) (omega (arith, m))
    (λ n j y a b e sy sa sb. h (suc n) j y a b (omega (arith, e)) sy sa sb))

-- exactly the facts of the state are known
pub record AreKnown (p : GtsParts) (t values : List Value) (known : List Bool) : Type 0 where
  pub sound : (n : ℕ) (v : Value) → Knows values known n v → FactOf (net_of p) t n v
  pub complete : (n : ℕ) (v : Value) → FactOf (net_of p) t n v → Knows values known n v

-- where a change reaches the new values and marks are right, and elsewhere the old ones stay
pub record IsSettledTo (p : GtsParts) (old : List Value) (known : List Bool) (new : List (VarId × Value))
    (members : List ℕ) (values : List Value) (marks : List Bool) : Type 0 where
  pub total : IsTotal p values
  pub kept_values : (n : ℕ) → (IsOneOf members n → ⊥) → slice_get values n ≡ slice_get old n
  pub kept_marks : (n : ℕ) → (IsOneOf members n → ⊥) → slice_get marks n ≡ slice_get known n
  pub renewed : (r : VarId × Value) → IsOneOf new r → Knows values marks r.0.n r.1
  pub sound : (n : ℕ) (v : Value) → Knows values marks n v → FactOf (net_of p) (written old new) n v
  pub has_all : (m : ℕ) (a : Assign) → Stands p.assigns.items m a → IsOneOf members a.target.n
      → HasAll (Knows values marks) (assign_of a)
  pub reset : (n : ℕ) (x : Variable) (w : Value) → IsOneOf members n → Stands p.variables.items n x
      → (Stands marks n true → ⊥) → Stands values n w → w ≡ x.value
  pub holds : (m : ℕ) (a : Assign) → Stands p.assigns.items m a → IsOneOf members a.target.n
      → IsBrokenAssign (net_of p) values (assign_of a) → ⊥

-- no flow has two facts or one outside its domain, and no assignment is broken
record HasNoFault (net : s.Net ℕ) (t total : List Value) : Type 0 where
  two : HasNo net.variables (HasTwo net t)
  outside : HasNo net.variables (IsOutside net t)
  completes : Completes (FactOf net t) net.variables t total
  broken : HasNo net.assertions (IsBrokenAssign net total)

no_fault : (net : s.Net ℕ) (t total : List Value) → Flows net t (Total total) → HasNoFault net t total
no_fault net t total (flows.all_hold a b c d) = record { two = a; outside = b; completes = c; broken = d }

module _ (p : GtsParts) (sound : IsSound p) (old : List Value) (known : List Bool) (total : IsTotal p old)
    (flows_old : Flows (net_of p) old (Total old)) (facts : AreKnown p old old known)
    (new : List (VarId × Value)) (good : AreNewValues p new) (members : List ℕ) (cone : IsCone p new members) where
  abbrev Out : ℕ → Type 0
  Out n = IsOneOf members n → ⊥

  abbrev net : s.Net ℕ
  net = net_of p

  abbrev u : List Value
  u = written old new

  was : HasNoFault net old old
  was = no_fault net old old flows_old

  not_renewed : (n : ℕ) → Out n → IsRenewed new n → ⊥
  not_renewed n o r = o (cone.starts n r)

  state_out : (n : ℕ) → Out n → slice_get u n ≡ slice_get old n
  state_out n o = written_not old new n (not_renewed n o)

  within : (a : s.Assign ℕ) (x : ℕ) → IsOneOf net.assertions a → Names a x → Out a.target → Out x
  within a x m named o inside =
      let r = stands_map_back assign_of p.assigns.items m.place a m.stands in
      o (subst (λ (z : s.Assign ℕ). IsOneOf members z.target) r.2
      (cone.closed x m.place r.0 inside r.1 (subst (λ (z : s.Assign ℕ). Names z x) (sym r.2) named)))

  given_there : (x : ℕ) (v : Value) → Out x → HasStateValue net old x v → HasStateValue net u x v
  given_there x v o g =
      let e : g.place ≡ x = sym ((are_numbered p).key g.place g.variable g.stands) ∙ g.is_key in
      record {
        place = g.place;
        variable = g.variable;
        stands = g.stands;
        is_key = g.is_key;
        is_state = g.is_state;
        value = state_out g.place (subst Out (sym e) o) ∙ g.value;
      }

  given_back : (x : ℕ) (v : Value) → Out x → HasStateValue net u x v → HasStateValue net old x v
  given_back x v o g =
      let e : g.place ≡ x = sym ((are_numbered p).key g.place g.variable g.stands) ∙ g.is_key in
      record {
        place = g.place;
        variable = g.variable;
        stands = g.stands;
        is_key = g.is_key;
        is_state = g.is_state;
        value = sym (state_out g.place (subst Out (sym e) o)) ∙ g.value;
      }

  pub facts_there : (x : ℕ) (v : Value) → Out x → FactOf net old x v → FactOf net u x v
  facts_there = facts_stay net old u Out given_there within

  facts_back : (x : ℕ) (v : Value) → Out x → FactOf net u x v → FactOf net old x v
  facts_back = facts_stay net u old Out given_back within

  module _ (values : List Value) (marks : List Bool) (at : IsSettledTo p old known new members values marks) where
    knows_there : (n : ℕ) (v : Value) → Out n → Knows old known n v → Knows values marks n v
    knows_there n v o k = record { marked = at.kept_marks n o ∙ k.marked; value = at.kept_values n o ∙ k.value }

    knows_back : (n : ℕ) (v : Value) → Out n → Knows values marks n v → Knows old known n v
    knows_back n v o k = record {
      marked = sym (at.kept_marks n o) ∙ k.marked;
      value = sym (at.kept_values n o)
          ∙ k.value;
    }

    -- the value of a state variable
    state_value : (n : ℕ) (x : Variable) (v : Value) → Stands p.variables.items n x → x.is_state ≡ true → Stands u n v
        → Knows values marks n v
    state_value n x v sx is su = elim (member_told members n) [
      | inl o ↦ (elim (cone.only n o) [
        | inl r ↦ renewed r
        | inr f ↦ (let same : x ≡ f.variable = stands_one p.variables.items n x f.variable sx f.stands in let e : x.is_state ≡ f.variable.is_state = ap (λ (z : Variable). z.is_state) same in absurd (cc (sym is ∙ e ∙ f.is_flow)))
      ])
      | inr o ↦ (
          let r = number.given_from net (are_numbered p) old n (variable_of n x) v (variable_there p n x sx) is
          (sym (state_out n o) ∙ su) in
          knows_there n v o (facts.complete n v (given r)))
    ]
      where
        renewed : IsRenewed new n → Knows values marks n v
        renewed r =
            let k = at.renewed r.pair r.is_one in
            let below = stands_within p.variables.items n x sx in
            let w : Stands u r.pair.0.n r.pair.1 =
            written_at old new r.pair good.ascend r.is_one (omega (arith, below, total.long, r.is)) in
            let here : Stands u n r.pair.1 = subst (λ (z : ℕ). Stands u z r.pair.1) r.is w in
            let e : r.pair.1 ≡ v = stands_one u n r.pair.1 v here su in
            subst (λ (z : ℕ). Knows values marks z v) r.is (subst (λ (z : Value). Knows values marks r.pair.0.n z) e k)

    given_known : (x : ℕ) (v : Value) → HasStateValue net u x v → Knows values marks x v
    given_known x v g =
        let r = variable_back p g.place g.variable g.stands in
        let e : g.place ≡ x = sym ((are_numbered p).key g.place g.variable g.stands) ∙ g.is_key in
        let is : r.0.is_state ≡ true = ap (λ (z : s.Variable ℕ). z.is_state) r.2 ∙ g.is_state in
        subst (λ (z : ℕ). Knows values marks z v) e (state_value g.place r.0 v r.1 is g.value)

    closed_known : (a : s.Assign ℕ) (v : Value) → IsOneOf net.assertions a
        → PassesConditions (Knows values marks) a.conditions
        → Yields (Knows values marks) (out-Expr ℕ a.value) v → Allows net a.target v → Knows values marks a.target v
    closed_known a v m pass y al = elim (member_told members a.target) [
      | inl o ↦ (
          let r = stands_map_back assign_of p.assigns.items m.place a m.stands in
          let all : HasAll (Knows values marks) a =
          subst (λ (z : s.Assign ℕ). HasAll (Knows values marks) z) r.2
          (at.has_all m.place r.0 r.1 (subst (λ (z : s.Assign ℕ). IsOneOf members z.target) (sym r.2) o)) in
          all v pass y)
      | inr o ↦ knows_there a.target v o
          (facts.complete a.target v (closed net.assertions (Allows net) (HasStateValue net old) a v m
          (passes_named (λ x w n h. facts.sound x w (knows_back x w (within a x m (inr n) o) h)) pass)
          (yields_named (λ x w n h. facts.sound x w (knows_back x w (within a x m (inl n) o) h)) y) al))
    ]

    fact_known : (n : ℕ) (v : Value) → FactOf net u n v → Knows values marks n v
    fact_known = least net.assertions (Allows net) (HasStateValue net u) (Knows values marks) given_known closed_known

    pub settled_known : AreKnown p u values marks
    settled_known = record { sound = at.sound; complete = fact_known }

    no_two : HasNo net.variables (HasTwo net u)
    no_two = record {
      has_not = λ k x st h.
          let a = fact_known x.key h.first h.is_first in
          let b = fact_known x.key h.second h.is_second in
          h.differ (stands_one values x.key h.first h.second a.value b.value);
    }

    none_outside : HasNo net.variables (IsOutside net u)
    none_outside = record { has_not = λ k x st h. by k x st h (member_told members x.key) }
      where
        inside : (k : ℕ) (x : s.Variable ℕ) → Stands net.variables k x → IsOutside net u x → IsOneOf members x.key → ⊥
        inside k x st h o =
            let r = stands_map_back assign_of p.assigns.items h.is_one.place h.assign h.is_one.stands in
            let target : IsOneOf members r.0.target.n =
            subst (λ (z : ℕ). IsOneOf members z) (sym (ap (λ (z : s.Assign ℕ). z.target) r.2 ∙ h.is_target))
            o in
            let all : HasAll (Knows values marks) h.assign =
            subst (λ (z : s.Assign ℕ). HasAll (Knows values marks) z) r.2
            (at.has_all h.is_one.place r.0 r.1 target) in
            let knows : Knows values marks h.assign.target h.value =
            all h.value (passes_more ℕ (FactOf net u) (Knows values marks) fact_known h.passes)
            (yields_more ℕ (FactOf net u) (Knows values marks) fact_known h.yields) in
            let y = variable_back p k x st in
            let key : x.key ≡ k = (are_numbered p).key k x st in
            let value : Stands values k h.value =
            subst (λ (z : ℕ). Stands values z h.value) (h.is_target ∙ key) knows.value in
            let has : Contains (variable_of k y.0).domain h.value =
            listed y.0.domain h.value (at.total.in_domain k y.0 h.value y.1 value) in
            h.outside (subst (λ (z : s.Variable ℕ). Contains z.domain h.value) y.2 has)

        by : (k : ℕ) (x : s.Variable ℕ) → Stands net.variables k x → IsOutside net u x
            → IsOneOf members x.key ⊎ Out x.key → ⊥
        by k x st h (inl o) = inside k x st h o
        by k x st h (inr o) = was.outside.has_not k x st (no_outside net old u Out facts_back within x o h)

    -- the value at each place is right
    fills : (n : ℕ) (x : Variable) (v w : Value) → Stands p.variables.items n x → Stands u n v → Stands values n w
        → Fills (FactOf net u) n x v w
    fills n x v w sx su sw = kind x.is_state refl
      where
        as_fact : x.is_state ≡ false → Knows values marks n w → Fills (FactOf net u) n x v w
        as_fact is k = inr (inl (is, at.sound n w k))

        lacks : x.is_state ≡ false → (Stands marks n true → ⊥) → w ≡ x.value → Fills (FactOf net u) n x v w
        lacks is not e = inr (inr (is, (λ z f. not (fact_known n z f).marked), e))

        stayed : x.is_state ≡ false → Out n → (Stands marks n true → ⊥)
            → Stays (FactOf net old) old old n (variable_of n x) → w ≡ x.value
        stayed is o not (as_state i z a b) = absurd (cc (sym is ∙ i))
        stayed is o not (as_known i z f a) = absurd (not (knows_there n z o (facts.complete n z f)).marked)
        stayed is o not (as_reset i f a) = stands_one values n w x.value sw (at.kept_values n o ∙ a)

        unmarked : x.is_state ≡ false → (Stands marks n true → ⊥) → IsOneOf members n ⊎ Out n → w ≡ x.value
        unmarked is not (inl o) = at.reset n x w o sx not sw
        unmarked is not (inr o) = stayed is o not (stays_at was.completes n (variable_of n x) (variable_there p n x sx))

        flow : x.is_state ≡ false → (Stands marks n true) ⊎ (Stands marks n true → ⊥) → Fills (FactOf net u) n x v w
        flow is (inl k) = as_fact is (record { marked = k; value = sw })
        flow is (inr not) = lacks is not (unmarked is not (member_told members n))

        kind : (b : Bool) → x.is_state ≡ b → Fills (FactOf net u) n x v w
        kind true is = inl (is, stands_one values n v w (state_value n x v sx is su).value sw)
        kind false is = flow is (marked_or_not marks n)
          where
            marked_or_not : (bs : List Bool) (k : ℕ) → (Stands bs k true) ⊎ (Stands bs k true → ⊥)
            marked_or_not [] k = inr (λ e. cc)
            marked_or_not (true ∷ bs) zero = inl refl
            marked_or_not (false ∷ bs) zero = inr (λ e. cc)
            marked_or_not (b ∷ bs) (suc k) = marked_or_not bs k

    completes : Completes (FactOf net u) net.variables u values
    completes = completes_by (FactOf net u) 0 p.variables.items u values (written_long old new ∙ total.long)
        at.total.long
        (λ n m x v w e sx su sw. subst (λ (z : ℕ). Fills (FactOf net u) z x v w) (let i : n ≡ m = omega (arith, e) in i) (fills n x v w sx su sw))

    value_there : (x : ℕ) (v : Value) → Out x → HasValue net old x v → HasValue net values x v
    value_there x v o h =
        let e : h.place ≡ x = sym ((are_numbered p).key h.place h.variable h.stands) ∙ h.is_key in
        record {
          place = h.place;
          variable = h.variable;
          stands = h.stands;
          is_key = h.is_key;
          value = at.kept_values h.place (subst Out (sym e) o) ∙ h.value;
        }

    value_back : (x : ℕ) (v : Value) → Out x → HasValue net values x v → HasValue net old x v
    value_back x v o h =
        let e : h.place ≡ x = sym ((are_numbered p).key h.place h.variable h.stands) ∙ h.is_key in
        record {
          place = h.place;
          variable = h.variable;
          stands = h.stands;
          is_key = h.is_key;
          value = sym (at.kept_values h.place (subst Out (sym e) o)) ∙ h.value;
        }

    none_broken : HasNo net.assertions (IsBrokenAssign net values)
    none_broken = record { has_not = λ k a st h. by k a st h (member_told members a.target) }
      where
        by : (k : ℕ) (a : s.Assign ℕ) → Stands net.assertions k a → IsBrokenAssign net values a
            → IsOneOf members a.target ⊎ Out a.target → ⊥
        by k a st h (inl o) =
            let r = stands_map_back assign_of p.assigns.items k a st in
            at.holds k r.0 r.1 (subst (λ (z : s.Assign ℕ). IsOneOf members z.target) (sym r.2) o)
            (subst (λ (z : s.Assign ℕ). IsBrokenAssign net values z) (sym r.2) h)
        by k a st h (inr o) = was.broken.has_not k a st
            (no_broken net old values Out value_there value_back within a (record { place = k; stands = st }) o h)

    pub settled_flows : Flows net u (Total values)
    settled_flows = flows.all_hold no_two none_outside completes none_broken

-- the total valuation that a state determines has the state's values, its facts and its flows
module _ (p : GtsParts) (t total : List Value) (long : length t ≡ length p.variables.items)
    (long_total : length total ≡ length p.variables.items) (h : Flows (net_of p) t (Total total)) where
  of_state : (n : ℕ) (x : s.Variable ℕ) → Stays (FactOf (net_of p) t) t total n x → x.is_state ≡ true
      → (v : Value) × Stands t n v × Stands total n v
  of_state n x (as_state i v a b) is = (v, a, b)
  of_state n x (as_known i v f a) is = absurd (cc (sym is ∙ i))
  of_state n x (as_reset i f a) is = absurd (cc (sym is ∙ i))

  both : (n : ℕ) (x : s.Variable ℕ) → Stands (net_of p).variables n x → x.is_state ≡ true
      → (v : Value) × Stands t n v × Stands total n v
  both n x st is = of_state n x (stays_at (no_fault (net_of p) t total h).completes n x st) is

  pub own_flows : Flows (net_of p) total (Total total)
  own_flows = same_flows (net_of p) (states_same (net_of p).variables t total
      (long ∙ sym (variables_long 0 p.variables.items)) (long_total ∙ sym (variables_long 0 p.variables.items)) both) h

  abbrev All : ℕ → Type 0
  All n = Unit {0}

  given_total : (x : ℕ) (v : Value) → All x → HasStateValue (net_of p) t x v → HasStateValue (net_of p) total x v
  given_total x v o g =
      let b = both g.place g.variable g.stands g.is_state in
      record {
        place = g.place;
        variable = g.variable;
        stands = g.stands;
        is_key = g.is_key;
        is_state = g.is_state;
        value = subst (λ (z : Value). Stands total g.place z) (stands_one t g.place b.0 v b.1 g.value) b.2;
      }

  given_own : (x : ℕ) (v : Value) → All x → HasStateValue (net_of p) total x v → HasStateValue (net_of p) t x v
  given_own x v o g =
      let b = both g.place g.variable g.stands g.is_state in
      record {
        place = g.place;
        variable = g.variable;
        stands = g.stands;
        is_key = g.is_key;
        is_state = g.is_state;
        value = subst (λ (z : Value). Stands t g.place z) (stands_one total g.place b.0 v b.2 g.value) b.1;
      }

  pub own_facts : (values : List Value) (known : List Bool) → AreKnown p t values known → AreKnown p total values known
  own_facts values known k = record {
    sound = λ n v h. facts_stay (net_of p) t total All given_total (λ a x m d o. tt) n v tt (k.sound n v h);
    complete = λ n v h. k.complete n v (facts_stay (net_of p) total t All given_own (λ a x m d o. tt) n v tt h);
  }
