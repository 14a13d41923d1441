-- The valuations that flows give are total, and determine themselves.
use Rattle.std.proofs.Common.{◌≡◌, ◌+◌, ◌⊎◌, ℕ, zero, suc, true, false, List, [], ◌∷◌, length, refl, sym, ap, ◌∙◌, subst, inl, inr, arith}
use Rattle.ar_base.specs.Lists.{Stands}
use Rattle.ar_base.proofs.Standing.{stands_none, stands_one, stands_map_back}
use Rattle.domains.specs.Domains.{Holds}
use Rattle.domains.proofs.Domains.{held}
use Rattle.domains.specs.declared.Value.{Value}
use Rattle.ar_meaning.specs.Systems as s
use Rattle.ar_meaning.specs.Facts.{FactOf, HasStateValue, Allows, given, assigned}
use Rattle.ar_meaning.specs.Flows.{Completes, state, known, unknown, Flows, Total, all_hold}
use Rattle.ar_meaning.specs.Flows as flows
use Rattle.ar_meaning.proofs.ByNumber as number
use Rattle.ar_meaning.proofs.Least.{least, closed}
use Rattle.ar_meaning.proofs.StatesAlone.{Same_states, same_at, same_flows}
use Rattle.ar_meaning.proofs.StatesAlone as states
use Rattle.gts_core.specs.View.{assign_of, net_of, variable_of, variables_from}
use Rattle.gts_core.specs.Sound.{IsSound}
use Rattle.gts_core.specs.declared.system.Variable.{Variable}
use Rattle.gts_core.specs.declared.system.GtsParts.{GtsParts}
use Rattle.gts_core.proofs.Viewing.{variable_there, are_numbered}
use Rattle.gts_core.specs.Readings.{IsTotal}
use Rattle.flow_propagate.specs.Answers.{IsState}

-- a state variable's own value, a fact of a flow, or a reset
abbrev Made : (ℕ → Value → Type 0) → ℕ → Variable → List Value → ℕ → Value → Type 0
Made F m x vs n w = ((x.is_state ≡ true) × Stands vs n w) ⊎ (((x.is_state ≡ false) × F m w) ⊎ (w ≡ x.value))

completes_long : (F : ℕ → Value → Type 0) (k : ℕ) (xs : List Variable) (vs ws : List Value)
    → Completes F (variables_from k xs) vs ws → length ws ≡ length xs
completes_long F k [] vs ws flows.none = refl
completes_long F k (x ∷ xs) vs ws (state {vs = us} {ws = ts} i c) = ap suc (completes_long F (k + 1) xs us ts c)
completes_long F k (x ∷ xs) vs ws (known {vs = us} {ws = ts} i f c) = ap suc (completes_long F (k + 1) xs us ts c)
completes_long F k (x ∷ xs) vs ws (unknown {vs = us} {ws = ts} i n c) = ap suc (completes_long F (k + 1) xs us ts c)

completes_each : (F : ℕ → Value → Type 0) (k : ℕ) (xs : List Variable) (vs ws : List Value)
    → Completes F (variables_from k xs) vs ws
    → (n m : ℕ) (x : Variable) (w : Value) → m ≡ k + n → Stands xs n x → Stands ws n w → Made F m x vs n w
completes_each F k [] vs ws flows.none n m x w e s t = absurd (stands_none n x s)
completes_each F k (y ∷ xs) vs ws (state {v = v} i c) zero m x w e s t =
    let same : y ≡ x = cc in
    let P : Variable → Type 0 = λ z. z.is_state ≡ true in inl (subst P same i, t)
completes_each F k (y ∷ xs) vs ws (state {vs = us} {ws = ts} i c) (suc n) m x w e s t =
    completes_each F (k + 1) xs us ts c n m x w (omega (arith, e)) s t
completes_each F k (y ∷ xs) vs ws (known {w = u} i f c) zero m x w e s t =
    let same : y ≡ x = cc in
    let value : u ≡ w = cc in
    let number : k ≡ m = omega (arith, e) in
    let P : Variable → Type 0 = λ z. z.is_state ≡ false in
    let Q : ℕ → Type 0 = λ z. F z w in
    let R : Value → Type 0 = λ z. F k z in inr (inl (subst P same i, subst Q number (subst R value f)))
completes_each F k (y ∷ xs) vs ws (known {vs = us} {ws = ts} i f c) (suc n) m x w e s t =
    completes_each F (k + 1) xs us ts c n m x w (omega (arith, e)) s t
completes_each F k (y ∷ xs) vs ws (unknown i n c) zero m x w e s t =
    let same : y ≡ x = cc in
    let value : y.value ≡ w = cc in
    inr (inr (sym value ∙ ap (λ (z : Variable). z.value) same))
completes_each F k (y ∷ xs) vs ws (unknown {vs = us} {ws = ts} i h c) (suc n) m x w e s t =
    completes_each F (k + 1) xs us ts c n m x w (omega (arith, e)) s t

module _ (p : GtsParts) (sound : IsSound p) (t : List Value) where
  -- a fact of a flow is in its domain
  fact_held : {n : ℕ} {w : Value} (x : Variable) → Stands p.variables.items n x → x.is_state ≡ false
      → FactOf (net_of p) t n w → Holds x.domain w
  fact_held {n = n} {w = w} x st flow (given g) =
      let r = number.given_at (net_of p) (are_numbered p) t n (variable_of n x) w (variable_there p n x st) g in
      let e : x.is_state ≡ true = r.0 in absurd (cc (sym flow ∙ e))
  fact_held x st flow (assigned a {v = v} K one facts passes yields allows) =
      held x.domain v (sound.variables a.target x st).domain
      (number.allowed_at (net_of p) (are_numbered p) a.target (variable_of a.target x) v
      (variable_there p a.target x st) allows)

  -- a fact of a state variable is its value
  pub state_fact : {n : ℕ} {w : Value} (x : Variable) → Stands p.variables.items n x → x.is_state ≡ true
      → FactOf (net_of p) t n w → Stands t n w
  state_fact {n = n} {w = w} x st is (given g) =
      (number.given_at (net_of p) (are_numbered p) t n (variable_of n x) w (variable_there p n x st) g).1
  state_fact x st is (assigned a {v = v} K one facts passes yields allows) =
      let r = stands_map_back assign_of p.assigns.items one.place a one.stands in
      let typed = sound.assertions r.0 (record { place = one.place; stands = r.1 }) in
      let at : Stands p.variables.items a.target typed.variable =
      subst (λ (z : ℕ). Stands p.variables.items z typed.variable) (ap (λ (z : s.Assign ℕ). z.target) r.2)
      typed.stands in
      let same : typed.variable ≡ x = stands_one p.variables.items a.target typed.variable x at st in
      let e : false ≡ true = sym typed.is ∙ ap (λ (z : Variable). z.is_state) same ∙ is in
      absurd (cc e)

  made_held : (n : ℕ) (x : Variable) (w : Value) → IsState p t → Stands p.variables.items n x
      → Made (FactOf (net_of p) t) n x t n w → Holds x.domain w
  made_held n x w is st (inl h) = is.in_domain n x w st h.0 h.1
  made_held n x w is st (inr (inl h)) = fact_held x st h.0 h.1
  made_held n x w is st (inr (inr e)) = subst (λ (z : Value). Holds x.domain z) (sym e) (sound.variables n x st).value

  -- a state that is completed is total
  pub completes_total : (total : List Value) → IsState p t
      → Completes (FactOf (net_of p) t) (net_of p).variables t total → IsTotal p total
  completes_total total is c = record {
    long = completes_long (FactOf (net_of p) t) 0 p.variables.items t total c;
    in_domain = λ n x w s h. made_held n x w is s
        (completes_each (FactOf (net_of p) t) 0 p.variables.items t total c n n x w (omega arith) s h);
  }

  pub flows_total : (total : List Value) → IsState p t → Flows (net_of p) t (Total total) → IsTotal p total
  flows_total total is (all_hold no_two none c held_all) = completes_total total is c

-- a completed valuation has the values of the state variables
pub completed_states : {V : Type 0} {facts : V → Value → Type 0} {xs : List (s.Variable V)} {t u : List Value}
    → Completes facts xs t u → Same_states xs t u
completed_states flows.none = states.none
completed_states (state i c) = states.both (completed_states c)
completed_states (known i f c) = states.flow i (completed_states c)
completed_states (unknown i n c) = states.flow i (completed_states c)

pub states_turned : {V : Type 0} {xs : List (s.Variable V)} {t u : List Value} → Same_states xs t u → Same_states xs u t
states_turned states.none = states.none
states_turned (states.both d) = states.both (states_turned d)
states_turned (states.flow i d) = states.flow i (states_turned d)

-- the facts follow from the values of the state variables
pub fact_same : {V : Type 0} (net : s.Net V) (t u : List Value) → Same_states net.variables t u → (x : V) (v : Value)
    → FactOf net t x v → FactOf net u x v
fact_same net t u d = least net.assertions (Allows net) (HasStateValue net t) (FactOf net u)
    (λ x v h. given (record {
      place = h.place;
      variable = h.variable;
      stands = h.stands;
      is_key = h.is_key;
      is_state = h.is_state;
      value = same_at d h.place h.variable h.stands h.is_state v h.value;
    }))
    (λ a v m q y l. closed net.assertions (Allows net) (HasStateValue net u) a v m q y l)

-- a total valuation that a state determines determines itself
pub flows_itself : {V : Type 0} (net : s.Net V) (t total : List Value) → Flows net t (Total total)
    → Flows net total (Total total)
flows_itself net t total (all_hold n m c b) = same_flows net (completed_states c) (all_hold n m c b)
