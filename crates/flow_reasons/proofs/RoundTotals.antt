-- The reasons of a state and of its total valuation.
use Rattle.std.proofs.Common.{ℕ, zero, suc, List, inl, inr}
use Rattle.domains.specs.declared.Value.{Value}
use Rattle.typed_expr.proofs.Facts.{yields_more}
use Rattle.ar_meaning.specs.Systems.{Assign, Variable, Net}
use Rattle.ar_meaning.specs.Facts.{HasStateValue, Allows, given, FactOf}
use Rattle.ar_meaning.specs.Flows.{Completes, Flows, Total, all_hold}
use Rattle.ar_meaning.specs.Flows as flows
use Rattle.ar_meaning.proofs.Least.{least, closed, passes_more}
use Rattle.ar_meaning.proofs.StatesAlone.{Same_states, same_at, turned}
use Rattle.ar_meaning.proofs.StatesAlone as states
use Rattle.flow_reasons.specs.Rounds.{AddsFact, Round}
use Rattle.flow_reasons.specs.Reasons.{Reason, IsNamedFact, IsDerived, IsReason, derived, reset, AreReasonsFrom, none, state, flow}

-- a completed valuation has the values of the state variables
pub completed_states : {V : Type 0} {facts : V → Value → Type 0} {xs : List (Variable V)} {t u : List Value}
    → Completes facts xs t u → Same_states xs t u
completed_states flows.none = states.none
completed_states (flows.state s c) = states.both (completed_states c)
completed_states (flows.known s f c) = states.flow s (completed_states c)
completed_states (flows.unknown s f c) = states.flow s (completed_states c)

pub states_of : {V : Type 0} {net : Net V} {t total : List Value} → Flows net t (Total total)
    → Same_states net.variables t total
states_of (all_hold n m c b) = completed_states c

module _ {V : Type 0} (net : Net V) (t u : List Value) (same : Same_states net.variables t u) where
  given_same : (x : V) (v : Value) → HasStateValue net t x v → HasStateValue net u x v
  given_same x v h = record {
    place = h.place;
    variable = h.variable;
    stands = h.stands;
    is_key = h.is_key;
    is_state = h.is_state;
    value = same_at same h.place h.variable h.stands h.is_state v h.value;
  }

  adds_same : (P Q : V → Value → Type 0) → ((x : V) (v : Value) → P x v → Q x v) → (x : V) (v : Value) (a : Assign V)
      → AddsFact net P x v a → AddsFact net Q x v a
  adds_same P Q kept x v a h = record {
    is_target = h.is_target;
    passes = passes_more V P Q kept h.passes;
    yields = yields_more V P Q kept h.yields;
    allowed = h.allowed;
  }

  pub round_same : (k : ℕ) (x : V) (v : Value) → Round net t k x v → Round net u k x v
  round_same zero x v h = given_same x v h
  round_same (suc k) x v (inl h) = inl (round_same k x v h)
  round_same (suc k) x v (inr h) = inr (record {
    assign = h.assign;
    is_one = h.is_one;
    adds = adds_same (Round net t k) (Round net u k) (round_same k) x v h.assign h.adds;
  })

  pub fact_same : (x : V) (v : Value) → FactOf net t x v → FactOf net u x v
  fact_same = least net.assertions (Allows net) (HasStateValue net t) (FactOf net u) (λ x v h. given (given_same x v h))
      (λ a v m p y l. closed net.assertions (Allows net) (HasStateValue net u) a v m p y l)

module _ {V : Type 0} (net : Net V) (t u : List Value) (same : Same_states net.variables t u) where
  back : Same_states net.variables u t
  back = turned same

  named_same : (k : ℕ) (a : Assign V) (n : ℕ) → IsNamedFact net (Round net t k) a n
      → IsNamedFact net (Round net u k) a n
  named_same k a n h = record {
    variable = h.variable;
    stands = h.stands;
    names = h.names;
    value = h.value;
    has = round_same net t u same k h.variable.key h.value h.has;
  }

module _ {V : Type 0} (net : Net V) (t u : List Value) (same : Same_states net.variables t u) where
  derived_same : (x : Variable V) (r : Reason) → IsDerived net t x r → IsDerived net u x r
  derived_same x r d =
      let off = turned same in
      record {
        before = d.before;
        round = d.round;
        not_yet = λ h. d.not_yet (round_same net u t off d.before x.key r.value h);
        assertion = d.assertion;
        by = d.by;
        first = record {
          item = d.first.item;
          stands = d.first.stands;
          has = adds_same net t u same (Round net t d.before) (Round net u d.before) (round_same net t u same d.before)
              x.key r.value d.first.item d.first.has;
          before = λ k a l s h. d.first.before k a l s
              (adds_same net u t off (Round net u d.before) (Round net t d.before) (round_same net u t off d.before)
              x.key r.value a h);
        };
        rests_on = record {
          ascends = d.rests_on.ascends;
          sound = λ n o. named_same net t u same d.before d.first.item n (d.rests_on.sound n o);
          whole = λ n h. d.rests_on.whole n (named_same net u t off d.before d.first.item n h);
        };
      }

  reason_same : (x : Variable V) (r : Reason) → IsReason net t x r → IsReason net u x r
  reason_same x r (derived d) = derived (derived_same x r d)
  reason_same x r (reset d) = reset (record {
    no_fact = λ v f. d.no_fact v (fact_same net u t (turned same) x.key v f);
    value = d.value;
    round = d.round;
    by = d.by;
    rests_on = d.rests_on;
  })

  pub reasons_same : {n : ℕ} {xs : List (Variable V)} {rs : List Reason} → AreReasonsFrom net t n xs rs
      → AreReasonsFrom net u n xs rs
  reasons_same none = none
  reasons_same (state s d) = state s (reasons_same d)
  reasons_same (flow {x = x} {r = r} s i w d) = flow s i (reason_same x r w) (reasons_same d)
