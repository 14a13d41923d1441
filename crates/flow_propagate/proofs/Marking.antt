-- The marks of a total valuation tell the facts.
use Rattle.std.proofs.Common.{◌≡◌, ℕ, ◌+◌, ◌<◌, ◌⊎◌, inl, inr, Bool, true, false, if◌then◌else◌, List, [], ◌∷◌, ◌++◌, length, Contains, slice_get, unwrap_or, Option, Some, None, refl, sym, ap, ◌∙◌, subst, arith, length-append}
use Rattle.ar_base.specs.Lists.{Stands, HasNo}
use Rattle.ar_base.proofs.Standing.{stands_one, stands_within, stands_some, stands_left, stands_next, at_most}
use Rattle.domains.specs.declared.Value.{Value}
use Rattle.domains.proofs.Members.{nothing-in, contains-one}
use Rattle.ar_meaning.specs.Facts.{FactOf, given}
use Rattle.ar_meaning.specs.Flows.{HasTwo}
use Rattle.ar_meaning.proofs.OneAnswer.{same_value}
use Rattle.ar_meaning.proofs.ByNumber.{given_from}
use Rattle.ar_meaning.proofs.StatesAlone.{Same_states}
use Rattle.gts_core.specs.View.{net_of, variable_of}
use Rattle.gts_core.specs.Sound.{IsSound}
use Rattle.gts_core.specs.Readings.{one_or_none}
use Rattle.gts_core.specs.declared.system.Variable.{Variable}
use Rattle.gts_core.specs.declared.system.GtsParts.{GtsParts}
use Rattle.gts_core.proofs.Viewing.{variable_there, are_numbered}
use Rattle.typed_expr.specs.Rows.{Rows, known_row_at}
use Rattle.flow_propagate.specs.Table.{TableHolds, AreFacts}
use Rattle.flow_propagate.specs.Totals.{Completed, completed_value, MarkKnownRows, has_some}
use Rattle.flow_propagate.specs.Determined.{TellsValue, TellFacts}
use Rattle.flow_propagate.proofs.Starting.{holds_within, one_there}
use Rattle.flow_propagate.proofs.Determining.{state_fact, states_turned, fact_same}

-- what is told stands there, and is marked
pub told_there : (values : List Value) (known : List Bool) (n : ℕ) (v : Value) → TellsValue values known n v
    → Stands values n v × Stands known n true
told_there values known n v = go (slice_get values n) (slice_get known n)
  where
    go : (u : Option Value) (b : Option Bool) → Contains (if unwrap_or b false then one_or_none u else []) v
        → (u ≡ Some v) × (b ≡ Some true)
    go u None h = absurd (nothing-in v h)
    go u (Some false) h = absurd (nothing-in v h)
    go None (Some true) h = absurd (nothing-in v h)
    go (Some w) (Some true) h = (ap Some (contains-one w v h), refl)

-- a value that is marked is told
pub told_from : (values : List Value) (known : List Bool) (n : ℕ) (v : Value) → Stands values n v → Stands known n true
    → TellsValue values known n v
told_from values known n v a b = go (slice_get values n) (slice_get known n) a b
  where
    go : (u : Option Value) (b : Option Bool) → u ≡ Some v → b ≡ Some true
        → Contains (if unwrap_or b false then one_or_none u else []) v
    go u None e f = cc
    go None (Some b) e f = cc
    go (Some w) (Some false) e f = cc
    go (Some w) (Some true) e f = let i : w ≡ v = cc in subst (λ (z : Value). Contains (w ∷ []) z) i (one_there w)

pub marks_start : (rows : Rows) → MarkKnownRows rows 0 []
marks_start rows = record { long = refl; mark = λ n h. absurd (omega arith) }

-- one mark more
pub marks_more : (rows : Rows) (i : ℕ) (b : Bool) (old new : List Bool) → MarkKnownRows rows i old
    → b ≡ has_some (known_row_at rows i) → new ≡ old ++ b ∷ [] → MarkKnownRows rows (i + 1) new
marks_more rows i b old new m is e =
    let P : List Bool → Type 0 = λ z. MarkKnownRows rows (i + 1) z in
    subst P (sym e) (record {
      long = (let l = length-append old (b ∷ []) in omega (arith, l, m.long));
      mark = λ n below. go n (at_most n i below);
    })
  where
    go : (n : ℕ) → (n < i) ⊎ (n ≡ i) → Stands (old ++ b ∷ []) n (has_some (known_row_at rows n))
    go n (inl l) = stands_left old (b ∷ []) n _ (m.mark n l)
    go n (inr j) =
        let at : Stands (old ++ b ∷ []) i b =
        subst (λ (z : ℕ). Stands (old ++ b ∷ []) z b) m.long (stands_next old b []) in
        let here : Stands (old ++ b ∷ []) i (has_some (known_row_at rows i)) =
        subst (λ (z : Bool). Stands (old ++ b ∷ []) i z) is at in
        subst (λ (z : ℕ). Stands (old ++ b ∷ []) z (has_some (known_row_at rows z))) (sym j) here

some_of : (row : List Value) (v : Value) → Contains row v → has_some row ≡ true
some_of [] v h = absurd (nothing-in v h)
some_of (r ∷ row) v h = refl

module _ (p : GtsParts) (sound : IsSound p) (t total : List Value) (rows : Rows) (marks : List Bool)
    (facts : AreFacts (net_of p) t rows) (long : length t ≡ length p.variables.items)
    (rows_long : length rows ≡ length p.variables.items)
    (completed : Completed p.variables.items t rows (length p.variables.items) total)
    (no_two : HasNo (net_of p).variables (HasTwo (net_of p) t)) (same : Same_states (net_of p).variables t total)
    (m : MarkKnownRows rows (length p.variables.items) marks) where
  -- a value that is marked is a fact
  marked : (n : ℕ) (x : Variable) (w v : Value) (b : Bool) (row : List Value) → x.is_state ≡ b → row ≡ known_row_at rows n
      → Stands p.variables.items n x → Stands total n v → v ≡ completed_value b w row x.value → has_some row ≡ true
      → FactOf (net_of p) total n v
  marked n x w v true row is at sx sv e h =
      given (given_from (net_of p) (are_numbered p) total n (variable_of n x) v (variable_there p n x sx) is sv)
  marked n x w v false [] is at sx sv e h = absurd (cc h)
  marked n x w v false (r ∷ row) is at sx sv e h =
      let f : FactOf (net_of p) t n r = facts.sound n r
      (subst (λ (z : List Value). Contains z r) at (0, omega arith, refl)) in
      subst (λ (z : Value). FactOf (net_of p) total n z) (sym e) (fact_same (net_of p) t total same n r f)

  -- a fact is the value
  valued : (n : ℕ) (x : Variable) (w v u : Value) (b : Bool) (row : List Value) → x.is_state ≡ b → row ≡ known_row_at rows n
      → Stands p.variables.items n x → Stands total n u → u ≡ completed_value b w row x.value → Contains row v
      → FactOf (net_of p) total n v → Stands total n v
  valued n x w v u true row is at sx su e c f = state_fact p sound total x sx is f
  valued n x w v u false [] is at sx su e c f = absurd (nothing-in v c)
  valued n x w v u false (r ∷ row) is at sx su e c f =
      let first : FactOf (net_of p) t n r =
      facts.sound n r (subst (λ (z : List Value). Contains z r) at (0, omega arith, refl)) in
      let mine : FactOf (net_of p) t n v = facts.sound n v (subst (λ (z : List Value). Contains z v) at c) in
      let one : r ≡ v = same_value r v (λ d. no_two.has_not n (variable_of n x) (variable_there p n x sx)
      (record { is_flow = is; first = r; second = v; is_first = first; is_second = mine; differ = d })) in
      subst (λ (z : Value). Stands total n z) (e ∙ one) su

  pub tell_facts : TellFacts (net_of p) total total marks
  tell_facts = record {
    sound = λ n v h.
        let k = told_there total marks n v h in
        let below : n < length p.variables.items = (let i = stands_within total n v k.0 in omega (arith, i, completed.long)) in
        let x = stands_some p.variables.items n below in
        let w = stands_some t n (omega (arith, below, long)) in
        let is = stands_one total n v _ k.0 (completed.value n x.0 w.0 below x.1 w.1) in
        let mark = stands_one marks n _ true (m.mark n below) k.1 in
        marked n x.0 w.0 v x.0.is_state (known_row_at rows n) refl refl x.1 k.0 is mark;
    complete = λ n v f.
        let h : TableHolds rows n v = facts.complete n v (fact_same (net_of p) total t (states_turned same) n v f) in
        let below : n < length p.variables.items = (let i = holds_within rows n v h in omega (arith, i, rows_long)) in
        let x = stands_some p.variables.items n below in
        let w = stands_some t n (omega (arith, below, long)) in
        let value = completed.value n x.0 w.0 below x.1 w.1 in
        told_from total marks n v (valued n x.0 w.0 v _ x.0.is_state (known_row_at rows n) refl refl x.1 value refl h f)
        (subst (λ (z : Bool). Stands marks n z) (some_of (known_row_at rows n) v h) (m.mark n below));
  }
