-- The searches for faults find what they look for.
use Rattle.std.proofs.Common.{◌≡◌, ℕ, ◌<◌, ◌≤◌, Bool, true, false, List, length, Contains, Some, None, sym, ap, ◌∙◌, subst, arith}
use Rattle.ar_base.specs.Lists.{Stands, IsOneOf, IsFirst, HasNo}
use Rattle.ar_base.proofs.Standing.{stands_one, stands_map, stands_map_back, stands_within}
use Rattle.domains.proofs.Domains.{held, listed}
use Rattle.domains.specs.declared.Value.{Value}
use Rattle.domains.specs.declared.Domain.{Domain}
use Rattle.typed_expr.proofs.Facts.{yields_more}
use Rattle.typed_expr.specs.Yields.{Yields}
use Rattle.typed_expr.specs.declared.expr.Expr.{out-Expr}
use Rattle.ar_meaning.specs.Systems as s
use Rattle.ar_meaning.specs.Facts.{FactOf, PassesConditions}
use Rattle.ar_meaning.specs.Flows.{HasTwo, IsOutside}
use Rattle.ar_meaning.specs.Found.{IsAnswer}
use Rattle.ar_meaning.proofs.Least.{passes_more}
use Rattle.gts_core.specs.View.{assign_of, net_of, variable_of}
use Rattle.gts_core.specs.Sound.{IsSound}
use Rattle.gts_core.proofs.Viewing.{variable_there, variable_back}
use Rattle.gts_core.specs.declared.system.Variable.{Variable}
use Rattle.gts_core.specs.declared.system.Assign.{Assign}
use Rattle.gts_core.specs.declared.system.GtsParts.{GtsParts}
use Rattle.typed_expr.specs.Rows.{Rows, known_row_at}
use Rattle.flow_propagate.specs.Table.{TableHolds, AreFacts}
use Rattle.flow_propagate.specs.Rows.{IsTwo}
use Rattle.flow_propagate.specs.Searches.{LeavesADomain, LeavesTargetDomain, IsLeastTarget}

module _ (p : GtsParts) (t : List Value) (rows : Rows) (facts : AreFacts (net_of p) t rows) where
  two_there : (n : ℕ) (x : Variable) → IsTwo x.is_state (known_row_at rows n) → HasTwo (net_of p) t (variable_of n x)
  two_there n x h = record {
    is_flow = h.0;
    first = h.1.first;
    second = h.1.second;
    is_first = facts.sound n h.1.first h.1.has_first;
    is_second = facts.sound n h.1.second h.1.has_second;
    differ = h.1.differ;
  }

  two_back : (n : ℕ) (x : Variable) → HasTwo (net_of p) t (variable_of n x) → IsTwo x.is_state (known_row_at rows n)
  two_back n x h = (
    h.is_flow,
    record {
      first = h.first;
      second = h.second;
      has_first = facts.complete n h.first h.is_first;
      has_second = facts.complete n h.second h.is_second;
      differ = h.differ;
    },
  )

  two_before : (n : ℕ) → ((k : ℕ) (x : Variable) → k < n → Stands p.variables.items k x
      → IsTwo x.is_state (known_row_at rows k) → ⊥)
      → (k : ℕ) (y : s.Variable ℕ) → k < n → Stands (net_of p).variables k y → HasTwo (net_of p) t y → ⊥
  two_before n before k y l st h =
      let r = variable_back p k y st in
      before k r.0 l r.1 (two_back k r.0 (subst (λ (z : s.Variable ℕ). HasTwo (net_of p) t z) (sym r.2) h))

  pub two_found : (n : ℕ) (x : Variable) → Stands p.variables.items n x → IsTwo x.is_state (known_row_at rows n)
      → ((k : ℕ) (x : Variable) → k < n → Stands p.variables.items k x → IsTwo x.is_state (known_row_at rows k) → ⊥)
      → IsFirst (net_of p).variables (HasTwo (net_of p) t) n
  two_found n x st h before = record {
    item = variable_of n x;
    stands = variable_there p n x st;
    has = two_there n x h;
    before = two_before n before;
  }

  pub two_none : (n : ℕ) → length p.variables.items ≤ n
      → ((k : ℕ) (x : Variable) → k < n → Stands p.variables.items k x → IsTwo x.is_state (known_row_at rows k) → ⊥)
      → HasNo (net_of p).variables (HasTwo (net_of p) t)
  two_none n h before = record {
    has_not = λ k y st two.
        let r = variable_back p k y st in
        let below = stands_within p.variables.items k r.0 r.1 in
        two_before n before k y (omega (arith, below)) st two;
  }

-- an answer about the domain of the target
pub leaves_as : (p : GtsParts) (rows : Rows) (a : Assign) (d : Domain) (b : Bool) (x : Variable)
    → Stands p.variables.items a.target.n x → d ≡ x.domain → IsAnswer b (LeavesADomain rows d a)
    → IsAnswer b (LeavesTargetDomain p rows a)
leaves_as p rows a d true x st e h =
    record { variable = x; stands = st; leaves = subst (λ (z : Domain). LeavesADomain rows z a) e h }
leaves_as p rows a d false x st e h = λ k.
    let same : k.variable ≡ x = stands_one p.variables.items a.target.n k.variable x k.stands st in
    h (subst (λ (z : Domain). LeavesADomain rows z a) (ap (λ (z : Variable). z.domain) same ∙ sym e) k.leaves)

module _ (p : GtsParts) (sound : IsSound p) (t : List Value) (rows : Rows) (facts : AreFacts (net_of p) t rows) where
  -- an outside flow of the system is the target of an assignment that leaves its domain
  outside_back : (n : ℕ) (y : s.Variable ℕ) → Stands (net_of p).variables n y → IsOutside (net_of p) t y
      → (k : ℕ) × (a : Assign) × Stands p.assigns.items k a × LeavesTargetDomain p rows a × (a.target.n ≡ n)
  outside_back n y st h =
      let i = stands_map_back assign_of p.assigns.items h.is_one.place h.assign h.is_one.stands in
      let v = variable_back p n y st in
      let key : y.key ≡ n = sym (ap (λ (z : s.Variable ℕ). z.key) v.2) in
      let target : i.0.target.n ≡ n = ap (λ (z : s.Assign ℕ). z.target) i.2 ∙ h.is_target ∙ key in
      let one : IsOneOf p.assigns.items i.0 = record { place = h.is_one.place; stands = i.1 } in (
        h.is_one.place,
        i.0,
        i.1,
        record {
          variable = v.0;
          stands = subst (λ (z : ℕ). Stands p.variables.items z v.0) (sym target) v.1;
          leaves = record {
            passes = subst (λ (z : s.Assign ℕ). PassesConditions (TableHolds rows) z.conditions) (sym i.2)
                (passes_more ℕ (FactOf (net_of p) t) (TableHolds rows) facts.complete h.passes);
            value = h.value;
            yields = subst (λ (z : s.Assign ℕ). Yields (TableHolds rows) (out-Expr ℕ z.value) h.value) (sym i.2)
                (yields_more ℕ (FactOf (net_of p) t) (TableHolds rows) facts.complete h.yields);
            outside = λ c. h.outside (subst (λ (z : s.Variable ℕ). Contains z.domain h.value) v.2
                (listed v.0.domain h.value c));
          };
        },
        target,
      )

  outside_there : (a : Assign) (n : ℕ) → IsOneOf p.assigns.items a → (l : LeavesTargetDomain p rows a) → a.target.n ≡ n
      → IsOutside (net_of p) t (variable_of n l.variable)
  outside_there a n one l e =
      let r = sound.assertions a one in
      let same : r.variable ≡ l.variable = stands_one p.variables.items a.target.n r.variable l.variable r.stands l.stands in record {
        is_flow = sym (ap (λ (z : Variable). z.is_state) same) ∙ r.is;
        assign = assign_of a;
        value = l.leaves.value;
        is_one = record { place = one.place; stands = stands_map assign_of p.assigns.items one.place a one.stands };
        is_target = e;
        passes = passes_more ℕ (TableHolds rows) (FactOf (net_of p) t) facts.sound l.leaves.passes;
        yields = yields_more ℕ (TableHolds rows) (FactOf (net_of p) t) facts.sound l.leaves.yields;
        outside = λ c. l.leaves.outside (held l.variable.domain l.leaves.value
            (sound.variables a.target.n l.variable l.stands).domain c);
      }

  pub outside_found : (n : ℕ) → IsLeastTarget p.assigns.items (length p.assigns.items) (LeavesTargetDomain p rows) (Some n)
      → IsFirst (net_of p).variables (IsOutside (net_of p) t) n
  outside_found n l =
      let w = l.0 in
      let one : IsOneOf p.assigns.items w.1 = record { place = w.0; stands = w.2 } in record {
        item = variable_of n w.3.variable;
        stands = variable_there p n w.3.variable
            (subst (λ (z : ℕ). Stands p.variables.items z w.3.variable) w.4 w.3.stands);
        has = outside_there w.1 n one w.3 w.4;
        before = λ k y below st h.
            let b = outside_back k y st h in
            let low = l.1 b.0 b.1 (stands_within p.assigns.items b.0 b.1 b.2) b.2 b.3 in omega (arith, low, b.4);
      }

  pub outside_none : IsLeastTarget p.assigns.items (length p.assigns.items) (LeavesTargetDomain p rows) None
      → HasNo (net_of p).variables (IsOutside (net_of p) t)
  outside_none l = record {
    has_not = λ k y st h.
        let b = outside_back k y st h in l b.0 b.1 (stands_within p.assigns.items b.0 b.1 b.2) b.2 b.3;
  }
