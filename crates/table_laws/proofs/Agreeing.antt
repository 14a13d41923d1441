-- The table of a lawful static system agrees with its flows at each firable set.
use Rattle.std.proofs.Common.{◌≡◌, ◌↔◌, ℕ, Bool, true, false, List, Contains, refl, sym, ap, ◌∙◌, subst}
use Rattle.std.proofs.lemmas.Bool.{cases_eq}
use Rattle.ar_base.specs.Lists.{Stands}
use Rattle.ar_base.proofs.Standing.{stands_one, one_here}
use Rattle.domains.specs.declared.Value.{Value}
use Rattle.typed_expr.specs.Yields.{Yields}
use Rattle.typed_expr.proofs.Facts.{yields_more}
use Rattle.typed_expr.specs.Kinds.{HasKind}
use Rattle.typed_expr.specs.declared.expr.ValueKind.{ValueKind}
use Rattle.typed_expr.specs.declared.expr.Expr.{Expr, out-Expr}
use Rattle.ar_meaning.specs.Systems.{Variable, System}
use Rattle.ar_meaning.specs.Facts.{Allows, HasStateValue, HasValue}
use Rattle.ar_meaning.specs.FactsInside.{AreKeyed}
use Rattle.ar_meaning.specs.Found.{IsAnswer}
use Rattle.ar_meaning.proofs.Outcomes.{has_outcome}
use Rattle.ar_firing.specs.Static.{IsStatic}
use Rattle.ar_firing.specs.Cuts.{IsFirable}
use Rattle.ar_firing.specs.Forest.{ModeTree, IsForest}
use Rattle.ar_firing.specs.Operands.{HasFault, ShowsObserver, Agrees}
use Rattle.gts_core.specs.Lawful.{IsLawful}
use Rattle.eq_core.specs.Gates.{Table}
use Rattle.eq_core.specs.Values.{value_at}
use Rattle.eq_core.specs.ValuesInside.{IsTrueWhere}
use Rattle.eq_build.specs.Tells.{AreEntries}
use Rattle.table_laws.specs.Known.{IsSomeFlow, IsConflict, Totals}
use Rattle.table_laws.proofs.Faults.{conflict_faults, no_conflict_flows}
use Rattle.eq_build.specs.Steps.{first_reading}
use Rattle.eq_build.specs.Table.{IsTable}
use Rattle.table_laws.proofs.Growing.{modes_to_seen}
use Rattle.table_laws.proofs.RoundsHold.{held, held_is, to_held}
use Rattle.table_laws.proofs.ModesTell.{all_modes_tell}
use Rattle.table_laws.proofs.FirstReading.{first_tells, in_domain}
use Rattle.table_laws.proofs.BlocksInOrder.{blocks_of_flows, blocks_in_order}
use Rattle.table_laws.proofs.TableTells.{HasBegun, known_at, is_known_at, conflict_told, top_told}

module _ (sys : System ℕ) (dropped : List ℕ) (kinds : ℕ → ValueKind) (kind : ValueKind) (trees : List ModeTree)
    (observer : Expr ℕ) (wanted : Value) (table : Table) (lawful : IsLawful sys.net kinds)
    (static : IsStatic sys dropped) (forest : IsForest sys dropped trees)
    (observed : HasKind kinds (out-Expr ℕ observer) kind) (steps : IsTable sys.net trees observer wanted table) where
  key_is : (n : ℕ) (x : Variable ℕ) → Stands sys.net.variables n x → x.key ≡ n
  key_is n x s = let keys = lawful.numbered in keys.key n x s

  keyed : AreKeyed sys.net
  keyed = record { one = λ m n x y s t e. sym (key_is m x s) ∙ e ∙ key_is n y t }

  inits : (n : ℕ) (x : Variable ℕ) → Stands sys.net.variables n x → Contains x.domain x.value
  inits n x s = lawful.begins x (one_here sys.net.variables n x s)

  module _ (set : List ℕ) (t : List Value) (f : IsFirable sys dropped set t) where
    first_is : (n : ℕ)
        → AreEntries set steps.after_modes (first_reading trees steps.modes 0 sys.net.variables n)
        (HasStateValue sys.net t n)
    first_is n = first_tells sys dropped keyed lawful.numbered static inits set t f trees forest steps.after_modes
        (all_modes_tell set sys dropped keyed static t f trees steps.has_modes forest.sound).1 n

    abbrev first_held : ℕ → Value → Bool
    first_held = held set steps.seen.gates (first_reading trees steps.modes 0 sys.net.variables)

    given : (x : ℕ) (d : Value) → (first_held x d ≡ true) ↔ HasStateValue sys.net t x d
    given x d = held_is (modes_to_seen steps) (first_is x) d

    legal : (x : ℕ) (d : Value) → HasStateValue sys.net t x d → Allows sys.net x d
    legal x d k = record {
      place = k.place;
      variable = k.variable;
      stands = k.stands;
      is_key = k.is_key;
      has = in_domain sys dropped keyed lawful.numbered static inits set t f trees forest k.place k.variable k.stands
          k.is_state d k.value;
    }

    states : (x : ℕ) (d : Value) → HasStateValue sys.net t x d → IsSomeFlow sys.net x → ⊥
    states x d g m =
        let h = m.1 in
        let i : g.place ≡ h.place =
        sym (key_is g.place g.variable g.stands) ∙ g.is_key ∙ sym h.is_key ∙ key_is h.place h.variable h.stands in
        let j : g.variable ≡ h.variable =
        stands_one sys.net.variables h.place g.variable h.variable
        (subst (λ z. Stands sys.net.variables z g.variable) i g.stands) h.stands in
        let a = g.is_state in
        let b = h.is_flow in
        let c : h.variable.is_state ≡ true = ap (λ (z : Variable ℕ). z.is_state) (sym j) ∙ a in cc

    begun : HasBegun set t lawful steps
    begun = record {
      order = blocks_in_order sys.net keyed lawful.numbered lawful.targets steps.blocks steps.are_blocks;
      of_flows = blocks_of_flows sys.net keyed lawful.numbered lawful.targets steps.blocks steps.are_blocks;
      sound = record {
        each = λ x. to_held (modes_to_seen steps) (first_is x);
        allowed = λ x d e. legal x d ((given x d).0 e);
      };
      given = given;
      states = states;
    }

    abbrev known : ℕ → Value → Bool
    known = known_at sys.net trees observer wanted table steps kinds lawful set t begun

    conflict : IsTrueWhere set table.gates table.conflict (IsConflict sys.net known)
    conflict = subst (λ z. IsTrueWhere set z table.conflict (IsConflict sys.net known)) (sym steps.gates)
        (conflict_told sys.net trees observer wanted table steps kinds lawful set t begun)

    top : IsTrueWhere set table.gates table.top (Yields (Totals sys.net known) (out-Expr ℕ observer) wanted)
    top = subst (λ z. IsTrueWhere set z table.top (Yields (Totals sys.net known) (out-Expr ℕ observer) wanted))
        (sym steps.gates)
        (subst (λ z. IsTrueWhere set steps.seen.gates z (Yields (Totals sys.net known) (out-Expr ℕ observer) wanted))
        (sym steps.top) (top_told sys.net trees observer wanted table steps kinds lawful set t begun observed))

    -- where the conflict operand is true, the flows of the state are a fault
    fault : value_at table.gates table.conflict set ≡ true → HasFault sys.net t
    fault e =
        let o = has_outcome cases_eq sys.net t f.long in
        let k = is_known_at sys.net trees observer wanted table steps kinds lawful set t begun in
        let b = begun in
        conflict_faults sys.net keyed t steps.blocks known k b.of_flows o.0 o.1 (conflict.true_so e)

    -- where it is false, the state has flows, and the top operand says whether the observer has the wanted value
    shows : value_at table.gates table.conflict set ≡ false
        → ShowsObserver sys.net t observer wanted (value_at table.gates table.top set)
    shows e =
        let o = has_outcome cases_eq sys.net t f.long in
        let k = is_known_at sys.net trees observer wanted table steps kinds lawful set t begun in
        let b = begun in
        let r = no_conflict_flows sys.net keyed t steps.blocks known k b.of_flows o.0 o.1
        (λ c. let h = conflict.so_true c in cc) in
        record { values = r.0; flows = r.1; shows = says r.0 r.2 (value_at table.gates table.top set) refl }
      where
        says : (values : List Value)
            → ((x : ℕ) (v : Value) → HasValue sys.net values x v ↔ Totals sys.net known x v) → (b : Bool)
            → value_at table.gates table.top set ≡ b
            → IsAnswer b (Yields (HasValue sys.net values) (out-Expr ℕ observer) wanted)
        says values same true e =
            yields_more ℕ (Totals sys.net known) (HasValue sys.net values) (λ x v h. (same x v).1 h) (top.true_so e)
        says values same false e = λ y.
            let h =
            top.so_true (yields_more ℕ (HasValue sys.net values) (Totals sys.net known) (λ x v h. (same x v).0 h) y) in
            cc

  -- the table agrees with the system
  pub agrees : Agrees sys dropped observer wanted (value_at table.gates table.conflict)
      (value_at table.gates table.top)
  agrees = record { fault = λ set t f e. fault set t f e; total = λ set t f e. shows set t f e }
