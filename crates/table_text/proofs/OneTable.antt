-- A static source has at most one gate table for an observer and a value.
use Rattle.std.proofs.Common.{◌≡◌, ℕ, List, subst}
use Rattle.ar_base.specs.Lists.{Along}
use Rattle.ar_base.proofs.Standing.{stands_one, along_on}
use Rattle.domains.specs.declared.Value.{Value}
use Rattle.typed_expr.specs.PairsInside.{turned_pairs}
use Rattle.typed_expr.specs.declared.expr.Expr.{Expr}
use Rattle.ar_meaning.specs.Systems.{System}
use Rattle.ar_meaning.specs.FlatOf.{IsNumber, IsFlatOf}
use Rattle.ar_meaning.specs.Image.{Assign_renames, Expr_renames}
use Rattle.ar_meaning.proofs.FlatSystems.{flat_back}
use Rattle.ar_meaning.proofs.ImageJoined.{along_joined, variable_joined, assign_joined, observer_joined}
use Rattle.ar_firing.specs.Forest.{ModeTree}
use Rattle.ar_firing.specs.Static.{IsKeyedStatic}
use Rattle.ar_firing.proofs.OneForest.{forest_same}
use Rattle.eq_core.specs.Gates.{Table}
use Rattle.eq_build.specs.Table.{IsTable}
use Rattle.eq_build.proofs.TableSame.{same_table}
use Rattle.table_text.specs.Texts.{IsTableFor}
use Rattle.table_text.proofs.TableThere.{Same, variables_same, table_there}

-- two flat systems of one system agree item by item
module _ {V : Type 0} (things : List V) (sys : System V) (f g : System ℕ) (a : IsFlatOf things sys f)
    (b : IsFlatOf things sys g) where
  through : (m : ℕ) (v : V) (n : ℕ) → turned_pairs (IsNumber things) m v → IsNumber things v n → Same m n
  through m v n p q = a.different.one m n v p q

  net_along : Along (Assign_renames Same) f.net.assertions g.net.assertions
  net_along =
      along_joined (assign_joined (turned_pairs (IsNumber things)) (IsNumber things) Same through)
      (flat_back things sys f a).net.assertions b.assertions

  variables_along : f.net.variables ≡ g.net.variables
  variables_along =
      variables_same (along_joined (variable_joined (turned_pairs (IsNumber things)) (IsNumber things) Same through)
      (flat_back things sys f a).net.variables b.variables)

  observers_along : Along (Expr_renames Same) f.observers g.observers
  observers_along =
      along_joined (observer_joined (turned_pairs (IsNumber things)) (IsNumber things) Same through)
      (flat_back things sys f a).observers b.observers

module _ {V : Type 0} (things : List V) (sys : System V) (dropped : List ℕ) (static : IsKeyedStatic sys dropped) where
  pub table_one : (n : ℕ) (wanted : Value) (one other : Table) → IsTableFor things sys dropped n wanted one
      → IsTableFor things sys dropped n wanted other → one ≡ other
  table_one n wanted one other a b =
      let vars = variables_along things sys a.flat b.flat a.is_flat b.is_flat in
      let along = net_along things sys a.flat b.flat a.is_flat b.is_flat in
      let o = along_on a.flat.observers b.flat.observers
      (observers_along things sys a.flat b.flat a.is_flat b.is_flat) n a.observed a.is_observed in
      let seen : o.0 ≡ b.observed = stands_one b.flat.observers n o.0 b.observed o.1 b.is_observed in
      let trees : a.trees ≡ b.trees = forest_same sys dropped static.keyed static.static a.is_forest b.is_forest in
      let there = table_there a.flat.net b.flat.net vars along a.trees a.observed o.0 o.2.renames wanted one
      a.is_table in
      let moved = subst (λ (z : Expr ℕ). IsTable b.flat.net a.trees z wanted one) seen there in
      same_table b.flat.net b.trees b.observed wanted one other
      (subst (λ (z : List ModeTree). IsTable b.flat.net z b.observed wanted one) trees moved) b.is_table
