-- From the steps to what is promised of the table.
use Rattle.std.proofs.Common.{◌≡◌, ℕ, Option, Some, None, Result, Ok, Err, IfErr, slice_get, sym, subst}
use Rattle.std.specs.Result.{IsErrAnd}
use Rattle.ar_base.specs.Lists.{Stands}
use Rattle.domains.specs.declared.Value.{Value}
use Rattle.typed_expr.specs.declared.expr.Expr.{Expr}
use Rattle.eq_core.specs.Gates.{Table}
use Rattle.eq_build.specs.Views.{StopsBuilding}
use Rattle.eq_build.specs.declared.entries.BuildFault.{BuildFault}
use Rattle.eq_build.proofs.Stopping.{stops_up}
use Rattle.gts_core.specs.View.{net_of, numbered}
use Rattle.gts_core.specs.declared.system.Observer.{Observer}
use Rattle.gts_core.specs.declared.system.GtsParts.{GtsParts}
use Rattle.mode_trees.specs.Views.{number_in}
use Rattle.mode_trees.specs.declared.forests.Forest.{Forest}
use Rattle.eq_build.specs.Table.{IsTable}
use Rattle.tree_equations.specs.Answers.{plain, trees_in}
use Rattle.tree_equations.specs.Gives.{AtObserver, IsTableOfParts, NeedsTooMany}
use Rattle.tree_equations.proofs.AnyWays.{table_any}
use Rattle.tree_equations.proofs.Conflicting.{Needs}

module _ (p q : GtsParts) (same : p ≡ q) (forest : Forest) (wanted : Value) (n : ℕ) where
  at_each : (P : Expr ℕ → Type 0) → ((e : Expr ℕ) → P e) → (o : Option Observer) → AtObserver o P
  at_each P f None = tt
  at_each P f (Some o) = f (numbered o.value)

  -- what all expressions need
  pub all_need : ((e : Expr ℕ) → Needs (net_of p) (trees_in forest.trees.items) e wanted)
      → AtObserver (slice_get q.observers.items n) (NeedsTooMany q forest wanted)
  all_need f =
      subst (λ (z : GtsParts). AtObserver (slice_get z.observers.items n) (NeedsTooMany z forest wanted)) same
      (at_each (NeedsTooMany p forest wanted)
      (λ e table w. f e table (table_any (number_in p) plain (net_of p) forest.trees.items e wanted table w))
      (slice_get p.observers.items n))

  module _ (o : Observer) (st : Stands p.observers.items n o) where
    -- what the observer's expression needs
    pub one_needs : Needs (net_of p) (trees_in forest.trees.items) (numbered o.value) wanted
        → AtObserver (slice_get q.observers.items n) (NeedsTooMany q forest wanted)
    one_needs f =
        subst (λ (z : GtsParts). AtObserver (slice_get z.observers.items n) (NeedsTooMany z forest wanted)) same
        (subst (λ (z : Option Observer). AtObserver z (NeedsTooMany p forest wanted)) (sym st)
        (λ table w. f table (table_any (number_in p) plain (net_of p) forest.trees.items (numbered o.value) wanted table
        w)))

    -- the table of the observer's expression
    pub one_table : (table : Table) → IsTable (net_of p) (trees_in forest.trees.items) (numbered o.value) wanted table
        → AtObserver (slice_get q.observers.items n) (IsTableOfParts q forest wanted table)
    one_table table w =
        subst (λ (z : GtsParts). AtObserver (slice_get z.observers.items n) (IsTableOfParts z forest wanted table)) same
        (subst (λ (z : Option Observer). AtObserver z (IsTableOfParts p forest wanted table)) (sym st)
        (table_any plain (number_in p) (net_of p) forest.trees.items (numbered o.value) wanted table w))

-- a fault that is passed on
pub err_on : {A : Type 0} (N M : Type 0) (r : Result A BuildFault) (f : BuildFault) → (N → M) → IsErrAnd r (λ z. z ≡ f)
    → StopsBuilding f N → IfErr r (λ fault. StopsBuilding fault M)
err_on N M (Ok a) f up w s = tt
err_on N M (Err e) f up w s = subst (λ z. StopsBuilding z M) (sym w) (stops_up f up s)
