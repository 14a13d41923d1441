-- The gate table of a job.
use Rattle.std.proofs.Common.{◌≡◌, ◌<◌, ◌≤◌, ℕ, List, Option, Some, Result, Ok, Err, length, slice_get, refl, sym, ◌∙◌, ap, subst, arith}
use Rattle.std.proofs.lemmas.List.{length-map}
use Rattle.ar_base.specs.Lists.{Stands}
use Rattle.domains.specs.declared.Value.{Value}
use Rattle.typed_expr.specs.declared.expr.Expr.{Expr}
use Rattle.ar_meaning.specs.Systems.{System}
use Rattle.ar_firing.specs.Forest.{ModeTree, IsForest}
use Rattle.eq_core.specs.Gates.{Table}
use Rattle.eq_core.specs.Views.{table_of, gate_of}
use Rattle.eq_core.specs.declared.joints.Equations.{Equations}
use Rattle.eq_build.specs.BuildsInside.{most_gates}
use Rattle.gts_core.specs.Sound.{IsSound}
use Rattle.gts_core.specs.View.{Views, net_of, numbered}
use Rattle.gts_core.specs.declared.system.GtsParts.{GtsParts}
use Rattle.gts_core.specs.declared.system.Observer.{Observer}
use Rattle.gts_flatten.specs.Elaborating.{Elaborated}
use Rattle.gts_flatten.specs.Flat.{IsFlat, naming_of_parts}
use Rattle.mode_trees.specs.Views.{trees_of, number_in}
use Rattle.mode_trees.specs.declared.forests.Forest.{Forest}
use Rattle.eq_build.specs.TableLaws.{HasTable as SomeTableOf}
use Rattle.eq_build.specs.Table.{IsTable}
use Rattle.tree_equations.specs.Gives.{AtObserver, NeedsTooMany}
use Rattle.tree_equations.specs.Gives as gives
use Rattle.tree_equations.specs.declared.fault.EqFault.{EqFault}
use Rattle.tree_equations.specs.declared.fault.EqFault.TheVariants as table
use Rattle.job_inputs.specs.declared.wanting.Wanted.{Wanted}
use Rattle.job_stages.specs.Passing.{stop_of_table, IsStageOf, HasForest, IsGateTable}
use Rattle.job_stages.specs.Stages.{Ready, Tabled, fits, exceeds, IsTableOf}
use Rattle.job_stages.specs.declared.stops.Stop.{Stop}
use Rattle.job_stages.specs.declared.stops.Stop.TheVariants.{Memory}
use Rattle.job_stages.specs.declared.tabling.GateTable.{GateTable}

-- The table

-- what an observer in range is asked
pub at_observer : (given : Option Observer) (o : Observer) (P : Expr ℕ → Type 0) → given ≡ Some o → AtObserver given P
    → P (numbered o.value)
at_observer given o P e h = subst (λ (z : Option Observer). AtObserver z P) e h

-- a table of the flat system is the source's
abbrev pub IsOfSource : Type 0
IsOfSource = (x : Elaborated) (p : GtsParts) (flat : System ℕ) → IsFlat x p → Views p flat
    → (dropped : List ℕ) (f : Forest) → IsForest flat dropped (trees_of (number_in p) f)
    → (n : ℕ) (o : Observer) → Stands p.observers.items n o → (wanted : Value) (t : Table)
    → IsTable (net_of p) (trees_of (number_in p) f) (numbered o.value) wanted t
    → IsTableOf x dropped (record { observer = n; value = wanted }) t

module _ (p : GtsParts) (w : Ready) (f : Forest) (wanted : Wanted) (of : IsFlat w.source p)
    (are : w.wanted ≡ Some wanted) (trees : HasForest p w f)
    (at : (o : Observer) × Stands p.observers.items wanted.observer o) (source : IsOfSource) where
  of_source : (t : Table)
      → IsTable (net_of p) (trees_of (number_in p) f) (numbered at.0.value) wanted.value t
      → IsTableOf w.source w.dropped wanted t
  of_source t h =
      source w.source p of.flat of of.views w.dropped f (trees.is_forest of.flat of.views) wanted.observer at.0 at.1
      wanted.value t h

  pub table_refused : ((n : ℕ) (o : Observer) → Stands p.observers.items n o → (ts : List ModeTree) (value : Value)
      → SomeTableOf (net_of p) ts (numbered o.value) value)
      → (r : Result GateTable Stop) (d : Stop) (e : EqFault) → r ≡ Err d → d ≡ stop_of_table e
      → ((let z : Result Equations EqFault = Err e in z ≡ Err table.Gates)
      → AtObserver (slice_get p.observers.items wanted.observer) (NeedsTooMany p f wanted.value))
      → IsStageOf (IsGateTable p f) (Tabled w) r
  table_refused some r d e i j h =
      subst (λ (z : Result GateTable Stop). IsStageOf (IsGateTable p f) (Tabled w) z) (sym (i ∙ ap Err j)) (go e h)
    where
      go : (e : EqFault) → ((let z : Result Equations EqFault = Err e in z ≡ Err table.Gates)
          → AtObserver (slice_get p.observers.items wanted.observer) (NeedsTooMany p f wanted.value))
          → IsStageOf {X = GateTable} (IsGateTable p f) (Tabled w) (Err (stop_of_table e))
      go table.Gates h =
          let t = some wanted.observer at.0 at.1 (trees_of (number_in p) f) wanted.value in
          let many = at_observer _ at.0 (NeedsTooMany p f wanted.value) at.1 (h refl) in
          exceeds are (of_source t.table t.is) (many t.table t.is)
      go table.Memory h = tt

  pub table_given : IsSound p → wanted.observer < length p.observers.items → (q : Equations)
      → AtObserver (slice_get p.observers.items wanted.observer) (gives.IsTableOfParts p f wanted.value (table_of q))
      → length q.gates.items ≤ most_gates → (made : GateTable) → made.equations ≡ q
      → made.events.items ≡ (naming_of_parts p).events
      → IsStageOf (IsGateTable p f) (Tabled w) (Ok made)
  table_given sound inside q h few made e names =
      let is = of_source (table_of q) (at_observer _ at.0 (gives.IsTableOfParts p f wanted.value (table_of q)) at.1 h) in
      let many = length-map q.gates.items gate_of in (
        w,
        fits are is (omega (arith, few, many)),
        record {
          sound = sound;
          wanted = wanted;
          are = are;
          inside = inside;
          is_table = subst (λ (z : Equations). IsTableOf w.source w.dropped wanted (table_of z)) (sym e) is;
          by_trees = subst (λ (z : Equations). AtObserver (slice_get p.observers.items wanted.observer)
              (gives.IsTableOfParts p f wanted.value (table_of z))) (sym e) h;
          events = names;
        },
      )

-- want of memory
pub memory_refused : (p : GtsParts) (f : Forest) (w : Ready) (r : Result GateTable Stop) (d : Stop) → r ≡ Err d
    → d ≡ Memory → IsStageOf (IsGateTable p f) (Tabled w) r
memory_refused p f w r d i j =
    subst (λ (z : Result GateTable Stop). IsStageOf (IsGateTable p f) (Tabled w) z) (sym (i ∙ ap Err j)) tt
