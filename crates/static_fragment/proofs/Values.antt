-- Flows and observers with too many possible values.
use Rattle.std.proofs.Common.{◌≡◌, ◌+◌, ℕ, List, None, sym, ◌∙◌, ap, subst, arith}
use Rattle.ar_base.specs.Lists.{Stands}
use Rattle.ar_base.proofs.Standing.{stands_map, stands_map_back, one_here}
use Rattle.typed_expr.specs.Possible.{IsWide}
use Rattle.typed_expr.specs.declared.expr.Expr.{Expr, out-Expr}
use Rattle.ar_meaning.specs.Systems as s
use Rattle.ar_meaning.specs.Systems.{System, Net}
use Rattle.ar_meaning.specs.Facts.{Allows}
use Rattle.ar_firing.specs.Rules.{AssignIsWide, KeepsS7, BreaksS7, ObserverBreaksS7}
use Rattle.gts_core.specs.View.{numbered, assign_of, variable_of, Views}
use Rattle.gts_core.specs.Sound.{IsSound}
use Rattle.gts_core.specs.declared.system.Assign.{Assign}
use Rattle.gts_core.specs.declared.system.Observer.{Observer}
use Rattle.gts_core.specs.declared.system.GtsParts.{GtsParts}
use Rattle.mode_search.specs.Wide.{IsWideFlow, IsWideObserver, IsFirstWide}
use Rattle.static_fragment.proofs.Labels.{system_variable, parts_variable}

module _ (p : GtsParts) (system : System ℕ) (views : Views p system) where
  -- assignments of the parts and of the system
  assign_there : (k : ℕ) (a : Assign) → Stands p.assigns.items k a → Stands system.net.assertions k (assign_of a)
  assign_there k a h = subst (λ (z : Net ℕ). Stands z.assertions k (assign_of a)) (sym views.net)
      (stands_map assign_of p.assigns.items k a h)

  assign_back : (k : ℕ) (a : s.Assign ℕ) → Stands system.net.assertions k a
      → (b : Assign) × Stands p.assigns.items k b × (assign_of b ≡ a)
  assign_back k a h = stands_map_back assign_of p.assigns.items k a
      (subst (λ (z : Net ℕ). Stands z.assertions k a) views.net h)

  observer_there : (k : ℕ) (o : Observer) → Stands p.observers.items k o → Stands system.observers k (numbered o.value)
  observer_there k o h = subst (λ (z : List (Expr ℕ)). Stands z k (numbered o.value)) (sym views.observers)
      (stands_map (λ (z : Observer). numbered z.value) p.observers.items k o h)

  observer_back : (k : ℕ) (e : Expr ℕ) → Stands system.observers k e
      → (o : Observer) × Stands p.observers.items k o × (numbered o.value ≡ e)
  observer_back k e h = stands_map_back (λ (z : Observer). numbered z.value) p.observers.items k e
      (subst (λ (z : List (Expr ℕ)). Stands z k e) views.observers h)

  pub flow_breaks : IsSound p → (count n : ℕ) → IsWideFlow p count n → BreaksS7 system n
  flow_breaks sound count n h =
      let t = sound.assertions h.assign (one_here p.assigns.items h.place h.assign h.stands) in
      let st = subst (λ (z : ℕ). Stands p.variables.items z t.variable) h.target t.stands in
      record {
        variable = variable_of n t.variable;
        stands = system_variable p system views n t.variable st;
        assign = assign_of h.assign;
        is_one = one_here system.net.assertions h.place (assign_of h.assign) (assign_there h.place h.assign h.stands);
        is_target = h.target;
        wide = subst (λ (z : Net ℕ). AssignIsWide z (assign_of h.assign)) (sym views.net) h.wide;
      }

  -- a wide assignment of the system is one of the parts
  wide_back : (k : ℕ) (a : s.Assign ℕ) → Stands system.net.assertions k a → AssignIsWide system.net a
      → IsWideFlow p (k + 1) a.target
  wide_back k a st w =
      let r = assign_back k a st in
      record {
        place = k;
        below = omega arith;
        assign = r.0;
        stands = r.1;
        target = ap (λ (z : s.Assign ℕ). z.target) r.2;
        wide = subst (λ (z : Net ℕ). AssignIsWide z (assign_of r.0)) views.net
            (subst (λ (z : s.Assign ℕ). AssignIsWide system.net z) (sym r.2) w);
      }

  pub breaks_flow : (n : ℕ) → BreaksS7 system n → (count : ℕ) × IsWideFlow p count n
  breaks_flow n b =
      let r = parts_variable p system views n b.variable b.stands in
      let is : b.assign.target ≡ n = b.is_target ∙ sym (ap (λ (z : s.Variable ℕ). z.key) r.2) in (
        b.is_one.place + 1,
        subst (λ (z : ℕ). IsWideFlow p (b.is_one.place + 1) z) is
            (wide_back b.is_one.place b.assign b.is_one.stands b.wide),
      )

  pub observer_breaks : (n : ℕ) → IsWideObserver p n → ObserverBreaksS7 system n
  observer_breaks n h = record {
    observer = numbered h.observer.value;
    stands = observer_there n h.observer h.stands;
    wide = subst (λ (z : Net ℕ). IsWide (Allows z) 64 (out-Expr ℕ (numbered h.observer.value))) (sym views.net) h.wide;
  }

  observer_wide : (n : ℕ) (e : Expr ℕ) → Stands system.observers n e → IsWide (Allows system.net) 64 (out-Expr ℕ e)
      → IsWideObserver p n
  observer_wide n e st w =
      let r = observer_back n e st in
      record {
        observer = r.0;
        stands = r.1;
        wide = subst (λ (z : Net ℕ). IsWide (Allows z) 64 (out-Expr ℕ (numbered r.0.value))) views.net
            (subst (λ (z : Expr ℕ). IsWide (Allows system.net) 64 (out-Expr ℕ z)) (sym r.2) w);
      }

  pub breaks_observer : (n : ℕ) → ObserverBreaksS7 system n → IsWideObserver p n
  breaks_observer n b = observer_wide n b.observer b.stands b.wide

  pub none_wide_keeps : IsFirstWide p None → KeepsS7 system
  none_wide_keeps none = record {
    assignments = λ k a st w. none.0 (k + 1) a.target (wide_back k a st w);
    observers = λ k e st w. none.1 k (observer_wide k e st w);
  }
