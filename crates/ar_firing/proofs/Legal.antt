-- A legal order goes on as long as no flow fault is met, and meets none where the sets on its way have flows.
use Rattle.std.proofs.Common.{◌≡◌, ℕ, zero, suc, List, [], ◌∷◌, ◌++◌, map, refl, ap, subst}
use Rattle.ar_base.specs.Lists.{Stands}
use Rattle.domains.specs.declared.Value.{Value}
use Rattle.ar_meaning.specs.Systems.{System}
use Rattle.ar_meaning.specs.Facts.{HasValue}
use Rattle.ar_meaning.specs.FactsInside.{AreKeyed}
use Rattle.ar_meaning.specs.Ways.{Can}
use Rattle.ar_meaning.specs.Flows.{FlowFault, Flows, Fails}
use Rattle.ar_meaning.specs.Steps.{moves, flow}
use Rattle.ar_meaning.specs.Runs.{Label, first_values}
use Rattle.ar_firing.specs.Fragment.{Edge}
use Rattle.ar_firing.specs.Static.{IsStatic}
use Rattle.ar_firing.specs.Cuts.{Reaches, Conflicts, IsFirable, AreEvents}
use Rattle.ar_firing.specs.CutsInside.{IsLegalOrder, MovesTo}
use Rattle.ar_base.specs.Sets.{Within}
use Rattle.ar_firing.specs.Cuts as cuts
use Rattle.ar_firing.specs.Operands.{HasFlows}
use Rattle.ar_firing.proofs.Firing.{all_firable, next_edge, moved, none_firable}
use Rattle.ar_firing.proofs.EachHasOrder.{received, no_clash, no_leave}
use Rattle.ar_firing.proofs.InOrder.{can_go_on}
use Rattle.ar_firing.proofs.SameSets.{events_within}

module _ {V : Type 0} (sys : System V) (dropped : List ℕ) (keyed : AreKeyed sys.net)
    (static : IsStatic sys dropped) where
  -- the next label can fire
  pub record Goes_on (l : Label) (u : List Value) : Type 0 where
    pub number : ℕ
    pub from : Value
    pub to : Value
    pub edge : Edge sys dropped l number from to
    pub can : Can (HasValue sys.net u) edge.way

  pub goes_on : {set : List ℕ} {u : List Value} (front : List Label) (l : Label) (b : List Label)
      → IsLegalOrder sys dropped set (front ++ (l ∷ b)) → Reaches sys dropped b u → Goes_on l u
  goes_on front l b o r =
      let p = o.on_paths (at front) l (stands front) in
      let g = can_go_on sys dropped keyed static front l b o.is_firable o.events o.in_order p.0 p.1 p.2 p.3 p.4 r in
      record { number = p.0; from = g.0; to = g.1; edge = g.2; can = g.3 }
    where
      at : List Label → ℕ
      at [] = zero
      at (x ∷ front) = suc (at front)

      stands : (front : List Label) → Stands (front ++ (l ∷ b)) (at front) l
      stands [] = refl
      stands (x ∷ front) = stands front

  -- the new state of such a step, and what follows of it
  pub record Onward (l : Label) (b : List Label) : Type 0 where
    pub values : List Value
    pub is_firable : IsFirable sys dropped (map (λ k. k.event) (l ∷ b)) values
    pub fires : HasFlows sys.net values → (u : List Value) × Reaches sys dropped (l ∷ b) u
    pub fails : (f : FlowFault) → Flows sys.net values (Fails f) → Conflicts sys dropped (l ∷ b) f

  pub onward : {u : List Value} (l : Label) (b : List Label) → Reaches sys dropped b u → Goes_on l u → Onward l b
  onward l b r g =
      let w = g.edge.way in
      let o = g.edge.is_open in
      let h = all_firable sys dropped keyed static r in
      let e = next_edge sys dropped keyed static h l w o g.can in
      let new = received sys dropped keyed static h l w e in
      let calm = no_clash sys dropped keyed static h l w e in
      let inside = no_leave sys dropped keyed static h l w e in
      record {
        values = new.values;
        is_firable = moved sys dropped keyed static h l w e new.values new.receives;
        fires = λ f. (f.values, cuts.fire w r o (moves new.values g.can calm inside new.receives f.flows));
        fails = λ f k. cuts.fire w r o (flow new.values g.can calm inside new.receives k);
      }

  regrouped : (front : List Label) (l : Label) (b : List Label) → front ++ (l ∷ b) ≡ (front ++ (l ∷ [])) ++ b
  regrouped [] l b = refl
  regrouped (x ∷ front) l b = ap (λ z. x ∷ z) (regrouped front l b)

  -- where the firable sets of the events so far have flows, the labels so far fire without fault
  pub fires_all : {set : List ℕ} (front b : List Label) → IsLegalOrder sys dropped set (front ++ b)
      → ((part : List ℕ) (t : List Value) → IsFirable sys dropped part t → Within part (map (λ k. k.event) b)
      → HasFlows sys.net t)
      → (u : List Value) × Reaches sys dropped b u
  fires_all front [] o total =
      let f =
      total [] (first_values sys.net.variables) (none_firable sys dropped keyed) (record { each = λ e i. i }) in
      (f.values, cuts.start f.flows)
  fires_all {set = set} front (l ∷ b) o total =
      let r =
      fires_all (front ++ (l ∷ [])) b (subst (λ z. IsLegalOrder sys dropped set z) (regrouped front l b) o)
      (λ part t f w. total part t f (further part w)) in
      let n = onward l b r.1 (goes_on front l b o r.1) in
      n.fires (total (map (λ k. k.event) (l ∷ b)) n.values n.is_firable (record { each = λ e i. i }))
    where
      further : (part : List ℕ) → Within part (map (λ k. k.event) b) → Within part (map (λ k. k.event) (l ∷ b))
      further part w = record { each = λ e i. let k = w.each e i in record { place = suc k.place; stands = k.stands } }

  -- where the firable sets within a set have flows, its legal orders fire without fault
  pub order_fires : {set : List ℕ} (ls : List Label) → IsLegalOrder sys dropped set ls
      → ((part : List ℕ) (t : List Value) → IsFirable sys dropped part t → Within part set → HasFlows sys.net t)
      → (u : List Value) × Reaches sys dropped ls u
  order_fires {set = set} ls o total =
      fires_all [] ls o
      (λ part t f w. total part t f (record { each = λ e i. (events_within ls set o.events).each e (w.each e i) }))
