-- The pairs of a variable and an assignment to it, by the plan.
use Rattle.std.proofs.Common.{◌≡◌, ℕ, ◌<◌, ◌≤◌, ◌⊎◌, inl, inr, List, length, get_or, sym, ap, ◌∙◌, subst, arith}
use Rattle.std.proofs.lemmas.Bool.{cases_eq}
use Rattle.std.specs.List.Sorted.{IsNonDecreasingBy}
use Rattle.ar_base.specs.Lists.{Stands, IsOneOf}
use Rattle.ar_base.proofs.Standing.{stands_one, stands_get, stands_within, stands_map, stands_map_back, one_here}
use Rattle.gts_core.specs.declared.system.Assign.{Assign}
use Rattle.gts_core.specs.declared.system.GtsParts.{GtsParts}
use Rattle.flow_propagate.specs.Plan.{IsPlan, Reader, plain_pair}
use Rattle.flow_propagate.specs.declared.plan.Plan.{Plan}
use Rattle.flow_changes.specs.Following.{HasPlacesTo}
use Rattle.flow_changes.specs.Gathering.{ArePlacesTo}

module _ (p : GtsParts) (plan : Plan) (is : IsPlan p plan) where
  -- the assignment of a pair
  giver : (r : Reader) → IsOneOf plan.givers.pairs.items r
      → (a : Assign) × Stands p.assigns.items r.1.n a × (a.target.n ≡ r.0.n)
  giver r o = is.givers.only r.0.n r.1.n
      (record { place = o.place; stands = stands_map plain_pair plan.givers.pairs.items o.place r o.stands })

  pub givers_within : (r : Reader) → IsOneOf plan.givers.pairs.items r → r.1.n < length plan.places.items
  givers_within r o = let g = giver r o in let h = stands_within p.assigns.items r.1.n g.0 g.1 in omega (arith, h, is.schedule.long)

  pub has_places : (members list : List ℕ) → ArePlacesTo plan.givers.pairs.items plan.places.items members list
      → HasPlacesTo p plan members list
  has_places members list are = record {
    within = λ q o. (let h = are.only q o in stands_within plan.order.items q h.pair.1.n (is.schedule.placed h.pair.1.n q h.stands));
    targets = λ q n a o sq sa.
        let h = are.only q o in
        let g = giver h.pair h.is_one in
        let e : h.pair.1.n ≡ n = stands_one plan.order.items q h.pair.1.n n (is.schedule.placed h.pair.1.n q h.stands)
        sq in
        let same : g.0 ≡ a = stands_one p.assigns.items n g.0 a (subst (λ (z : ℕ). Stands p.assigns.items z g.0) e g.1)
        sa in
        let t : h.pair.0.n ≡ a.target.n = sym g.2 ∙ ap (λ (z : Assign). z.target.n) same in
        subst (λ (z : ℕ). IsOneOf members z) t h.member;
    all = λ m q a sa o sq.
        let k = is.givers.all m a sa in
        let r = stands_map_back plain_pair plan.givers.pairs.items k.place (a.target.n, m) k.stands in
        let e : r.0.0.n ≡ a.target.n = ap (λ (z : ℕ × ℕ). z.0) r.2 in
        let i : r.0.1.n ≡ m = ap (λ (z : ℕ × ℕ). z.1) r.2 in
        are.all q (record {
          pair = r.0;
          is_one = one_here plan.givers.pairs.items k.place r.0 r.1;
          member = subst (λ (z : ℕ). IsOneOf members z) (sym e) o;
          stands =
              subst (λ (z : ℕ). Stands plan.places.items z q) (sym i) sq;
        });
  }
