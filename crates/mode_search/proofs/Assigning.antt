-- Assignments with too many possible values, and the least of their targets.
use Rattle.std.proofs.Common.{◌≡◌, ◌+◌, ◌⊎◌, inl, inr, ℕ, Bool, true, false, cond, nat_lt, length, Option, Some, None, refl, sym, ap, ◌∙◌, subst, arith}
use Rattle.std.proofs.lemmas.Bool.{ltb-false}
use Rattle.ar_base.specs.Lists.{Stands, IsOneOf}
use Rattle.ar_base.proofs.Standing.{stands_one, stands_within, stands_map, stands_map_back, at_most}
use Rattle.ar_base.proofs.Comparing.{low}
use Rattle.typed_expr.specs.Possible.{IsWide}
use Rattle.typed_expr.specs.declared.expr.Expr.{Expr, out-Expr}
use Rattle.ar_meaning.specs.Systems as s
use Rattle.ar_meaning.specs.Facts.{Allows}
use Rattle.ar_meaning.specs.Found.{IsAnswer}
use Rattle.ar_firing.specs.Rules.{AssignIsWide, by_value, by_condition}
use Rattle.gts_core.specs.View.{net_of, numbered, condition_of, assign_of}
use Rattle.gts_core.specs.declared.system.Assign.{Assign}
use Rattle.gts_core.specs.declared.system.GtsParts.{GtsParts}
use Rattle.mode_search.specs.Events.{IsLeastNumber}
use Rattle.mode_search.specs.Wide.{IsSomeWide, IsWideFlow, IsWideObserver, IsFirstWide}
use Rattle.ar_base.specs.Least.{least_with}
use Rattle.mode_search.specs.declared.searches.Wide.TheVariants as wide

parts_of : (p : GtsParts) (a : s.Assign ℕ) → AssignIsWide (net_of p) a
    → IsWide (Allows (net_of p)) 64 (out-Expr ℕ a.value)
    ⊎ ((c : Expr ℕ × Bool) × IsOneOf a.conditions c × IsWide (Allows (net_of p)) 64 (out-Expr ℕ c.0))
parts_of p a (by_value h) = inl h
parts_of p a (by_condition {e = e} {b = b} o h) = inr ((e, b), o, h)

pub assign_wide : (p : GtsParts) (a : Assign) (b : Bool)
    → (IsWide (Allows (net_of p)) 64 (out-Expr ℕ (numbered a.value)) → ⊥) → IsAnswer b (IsSomeWide p a.when.items)
    → IsAnswer b (AssignIsWide (net_of p) (assign_of a))
assign_wide p a true n h = by_condition {e = numbered h.condition.0} {b = h.condition.1}
    (record {
      place = h.is_one.place;
      stands = stands_map condition_of a.when.items h.is_one.place h.condition
          h.is_one.stands;
    }) h.wide
assign_wide p a false n h = λ w. elim (parts_of p (assign_of a) w) [
  | inl v ↦ n v
  | inr c ↦ (let k = stands_map_back condition_of a.when.items c.1.place c.0 c.1.stands in
      h (record {
        condition = k.0;
        is_one = record { place = c.1.place; stands = k.1 };
        wide = subst (λ (z : Expr ℕ × Bool). IsWide (Allows (net_of p)) 64 (out-Expr ℕ z.0)) (sym k.2) c.2;
      }))
]

module _ (p : GtsParts) where
  pub flows_start : IsLeastNumber (IsWideFlow p 0) None
  flows_start = λ n q. omega (arith, q.below)

  -- one assignment more
  pub flows_more : (i : ℕ) (a : Assign) (b : Bool) (least found : Option ℕ) → Stands p.assigns.items i a
      → IsLeastNumber (IsWideFlow p i) least → IsAnswer b (AssignIsWide (net_of p) (assign_of a))
      → found ≡ least_with least b a.target.n → IsLeastNumber (IsWideFlow p (i + 1)) found
  flows_more i a b least found st h answer e =
      subst (λ (z : Option ℕ). IsLeastNumber (IsWideFlow p (i + 1)) z) (sym e) (by least b h answer)
    where
      grow : (n : ℕ) → IsWideFlow p i n → IsWideFlow p (i + 1) n
      grow n q = record {
        place = q.place;
        below = omega (arith, q.below);
        assign = q.assign;
        stands = q.stands;
        target = q.target;
        wide = q.wide;
      }

      this : AssignIsWide (net_of p) (assign_of a) → IsWideFlow p (i + 1) a.target.n
      this w = record { place = i; below = omega arith; assign = a; stands = st; target = refl; wide = w }

      split : (n : ℕ) → IsWideFlow p (i + 1) n
          → IsWideFlow p i n ⊎ ((a.target.n ≡ n) × AssignIsWide (net_of p) (assign_of a))
      split n q = elim (at_most q.place i q.below) [
        | inl l ↦ inl (record {
          place = q.place;
          below = l;
          assign = q.assign;
          stands = q.stands;
          target = q.target;
          wide = q.wide;
        })
        | inr l ↦ (let same : q.assign ≡ a = stands_one p.assigns.items i q.assign a (subst (λ (z : ℕ). Stands p.assigns.items z q.assign) l q.stands) st in
            inr (
              ap (λ (z : Assign). z.target.n) (sym same)
                  ∙ q.target,
              subst (λ (z : Assign). AssignIsWide (net_of p) (assign_of z)) same q.wide,
            ))
      ]

      by : (least : Option ℕ) (b : Bool) → IsLeastNumber (IsWideFlow p i) least
          → IsAnswer b (AssignIsWide (net_of p) (assign_of a))
          → IsLeastNumber (IsWideFlow p (i + 1)) (least_with least b a.target.n)
      by None false h n = λ k q. elim (split k q) [ inl o ↦ h k o | inr o ↦ n o.1 ]
      by (Some m) false h n = (grow m h.0, λ k q. elim (split k q) [ inl o ↦ h.1 k o | inr o ↦ absurd (n o.1) ])
      by None true h w = (this w, λ k q. elim (split k q) [ inl o ↦ absurd (h k o) | inr o ↦ (let u = o.0 in omega arith) ])
      by (Some m) true h w = test (nat_lt a.target.n m) cc
        where
          test : (c : Bool) → nat_lt a.target.n m ≡ c → IsLeastNumber (IsWideFlow p (i + 1)) (Some (cond c a.target.n m))
          test true t = (this w, λ k q. elim (split k q) [ inl o ↦ (let u = h.1 k o in let v = low a.target.n m t in omega arith) | inr o ↦ (let u = o.0 in omega arith) ])
          test false t = (grow m h.0, λ k q. elim (split k q) [ inl o ↦ h.1 k o | inr o ↦ (let u = o.0 in let v = ltb-false a.target.n m t in omega arith) ])

module _ (p : GtsParts) where
  all_below : (count n : ℕ) → IsWideFlow p count n → IsWideFlow p (length p.assigns.items) n
  all_below count n q = record {
    place = q.place;
    below = stands_within p.assigns.items q.place q.assign q.stands;
    assign = q.assign;
    stands = q.stands;
    target = q.target;
    wide = q.wide;
  }

  pub flow_found : (n : ℕ) → IsLeastNumber (IsWideFlow p (length p.assigns.items)) (Some n)
      → IsFirstWide p (Some (wide.Flow n))
  flow_found n h = ((length p.assigns.items, h.0), λ count k q. h.1 k (all_below count k q))

  pub observer_found : (n : ℕ) → IsLeastNumber (IsWideFlow p (length p.assigns.items)) None
      → IsLeastNumber (IsWideObserver p) (Some n) → IsFirstWide p (Some (wide.Observer n))
  observer_found n h o = (λ count k q. h k (all_below count k q), o.0, o.1)

  pub none_found : IsLeastNumber (IsWideFlow p (length p.assigns.items)) None → IsLeastNumber (IsWideObserver p) None
      → IsFirstWide p None
  none_found h o = (λ count n q. h n (all_below count n q), o)
