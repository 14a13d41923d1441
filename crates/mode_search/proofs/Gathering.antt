-- The live edges of one variable after the other.
use Rattle.std.proofs.Common.{◌≡◌, ◌<◌, ◌≤◌, ◌+◌, ℕ, ◌⊎◌, inl, inr, List, [], ◌++◌, map, length, refl, sym, ap, ◌∙◌, subst, arith}
use Rattle.ar_base.specs.Lists.{Stands, IsOneOf}
use Rattle.ar_base.specs.Numbers.{VarId}
use Rattle.ar_base.proofs.Standing.{stands_one, stands_within, stands_none, stands_left, stands_right, stands_split, stands_map, stands_map_back, at_most}
use Rattle.mode_trees.specs.declared.forests.Edge.{Edge}
use Rattle.mode_search.specs.declared.searching.Reach.{Reach}
use Rattle.mode_search.specs.declared.listing.Live.{Live}
use Rattle.mode_search.specs.Live.{live_at, AreEdgesApart, IsLiveOf, AreLive}

pub live_start : (reaches : List Reach) (live : List Live) → live ≡ [] → AreLive reaches 0 live
live_start reaches live e = subst (λ (z : List Live). AreLive reaches 0 z) (sym e) (record {
  sound = λ x l s. absurd (stands_none x l s);
  whole = λ n r e h. absurd (omega arith);
  ascend = λ x y l m h s t. absurd (stands_none x l s);
  once = λ x y l m s t. absurd (stands_none x l s);
})

module _ (reaches : List Reach) (apart : AreEdgesApart reaches) (n : ℕ) (r : Reach) (st : Stands reaches n r)
    (v : VarId) (is : v.n ≡ n) (live : List Live) (a : AreLive reaches n live) where
  abbrev more : List Live
  more = map (live_at v) r.edges.items

  -- a place among the new ones
  record IsNew (x : ℕ) (l : Live) : Type 0 where
    place : ℕ
    at : x ≡ length live + place
    edge : Edge
    stands : Stands r.edges.items place edge
    live_edge : live_at v edge ≡ l

  cases : (x : ℕ) (l : Live) → Stands (live ++ more) x l → Stands live x l ⊎ IsNew x l
  cases x l s = elim (stands_split live more x l s) [
    | inl k ↦ inl k
    | inr k ↦ (let b = stands_map_back (live_at v) r.edges.items k.0 l k.2 in inr (record { place = k.0; at = k.1; edge = b.0; stands = b.1; live_edge = b.2 }))
  ]

  number : (x : ℕ) (l : Live) (k : IsNew x l) → l.variable.n ≡ n
  number x l k = ap (λ (z : Live). z.variable.n) (sym k.live_edge) ∙ is

  sound : (x : ℕ) (l : Live) → Stands live x l ⊎ IsNew x l → IsLiveOf reaches (n + 1) l
  sound x l (inl s) = let h = a.sound x l s in record { below = omega (arith, h.below); reach = h.reach; stands = h.stands; is_one = h.is_one }
  sound x l (inr k) = record {
    below = omega (arith, number x l k);
    reach = r;
    stands = subst (λ (z : ℕ). Stands reaches z r) (sym (number x l k)) st;
    is_one = record {
      place = k.place;
      stands = subst (λ (z : Edge). Stands r.edges.items k.place z) (ap (λ (z : Live). z.edge) k.live_edge) k.stands;
    };
  }

  whole : (m : ℕ) (q : Reach) (e : Edge) → (m < n) ⊎ (m ≡ n) → Stands reaches m q → IsOneOf q.edges.items e
      → (x : ℕ) × (l : Live) × Stands (live ++ more) x l × (l.variable.n ≡ m) × (l.edge ≡ e)
  whole m q e (inl h) s o = let w = a.whole m q e h s o in (w.0, w.1, stands_left live more w.0 w.1 w.2, w.3, w.4)
  whole m q e (inr h) s o =
      let same : q ≡ r = stands_one reaches n q r (subst (λ (z : ℕ). Stands reaches z q) h s) st in
      let there = subst (λ (z : Reach). Stands z.edges.items o.place e) same o.stands in (
        length live + o.place,
        live_at v e,
        stands_right live more o.place (length live + o.place) (live_at v e) refl
            (stands_map (live_at v) r.edges.items o.place e there),
        is ∙ sym h,
        refl,
      )

  ascend : (x y : ℕ) (l m : Live) → x < y → Stands live x l ⊎ IsNew x l → Stands live y m ⊎ IsNew y m
      → l.variable.n ≤ m.variable.n
  ascend x y l m h (inl s) (inl t) = a.ascend x y l m h s t
  ascend x y l m h (inl s) (inr k) = let b = (a.sound x l s).below in omega (arith, b, number y m k)
  ascend x y l m h (inr j) (inl t) = let w = stands_within live y m t in absurd (omega (arith, j.at))
  ascend x y l m h (inr j) (inr k) = omega (arith, number x l j, number y m k)

  once : (x y : ℕ) (l m : Live) → Stands live x l ⊎ IsNew x l → Stands live y m ⊎ IsNew y m
      → l.variable.n ≡ m.variable.n → l.edge.from ≡ m.edge.from → l.edge.way ≡ m.edge.way → x ≡ y
  once x y l m (inl s) (inl t) e f w = a.once x y l m s t e f w
  once x y l m (inl s) (inr k) e f w = let b = (a.sound x l s).below in absurd (omega (arith, b, number y m k))
  once x y l m (inr j) (inl t) e f w = let b = (a.sound y m t).below in absurd (omega (arith, b, number x l j))
  once x y l m (inr j) (inr k) e f w =
      let i = apart.one n r st j.place k.place j.edge k.edge j.stands k.stands
      (ap (λ (z : Live). z.edge.from) j.live_edge ∙ f ∙ sym (ap (λ (z : Live). z.edge.from) k.live_edge))
      (ap (λ (z : Live). z.edge.way) j.live_edge ∙ w ∙ sym (ap (λ (z : Live). z.edge.way) k.live_edge)) in
      omega (arith, j.at, k.at)

  pub live_more : (new : List Live) → new ≡ live ++ more → AreLive reaches (n + 1) new
  live_more new e = subst (λ (z : List Live). AreLive reaches (n + 1) z) (sym e) (record {
    sound = λ x l s. sound x l (cases x l s);
    whole = λ m q e h s o. whole m q e (at_most m n h) s o;
    ascend = λ x y l m h s t. ascend x y l m h (cases x l s) (cases y m t);
    once = λ x y l m s t i f w. once x y l m (cases x l s) (cases y m t) i f w;
  })
