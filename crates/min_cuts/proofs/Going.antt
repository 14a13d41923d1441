-- What a lister keeps: at the start, and from one set to the next.
use Rattle.std.proofs.Common.{◌≡◌, ◌<◌, ◌≤◌, ℕ, zero, suc, List, [], ◌∷◌, map, length, get_or, true, refl, sym, ap, ap₂, ◌∙◌, subst, arith, append-nil, nat_cmp, Vec, vec_capacity}
use Rattle.std.specs.Global.{Global}
use Rattle.std.specs.List.{AllByRecursion}
use Rattle.std.specs.List.Sorted.{IsPermutation, IsSorted}
use Rattle.std.proofs.lemmas.List.{length-map}
use Rattle.std.proofs.lemmas.List.Sorted.{length_permutation}
use Rattle.ar_base.specs.Lists.{Stands}
use Rattle.ar_base.specs.Sets.{Ascends}
use Rattle.ar_base.proofs.Standing.{one_here}
use Rattle.ar_base.specs.NumbersInside.{EventId}
use Rattle.ar_firing.specs.Forest.{ModeTree}
use Rattle.ar_firing.specs.Trees.{AreTrees}
use Rattle.zdd_nodes.specs.Families.{Family, has}
use Rattle.zdd_nodes.specs.Behind.{behind_events}
use Rattle.zdd_nodes.proofs.Behind.{behind_none}
use Rattle.zdd_nodes.specs.Nodes.{NodeId, Stored, family, IsFamilyNumber, IsSoundStore}
use Rattle.firable_families.specs.FirableInside.{IsFirableOf}
use Rattle.firable_families.proofs.Listing.{stands_has}
use Rattle.min_cuts.specs.Lines.{AreInFiringOrder}
use Rattle.min_cuts.specs.Sizes.{largest}
use Rattle.min_cuts.specs.Kept.{numbers_of_set, taken_events, waiting, to_give, events_in_order, edge_events, HasRoom, HaveRoom, AreEventPlaces, IsInTheOrder}
use Rattle.min_cuts.specs.Listing.{left_in, IsSoundLister}
use Rattle.min_cuts.specs.declared.lister.Lister.TheInside.{Inside}
use Rattle.min_cuts.specs.declared.steps.Step.{Step}
use Rattle.min_cuts.proofs.Firing.{firable_known, all_in_firing_order}
use Rattle.min_cuts.proofs.Arranging.{inside, spots_inside, arranged}

-- ---- at the start
pub all_to_give : (s : Stored) (steps : List Step) (n : ℕ) → steps ≡ [] → to_give s steps n ≡ family s n
all_to_give s steps n e = ap (λ z. to_give s z n) e ∙ append-nil (behind_events [] (family s n)) ∙ behind_none (family s n)

one_ascends : (f : Family) → AllByRecursion Ascends f → (k : ℕ) (set : List ℕ) → Stands f k set → Ascends set
one_ascends [] a k set i = cc
one_ascends (t ∷ f) a zero set i = let e : t ≡ set = cc in subst Ascends e a.0
one_ascends (t ∷ f) a (suc k) set i = one_ascends f a.1 k set i

module _ (trees : List ModeTree) (l : Inside) (fires : (set : List ℕ) → has (family l.store l.next.n) set ≡ true
    → IsFirableOf trees set)
    (none : l.steps.items ≡ []) (edges : numbers_of_set l.order.items ≡ edge_events trees) where
  begins_known : IsSoundStore l.store → IsFamilyNumber l.store l.next.n → (k : ℕ) (set : List ℕ)
      → Stands (to_give l.store l.steps.items l.next.n) k set
      → IsInTheOrder (numbers_of_set l.order.items) set
  begins_known sound number k set i =
      let f = family l.store l.next.n in
      let j : Stands f k set = subst (λ (z : Family). Stands z k set)
      (all_to_give l.store l.steps.items l.next.n none) i in
      subst (λ z. IsInTheOrder z set) (sym edges) (firable_known trees set
      (one_ascends f (sound.families l.next.n number).ascending k set j)
      (fires set (stands_has f k set j)))

  pub listing_begins : IsSoundStore l.store → IsFamilyNumber l.store l.next.n
      → AreEventPlaces (numbers_of_set l.order.items) l.places.items
      → l.longest ≡ largest (family l.store l.next.n) → l.longest ≤ vec_capacity l.steps
      → l.longest ≤ vec_capacity l.spots
      → l.longest ≤ vec_capacity l.given → IsSoundLister l
  listing_begins sound number places long a b c = record {
    next_fits = record { in_store = number; fits = omega (arith, long, ap length none) };
    rests_fit = record { each = λ k x i. absurd (nothing k x (subst (λ (z : List Step). Stands z k x) none i)) };
    ends = λ z. none;
    known = begins_known sound number;
    placed = places;
    room_for_steps = a;
    room_for_spots = b;
    room_for_given = c;
  }
    where
      nothing : (k : ℕ) (x : Step) → Stands [] k x → ⊥
      nothing k x i = cc

  pub lines_begin : AreTrees trees → AreInFiringOrder trees (family l.store l.next.n) (left_in l)
  lines_begin are =
      let f = family l.store l.next.n in
      subst (λ (z : Family). AreInFiringOrder trees f (map (events_in_order (numbers_of_set l.order.items)) z))
      (sym (all_to_give l.store l.steps.items l.next.n none))
      (subst (λ z. AreInFiringOrder trees f (map (events_in_order z) f)) (sym edges) (all_in_firing_order trees are f fires))

-- ---- from one set to the next
module _ (l : Inside) (keeps : IsSoundLister l) (down : List Step)
    (first : to_give l.store l.steps.items l.next.n ≡ taken_events down ∷ waiting l.store [] down) where
  first_known : IsInTheOrder (numbers_of_set l.order.items) (taken_events down)
  first_known = keeps.known 0 (taken_events down) (subst (λ (z : Family). Stands z 0 (taken_events down)) (sym first) refl)

  pub first_inside : (k e : ℕ) → Stands (taken_events down) k e → e < length l.places.items
  first_inside k e i = inside (numbers_of_set l.order.items) l.places.items (taken_events down) first_known keeps.placed e
      (one_here (taken_events down) k e i)

  module _ (back : Vec Step Global) (next : NodeId) (same : waiting l.store [] down
      ≡ to_give l.store back.items next.n) where
    pub listing_goes : (spots : Vec ℕ Global) (given : Vec EventId Global)
        → HasRoom l.store l.longest (length back.items) next.n
        → HaveRoom l.store l.longest back.items → (next.n ≡ 0 → back.items ≡ []) → l.longest ≤ vec_capacity back
        → l.longest ≤ vec_capacity spots
        → l.longest ≤ vec_capacity given → IsSoundLister
        (record l { steps = back; next = next; spots = spots; given = given })
    listing_goes spots given fits rests ends a b c = record {
      next_fits = fits;
      rests_fit = rests;
      ends = ends;
      known = λ k set i. keeps.known (suc k) set (subst (λ (z : Family). Stands z (suc k) set) (sym first)
          (subst (λ (z : Family). Stands z k set) (sym same) i));
      placed = keeps.placed;
      room_for_steps = a;
      room_for_spots = b;
      room_for_given = c;
    }

  module _ (spots : List ℕ) (shuffled : IsPermutation (map (λ e. get_or l.places.items e 0) (taken_events down)) spots)
      (sorted : IsSorted nat_cmp spots) where
    pub first_spots : (k p : ℕ) → Stands spots k p → p < length (numbers_of_set l.order.items)
    first_spots = spots_inside (numbers_of_set l.order.items) l.places.items
        (taken_events down) first_known keeps.placed spots shuffled sorted

    pub spots_long : length spots ≡ length down
    spots_long = length_permutation (map (λ e. get_or l.places.items e 0) (taken_events down)) spots shuffled
        ∙ length-map (taken_events down) (λ e. get_or l.places.items e 0) ∙ length-map down (λ (x : Step). x.event.n)

    pub first_gives : (back : List Step) (next : ℕ) → waiting l.store [] down ≡ to_give l.store back next
        → (given : List ℕ)
        → given ≡ map (λ p. get_or (numbers_of_set l.order.items) p 0) spots
        → left_in l ≡ given ∷ map (events_in_order (numbers_of_set l.order.items)) (to_give l.store back next)
    first_gives back next same given g =
        ap (map (events_in_order (numbers_of_set l.order.items))) first
        ∙ ap₂ (λ (a : List ℕ) (b : Family). a ∷ map (events_in_order (numbers_of_set l.order.items)) b)
        (sym (g ∙ arranged (numbers_of_set l.order.items) l.places.items
        (taken_events down) first_known keeps.placed spots shuffled sorted)) same
