-- What a lister has still to give, and what it keeps.
use Rattle.std.specs.Prelude.{◌≡◌, ◌≤◌, ℕ, List, [], map, length, vec_capacity}
use Rattle.ar_base.specs.Lists.{Stands}
use Rattle.min_cuts.specs.Kept.{numbers_of_set, to_give, events_in_order, HasRoom, HaveRoom, AreEventPlaces, IsInTheOrder}
use Rattle.min_cuts.specs.declared.lister.Lister.TheInside.{Inside}

-- the sets that are still to be given, each as its events in the order of the edges
abbrev pub left_in : Inside → List (List ℕ)
left_in l = map (events_in_order (numbers_of_set l.order.items)) (to_give l.store l.steps.items l.next.n)

-- what a lister keeps: all sets that are left are known and have room, and where the way has ended there are no steps
pub record IsSoundLister (l : Inside) : Type 0 where
  pub next_fits : HasRoom l.store l.longest (length l.steps.items) l.next.n
  pub rests_fit : HaveRoom l.store l.longest l.steps.items
  pub ends : l.next.n ≡ 0 → l.steps.items ≡ []
  pub known : (k : ℕ) (set : List ℕ) → Stands (to_give l.store l.steps.items l.next.n) k set
      → IsInTheOrder (numbers_of_set l.order.items) set
  pub placed : AreEventPlaces (numbers_of_set l.order.items) l.places.items
  pub room_for_steps : l.longest ≤ vec_capacity l.steps
  pub room_for_spots : l.longest ≤ vec_capacity l.spots
  pub room_for_given : l.longest ≤ vec_capacity l.given
