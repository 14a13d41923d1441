-- Lines in pieces, and the ways of events that are printed.
use Rattle.std.proofs.Common.{◌≡◌, ◌<◌, ◌-◌, ◌^◌, ◌≤◌, ℕ, List, [], ◌∷◌, ◌++◌, codes, decimal, length, min, get_or, Option, Some, Bor, refl, sym, ◌∙◌, ap, subst, arith}
use Rattle.std.proofs.lemmas.Option.{get_or_from_slice_get}
use Rattle.ar_base.specs.Lists.{Stands}
use Rattle.ar_base.specs.Numbers.{WayId}
use Rattle.ar_base.specs.NumbersInside.{EventId}
use Rattle.ar_base.proofs.Standing.{one_here, one_first, one_rest, stands_map, stands_get}
use Rattle.ar_base.proofs.Lines.{line_after}
use Rattle.gts_core.specs.declared.system.GtsParts.{GtsParts}
use Rattle.min_cuts.specs.Kept.{numbers_of_set}
use Rattle.min_cuts.specs.Gives.{GivesNextSet}
use Rattle.cut_text.specs.Tables.{way_found, way_at, HasWay, HaveWays, AllHaveWays}
use Rattle.cut_text.specs.Texts.{count_line, fault_line, order_end}

pub fault_pieces : (set fault : List ℕ)
    → codes "fault: " ++ (set ++ (codes ": " ++ (fault ++ 10 ∷ []))) ≡ fault_line set fault
fault_pieces set fault =
    line_after (codes "fault: ") (set ++ (codes ": " ++ fault)) _
    (line_after set (codes ": " ++ fault) _ (line_after (codes ": ") fault _ refl))

min_is : (n m : ℕ) → n ≤ m → min n m ≡ n
min_is n m h = omega arith

pub count_pieces : (order : Option ℕ) (n : ℕ) → n ≤ 2 ^ 128 - 1
    → codes "count " ++ (decimal n ++ order_end order) ≡ count_line order n
count_pieces order n h =
    ap (λ (z : ℕ). codes "count " ++ (decimal z ++ order_end order)) (sym (min_is n (2 ^ 128 - 1) h))

-- the end of a line up to an order
pub order_pieces : (k : ℕ) → codes " up to order " ++ (decimal k ++ 10 ∷ []) ≡ order_end (Some k)
order_pieces k = line_after (codes " up to order ") (decimal k) _ refl

-- the way that is read for an event
pub read_way : (ways : List WayId) (e : ℕ) (w d : WayId) → Stands ways e w → (get_or ways e d).n ≡ way_at ways e
read_way ways e w d s = ap (λ (z : WayId). z.n) (get_or_from_slice_get ways e w d s) ∙ ap way_found (sym s)

module _ (p : GtsParts) (ways : List WayId) where
  -- the event at hand has a way
  pub have_here : (events : List EventId) (i : ℕ) (d : EventId) → HaveWays p ways (numbers_of_set events) → i < length events
      → HasWay p ways (get_or events i d).n
  have_here events i d h l =
      h.each (get_or events i d).n
      (one_here (numbers_of_set events) i _ (stands_map (λ (e : EventId). e.n) events i (get_or events i d)
      (stands_get events i d l)))

  -- the first event has a way, and so have the others
  pub have_first : (events : List EventId) (first : EventId) (others : List EventId) → events ≡ first ∷ others
      → HaveWays p ways (numbers_of_set events) → HasWay p ways first.n
  have_first events first others e h =
      (subst (λ (z : List EventId). HaveWays p ways (numbers_of_set z)) e h).each first.n (one_first first.n (numbers_of_set others))

  pub have_rest : (events : List EventId) (first : EventId) (others : List EventId) → events ≡ first ∷ others
      → HaveWays p ways (numbers_of_set events) → HaveWays p ways (numbers_of_set others)
  have_rest events first others e h = record {
    each = λ x o. (subst (λ (z : List EventId). HaveWays p ways (numbers_of_set z)) e h).each x
        (one_rest first.n (numbers_of_set others) x o);
  }

-- the set that is given, and what is left behind it
pub gives_some : (old new : List (List ℕ)) (answer : Option (Bor (List EventId))) (events : Bor (List EventId))
    → answer ≡ Some events → GivesNextSet old new answer → old ≡ numbers_of_set events.now ∷ new
gives_some old new answer events e h = subst (λ z. GivesNextSet old new z) e h

module _ (p : GtsParts) (ways : List WayId) where
  -- the events of the set that is given have ways, and so have those that are left
  pub all_first : (old : List (List ℕ)) (events : List ℕ) (rest : List (List ℕ)) → old ≡ events ∷ rest
      → AllHaveWays p ways old → HaveWays p ways events
  all_first old events rest e h = (subst (λ z. AllHaveWays p ways z) e h).each events (one_first events rest)

  pub all_rest : (old : List (List ℕ)) (events : List ℕ) (rest : List (List ℕ)) → old ≡ events ∷ rest
      → AllHaveWays p ways old → AllHaveWays p ways rest
  all_rest old events rest e h = record {
    each = λ x o. (subst (λ z. AllHaveWays p ways z) e h).each x (one_rest events rest x o);
  }
