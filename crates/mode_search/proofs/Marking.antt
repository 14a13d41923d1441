-- Marks of events, units that move, and the searches over them.
use Rattle.std.proofs.Common.{◌≡◌, ◌==◌, ℕ, suc, ◌+◌, ◌<◌, ◌≤◌, ◌⊎◌, inl, inr, Bool, true, false, not, List, [], ◌∷◌, take, length, get_or, set, refl, sym, ap, ◌∙◌, subst, arith}
use Rattle.std.proofs.lemmas.Bool.Decides.{nat_tests}
use Rattle.std.proofs.lemmas.List.{get_or_default, length-set}
use Rattle.ar_base.specs.Lists.{Stands, IsOneOf}
use Rattle.ar_base.specs.Numbers.{WayId}
use Rattle.ar_base.specs.NumbersInside.{EventId}
use Rattle.ar_base.proofs.Standing.{stands_one, stands_none, stands_map, stands_map_back, at_most}
use Rattle.ar_meaning.specs.Found.{IsAnswer}
use Rattle.gts_core.specs.declared.system.Event.{Event}
use Rattle.gts_core.specs.declared.system.Way.{Way}
use Rattle.gts_core.specs.declared.system.GtsParts.{GtsParts}
use Rattle.mode_search.proofs.Added.{taken_cases, taken_here, taken_more}
use Rattle.mode_search.specs.Events.{AreMarks, plain_event_numbers, IsSync, IsJoint, HasJoint, IsJointAt, MovesUnit, AreMoving, StillMoves}
use Rattle.mode_search.proofs.Reading.{flags_put, answer_as}

-- a number is one of those of events
one_number : (events : List EventId) (e : EventId) → IsOneOf events e → IsOneOf (plain_event_numbers events) e.n
one_number events e o = record { place = o.place; stands = stands_map (λ (z : EventId). z.n) events o.place e o.stands }

number_back : (events : List EventId) (n : ℕ) → IsOneOf (plain_event_numbers events) n
    → (e : EventId) × IsOneOf events e × (e.n ≡ n)
number_back events n o = let r = stands_map_back (λ (z : EventId). z.n) events o.place n o.stands in (r.0, record { place = o.place; stands = r.1 }, r.2)

pub marks_more : (count : ℕ) (dropped : List EventId) (i : ℕ) (d : EventId) (marks new : List Bool) → i < length dropped
    → AreMarks count (plain_event_numbers (take i dropped)) marks
    → new ≡ set marks (get_or dropped i d).n true → AreMarks count (plain_event_numbers (take (i + 1) dropped)) new
marks_more count dropped i d marks new h a e =
    subst (λ (z : List Bool). AreMarks count (plain_event_numbers (take (i + 1) dropped)) z) (sym e) (record {
      long = length-set marks event.n true ∙ a.long;
      mark = flags_put (IsOneOf (plain_event_numbers (take i dropped))) (IsOneOf (plain_event_numbers (take (i + 1) dropped))) marks event.n
          true a.mark
          (λ n u o. let r = number_back (take i dropped) n o in subst (λ (z : ℕ). IsOneOf (plain_event_numbers (take (i + 1) dropped)) z) r.2 (one_number (take (i + 1) dropped) r.0 (taken_more dropped i event r.0 h is r.1)))
          (λ n u o. let r = number_back (take (i + 1) dropped) n o in elim (taken_cases dropped i event r.0 h is r.1) [
            | inl k ↦ subst (λ (z : ℕ). IsOneOf (plain_event_numbers (take i dropped)) z) r.2 (one_number (take i dropped) r.0 k)
            | inr k ↦ absurd (u (sym r.2 ∙ ap (λ (z : EventId). z.n) (sym k)))
          ])
          (one_number (take (i + 1) dropped) event (taken_here dropped i event h is));
    })
  where
    event : EventId
    event = get_or dropped i d

    is : event ≡ get_or dropped i event
    is = get_or_default dropped i d event h

module _ (p : GtsParts) where
  pub joint_of : (n : ℕ) (w : Way) (b : Bool) → Stands p.ways.items n w → IsAnswer b (IsSync w.body)
      → IsAnswer b (IsJoint p n)
  joint_of n w b st h = answer_as (IsSync w.body) (IsJoint p n) b (λ q. record { way = w; stands = st; is_sync = q })
      (λ q. subst (λ (z : Way). IsSync z.body) (stands_one p.ways.items n q.way w q.stands st) q.is_sync) h

  pub joint_at : (n : ℕ) (x : Event) → Stands p.events.items n x → HasJoint p x.ways.items
      → ((k : ℕ) (y : Event) → k < n → Stands p.events.items k y → HasJoint p y.ways.items → ⊥)
      → IsJointAt p n × ((k : ℕ) → IsJointAt p k → n ≤ k)
  joint_at n x st h before = (record { event = x; stands = st; has = h }, λ k q. below k q (less_or k n))
    where
      less_or : (k n : ℕ) → (k < n) ⊎ (n ≤ k)
      less_or k n = grind arith

      below : (k : ℕ) → IsJointAt p k → (k < n) ⊎ (n ≤ k) → n ≤ k
      below k q (inl l) = absurd (before k q.event l q.stands q.has)
      below k q (inr l) = l

  -- one event more
  pub moving_more : (marks : List Bool) (n : ℕ) (event : Event) (moving : List Bool) (moved marked c : Bool)
      → Stands p.events.items n event → Stands moving event.unit.n moved → Stands marks n marked
      → IsAnswer c (StillMoves moved marked event.ways.items) → AreMoving p marks n moving
      → AreMoving p marks (n + 1) (set moving event.unit.n c)
  moving_more marks n event moving moved marked c st sm sk h a = record {
    long = length-set moving event.unit.n c ∙ a.long;
    moves = flags_put (MovesUnit p marks n) (MovesUnit p marks (n + 1)) moving event.unit.n c a.moves (λ u d q. grow u q)
        (λ u d q. elim (at_most q.number n q.below) [
          | inl l ↦ record {
            number = q.number;
            below = l;
            event = q.event;
            stands = q.stands;
            is_unit = q.is_unit;
            mark = q.mark;
            way = q.way;
            has = q.has;
          }
          | inr e ↦ absurd (d (sym q.is_unit ∙ ap (λ (z : Event). z.unit.n) (this q.number q.event e q.stands)))
        ])
        (answer_as (StillMoves moved marked event.ways.items) (MovesUnit p marks (n + 1) event.unit.n) c on off h);
  }
    where
      this : (k : ℕ) (x : Event) → k ≡ n → Stands p.events.items k x → x ≡ event
      this k x e s = stands_one p.events.items n x event (subst (λ (z : ℕ). Stands p.events.items z x) e s) st

      grow : (u : ℕ) → MovesUnit p marks n u → MovesUnit p marks (n + 1) u
      grow u q = record {
        number = q.number;
        below = omega (arith, q.below);
        event = q.event;
        stands = q.stands;
        is_unit = q.is_unit;
        mark = q.mark;
        way = q.way;
        has = q.has;
      }

      was : (b : Bool) → b ≡ true → IsAnswer b (MovesUnit p marks n event.unit.n) → MovesUnit p marks n event.unit.n
      was true e q = q
      was false e q = absurd (cc e)

      is_true : (b : Bool) → IsAnswer b (MovesUnit p marks n event.unit.n) → MovesUnit p marks n event.unit.n → b ≡ true
      is_true true q m = refl
      is_true false q m = absurd (q m)

      on : StillMoves moved marked event.ways.items → MovesUnit p marks (n + 1) event.unit.n
      on (inl e) = grow event.unit.n (was moved e (a.moves event.unit.n moved sm))
      on (inr q) = record {
        number = n;
        below = omega arith;
        event = event;
        stands = st;
        is_unit = refl;
        mark = subst (λ (z : Bool). Stands marks n z) q.0 sk;
        way = q.1;
        has = q.2;
      }

      off : MovesUnit p marks (n + 1) event.unit.n → StillMoves moved marked event.ways.items
      off q = elim (at_most q.number n q.below) [
        | inl l ↦ inl (is_true moved (a.moves event.unit.n moved sm)
            (record {
              number = q.number;
              below = l;
              event = q.event;
              stands = q.stands;
              is_unit = q.is_unit;
              mark = q.mark;
              way = q.way;
              has = q.has;
            }))
        | inr e ↦ inr (
          stands_one marks n marked false sk (subst (λ (z : ℕ). Stands marks z false) e q.mark),
          q.way,
          subst (λ (z : Event). Stands z.ways.items 0 q.way) (this q.number q.event e q.stands) q.has,
        )
      ]

-- events of no way, and of some
pub moves_by : (moved marked empty : Bool) (ways : List WayId) → moved ≡ false → marked ≡ false
    → empty ≡ (length ways == 0) → IsAnswer (not empty) (StillMoves moved marked ways)
moves_by moved marked true [] e f g = λ q. elim q [ inl h ↦ absurd (cc (h, e)) | inr h ↦ stands_none 0 h.1 h.2 ]
moves_by moved marked false [] e f g = absurd (cc)
moves_by moved marked true (w ∷ ws) e f g = absurd (some_long (length ws) g)
  where
    some_long : (n : ℕ) → true ≡ (suc n == 0) → ⊥
    some_long n g = grind (arith, nat_tests)
moves_by moved marked false (w ∷ ws) e f g = inr (f, w, refl)
