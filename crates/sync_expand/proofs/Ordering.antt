-- Events that are counted in the order of their ranks: each after its parts.
use Rattle.std.proofs.Common.{◌≡◌, ℕ, suc, ◌+◌, ◌*◌, ◌<◌, ◌≤◌, ◌⊎◌, Bool, List, [], ◌∷◌, length, map, get_or, slice_index, Some, Vec, refl, sym, ◌∙◌, ap, subst, inl, inr, arith}
use Rattle.std.specs.Global.{Global}
use Rattle.std.proofs.lemmas.Bool.{cases_lt}
use Rattle.ar_base.specs.Lists.{Stands, IsOneOf}
use Rattle.ar_base.specs.NumbersInside.{EventId}
use Rattle.ar_base.specs.declared.places.Place.{Place}
use Rattle.ar_base.proofs.Standing.{stands_one, stands_get, stands_within, stands_some, one_first, one_rest}
use Rattle.gts_core.specs.Bound.{declared_from, event_part_of, member_of}
use Rattle.gts_core.specs.declared.bound.DeclaredEvent.{DeclaredEvent}
use Rattle.gts_core.specs.declared.bound.DeclaredWay.{DeclaredWay}
use Rattle.gts_core.specs.declared.bound.DeclaredWay.TheVariants.{Local, Sync}
use Rattle.sync_expand.specs.Counts.{choice_count, member_count, way_count}
use Rattle.sync_expand.specs.Tallies.{AreFirstCounted, ArePartsCounted, CountsOne, IsByRank, IsTallied}
use Rattle.sync_expand.specs.Expanding.{AreExpandable}
use Rattle.sync_expand.specs.Counting.{greatest}
use Rattle.sync_expand.specs.Links.{Falls}
use Rattle.sync_expand.proofs.Capping.{read_number}
use Rattle.sync_expand.proofs.DeclaredLemmas.{part_named}
use Rattle.sync_expand.proofs.KnownLemmas.{greatest_within}

-- Counts by what was found for the parts

choice_agrees : (found counts : List ℕ) (ps : List (Bool × EventId))
    → ((p : Bool × EventId) → IsOneOf ps p → slice_index found p.1.n ≡ slice_index counts p.1.n)
    → choice_count found (map event_part_of ps) ≡ choice_count counts (map event_part_of ps)
choice_agrees found counts [] h = refl
choice_agrees found counts (p ∷ ps) h =
    ap (λ (n : ℕ). n * choice_count found (map event_part_of ps)) (h p (one_first p ps))
    ∙ ap (λ (n : ℕ). slice_index counts p.1.n * n)
    (choice_agrees found counts ps (λ q o. h q (one_rest p ps q o)))

member_agrees : (found counts : List ℕ) (w : DeclaredWay)
    → ((parts : Vec (Bool × EventId) Global) (at : Place) (p : Bool × EventId) → w ≡ Sync parts at
    → IsOneOf parts.items p → slice_index found p.1.n ≡ slice_index counts p.1.n)
    → member_count found (member_of w) ≡ member_count counts (member_of w)
member_agrees found counts (Local guard action) h = refl
member_agrees found counts (Sync parts at) h = choice_agrees found counts parts.items (λ p o. h parts at p refl o)

pub ways_agree : (found counts : List ℕ) (ways : List DeclaredWay) → ArePartsCounted counts found ways
    → way_count found (map member_of ways) ≡ way_count counts (map member_of ways)
ways_agree found counts [] h = refl
ways_agree found counts (w ∷ ways) h =
    let a = member_agrees found counts w (λ parts at p e o. h.each parts at p (record { place = 0; stands = ap Some e }) o) in
    let b = ways_agree found counts ways
    (record { each = λ parts at p i o. h.each parts at p (one_rest w ways (Sync parts at) i) o }) in
    omega (arith, a, b)

-- Lists of numbers that agree at each place

pub same_numbers : (xs ys : List ℕ) → length xs ≡ length ys
    → ((k : ℕ) → k < length xs → get_or xs k 0 ≡ get_or ys k 0) → xs ≡ ys
same_numbers [] [] e h = refl
same_numbers [] (y ∷ ys) e h = absurd (omega (arith, e))
same_numbers (x ∷ xs) [] e h = absurd (omega (arith, e))
same_numbers (x ∷ xs) (y ∷ ys) e h =
    ap (λ (n : ℕ). n ∷ xs) (h 0 (omega arith))
    ∙ ap (λ (ns : List ℕ). y ∷ ns) (same_numbers xs ys (omega (arith, e)) (λ k l. h (suc k) (omega (arith, l))))

-- The order

module _ (events : List DeclaredEvent) (ranks order : List ℕ) (by : IsByRank (length events) ranks order) where
  -- an event of the order is one
  pub event_within : (i e : ℕ) → Stands order i e → e < length events
  event_within i e s = by.below e (record { place = i; stands = s })

  module _ (falls : Falls events ranks) (sound : AreExpandable events) where
    -- a part comes before the event that names it
    part_before : (i e : ℕ) → Stands order i e → (d : DeclaredEvent) → Stands events e d
        → (parts : Vec (Bool × EventId) Global) (at : Place) (p : Bool × EventId)
        → IsOneOf d.ways.items (Sync parts at)
        → IsOneOf parts.items p → (j : ℕ) × (j < i) × Stands order j p.1.n
    part_before i e s d there parts at p w o = elim (cases_lt one.place i) [
      | inl l ↦ (one.place, l, one.stands)
      | inr l ↦ absurd (let r = rises l in omega (arith, r, less))
    ]
      where
        one : IsOneOf order p.1.n
        one = by.all p.1.n (sound.parts e w.place d parts at there w.stands p o)

        less : slice_index ranks p.1.n < slice_index ranks e
        less = falls.falls e p.1.n (part_named events e p.1.n (record {
          declared = d;
          stands = there;
          parts = parts;
          at = at;
          is_way = w;
          part = p;
          is_part = o;
          number = refl;
        }))

        rises : i ≤ one.place → slice_index ranks e ≤ slice_index ranks p.1.n
        rises l =
            let m = stands_within order one.place p.1.n one.stands in
            let r = by.rises i one.place 0 l m in
            let a : get_or order i 0 ≡ e = read_number order i e s in
            let b : get_or order one.place 0 ≡ p.1.n = read_number order one.place p.1.n one.stands in
            subst (λ (n : ℕ). slice_index ranks n ≤ slice_index ranks p.1.n) a
            (subst (λ (n : ℕ). slice_index ranks (get_or order i 0) ≤ slice_index ranks n) b r)

    -- so its parts are counted when the event is reached
    pub parts_counted : (counts found : List ℕ) (i e : ℕ) → Stands order i e → AreFirstCounted counts order i found
        → (d : DeclaredEvent) → Stands events e d → ArePartsCounted counts found d.ways.items
    parts_counted counts found i e s done d there = record {
      each = λ parts at p w o.
          let b = part_before i e s d there parts at p w o in
          (done.done b.0 p.1.n b.1 b.2).right;
    }

  -- one event more is counted
  pub counted_next : (counts found new : List ℕ) (i e : ℕ) → Stands order i e → CountsOne counts e found new
      → AreFirstCounted counts order i found → AreFirstCounted counts order (i + 1) new
  counted_next counts found new i e s one h = record {
    done = λ j x l t. elim (cases_lt j i) [
      | inl b ↦ one.kept x (h.done j x b t)
      | inr b ↦ (let same : j ≡ i = omega (arith, b, l) in let u = subst (λ (k : ℕ). Stands order k x) same t in subst (λ (n : ℕ). IsTallied counts new n) (stands_one order i e x s u) one.here)
    ];
  }

  -- all events are counted
  pub counted_all : (counts found : List ℕ) (i : ℕ) → length order ≤ i → length counts ≡ length events
      → length found ≡ length events → AreFirstCounted counts order i found → (found ≡ counts) × (greatest counts ≤ 256)
  counted_all counts found i past long same h = (
    same_numbers found counts (omega (arith, long, same)) (λ k l. (each k (omega (arith, l, same))).right),
    greatest_within counts 256 (λ n c s.
        let w = stands_within counts n c s in
        let r = read_number counts n c s in
        let b = (each n (omega (arith, w, long))).small in
        omega (arith, r, b)),
  )
    where
      each : (k : ℕ) → k < length events → IsTallied counts found k
      each k l =
          let one = by.all k l in
          let w = stands_within order one.place k one.stands in
          h.done one.place k (omega (arith, w, past)) one.stands
