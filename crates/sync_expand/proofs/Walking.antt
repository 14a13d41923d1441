-- Marks that spread over parts.
use Rattle.std.proofs.Common.{◌≡◌, ℕ, zero, suc, ◌+◌, ◌-◌, ◌<◌, ◌≤◌, ◌⊎◌, Bool, true, false, List, [], ◌∷◌, ◌++◌, length, Vec, set, slice_index, refl, sym, ◌∙◌, ap, subst, inl, inr, arith, length-append}
use Rattle.std.proofs.lemmas.Bool.{cases_lt}
use Rattle.std.specs.Global.{Global}
use Rattle.ar_base.specs.Lists.{Stands, IsOneOf}
use Rattle.ar_base.specs.NumbersInside.{EventId}
use Rattle.ar_base.specs.declared.places.Place.{Place}
use Rattle.ar_base.proofs.Standing.{stands_one, stands_none, stands_within, stands_get, stands_left, stands_next, one_here, one_none, one_cases, one_first, one_rest, one_split, one_left, one_right}
use Rattle.ar_meaning.specs.Expand.{HasPart, ReachesPart, part_of, further}
use Rattle.gts_core.specs.Bound.{declared_from}
use Rattle.gts_core.specs.declared.bound.DeclaredEvent.{DeclaredEvent}
use Rattle.gts_core.specs.declared.bound.DeclaredWay.{DeclaredWay}
use Rattle.gts_core.specs.declared.bound.DeclaredWay.TheVariants.{Sync}
use Rattle.sync_expand.specs.Expanding.{AreExpandable}
use Rattle.sync_expand.specs.Links.{IsPartOfWays}
use Rattle.sync_expand.specs.Reached.{IsEventReached, AreReachedFrom, marked, IsReachCount, AreReachCounts, IsFirstMet, OpensEvents, IsAmong}
use Rattle.sync_expand.specs.declared.reach.Walk.{Walk}
use Rattle.sync_expand.proofs.DeclaredLemmas.{NamesPart, named_part, part_named, declared_back}
use Rattle.sync_expand.proofs.Capping.{read_number}
use Rattle.sync_expand.proofs.Reaching.{reached_on}

-- How many are marked

pub marked_within : (ms : List Bool) → marked ms ≤ length ms
marked_within [] = omega arith
marked_within (true ∷ ms) = let h = marked_within ms in omega (arith, h)
marked_within (false ∷ ms) = let h = marked_within ms in omega (arith, h)

not_marked : (ms : List Bool) → Stands (false ∷ ms) 0 true → ⊥
not_marked ms s = let e : false ≡ true = stands_one (false ∷ ms) 0 false true refl s in absurd (cc e)

pub marked_subset : (a b : List Bool) → length a ≡ length b → ((n : ℕ) → Stands a n true → Stands b n true)
    → marked a ≤ marked b
marked_subset [] [] e h = omega arith
marked_subset [] (y ∷ b) e h = absurd (omega (arith, e))
marked_subset (x ∷ a) [] e h = absurd (omega (arith, e))
marked_subset (true ∷ a) (true ∷ b) e h =
    let i = marked_subset a b (omega (arith, e)) (λ n s. h (suc n) s) in omega (arith, i)
marked_subset (true ∷ a) (false ∷ b) e h = absurd (not_marked b (h 0 refl))
marked_subset (false ∷ a) (true ∷ b) e h =
    let i = marked_subset a b (omega (arith, e)) (λ n s. h (suc n) s) in omega (arith, i)
marked_subset (false ∷ a) (false ∷ b) e h =
    let i = marked_subset a b (omega (arith, e)) (λ n s. h (suc n) s) in omega (arith, i)

-- marks among as many others are all of them
pub marked_alike : (a b : List Bool) → length a ≡ length b → ((n : ℕ) → Stands a n true → Stands b n true)
    → marked b ≤ marked a → (n : ℕ) → Stands b n true → Stands a n true
marked_alike [] b e h l n s = absurd (let i = stands_within b n true s in omega (arith, e, i))
marked_alike (x ∷ a) [] e h l n s = absurd (stands_none n true s)
marked_alike (true ∷ a) (true ∷ b) e h l zero s = refl
marked_alike (true ∷ a) (true ∷ b) e h l (suc n) s =
    marked_alike a b (omega (arith, e)) (λ k t. h (suc k) t) (omega (arith, l)) n s
marked_alike (true ∷ a) (false ∷ b) e h l n s = absurd (not_marked b (h 0 refl))
marked_alike (false ∷ a) (true ∷ b) e h l n s =
    let i = marked_subset a b (omega (arith, e)) (λ k t. h (suc k) t) in absurd (omega (arith, i, l))
marked_alike (false ∷ a) (false ∷ b) e h l zero s = absurd (not_marked b s)
marked_alike (false ∷ a) (false ∷ b) e h l (suc n) s =
    marked_alike a b (omega (arith, e)) (λ k t. h (suc k) t) (omega (arith, l)) n s

-- One mark more

pub set_long : (ms : List Bool) (i : ℕ) → length (set ms i true) ≡ length ms
set_long [] i = refl
set_long (m ∷ ms) zero = refl
set_long (m ∷ ms) (suc i) = ap suc (set_long ms i)

pub set_here : (ms : List Bool) (i : ℕ) → i < length ms → Stands (set ms i true) i true
set_here [] i l = absurd (omega (arith, l))
set_here (m ∷ ms) zero l = refl
set_here (m ∷ ms) (suc i) l = set_here ms i (omega (arith, l))

pub set_kept : (ms : List Bool) (i n : ℕ) → Stands ms n true → Stands (set ms i true) n true
set_kept [] i n s = s
set_kept (m ∷ ms) zero zero s = refl
set_kept (m ∷ ms) zero (suc n) s = s
set_kept (m ∷ ms) (suc i) zero s = s
set_kept (m ∷ ms) (suc i) (suc n) s = set_kept ms i n s

pub set_back : (ms : List Bool) (i n : ℕ) → Stands (set ms i true) n true → (n ≡ i) ⊎ Stands ms n true
set_back [] i n s = inr s
set_back (m ∷ ms) zero zero s = inl refl
set_back (m ∷ ms) zero (suc n) s = inr s
set_back (m ∷ ms) (suc i) zero s = inr s
set_back (m ∷ ms) (suc i) (suc n) s = elim (set_back ms i n s) [ inl e ↦ inl (ap suc e) | inr t ↦ inr t ]

pub set_more : (ms : List Bool) (i : ℕ) → Stands ms i false → marked (set ms i true) ≡ suc (marked ms)
set_more [] i s = absurd (stands_none i false s)
set_more (false ∷ ms) zero s = refl
set_more (true ∷ ms) zero s = let e : true ≡ false = stands_one (true ∷ ms) 0 true false refl s in absurd (cc e)
set_more (true ∷ ms) (suc i) s = ap suc (set_more ms i s)
set_more (false ∷ ms) (suc i) s = set_more ms i s

-- Events that are opened

-- an event that is marked
pub opens_old : (event : EventId) (old new : Walk) → new.marks.items ≡ old.marks.items
    → new.ahead.items ≡ old.ahead.items → Stands old.marks.items event.n true → OpensEvents (λ (x : EventId). x ≡ event) old new
opens_old event old new e f s = record {
  long = ap length e;
  kept = λ n t. subst (λ (z : List Bool). Stands z n true) (sym e) t;
  all = λ x i. subst (λ (z : List Bool). Stands z x.n true) (sym e)
      (subst (λ (y : EventId). Stands old.marks.items y.n true) (sym i) s);
  only = λ n t. inl (subst (λ (z : List Bool). Stands z n true) e t);
  waits = λ x i. subst (λ (z : List EventId). IsOneOf z x) (sym f) i;
  ahead = λ x i. inl (subst (λ (z : List EventId). IsOneOf z x) f i);
  spent = let a = ap marked e in let b = ap length f in omega (arith, a, b);
}

-- an event that is not
pub opens_new : (event : EventId) (old new : Walk) → new.marks.items ≡ set old.marks.items event.n true
    → new.ahead.items ≡ old.ahead.items ++ event ∷ [] → Stands old.marks.items event.n false
    → OpensEvents (λ (x : EventId). x ≡ event) old new
opens_new event old new e f s = record {
  long = ap length e ∙ set_long old.marks.items event.n;
  kept = λ n t. subst (λ (z : List Bool). Stands z n true) (sym e) (set_kept old.marks.items event.n n t);
  all = λ x i. subst (λ (y : EventId). Stands new.marks.items y.n true) (sym i) here;
  only = λ n t. elim (set_back old.marks.items event.n n (subst (λ (z : List Bool). Stands z n true) e t)) [
    | inl i ↦ inr (record { event = event; has = refl; number = sym i; is_ahead = last })
    | inr u ↦ inl u
  ];
  waits = λ x i. subst (λ (z : List EventId). IsOneOf z x) (sym f) (one_left old.ahead.items (event ∷ []) x i);
  ahead = λ x i. elim (one_split old.ahead.items (event ∷ []) x (subst (λ (z : List EventId). IsOneOf z x) f i)) [
    | inl j ↦ inl j
    | inr j ↦ elim (one_cases event [] x j) [
      | inl k ↦ inr (subst (λ (y : EventId). Stands new.marks.items y.n true) k here)
      | inr k ↦ absurd (one_none x k)
    ]
  ];
  spent =
      let a = ap marked e in
      let b = set_more old.marks.items event.n s in
      let c = ap length f in
      let d = length-append old.ahead.items (event ∷ []) in
      omega (arith, a, b, c, d);
}
  where
    here : Stands new.marks.items event.n true
    here = subst (λ (z : List Bool). Stands z event.n true) (sym e)
        (set_here old.marks.items event.n (stands_within old.marks.items event.n false s))

    last : IsOneOf new.ahead.items event
    last = subst (λ (z : List EventId). IsOneOf z event) (sym f)
        (one_right old.ahead.items (event ∷ []) event (one_first event []))

-- nothing
pub opens_none : (P : EventId → Type 0) (walk : Walk) → ((x : EventId) → P x → ⊥) → OpensEvents P walk walk
opens_none P walk none = record {
  long = refl;
  kept = λ n t. t;
  all = λ x i. absurd (none x i);
  only = λ n t. inl t;
  waits = λ x i. i;
  ahead = λ x i. inl i;
  spent = refl;
}

-- some, and then others
pub opens_both : (P Q R : EventId → Type 0) (old mid new : Walk) → OpensEvents P old mid → OpensEvents Q mid new
    → ((x : EventId) → R x → P x ⊎ Q x) → ((x : EventId) → P x → R x) → ((x : EventId) → Q x → R x)
    → OpensEvents R old new
opens_both P Q R old mid new a b split p q = record {
  long = b.long ∙ a.long;
  kept = λ n t. b.kept n (a.kept n t);
  all = λ x r. elim (split x r) [ inl i ↦ b.kept x.n (a.all x i) | inr i ↦ b.all x i ];
  only = λ n t. elim (b.only n t) [
    | inl u ↦ elim (a.only n u) [
      | inl v ↦ inl v
      | inr w ↦ inr (record
          { event = w.event; has = p w.event w.has; number = w.number; is_ahead = b.waits w.event w.is_ahead })
    ]
    | inr w ↦ inr (record { event = w.event; has = q w.event w.has; number = w.number; is_ahead = w.is_ahead })
  ];
  waits = λ x i. b.waits x (a.waits x i);
  ahead = λ x i. elim (b.ahead x i) [
    | inl j ↦ elim (a.ahead x j) [ inl k ↦ inl k | inr t ↦ inr (b.kept x.n t) ]
    | inr t ↦ inr t
  ];
  spent = let s = a.spent in let t = b.spent in omega (arith, s, t);
}

-- the same events by other words
pub opens_as : (P Q : EventId → Type 0) (old new : Walk) → OpensEvents P old new → ((x : EventId) → P x → Q x)
    → ((x : EventId) → Q x → P x) → OpensEvents Q old new
opens_as P Q old new a to from =
    opens_both P (λ (x : EventId). ⊥) Q old new new a (opens_none (λ (x : EventId). ⊥) new (λ x h. h))
    (λ x h. inl (from x h)) to (λ x h. absurd h)

-- Parts, one after the other

-- one of the parts before this place
pub record IsBefore (parts : List (Bool × EventId)) (i : ℕ) (x : EventId) : Type 0 where
  pub place : ℕ
  pub below : place < i
  pub must : Bool
  pub stands : Stands parts place (must, x)

pub parts_start : (parts : List (Bool × EventId)) (walk : Walk) → OpensEvents (IsBefore parts 0) walk walk
parts_start parts walk =
    opens_none (IsBefore parts 0) walk (λ x h. let l = h.below in omega (arith, l))

pub parts_next : (parts : List (Bool × EventId)) (i : ℕ) (p : Bool × EventId) (old mid new : Walk) → Stands parts i p
    → OpensEvents (IsBefore parts i) old mid → OpensEvents (λ (x : EventId). x ≡ p.1) mid new
    → OpensEvents (IsBefore parts (i + 1)) old new
parts_next parts i p old mid new s a b =
    opens_both (IsBefore parts i) (λ (x : EventId). x ≡ p.1) (IsBefore parts (i + 1)) old mid new a b
    (λ x h. split x h.place h.below h.must h.stands)
    (λ x h. let l = h.below in record { place = h.place; below = omega (arith, l); must = h.must; stands = h.stands })
    (λ x h. record {
      place = i;
      below = omega arith;
      must = p.0;
      stands = subst (λ (y : EventId). Stands parts i (p.0, y)) (sym h) s;
    })
  where
    split : (x : EventId) (k : ℕ) → k < i + 1 → (m : Bool) → Stands parts k (m, x)
        → IsBefore parts i x ⊎ (x ≡ p.1)
    split x k l m t = elim (cases_lt k i) [
      | inl h ↦ inl (record { place = k; below = h; must = m; stands = t })
      | inr h ↦ (
          let e : k ≡ i = omega (arith, l, h) in
          let u : Stands parts i (m, x) = subst (λ (n : ℕ). Stands parts n (m, x)) e t in
          inr (ap (λ (q : Bool × EventId). q.1) (stands_one parts i (m, x) p u s))
          )
    ]

pub parts_end : (parts : List (Bool × EventId)) (i : ℕ) (old new : Walk) → length parts ≤ i
    → OpensEvents (IsBefore parts i) old new → OpensEvents (IsAmong parts) old new
parts_end parts i old new l a =
    opens_as (IsBefore parts i) (IsAmong parts) old new a
    (λ x h. record { must = h.must; is_part = one_here parts h.place (h.must, x) h.stands })
    (λ x h. let w = stands_within parts h.is_part.place (h.must, x) h.is_part.stands in
    record { place = h.is_part.place; below = omega (arith, w, l); must = h.must; stands = h.is_part.stands })

-- Ways, one after the other

-- a part of one of the ways before this place
pub record IsPartBefore (ways : List DeclaredWay) (i : ℕ) (x : EventId) : Type 0 where
  pub place : ℕ
  pub below : place < i
  pub parts : Vec (Bool × EventId) Global
  pub at : Place
  pub stands : Stands ways place (Sync parts at)
  pub must : Bool
  pub is_part : IsOneOf parts.items (must, x)

pub ways_start : (ways : List DeclaredWay) (walk : Walk) → OpensEvents (IsPartBefore ways 0) walk walk
ways_start ways walk = opens_none (IsPartBefore ways 0) walk (λ x h. let l = h.below in omega (arith, l))

before_on : (ways : List DeclaredWay) (i : ℕ) (x : EventId) → IsPartBefore ways i x → IsPartBefore ways (i + 1) x
before_on ways i x h = let l = h.below in record {
  place = h.place;
  below = omega (arith, l);
  parts = h.parts;
  at = h.at;
  stands = h.stands;
  must = h.must;
  is_part = h.is_part;
}

-- a part before the next place is one before this place, or one of the way that stands here
before_split : (ways : List DeclaredWay) (i : ℕ) (w : DeclaredWay) (x : EventId) → Stands ways i w
    → IsPartBefore ways (i + 1) x
    → IsPartBefore ways i x
    ⊎ ((parts : Vec (Bool × EventId) Global) × (at : Place) × (w ≡ Sync parts at) × IsAmong parts.items x)
before_split ways i w x s h = elim (cases_lt h.place i) [
  | inl l ↦ inl (record {
    place = h.place;
    below = l;
    parts = h.parts;
    at = h.at;
    stands = h.stands;
    must = h.must;
    is_part = h.is_part;
  })
  | inr l ↦ (
      let b = h.below in
      let e : h.place ≡ i = omega (arith, l, b) in
      let t : Stands ways i (Sync h.parts h.at) = subst (λ (n : ℕ). Stands ways n (Sync h.parts h.at)) e h.stands in
      inr (h.parts, h.at, stands_one ways i w (Sync h.parts h.at) s t, record { must = h.must; is_part = h.is_part })
      )
]

pub ways_next : (ways : List DeclaredWay) (i : ℕ) (w : DeclaredWay) (parts : Vec (Bool × EventId) Global) (at : Place)
    (old mid new : Walk) → Stands ways i w → w ≡ Sync parts at → OpensEvents (IsPartBefore ways i) old mid
    → OpensEvents (IsAmong parts.items) mid new → OpensEvents (IsPartBefore ways (i + 1)) old new
ways_next ways i w parts at old mid new s e a b =
    opens_both (IsPartBefore ways i) (IsAmong parts.items) (IsPartBefore ways (i + 1)) old mid new a b
    (λ x h. elim (before_split ways i w x s h) [
      | inl j ↦ inl j
      | inr j ↦ inr (subst (λ (v : Vec (Bool × EventId) Global). IsAmong v.items x)
          (same j.0 j.1 (sym j.2 ∙ e)) j.3)
    ])
    (λ x h. before_on ways i x h)
    (λ x h. record {
      place = i;
      below = omega arith;
      parts = parts;
      at = at;
      stands = subst (λ (v : DeclaredWay). Stands ways i v) e s;
      must = h.must;
      is_part = h.is_part;
    })
  where
    same : (v : Vec (Bool × EventId) Global) (p : Place) → Sync v p ≡ Sync parts at → v ≡ parts
    same v p k = cc

-- a part of the way that stands here is one of the ways
pub part_here : (ways : List DeclaredWay) (i : ℕ) (w : DeclaredWay) (parts : Vec (Bool × EventId) Global) (at : Place)
    (x : EventId) → Stands ways i w → w ≡ Sync parts at → IsAmong parts.items x → IsPartOfWays ways x
part_here ways i w parts at x s e h = record {
  parts = parts;
  at = at;
  is_way = one_here ways i (Sync parts at) (subst (λ (v : DeclaredWay). Stands ways i v) e s);
  must = h.must;
  is_part = h.is_part;
}

-- a transition has no parts
pub ways_skip : (ways : List DeclaredWay) (i : ℕ) (w : DeclaredWay) (old new : Walk) → Stands ways i w
    → ((parts : Vec (Bool × EventId) Global) (at : Place) → w ≡ Sync parts at → ⊥)
    → OpensEvents (IsPartBefore ways i) old new → OpensEvents (IsPartBefore ways (i + 1)) old new
ways_skip ways i w old new s none a =
    opens_as (IsPartBefore ways i) (IsPartBefore ways (i + 1)) old new a (λ x h. before_on ways i x h)
    (λ x h. elim (before_split ways i w x s h) [ inl j ↦ j | inr j ↦ absurd (none j.0 j.1 j.2) ])

pub ways_end : (ways : List DeclaredWay) (i : ℕ) (old new : Walk) → length ways ≤ i
    → OpensEvents (IsPartBefore ways i) old new → OpensEvents (IsPartOfWays ways) old new
ways_end ways i old new l a =
    opens_as (IsPartBefore ways i) (IsPartOfWays ways) old new a
    (λ x h. record {
      parts = h.parts;
      at = h.at;
      is_way = one_here ways h.place (Sync h.parts h.at) h.stands;
      must = h.must;
      is_part = h.is_part;
    })
    (λ x h. let w = stands_within ways h.is_way.place (Sync h.parts h.at) h.is_way.stands in
    record {
      place = h.is_way.place;
      below = omega (arith, w, l);
      parts = h.parts;
      at = h.at;
      stands = h.is_way.stands;
      must = h.must;
      is_part = h.is_part;
    })

-- The walk from one event

-- the event is ahead
pub record IsAhead (ahead : List EventId) (n : ℕ) : Type 0 where
  pub event : EventId
  pub is_one : IsOneOf ahead event
  pub number : event.n ≡ n

-- all parts of the event are marked
pub record IsClosed (events : List DeclaredEvent) (marks : List Bool) (n : ℕ) : Type 0 where
  pub parts : (p : ℕ) → HasPart (declared_from 0 events) n p → Stands marks p true

-- so far: what is marked is reached, and ahead, or its parts are marked too
pub record IsWalk (events : List DeclaredEvent) (from : ℕ) (walk : Walk) : Type 0 where
  pub long : length walk.marks.items ≡ length events
  pub start : Stands walk.marks.items from true
  pub only : (n : ℕ) → Stands walk.marks.items n true → IsEventReached events from n
  pub ahead : (x : EventId) → IsOneOf walk.ahead.items x → Stands walk.marks.items x.n true
  pub closed : (n : ℕ) → Stands walk.marks.items n true
      → IsAhead walk.ahead.items n ⊎ IsClosed events walk.marks.items n

module _ (events : List DeclaredEvent) (sound : AreExpandable events) (from : ℕ) where
  pub walk_start : (event : EventId) (old new : Walk) → event.n ≡ from → length old.marks.items ≡ length events
      → ((n : ℕ) → Stands old.marks.items n true → ⊥) → old.ahead.items ≡ []
      → OpensEvents (λ (x : EventId). x ≡ event) old new → IsWalk events from new
  walk_start event old new e l none f a = record {
    long = a.long ∙ l;
    start = subst (λ (n : ℕ). Stands new.marks.items n true) e (a.all event refl);
    only = λ n t. elim (a.only n t) [
      | inl u ↦ absurd (none n u)
      | inr w ↦ inl (sym e ∙ (sym (ap (λ (x : EventId). x.n) w.has) ∙ w.number))
    ];
    ahead = λ x i. elim (a.ahead x i) [
      | inl j ↦ absurd (one_none x (subst (λ (z : List EventId). IsOneOf z x) f j))
      | inr t ↦ t
    ];
    closed = λ n t. elim (a.only n t) [
      | inl u ↦ absurd (none n u)
      | inr w ↦ inl (record { event = w.event; is_one = w.is_ahead; number = w.number })
    ];
  }

  -- a part of a declared event's ways is one of the event's parts
  pub is_part : (event : EventId) (d : DeclaredEvent) (x : EventId) → Stands events event.n d
      → IsPartOfWays d.ways.items x → HasPart (declared_from 0 events) event.n x.n
  is_part event d x s p = part_named events event.n x.n (record {
    declared = d;
    stands = s;
    parts = p.parts;
    at = p.at;
    is_way = p.is_way;
    part = (p.must, x);
    is_part = p.is_part;
    number = refl;
  })

  pub part_within : (event : EventId) (d : DeclaredEvent) (x : EventId) → Stands events event.n d
      → IsPartOfWays d.ways.items x → x.n < length events
  part_within event d x s p =
      sound.parts event.n p.is_way.place d p.parts p.at s p.is_way.stands (p.must, x) p.is_part

  pub walk_next : (event : EventId) (d : DeclaredEvent) (old mid new : Walk) → Stands events event.n d
      → mid.marks.items ≡ old.marks.items → old.ahead.items ≡ mid.ahead.items ++ event ∷ []
      → OpensEvents (IsPartOfWays d.ways.items) mid new → IsWalk events from old → IsWalk events from new
  walk_next event d old mid new s e f a w = record {
    long = a.long ∙ (ap length e ∙ w.long);
    start = a.kept from (back from w.start);
    only = λ n t. elim (a.only n t) [
      | inl u ↦ w.only n (subst (λ (z : List Bool). Stands z n true) e u)
      | inr i ↦ subst (λ (k : ℕ). IsEventReached events from k) i.number
          (reached_on events from event.n i.event.n (w.only event.n (w.ahead event last))
          (is_part event d i.event s i.has))
    ];
    ahead = λ x i. elim (a.ahead x i) [
      | inl j ↦ a.kept x.n (back x.n (w.ahead x (was x j)))
      | inr t ↦ t
    ];
    closed = λ n t. elim (a.only n t) [
      | inl u ↦ elim (w.closed n (subst (λ (z : List Bool). Stands z n true) e u)) [
        | inl o ↦ still n o
        | inr c ↦ inr (record { parts = λ p h. a.kept p (back p (c.parts p h)) })
      ]
      | inr i ↦ inl (record { event = i.event; is_one = i.is_ahead; number = i.number })
    ];
  }
    where
      back : (n : ℕ) → Stands old.marks.items n true → Stands mid.marks.items n true
      back n t = subst (λ (z : List Bool). Stands z n true) (sym e) t

      was : (x : EventId) → IsOneOf mid.ahead.items x → IsOneOf old.ahead.items x
      was x i = subst (λ (z : List EventId). IsOneOf z x) (sym f) (one_left mid.ahead.items (event ∷ []) x i)

      last : IsOneOf old.ahead.items event
      last = subst (λ (z : List EventId). IsOneOf z event) (sym f)
          (one_right mid.ahead.items (event ∷ []) event (one_first event []))

      closes : IsClosed events new.marks.items event.n
      closes = record {
        parts = λ p h. by p (named_part events event.n p h);
      }
        where
          by : (p : ℕ) → NamesPart events event.n p → Stands new.marks.items p true
          by p h =
              let same : h.declared ≡ d = stands_one events event.n h.declared d h.stands s in
              subst (λ (n : ℕ). Stands new.marks.items n true) h.number (a.all h.part.1 (record {
                parts = h.parts;
                at = h.at;
                is_way = subst (λ (z : DeclaredEvent). IsOneOf z.ways.items (Sync h.parts h.at)) same h.is_way;
                must = h.part.0;
                is_part = h.is_part;
              }))

      still : (n : ℕ) → IsAhead old.ahead.items n → IsAhead new.ahead.items n ⊎ IsClosed events new.marks.items n
      still n o = elim (one_split mid.ahead.items (event ∷ []) o.event
          (subst (λ (z : List EventId). IsOneOf z o.event) f o.is_one)) [
            | inl j ↦ inl (record { event = o.event; is_one = a.waits o.event j; number = o.number })
            | inr j ↦ elim (one_cases event [] o.event j) [
              | inl k ↦ inr (subst (λ (m : ℕ). IsClosed events new.marks.items m)
                  (ap (λ (x : EventId). x.n) k ∙ o.number) closes)
              | inr k ↦ absurd (one_none o.event k)
            ]
          ]

  -- an event that is ahead is one of the system
  pub event_ahead : (event : EventId) (walk : Walk) (rest : List EventId) → walk.ahead.items ≡ rest ++ event ∷ []
      → IsWalk events from walk → event.n < length events
  event_ahead event walk rest f w =
      let i = subst (λ (z : List EventId). IsOneOf z event) (sym f) (one_right rest (event ∷ []) event (one_first event [])) in
      let l = stands_within walk.marks.items event.n true (w.ahead event i) in
      let n = w.long in
      omega (arith, l, n)

  pub walk_end : (walk : Walk) → walk.ahead.items ≡ [] → IsWalk events from walk
      → AreReachedFrom events from walk.marks.items
  walk_end walk e w = record { long = w.long; only = w.only; all = all }
    where
      closed : (n : ℕ) → Stands walk.marks.items n true → IsClosed events walk.marks.items n
      closed n t = elim (w.closed n t) [
        | inl o ↦ absurd (one_none o.event (subst (λ (z : List EventId). IsOneOf z o.event) e o.is_one))
        | inr c ↦ c
      ]

      along : (a b : ℕ) → ReachesPart (declared_from 0 events) a b → Stands walk.marks.items a true
          → Stands walk.marks.items b true
      along a b (part_of h) t = (closed a t).parts b h
      along a b (further {e = p} h r) t = along p b r ((closed a t).parts p h)

      all : (n : ℕ) → IsEventReached events from n → Stands walk.marks.items n true
      all n (inl i) = subst (λ (k : ℕ). Stands walk.marks.items k true) i w.start
      all n (inr r) = along from n r w.start

-- each turn leaves one less to be looked at
pub walk_spent : (P : EventId → Type 0) (old mid new : Walk) (event : EventId) → mid.marks.items ≡ old.marks.items
    → old.ahead.items ≡ mid.ahead.items ++ event ∷ [] → OpensEvents P mid new
    → length new.marks.items - marked new.marks.items + length new.ahead.items
    < length old.marks.items - marked old.marks.items + length old.ahead.items
walk_spent P old mid new event e f a =
    let s = a.spent in
    let l = a.long in
    let i = ap length e in
    let j = ap marked e in
    let k = ap length f in
    let n = length-append mid.ahead.items (event ∷ []) in
    let v = marked_within new.marks.items in
    let w = marked_within old.marks.items in
    omega (arith, s, l, i, j, k, n, v, w)

-- Counts of what is reached

-- one count more
pub count_next : (events : List DeclaredEvent) (old new : List ℕ) (i : ℕ) (marks : List Bool) (count : ℕ)
    → length old ≡ i → ((n : ℕ) → n < i → IsReachCount events n (slice_index old n)) → AreReachedFrom events i marks
    → count ≡ marked marks → new ≡ old ++ count ∷ []
    → (length new ≡ i + 1) × ((n : ℕ) → n < i + 1 → IsReachCount events n (slice_index new n))
count_next events old new i marks count l each are is e = (
  (let a = ap length e in let b = length-append old (count ∷ []) in omega (arith, a, b, l)),
  λ n h. elim (cases_lt n i) [
    | inl k ↦ subst (λ (m : ℕ). IsReachCount events n m)
        (sym (read_number new n (slice_index old n) (subst (λ (z : List ℕ). Stands z n (slice_index old n)) (sym e)
        (stands_left old (count ∷ []) n (slice_index old n) (stands_get old n 0 (omega (arith, k, l))))))) (each n k)
    | inr k ↦ (
        let s : i ≡ n = omega (arith, h, k) in
        let t : Stands (old ++ count ∷ []) (length old) count = stands_next old count [] in
        let u = subst (λ (m : ℕ). Stands (old ++ count ∷ []) m count) (l ∙ s) t in
        subst (λ (m : ℕ). IsReachCount events n m)
        (sym (read_number new n count (subst (λ (z : List ℕ). Stands z n count) (sym e) u)))
        (subst (λ (m : ℕ). IsReachCount events m count) s (record { marks = marks; are = are; is = is }))
        )
  ],
)

module _ (events : List DeclaredEvent) (sound : AreExpandable events) (counts : List ℕ)
    (are : AreReachCounts events counts) where
  event_within : (e p : ℕ) → HasPart (declared_from 0 events) e p → (e < length events) × (p < length events)
  event_within e p h = by (named_part events e p h)
    where
      by : NamesPart events e p → (e < length events) × (p < length events)
      by n = (
        stands_within events e n.declared n.stands,
        subst (λ (k : ℕ). k < length events) n.number
            (sound.parts e n.is_way.place n.declared n.parts n.at n.stands n.is_way.stands n.part n.is_part),
      )

  up : (e p n : ℕ) → HasPart (declared_from 0 events) e p → IsEventReached events p n → IsEventReached events e n
  up e p n h (inl i) = inr (part_of (subst (λ (k : ℕ). HasPart (declared_from 0 events) e k) i h))
  up e p n h (inr r) = inr (further h r)

  -- a part's count is no greater
  pub counts_level : (e p : ℕ) → HasPart (declared_from 0 events) e p → slice_index counts p ≤ slice_index counts e
  counts_level e p h =
      let w = event_within e p h in
      let a = are.each e w.0 in
      let b = are.each p w.1 in
      let l = marked_subset b.marks a.marks (b.are.long ∙ sym a.are.long)
      (λ n s. a.are.all n (up e p n h (b.are.only n s))) in
      let i = a.is in
      let j = b.is in
      omega (arith, l, i, j)

  -- from a part whose count is no less the event is reached
  pub counts_back : (e p : ℕ) → HasPart (declared_from 0 events) e p → slice_index counts e ≤ slice_index counts p
      → IsEventReached events p e
  counts_back e p h l =
      let w = event_within e p h in
      let a = are.each e w.0 in
      let b = are.each p w.1 in
      let i = a.is in
      let j = b.is in
      b.are.only e (marked_alike b.marks a.marks (b.are.long ∙ sym a.are.long)
      (λ n s. a.are.all n (up e p n h (b.are.only n s))) (omega (arith, l, i, j)) e (a.are.all e (inl refl)))
