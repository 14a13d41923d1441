-- The ways of declared events: how many there are, and that there are any.
use Rattle.std.proofs.Common.{◌≡◌, ℕ, zero, suc, ◌+◌, ◌*◌, ◌<◌, Bool, List, [], ◌∷◌, ◌++◌, length, map, Vec, slice_index, refl, sym, ◌∙◌, ap, subst, arith, length-append}
use Rattle.std.proofs.lemmas.List.{length-map}
use Rattle.std.specs.Global.{Global}
use Rattle.ar_base.specs.Lists.{Stands, IsOneOf, Along}
use Rattle.ar_base.specs.Lists as l
use Rattle.ar_base.specs.NumbersInside.{EventId}
use Rattle.ar_base.specs.declared.places.Place.{Place}
use Rattle.ar_base.proofs.Standing.{stands_one, stands_map, stands_within, stands_some, along_on, along_length, one_first, one_rest}
use Rattle.ar_meaning.specs.Systems.{Tree, Leaf, Joint, Branches, Empty, Branch, Transition}
use Rattle.ar_meaning.specs.Expand.{EventDeclaration, Member, One, Synchronises, Ways, event, Members_give, no_member, one, synchronises, Parts_give, no_part, choice, choices}
use Rattle.ar_meaning.specs.ExpandInside.{AreKeyedEvents}
use Rattle.ar_meaning.proofs.OneRun.{ways_same}
use Rattle.gts_core.specs.Bound.{declared_from, member_of, event_part_of}
use Rattle.gts_core.specs.declared.bound.DeclaredEvent.{DeclaredEvent}
use Rattle.gts_core.specs.declared.bound.DeclaredWay.{DeclaredWay}
use Rattle.gts_core.specs.declared.bound.DeclaredWay.TheVariants.{Local, Sync}
use Rattle.sync_expand.specs.Counts.{AreCounts, choice_count, way_count, parts_given, all_parts}
use Rattle.sync_expand.specs.Expanding.{AreWays, AreExpandable}
use Rattle.sync_expand.specs.Counting.{parts_in, way_parts}
use Rattle.sync_expand.specs.Links.{Falls}
use Rattle.sync_expand.proofs.Capping.{read_number}
use Rattle.sync_expand.proofs.DeclaredLemmas.{declared_stands, declared_back, declared_key, part_named}

-- each choice has one of the first ways
pub choices_length : {L : Type 0} (must : Bool) (ts : List (Tree L)) (bss : List (Branches L))
    → length (choices must ts bss) ≡ length ts * length bss
choices_length must [] bss = omega arith
choices_length must (t ∷ ts) bss =
    let i = choices_length must ts bss in
    let a = length-append (map (λ bs. Branch must t bs) bss) (choices must ts bss) in
    let m = length-map bss (λ bs. Branch must t bs) in
    omega (arith, i, a, m)

-- the parts of joined lists of ways
pub parts_append : {L : Type 0} (ts us : List (Tree L)) → parts_in (ts ++ us) ≡ parts_in ts + parts_in us
parts_append [] us = omega arith
parts_append (t ∷ ts) us = let i = parts_append ts us in omega (arith, i)

-- the parts of choices with one part more
pub parts_branch : {L : Type 0} (must : Bool) (t : Tree L) (bss : List (Branches L))
    → parts_in (map Joint (map (λ bs. Branch must t bs) bss)) ≡ length bss + parts_in (map Joint bss)
parts_branch must t [] = refl
parts_branch must t (bs ∷ bss) = let i = parts_branch must t bss in omega (arith, i)

pub map_join : {A B : Type 0} (f : A → B) (xs ys : List A) → map f (xs ++ ys) ≡ map f xs ++ map f ys
map_join f [] ys = refl
map_join {B = B} f (x ∷ xs) ys = ap (λ (zs : List B). f x ∷ zs) (map_join f xs ys)

pub parts_choices : {L : Type 0} (must : Bool) (ts : List (Tree L)) (bss : List (Branches L))
    → parts_in (map Joint (choices must ts bss)) ≡ length ts * (length bss + parts_in (map Joint bss))
parts_choices must [] bss = omega arith
parts_choices must (t ∷ ts) bss =
    let i = parts_choices must ts bss in
    let j = map_join Joint (map (λ bs. Branch must t bs) bss) (choices must ts bss) in
    let k = ap parts_in j in
    let a = parts_append (map Joint (map (λ bs. Branch must t bs) bss)) (map Joint (choices must ts bss)) in
    let b = parts_branch must t bss in
    omega (arith, i, k, a, b)

module _ {L : Type 0} (ds : List (EventDeclaration L ℕ)) (keyed : AreKeyedEvents ds)
    (numbered : (n : ℕ) (d : EventDeclaration L ℕ) → Stands ds n d → d.key ≡ n) (wss : List (List (Tree L)))
    (are : AreWays ds wss) where
  -- the ways of an event stand at its number
  pub ways_at : (e : ℕ) (ts : List (Tree L)) → Ways ds e ts → Stands wss e ts
  ways_at e ts w = by w
    where
      by : Ways ds e ts → Stands wss e ts
      by (event {d = d} n s k m) =
          let here : n ≡ e = sym (numbered n d s) ∙ k in
          let a = along_on ds wss are n d s in
          let same : a.0 ≡ ts = ways_same ds keyed (subst (λ (x : ℕ). Ways ds x a.0) k a.2) w in
          subst (λ (us : List (Tree L)). Stands wss e us) same (subst (λ (x : ℕ). Stands wss x a.0) here a.1)

  pub count_read : (e : ℕ) (ts : List (Tree L)) → Ways ds e ts → slice_index (map length wss) e ≡ length ts
  count_read e ts w = read_number (map length wss) e (length ts) (stands_map length wss e ts (ways_at e ts w))

  -- the ways that members and parts give are as many as sums and products say
  mutual
    pub members_count : {ms : List (Member L ℕ)} {ts : List (Tree L)} → Members_give ds ms ts
        → length ts ≡ way_count (map length wss) ms
    members_count no_member = refl
    members_count (one d) = let i = members_count d in omega (arith, i)
    members_count (synchronises {bss = bss} {ts = ts} p d) =
        let i = members_count d in
        let j = parts_count p in
        let a = length-append (map Joint bss) ts in
        let m = length-map bss Joint in
        omega (arith, i, j, a, m)

    pub parts_count : {ps : List (Bool × ℕ)} {bss : List (Branches L)} → Parts_give ds ps bss
        → length bss ≡ choice_count (map length wss) ps
    parts_count no_part = refl
    parts_count (choice {must = must} {e = e} {ts = ts} {bss = bss} w p) =
        let i = parts_count p in
        let c = count_read e ts w in
        choices_length must ts bss ∙ (ap (λ (n : ℕ). n * length bss) (sym c)
        ∙ ap (λ (n : ℕ). slice_index (map length wss) e * n) i)

  -- so are their parts
  pub branches_parts : {ps : List (Bool × ℕ)} {bss : List (Branches L)} → Parts_give ds ps bss
      → parts_in (map Joint bss) ≡ length bss * length ps
  branches_parts no_part = refl
  branches_parts (choice {must = must} {ps = ps} {ts = ts} {bss = bss} w p) =
      let i = branches_parts p in
      parts_choices must ts bss ∙ (ap (λ (n : ℕ). length ts * (length bss + n)) i
      ∙ (shape (length ts) (length bss) (length ps)
      ∙ ap (λ (n : ℕ). n * suc (length ps)) (sym (choices_length must ts bss))))
    where
      shape : (a b c : ℕ) → a * (b + b * c) ≡ (a * b) * suc c
      shape a b c = grind arith

  pub members_parts : {ms : List (Member L ℕ)} {ts : List (Tree L)} → Members_give ds ms ts
      → parts_in ts ≡ parts_given (map length wss) ms
  members_parts no_member = refl
  members_parts (one d) = let i = members_parts d in omega (arith, i)
  members_parts (synchronises {ps = ps} {bss = bss} {ts = ts} p d) =
      let i = members_parts d in
      let b = branches_parts p in
      let c = ap (λ (n : ℕ). n * length ps) (parts_count p) in
      let a = parts_append (map Joint bss) ts in
      omega (arith, i, b, c, a)

  -- an event's ways are those that its members give
  pub own_members : (n : ℕ) (d : EventDeclaration L ℕ) (ts : List (Tree L)) → Stands ds n d → Ways ds d.key ts
      → Members_give ds d.members ts
  own_members n d ts s w = by w
    where
      by : Ways ds d.key ts → Members_give ds d.members ts
      by (event {d = x} k t e m) =
          let here : k ≡ n = keyed.one k n x d t s e in
          let same : x ≡ d = stands_one ds n x d (subst (λ (i : ℕ). Stands ds i x) here t) s in
          subst (λ (y : EventDeclaration L ℕ). Members_give ds y.members ts) same m

  -- the numbers of ways are the counts
  pub are_counts : AreCounts ds (map length wss)
  are_counts = record {
    long = length-map wss length ∙ sym (along_length ds wss are);
    each = λ n d s.
        let a = along_on ds wss are n d s in
        subst (λ (k : ℕ). Stands (map length wss) n k) (members_count (own_members n d a.0 s a.2))
        (stands_map length wss n a.0 a.1);
  }

  pub all_parts_of : {xs : List (EventDeclaration L ℕ)} {uss : List (List (Tree L))}
      → ((d : EventDeclaration L ℕ) → IsOneOf xs d → IsOneOf ds d) → Along (λ d ts. Ways ds d.key ts) xs uss
      → way_parts uss ≡ all_parts (map length wss) xs
  all_parts_of of l.none = refl
  all_parts_of of (l.one_and {a = d} {b = ts} {xs = xs} {ys = uss} w ws) =
      let o = of d (one_first d xs) in
      let i = all_parts_of (λ x h. of x (one_rest d xs x h)) ws in
      let j = members_parts (own_members o.place d ts o.stands w) in
      omega (arith, i, j)

  pub parts_total : way_parts wss ≡ all_parts (map length wss) ds
  parts_total = all_parts_of (λ d h. h) are

-- an event has ways
abbrev pub HasWays : List DeclaredEvent → ℕ → Type 0
HasWays events e = (ts : List (Tree (Transition ℕ))) × Ways (declared_from 0 events) e ts

-- parts whose events have ways give choices
pub parts_give : (events : List DeclaredEvent) (ps : List (Bool × EventId))
    → ((p : Bool × EventId) → IsOneOf ps p → HasWays events p.1.n)
    → (bss : List (Branches (Transition ℕ))) × Parts_give (declared_from 0 events) (map event_part_of ps) bss
parts_give events [] h = (Empty ∷ [], no_part)
parts_give events (p ∷ ps) h =
    let w = h p (one_first p ps) in
    let r = parts_give events ps (λ q i. h q (one_rest p ps q i)) in
    (choices p.0 w.0 r.0, choice w.1 r.1)

-- members whose parts' events have ways give ways
pub members_give : (events : List DeclaredEvent) (ws : List DeclaredWay)
    → ((parts : Vec (Bool × EventId) Global) (at : Place) → IsOneOf ws (Sync parts at) → (p : Bool × EventId)
    → IsOneOf parts.items p → HasWays events p.1.n)
    → (ts : List (Tree (Transition ℕ))) × Members_give (declared_from 0 events) (map member_of ws) ts
members_give events [] h = ([], no_member)
members_give events (Local guard action ∷ ws) h =
    let r = members_give events ws (λ parts at i. h parts at (one_rest (Local guard action) ws (Sync parts at) i)) in
    (Leaf (leaf (member_of (Local guard action)) refl) ∷ r.0, one r.1)
  where
    leaf : (m : Member (Transition ℕ) ℕ) → m ≡ member_of (Local guard action) → Transition ℕ
    leaf (One t) e = t
    leaf (Synchronises ps) e = absurd (cc)
members_give events (Sync parts at ∷ ws) h =
    let r = members_give events ws (λ ps p i. h ps p (one_rest (Sync parts at) ws (Sync ps p) i)) in
    let b = parts_give events parts.items (h parts at (one_first (Sync parts at) ws)) in
    (map Joint b.0 ++ r.0, synchronises b.1 r.1)

-- where ranks fall, each event has ways
pub event_ways : (events : List DeclaredEvent) (ranks : List ℕ) → Falls events ranks → AreExpandable events
    → (fuel e : ℕ) → slice_index ranks e < fuel → e < length events → HasWays events e
event_ways events ranks falls sound zero e l b = absurd (omega (arith, l))
event_ways events ranks falls sound (suc fuel) e l b =
    let d = stands_some events e b in
    let m = members_give events d.0.ways.items (λ parts at i p j.
    let part = part_named events e p.1.n
    (record {
      declared = d.0;
      stands = d.1;
      parts = parts;
      at = at;
      is_way = i;
      part = p;
      is_part = j;
      number = refl;
    }) in
    let low = falls.falls e p.1.n part in
    event_ways events ranks falls sound fuel p.1.n (omega (arith, low, l))
    (sound.parts e i.place d.0 parts at d.1 i.stands p j)) in
    (m.0, event e (declared_stands 0 events e d.0 d.1) (let same : 0 + e ≡ e = omega arith in same) m.1)

-- the ways of all events
pub along_all : {A B : Type 0} (R : A → B → Type 0) (xs : List A) → ((a : A) → IsOneOf xs a → (b : B) × R a b)
    → (ys : List B) × Along R xs ys
along_all R [] h = ([], l.none)
along_all R (x ∷ xs) h =
    let b = h x (one_first x xs) in
    let r = along_all R xs (λ a i. h a (one_rest x xs a i)) in
    (b.0 ∷ r.0, l.one_and b.1 r.1)

pub all_ways : (events : List DeclaredEvent) (ranks : List ℕ) → Falls events ranks → AreExpandable events
    → (wss : List (List (Tree (Transition ℕ)))) × AreWays (declared_from 0 events) wss
all_ways events ranks falls sound =
    along_all (λ d ts. Ways (declared_from 0 events) d.key ts) (declared_from 0 events) (λ d i.
    let b = declared_back 0 events i.place d i.stands in
    let k = declared_key events i.place d i.stands in
    let w = event_ways events ranks falls sound (suc (slice_index ranks i.place)) i.place (omega arith)
    (stands_within events i.place b.0 b.1) in
    (w.0, subst (λ (n : ℕ). Ways (declared_from 0 events) n w.0) (sym k) w.1))
