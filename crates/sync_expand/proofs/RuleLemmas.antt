-- Rule L14 by links whose ranks climb.
use Rattle.std.proofs.Common.{◌≡◌, ℕ, zero, suc, ◌+◌, ◌<◌, ◌≤◌, length, Bool, List, [], map, Option, Some, None, slice_index, refl, sym, ◌∙◌, ap, subst, inl, inr, arith}
use Rattle.std.proofs.lemmas.Bool.{cases_lt}
use Rattle.ar_base.specs.Breach.{IsEarlier, IsBroken, AreKept}
use Rattle.ar_base.specs.Lists.{Stands, IsOneOf}
use Rattle.ar_base.specs.declared.places.Place.{Place}
use Rattle.ar_base.proofs.Standing.{stands_one, stands_within, stands_map, stands_map_back, one_here}
use Rattle.ar_meaning.specs.Systems.{Transition}
use Rattle.ar_meaning.specs.Expand.{EventDeclaration, Member, Synchronises, HasPart, ReachesPart, part_of, further}
use Rattle.gts_core.specs.Bound.{declared_from, declared_of, member_of, event_part_of}
use Rattle.gts_core.specs.declared.bound.DeclaredEvent.{DeclaredEvent}
use Rattle.gts_core.specs.declared.bound.DeclaredWay.{DeclaredWay}
use Rattle.gts_core.specs.declared.bound.DeclaredWay.TheVariants.{Sync}
use Rattle.sync_expand.specs.Expanding.{AreExpandable, BreaksNumberedSynchronisation, BreaksNumberedWayRule, l14}
use Rattle.sync_expand.specs.Counting.{way_rules}
use Rattle.sync_expand.specs.Links.{Climbs, IsClimb, IsFirstLink, nowhere, there, Falls}
use Rattle.sync_expand.specs.Reached.{IsEventReached}
use Rattle.sync_expand.specs.declared.links.Link.{Link}
use Rattle.sync_expand.proofs.DeclaredLemmas.{NamesPart, named_part, part_named, declared_stands, declared_back, declared_key}
use Rattle.sync_expand.proofs.Reaching.{never_rises, always_falls}

module _ (events : List DeclaredEvent) (ranks : List ℕ) where
  -- the link of a part of a declared event's synchronisation
  pub link_of : (e p gap : ℕ) (h : NamesPart events e p) → Climbs ranks gap e p
      → (l : Link) × IsClimb events ranks gap l × (l.at ≡ h.at) × (l.event.n ≡ e) × (l.part.n ≡ p)
  link_of e p gap h climbs = (
    record { event = record { n = e; of = record {} }; part = h.part.1; at = h.at },
    record {
      declared = h.declared;
      stands = h.stands;
      climb = record {
        way = Sync h.parts h.at;
        is_way = h.is_way;
        climb = record {
          parts = h.parts;
          is = refl;
          event_is = refl;
          climb = record {
            must = h.part.0;
            is_part = h.is_part;
            climbs = subst (λ (n : ℕ). Climbs ranks gap e n) (sym h.number) climbs;
          };
        };
      };
    },
    refl,
    refl,
    h.number,
  )

  -- a link names a part of its event
  pub climb_named : (gap : ℕ) (l : Link) → IsClimb events ranks gap l → NamesPart events l.event.n l.part.n
  climb_named gap l h = record {
    declared = h.declared;
    stands = h.stands;
    parts = h.climb.climb.parts;
    at = l.at;
    is_way = one_here _ h.climb.is_way.place _
        (subst (λ (w : DeclaredWay). Stands h.declared.ways.items h.climb.is_way.place w) h.climb.climb.is
        h.climb.is_way.stands);
    part = (h.climb.climb.climb.must, l.part);
    is_part = h.climb.climb.climb.is_part;
    number = refl;
  }

  -- both are events
  pub link_within : AreExpandable events → (gap : ℕ) (l : Link) → IsClimb events ranks gap l
      → (l.event.n < length events) × (l.part.n < length events)
  link_within sound gap l h =
      let n = climb_named gap l h in (
        stands_within events l.event.n n.declared n.stands,
        subst (λ (k : ℕ). k < length events) n.number
            (sound.parts l.event.n n.is_way.place n.declared n.parts n.at n.stands n.is_way.stands n.part n.is_part),
      )

  -- the first link is one
  pub first_link : {P : Link → Type 0} (f : Option Link) (l : Link) → f ≡ Some l → IsFirstLink P f → P l
  first_link {P = P} f l e h = by (subst (λ (z : Option Link). IsFirstLink P z) e h)
    where
      by : IsFirstLink P (Some l) → P l
      by (there is before) = is

  no_links : {P : Link → Type 0} → IsFirstLink P None → (l : Link) → P l → ⊥
  no_links (nowhere n) l p = n l p

  -- where no link climbs, ranks fall
  pub falls_of : (f : Option Link) → f ≡ None → IsFirstLink (IsClimb events ranks 0) f → Falls events ranks
  falls_of f e h = record {
    falls = λ e p k. elim (cases_lt (slice_index ranks p) (slice_index ranks e)) [
      | inl a ↦ a
      | inr a ↦ (let l = link_of e p 0 (named_part events e p k) (omega (arith, a)) in absurd (no_links first l.0 l.1))
    ];
  }
    where
      first : IsFirstLink (IsClimb events ranks 0) None
      first = subst (λ (z : Option Link). IsFirstLink (IsClimb events ranks 0) z) e h

  -- where no link rises, ranks never rise
  pub level_of : (f : Option Link) → f ≡ None → IsFirstLink (IsClimb events ranks 1) f → (e p : ℕ)
      → HasPart (declared_from 0 events) e p → slice_index ranks p ≤ slice_index ranks e
  level_of f i h e p k = elim (cases_lt (slice_index ranks e) (slice_index ranks p)) [
    | inl a ↦ (let l = link_of e p 1 (named_part events e p k) (omega (arith, a)) in absurd (no_links (subst (λ (z : Option Link). IsFirstLink (IsClimb events ranks 1) z) i h) l.0 l.1))
    | inr a ↦ a
  ]

  -- a link by whose part the event is reached breaks the rule
  pub breach_of : (l : Link) → IsClimb events ranks 0 l → IsEventReached events l.part.n l.event.n
      → BreaksNumberedSynchronisation events l.at
  breach_of l h r = record {
    event = l.event.n;
    declared = h.declared;
    stands = h.stands;
    number = h.climb.is_way.place;
    parts = h.climb.climb.parts;
    is_way = way;
    back = record {
      place = l.event.n;
      declared = declared_of (0 + l.event.n) h.declared;
      stands = declared_stands 0 events l.event.n h.declared h.stands;
      is_key = omega arith;
      parts = map event_part_of h.climb.climb.parts.items;
      is_member = stands_map member_of h.declared.ways.items h.climb.is_way.place (Sync h.climb.climb.parts l.at) way;
      must = h.climb.climb.climb.must;
      part = l.part.n;
      is_part = one_here _ h.climb.climb.climb.is_part.place _
          (stands_map event_part_of h.climb.climb.parts.items h.climb.climb.climb.is_part.place
          (h.climb.climb.climb.must, l.part) h.climb.climb.climb.is_part.stands);
      back = r;
    };
  }
    where
      way : Stands h.declared.ways.items h.climb.is_way.place (Sync h.climb.climb.parts l.at)
      way = subst (λ (w : DeclaredWay). Stands h.declared.ways.items h.climb.is_way.place w) h.climb.climb.is
          h.climb.is_way.stands

  -- a breach is a synchronisation with a part from which the event is reached
  pub named_breach : (q : Place) (b : BreaksNumberedSynchronisation events q)
      → (p : ℕ) × (h : NamesPart events b.event p) × (h.at ≡ q) × IsEventReached events p b.event
  named_breach q b =
      let k = b.back in
      let d = declared_back 0 events k.place k.declared k.stands in
      let here : k.place ≡ b.event = sym (declared_key events k.place k.declared k.stands) ∙ k.is_key in
      let same : d.0 ≡ b.declared = stands_one events b.event d.0 b.declared
      (subst (λ (n : ℕ). Stands events n d.0) here d.1) b.stands in
      let members : k.declared.members ≡ map member_of b.declared.ways.items =
      ap (λ (x : EventDeclaration (Transition ℕ) ℕ). x.members) d.2
      ∙ ap (λ (x : DeclaredEvent). map member_of x.ways.items) same in
      let at : Stands (map member_of b.declared.ways.items) b.number (Synchronises k.parts) =
      subst (λ (ms : List (Member (Transition ℕ) ℕ)). Stands ms b.number (Synchronises k.parts)) members
      k.is_member in
      let there : Stands (map member_of b.declared.ways.items) b.number
      (Synchronises (map event_part_of b.parts.items)) =
      stands_map member_of b.declared.ways.items b.number (Sync b.parts q) b.is_way in
      let forms : Synchronises (map event_part_of b.parts.items) ≡ Synchronises k.parts =
      stands_one (map member_of b.declared.ways.items) b.number (Synchronises (map event_part_of b.parts.items))
      (Synchronises k.parts) there at in
      let parts : map event_part_of b.parts.items ≡ k.parts = cc in
      let r = stands_map_back event_part_of b.parts.items k.is_part.place (k.must, k.part) (subst (λ (ps : List (Bool × ℕ)). Stands ps k.is_part.place (k.must, k.part)) (sym parts) k.is_part.stands) in (
        k.part,
        record {
          declared = b.declared;
          stands = b.stands;
          parts = b.parts;
          at = q;
          is_way = one_here _ b.number _ b.is_way;
          part = r.0;
          is_part = one_here _ k.is_part.place _ r.1;
          number = ap (λ (x : Bool × ℕ). x.1) r.2;
        },
        refl,
        k.back,
      )

  one_rule : (s : ℕ) → IsOneOf way_rules s → s ≡ 14
  one_rule s h = by h.place h.stands
    where
      by : (k : ℕ) → Stands way_rules k s → s ≡ 14
      by zero e = cc
      by (suc zero) e = cc
      by (suc (suc k)) e = cc

  -- the first link that climbs, where ranks never rise and its event is reached from its part
  pub broken_of : (f : Option Link) (l : Link) → f ≡ Some l → IsFirstLink (IsClimb events ranks 0) f
      → ((e p : ℕ) → HasPart (declared_from 0 events) e p → slice_index ranks p ≤ slice_index ranks e)
      → IsEventReached events l.part.n l.event.n → IsBroken way_rules (BreaksNumberedWayRule events) 14 l.at
  broken_of f l e h level r = by (subst (λ (z : Option Link). IsFirstLink (IsClimb events ranks 0) z) e h)
    where
      reach : (a b : ℕ) → IsEventReached events a b → slice_index ranks b ≤ slice_index ranks a
      reach a b (inl e) = let s = ap (slice_index ranks) e in omega arith
      reach a b (inr k) = never_rises events ranks level a b k

      by : IsFirstLink (IsClimb events ranks 0) (Some l) → IsBroken way_rules (BreaksNumberedWayRule events) 14 l.at
      by (there is before) = record {
        is_one = record { place = 0; stands = refl };
        breaks_there = l14 (breach_of l is r);
        no_lesser = λ s q i less b. omega (arith, one_rule s i, less);
        no_earlier = earlier;
      }
        where
          earlier : (q : Place) → IsEarlier q l.at → BreaksNumberedWayRule events 14 q → ⊥
          earlier q i (l14 b) =
              let n = named_breach q b in
              let low = reach n.0 b.event n.3 in
              let k = link_of b.event n.0 0 n.1 (omega (arith, low)) in
              before k.0 (subst (λ (z : Place). IsEarlier z l.at) (sym (k.2 ∙ n.2)) i) k.1

  -- where ranks fall, the rule is kept
  pub kept_of : Falls events ranks → AreKept way_rules (BreaksNumberedWayRule events)
  kept_of falls = record { kept = λ s p i b. by s p (one_rule s i) b }
    where
      by : (s : ℕ) (p : Place) → s ≡ 14 → BreaksNumberedWayRule events s p → ⊥
      by s p e (l14 b) =
          let n = named_breach p b in
          let part = part_named events b.event n.0 n.1 in
          let less = falls.falls b.event n.0 part in
          elim n.3 [
            | inl i ↦ (let s = ap (slice_index ranks) i in omega (arith, s, less))
            | inr k ↦ (let l = always_falls events ranks falls n.0 b.event k in omega (arith, l, less))
          ]

-- where the rule is kept, no event is reached from itself
pub never_back : (events : List DeclaredEvent) → AreKept way_rules (BreaksNumberedWayRule events) → (e p : ℕ)
    → HasPart (declared_from 0 events) e p → IsEventReached events p e → ⊥
never_back events keeps e p h r =
    let k = link_of events [] e p 0 (named_part events e p h) (let l : 0 ≤ 0 = omega arith in l) in
    let back : IsEventReached events k.0.part.n k.0.event.n =
    subst (λ (n : ℕ). IsEventReached events k.0.part.n n) (sym k.3)
    (subst (λ (n : ℕ). IsEventReached events n e) (sym k.4) r) in
    keeps.kept 14 k.0.at (record { place = 0; stands = refl }) (l14 (breach_of events [] k.0 k.1 back))

pub never_itself : (events : List DeclaredEvent) → AreKept way_rules (BreaksNumberedWayRule events) → (e : ℕ)
    → ReachesPart (declared_from 0 events) e e → ⊥
never_itself events keeps e (part_of h) = never_back events keeps e e h (inl refl)
never_itself events keeps e (further {e = f} h r) = never_back events keeps e f h (inr r)
