-- Declared events by number, and their members.
use Rattle.std.proofs.Common.{◌≡◌, ℕ, zero, suc, ◌+◌, Bool, List, [], ◌∷◌, length, map, Vec, refl, sym, ◌∙◌, ap, subst, arith}
use Rattle.std.specs.Global.{Global}
use Rattle.ar_base.specs.Lists.{Stands, IsOneOf}
use Rattle.ar_base.specs.NumbersInside.{EventId}
use Rattle.ar_base.specs.declared.places.Place.{Place}
use Rattle.ar_base.proofs.Standing.{stands_one, stands_map, stands_map_back, stands_none, one_here}
use Rattle.ar_meaning.specs.Systems.{Transition}
use Rattle.ar_meaning.specs.Expand.{EventDeclaration, Synchronises, HasPart}
use Rattle.ar_meaning.specs.ExpandInside.{AreKeyedEvents}
use Rattle.gts_core.specs.Bound.{member_of, declared_of, declared_from, event_part_of}
use Rattle.gts_core.specs.declared.bound.DeclaredEvent.{DeclaredEvent}
use Rattle.gts_core.specs.declared.bound.DeclaredWay.{DeclaredWay}
use Rattle.gts_core.specs.declared.bound.DeclaredWay.TheVariants.{Local, Sync}

-- what stands among events stands among the declared ones, with its number
pub declared_stands : (m : ℕ) (events : List DeclaredEvent) (n : ℕ) (d : DeclaredEvent) → Stands events n d
    → Stands (declared_from m events) n (declared_of (m + n) d)
declared_stands m [] n d s = absurd (stands_none n d s)
declared_stands m (e ∷ events) zero d s =
    let same : e ≡ d = stands_one (e ∷ events) 0 e d refl s in
    subst (λ (z : DeclaredEvent). Stands (declared_from m (e ∷ events)) 0 (declared_of (m + 0) z)) same
    (subst (λ (k : ℕ). Stands (declared_from m (e ∷ events)) 0 (declared_of k e)) (omega arith) refl)
declared_stands m (e ∷ events) (suc n) d s =
    subst (λ (k : ℕ). Stands (declared_from m (e ∷ events)) (suc n) (declared_of k d)) (omega arith)
    (declared_stands (m + 1) events n d s)

-- and the other way round
pub declared_back : (m : ℕ) (events : List DeclaredEvent) (n : ℕ) (x : EventDeclaration (Transition ℕ) ℕ)
    → Stands (declared_from m events) n x
    → (d : DeclaredEvent) × Stands events n d × (x ≡ declared_of (m + n) d)
declared_back m [] n x s = absurd (stands_none n x s)
declared_back m (e ∷ events) zero x s =
    (e, refl, sym (stands_one (declared_from m (e ∷ events)) 0 (declared_of m e) x refl s) ∙ ap (λ (k : ℕ). declared_of k e) (let same : m ≡ m + 0 = omega arith in same))
declared_back m (e ∷ events) (suc n) x s =
    let b = declared_back (m + 1) events n x s in
    (b.0, b.1, b.2 ∙ ap (λ (k : ℕ). declared_of k b.0) (let same : (m + 1) + n ≡ m + suc n = omega arith in same))

pub declared_length : (m : ℕ) (events : List DeclaredEvent) → length (declared_from m events) ≡ length events
declared_length m [] = refl
declared_length m (e ∷ events) = ap suc (declared_length (m + 1) events)

-- a declared event's number is its key
pub declared_key : (events : List DeclaredEvent) (n : ℕ) (x : EventDeclaration (Transition ℕ) ℕ)
    → Stands (declared_from 0 events) n x → x.key ≡ n
declared_key events n x s = let b = declared_back 0 events n x s in ap (λ (d : EventDeclaration (Transition ℕ) ℕ). d.key) b.2 ∙ (let same : 0 + n ≡ n = omega arith in same)

pub declared_keyed : (events : List DeclaredEvent) → AreKeyedEvents (declared_from 0 events)
declared_keyed events = record {
  one = λ m n d e s r i. sym (declared_key events m d s)
      ∙ (i ∙ declared_key events n e r);
}

-- a member that is a synchronisation is a declared one
pub synchronised : (ways : List DeclaredWay) (k : ℕ) (ps : List (Bool × ℕ))
    → Stands (map member_of ways) k (Synchronises ps)
    → (parts : Vec (Bool × EventId) Global) × (at : Place) × Stands ways k (Sync parts at)
    × (map event_part_of parts.items ≡ ps)
synchronised ways k ps s = let b = stands_map_back member_of ways k (Synchronises ps) s in by b.0 b.1 b.2
  where
    by : (w : DeclaredWay) → Stands ways k w → member_of w ≡ Synchronises ps
        → (parts : Vec (Bool × EventId) Global) × (at : Place) × Stands ways k (Sync parts at)
        × (map event_part_of parts.items ≡ ps)
    by (Local guard action) t e = absurd (cc)
    by (Sync parts at) t e = (parts, at, t, cc)

-- a part of a declared event's synchronisation
pub record NamesPart (events : List DeclaredEvent) (e p : ℕ) : Type 0 where
  pub declared : DeclaredEvent
  pub stands : Stands events e declared
  pub parts : Vec (Bool × EventId) Global
  pub at : Place
  pub is_way : IsOneOf declared.ways.items (Sync parts at)
  pub part : Bool × EventId
  pub is_part : IsOneOf parts.items part
  pub number : part.1.n ≡ p

pub part_named : (events : List DeclaredEvent) (e p : ℕ) → NamesPart events e p → HasPart (declared_from 0 events) e p
part_named events e p h = record {
  place = e;
  declared = declared_of (0 + e) h.declared;
  stands = declared_stands 0 events e h.declared h.stands;
  is_key = omega arith;
  parts = map event_part_of h.parts.items;
  is_member = one_here _ h.is_way.place _
      (stands_map member_of h.declared.ways.items h.is_way.place (Sync h.parts h.at) h.is_way.stands);
  must = h.part.0;
  is_part = one_here _ h.is_part.place _
      (subst (λ (n : ℕ). Stands (map event_part_of h.parts.items) h.is_part.place (h.part.0, n)) h.number
      (stands_map event_part_of h.parts.items h.is_part.place h.part h.is_part.stands));
}

pub named_part : (events : List DeclaredEvent) (e p : ℕ) → HasPart (declared_from 0 events) e p → NamesPart events e p
named_part events e p h =
    let b = declared_back 0 events h.place h.declared h.stands in
    let same : h.place ≡ e = sym (declared_key events h.place h.declared h.stands) ∙ h.is_key in
    let member : Stands (map member_of b.0.ways.items) h.is_member.place (Synchronises h.parts) =
    subst (λ (d : EventDeclaration (Transition ℕ) ℕ). Stands d.members h.is_member.place (Synchronises h.parts)) b.2
    h.is_member.stands in
    let w = synchronised b.0.ways.items h.is_member.place h.parts member in
    let part : Stands (map event_part_of w.0.items) h.is_part.place (h.must, p) =
    subst (λ (ps : List (Bool × ℕ)). Stands ps h.is_part.place (h.must, p)) (sym w.3) h.is_part.stands in
    let q = stands_map_back event_part_of w.0.items h.is_part.place (h.must, p) part in
    record {
      declared = b.0;
      stands = subst (λ (n : ℕ). Stands events n b.0) same b.1;
      parts = w.0;
      at = w.1;
      is_way = one_here _ h.is_member.place _ w.2;
      part = q.0;
      is_part = one_here _ h.is_part.place _ q.1;
      number = ap (λ (r : Bool × ℕ). r.1) q.2;
    }
