-- A derivation without the list is one with it.
use Rattle.std.proofs.Common.{◌≡◌, ◌<◌, ◌≤◌, ℕ, suc, Bool, true, false, List, ◌∷◌, Option, Some, None, refl, sym, ap, subst, arith, ◌==◌}
use Rattle.std.proofs.lemmas.Bool.Decides.{nat_tests}
use Rattle.std.proofs.lemmas.Option.{same_Some}
use Rattle.ar_base.proofs.Comparing.{itself}
use Rattle.class_table.specs.Members.{MemberKind}
use Rattle.hierarchy.specs.Models.{RootedModel}
use Rattle.hierarchy.specs.Units.{UnitPath, Thing, body_of, set_at_of, bodies_of, has_number, is_among, same_thing, kind_at}
use Rattle.hierarchy.specs.Walks.{WalkOutcome, Reaches, Nothing, NameLeads, NamesLead, thing, cloned}
use Rattle.hierarchy.specs.Walks as g
use Rattle.hierarchy.proofs.SameUnits.{unit_itself}
use Rattle.unit_walks.specs.Ends.{NameEnds, NamesEnd, AreHigher, AreEndless, inner, clones, clones_none, embeds, no_unit, absent, nowhere, arrives, on, stops}
use Rattle.unit_walks.proofs.Alike.{Alike, same_alike, alike_sym, ends_alike, kind_alike}

mutual
  pub ends_same : {s : RootedModel} {n k : ℕ} {u : UnitPath} {x : ℕ} {m : Option MemberKind} {o r : Option UnitPath}
      → NameEnds s n u x m o → NameEnds s k u x m r → (n ≡ k) × (o ≡ r)
  ends_same inner inner = (refl, refl)
  ends_same inner (no_unit y) = cc
  ends_same {s = s} {u = u} {x = x} (clones r h) (clones q k) = let e = runs_same r q in (ap suc e.0, ap (λ t. Some (record { name = x; body = body_of s t; set_at = set_at_of t } ∷ u)) (same_Some _ _ e.1))
  ends_same (clones r h) (clones_none q) = cc (runs_same r q).1
  ends_same (clones r h) (no_unit y) = cc
  ends_same (clones_none r) (clones q k) = cc (runs_same r q).1
  ends_same (clones_none r) (clones_none q) = (ap suc (runs_same r q).0, refl)
  ends_same (clones_none r) (no_unit y) = cc
  ends_same (embeds r) (embeds q) = let e = runs_same r q in (ap suc e.0, e.1)
  ends_same (embeds r) (no_unit y) = cc
  ends_same (no_unit y) inner = cc
  ends_same (no_unit y) (clones q k) = cc
  ends_same (no_unit y) (clones_none q) = cc
  ends_same (no_unit y) (embeds q) = cc
  ends_same (no_unit y) (no_unit y') = (refl, refl)
  ends_same absent absent = (refl, refl)

  pub runs_same : {s : RootedModel} {n k : ℕ} {u : Option UnitPath} {xs : List ℕ} {v w : Option UnitPath}
      → NamesEnd s n u xs v → NamesEnd s k u xs w → (n ≡ k) × (v ≡ w)
  runs_same nowhere nowhere = (refl, refl)
  runs_same arrives arrives = (refl, refl)
  runs_same {s = s} {xs = x ∷ xs} {w = w} (on n k v d r e) (on n' k' v' d' r' e') =
      let a = ends_same d d' in
      let b = runs_same r (subst (λ z. NamesEnd s k' z xs w) (sym a.1) r') in
      (cc, b.1)
  runs_same (on n k v d r e) (stops d') = absurd (cc (ends_same d d').1)
  runs_same (stops d) (on n k v d' r e) = absurd (cc (ends_same d d').1)
  runs_same (stops d) (stops d') = ((ends_same d d').0, refl)

is_equal : (a b : ℕ) → (a == b) ≡ true → a ≡ b
is_equal a b e = grind (arith, nat_tests)

thing_refl : (t : Thing) → same_thing t t ≡ true
thing_refl t = rw (itself t.name) (unit_itself t.unit)

pub among_first : (f : List Thing) (t : Thing) → is_among (t ∷ f) t ≡ true
among_first f t = rw (thing_refl t) refl

pub among_more : (f : List Thing) (q p : Thing) → is_among f p ≡ true → is_among (q ∷ f) p ≡ true
among_more f q p h = go (same_thing q p) refl
  where
    go : (b : Bool) → same_thing q p ≡ b → is_among (q ∷ f) p ≡ true
    go true e = rw e refl
    go false e = rw e h

-- one name in units that are alike
record SameThing (x y : ℕ) (u w : UnitPath) : Type 0 where
  name : x ≡ y
  alike : Alike u w

same_things : (x y : ℕ) (u w : UnitPath) → same_thing (thing u x) (thing w y) ≡ true → SameThing x y u w
same_things x y u w e = go (x == y) refl
  where
    go : (b : Bool) → (x == y) ≡ b → SameThing x y u w
    go true p = let h = rw p at e in record { name = is_equal x y p; alike = same_alike u w h }
    go false p = let h = rw p at e in cc

-- what ends in the one ends in the other
moved : {s : RootedModel} {n x y : ℕ} {u w : UnitPath} {o : Option UnitPath} → SameThing x y u w
    → NameEnds s n u x (kind_at s u x) o → (r : Option UnitPath) × NameEnds s n w y (kind_at s w y) r
moved {s = s} {n = n} {x = x} {w = w} t d =
    let q = ends_alike t.alike d in
    let P : ℕ → Type 0 = λ z. NameEnds s n w z (kind_at s w z) q.0 in
    (q.0, subst P t.name (subst (λ m. NameEnds s n w x m q.0) (kind_alike s x t.alike) q.1))

back : {x y : ℕ} {u w : UnitPath} → SameThing x y u w → SameThing y x w u
back t = record { name = sym t.name; alike = alike_sym t.alike }

pub lower : {s : RootedModel} {f : List Thing} (n m : ℕ) → n ≤ m → AreHigher s f m → AreHigher s f n
lower n m h a = record { higher = λ x k u t i d. let j = a.higher x k u t i d in omega arith }

not_among : {s : RootedModel} {f : List Thing} {n : ℕ} {u : UnitPath} {x : ℕ} {o : Option UnitPath} → AreHigher s f n
    → NameEnds s n u x (kind_at s u x) o → is_among f (thing u x) ≡ false
not_among {f = f} {n = n} {u = u} {x = x} {o = o} a d = go (is_among f (thing u x)) refl
  where
    go : (b : Bool) → is_among f (thing u x) ≡ b → is_among f (thing u x) ≡ false
    go true e = let j = a.higher x n u o e d in absurd (omega arith)
    go false e = e

higher_more : {s : RootedModel} {f : List Thing} {n : ℕ} {u : UnitPath} {x : ℕ} {o : Option UnitPath}
    → AreHigher s f (suc n) → NameEnds s (suc n) u x (kind_at s u x) o → AreHigher s (thing u x ∷ f) n
higher_more {s = s} {f = f} {n = n} {u = u} {x = x} {o = o} a d =
    record { higher = λ y k w t i h. go y k w t i h (same_thing (thing u x) (thing w y)) refl }
  where
    go : (y k : ℕ) (w : UnitPath) (t : Option UnitPath) → is_among (thing u x ∷ f) (thing w y) ≡ true
        → NameEnds s k w y (kind_at s w y) t → (b : Bool) → same_thing (thing u x) (thing w y) ≡ b → n < k
    go y k w t i h true e =
        let q = moved (same_things x y u w e) d in
        let z = (ends_same q.1 h).0 in omega arith
    go y k w t i h false e = let j = rw e at i in let l = a.higher y k w t j h in omega arith

pub endless_more : {s : RootedModel} {f : List Thing} {u : UnitPath} {x : ℕ} → AreEndless s f
    → ((n : ℕ) (o : Option UnitPath) → NameEnds s n u x (kind_at s u x) o → ⊥) → AreEndless s (thing u x ∷ f)
endless_more {s = s} {f = f} {u = u} {x = x} a d =
    record { endless = λ y k w t i h. go y k w t i h (same_thing (thing u x) (thing w y)) refl }
  where
    go : (y k : ℕ) (w : UnitPath) (t : Option UnitPath) → is_among (thing u x ∷ f) (thing w y) ≡ true
        → NameEnds s k w y (kind_at s w y) t → (b : Bool) → same_thing (thing u x) (thing w y) ≡ b → ⊥
    go y k w t i h true e = let q = moved (back (same_things x y u w e)) h in d k q.0 q.1
    go y k w t i h false e = let j = rw e at i in a.endless y k w t j h

pub higher_endless : {s : RootedModel} {f : List Thing} (n : ℕ) → AreEndless s f → AreHigher s f n
higher_endless n a = record { higher = λ x k u t i d. absurd (a.endless x k u t i d) }

not_looping : (s : RootedModel) (u t : UnitPath) (x : ℕ) → has_number (bodies_of s u) (body_of s t) ≡ false
    → Reaches (record { name = x; body = body_of s t; set_at = set_at_of t } ∷ u) ≡ cloned s u x (Reaches t)
not_looping s u t x h = rw h refl

abbrev pub outcome_of : Option UnitPath → WalkOutcome
outcome_of None = Nothing
outcome_of (Some v) = Reaches v

mutual
  -- what ends without the list ends with it
  pub ends_gives : {s : RootedModel} {n : ℕ} {u : UnitPath} {x : ℕ} {m : Option MemberKind} {o : Option UnitPath}
      (f : List Thing) → NameEnds s n u x m o → m ≡ kind_at s u x → AreHigher s f n → NameLeads s f u x m (outcome_of o)
  ends_gives f inner e a = g.inner
  ends_gives f (no_unit y) e a = g.no_unit y
  ends_gives f absent e a = g.absent
  ends_gives {s = s} {u = u} {x = x} f (clones {n = n} {t = t} {p = p} r h) e a =
      let d = subst (λ m. NameEnds s (suc n) u x m
      (Some (record { name = x; body = body_of s t; set_at = set_at_of t } ∷ u))) e (clones r h) in
      g.clones (not_among a d) (runs_goes (thing u x ∷ f) r (higher_more a d)) (not_looping s u t x h)
  ends_gives {s = s} {u = u} {x = x} f (clones_none {n = n} r) e a =
      let d = subst (λ m. NameEnds s (suc n) u x m None) e (clones_none r) in
      g.clones (not_among a d) (runs_goes (thing u x ∷ f) r (higher_more a d)) refl
  ends_gives {s = s} {u = u} {x = x} {o = o} f (embeds {n = n} r) e a =
      let d = subst (λ m. NameEnds s (suc n) u x m o) e (embeds r) in
      g.embeds (not_among a d) (runs_goes (thing u x ∷ f) r (higher_more a d))

  pub runs_goes : {s : RootedModel} {n : ℕ} {u : Option UnitPath} {xs : List ℕ} {o : Option UnitPath} (f : List Thing)
      → NamesEnd s n u xs o → AreHigher s f n → NamesLead s f u xs (outcome_of o)
  runs_goes f nowhere a = g.nowhere
  runs_goes f arrives a = g.arrives
  runs_goes {n = m} f (on n k v d r e) a =
      g.on v (ends_gives f d refl (lower n m (omega arith) a)) (runs_goes f r (lower k m (omega arith) a))
  runs_goes f (stops d) a = g.stops (ends_gives f d refl a)
