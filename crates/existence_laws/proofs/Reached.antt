-- What a path names in a listed unit stands in a listed unit.
use Rattle.std.proofs.Common.{◌≡◌, inl, inr, Bool, true, false, ◌||◌, ℕ, List, [], ◌∷◌, Option, Some, refl, sym, ◌∙◌, subst}
use Rattle.ar_base.specs.Lists.{IsOneOf}
use Rattle.ar_syntax.specs.declared.paths.Path.{Path}
use Rattle.ar_syntax.specs.declared.paths.PathStart.{PathStart}
use Rattle.ar_syntax.specs.declared.paths.PathStart.TheVariants.{Here, Owner, Main}
use Rattle.class_table.specs.Members.{MemberKind}
use Rattle.hierarchy.specs.Models.{RootedModel}
use Rattle.hierarchy.specs.Units.{UnitLevel, UnitPath, Thing, same_thing, is_among, start_of}
use Rattle.hierarchy.specs.Walks.{Reaches, Nothing, Loops, NameLeads, NamesLead, thing, inner, clones, embeds, arrives, on, Finds, is_event}
use Rattle.hierarchy.specs.Listing.{AreUnits, is_inner, events, things_in}
use Rattle.hierarchy.proofs.Places.{lists_closed, lists_first, lists_origin, made_named}
use Rattle.hierarchy.proofs.Things.{flat_one, has_listed}
use Rattle.source_laws.proofs.Walking.{IsNameOf, kind_named, one_name}

-- Where fewer statements are being followed, what is reached is reached

record IsFewer (less more : List Thing) : Type 0 where
  pub fewer : (t : Thing) → is_among more t ≡ false → is_among less t ≡ false

all_fewer : (more : List Thing) → IsFewer [] more
all_fewer more = record { fewer = λ t e. refl }

fewer_with : {less more : List Thing} (s : Thing) → IsFewer less more → IsFewer (s ∷ less) (s ∷ more)
fewer_with {less = less} {more = more} s h = record { fewer = λ t e. go t (same_thing s t) refl e }
  where
    go : (t : Thing) (b : Bool) → same_thing s t ≡ b → (same_thing s t || is_among more t) ≡ false
        → (same_thing s t || is_among less t) ≡ false
    go t true q e = absurd (let w : true ≡ false = sym (rw q refl) ∙ e in cc)
    go t false q e = rw q (h.fewer t (sym (rw q refl) ∙ e))

module _ {m : RootedModel} where
  mutual
    name_led : {less more : List Thing} {u v : UnitPath} {x : ℕ} {k : Option MemberKind} → IsFewer less more
        → NameLeads m more u x k (Reaches v) → NameLeads m less u x k (Reaches v)
    name_led h inner = inner
    name_led {u = u} {x = x} h (clones {o = Reaches t} n d e) =
        clones (h.fewer (thing u x) n) (names_led (fewer_with (thing u x) h) d) e
    name_led h (clones {o = Nothing} n d e) = cc
    name_led h (clones {o = Loops} n d e) = cc
    name_led {u = u} {x = x} h (embeds n d) = embeds (h.fewer (thing u x) n) (names_led (fewer_with (thing u x) h) d)

    names_led : {less more : List Thing} {start : Option UnitPath} {v : UnitPath} {xs : List ℕ} → IsFewer less more
        → NamesLead m more start xs (Reaches v) → NamesLead m less start xs (Reaches v)
    names_led h arrives = arrives
    names_led h (on w l d) = on w (name_led h l) (names_led h d)

-- What is reached is listed

module _ {m : RootedModel} (units : List UnitPath) (are : AreUnits m units) where
  owner_in : (l : UnitLevel) (u : UnitPath) → IsOneOf units (l ∷ u) → IsOneOf units u
  owner_in l u i = elim (lists_origin are (l ∷ u) i) [
    | inl e ↦ absurd (let h : l ∷ u ≡ [] = e in cc)
    | inr w ↦ subst (λ (z : UnitPath). IsOneOf units z)
        (let n = made_named m w.owner (l ∷ u) w.member w.made in let h = n.is in cc) w.there
  ]

  made_in : {u v : UnitPath} {x : ℕ} {kind : MemberKind} → IsNameOf m u x (Some kind) → IsOneOf units u
      → is_inner kind ≡ true → NameLeads m [] u x (Some kind) (Reaches v) → IsOneOf units v
  made_in {u = u} {v = v} (one_name g o e) i q l = lists_closed are u v o.place g i o.stands
      (record { inner = q; leads = subst (λ (y : ℕ). NameLeads m [] u y (Some g.kind) (Reaches v)) (sym e) l })

  record IsListed (start : Option UnitPath) : Type 0 where
    pub each : (u : UnitPath) → start ≡ Some u → IsOneOf units u

  listed : {u : UnitPath} → IsOneOf units u → IsListed (Some u)
  listed {u = u} i = record { each = λ w e. let q : u ≡ w = cc in subst (λ (z : UnitPath). IsOneOf units z) q i }

  starts : (u : UnitPath) → IsOneOf units u → (start : PathStart) → IsListed (start_of start u)
  starts u i Here = listed i
  starts [] i Owner = record { each = λ w e. absurd (cc) }
  starts (l ∷ u) i Owner = listed (owner_in l u i)
  starts u i Main = listed (lists_first are)

  mutual
    name_in : {f : List Thing} {u v : UnitPath} {x : ℕ} {k : Option MemberKind} → IsNameOf m u x k → IsOneOf units u
        → NameLeads m f u x k (Reaches v) → IsOneOf units v
    name_in n i inner = made_in n i refl inner
    name_in {f = f} n i (clones a d e) = made_in n i refl (name_led (all_fewer f) (clones a d e))
    name_in {u = u} n i (embeds {p = p} a d) = names_in (starts u i p.start) d

    names_in : {f : List Thing} {start : Option UnitPath} {v : UnitPath} {xs : List ℕ} → IsListed start
        → NamesLead m f start xs (Reaches v) → IsOneOf units v
    names_in {v = v} i arrives = i.each v refl
    names_in i (on {u = u} {x = x} w l d) = names_in (listed (name_in (kind_named m u x) (i.each u refl) l)) d

  -- an event that a path of a listed unit names is listed
  pub event_in : {u : UnitPath} {t : Thing} (p : Path) → IsOneOf units u → Finds m is_event u p t
      → IsOneOf (events m units) t
  event_in {u = u} {t = t} p i h = flat_one (things_in is_event m) units t.unit t (names_in (starts u i p.start) h.leads.reaches)
      (has_listed m is_event t h.has)
