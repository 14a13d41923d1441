-- Links of one synchronisation.
use Rattle.std.proofs.Common.{◌≡◌, ℕ, Bool, List, Option, None, Vec, refl, sym, ◌∙◌, ap, subst, Some}
use Rattle.std.specs.Global.{Global}
use Rattle.typed_expr.specs.declared.expr.Expr.{Expr}
use Rattle.ar_base.specs.Lists.{Stands}
use Rattle.ar_base.specs.Numbers.{VarId}
use Rattle.ar_base.specs.NumbersInside.{EventId}
use Rattle.ar_base.specs.declared.places.Place.{Place}
use Rattle.ar_base.proofs.Comparing.{not_before}
use Rattle.gts_core.specs.declared.bound.Act.{Act}
use Rattle.gts_core.specs.declared.bound.DeclaredEvent.{DeclaredEvent}
use Rattle.gts_core.specs.declared.bound.DeclaredWay.{DeclaredWay}
use Rattle.gts_core.specs.declared.bound.DeclaredWay.TheVariants.{Local, Sync}
use Rattle.sync_expand.specs.Links.{IsClimbAmong, IsClimbOf, IsClimbIn, IsClimb, IsFirstLink, nowhere, there}
use Rattle.sync_expand.specs.declared.links.Link.{Link}
use Rattle.sync_expand.proofs.FirstLinks.{first_same, IsOfEvent, AtItem}

module _ (way : DeclaredWay) (event : EventId) (ranks : List ℕ) (gap : ℕ) where
  pub climb_none : (parts : Vec (Bool × EventId) Global) (at : Place)
      → way ≡ Sync parts at → ((part : EventId) → IsClimbAmong parts.items event ranks gap part → ⊥)
      → IsFirstLink (IsClimbOf way event ranks gap) None
  climb_none parts at e none = nowhere (λ l h. let same : h.parts ≡ parts = parts_same h.parts l.at (sym h.is ∙ e) in none l.part (subst (λ (v : Vec (Bool × EventId) Global). IsClimbAmong v.items event ranks gap l.part) same h.climb))
    where
      parts_same : (v : Vec (Bool × EventId) Global) (p : Place) → Sync v p ≡ Sync parts at → v ≡ parts
      parts_same v p e = cc

  pub climb_some : (parts : Vec (Bool × EventId) Global) (at : Place) (part : EventId)
      → way ≡ Sync parts at → IsClimbAmong parts.items event ranks gap part
      → IsFirstLink (IsClimbOf way event ranks gap) (Some (record { event = event; part = part; at = at }))
  climb_some parts at part e h =
      there (record { parts = parts; is = e; event_is = refl; climb = h })
      (λ k b i. not_before k.at at b (place_same i.parts k.at (sym i.is ∙ e)))
    where
      place_same : (v : Vec (Bool × EventId) Global) (p : Place) → Sync v p ≡ Sync parts at → p ≡ at
      place_same v p e = cc

  pub climb_local : (guard : Expr VarId) (action : Act) → way ≡ Local guard action
      → IsFirstLink (IsClimbOf way event ranks gap) None
  climb_local guard action e = nowhere (λ l h. differ h.parts l.at (sym h.is ∙ e))
    where
      differ : (v : Vec (Bool × EventId) Global) (p : Place) → Sync v p ≡ Local guard action → ⊥
      differ v p e = cc

-- the links of an event are those of its number
pub of_event : (ranks : List ℕ) (gap k : ℕ) (d : DeclaredEvent) (event : EventId) (r : Option Link) → event.n ≡ k
    → IsFirstLink (IsClimbIn d.ways.items event ranks gap) r → IsFirstLink (IsOfEvent ranks gap k d) r
of_event ranks gap k d event r e h = first_same r to from h
  where
    to : (l : Link) → IsClimbIn d.ways.items event ranks gap l → IsOfEvent ranks gap k d l
    to l c = record {
      number = ap (λ (x : EventId). x.n) c.climb.event_is ∙ e;
      climb = subst (λ (x : EventId). IsClimbIn d.ways.items x ranks gap l) (sym c.climb.event_is) c;
    }

    one_event : (a b : EventId) → a.n ≡ b.n → a ≡ b
    one_event a b e = ap (λ (n : ℕ). let x : EventId = record { n = n; of = record {} } in x) e

    from : (l : Link) → IsOfEvent ranks gap k d l → IsClimbIn d.ways.items event ranks gap l
    from l c = subst (λ (x : EventId). IsClimbIn d.ways.items x ranks gap l)
        (one_event l.event event (c.number ∙ sym e)) c.climb

-- links of the events by number
pub climb_to : (events : List DeclaredEvent) (ranks : List ℕ) (gap k : ℕ) (d : DeclaredEvent) (l : Link)
    → Stands events k d → IsOfEvent ranks gap k d l → IsClimb events ranks gap l
climb_to events ranks gap k d l s h =
    record { declared = d; stands = subst (λ (n : ℕ). Stands events n d) (sym h.number) s; climb = h.climb }

pub climb_back : (events : List DeclaredEvent) (ranks : List ℕ) (gap : ℕ) (l : Link) → IsClimb events ranks gap l
    → (k : ℕ) × AtItem events (IsOfEvent ranks gap) k l
climb_back events ranks gap l h = (
  l.event.n,
  record
      { item = h.declared; stands = h.stands; has = record { number = refl; climb = h.climb } },
)
