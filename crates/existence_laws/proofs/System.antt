-- Declarations of which no synchronisation leads back to its event mean a system.
use Rattle.std.proofs.Common.{◌≡◌, inl, inr, ◌⊎◌, Bool, List, [], Ok, refl, sym, ◌∙◌, subst}
use Rattle.ar_base.specs.Breach.{AreKept}
use Rattle.ar_base.specs.Lists.{Stands, IsOneOf}
use Rattle.ar_base.specs.Stages.{passes, Keeps, kept, Fits, fits}
use Rattle.ar_base.specs.declared.counts.Count.{Count}
use Rattle.ar_base.specs.declared.places.Place.{Place}
use Rattle.ar_base.specs.Numbers.{NameId}
use Rattle.ar_base.proofs.Standing.{along_on, along_back, one_first}
use Rattle.ar_meaning.specs.Systems.{Transition}
use Rattle.ar_meaning.specs.Expand.{Synchronises, EventDeclaration, HasPart, ReachesPart, part_of, further, IsExpanded}
use Rattle.class_table.specs.Declaring.{MemberForm}
use Rattle.hierarchy.specs.Models.{RootedModel}
use Rattle.hierarchy.specs.Units.{Thing}
use Rattle.hierarchy.specs.Listing.{Unfolded, AreUnits, events, ways_declared}
use Rattle.unit_walks.specs.Unfolding.{whole}
use Rattle.instantiate.specs.Unfolding.{Instantiates}
use Rattle.source_meaning.specs.Rules.{IsWayOf, sync as sync_way}
use Rattle.source_meaning.specs.Systems.{Declarations, AreOf, IsEvent, IsMember, sync, declares, Binds}
use Rattle.sync_expand.specs.Counting.{way_rules}
use Rattle.sync_expand.proofs.WaysLemmas.{along_all}
use Rattle.gts_flatten.specs.Elaborating.{Elaborated, BreaksWayRule, l14, HasSystem, has}
use Rattle.existence_laws.proofs.Expanding.{IsDeclared, all_have_ways}
use Rattle.existence_laws.proofs.Reached.{event_in}

module _ (d : Declarations) (are_units : AreUnits d.model d.units) (are : AreOf d.model d.units d)
    (keeps : AreKept way_rules (BreaksWayRule d)) where
  -- the thing for which a declared event stands
  record StandsFor (e : EventDeclaration (Transition Thing) Thing) : Type 0 where
    pub thing : Thing
    pub is_event : IsOneOf (events d.model d.units) thing
    pub is : IsEvent d.model d.units thing e

  for : (e : EventDeclaration (Transition Thing) Thing) → IsOneOf d.events e → StandsFor e
  for e i = let b = along_back (events d.model d.units) d.events are.events i.place e i.stands in
      record { thing = b.0; is_event = record { place = i.place; stands = b.1 }; is = b.2 }

  -- what a synchronisation of an event says
  record IsWritten (t : Thing) (k : _) (ps : List (Bool × Thing)) : Type 0 where
    pub form : MemberForm
    pub is_way : Stands (ways_declared d.model t) k form
    pub name : NameId
    pub at : Place
    pub stands_at : IsWayOf form name at
    pub parts : (p : Bool × Thing) → IsOneOf ps p → IsOneOf (events d.model d.units) p.1

  written : (e : EventDeclaration (Transition Thing) Thing) (s : StandsFor e) (ps : List (Bool × Thing))
      (i : IsOneOf e.members (Synchronises ps)) → IsWritten s.thing i.place ps
  written e s ps i =
      let b = along_back (ways_declared d.model s.thing) e.members s.is.members i.place (Synchronises ps) i.stands in
      go b.0 b.1 b.2
    where
      go : (f : MemberForm) → Stands (ways_declared d.model s.thing) i.place f
          → IsMember d.model s.thing.unit f (Synchronises ps) → IsWritten s.thing i.place ps
      go f w (sync {x = x} {at = at} {parts = parts} a) = record {
        form = f;
        is_way = w;
        name = x;
        at = at;
        stands_at = sync_way;
        parts = λ p j. let b = along_back parts.items ps a j.place p j.stands in
            event_in d.units are_units b.0.event (record { place = e.unit; stands = s.is.unit }) b.2.event;
      }

  known : (e : EventDeclaration (Transition Thing) Thing) (ps : List (Bool × Thing)) (p : Bool × Thing)
      → IsOneOf d.events e → IsOneOf e.members (Synchronises ps) → IsOneOf ps p → IsDeclared d.events p.1
  known e ps p i j k =
      let w = written e (for e i) ps j in
      let o = w.parts p k in
      let b = along_on (events d.model d.units) d.events are.events o.place p.1 o.stands in
      record { place = o.place; declared = b.0; stands = b.1; is_key = b.2.key }

  back : (e f : Thing) → HasPart d.events e f → (f ≡ e) ⊎ ReachesPart d.events f e → ⊥
  back e f h b =
      let s = for h.declared (record { place = h.place; stands = h.stands }) in
      let w = written h.declared s h.parts h.is_member in
      let same : s.thing ≡ e = sym s.is.key ∙ h.is_key in
      keeps.kept 14 w.at (one_first 14 []) (l14 (record {
        event = e;
        is_event = subst (λ (z : Thing). IsOneOf (events d.model d.units) z) same s.is_event;
        place = h.is_member.place;
        form = w.form;
        is_way = subst (λ (z : Thing). Stands (ways_declared d.model z) h.is_member.place w.form) same w.is_way;
        name = w.name;
        stands_at = w.stands_at;
        back = record {
          place = h.place;
          declared = h.declared;
          stands = h.stands;
          is_key = h.is_key;
          parts = h.parts;
          is_member = h.is_member.stands;
          must = h.must;
          part = f;
          is_part = h.is_part;
          back = b;
        };
      }))

  never : (e : Thing) → ReachesPart d.events e e → ⊥
  never e (part_of h) = back e e h (inl refl)
  never e (further {e = f} h r) = back e f h (inr r)

  pub has_system : (x : Elaborated) × HasSystem d (Ok x)
  has_system =
      let all = along_all (IsExpanded d.events) d.events (λ e i.
      let w = all_have_ways d.events known never e i in
      (record { unit = e.unit; hidden = e.hidden; ways = w.0 }, record { unit = refl; hidden = refl; ways = w.1 })) in (
        record { declarations = d; system = record { net = d.net; events = all.0; observers = d.observers } },
        has refl (record { net = refl; events = all.1; observers = refl }),
      )

-- What the stages before it have passed on

keeps_same : {A : Type 0} {rules : _} {breaks : A → _ → Place → Type 0} {a b : A} → Keeps rules breaks a (Ok b) → a ≡ b
keeps_same (kept k) = refl

keeps_kept : {A : Type 0} {rules : _} {breaks : A → _ → Place → Type 0} {a b : A} → Keeps rules breaks a (Ok b)
    → AreKept rules (breaks a)
keeps_kept (kept k) = k

fits_same : {A : Type 0} {count : Count} {counted : A → _} {a b : A} → Fits count counted a (Ok b) → a ≡ b
fits_same (fits l) = refl

units_of : (m : RootedModel) (t : Unfolded) → Instantiates m (Ok t) → AreUnits t.model t.units
units_of m t (passes u (whole are s l) (passes v (passes w f (passes x g h)) k)) =
    subst (λ (z : Unfolded). AreUnits z.model z.units) (fits_same f ∙ fits_same g ∙ fits_same h ∙ keeps_same k) are

pub system_of : (m : RootedModel) (t : Unfolded) (d e : Declarations) → Instantiates m (Ok t) → Binds t (Ok d)
    → Keeps way_rules BreaksWayRule d (Ok e) → (x : Elaborated) × HasSystem e (Ok x)
system_of m t d e i (passes u q (declares are)) k =
    let units = units_of m t i in
    let own = subst (λ (z : Unfolded). AreOf z.model z.units d) (sym (keeps_same q)) are in
    let a = subst (λ z. AreOf z d.units d) (sym own.model) (subst (λ z. AreOf t.model z d) (sym own.units_are) own) in
    let b = subst (λ z. AreUnits z d.units) (sym own.model) (subst (λ z. AreUnits t.model z) (sym own.units_are) units) in
    subst (λ (z : Declarations). (x : Elaborated) × HasSystem z (Ok x)) (keeps_same k)
    (has_system d b a (keeps_kept k))
