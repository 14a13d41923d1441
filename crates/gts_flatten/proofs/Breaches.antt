-- Rule L14 is broken at a place of the source just where bound events break it there.
use Rattle.std.proofs.Common.{◌≡◌, ℕ, ◌↔◌, Vec, Bool, refl, sym, ap, ◌∙◌, subst}
use Rattle.std.specs.Global.{Global}
use Rattle.ar_base.specs.Breach.{IsBroken, AreKept}
use Rattle.ar_base.specs.Lists.{Stands, AreDifferent}
use Rattle.ar_base.specs.Numbers.{NameId}
use Rattle.ar_base.specs.NumbersInside.{EventId}
use Rattle.ar_base.specs.declared.places.Place.{Place}
use Rattle.ar_base.proofs.Standing.{one_here, along_on, along_back, stands_one}
use Rattle.ar_meaning.specs.Expand.{LeadsBack, Synchronises}
use Rattle.ar_meaning.specs.FlatOf.{IsNumber}
use Rattle.ar_meaning.specs.FlatOfInside.{AreFlatOf}
use Rattle.ar_meaning.specs.Image.{Transition_renames}
use Rattle.ar_meaning.proofs.ImageWays.{leads_there, leads_back}
use Rattle.gts_core.specs.Bound.{declared_from}
use Rattle.gts_core.specs.declared.bound.DeclaredEvent.{DeclaredEvent}
use Rattle.gts_core.specs.declared.bound.DeclaredWay.{DeclaredWay}
use Rattle.gts_core.specs.declared.bound.DeclaredWay.TheVariants.{Sync}
use Rattle.class_table.specs.Declaring.{MemberForm}
use Rattle.hierarchy.specs.Units.{Thing}
use Rattle.hierarchy.specs.Listing.{variables, events, ways_declared}
use Rattle.source_meaning.specs.Binding.{HasPlace, local, sync, IsBoundFrom}
use Rattle.source_meaning.specs.Rules.{IsWayOf}
use Rattle.source_meaning.specs.Rules as rule
use Rattle.source_meaning.specs.Systems.{Declarations}
use Rattle.source_meaning.specs.declared.bound.Bound.{Bound}
use Rattle.sync_expand.specs.Expanding as bound
use Rattle.sync_expand.specs.Counting.{way_rules}
use Rattle.sync_expand.proofs.DeclaredLemmas.{declared_back, declared_key, synchronised}
use Rattle.gts_flatten.specs.Elaborating as source

-- a member stands at one place
way_one : {f : MemberForm} {x y : NameId} {p q : Place} → IsWayOf f x p → IsWayOf f y q → p ≡ q
way_one rule.local rule.local = refl
way_one rule.sync rule.sync = refl

module _ (d : Declarations) (b : Bound) (from : IsBoundFrom d b)
    (different : AreDifferent (events d.model d.units)) where
  -- the bound events are the flat form of the declared ones
  pub declared_flat : AreFlatOf (variables d.model d.units) (events d.model d.units) d.events
      (declared_from 0 b.events.items)
  declared_flat = record { different = different; events = from.events_are }

  back : (t : Thing) (n k : ℕ) → Stands (events d.model d.units) n t
      → (LeadsBack d.events t k ↔ LeadsBack (declared_from 0 b.events.items) n k)
  back t n k s = (
    λ h. leads_there (Transition_renames (IsNumber (variables d.model d.units))) (IsNumber (events d.model d.units))
        d.events (declared_from 0 b.events.items) from.events_are
        (λ x m n r s. different.one m n x r s) s h,
    λ h. leads_back (Transition_renames (IsNumber (variables d.model d.units))) (IsNumber (events d.model d.units))
        d.events (declared_from 0 b.events.items) from.events_are
        (λ x y n r s. stands_one (events d.model d.units) n x y r s) s h,
  )

  -- from bound events
  broken_source : (p : Place) → bound.BreaksNumberedSynchronisation b.events.items p → source.BreaksSynchronisation d p
  broken_source p h =
      let t = along_back (events d.model d.units) b.events.items from.sync_places h.event h.declared h.stands in
      let f = along_back (ways_declared d.model t.0) h.declared.ways.items t.2 h.number (Sync h.parts p) h.is_way in
      go t.0 t.1 f.0 f.1 f.2
    where
      go : (t : Thing) → Stands (events d.model d.units) h.event t → (f : MemberForm)
          → Stands (ways_declared d.model t) h.number f → HasPlace f (Sync h.parts p)
          → source.BreaksSynchronisation d p
      go t s f w (sync x is) = record {
        event = t;
        is_event = one_here (events d.model d.units) h.event t s;
        place = h.number;
        form = f;
        is_way = w;
        name = x;
        stands_at = is;
        back = (back t h.event h.number s).1 h.back;
      }

  -- from the source
  source_broken : (p : Place) → source.BreaksSynchronisation d p → bound.BreaksNumberedSynchronisation b.events.items p
  source_broken p h =
      let n = h.is_event.place in
      let e = along_on (events d.model d.units) b.events.items from.sync_places n h.event h.is_event.stands in
      let w = along_on (ways_declared d.model h.event) e.0.ways.items e.2 h.place h.form h.is_way in
      let l = (back h.event n h.place h.is_event.stands).0 h.back in
      let o = declared_back 0 b.events.items l.place l.declared l.stands in
      let here : l.place ≡ n = sym (declared_key b.events.items l.place l.declared l.stands) ∙ l.is_key in
      let one : o.0 ≡ e.0 = stands_one b.events.items n o.0 e.0
      (subst (λ (k : ℕ). Stands b.events.items k o.0) here o.1) e.1 in
      let y = synchronised o.0.ways.items h.place l.parts
      (subst (λ x. Stands x h.place (Synchronises l.parts)) (ap (λ x. x.members) o.2) l.is_member) in
      let m = subst (λ (x : DeclaredEvent). Stands x.ways.items h.place (Sync y.0 y.1)) one y.2 in
      go n e.0 e.1 w.0 w.1 w.2 l (stands_one e.0.ways.items h.place w.0 (Sync y.0 y.1) w.1 m)
    where
      go : (n : ℕ) (e : DeclaredEvent) → Stands b.events.items n e → (w : DeclaredWay) → Stands e.ways.items h.place w
          → HasPlace h.form w → LeadsBack (declared_from 0 b.events.items) n h.place
          → {parts : Vec (Bool × EventId) Global} {at : Place}
          → w ≡ Sync parts at → bound.BreaksNumberedSynchronisation b.events.items p
      go n e s w t (local {guard = g} {a = a}) l i = absurd cc
      go n e s w t (sync {parts = parts} {at = at} x is) l i = record {
        event = n;
        declared = e;
        stands = s;
        number = h.place;
        parts = parts;
        is_way = subst (λ (q : Place). Stands e.ways.items h.place (Sync parts q)) (way_one is h.stands_at) t;
        back = l;
      }

  breaks_source : (r : ℕ) (p : Place) → bound.BreaksNumberedWayRule b.events.items r p → source.BreaksWayRule d r p
  breaks_source r p (bound.l14 h) = source.l14 (broken_source p h)

  breaks_bound : (r : ℕ) (p : Place) → source.BreaksWayRule d r p → bound.BreaksNumberedWayRule b.events.items r p
  breaks_bound r p (source.l14 h) = bound.l14 (source_broken p h)

  pub kept_source : AreKept way_rules (bound.BreaksNumberedWayRule b.events.items)
      → AreKept way_rules (source.BreaksWayRule d)
  kept_source k = record { kept = λ r p o h. k.kept r p o (breaks_bound r p h) }

  pub broken_in_source : (r : ℕ) (p : Place) → IsBroken way_rules (bound.BreaksNumberedWayRule b.events.items) r p
      → IsBroken way_rules (source.BreaksWayRule d) r p
  broken_in_source r p k = record {
    is_one = k.is_one;
    breaks_there = breaks_source r p k.breaks_there;
    no_lesser = λ s q o l h. k.no_lesser s q o l (breaks_bound s q h);
    no_earlier = λ q e h. k.no_earlier q e (breaks_bound r q h);
  }
