-- Rule L14 of declarations that are alike.
use Rattle.std.proofs.Common.{◌≡◌, ℕ, List, refl, sym, ◌∙◌, ap, subst}
use Rattle.ar_base.specs.Lists.{IsOneOf, Along}
use Rattle.ar_base.specs.Numbers.{NameId}
use Rattle.ar_base.specs.declared.places.Place.{Place}
use Rattle.ar_base.proofs.Standing.{along_back}
use Rattle.ar_meaning.specs.Image.{Transition_renames}
use Rattle.ar_meaning.proofs.ImageFlows.{partner}
use Rattle.ar_meaning.proofs.ImageWays.{leads_there, leads_back}
use Rattle.class_table.specs.Declaring.{MemberForm}
use Rattle.hierarchy.specs.Models.{RootedModel}
use Rattle.hierarchy.specs.Units.{UnitPath, Thing}
use Rattle.hierarchy.specs.Listing.{events, ways_declared}
use Rattle.source_meaning.specs.Rules.{IsWayOf}
use Rattle.source_meaning.specs.Rules as rule
use Rattle.source_meaning.specs.Systems.{Declarations}
use Rattle.gts_flatten.specs.Elaborating.{BreaksSynchronisation, BreaksWayRule, l14}
use Rattle.source_laws.specs.Tables.{SameRooted}
use Rattle.source_laws.specs.Views.{SameForms}
use Rattle.source_laws.specs.Views as view
use Rattle.source_laws.specs.Declarations.{IsSameThing, SameDeclarations}

-- members that agree are transitions or synchronisations of one name, which stands at one place
way_there : {f g : MemberForm} {x : NameId} {p : Place} → IsWayOf f x p → SameForms f g → IsWayOf g x p
way_there rule.local (view.local s t) = rule.local
way_there rule.sync (view.sync s) = rule.sync

way_back : {f g : MemberForm} {x : NameId} {p : Place} → IsWayOf g x p → SameForms f g → IsWayOf f x p
way_back rule.local (view.local s t) = rule.local
way_back rule.sync (view.sync s) = rule.sync

module _ (listed : (m n : RootedModel) → SameRooted m n → (us : List UnitPath) → events m us ≡ events n us)
    (ways : (m n : RootedModel) → SameRooted m n → (t : Thing)
    → Along SameForms (ways_declared m t) (ways_declared n t))
    (d e : Declarations) (s : SameDeclarations d e) where
  events_same : events d.model d.units ≡ events e.model e.units
  events_same = listed d.model e.model s.model d.units ∙ ap (λ (us : List UnitPath). events e.model us) s.units

  there : (p : Place) → BreaksSynchronisation d p → BreaksSynchronisation e p
  there p h =
      let w = partner (ways d.model e.model s.model h.event) h.place h.form h.is_way in
      record {
        event = h.event;
        is_event = subst (λ (ts : List Thing). IsOneOf ts h.event) events_same h.is_event;
        place = h.place;
        form = w.item;
        is_way = w.stands;
        name = h.name;
        stands_at = way_there h.stands_at w.related;
        back = leads_there (Transition_renames IsSameThing) IsSameThing d.events e.events s.events
            (λ t u v i j. sym i ∙ j) refl h.back;
      }

  back : (p : Place) → BreaksSynchronisation e p → BreaksSynchronisation d p
  back p h =
      let w = along_back (ways_declared d.model h.event) (ways_declared e.model h.event)
      (ways d.model e.model s.model h.event) h.place h.form h.is_way in
      record {
        event = h.event;
        is_event = subst (λ (ts : List Thing). IsOneOf ts h.event) (sym events_same) h.is_event;
        place = h.place;
        form = w.0;
        is_way = w.1;
        name = h.name;
        stands_at = way_back h.stands_at w.2;
        back = leads_back (Transition_renames IsSameThing) IsSameThing d.events e.events s.events
            (λ t u v i j. i ∙ sym j) refl h.back;
      }

  pub way_rules_there : (r : ℕ) (p : Place) → BreaksWayRule d r p → BreaksWayRule e r p
  way_rules_there r p (l14 h) = l14 (there p h)

  pub way_rules_back : (r : ℕ) (p : Place) → BreaksWayRule e r p → BreaksWayRule d r p
  way_rules_back r p (l14 h) = l14 (back p h)
