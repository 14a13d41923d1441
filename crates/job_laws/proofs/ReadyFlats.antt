-- A flat system of a source is one of a source that is alike.
use Rattle.std.proofs.Common.{◌≡◌, ℕ, Bool, List, map, length, refl, sym, ◌∙◌, subst}
use Rattle.ar_base.specs.Lists.{Stands, Along}
use Rattle.ar_base.specs.Lists as along
use Rattle.ar_base.proofs.Standing.{along_length}
use Rattle.ar_meaning.specs.Systems.{Transition, Event}
use Rattle.ar_meaning.specs.Expand.{EventDeclaration, Member}
use Rattle.ar_meaning.specs.ExpandImage.{Part_renames, transitions, synchronise, Declared_renames}
use Rattle.ar_meaning.specs.ExpandImageInside.{Member_renames}
use Rattle.ar_meaning.specs.FlatOf.{IsFlatOf}
use Rattle.ar_meaning.specs.Image.{Event_renames}
use Rattle.ar_meaning.proofs.ImageJoined.{along_joined, transition_joined}
use Rattle.ar_meaning.proofs.ImageTurned.{along_turned}
use Rattle.gts_core.specs.declared.system.Observer.{Observer}
use Rattle.gts_core.specs.declared.system.GtsParts.{GtsParts}
use Rattle.gts_core.specs.declared.system.Way.{Way}
use Rattle.hierarchy.specs.Units.{Thing}
use Rattle.source_meaning.specs.Numbering.{IsVariableNumber, IsEventNumber, HasObserverKind, kind}
use Rattle.sync_expand.specs.Plans.{planned_ways}
use Rattle.gts_flatten.specs.Elaborating.{Elaborated}
use Rattle.gts_flatten.specs.Flat.{IsPlannedWay, AreWaysOf, IsFlat}
use Rattle.source_laws.specs.Declarations.{IsSameThing}
use Rattle.job_laws.proofs.Lists.{along_each}
use Rattle.job_laws.proofs.Shared.{Share}
use Rattle.job_laws.proofs.Tables.{flat_there}
use Rattle.job_laws.proofs.Turned.{declared_back}

ways_same : {V W : Type 0} {same : V → W → Type 0} {es : List (Event V)} {fs : List (Event W)}
    → Along (Event_renames same) es fs
    → map (λ (e : Event V). length e.ways) es ≡ map (λ (e : Event W). length e.ways) fs
ways_same along.none = refl
ways_same (along.one_and {a = e} {b = f} r more) =
    let i = along_length e.ways f.ways r.ways in let h = ways_same more in cc

module _ (x y : Elaborated) (s : Share x y) where
  by_variable : (t u : Thing) (n : ℕ) → IsSameThing t u → IsVariableNumber x.declarations u n
      → IsVariableNumber y.declarations t n
  by_variable t u n e h =
      subst (λ (z : List Thing). Stands z n t) s.variables
      (subst (λ (z : Thing). IsVariableNumber x.declarations z n) (sym e) h)

  by_event : (t u : Thing) (n : ℕ) → IsSameThing t u → IsEventNumber x.declarations u n
      → IsEventNumber y.declarations t n
  by_event t u n e h =
      subst (λ (z : List Thing). Stands z n t) s.events
      (subst (λ (z : Thing). IsEventNumber x.declarations z n) (sym e) h)

  part_there : (p q : Bool × Thing) (r : Bool × ℕ) → Part_renames IsSameThing p q
      → Part_renames (IsEventNumber x.declarations) q r → Part_renames (IsEventNumber y.declarations) p r
  part_there p q r a b = record { must = a.must ∙ b.must; key = by_event p.1 q.1 r.1 a.key b.key }

  member_there : (a b : Member (Transition Thing) Thing) (c : Member (Transition ℕ) ℕ)
      → Member_renames IsSameThing IsSameThing a b
      → Member_renames (IsVariableNumber x.declarations) (IsEventNumber x.declarations) b c
      → Member_renames (IsVariableNumber y.declarations) (IsEventNumber y.declarations) a c
  member_there a b c (transitions {d = d} {e = e} p) (transitions {e = f} q) =
      transitions (transition_joined IsSameThing (IsVariableNumber x.declarations) (IsVariableNumber y.declarations)
      by_variable d e f p q)
  member_there a b c (synchronise p) (synchronise q) = synchronise (along_joined part_there p q)

  declared_there : (d e : EventDeclaration (Transition Thing) Thing) (f : EventDeclaration (Transition ℕ) ℕ)
      → Declared_renames IsSameThing IsSameThing d e
      → Declared_renames (IsVariableNumber x.declarations) (IsEventNumber x.declarations) e f
      → Declared_renames (IsVariableNumber y.declarations) (IsEventNumber y.declarations) d f
  declared_there d e f p q = record {
    key = by_event d.key e.key f.key p.key q.key;
    unit = p.unit ∙ q.unit;
    hidden = p.hidden ∙ q.hidden;
    members = along_joined member_there p.members q.members;
  }

  ways_there : (ways : List Way) → AreWaysOf x ways → AreWaysOf y ways
  ways_there ways h = record {
    numbered = h.numbered;
    are_numbered = along_joined declared_there (along_turned declared_back s.declared) h.are_numbered;
    planned = subst (λ (z : List ℕ). Along IsPlannedWay (planned_ways z h.numbered) ways) (ways_same s.system.events)
        h.planned;
  }

  kind_there : (t : Thing) (o : Observer) → HasObserverKind x.declarations.model t o
      → HasObserverKind y.declarations.model t o
  kind_there t o (kind type e i k) =
      let h = s.types t type o.kind (record { written = e; is = i; kind_is = k }) in
      kind type h.written h.is h.kind_is

  pub flat_parts_there : (p : GtsParts) → IsFlat x p → IsFlat y p
  flat_parts_there p h = record {
    flat = h.flat;
    views = h.views;
    is_flat = subst (λ (z : List Thing). IsFlatOf z y.system h.flat) s.variables
        (flat_there _ x.system y.system s.system h.flat h.is_flat);
    ways = ways_there p.ways.items h.ways;
    names = h.names ∙ s.naming;
    units_are = h.units_are ∙ s.unit_paths;
    kinds = subst (λ (z : List Thing). Along (HasObserverKind y.declarations.model) z p.observers.items) s.observers
        (along_each kind_there h.kinds);
  }
