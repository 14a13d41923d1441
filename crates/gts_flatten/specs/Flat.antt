-- What it is that a flat system is that of declarations: number n of a kind stands for the thing at place n of the list
-- of its kind.
use Rattle.std.specs.Prelude.{◌≡◌, ℕ, Bool, List, map, length, Vec}
use Rattle.std.specs.Global.{Global}
use Rattle.ar_base.specs.Lists.{Along}
use Rattle.ar_base.specs.Numbers.{VarId, WayId}
use Rattle.typed_expr.specs.declared.expr.Expr.{Expr}
use Rattle.ar_meaning.specs.Systems.{System, Transition, Event as SystemEvent}
use Rattle.ar_meaning.specs.Expand.{EventDeclaration}
use Rattle.ar_meaning.specs.ExpandImage.{Declared_renames}
use Rattle.ar_meaning.specs.FlatOf.{IsFlatOf}
use Rattle.ar_meaning.specs.Numbered.{Body, Acts, Joins}
use Rattle.ar_meaning.specs.TraceText.{Naming}
use Rattle.gts_core.specs.View.{Views, part_of}
use Rattle.gts_core.specs.declared.system.Assign.{Assign}
use Rattle.gts_core.specs.declared.system.Event.{Event}
use Rattle.gts_core.specs.declared.system.GtsParts.{GtsParts}
use Rattle.gts_core.specs.declared.system.Observer.{Observer}
use Rattle.gts_core.specs.declared.system.Variable.{Variable}
use Rattle.gts_core.specs.declared.system.Way.{Way}
use Rattle.gts_core.specs.declared.system.WayBody.{WayBody}
use Rattle.gts_core.specs.declared.system.WayBody.TheVariants.{Local, Sync}
use Rattle.hierarchy.specs.Units.{Thing}
use Rattle.hierarchy.specs.Listing.{variables, events, observers}
use Rattle.hierarchy.specs.Paths.{name_text, unit_path, thing_path}
use Rattle.source_meaning.specs.Numbering.{IsVariableNumber, IsEventNumber, HasObserverKind}
use Rattle.source_meaning.specs.Systems.{Declarations}
use Rattle.sync_expand.specs.Plans.{PlannedWay, planned_ways}
use Rattle.gts_flatten.specs.Elaborating.{Elaborated}

-- Names

-- what the things of declarations are called: canonical paths, the names of symbols, and where the targets of
-- assertions stand
abbrev pub naming_of : Declarations → Naming
naming_of d = record {
  variables = map (thing_path d.model) (variables d.model d.units);
  events = map (thing_path d.model) (events d.model d.units);
  observers = map (thing_path d.model) (observers d.model d.units);
  symbols = map (name_text d.model) d.model.declared.symbols;
  places = d.places;
}

-- the same of the things of a flat system
abbrev pub naming_of_parts : GtsParts → Naming
naming_of_parts p = record {
  variables = map (λ (x : Variable). x.path) p.variables.items;
  events = map (λ (e : Event). e.path) p.events.items;
  observers = map (λ (o : Observer). o.path) p.observers.items;
  symbols = p.symbols.items;
  places = map (λ (a : Assign). a.at) p.assigns.items;
}

-- Ways

-- the body of a planned way: a transition, or the ways of the parts by number
pub data HasBody : Body ℕ → WayBody → Type 0 where
  acts : {k : ℕ} {guard : Expr VarId} {action : Vec Assign Global} → HasBody (Acts k) (Local guard action)
  joins : {parts : Vec (Bool × WayId) Global} → HasBody (Joins (map part_of parts.items)) (Sync parts)

-- the way is the planned one: its event, its number among the event's ways, and what it is made of
pub record IsPlannedWay (planned : PlannedWay) (w : Way) : Type 0 where
  pub event : w.event.n ≡ planned.event
  pub number : w.number ≡ planned.number
  pub body : HasBody planned.body w.body

-- the ways stand event by event, those of an event in order, and each part of a synchronised way is the number of its
-- way among all of these: the number of its event's first way and its place among the event's ways
pub record AreWaysOf (x : Elaborated) (ways : List Way) : Type 0 where
  pub numbered : List (EventDeclaration (Transition ℕ) ℕ)
  pub are_numbered : Along (Declared_renames (IsVariableNumber x.declarations) (IsEventNumber x.declarations))
      x.declarations.events numbered
  pub planned : Along IsPlannedWay (planned_ways (map (λ (e : SystemEvent Thing). length e.ways) x.system.events)
      numbered) ways

-- The flat system

-- the parts are those of the flat system: as a system they are that of the declarations with numbers for variables, and
-- they have its names and places
pub record IsFlat (x : Elaborated) (p : GtsParts) : Type 0 where
  pub flat : System ℕ
  pub views : Views p flat
  pub is_flat : IsFlatOf (variables x.declarations.model x.declarations.units) x.system flat
  pub ways : AreWaysOf x p.ways.items
  pub names : naming_of_parts p ≡ naming_of x.declarations
  pub units_are : p.units.items ≡ map (unit_path x.declarations.model) x.declarations.units
  pub kinds : Along (HasObserverKind x.declarations.model) (observers x.declarations.model x.declarations.units)
      p.observers.items
