-- What it is that bound forms are those of declarations: number n stands for the item at place n of the list of its
-- kind.
use Rattle.std.specs.Prelude.{◌≡◌, ℕ, Bool, List, map, Result, Ok, Err, Vec}
use Rattle.std.specs.Global.{Global}
use Rattle.std.specs.List.{flat_map}
use Rattle.ar_base.specs.Lists.{Along}
use Rattle.ar_base.specs.StagesInside.{Meets}
use Rattle.ar_base.specs.declared.counts.Count.{Count}
use Rattle.ar_base.specs.declared.faults.RuleFault.{RuleFault}
use Rattle.ar_base.specs.declared.faults.RuleFault.TheVariants.{Limit}
use Rattle.ar_base.specs.Numbers.{VarId, NameId}
use Rattle.ar_base.specs.NumbersInside.{EventId}
use Rattle.ar_base.specs.declared.places.Place.{Place}
use Rattle.typed_expr.specs.declared.expr.Expr.{Expr}
use Rattle.ar_meaning.specs.Systems.{Net}
use Rattle.ar_meaning.specs.ExpandImage.{Declared_renames}
use Rattle.ar_meaning.specs.Image.{Expr_renames}
use Rattle.ar_meaning.specs.ImageInside.{IsNetImage}
use Rattle.gts_core.specs.View.{numbered, variables_from}
use Rattle.gts_core.specs.Bound.{assigns_of_act, places_of_act, declared_from}
use Rattle.gts_core.specs.declared.bound.Act.{Act}
use Rattle.gts_core.specs.declared.bound.DeclaredEvent.{DeclaredEvent}
use Rattle.gts_core.specs.declared.bound.DeclaredWay.{DeclaredWay}
use Rattle.gts_core.specs.declared.bound.DeclaredWay.TheVariants.{Local, Sync}
use Rattle.gts_core.specs.declared.system.Observer.{Observer}
use Rattle.gts_core.specs.declared.system.Variable.{Variable}
use Rattle.class_table.specs.Declaring.{MemberForm}
use Rattle.hierarchy.specs.Units.{Thing}
use Rattle.hierarchy.specs.Listing.{Unfolded, variables, events, observers, ways_declared}
use Rattle.hierarchy.specs.Paths.{name_text, unit_path, thing_path}
use Rattle.source_meaning.specs.Rules.{IsWayOf}
use Rattle.source_meaning.specs.SoundBound.{IsSoundBound}
use Rattle.source_meaning.specs.Systems.{Declarations, Binds}
use Rattle.source_meaning.specs.declared.bound.Bound.{Bound}
use Rattle.source_meaning.specs.Numbering.{IsVariableNumber, IsEventNumber, HasObserverKind}

-- Events

-- a bound synchronisation has the place of the event's name
pub data HasPlace : MemberForm → DeclaredWay → Type 0 where
  local : {f : MemberForm} {guard : Expr VarId} {a : Act} → HasPlace f (Local guard a)
  sync : {f : MemberForm} {parts : Vec (Bool × EventId) Global} {at : Place} (x : NameId)
      → IsWayOf f x at → HasPlace f (Sync parts at)

-- Texts and kinds

-- the texts of symbols, and the canonical paths
pub record HasTexts (d : Declarations) (b : Bound) : Type 0 where
  pub symbols : b.symbols.items ≡ map (name_text d.model) d.model.declared.symbols
  pub units_are : b.units.items ≡ map (unit_path d.model) d.units
  pub variables_are : map (λ (x : Variable). x.path) b.variables.items
      ≡ map (thing_path d.model) (variables d.model d.units)
  pub events_are : map (λ (e : DeclaredEvent). e.path) b.events.items
      ≡ map (thing_path d.model) (events d.model d.units)
  pub observers_are : map (λ (o : Observer). o.path) b.observers.items
      ≡ map (thing_path d.model) (observers d.model d.units)

-- the variables and the assertions of bound forms, over numbers
abbrev pub net_of_bound : Bound → Net ℕ
net_of_bound b = record {
  variables = variables_from 0 b.variables.items;
  assertions = flat_map assigns_of_act b.assertions.items;
}

-- the bound forms are those of the declarations, with numbers in place of things
pub record IsBoundFrom (d : Declarations) (b : Bound) : Type 0 where
  pub net : IsNetImage (IsVariableNumber d) d.net (net_of_bound b)
  pub places : flat_map places_of_act b.assertions.items ≡ d.places
  pub events_are : Along (Declared_renames (IsVariableNumber d) (IsEventNumber d)) d.events
      (declared_from 0 b.events.items)
  pub sync_places : Along (λ (t : Thing) (e : DeclaredEvent). Along HasPlace (ways_declared d.model t) e.ways.items)
      (events d.model d.units)
      b.events.items
  pub observers_are : Along (λ (e : Expr Thing) (o : Observer). Expr_renames (IsVariableNumber d) e (numbered o.value))
      d.observers
      b.observers.items
  pub kinds : Along (HasObserverKind d.model) (observers d.model d.units) b.observers.items
  pub texts : HasTexts d b

-- what the binding of a model with these units answers: the bound forms, or the least broken rule of L10 to L13 with
-- its earliest place, or want of memory, which may be told of any tree; no limit is told
pub record BindsTo (t : Unfolded) (answer : Result Bound RuleFault) : Type 0 where
  pub meets : Meets Binds IsBoundFrom t answer
  pub no_limit : (c : Count) → answer ≡ Err (Limit c) → ⊥
  pub sound : (b : Bound) → answer ≡ Ok b → IsSoundBound b
