-- The system that declarations mean, with rule L14 and the limits of ways, of their parts and of the nodes of
-- expressions.
use Rattle.std.specs.Prelude.{◌≡◌, ℕ, map, Result, Ok}
use Rattle.ar_base.specs.Lists.{Stands, IsOneOf}
use Rattle.ar_base.specs.Numbers.{NameId}
use Rattle.ar_base.specs.Stages.{Then, Keeps, Fits}
use Rattle.ar_base.specs.declared.counts.Count.TheVariants.{Ways as TheWays, WayParts, ExpressionNodes}
use Rattle.ar_base.specs.declared.faults.RuleFault.{RuleFault}
use Rattle.ar_base.specs.declared.places.Place.{Place}
use Rattle.ar_meaning.specs.Systems.{System, Event}
use Rattle.ar_meaning.specs.Expand.{LeadsBack}
use Rattle.class_table.specs.Declaring.{MemberForm}
use Rattle.hierarchy.specs.Units.{Thing}
use Rattle.hierarchy.specs.Listing.{events, ways_declared}
use Rattle.source_meaning.specs.Rules.{IsWayOf}
use Rattle.source_meaning.specs.Systems.{Declarations, HasDeclarations}
use Rattle.sync_expand.specs.Counting.{way_rules, most_ways, way_parts}
use Rattle.gts_flatten.specs.Sizes.{system_nodes}

-- declarations with the system that they mean
pub record Elaborated : Type 0 where
  pub declarations : Declarations
  pub system : System Thing

-- L14

-- a synchronisation of an event from which the event is reached again; its name stands here
pub record BreaksSynchronisation (d : Declarations) (p : Place) : Type 0 where
  pub event : Thing
  pub is_event : IsOneOf (events d.model d.units) event
  pub place : ℕ
  pub form : MemberForm
  pub is_way : Stands (ways_declared d.model event) place form
  pub name : NameId
  pub stands_at : IsWayOf form name p
  pub back : LeadsBack d.events event place

-- rule n is broken at this place
pub data BreaksWayRule (d : Declarations) : ℕ → Place → Type 0 where
  l14 : {p : Place} → BreaksSynchronisation d p → BreaksWayRule d 14 p

-- The limits

-- the ways of the event that has the most
abbrev pub most_ways_counted : Elaborated → ℕ
most_ways_counted x = most_ways (map (λ (e : Event Thing). e.ways) x.system.events)

-- the parts of all synchronised ways
abbrev pub way_parts_counted : Elaborated → ℕ
way_parts_counted x = way_parts (map (λ (e : Event Thing). e.ways) x.system.events)

-- the nodes of guards, actions, assertions and observers
abbrev pub nodes_counted : Elaborated → ℕ
nodes_counted x = system_nodes x.system

-- The stage

-- the declarations mean this system
pub data HasSystem (d : Declarations) : Result Elaborated RuleFault → Type 0 where
  has : {x : Elaborated} → x.declarations ≡ d → HasDeclarations d x.system → HasSystem d (Ok x)

-- rule L14, the system with the ways of its events, then the limits of an event's ways, of the parts of all ways and of
-- the nodes
abbrev pub Flattens : Declarations → Result Elaborated RuleFault → Type 0
Flattens = Then (Keeps way_rules BreaksWayRule)
    (Then HasSystem (Then (Fits TheWays most_ways_counted)
    (Then (Fits WayParts way_parts_counted) (Fits ExpressionNodes nodes_counted))))
