-- Families in short: units in the place of their events.
use Rattle.std.specs.Prelude.{◌≡◌, ℕ, Bool, not, ◌&&◌, List, [], ◌∷◌, map}
use Rattle.std.specs.List.{filter, list_any}
use Rattle.ar_base.specs.Lists.{Along}
use Rattle.ar_firing.specs.Listed.{AreListed}
use Rattle.zdd_nodes.specs.Families.{Family, same}
use Rattle.gate_modules.specs.Modules.{lies, IsPartOfUnit, AreChosen}
use Rattle.gate_modules.specs.declared.ranges.Range.{Range}

-- a unit with sets of its events
pub record UnitSets : Type 0 where
  pub unit : ℕ
  pub sets : List (List ℕ)

-- units and further events
pub record ShortForm : Type 0 where
  pub units : List ℕ
  pub events : List ℕ

-- the set has an event of the range
abbrev pub touches : List ℕ → Range → Bool
touches set r = list_any (lies r) set

-- the event is of one of the ranges
abbrev pub is_covered : List Range → ℕ → Bool
is_covered chosen e = list_any (λ r. lies r e) chosen

-- the units of the ranges that pass the test
abbrev pub units_where : (Range → Bool) → List Range → List ℕ
units_where q chosen = map (λ (r : Range). r.unit.n) (filter q chosen)

-- the short form of a set: the chosen units of which it has an event, and its events that are of no chosen unit
abbrev pub short_form : List Range → List ℕ → ShortForm
short_form chosen set = record {
  units = units_where (touches set) chosen;
  events = filter (λ e. not (is_covered chosen e)) set;
}

-- whether the two forms are one
abbrev pub same_form : ShortForm → ShortForm → Bool
same_form a b = same a.units b.units && same a.events b.events

-- each of the forms once, where it stands first
abbrev pub once : List ShortForm → List ShortForm
once [] = []
once (a ∷ forms) = a ∷ filter (λ b. not (same_form a b)) (once forms)

-- the unit with its parts, as they are listed
pub record IsModuleOf (f : Family) (r : Range) (m : UnitSets) : Type 0 where
  pub unit : m.unit ≡ r.unit.n
  pub sets : AreListed (IsPartOfUnit f r) m.sets

-- the family in short: its chosen units by number, each with its parts, and the short forms of its sets, each once, in
-- the order of the first set that has it
pub record IsShortened (f : Family) (ranges : List Range) (modules : List UnitSets)
    (forms : List ShortForm) : Type 0 where
  pub chosen : List Range
  pub are_chosen : AreChosen f ranges chosen
  pub modules_are : Along (IsModuleOf f) chosen modules
  pub forms_are : forms ≡ once (map (short_form chosen) f)
