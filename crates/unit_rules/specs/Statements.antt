-- Clones and aliases whose paths make no unit.
use Rattle.std.specs.Prelude.{◌≡◌, List, [], Some}
use Rattle.ar_base.specs.Lists.{IsOneOf}
use Rattle.ar_base.specs.declared.places.Place.{Place}
use Rattle.ar_syntax.specs.declared.paths.Path.{Path}
use Rattle.class_table.specs.Members.{NamedMember, MemberKind, Clone, Alias}
use Rattle.hierarchy.specs.Models.{RootedModel}
use Rattle.hierarchy.specs.Units.{UnitPath, names_at}
use Rattle.hierarchy.specs.Walks.{WalkOutcome, NameLeads}

-- the path of a clone or an alias
pub data HasPath : MemberKind → Path → Type 0 where
  clones : {p : Path} → HasPath (Clone p) p
  embeds : {p : Path} → HasPath (Alias p) p

-- the walk of a clone or an alias of this unit, whose path stands here, comes to this
pub record EndsIn (m : RootedModel) (u : UnitPath) (o : WalkOutcome) (at : Place) : Type 0 where
  pub given : NamedMember
  pub is_given : IsOneOf (names_at m u) given
  pub path : Path
  pub has_path : HasPath given.kind path
  pub comes : NameLeads m [] u given.name (Some given.kind) o
  pub place : at ≡ path.at

-- the same of some unit
pub record WalkEnds (m : RootedModel) (units : List UnitPath) (o : WalkOutcome) (at : Place) : Type 0 where
  pub unit : UnitPath
  pub is_unit : IsOneOf units unit
  pub ends : EndsIn m unit o at
