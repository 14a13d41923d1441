-- What it is that two unfoldings, and what stands in their units, are alike.
use Rattle.std.specs.Prelude.{◌≡◌}
use Rattle.hierarchy.specs.Listing.{Unfolded, In}
use Rattle.hierarchy.specs.Settings.{Attribute}
use Rattle.parser_laws.specs.Expressions.{SameExpr}
use Rattle.source_laws.specs.Tables.{SameRooted}

-- models that agree, and the same units
pub record SameUnfolded (t u : Unfolded) : Type 0 where
  pub model : SameRooted t.model u.model
  pub units : t.units ≡ u.units

-- a value that is read in one unit, at one place, from expressions that agree
pub record SameAttribute (a b : Attribute) : Type 0 where
  pub unit : a.unit ≡ b.unit
  pub site : a.site ≡ b.site
  pub setting : a.setting ≡ b.setting
  pub value : SameExpr a.value b.value

-- what stands in one unit and agrees
abbrev pub SameIn : {A : Type 0} → (A → A → Type 0) → In A → In A → Type 0
SameIn Same a b = (a.unit ≡ b.unit) × Same a.item b.item
