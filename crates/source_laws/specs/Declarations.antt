-- What it is that the declarations of two models are alike.
use Rattle.std.specs.Prelude.{◌≡◌}
use Rattle.ar_base.specs.Lists.{Along}
use Rattle.ar_meaning.specs.Image.{Expr_renames}
use Rattle.ar_meaning.specs.ImageInside.{IsNetImage}
use Rattle.ar_meaning.specs.ExpandImage.{Declared_renames}
use Rattle.hierarchy.specs.Units.{Thing}
use Rattle.source_meaning.specs.Systems.{Declarations}
use Rattle.source_laws.specs.Tables.{SameRooted}

-- one thing at one place
abbrev pub IsSameThing : Thing → Thing → Type 0
IsSameThing t u = t ≡ u

-- models that agree with the same units; variables, assertions, events with their transitions and synchronisations, and
-- observers that are the same form for form; and the assertions at the same places
pub record SameDeclarations (d e : Declarations) : Type 0 where
  pub model : SameRooted d.model e.model
  pub units : d.units ≡ e.units
  pub net : IsNetImage IsSameThing d.net e.net
  pub events : Along (Declared_renames IsSameThing IsSameThing) d.events e.events
  pub observers : Along (Expr_renames IsSameThing) d.observers e.observers
  pub places : d.places ≡ e.places
