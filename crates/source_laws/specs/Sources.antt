-- What it is that the sources of two readings are alike.
use Rattle.ar_meaning.specs.ImageInside.{IsImage}
use Rattle.gts_flatten.specs.Elaborating.{Elaborated}
use Rattle.source_laws.specs.Declarations.{SameDeclarations, IsSameThing}

-- declarations that are alike, and systems that are the same form for form
pub record SameSource (x y : Elaborated) : Type 0 where
  pub declarations : SameDeclarations x.declarations y.declarations
  pub system : IsImage IsSameThing x.system y.system
