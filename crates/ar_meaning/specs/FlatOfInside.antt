-- Definitions beside those of FlatOf, of which clauses inside the program speak: what the whole program promises does
-- not rest on them.
use Rattle.std.specs.Prelude.{◌≡◌, ℕ, List, slice_get}
use Rattle.ar_base.specs.Lists.{AreDifferent, Along}
use Rattle.ar_base.specs.Texts.{text_at}
use Rattle.ar_meaning.specs.Systems.{Transition}
use Rattle.ar_meaning.specs.Expand.{EventDeclaration}
use Rattle.ar_meaning.specs.ExpandImage.{Declared_renames}
use Rattle.ar_meaning.specs.TraceText.{Naming, optional_place_text}
use Rattle.ar_meaning.specs.FlatOf.{IsNumber}

-- the same of declared events, where each number stands for the event's key at its place of another list
pub record AreFlatOf {V E : Type 0} (things : List V) (keys : List E) (declared : List (EventDeclaration (Transition V)
    E)) (flat : List (EventDeclaration (Transition ℕ) ℕ)) : Type 0 where
  pub different : AreDifferent keys
  pub events : Along (Declared_renames (IsNumber things) (IsNumber keys)) declared flat

-- both call the same number alike
pub record NameAlike (a b : Naming) : Type 0 where
  pub variables : (n : ℕ) → text_at a.variables n ≡ text_at b.variables n
  pub events : (n : ℕ) → text_at a.events n ≡ text_at b.events n
  pub observers : (n : ℕ) → text_at a.observers n ≡ text_at b.observers n
  pub symbols : (n : ℕ) → text_at a.symbols n ≡ text_at b.symbols n
  pub places : (n : ℕ) → optional_place_text (slice_get a.places n) ≡ optional_place_text (slice_get b.places n)
