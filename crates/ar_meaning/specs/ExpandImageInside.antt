-- Definitions beside those of ExpandImage, of which clauses inside the program speak: what the whole program promises
-- does not rest on them.
use Rattle.ar_meaning.specs.Systems.{Transition}
use Rattle.ar_meaning.specs.Expand.{Member}
use Rattle.ar_meaning.specs.Image.{Transition_renames}
use Rattle.ar_meaning.specs.ExpandImage.{Member_along}

-- the same where transitions differ in their variables alone
abbrev pub Member_renames : {V W E F : Type 0} → (V → W → Type 0) → (E → F → Type 0) → Member (Transition V) E
    → Member (Transition W) F → Type 0
Member_renames same = Member_along (Transition_renames same)
