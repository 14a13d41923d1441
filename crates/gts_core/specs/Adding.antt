-- Lists that are gathered item by item.
use Rattle.std.specs.Prelude.{◌⊎◌, List}
use Rattle.ar_base.specs.Lists.{IsOneOf}

-- the list got the things that have P, and none other
pub record Adds {A : Type 0} (P : A → Type 0) (old new : List A) : Type 0 where
  pub grows : (x : A) → IsOneOf old x → IsOneOf new x
  pub only : (x : A) → IsOneOf new x → IsOneOf old x ⊎ P x
  pub all : (x : A) → P x → IsOneOf new x

-- the list has the things that have P, and none other
pub record HasThose {A : Type 0} (P : A → Type 0) (all : List A) : Type 0 where
  pub only : (x : A) → IsOneOf all x → P x
  pub each : (x : A) → P x → IsOneOf all x
