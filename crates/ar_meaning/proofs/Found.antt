-- What the answer of a test says.
use Rattle.std.proofs.Common.{◌≡◌, Bool, true, false, refl}
use Rattle.ar_meaning.specs.Found.{IsAnswer}

-- the test says that P holds
pub holds : (P : Type 0) (b : Bool) → b ≡ true → IsAnswer b P → P
holds P true e h = h
holds P false e h = absurd (cc e)

-- the test says that P does not hold
pub fails : (P : Type 0) (b : Bool) → b ≡ false → IsAnswer b P → P → ⊥
fails P true e h = absurd (cc e)
fails P false e h = h

-- two tests of one fact answer alike
pub same_answer : (P : Type 0) (a b : Bool) → IsAnswer a P → IsAnswer b P → a ≡ b
same_answer P true true h k = refl
same_answer P true false h k = absurd (k h)
same_answer P false true h k = absurd (h k)
same_answer P false false h k = refl
