-- What one call for the next set does.
use Rattle.std.specs.Prelude.{◌≡◌, ℕ, List, [], ◌∷◌, Option, MatchOption, ⊤}
use Rattle.std.specs.Borrow.{follows_so, Bor, MutBor, Fml}
use Rattle.ar_base.specs.NumbersInside.{EventId}
use Rattle.min_cuts.specs.Kept.{numbers_of_set}
use Rattle.min_cuts.specs.contracts.lister.Lister.{the_row}
use mathlib.Core.Option.{none}

-- the answer has the events of the first set that is left, and there is none where no set is left
abbrev pub IsFirstSet : List (List ℕ) → Option (Bor (List EventId)) → Type 0
IsFirstSet left answer =
    MatchOption answer (left ≡ []) (λ events. (rest : List (List ℕ)) × (left ≡ numbers_of_set events.now ∷ rest))

-- where a set is left, its events are given and the sets behind it are left; else nothing is given, and no set
-- is left
abbrev pub GivesNextSet : List (List ℕ) → List (List ℕ) → Option (Bor (List EventId)) → Type 0
GivesNextSet old new answer =
    MatchOption answer ((old ≡ []) × (new ≡ [])) (λ events. old ≡ numbers_of_set events.now ∷ new)

-- once the answer is no longer borrowed, the lister is as `GivesNextSet` says
abbrev pub GivesThenGoesOn : MutBor (List (List ℕ)) → Option (Bor (List EventId)) → Fml
GivesThenGoesOn lister answer =
    follows_so the_row the_row lister.ghost_name none (λ _ _. ⊤) (λ new. GivesNextSet lister.now new answer)
