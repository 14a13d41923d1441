-- The order of values, lists that ascend, and the truth value or number of a value.
use Rattle.std.specs.Prelude.{◌≡◌, List, AllPairs, ℕ, ℤ, pos, Bool, true, false, nat_lt, int_lt, if◌then◌else◌}
use Rattle.domains.specs.declared.Value.{Value}
use Rattle.domains.specs.declared.Value.TheVariants.{Truth, Whole, Symbol}

-- truth values come before numbers, and numbers before symbols
abbrev pub rank_of : Value → ℕ
rank_of (Truth b) = 0
rank_of (Whole n) = 1
rank_of (Symbol s) = 2

-- where a value stands among those of its rank: false before true, numbers ascending, symbols by their number
abbrev pub number_in_rank : Value → ℤ
number_in_rank (Truth b) = if b then pos 1 else pos 0
number_in_rank (Whole n) = n
number_in_rank (Symbol s) = pos s

-- the first value comes before the second
abbrev pub is_before : Value → Value → Bool
is_before a b =
    if nat_lt (rank_of a) (rank_of b) then true
    else (if nat_lt (rank_of b) (rank_of a) then false else int_lt (number_in_rank a) (number_in_rank b))

-- each value comes before all later ones
abbrev pub IsAscending : List Value → Type 0
IsAscending values = AllPairs (λ a b. is_before a b ≡ true) values

-- the truth value; other values count as false
abbrev pub truth_of : Value → Bool
truth_of (Truth b) = b
truth_of (Whole n) = false
truth_of (Symbol s) = false

-- the whole number; other values count as 0
abbrev pub whole_of : Value → ℤ
whole_of (Truth b) = pos 0
whole_of (Whole n) = n
whole_of (Symbol s) = pos 0
