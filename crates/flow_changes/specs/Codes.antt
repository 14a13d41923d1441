-- Values as numbers by their domain.
use Rattle.std.specs.Prelude.{ℕ, zero, suc, Bool, true, false, ◌&&◌, min, pos, ◌+ℤ◌, ◌-ℤ◌, nat_abs, int_le, if◌then◌else◌}
use Rattle.domains.specs.declared.Value.{Value}
use Rattle.domains.specs.declared.Value.TheVariants.{Truth, Whole, Symbol}
use Rattle.domains.specs.declared.Domain.{Domain}
use Rattle.domains.specs.declared.Domain.TheVariants.{Boolean, Symbols, Range}

-- the number that stands for a value of the domain: 0 or 1 for a truth value, a symbol's own, and a whole number's
-- distance from the lower end; 0 for a value that the domain does not have by its kind or its ends
abbrev pub coded : Domain → Value → ℕ
coded Boolean (Truth b) = if b then 1 else 0
coded Boolean (Whole n) = 0
coded Boolean (Symbol s) = 0
coded (Symbols symbols) (Truth b) = 0
coded (Symbols symbols) (Whole n) = 0
coded (Symbols symbols) (Symbol s) = s
coded (Range low high) (Truth b) = 0
coded (Range low high) (Whole n) = if int_le low n && int_le n high then nat_abs (n -ℤ low) else 0
coded (Range low high) (Symbol s) = 0

-- the truth value that a number stands for
abbrev pub truth_of_code : ℕ → Bool
truth_of_code zero = false
truth_of_code (suc n) = true

-- the value of the domain that the number stands for; a number that is too large for a range stands for the upper end
abbrev pub decoded : Domain → ℕ → Value
decoded Boolean c = Truth (truth_of_code c)
decoded (Symbols symbols) c = Symbol c
decoded (Range low high) c = Whole (low +ℤ pos (min c (nat_abs (high -ℤ low))))
