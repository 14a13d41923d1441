-- The least number that was found so far.
use Rattle.std.specs.Prelude.{ℕ, Bool, true, false, nat_lt, if◌then◌else◌, Option, Some, None}

-- the lesser of what was found and the number, where the number counts
abbrev pub least_with : Option ℕ → Bool → ℕ → Option ℕ
least_with least false n = least
least_with None true n = Some n
least_with (Some m) true n = Some (if nat_lt n m then n else m)
