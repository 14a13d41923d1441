-- What budgets count.
use Rattle.std.specs.Prelude.{◌≡◌, ◌+◌, ◌||◌, ℕ, if◌then◌else◌, nat_lt}
use Rattle.typed_expr.specs.declared.budget.Budget.{Budget}

-- what so many values count as: themselves, or one where there is none
abbrev pub taken_by : ℕ → ℕ
taken_by values = if nat_lt 1 values then values else 1

-- from a budget the values are taken where it counts, and it counts from two values on
pub record Spends (old : Budget) (values : ℕ) (new : Budget) : Type 0 where
  pub counts : new.counts ≡ (old.counts || nat_lt 1 values)
  pub left : (if new.counts then taken_by values else 0) + new.left ≡ old.left
