-- The folds, a step at a time.
use Rattle.std.specs.Prelude.{ℤ, pos, Bool, List, fold, if◌then◌else◌}
use Rattle.domains.specs.declared.Value.{Value}
use Rattle.domains.specs.Values.{whole_of}
use Rattle.typed_expr.specs.Values.{added, multiplied, lesser, greater, counted, product_of, least_of, greatest_of, count_of}
use Rattle.typed_expr.specs.declared.fold.Step.{Step}
use Rattle.typed_expr.specs.declared.fold.Step.TheVariants.{Part, Times, Lesser, Greater, Counted}

-- the fold of the values by such steps
abbrev pub fold_of : Step → List Value → ℤ
fold_of (Part plus) vs = fold (λ n v. added n (plus, v)) (pos 0) vs
fold_of Times vs = product_of vs
fold_of Lesser vs = least_of vs
fold_of Greater vs = greatest_of vs
fold_of Counted vs = count_of vs

-- the fold with one more value, where n is the fold of those before it, if there are any
abbrev pub next_of : Step → Bool → ℤ → Value → ℤ
next_of (Part plus) first n v = added n (plus, v)
next_of Times first n v = multiplied n v
next_of Lesser first n v = if first then whole_of v else lesser n v
next_of Greater first n v = if first then whole_of v else greater n v
next_of Counted first n v = counted n v
