-- The symbols of a model are different, and so each of their places is below the bound of their numbers.
use Rattle.std.proofs.Common.{◌≡◌, ℕ, ◌+◌, ◌<◌, List, [], take, length, arith}
use Rattle.std.proofs.lemmas.List.{length-take-le}
use Rattle.ar_base.specs.Lists.{Stands, AreDifferent}
use Rattle.ar_base.proofs.Few.{few_below}
use Rattle.ar_base.proofs.Standing.{stands_none, stands_within, different_more}
use Rattle.class_table.specs.Declaring.{FirstUses}
use Rattle.class_table.specs.Declaring.FirstUses.{none, known, first}
use Rattle.class_table.proofs.Taken.{stands_take, below_next}
use Rattle.hierarchy.specs.Models.{RootedModel}
use Rattle.hierarchy.specs.ModelsInside.{KeepsTextRules}

-- no symbol is listed twice
uses_different : (old xs new : List ℕ) → FirstUses old xs new → AreDifferent old → AreDifferent new
uses_different old xs new none d = d
uses_different old xs new (known {xs = ys} o h) d = uses_different old ys new h d
uses_different old xs new (first {xs = ys} {x = x} n h) d = uses_different _ ys new h (different_more old x d n)

pub symbols_different : {m : RootedModel} → KeepsTextRules m → AreDifferent m.declared.symbols
symbols_different k = uses_different [] _ _ k.rooted.declared.symbols
    (record { one = λ i j a p q. absurd (stands_none i a p) })

-- the first n numbers are below the bound
abbrev pub AreBelow : List ℕ → ℕ → ℕ → Type 0
AreBelow xs bound n = (k x : ℕ) → k < n → Stands xs k x → x < bound

-- the place of a number is below the bound where that number and all before it are
pub place_below : (xs : List ℕ) (bound n x : ℕ) → AreDifferent xs → AreBelow xs bound n → Stands xs n x → x < bound
    → n < bound
place_below xs bound n x d b s l =
    let long : length (take (n + 1) xs) ≡ n + 1 =
    length-take-le (n + 1) xs (let w = stands_within xs n x s in omega (arith, w)) in
    let few = few_below bound (take (n + 1) xs)
    (record { one = λ i j a p q. d.one i j a (stands_take xs (n + 1) i a p) (stands_take xs (n + 1) j a q) })
    (λ y o. below_next xs (λ (z : ℕ). z < bound) n x s b l o.place y
    (let w = stands_within (take (n + 1) xs) o.place y o.stands in omega (arith, w, long))
    (stands_take xs (n + 1) o.place y o.stands)) in
    omega (arith, few, long)
