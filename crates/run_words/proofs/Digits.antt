-- A word that is a number is read as this number.
use Rattle.std.proofs.Common.{◌≡◌, ◌<◌, ◌≤◌, ◌^◌, ◌⊎◌, inl, inr, ℕ, List, Result, Ok, arith, sym, ◌∙◌, ap}
use Rattle.std.specs.Prelude.{decimal}
use Rattle.std.specs.Str.Parse.{ParsesUnsigned}
use Rattle.std.proofs.lemmas.Fmt.{parse-decimal}
use Rattle.run_words.specs.Jobs.{IsNumberText}

pub parsed : {E : Type 0} (word : List ℕ) (r : Result ℕ E) (least most n : ℕ) → most < 2 ^ 32
    → ParsesUnsigned 32 10 word r → IsNumberText least most word n → r ≡ Ok n
parsed word r least most n small parses is =
    parse-decimal 32 n word r (omega (arith, is.at_most, small)) (omega (arith, is.at_most, small)) is.digits parses

same_ok : {E : Type 0} {r : Result ℕ E} {m n : ℕ} → r ≡ Ok m → r ≡ Ok n → m ≡ n
same_ok a b = cc

pub out_of_range : {E : Type 0} (word : List ℕ) (r : Result ℕ E) (least most m n : ℕ) → r ≡ Ok m
    → (m < least) ⊎ ((least ≤ m) × (most < m)) → r ≡ Ok n → IsNumberText least most word n → ⊥
out_of_range word r least most m n is outside isn num = go outside
  where
    same : m ≡ n
    same = same_ok is isn

    go : (m < least) ⊎ ((least ≤ m) × (most < m)) → ⊥
    go (inl low) = omega (arith, same, low, num.at_least)
    go (inr high) = omega (arith, same, high.1, num.at_most)

pub other_digits : {E : Type 0} (word text : List ℕ) (r : Result ℕ E) (least most m n : ℕ) → r ≡ Ok m → text ≡ decimal m
    → r ≡ Ok n → IsNumberText least most word n → text ≡ word
other_digits word text r least most m n is digits isn num = digits ∙ ap decimal (same_ok is isn) ∙ sym num.digits
