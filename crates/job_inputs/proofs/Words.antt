-- Words that write values.
use Rattle.std.proofs.Common.{◌≡◌, ◌+◌, ◌<◌, ◌≤◌, ◌^◌, inl, inr, ℕ, ℤ, true, false, List, Option, Some, None, Result, Ok, pos, negsuc, FitsSigned, codes, length, get_or, refl, sym, ◌∙◌, ap, subst, arith}
use Rattle.std.specs.Fmt.{signed_decimal}
use Rattle.std.specs.Int.{w64}
use Rattle.std.specs.Int.Signed.{mag}
use Rattle.std.specs.Str.Parse.{ParsesSigned}
use Rattle.std.proofs.lemmas.Fmt.{parse-signed_decimal}
use Rattle.std.proofs.Math.Nat.{eq-or-lt_of_le}
use Rattle.std.proofs.lemmas.Option.{slice_get_read}
use Rattle.ar_base.specs.Lists.{Stands}
use Rattle.ar_base.proofs.Standing.{stands_one}
use Rattle.std.specs.Option.{MatchOption}
use Rattle.domains.specs.declared.Value.{Value}
use Rattle.domains.specs.declared.Value.TheVariants as value
use Rattle.typed_expr.specs.declared.expr.ValueKind.{ValueKind}
use Rattle.typed_expr.specs.declared.expr.ValueKind.TheVariants.{Truth, Whole, Symbol}
use Rattle.job_inputs.specs.Wanting.{WritesValue, truth, whole, less_zero, symbol, Wants, as_written, true_unsaid}

-- the number that is written is the one that is read
pub parsed : {E : Type 0} (word : List ℕ) (r : Result ℤ E) (n : ℤ) → FitsSigned w64 n → ParsesSigned w64 10 word r
    → word ≡ signed_decimal n → r ≡ Ok n
parsed word r n fits parses is = parse-signed_decimal w64 n word r fits (within n fits) is parses
  where
    within : (z : ℤ) → FitsSigned w64 z → mag z < 2 ^ 63
    within (pos k) f = omega (arith, f)
    within (negsuc k) f = omega (arith, f)

pub same_number : {E : Type 0} {r : Result ℤ E} {m n : ℤ} → r ≡ Ok m → r ≡ Ok n → m ≡ n
same_number a b = cc

-- a word that writes a value of one kind
pub not_truth : {symbols : List (List ℕ)} {word : List ℕ} → (word ≡ codes "true" → ⊥) → (word ≡ codes "false" → ⊥)
    → (v : Value) → WritesValue symbols word Truth v → ⊥
not_truth t f v (truth {b = true} e) = t e
not_truth t f v (truth {b = false} e) = f e

pub not_whole : {symbols : List (List ℕ)} {word : List ℕ} → (word ≡ codes "-0" → ⊥)
    → ((n : ℤ) → FitsSigned w64 n → word ≡ signed_decimal n → ⊥) → (v : Value) → WritesValue symbols word Whole v → ⊥
not_whole z n v (whole {n = k} f e) = n k f e
not_whole z n v (less_zero e) = z e

pub not_symbol : {symbols : List (List ℕ)} {word : List ℕ} → ((n : ℕ) → Stands symbols n word → ⊥) → (v : Value)
    → WritesValue symbols word Symbol v → ⊥
not_symbol n v (symbol {s = k} s) = n k s

-- what is asked for by a word is what it writes
wrote : {symbols : List (List ℕ)} {o : Option (List ℕ)} {k : ValueKind} {v : Value} → Wants symbols o k v
    → (text : List ℕ)
    → o ≡ Some text → WritesValue symbols text k v
wrote {symbols = symbols} {k = k} {v = v} (as_written {word = t} x) text i =
    let same : t ≡ text = cc in subst (λ (z : List ℕ). WritesValue symbols z k v) same x
wrote true_unsaid text i = cc

-- where there is a word, what it writes is asked for
pub said : (symbols : List (List ℕ)) (word : Option (List ℕ)) (text shown : List ℕ) (k : ValueKind) (r : Option Value)
    → word ≡ Some text → shown ≡ text
    → MatchOption r ((v : Value) → WritesValue symbols shown k v → ⊥) (λ v. WritesValue symbols shown k v)
    → MatchOption r ((v : Value) → Wants symbols word k v → ⊥) (λ v. Wants symbols word k v)
said symbols word text shown k None e f m = λ v w. m v (wrote w shown (e ∙ ap (λ z. Some z) (sym f)))
said symbols word text shown k (Some v) e f m =
    subst (λ (z : Option (List ℕ)). Wants symbols z k v) (sym e)
    (as_written (subst (λ (z : List ℕ). WritesValue symbols z k v) f m))

pub unsaid : (symbols : List (List ℕ)) (word : Option (List ℕ)) (k : ValueKind) → word ≡ None → k ≡ Truth
    → Wants symbols word k (value.Truth true)
unsaid symbols word k e f =
    subst (λ (z : Option (List ℕ)). Wants symbols z k (value.Truth true)) (sym e)
    (subst (λ (z : ValueKind). Wants symbols None z (value.Truth true)) (sym f) true_unsaid)

-- the symbols up to here and this one
pub none_more : (symbols : List (List ℕ)) (word : List ℕ) (place : ℕ)
    → ((n : ℕ) → n < place → Stands symbols n word → ⊥)
    → (Stands symbols place word → ⊥) → (n : ℕ) → n < place + 1 → Stands symbols n word → ⊥
none_more symbols word place before here n l s = elim (eq-or-lt_of_le (at_most l)) [
  | inl e ↦ here (subst (λ k. Stands symbols k word) e s)
  | inr m ↦ before n m s
]
  where
    at_most : n < place + 1 → n ≤ place
    at_most h = omega (arith, h)

-- the name that stands here
pub is_here : (symbols : List (List ℕ)) (place : ℕ) (name : List ℕ) → place < length symbols
    → name ≡ get_or symbols place name
    → Stands symbols place name
is_here symbols place name l e = slice_get_read symbols (length symbols) place name refl l e

pub is_not : (symbols : List (List ℕ)) (place : ℕ) (name shown word : List ℕ) → place < length symbols
    → name ≡ get_or symbols place name → shown ≡ name → (shown ≡ word → ⊥) → Stands symbols place word → ⊥
is_not symbols place name shown word l e f n s =
    n (f ∙ stands_one symbols place name word (is_here symbols place name l e) s)
