-- The text of a domain rests on its values and on what symbols are called.
use Rattle.std.proofs.Common.{◌≡◌, ℕ, ℤ, true, List, [], ◌∷◌, ◌++◌, map, codes, Contains, refl, sym, ap, ◌∙◌, subst, arith}
use Rattle.std.specs.Fmt.{signed_decimal}
use Rattle.std.proofs.lemmas.Int.{ints}
use Rattle.ar_base.specs.Texts.{text_at, separated}
use Rattle.domains.specs.Domains.{IsDomain, Holds, values_of}
use Rattle.domains.specs.declared.Domain.{Domain}
use Rattle.domains.specs.declared.Domain.TheVariants.{Boolean, Symbols, Range}
use Rattle.domains.specs.declared.Value.{Value}
use Rattle.domains.specs.declared.Value.TheVariants.{Truth, Whole, Symbol}
use Rattle.domains.proofs.Domains.{listed, held}
use Rattle.gts_core.specs.Printed.{domain_text}
use Rattle.gts_core.specs.declared.system.GtsParts.{GtsParts}

-- what one domain holds, one of the same values holds
held_there : (c d : Domain) → IsDomain d → values_of c ≡ values_of d → (v : Value) → Holds c v → Holds d v
held_there c d is e v h = held d v is (subst (λ (z : List Value). Contains z v) e (listed c v h))

symbols_one : (xs ys : List ℕ) → map Symbol xs ≡ map Symbol ys → xs ≡ ys
symbols_one [] [] e = refl
symbols_one [] (y ∷ ys) e = cc
symbols_one (x ∷ xs) [] e = cc
symbols_one (x ∷ xs) (y ∷ ys) e = let i : x ≡ y = cc in let j = symbols_one xs ys cc in cc

module _ (p q : GtsParts) (symbols : p.symbols.items ≡ q.symbols.items) where
  pub domain_one : (c d : Domain) → IsDomain c → IsDomain d → values_of c ≡ values_of d
      → domain_text p c ≡ domain_text q d
  domain_one Boolean Boolean i j e = refl
  domain_one Boolean (Symbols ys) i j e = absurd (held_there Boolean (Symbols ys) j e (Truth true) tt)
  domain_one Boolean (Range m n) i j e = absurd (held_there Boolean (Range m n) j e (Truth true) tt)
  domain_one (Symbols xs) Boolean i j e = absurd (held_there Boolean (Symbols xs) i (sym e) (Truth true) tt)
  domain_one (Symbols xs) (Symbols ys) i j e =
      ap (λ (z : List ℕ). codes "{" ++ separated true (codes ", ") (map (text_at p.symbols.items) z) ++ codes "}")
      (symbols_one xs.items ys.items e)
      ∙ ap (λ (z : List (List ℕ)). codes "{" ++ separated true (codes ", ") (map (text_at z) ys.items) ++ codes "}")
      symbols
  domain_one (Symbols xs) (Range m n) i j e =
      absurd (held_there (Range m n) (Symbols xs) i (sym e) (Whole m) (omega (arith, ints), j.0))
  domain_one (Range k l) Boolean i j e = absurd (held_there Boolean (Range k l) i (sym e) (Truth true) tt)
  domain_one (Range k l) (Symbols ys) i j e =
      absurd (held_there (Range k l) (Symbols ys) j e (Whole k) (omega (arith, ints), i.0))
  domain_one (Range k l) (Range m n) i j e =
      let a = held_there (Range k l) (Range m n) j e (Whole k) (omega (arith, ints), i.0) in
      let b = held_there (Range k l) (Range m n) j e (Whole l) (i.0, omega (arith, ints)) in
      let c = held_there (Range m n) (Range k l) i (sym e) (Whole m) (omega (arith, ints), j.0) in
      let d = held_there (Range m n) (Range k l) i (sym e) (Whole n) (j.0, omega (arith, ints)) in
      let low : k ≡ m = omega (arith, ints, a.0, c.0) in
      let high : l ≡ n = omega (arith, ints, b.1, d.1) in
      ap (λ (z : ℤ). codes "[" ++ signed_decimal z ++ codes ", " ++ signed_decimal l ++ codes "]") low
      ∙ ap (λ (z : ℤ). codes "[" ++ signed_decimal m ++ codes ", " ++ signed_decimal z ++ codes "]") high
