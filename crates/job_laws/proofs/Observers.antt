-- Observers, and the values that words write: one each.
use Rattle.std.proofs.Common.{◌≡◌, ◌<◌, ◌^◌, ℕ, ℤ, zero, suc, Bool, true, false, List, [], ◌∷◌, Option, Some, None, pos, negsuc, FitsSigned, codes, decimal, length, get_or, refl, sym, ◌∙◌, ap, subst, arith}
use Rattle.std.specs.Fmt.{signed_decimal}
use Rattle.std.specs.Int.{w64}
use Rattle.std.specs.Int.Signed.{mag}
use Rattle.std.proofs.lemmas.Fmt.{decimal_injective, decimal_digit, first_decimal, signed_decimal_injective}
use Rattle.ar_base.specs.Lists.{AreDifferent}
use Rattle.ar_base.specs.Texts.{truth_text}
use Rattle.ar_base.proofs.Standing.{stands_one}
use Rattle.class_table.specs.Members.{MemberKind, Observer}
use Rattle.domains.specs.declared.Value.{Value}
use Rattle.typed_expr.specs.declared.expr.ValueKind.{ValueKind}
use Rattle.gts_flatten.specs.Elaborating.{Elaborated}
use Rattle.gts_flatten.specs.Flat.{naming_of}
use Rattle.hierarchy.specs.Listing.{observers}
use Rattle.hierarchy.specs.Units.{Thing, kind_at}
use Rattle.hierarchy.specs.Walks.{is_observer}
use Rattle.source_meaning.specs.Kinds.{kind_of_type}
use Rattle.job_inputs.specs.Wanting.{NamesObserver, IsObserverOfKind, WritesValue, truth, whole, less_zero, symbol, Wants, as_written, true_unsaid, IsWanted, WantsNone}
use Rattle.job_laws.specs.Named.{NamesOnce}
use Rattle.job_laws.proofs.Labels.{one_named}

-- Numbers

-- a number of 64 bits is not large
small : (n : ℤ) → FitsSigned w64 n → mag n < 2 ^ 63
small (pos k) f = omega (arith, f)
small (negsuc k) f = omega (arith, f)

-- no natural number is written as `-0`
not_less_zero : (k : ℕ) → k < 2 ^ 63 → decimal k ≡ codes "-0" → ⊥
not_less_zero zero l e =
    let q : 1 ≡ 2 = sym (ap length (decimal_digit 0 (omega arith))) ∙ ap length e in omega (arith, q)
not_less_zero (suc k) l e =
    let f = first_decimal (suc k) (omega arith) (omega (arith, l)) in
    let q : get_or (decimal (suc k)) 0 0 ≡ 45 = ap (λ z. get_or z 0 0) e in
    omega (arith, f, q)

rest_one : (a : ℕ) (xs ys : List ℕ) → a ∷ xs ≡ a ∷ ys → xs ≡ ys
rest_one a xs ys e = cc

never_zero : (n : ℤ) → FitsSigned w64 n → signed_decimal n ≡ codes "-0" → ⊥
never_zero (pos k) f e = not_less_zero k (omega (arith, f)) e
never_zero (negsuc k) f e =
    let q : decimal (suc k) ≡ 48 ∷ [] = rest_one 45 (decimal (suc k)) (48 ∷ []) e in
    let n : suc k ≡ 0 = decimal_injective (suc k) 0 (omega (arith, f)) (omega arith)
    (q ∙ sym (decimal_digit 0 (omega arith))) in
    omega (arith, n)

-- Words

truth_once : (b c : Bool) → truth_text b ≡ truth_text c → b ≡ c
truth_once true true e = refl
truth_once true false e = let q : 4 ≡ 5 = ap length e in absurd (omega (arith, q))
truth_once false true e = let q : 5 ≡ 4 = ap length e in absurd (omega (arith, q))
truth_once false false e = refl

module _ (symbols : List (List ℕ)) (different : AreDifferent symbols) where
  writes_one : (word : List ℕ) (kind : ValueKind) (v w : Value) → WritesValue symbols word kind v
      → WritesValue symbols word kind w
      → v ≡ w
  writes_one word kind v w (truth {b = b} e) (truth {b = c} f) = let i : b ≡ c = truth_once b c (sym e ∙ f) in cc
  writes_one word kind v w (whole {n = m} f e) (whole {n = n} g h) =
      let i : m ≡ n = signed_decimal_injective m n (small m f) (small n g) (sym e ∙ h) in cc
  writes_one word kind v w (whole {n = n} f e) (less_zero g) = absurd (never_zero n f (sym e ∙ g))
  writes_one word kind v w (less_zero g) (whole {n = n} f e) = absurd (never_zero n f (sym e ∙ g))
  writes_one word kind v w (less_zero e) (less_zero f) = refl
  writes_one word kind v w (symbol {s = s} p) (symbol {s = t} q) = let i : s ≡ t = different.one s t word p q in cc

  wants_one : (word : Option (List ℕ)) (kind : ValueKind) (v w : Value) → Wants symbols word kind v
      → Wants symbols word kind w → v ≡ w
  wants_one (Some word) kind v w (as_written a) (as_written b) = writes_one word kind v w a b
  wants_one None kind v w true_unsaid true_unsaid = refl

-- Observers

module _ {x : Elaborated} where
  -- an observer's type has values of one kind
  one_kind : (n : ℕ) (j k : ValueKind) → IsObserverOfKind x n j → IsObserverOfKind x n k → j ≡ k
  one_kind n j k a b =
      let m = x.declarations.model in
      let same : a.thing ≡ b.thing =
      stands_one (observers m x.declarations.units) n a.thing b.thing a.number b.number in
      let there = ap (λ (t : Thing). kind_at m t.unit t.name) same ∙ b.is in
      types (sym a.is ∙ there) a.kind_is b.kind_is
    where
      types : ◌≡◌ {A = Option MemberKind} (Some (Observer a.type a.written)) (Some (Observer b.type b.written))
          → kind_of_type x.declarations.model a.type ≡ Some j → kind_of_type x.declarations.model b.type ≡ Some k
          → j ≡ k
      types e f g = cc

module _ {x : Elaborated} (is : NamesOnce x) where
  pub observer_once : (path : List ℕ) (m n : ℕ) → NamesObserver x path m → NamesObserver x path n → m ≡ n
  observer_once path m n a b = one_named is is_observer observers is.observers path m n a b

  pub wanted_once : (path : List ℕ) (word : Option (List ℕ)) (m n : ℕ) (v w : Value) → IsWanted x path word m v
      → IsWanted x path word n w → (m ≡ n) × (v ≡ w)
  wanted_once path word m n v w a b =
      let i : m ≡ n = observer_once path m n a.names b.names in
      let other = subst (λ (k : ℕ). IsObserverOfKind x k b.kind) (sym i) b.of_kind in
      let j : b.kind ≡ a.kind = one_kind m b.kind a.kind other a.of_kind in
      let symbols = (naming_of x.declarations).symbols in (
        i,
        wants_one symbols is.symbols word a.kind v w a.wants
            (subst (λ (k : ValueKind). Wants symbols word k w) j b.wants),
      )

  pub wanted_apart : (path : List ℕ) (word : Option (List ℕ)) (n : ℕ) (v : Value) → IsWanted x path word n v
      → WantsNone x path word → ⊥
  wanted_apart path word n v a b =
      let i : n ≡ b.number = observer_once path n b.number a.names b.names in
      b.none v (subst (λ (k : ℕ). IsWanted x path word k v) i a)
