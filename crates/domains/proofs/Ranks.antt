-- Numbers that differ from one another have each rank below their number once.
use Rattle.std.proofs.Common.{◌≡◌, ◌≢◌, inl, inr, ℕ, ◌+◌, ◌-◌, ◌<◌, ◌≤◌, nat_lt, cond, List, [], ◌∷◌, length, count_by, Contains, AllPairs, Option, Some, None, IfSome, IfNone, IsSome, is_some, Vec, Global, ◌↔◌, refl, sym, ◌∙◌, subst, arith}
use Rattle.std.proofs.lemmas.Bool.Decides.{nat_tests}
use Rattle.std.proofs.lemmas.List.Sums.{sum_by-cons, count_by-le-length}
use Rattle.std.proofs.lemmas.Bool.{cases_order}
use Rattle.domains.specs.Domains.{IsDomain}
use Rattle.domains.specs.DomainsInside.{HasMore}
use Rattle.domains.proofs.Members.{contains-head, contains-cons, contains-cases, pairs-tail, pairs-head}
use Rattle.domains.specs.declared.Value.{Value}
use Rattle.domains.specs.declared.Domain.{Domain}
use Rattle.domains.specs.declared.Domain.TheVariants.{Symbols}

-- how many of the numbers are below this one
abbrev pub rank : ℕ → List ℕ → ℕ
rank s xs = count_by (λ x. nat_lt x s) xs

pub rank-cons : (s x : ℕ) (xs : List ℕ) → rank s (x ∷ xs) ≡ cond (nat_lt x s) 1 0 + rank s xs
rank-cons s x xs = sum_by-cons (λ x. cond (nat_lt x s) 1 0) x xs

rank_step : (a b s t x : ℕ) → a ≤ b → s ≤ t → cond (nat_lt x s) 1 0 + a ≤ cond (nat_lt x t) 1 0 + b
rank_step a b s t x h k = grind (arith, nat_tests)

-- a greater number has no lesser rank
pub rank-le : (s t : ℕ) (xs : List ℕ) → s ≤ t → rank s xs ≤ rank t xs
rank-le s t [] h = omega arith
rank-le s t (x ∷ xs) h =
    rw (rank-cons s x xs, rank-cons t x xs) (rank_step (rank s xs) (rank t xs) s t x (rank-le s t xs h) h)

rank_step_lt : (a b s t x : ℕ) → a < b → s ≤ t → cond (nat_lt x s) 1 0 + a < cond (nat_lt x t) 1 0 + b
rank_step_lt a b s t x h k = grind (arith, nat_tests)

rank_here : (a b s t : ℕ) → a ≤ b → s < t → cond (nat_lt s s) 1 0 + a < cond (nat_lt s t) 1 0 + b
rank_here a b s t h k = grind (arith, nat_tests)

-- a number greater than one of these has a greater rank
pub rank-lt : (s t : ℕ) (xs : List ℕ) → s < t → Contains xs s → rank s xs < rank t xs
rank-lt s t [] h (k, l, e) = absurd (omega (arith, l))
rank-lt s t (x ∷ xs) h m =
    elim (contains-cases x s xs m) [
      | inl e ↦
          rw (rank-cons s x xs, rank-cons t x xs)
          (rw e (rank_here (rank s xs) (rank t xs) s t (rank-le s t xs (omega arith)) h))
      | inr m ↦
          rw (rank-cons s x xs, rank-cons t x xs)
          (rank_step_lt (rank s xs) (rank t xs) s t x (rank-lt s t xs h m) (omega arith))
    ]

-- one of the numbers has this rank
abbrev pub HasRank : ℕ → List ℕ → Type 0
HasRank p xs = (s : ℕ) × Contains xs s × (rank s xs ≡ p)

below : (s x : ℕ) → s < x → (q p : ℕ) → q ≡ p → cond (nat_lt x s) 1 0 + q ≡ p
below s x h q p e = grind (arith, nat_tests)

above : (s x : ℕ) → x < s → (q p : ℕ) → q ≡ p - 1 → 0 < p → cond (nat_lt x s) 1 0 + q ≡ p
above s x h q p e l = grind (arith, nat_tests)

-- x itself, one of the lesser numbers, or one of the greater ones
pub has_rank : (xs : List ℕ) (p : ℕ) → AllPairs (λ a b. a ≢ b) xs → p < length xs → HasRank p xs
has_rank [] p a h = absurd (omega (arith, h))
has_rank (x ∷ xs) p a h =
    let rest : AllPairs (λ a b. a ≢ b) xs = pairs-tail (λ a b. a ≢ b) x xs a in
    let short : rank x xs ≤ length xs = count_by-le-length (λ y. nat_lt y x) xs in
    elim (cases_order p (rank x xs)) [
      | inl e ↦ (x, contains-head x xs, rank-cons x x xs ∙ grind (arith, nat_tests))
      | inr w ↦ elim w [
        | inl l ↦
            let (s, m, e) = has_rank xs p rest (omega arith) in
            let lesser : s < x = elim (cases_order s x) [
              | inl i ↦ absurd (pairs-head (λ a b. a ≢ b) x xs a s m (sym i))
              | inr v ↦ elim v [ inl i ↦ i | inr i ↦ absurd (let k = rank-le x s xs (omega arith) in omega arith) ]
            ] in
            (s, contains-cons x s xs m, rank-cons s x xs ∙ below s x lesser (rank s xs) p e)
        | inr l ↦
            let (s, m, e) = has_rank xs (p - 1) rest (omega arith) in
            let greater : x < s = elim (cases_order x s) [
              | inl i ↦ absurd (pairs-head (λ a b. a ≢ b) x xs a s m i)
              | inr v ↦ elim v [ inl i ↦ i | inr i ↦ absurd (let k = rank-lt s x xs i m in omega arith) ]
            ] in
            (s, contains-cons x s xs m, rank-cons s x xs ∙ above s x greater (rank s xs) p (e ∙ refl) (omega arith))
      ]
    ]

-- two of these numbers with one rank are one
pub rank-one : (xs : List ℕ) (s t : ℕ) → Contains xs s → Contains xs t → rank s xs ≡ rank t xs → s ≡ t
rank-one xs s t m n e =
    elim (cases_order s t) [
      | inl i ↦ i
      | inr v ↦ elim v [
        | inl i ↦ absurd (let k = rank-lt s t xs i m in omega arith)
        | inr i ↦ absurd (let k = rank-lt t s xs i n in omega arith)
      ]
    ]

-- a rank is below the number of numbers
pub rank-small : (xs : List ℕ) (s : ℕ) → Contains xs s → rank s xs < length xs
rank-small [] s (k, h, e) = absurd (omega (arith, h))
rank-small (x ∷ xs) s m =
    elim (contains-cases x s xs m) [
      | inl e ↦
          rw (rank-cons s x xs) (rw e (let k = count_by-le-length (λ y. nat_lt y s) xs in grind (arith, nat_tests)))
      | inr n ↦ rw (rank-cons s x xs) (let k = rank-small xs s n in grind (arith, nat_tests))
    ]

-- a search by rank finds something exactly where there are more numbers
pub ranked-some : (xs : List ℕ) (p : ℕ) (r : Option ℕ) → AllPairs (λ a b. a ≢ b) xs
    → IfSome r (λ s. Contains xs s × (rank s xs ≡ p))
    → IfNone r ((s : ℕ) → Contains xs s → rank s xs ≢ p) → IsSome r ↔ (p < length xs)
ranked-some xs p None a found none = (λ h. cc, λ h. let (s, m, e) = has_rank xs p a h in absurd (none s m e))
ranked-some xs p (Some s) a found none =
    (λ h. let k = rank-small xs s found.0 in let e = found.1 in omega arith, λ h. refl)

-- so the domain has more values exactly where the search finds a symbol
pub symbols-more : (d : Domain) (symbols : Vec ℕ Global) (xs : List ℕ) (p : ℕ) (r : Option ℕ) (q : Option Value)
    → d ≡ Symbols symbols → xs ≡ symbols.items → IsDomain d
    → IfSome r (λ s. Contains xs s × (rank s xs ≡ p)) → IfNone r ((s : ℕ) → Contains xs s → rank s xs ≢ p)
    → is_some q ≡ is_some r → IsSome q ↔ HasMore d p
symbols-more d symbols xs p r q e i h found none same =
    let is : IsDomain (Symbols symbols) = subst IsDomain e h in
    let D : List ℕ → Type 0 = λ zs. AllPairs (λ a b. a ≢ b) zs in
    let k = ranked-some xs p r (subst D (sym i) is.2) found none in
    let L : List ℕ → Type 0 = λ zs. IsSome q ↔ (p < length zs) in
    let m : IsSome q ↔ (p < length symbols.items) = subst L i ((λ s. k.0 (sym same ∙ s)), (λ l. same ∙ k.1 l)) in
    let M : Domain → Type 0 = λ z. IsSome q ↔ HasMore z p in
    subst M (sym e) m
