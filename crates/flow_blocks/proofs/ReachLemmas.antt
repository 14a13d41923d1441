-- Whether one number depends on another is decided, and what follows.
use Rattle.std.proofs.Common.{◌≡◌, ℕ, zero, suc, ◌<◌, ◌⊎◌, inl, inr, List, [], ◌∷◌, ◌++◌, length, refl, sym, ap, subst, arith}
use Rattle.std.proofs.lemmas.Bool.{cases_eq}
use Rattle.ar_base.specs.Sets.{Ascends}
use Rattle.ar_base.specs.Lists.{Stands, IsOneOf}
use Rattle.ar_base.proofs.Standing.{stands_none, stands_left, stands_next, stands_split, one_rest, one_cases, one_first}
use Rattle.ar_base.proofs.Sets.{ascends_push}
use Rattle.flow_blocks.specs.Blocks.{Depends, directly, through, Together, same, each_other, IsGiven}
use Rattle.flow_blocks.proofs.ClassLemmas.{depends_on, only_one}

-- a fact that holds or does not
abbrev pub IsDecided : Type 0 → Type 0
IsDecided A = A ⊎ (A → ⊥)

-- the number is the other, or depends on it
abbrev pub Reaches : List (ℕ × ℕ) → ℕ → ℕ → Type 0
Reaches uses a b = (a ≡ b) ⊎ Depends uses a b

pub decide_both : {A B : Type 0} → IsDecided A → IsDecided B → IsDecided (A × B)
decide_both (inl a) (inl b) = inl (a, b)
decide_both (inl a) (inr fails) = inr (λ p. fails p.1)
decide_both (inr fails) d = inr (λ p. fails p.0)

pub decide_either : {A B : Type 0} → IsDecided A → IsDecided B → IsDecided (A ⊎ B)
decide_either (inl a) d = inl (inl a)
decide_either (inr fails) (inl b) = inl (inr b)
decide_either (inr fails) (inr none) = inr (λ s. elim s [ inl a ↦ fails a | inr b ↦ none b ])

module _ (u : ℕ × ℕ) (uses : List (ℕ × ℕ)) where
  -- a dependence by one use more goes by that use or not
  more_uses : {a b : ℕ} → Depends uses a b → Depends (u ∷ uses) a b
  more_uses {a} {b} (directly one) = directly (one_rest u uses (a, b) one)
  more_uses {a} {b} (through {b = m} one rest) = through (one_rest u uses (a, m) one) (more_uses rest)

  by_use : {a b : ℕ} → Reaches uses a u.0 → Reaches uses u.1 b → Depends (u ∷ uses) a b
  by_use {a} {b} (inl e) (inl f) = subst (λ (k : ℕ). Depends (u ∷ uses) k b) (sym e)
      (subst (λ (k : ℕ). Depends (u ∷ uses) u.0 k) f (directly (one_first u uses)))
  by_use {a} {b} (inl e) (inr g) = subst (λ (k : ℕ). Depends (u ∷ uses) k b) (sym e)
      (through (one_first u uses) (more_uses g))
  by_use {a} {b} (inr d) (inl f) = subst (λ (k : ℕ). Depends (u ∷ uses) a k) f
      (depends_on (more_uses d) (directly (one_first u uses)))
  by_use {a} {b} (inr d) (inr g) = depends_on (more_uses d) (through (one_first u uses) (more_uses g))

  without_use : {a b : ℕ} → Depends (u ∷ uses) a b → Depends uses a b ⊎ (Reaches uses a u.0 × Reaches uses u.1 b)
  without_use {a} {b} (directly one) = elim (one_cases u uses (a, b) one) [
    | inl is ↦ inr (inl (ap (λ (p : ℕ × ℕ). p.0) (sym is)), inl (ap (λ (p : ℕ × ℕ). p.1) is))
    | inr old ↦ inl (directly old)
  ]
  without_use {a} {b} (through {b = m} one rest) = elim (one_cases u uses (a, m) one) [
    | inl is ↦ elim (without_use rest) [
      | inl old ↦ inr (
        inl (ap (λ (p : ℕ × ℕ). p.0) (sym is)),
        inr
            (subst (λ (k : ℕ). Depends uses k b) (ap (λ (p : ℕ × ℕ). p.1) (sym is)) old),
      )
      | inr both ↦ inr (inl (ap (λ (p : ℕ × ℕ). p.0) (sym is)), both.1)
    ]
    | inr first ↦ elim (without_use rest) [
      | inl old ↦ inl (through first old)
      | inr both ↦ inr (
        elim both.0 [
          | inl e ↦ inr (subst (λ (k : ℕ). Depends uses a k) e (directly first))
          | inr d ↦ inr (through first d)
        ],
        both.1,
      )
    ]
  ]

pub decide_depends : (uses : List (ℕ × ℕ)) (a b : ℕ) → IsDecided (Depends uses a b)
decide_depends [] a b = inr none
  where
    none : {a b : ℕ} → Depends [] a b → ⊥
    none {a} {b} (directly one) = stands_none one.place (a, b) one.stands
    none {a} {b} (through {b = m} one rest) = stands_none one.place (a, m) one.stands
decide_depends (u ∷ uses) a b =
    elim (decide_either (decide_depends uses a b)
    (decide_both (decide_either (cases_eq a u.0) (decide_depends uses a u.0))
    (decide_either (cases_eq u.1 b) (decide_depends uses u.1 b)))) [
      | inl holds ↦ elim holds [ inl old ↦ inl (more_uses u uses old) | inr both ↦ inl (by_use u uses both.0 both.1) ]
      | inr fails ↦ inr (λ d. fails (without_use u uses d))
    ]

pub decide_together : (uses : List (ℕ × ℕ)) (a b : ℕ) → IsDecided (Together uses a b)
decide_together uses a b = elim (cases_eq a b) [
  | inl is ↦ inl (subst (λ (k : ℕ). Together uses a k) is same)
  | inr other ↦ elim (decide_both (decide_depends uses a b) (decide_depends uses b a)) [
    | inl both ↦ inl (each_other both.0 both.1)
    | inr fails ↦ inr (λ t. lone other fails t)
  ]
]
  where
    lone : {a b : ℕ} → (a ≡ b → ⊥) → (Depends uses a b × Depends uses b a → ⊥) → Together uses a b → ⊥
    lone other fails same = other refl
    lone other fails (each_other f g) = fails (f, g)

pub decide_one_of : (xs : List ℕ) (n : ℕ) → IsDecided (IsOneOf xs n)
decide_one_of [] n = inr (λ one. stands_none one.place n one.stands)
decide_one_of (x ∷ xs) n = elim (cases_eq n x) [
  | inl is ↦ inl (subst (λ (k : ℕ). IsOneOf (x ∷ xs) k) (sym is) (one_first x xs))
  | inr other ↦ elim (decide_one_of xs n) [
    | inl one ↦ inl (one_rest x xs n one)
    | inr fails ↦ inr (λ one. elim (one_cases x xs n one) [ inl is ↦ other (sym is) | inr rest ↦ fails rest ])
  ]
]

pub decide_given : (given : List (List ℕ)) (n : ℕ) → IsDecided (IsGiven given n)
decide_given [] n = inr (λ g. stands_none g.is_one.place g.members g.is_one.stands)
decide_given (xs ∷ given) n = elim (decide_one_of xs n) [
  | inl one ↦ inl (record { members = xs; is_one = one_first xs given; is_member = one })
  | inr fails ↦ elim (decide_given given n) [
    | inl g ↦ inl (record {
      members = g.members;
      is_one = one_rest xs given g.members g.is_one;
      is_member = g.is_member;
    })
    | inr none ↦ inr (λ g. elim (one_cases xs given g.members g.is_one) [
      | inl is ↦ fails (subst (λ (l : List ℕ). IsOneOf l n) (sym is) g.is_member)
      | inr rest ↦ none (record { members = g.members; is_one = rest; is_member = g.is_member })
    ])
  ]
]

-- the least number below an end that has P, or that none has
pub least_below : (P : ℕ → Type 0) → ((n : ℕ) → IsDecided (P n)) → (end : ℕ)
    → ((n : ℕ) × (n < end) × P n × ((k : ℕ) → k < n → P k → ⊥)) ⊎ ((n : ℕ) → n < end → P n → ⊥)
least_below P decide zero = inr (λ n lt h. absurd (omega (arith, lt)))
least_below P decide (suc end) = elim (least_below P decide end) [
  | inl found ↦ inl (found.0, omega (arith, found.1), found.2, found.3)
  | inr none ↦ elim (decide end) [
    | inl holds ↦ inl (end, omega arith, holds, none)
    | inr fails ↦ inr (λ n lt h. elim (cases_eq n end)
        [ inl is ↦ fails (subst P is h) | inr other ↦ none n (omega (arith, lt)) h ])
  ]
]

-- the numbers below an end that have P, ascending
pub record IsListOf (P : ℕ → Type 0) (end : ℕ) (xs : List ℕ) : Type 0 where
  pub below : (n : ℕ) → IsOneOf xs n → n < end
  pub only : (n : ℕ) → IsOneOf xs n → P n
  pub all : (n : ℕ) → n < end → P n → IsOneOf xs n
  pub ascending : Ascends xs

pub list_below : (P : ℕ → Type 0) → ((n : ℕ) → IsDecided (P n)) → (end : ℕ) → (xs : List ℕ) × IsListOf P end xs
list_below P decide zero = (
  [],
  record {
    below = λ n one. absurd (stands_none one.place n one.stands);
    only = λ n one. absurd (stands_none one.place n one.stands);
    all = λ n lt h. absurd (omega (arith, lt));
    ascending = record { ascends = λ j k m n lt p q. absurd (stands_none j m p) };
  },
)
list_below P decide (suc end) =
    let rest = list_below P decide end in
    elim (decide end) [
      | inl holds ↦ (
        rest.0 ++ end ∷ [],
        record {
          below = λ n one. elim (of_more rest.0 n one) [ inl old ↦ let lt = rest.1.below n old in omega (arith, lt) | inr is ↦ omega (arith, is) ];
          only = λ n one. elim (of_more rest.0 n one) [ inl old ↦ rest.1.only n old | inr is ↦ subst P (sym is) holds ];
          all = λ n lt h. elim (cases_eq n end) [
            | inl is ↦ record {
              place = length rest.0;
              stands = subst (λ (k : ℕ). Stands (rest.0 ++ end ∷ []) (length rest.0) k) (sym is)
                  (stands_next rest.0 end []);
            }
            | inr other ↦ let old = rest.1.all n (omega (arith, lt)) h in record { place = old.place; stands = stands_left rest.0 (end ∷ []) old.place n old.stands }
          ];
          ascending = ascends_push rest.0 end rest.1.ascending rest.1.below;
        },
      )
      | inr fails ↦ (
        rest.0,
        record {
          below = λ n one. let lt = rest.1.below n one in omega (arith, lt);
          only = rest.1.only;
          all = λ n lt h. elim (cases_eq n end)
              [ inl is ↦ absurd (fails (subst P is h)) | inr other ↦ rest.1.all n (omega (arith, lt)) h ];
          ascending = rest.1.ascending;
        },
      )
    ]
  where
    of_more : (xs : List ℕ) (n : ℕ) → IsOneOf (xs ++ end ∷ []) n → IsOneOf xs n ⊎ (n ≡ end)
    of_more xs n one = elim (stands_split xs (end ∷ []) one.place n one.stands) [
      | inl old ↦ inl (record { place = one.place; stands = old })
      | inr last ↦ inr (only_one end n (record { place = last.0; stands = last.2 }))
    ]
