-- Where no class may be given, all were given.
use Rattle.std.proofs.Common.{◌≡◌, ℕ, zero, suc, ◌+◌, ◌<◌, ◌≤◌, ◌⊎◌, inl, inr, Bool, true, false, ◌||◌, true≢false, nat_eq, eq-eqb, eqb-true, List, [], ◌∷◌, Vec, Global, length, set, slice_index, ◌/◌, ◌%◌, if◌then◌else◌, refl, sym, ◌∙◌, subst, arith}
use Rattle.std.specs.Int.{bit_at}
use Rattle.std.proofs.lemmas.Bool.{cases_eq}
use Rattle.ar_base.specs.Lists.{Stands, IsOneOf}
use Rattle.ar_base.proofs.Standing.{stands_none, stands_within, stands_some, stands_one}
use Rattle.flow_blocks.specs.Blocks.{IsGiven, Depends, directly, Together, same, each_other}
use Rattle.flow_blocks.specs.BlocksInside.{AreUsesBelow}
use Rattle.flow_blocks.specs.Bits.{HasBit, row_of, AreAllDependences}
use Rattle.flow_blocks.specs.Table.{IsClassTable}
use Rattle.flow_blocks.specs.Waits.{Crosses, IsClassReady, WasGiven, IsWaiting, AreGivenTogether, left_to_give}
use Rattle.flow_blocks.specs.declared.giving.Waiting.{Waiting}
use Rattle.flow_blocks.proofs.ClassLemmas.{depends_on}
use Rattle.flow_blocks.proofs.OrderLemmas.{some_class, below_count, same_class, one_class}

-- how many numbers below an end pass a test
pub count_upto : (ℕ → Bool) → ℕ → ℕ
count_upto test zero = 0
count_upto test (suc n) = (if test n then 1 else 0) + count_upto test n

no_more : (f g : ℕ → Bool) (end : ℕ) → ((n : ℕ) → n < end → f n ≡ true → g n ≡ true)
    → count_upto f end ≤ count_upto g end
unfolding count_upto
no_more f g zero more = omega arith
no_more f g (suc end) more =
    let rest = no_more f g end (λ n lt. more n (omega arith)) in
    by (f end) (g end) refl refl rest
  where
    by : (a b : Bool) → f end ≡ a → g end ≡ b → count_upto f end ≤ count_upto g end
        → count_upto f (suc end) ≤ count_upto g (suc end)
    by true true e h rest = rw (e, h) (omega arith)
    by true false e h rest = absurd (true≢false (sym (more end (omega arith) e) ∙ h))
    by false true e h rest = rw (e, h) (omega arith)
    by false false e h rest = rw (e, h) (omega arith)

pub less : (f g : ℕ → Bool) (end k : ℕ) → ((n : ℕ) → n < end → f n ≡ true → g n ≡ true) → k < end → f k ≡ false
    → g k ≡ true → count_upto f end < count_upto g end
unfolding count_upto
less f g zero k more lt no_k yes_k = absurd (omega arith)
less f g (suc end) k more lt no_k yes_k = elim (cases_eq k end) [
  | inl is ↦
      let rest = no_more f g end (λ n lt. more n (omega arith)) in
      let at_f : f end ≡ false = subst (λ (n : ℕ). f n ≡ false) is no_k in
      let at_g : g end ≡ true = subst (λ (n : ℕ). g n ≡ true) is yes_k in
      rw (at_f, at_g) (omega arith)
  | inr other ↦ by (f end) (g end) refl refl (less f g end k (λ n lt. more n (omega arith)) (omega arith) no_k yes_k)
]
  where
    by : (a b : Bool) → f end ≡ a → g end ≡ b → count_upto f end < count_upto g end
        → count_upto f (suc end) < count_upto g (suc end)
    by true true e h rest = rw (e, h) (omega arith)
    by true false e h rest = absurd (true≢false (sym (more end (omega arith) e) ∙ h))
    by false true e h rest = rw (e, h) (omega arith)
    by false false e h rest = rw (e, h) (omega arith)

-- whether a number is another one or has its bit
abbrev pub reaches : List (Vec ℕ Global) → ℕ → ℕ → Bool
reaches rows x n = nat_eq (bit_at (slice_index (row_of rows x) (n / 64)) (n % 64)) 1 || nat_eq n x

reached : (rows : List (Vec ℕ Global)) (x n : ℕ) → HasBit rows x n ⊎ (n ≡ x) → reaches rows x n ≡ true
reached rows x n (inl bit) = rw (eq-eqb (bit_at (slice_index (row_of rows x) (n / 64)) (n % 64)) 1 bit) refl
reached rows x n (inr is) = by (nat_eq (bit_at (slice_index (row_of rows x) (n / 64)) (n % 64)) 1) (nat_eq n x)
    (eq-eqb n x is)
  where
    by : (a b : Bool) → b ≡ true → (a || b) ≡ true
    by true b e = refl
    by false b e = e

does_reach : (rows : List (Vec ℕ Global)) (x n : ℕ) → reaches rows x n ≡ true → HasBit rows x n ⊎ (n ≡ x)
does_reach rows x n e = by (nat_eq (bit_at (slice_index (row_of rows x) (n / 64)) (n % 64)) 1) refl e
  where
    by : (a : Bool) → nat_eq (bit_at (slice_index (row_of rows x) (n / 64)) (n % 64)) 1 ≡ a → (a || nat_eq n x) ≡ true
        → HasBit rows x n ⊎ (n ≡ x)
    by true is h = inl (eqb-true (bit_at (slice_index (row_of rows x) (n / 64)) (n % 64)) 1 is)
    by false is h = inr (eqb-true n x h)

module _ (count : ℕ) (uses : List (ℕ × ℕ)) (classes : List (List ℕ)) (class_of : List ℕ)
    (table : IsClassTable count uses classes class_of) (low : AreUsesBelow count uses)
    (rows : List (Vec ℕ Global)) (all : AreAllDependences count uses rows) (w : Waiting)
    (waits : IsWaiting (length classes) uses class_of w []) (none : (e : ℕ) → IsClassReady w.ready e → ⊥) where
  -- what a number of a class waits for reaches fewer numbers
  fewer : (x c d : ℕ) → Stands class_of x c → (y : Crosses uses class_of c d) → (d ≡ c → ⊥)
      → count_upto (reaches rows y.to) count < count_upto (reaches rows x) count
  fewer x c d p y other =
      let lt = below_count count uses classes class_of table low x c p in
      let x_to_y : Depends uses x y.to =
      on (same_class count uses classes class_of table low x y.from c p y.class_from) y.is_use in
      less (reaches rows y.to) (reaches rows x) count x
      (λ n below e. reached rows x n (elim (does_reach rows y.to n e) [
        | inl bit ↦ inl (all.complete x n lt (depends_on x_to_y (all.sound y.to n bit)))
        | inr is ↦ inl (all.complete x n lt (subst (λ (k : ℕ). Depends uses x k) (sym is) x_to_y))
      ]))
      lt (not_back (reaches rows y.to x) refl x_to_y) (reached rows x x (inr refl))
    where
      on : {a b e : ℕ} → Together uses a b → IsOneOf uses (b, e) → Depends uses a e
      on same one = directly one
      on (each_other f g) one = depends_on f (directly one)

      not_back : (b : Bool) → reaches rows y.to x ≡ b → Depends uses x y.to → b ≡ false
      not_back false e d_xy = refl
      not_back true e d_xy = absurd (other
          (one_class count uses classes class_of table low x y.to c d (elim (does_reach rows y.to x e) [
            | inl bit ↦ each_other d_xy (all.sound y.to x bit)
            | inr is ↦ subst (λ (k : ℕ). Together uses x k) is same
          ]) p y.class_to))

  -- a class waits for one that was not given and that uses less
  waits_for : (x c : ℕ) → Stands class_of x c → (WasGiven w.given.items c → ⊥)
      → (d : ℕ) × (y : Crosses uses class_of c d) × (d ≡ c → ⊥) × (WasGiven w.given.items d → ⊥)
  waits_for x c p free =
      let found = table.member_of_class x c p in
      elim (waits.each c (stands_within classes c found.0 found.1) free) [
        | inl ready ↦ absurd (none c ready)
        | inr more ↦ elim more [
          | inl waiting ↦ let watch = waits.watching waiting.0 c waiting.1.watches in (waiting.0, watch.1, watch.2, waiting.1.not_given)
          | inr one ↦ absurd (stands_none one.place c one.stands)
        ]
      ]

  none_left : (fuel x c : ℕ) → count_upto (reaches rows x) count ≤ fuel → Stands class_of x c
      → (WasGiven w.given.items c → ⊥) → ⊥
  none_left zero x c le p free =
      let next = waits_for x c p free in
      let lt = fewer x c next.0 p next.1 next.2 in
      omega (arith, lt, le)
  none_left (suc fuel) x c le p free =
      let next = waits_for x c p free in
      let lt = fewer x c next.0 p next.1 next.2 in
      none_left fuel next.1.to next.0 (omega (arith, lt, le)) next.1.class_to next.3

  -- each number was given
  pub all_given_now : (lists : List (List ℕ)) → AreGivenTogether class_of w.given.items lists → (n : ℕ) → n < count
      → IsGiven lists n
  all_given_now lists rel n lt =
      let c = some_class count uses classes class_of table low n lt in
      let found = table.member_of_class n c.0 c.1 in
      let flag = stands_some w.given.items c.0 (let within = stands_within classes c.0 found.0 found.1 in omega (arith, within, waits.long_given)) in
      by c.0 c.1 flag.0 flag.1
    where
      by : (c : ℕ) → Stands class_of n c → (b : Bool) → Stands w.given.items c b → IsGiven lists n
      by c p true g = rel.number n c p g
      by c p false g = absurd (none_left (count_upto (reaches rows n) count) n c (let le : count_upto (reaches rows n) count ≤ count_upto (reaches rows n) count = omega arith in le) p (λ t. true≢false (stands_one w.given.items c true false t g)))

-- a class that is given leaves one less to give
pub gives_less : (given : List Bool) (c : ℕ) → c < length given → (Stands given c true → ⊥)
    → left_to_give (set given c true) < left_to_give given
gives_less [] c lt free = absurd (omega arith)
gives_less (true ∷ given) zero lt free = absurd (free refl)
gives_less (false ∷ given) zero lt free = omega arith
gives_less (true ∷ given) (suc c) lt free = gives_less given c (omega arith) free
gives_less (false ∷ given) (suc c) lt free = let on = gives_less given c (omega arith) free in omega arith
