-- It is refuted that a system neither keeps every rule nor has a first one that it breaks.
use Rattle.std.proofs.Common.{◌≡◌, ◌<◌, ◌⊎◌, inl, inr, ⊎_elim, ℕ, zero, suc, List, Option, Some, None, sym, ◌∙◌, ap, subst, arith}
use Rattle.std.proofs.lemmas.Bool.{cases_eq}
use Rattle.ar_meaning.specs.Systems.{System}
use Rattle.ar_meaning.specs.FoundInside.{AreTold}
use Rattle.ar_firing.specs.Rules.{Spot, AtEvent, AtUnit, AtVariable, AtObserver, AtWhole, IsShownBefore, events, units, variables, observers, variable_first, Rule, S1, S2, S3, S4, S5, S6, S7, S8, BreaksStaticRule, KeepsStaticRule, rule_number, IsFirstBroken, IsAskedUpTo, KeepsUpTo}
use Rattle.ar_firing.specs.RulesInside.{HasTargets, KeepsAll}
use Rattle.ar_firing.proofs.RulesHold.{rule_of, numbered}
use Rattle.ar_firing.proofs.Unbroken.{Unbroken, keeps_s1, keeps_s2, keeps_s3, keeps_s4, keeps_s5, keeps_s6, keeps_s7, keeps_s8}

-- where the lesser rules are kept and none is the first that is broken, the rule is broken nowhere
module _ {V : Type 0} (sys : System V) (dropped : List ℕ) (rule : Rule)
    (lesser : (r : Rule) → rule_number r < rule_number rule → KeepsStaticRule sys dropped r)
    (never : (spot : Spot) → IsFirstBroken sys dropped rule spot → ⊥) where
  abbrev Broken : Spot → Type 0
  Broken spot = BreaksStaticRule sys dropped rule spot

  not_first : (spot : Spot) → Broken spot → ((other : Spot) → IsShownBefore other spot → Broken other → ⊥) → ⊥
  not_first spot b h = never spot (record { breaks = b; lesser_kept = lesser; is_first = h })

  before_event : (n : ℕ) → ((k : ℕ) → k < n → Broken (AtEvent k) → ⊥) → {other : Spot} → IsShownBefore other (AtEvent n)
      → Broken other → ⊥
  before_event n f (events {m = k} l) b = f k l b

  at_event : (most n : ℕ) → n < most → Broken (AtEvent n) → ⊥
  at_event zero n l b = absurd (omega (arith, l))
  at_event (suc most) n l b =
      not_first (AtEvent n) b (λ o h c. before_event n (λ k i d. at_event most k (omega (arith, l, i)) d) h c)

  before_unit : (n : ℕ) → ((k : ℕ) → k < n → Broken (AtUnit k) → ⊥) → {other : Spot} → IsShownBefore other (AtUnit n)
      → Broken other → ⊥
  before_unit n f (units {m = k} l) b = f k l b

  at_unit : (most n : ℕ) → n < most → Broken (AtUnit n) → ⊥
  at_unit zero n l b = absurd (omega (arith, l))
  at_unit (suc most) n l b =
      not_first (AtUnit n) b (λ o h c. before_unit n (λ k i d. at_unit most k (omega (arith, l, i)) d) h c)

  before_variable : (n : ℕ) → ((k : ℕ) → k < n → Broken (AtVariable k) → ⊥) → {other : Spot}
      → IsShownBefore other (AtVariable n) → Broken other → ⊥
  before_variable n f (variables {m = k} l) b = f k l b

  at_variable : (most n : ℕ) → n < most → Broken (AtVariable n) → ⊥
  at_variable zero n l b = absurd (omega (arith, l))
  at_variable (suc most) n l b =
      not_first (AtVariable n) b (λ o h c. before_variable n (λ k i d. at_variable most k (omega (arith, l, i)) d) h c)

  before_observer : (n : ℕ) → ((k : ℕ) → k < n → Broken (AtObserver k) → ⊥) → {other : Spot}
      → IsShownBefore other (AtObserver n) → Broken other → ⊥
  before_observer n f (observers {m = k} l) b = f k l b
  before_observer n f (variable_first {m = k}) b = at_variable (suc k) k (omega arith) b

  at_observer : (most n : ℕ) → n < most → Broken (AtObserver n) → ⊥
  at_observer zero n l b = absurd (omega (arith, l))
  at_observer (suc most) n l b =
      not_first (AtObserver n) b (λ o h c. before_observer n (λ k i d. at_observer most k (omega (arith, l, i)) d) h c)

  none_before : (other : Spot) → IsShownBefore other AtWhole → Broken other → ⊥
  none_before other h b = elim h [ ]

  pub unbroken : Unbroken sys dropped rule
  unbroken (AtEvent n) b = at_event (suc n) n (omega arith) b
  unbroken (AtUnit n) b = at_unit (suc n) n (omega arith) b
  unbroken (AtVariable n) b = at_variable (suc n) n (omega arith) b
  unbroken (AtObserver n) b = at_observer (suc n) n (omega arith) b
  unbroken AtWhole b = not_first AtWhole b none_before

-- a statement on each rule that follows from those on the lesser ones, by refutation
module _ (P : Rule → Type 0)
    (step : (r : Rule) → ((l : Rule) → rule_number l < rule_number r → P l) → (P r → ⊥) → ⊥) where
  one_more : (n : ℕ) → ((l : Rule) → rule_number l < n → P l) → (((l : Rule) → rule_number l < suc n → P l) → ⊥)
      → (rule_number (rule_of n) ≡ n) ⊎ (rule_number (rule_of n) ≡ n → ⊥) → ⊥
  one_more n below k (inl e) = step (rule_of n) (λ l h. below l (omega (arith, h, e)))
      (λ p. k (λ l h. ⊎_elim (λ i. subst P (ap rule_of (sym i) ∙ numbered l) p) (λ d. below l (omega (arith, h, d)))
      (cases_eq (rule_number l) n)))
  one_more n below k (inr d) =
      k
      (λ l h. ⊎_elim (λ i. absurd (d (ap rule_number (ap rule_of (sym i) ∙ numbered l) ∙ i)))
      (λ q. below l (omega (arith, h, q))) (cases_eq (rule_number l) n))

  by_number : (n : ℕ) → (((l : Rule) → rule_number l < n → P l) → ⊥) → ⊥
  by_number zero k = k (λ l h. absurd (omega (arith, h)))
  by_number (suc n) k = by_number n (λ below. one_more n below k (cases_eq (rule_number (rule_of n)) n))

below_nine : (r : Rule) → rule_number r < 9
below_nine S1 = omega arith
below_nine S2 = omega arith
below_nine S3 = omega arith
below_nine S4 = omega arith
below_nine S5 = omega arith
below_nine S6 = omega arith
below_nine S7 = omega arith
below_nine S8 = omega arith

module _ {V : Type 0} (key_told : AreTold V) (sys : System V) (dropped : List ℕ) (targets : HasTargets sys) where
  -- a rule that is broken nowhere is kept, which for the last one is not refuted
  kept : (r : Rule) → ((l : Rule) → rule_number l < rule_number r → KeepsStaticRule sys dropped l) → Unbroken sys
      dropped r → (KeepsStaticRule sys dropped r → ⊥) → ⊥
  kept S1 below none k = k (keeps_s1 key_told sys dropped none)
  kept S2 below none k = k (keeps_s2 key_told sys dropped none)
  kept S3 below none k = k (keeps_s3 key_told sys dropped (below S2 (omega arith)) none)
  kept S4 below none k = k (keeps_s4 key_told sys dropped none)
  kept S5 below none k = k (keeps_s5 key_told sys dropped none)
  kept S6 below none k = k (keeps_s6 key_told sys dropped none)
  kept S7 below none k = k (keeps_s7 key_told sys dropped targets none)
  kept S8 below none k = keeps_s8 key_told sys dropped none k

  pub neither_refuted : (KeepsAll sys dropped → ⊥)
      → ((rule : Rule) (spot : Spot) → IsFirstBroken sys dropped rule spot → ⊥) → ⊥
  neither_refuted none never =
      by_number (KeepsStaticRule sys dropped) (λ r below k. kept r below (unbroken sys dropped r below (never r)) k) 9
      (λ ks. none (record { each = λ r. ks r (below_nine r) }))

  -- the same of the rules below the last
  abbrev IsKeptBelow : Rule → Type 0
  IsKeptBelow r = rule_number r < 8 → KeepsStaticRule sys dropped r

  module _ (k : ℕ) (never : (rule : Rule) (spot : Spot) → IsAskedUpTo (Some k) rule → IsFirstBroken sys dropped rule spot
      → ⊥) where
    small : (r : Rule) → rule_number r < 8 → ((l : Rule) → rule_number l < rule_number r → IsKeptBelow l)
        → (IsKeptBelow r → ⊥) → ⊥
    small r few below refuted =
        let lesser : (l : Rule) → rule_number l < rule_number r → KeepsStaticRule sys dropped l
        = λ l h. below l h (omega (arith, few, h)) in
        kept r lesser (unbroken sys dropped r lesser (λ spot. never r spot few)) (λ keeps. refuted (λ h. keeps))

    step : (r : Rule) → ((l : Rule) → rule_number l < rule_number r → IsKeptBelow l) → (IsKeptBelow r → ⊥) → ⊥
    step S1 below refuted = small S1 (omega arith) below refuted
    step S2 below refuted = small S2 (omega arith) below refuted
    step S3 below refuted = small S3 (omega arith) below refuted
    step S4 below refuted = small S4 (omega arith) below refuted
    step S5 below refuted = small S5 (omega arith) below refuted
    step S6 below refuted = small S6 (omega arith) below refuted
    step S7 below refuted = small S7 (omega arith) below refuted
    step S8 below refuted = refuted (λ h. absurd (omega (arith, h)))

    below_eight : (KeepsUpTo (Some k) sys dropped → ⊥) → ⊥
    below_eight none = by_number IsKeptBelow step 8 (λ ks. none (record { each = λ r few. ks r few few }))

  -- the same of the rules that are asked
  pub neither_asked_refuted : (order : Option ℕ) → (KeepsUpTo order sys dropped → ⊥)
      → ((rule : Rule) (spot : Spot) → IsAskedUpTo order rule → IsFirstBroken sys dropped rule spot → ⊥) → ⊥
  neither_asked_refuted None none never =
      neither_refuted (λ all. none (record { each = λ r asked. all.each r })) (λ rule spot. never rule spot tt)
  neither_asked_refuted (Some k) none never = below_eight k never none
