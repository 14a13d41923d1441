-- Readings of a list of flows that grow round by round, with at most one value for each flow: if something comes in
-- each of as many rounds as there are flows, then each flow has a value after them.
use Rattle.std.proofs.Common.{◌≡◌, ℕ, zero, suc, ◌+◌, ◌-◌, ◌<◌, ◌≤◌, ◌⊎◌, inl, inr, Bool, true, false, List, length, refl, subst, arith}
use Rattle.ar_base.specs.Lists.{IsOneOf}
use Rattle.domains.specs.declared.Value.{Value}
use Rattle.table_laws.proofs.Counting.{how_many, wider_by_one, each_passes, one_passes, passes_there, one_that_passes, all_or_one}

module _ {V : Type 0} (flows : List V) (values : V → List Value) (known : ℕ → V → Value → Bool) where
  -- nothing of these flows comes in round k + 1
  pub record IsStill (k : ℕ) : Type 0 where
    pub still : (x : V) (v : Value) → IsOneOf flows x → known (suc k) x v ≡ true → known k x v ≡ true

  -- something comes in round k + 1
  pub record IsNew (k : ℕ) : Type 0 where
    pub flow : V
    pub value : Value
    pub is_flow : IsOneOf flows flow
    pub later : known (suc k) flow value ≡ true
    pub before : known k flow value ≡ false

  -- the flow has a value in round k
  abbrev knows : ℕ → V → Bool
  knows k x = one_passes (known k x) (values x)

  module _ (n : ℕ) (empty : (x : V) (v : Value) → IsOneOf flows x → known zero x v ≡ false)
      (grows : (k : ℕ) (x : V) (v : Value) → k < n → IsOneOf flows x → known k x v ≡ true → known (suc k) x v ≡ true)
      (listed : (k : ℕ) (x : V) (v : Value) → IsOneOf flows x → known k x v ≡ true → IsOneOf (values x) v)
      (one : (x : V) (v w : Value) → IsOneOf flows x → known n x v ≡ true → known n x w ≡ true → v ≡ w)
      (moves : (k : ℕ) → k < n → IsStill k → ⊥) where
    one_value : (k : ℕ) (x : V) → (v : Value) → ((known (suc k) x v ≡ true → known k x v ≡ true) ⊎
        ((known (suc k) x v ≡ true) × (known k x v ≡ false)))
    one_value k x v = go (known (suc k) x v) (known k x v)
      where
        go : (b c : Bool) → ((b ≡ true → c ≡ true) ⊎ ((b ≡ true) × (c ≡ false)))
        go b true = inl (λ e. refl)
        go true false = inr (refl, refl)
        go false false = inl (λ e. e)

    -- nothing comes, or something does
    still_or_new : (k : ℕ) → IsStill k ⊎ IsNew k
    still_or_new k =
        let Q : V → Type 0 = λ x. (v : Value) × IsOneOf (values x) v × (known (suc k) x v ≡ true)
        × (known k x v ≡ false) in
        let P : V → Type 0 = λ x. (v : Value) → known (suc k) x v ≡ true → known k x v ≡ true in
        let at : (x : V) → IsOneOf flows x → P x ⊎ Q x = λ x o.
        elim (all_or_one (λ v. known (suc k) x v ≡ true → known k x v ≡ true)
        (λ v. (known (suc k) x v ≡ true) × (known k x v ≡ false)) (values x) (λ v m. one_value k x v)) [
          | inl h ↦ inl (λ v e. h v (listed (suc k) x v o e) e)
          | inr r ↦ inr (r.0, r.1, r.2.0, r.2.1)
        ] in
        elim (all_or_one P Q flows at) [
          | inl h ↦ inl (record { still = λ x v o e. h x o v e })
          | inr r ↦ inr (record { flow = r.0; value = r.2.0; is_flow = r.1; later = r.2.2; before = r.2.3 })
        ]

    grows_to : (k d m : ℕ) → m ≡ d + k → m ≤ n → (x : V) (v : Value) → IsOneOf flows x → known k x v ≡ true
        → known m x v ≡ true
    grows_to k zero m i l x v o e = let j : k ≡ m = omega (arith, i) in subst (λ (m : ℕ). known m x v ≡ true) j e
    grows_to k (suc d) m i l x v o e =
        let j : suc (d + k) ≡ m = omega (arith, i) in
        subst (λ (m : ℕ). known m x v ≡ true) j (grows (d + k) x v (omega (arith, i, l)) o
        (grows_to k d (d + k) refl (omega (arith, i, l)) x v o e))

    up : (k : ℕ) (x : V) (v : Value) → k ≤ n → IsOneOf flows x → known k x v ≡ true → known n x v ≡ true
    up k x v l o e = grows_to k (n - k) n (omega (arith, l)) (omega arith) x v o e

    -- something comes in each round
    new_in : (k : ℕ) → k < n → IsNew k
    new_in k l = elim (still_or_new k) [ inl s ↦ absurd (moves k l s) | inr m ↦ m ]

    -- the flow of what comes had no value before
    not_yet : (k : ℕ) (m : IsNew k) → k < n → knows k m.flow ≡ false
    not_yet k m l = go (knows k m.flow) refl
      where
        go : (b : Bool) → knows k m.flow ≡ b → knows k m.flow ≡ false
        go false e = e
        go true e =
            let r = one_that_passes (known k m.flow) (values m.flow) e in
            let i : r.0 ≡ m.value = one m.flow r.0 m.value m.is_flow (up k m.flow r.0 (omega (arith, l)) m.is_flow
            r.2) (up (suc k) m.flow m.value (omega (arith, l)) m.is_flow m.later) in
            let f = m.before in let t = r.2 in absurd cc

    -- each round makes one more flow known
    one_more : (k : ℕ) → k < n → how_many (knows k) flows < how_many (knows (suc k)) flows
    one_more k l =
        let m = new_in k l in
        let f = listed (suc k) m.flow m.value m.is_flow m.later in
        wider_by_one (knows k) (knows (suc k)) flows
        (λ j x s e.
        let r = one_that_passes (known k x) (values x) e in
        passes_there (known (suc k) x) (values x) r.1.place r.0 r.1.stands
        (grows k x r.0 l (record { place = j; stands = s }) r.2))
        m.is_flow.place m.flow m.is_flow.stands (not_yet k m l)
        (passes_there (known (suc k) m.flow) (values m.flow) f.place m.value f.stands m.later)

    as_many : (k : ℕ) → k ≤ n → k ≤ how_many (knows k) flows
    as_many zero l = omega arith
    as_many (suc k) l = let h = as_many k (omega (arith, l)) in let i = one_more k (omega (arith, l)) in omega
        (arith, h, i)

    -- with as many rounds as flows, each flow has a value
    pub all_known : length flows ≤ n → (x : V) → IsOneOf flows x → (v : Value) × (known n x v ≡ true)
    all_known l x o =
        let h = as_many n (omega arith) in
        let r = one_that_passes (known n x) (values x)
        (each_passes (knows n) flows (omega (arith, l, h)) o.place x o.stands) in
        (r.0, r.2)
