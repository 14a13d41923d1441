-- What is known after the rounds is a fact; and each fact is known, or an assignment is at odds with what is known.
use Rattle.std.proofs.Common.{◌≡◌, ℕ, zero, suc, ◌+◌, ◌-◌, ◌<◌, ◌≤◌, inl, inr, Bool, true, false, List, [], ◌∷◌, ◌++◌, length, Contains, refl, sym, ◌∙◌, subst, arith}
use Rattle.ar_base.specs.Lists.{Stands, IsOneOf}
use Rattle.domains.specs.declared.Value.{Value}
use Rattle.ar_base.proofs.Standing.{stands_left, stands_right, one_contains}
use Rattle.ar_meaning.proofs.Dependence.{passes_named}
use Rattle.typed_expr.proofs.Facts.{yields_named}
use Rattle.ar_meaning.specs.Systems.{Assign, Variable, Net}
use Rattle.ar_meaning.specs.Facts.{Allows, HasStateValue, FactOf}
use Rattle.ar_meaning.specs.Facts as f
use Rattle.ar_meaning.proofs.Least.{least, closed}
use Rattle.table_laws.specs.Known.{ReadingHolds, AssignsValue, HasRounds, IsKnownInTheEnd, HasBroken}
use Rattle.ar_meaning.specs.Dependence.{Names}
use Rattle.table_laws.proofs.Chain.{IsStill, all_known}

-- the values of all domains
abbrev all_values : {V : Type 0} → List (Variable V) → List Value
all_values [] = []
all_values (x ∷ xs) = x.domain ++ all_values xs

in_all_values : {V : Type 0} (xs : List (Variable V)) (n : ℕ) (x : Variable V) (v : Value) → Stands xs n x
    → Contains x.domain v → IsOneOf (all_values xs) v
in_all_values [] zero x v s c = cc
in_all_values [] (suc n) x v s c = cc
in_all_values (y ∷ xs) zero x v s c =
    let e : x ≡ y = cc in
    let r = one_contains y.domain v (subst (λ z. Contains z.domain v) e c) in
    record { place = r.place; stands = stands_left y.domain (all_values xs) r.place v r.stands }
in_all_values (y ∷ xs) (suc n) x v s c =
    let r = in_all_values xs n x v s c in
    record {
      place = length y.domain + r.place;
      stands = stands_right y.domain (all_values xs) r.place
          (length y.domain + r.place) v refl r.stands;
    }

module _ {V : Type 0} (net : Net V) where
  -- facts of the variables that an assignment reads suffice for what it gives
  gives_named : (P Q : V → Value → Type 0) {x : V} {v : Value} → ((a : Assign V) → IsOneOf net.assertions a
      → a.target ≡ x → (y : V) (w : Value) → Names a y → P y w → Q y w)
      → AssignsValue net P x v → AssignsValue net Q x v
  gives_named P Q h g =
      let k = h g.assign g.is_one g.is_target in
      record {
        assign = g.assign;
        is_one = g.is_one;
        is_target = g.is_target;
        passes = passes_named (λ y w m p. k y w (inr m) p) g.passes;
        yields = yields_named (λ y w m p. k y w (inl m) p) g.yields;
      }

  module _ (known : V → Value → Bool) (block : List V) (r : HasRounds net known block) where
    at_target : (a : Assign V) (x : V) → a.target ≡ x → IsOneOf block x → IsOneOf block a.target
    at_target a x i o = subst (λ z. IsOneOf block z) (sym i) o

    grows : (k : ℕ) (x : V) (v : Value) → k < length block → IsOneOf block x → r.reading k x v ≡ true
        → r.reading (suc k) x v ≡ true
    grows zero x v l o e = absurd (let s = r.start x v o in cc)
    grows (suc k) x v l o e =
        r.whole (suc k) x v l o (r.allowed (suc k) x v o e)
        (gives_named (ReadingHolds (r.reading k)) (ReadingHolds (r.reading (suc k)))
        (λ a m i y w d p. elim (r.outside a y m (at_target a x i o) d)
        [ inl b ↦ grows k y w (omega (arith, l)) b p | inr q ↦ q (suc k) w ∙ sym (q k w) ∙ p ])
        (r.sound k x v (omega (arith, l)) o e))

    abbrev values : V → List Value
    values x = all_values net.variables

    listed : (k : ℕ) (x : V) (v : Value) → IsOneOf block x → r.reading k x v ≡ true → IsOneOf (values x) v
    listed k x v o e = let a = r.allowed k x v o e in in_all_values net.variables a.place a.variable v a.stands a.has

    -- each reading from k to m holds no more of the block than that of k
    abbrev NoMore : ℕ → ℕ → Type 0
    NoMore k m = (x : V) (v : Value) → IsOneOf block x → r.reading m x v ≡ true → r.reading k x v ≡ true

    -- where nothing came in a round, nothing comes later
    no_more : (k : ℕ) → IsStill block values r.reading k → (d m : ℕ) → m ≡ d + k → m ≤ length block → NoMore k m
    no_more k s zero m i l x v o e = let j : m ≡ k = omega (arith, i) in subst (λ (m : ℕ). r.reading m x v ≡ true) j e
    no_more k s (suc d) m i l x v o e =
        let j : m ≡ suc (d + k) = omega (arith, i) in
        let h = r.sound (d + k) x v (omega (arith, i, l)) o (subst (λ (m : ℕ). r.reading m x v ≡ true) j e) in
        s.still x v o (r.whole k x v (omega (arith, i, l)) o (r.allowed m x v o e)
        (gives_named (ReadingHolds (r.reading (d + k))) (ReadingHolds (r.reading k))
        (λ a n t y w u p. elim (r.outside a y n (at_target a x t o) u) [
          | inl b ↦ no_more k s d (d + k) refl
              (omega (arith, i, l)) y w b p
          | inr q ↦ q k w ∙ sym (q (d + k) w) ∙ p
        ])
        h))

    grows_to : (k d m : ℕ) → m ≡ d + k → m ≤ length block → (x : V) (v : Value) → IsOneOf block x
        → r.reading k x v ≡ true → r.reading m x v ≡ true
    grows_to k zero m i l x v o e = let j : k ≡ m = omega (arith, i) in subst (λ (m : ℕ). r.reading m x v ≡ true) j e
    grows_to k (suc d) m i l x v o e =
        let j : suc (d + k) ≡ m = omega (arith, i) in
        subst (λ (m : ℕ). r.reading m x v ≡ true) j (grows (d + k) x v (omega (arith, i, l)) o
        (grows_to k d (d + k) refl (omega (arith, i, l)) x v o e))

    -- where the last reading gives something that it does not hold, something came in each round
    moves : (x : V) (v : Value) → IsOneOf block x → Allows net x v
        → AssignsValue net (ReadingHolds (r.reading (length block))) x v → r.reading (length block) x v ≡ false
        → (k : ℕ) → k < length block → IsStill block values r.reading k → ⊥
    moves x v o a g f k l s =
        let n = length block in
        let h = gives_named (ReadingHolds (r.reading n)) (ReadingHolds (r.reading k))
        (λ b m i y w d p. elim (r.outside b y m (at_target b x i o) d) [
          | inl c ↦ no_more k s (n - k) n
              (omega (arith, l)) (omega arith) y w c p
          | inr q ↦ q k w ∙ sym (q n w) ∙ p
        ]) g in
        let e = grows_to (suc k) (n - suc k) n (omega (arith, l)) (omega arith) x v o (r.whole k x v l o a h) in
        cc

    -- what the last round's reading gives, what is known gives, and the other way round
    to_known : (x : V) (v : Value) → IsOneOf block x → AssignsValue net (ReadingHolds (r.reading (length block))) x v
        → AssignsValue net (ReadingHolds known) x v
    to_known x v o = gives_named (ReadingHolds (r.reading (length block))) (ReadingHolds known)
        (λ a m i y w n p. elim (r.outside a y m (at_target a x i o) n)
        [ inl b ↦ sym (r.last y w b) ∙ p | inr q ↦ sym (q (length block) w) ∙ p ])

    from_known : (x : V) (v : Value) → IsOneOf block x → AssignsValue net (ReadingHolds known) x v
        → AssignsValue net (ReadingHolds (r.reading (length block))) x v
    from_known x v o = gives_named (ReadingHolds known) (ReadingHolds (r.reading (length block)))
        (λ a m i y w n p. elim (r.outside a y m (at_target a x i o) n)
        [ inl b ↦ r.last y w b ∙ p | inr q ↦ q (length block) w ∙ p ])

    -- what is known of the block is closed, if no assignment is at odds with what is known
    pub block_closed : ((x : V) (v w : Value) → IsOneOf block x → known x v ≡ true → known x w ≡ true → v ≡ w)
        → (HasBroken net (ReadingHolds known) → ⊥)
        → (x : V) (v : Value) → IsOneOf block x → Allows net x v → AssignsValue net (ReadingHolds known) x v → known x v ≡ true
    block_closed one even x v o a g = go (known x v) refl
      where
        go : (b : Bool) → known x v ≡ b → known x v ≡ true
        go true e = e
        go false e =
            let n = length block in
            let f : r.reading n x v ≡ false = r.last x v o ∙ e in
            let w = all_known block values r.reading n r.start grows listed
            (λ y u z m c d. one y u z m (sym (r.last y u m) ∙ c) (sym (r.last y z m) ∙ d))
            (moves x v o a (from_known x v o g) f) (omega arith) x o in
            absurd (even (record {
              assign = g.assign;
              is_one = g.is_one;
              passes = g.passes;
              value = v;
              yields = g.yields;
              other = w.0;
              is_other = subst (λ z. known z w.0 ≡ true) (sym g.is_target) (sym (r.last x w.0 o) ∙ w.1);
              differ = λ i. let h = w.1 in absurd
                  (let q : r.reading n x v ≡ true = subst (λ z. r.reading n x z ≡ true) (sym i) h in cc);
            }))

  module _ (t : List Value) (blocks : List (List V)) (known : V → Value → Bool) (k : IsKnownInTheEnd net t blocks known) where
    -- the flows have one value each
    abbrev pub HaveOne : Type 0
    HaveOne = (n : ℕ) (block : List V) → Stands blocks n block → (x : V) (v w : Value) → IsOneOf block x
        → known x v ≡ true → known x w ≡ true → v ≡ w

    -- where no assignment is at odds with what is known, each fact is known
    pub facts_known : HaveOne → (HasBroken net (ReadingHolds known) → ⊥) → (x : V) (v : Value) → FactOf net t x v
        → known x v ≡ true
    facts_known one even = least net.assertions (Allows net) (HasStateValue net t) (ReadingHolds known) k.given
        (λ a v m p y l.
        let b = k.covers a m in
        block_closed known b.0 (k.rounds b.1.place b.0 b.1.stands) (one b.1.place b.0 b.1.stands) even a.target v
        b.2 l (record { assign = a; is_one = m; is_target = refl; passes = p; yields = y }))

    -- what a round's reading holds of a block are facts, if what is known before it are
    round_sound : (n : ℕ) (block : List V) → Stands blocks n block → ((m : ℕ) (other : List V) → m < n → Stands
        blocks m other → (x : V) (v : Value) → IsOneOf other x → known x v ≡ true → FactOf net t x v)
        → (r : HasRounds net known block) (j : ℕ) (x : V) (v : Value) → j ≤ length block → IsOneOf block x
        → r.reading j x v ≡ true → FactOf net t x v
    round_sound n block s before r zero x v l o e = absurd (let h = r.start x v o in cc)
    round_sound n block s before r (suc j) x v l o e =
        let g = gives_named (ReadingHolds (r.reading j)) (FactOf net t)
        (λ a m i y w d p.
        let b = at_target known block r a x i o in
        elim (r.outside a y m b d) [
          | inl c ↦ round_sound n block s before r j y w (omega (arith, l)) c p
          | inr q ↦
              let h : known y w ≡ true = sym (q j w) ∙ p in
              elim (k.earlier n block s a y m b d) [
                | inl c ↦ round_sound n block s before r j y w (omega (arith, l)) c p
                | inr z ↦ elim z [
                  | inl st ↦ f.given (st w h)
                  | inr u ↦ before u.0 u.1 u.2 u.3 y w u.4 h
                ]
              ]
        ])
        (r.sound j x v (omega (arith, l)) o e) in
        subst (λ z. FactOf net t z v) g.is_target
        (closed net.assertions (Allows net) (HasStateValue net t) g.assign v g.is_one g.passes g.yields
        (subst (λ z. Allows net z v) (sym g.is_target) (r.allowed (suc j) x v o e)))

    blocks_sound : (n m : ℕ) (block : List V) → m < n → Stands blocks m block → (x : V) (v : Value)
        → IsOneOf block x → known x v ≡ true → FactOf net t x v
    blocks_sound zero m block l s x v o e = absurd (omega (arith, l))
    blocks_sound (suc n) m block l s x v o e =
        let r = k.rounds m block s in
        round_sound m block s (λ j other i z y w p q. blocks_sound n j other (omega (arith, l, i)) z y w p q) r
        (length block) x v (omega arith) o (r.last x v o ∙ e)

    -- what is known are facts
    pub known_sound : (x : V) (v : Value) → known x v ≡ true → FactOf net t x v
    known_sound x v e = elim (k.only x v e) [
      | inl g ↦ f.given g
      | inr b ↦ blocks_sound (suc b.0) b.0 b.1 (omega arith) b.2 x v b.3 e
    ]
