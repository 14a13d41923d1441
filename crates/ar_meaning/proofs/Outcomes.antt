-- Each list of values of the right length has an outcome of its flows.
use Rattle.std.proofs.Common.{◌≡◌, ◌⊎◌, inl, inr, ℕ, zero, suc, ◌<◌, Bool, true, false, List, [], ◌∷◌, ◌++◌, map, length, Some, Contains, refl, sym, ap, ◌∙◌, subst, arith}
use Rattle.std.proofs.lemmas.List.Elements.{Contains-append_left, Contains-append_right, Contains-append_cases}
use Rattle.domains.proofs.Members.{nothing-in, contains-head, contains-cons, contains-cases, contains-map, contains-from_map}
use Rattle.domains.specs.declared.Value.{Value}
use Rattle.domains.specs.declared.Value.TheVariants.{Truth}
use Rattle.ar_base.specs.Lists.{Stands, IsOneOf, IsFirst, HasNo}
use Rattle.ar_base.proofs.Standing.{stands_none}
use Rattle.typed_expr.specs.Pairs.{Pair, HasPair}
use Rattle.typed_expr.specs.Yields.{Yields}
use Rattle.typed_expr.specs.declared.expr.Expr.{Expr, out-Expr}
use Rattle.typed_expr.proofs.Facts.{yields_more}
use Rattle.typed_expr.proofs.Listing.{Told, Listed, listed_as, listed_told, value_told, contains_told, yields_listed, yields_told}
use Rattle.ar_meaning.specs.Systems.{Assign, Variable, Net}
use Rattle.ar_meaning.specs.Facts.{PassesConditions, Fact, given, Allows, HasStateValue, HasValue, FactOf}
use Rattle.ar_meaning.specs.Facts as f
use Rattle.ar_meaning.specs.Flows.{HasTwo, IsOutside, IsBrokenAssign, Completes, Flows, Outcome, Fails, Total, Two, Outside, Broken}
use Rattle.ar_meaning.specs.Flows as w
use Rattle.ar_meaning.proofs.Least.{least, closed, passes_more}

-- searching lists
module _ {A : Type 0} (P : A → Type 0) where
  -- an item that has P, with those before and after it
  pub record Found (xs : List A) : Type 0 where
    pub front : List A
    pub item : A
    pub rest : List A
    pub is : xs ≡ front ++ item ∷ rest
    pub has : P item

  pub search_list : (xs : List A) → ((x : A) → Contains xs x → Told (P x))
      → Found xs ⊎ ((x : A) → Contains xs x → P x → ⊥)
  search_list [] t = inr (λ x m p. nothing-in x m)
  search_list (x ∷ xs) t = go (t x (contains-head x xs)) (search_list xs (λ z m. t z (contains-cons x z xs m)))
    where
      go : Told (P x) → Found xs ⊎ ((z : A) → Contains xs z → P z → ⊥)
          → Found (x ∷ xs) ⊎ ((z : A) → Contains (x ∷ xs) z → P z → ⊥)
      go (inl p) r = inl (record { front = []; item = x; rest = xs; is = refl; has = p })
      go (inr n) (inl k) =
          inl (record { front = x ∷ k.front; item = k.item; rest = k.rest; is = ap (λ zs. x ∷ zs) k.is; has = k.has })
      go (inr n) (inr k) =
          inr (λ z m p. elim (contains-cases x z xs m) [ inl e ↦ n (subst P (sym e) p) | inr l ↦ k z l p ])

  pub some_told : (xs : List A) → ((x : A) → Contains xs x → Told (P x)) → Told ((x : A) × Contains xs x × P x)
  some_told xs t = elim (search_list xs t) [
    | inl k ↦
        inl (
          k.item,
          subst (λ zs. Contains zs k.item) (sym k.is)
              (Contains-append_right k.front (k.item ∷ k.rest) k.item (contains-head k.item k.rest)),
          k.has,
        )
    | inr n ↦ inr (λ h. n h.0 h.1 h.2)
  ]

  -- the first item that has P, or none
  pub first_or_none : (xs : List A) → ((x : A) → IsOneOf xs x → Told (P x)) → ((n : ℕ) × IsFirst xs P n) ⊎ HasNo xs P
  first_or_none [] t = inr (record { has_not = λ k a s p. stands_none k a s })
  first_or_none (x ∷ xs) t =
      go (t x (record { place = zero; stands = refl }))
      (first_or_none xs (λ z o. t z (record { place = suc o.place; stands = o.stands })))
    where
      before : (P x → ⊥) → (n : ℕ) → IsFirst xs P n → (j : ℕ) (a : A) → j < suc n → Stands (x ∷ xs) j a → P a → ⊥
      before q n k zero a l s p = let e : a ≡ x = cc in q (subst P e p)
      before q n k (suc j) a l s p = k.before j a (omega (arith, l)) s p

      nowhere : (P x → ⊥) → HasNo xs P → (k : ℕ) (a : A) → Stands (x ∷ xs) k a → P a → ⊥
      nowhere q h zero a s p = let e : a ≡ x = cc in q (subst P e p)
      nowhere q h (suc k) a s p = h.has_not k a s p

      go : Told (P x) → ((n : ℕ) × IsFirst xs P n) ⊎ HasNo xs P → ((n : ℕ) × IsFirst (x ∷ xs) P n) ⊎ HasNo (x ∷ xs) P
      go (inl p) r =
          inl (zero, record { item = x; stands = refl; has = p; before = λ j a l s q. absurd (omega (arith, l)) })
      go (inr q) (inl r) =
          inl (suc r.0, record { item = r.1.item; stands = r.1.stands; has = r.1.has; before = before q r.0 r.1 })
      go (inr q) (inr h) = inr (record { has_not = nowhere q h })

  -- the same by places
  pub one_told : (xs : List A) → ((x : A) → IsOneOf xs x → Told (P x)) → Told ((x : A) × IsOneOf xs x × P x)
  one_told xs t = elim (first_or_none xs t) [
    | inl r ↦ inl (r.1.item, record { place = r.0; stands = r.1.stands }, r.1.has)
    | inr h ↦ inr (λ k. h.has_not k.1.place k.0 k.1.stands k.2)
  ]

pub not_told : {P : Type 0} → Told P → Told (P → ⊥)
not_told (inl p) = inr (λ n. n p)
not_told (inr n) = inl n

pub both_told : {P Q : Type 0} → Told P → Told Q → Told (P × Q)
both_told (inl p) (inl q) = inl (p, q)
both_told (inl p) (inr n) = inr (λ h. n h.1)
both_told (inr n) q = inr (λ h. n h.0)

pub bool_told : (a b : Bool) → Told (a ≡ b)
bool_told true true = inl refl
bool_told true false = inr (λ e. cc)
bool_told false true = inr (λ e. cc)
bool_told false false = inl refl

-- whether conditions pass
pub passes_told : {V : Type 0} (P : V → Value → Type 0) → ((x : V) → Listed (P x)) → (cs : List (Expr V × Bool))
    → Told (PassesConditions P cs)
passes_told P known [] = inl f.none
passes_told {V = V} P known ((e, b) ∷ cs) = go (yields_told P known e (Truth b)) (passes_told P known cs)
  where
    go : Told (Yields P (out-Expr V e) (Truth b)) → Told (PassesConditions P cs)
        → Told (PassesConditions P ((e, b) ∷ cs))
    go (inl h) (inl k) = inl (f.one_and h k)
    go (inl h) (inr n) = inr (λ p. elim p [ f.one_and a c ↦ n c ])
    go (inr n) t = inr (λ p. elim p [ f.one_and a c ↦ n a ])

-- one item less
shorter : {A : Type 0} (xs : List A) (x : A) (ys : List A) → length (xs ++ x ∷ ys) ≡ suc (length (xs ++ ys))
shorter [] x ys = refl
shorter (z ∷ xs) x ys = ap suc (shorter xs x ys)

-- the pairs of a variable and a value of its domain
abbrev row : {V : Type 0} → Variable V → List (Pair V)
row x = map (λ d. (x.key, d)) x.domain

abbrev universe : {V : Type 0} → List (Variable V) → List (Pair V)
universe [] = []
universe (x ∷ xs) = row x ++ universe xs

in_universe : {V : Type 0} (xs : List (Variable V)) (k : ℕ) (x : Variable V) (v : Value) → Stands xs k x
    → Contains x.domain v → Contains (universe xs) (x.key, v)
in_universe [] k x v s c = absurd (stands_none k x s)
in_universe {V = V} (z ∷ xs) zero x v s c =
    let e : z ≡ x = cc in let p : Pair V = (x.key, v) in
    Contains-append_left (row z) (universe xs) p
    (subst (λ (u : Variable V). Contains (row u) p) (sym e)
    (contains-map {X = Value} {Y = Pair V} (λ d. (x.key, d)) v x.domain c))
in_universe {V = V} (z ∷ xs) (suc k) x v s c =
    let p : Pair V = (x.key, v) in
    Contains-append_right (row z) (universe xs) p (in_universe xs k x v s c)

from_universe : {V : Type 0} (xs : List (Variable V)) (x : V) (v : Value) → Contains (universe xs) (x, v)
    → (k : ℕ) × (y : Variable V) × Stands xs k y × (y.key ≡ x) × Contains y.domain v
from_universe {V = V} [] x v m = let p : Pair V = (x, v) in absurd (nothing-in p m)
from_universe {V = V} (z ∷ xs) x v m =
    let p : Pair V = (x, v) in elim (Contains-append_cases (row z) (universe xs) p m) [
      | inl n ↦ (let r = contains-from_map {X = Value} {Y = Pair V} (λ d. (z.key, d)) p z.domain n in (
        zero,
        z,
        refl,
        ap (λ (q : Pair V). q.0) r.2,
        subst (λ d. Contains z.domain d) (ap (λ (q : Pair V). q.1) r.2)
            r.1,
      ))
      | inr n ↦ (let r = from_universe xs x v n in (suc r.0, r.1, r.2, r.3, r.4))
    ]

-- the pairs of the variables of which the test holds, each with its value
abbrev entry : {V : Type 0} → Bool → Variable V → Value → List (Pair V)
entry true x v = (x.key, v) ∷ []
entry false x v = []

abbrev pairs_of : {V : Type 0} → (Variable V → Bool) → List (Variable V) → List Value → List (Pair V)
pairs_of test [] ts = []
pairs_of test (x ∷ xs) [] = []
pairs_of test (x ∷ xs) (v ∷ ts) = entry (test x) x v ++ pairs_of test xs ts

in_pairs : {V : Type 0} (test : Variable V → Bool) (xs : List (Variable V)) (ts : List Value) (k : ℕ) (x : Variable V)
    (v : Value)
    → Stands xs k x → Stands ts k v → test x ≡ true
    → Contains (pairs_of test xs ts) (x.key, v)
in_pairs test [] ts k x v s r i = absurd (stands_none k x s)
in_pairs test (z ∷ xs) [] k x v s r i = absurd (stands_none k v r)
in_pairs {V = V} test (z ∷ xs) (u ∷ ts) zero x v s r i =
    let e : z ≡ x = cc in let j : u ≡ v = cc in let p : Pair V = (x.key, v) in
    let h : Contains (entry (test x) x v) p = subst (λ b. Contains (entry b x v) p) (sym i) (contains-head p []) in
    Contains-append_left (entry (test z) z u) (pairs_of test xs ts) p
    (subst (λ (y : Variable V). Contains (entry (test y) y u) p) (sym e)
    (subst (λ (d : Value). Contains (entry (test x) x d) p) (sym j) h))
in_pairs {V = V} test (z ∷ xs) (u ∷ ts) (suc k) x v s r i =
    let p : Pair V = (x.key, v) in
    Contains-append_right (entry (test z) z u) (pairs_of test xs ts) p (in_pairs test xs ts k x v s r i)

-- where a pair comes from
record Comes {V : Type 0} (test : Variable V → Bool) (xs : List (Variable V)) (ts : List Value) (x : V)
    (v : Value) : Type 0 where
  pub place : ℕ
  pub variable : Variable V
  pub stands : Stands xs place variable
  pub value : Stands ts place v
  pub is_key : variable.key ≡ x
  pub holds : test variable ≡ true

from_pairs : {V : Type 0} (test : Variable V → Bool) (xs : List (Variable V)) (ts : List Value) (x : V) (v : Value)
    → Contains (pairs_of test xs ts) (x, v) → Comes test xs ts x v
from_pairs {V = V} test [] ts x v m = let p : Pair V = (x, v) in absurd (nothing-in p m)
from_pairs {V = V} test (z ∷ xs) [] x v m = let p : Pair V = (x, v) in absurd (nothing-in p m)
from_pairs {V = V} test (z ∷ xs) (u ∷ ts) x v m =
    let p : Pair V = (x, v) in elim (Contains-append_cases (entry (test z) z u) (pairs_of test xs ts) p m) [
      | inl n ↦ here (test z) refl n
      | inr n ↦
          (let r = from_pairs test xs ts x v n in record { place = suc r.place; variable = r.variable; stands = r.stands; value = r.value; is_key = r.is_key; holds = r.holds })
    ]
  where
    here : (b : Bool) → test z ≡ b → Contains (entry b z u) (x, v) → Comes test (z ∷ xs) (u ∷ ts) x v
    here false i n = let p : Pair V = (x, v) in absurd (nothing-in p n)
    here true i n = let p : Pair V = (x, v) in let q : Pair V = (z.key, u) in elim (contains-cases q p [] n) [
      | inl e ↦
          record {
            place = zero;
            variable = z;
            stands = refl;
            value = ap (λ (a : Pair V). Some a.1) e;
            is_key = ap (λ (a : Pair V). a.0) e;
            holds = i;
          }
      | inr k ↦ absurd (nothing-in p k)
    ]

module _ {V : Type 0} (key_told : (x y : V) → Told (x ≡ y)) where
  -- the values that pairs give a variable
  pub pairs_listed : (ps : List (Pair V)) (x : V) → Listed (HasPair ps x)
  pairs_listed [] x = record {
    items = [];
    sound = λ v m. absurd (nothing-in v m);
    whole = λ v m. absurd (nothing-in (x, v) m);
  }
  pairs_listed ((k, u) ∷ ps) x = go (key_told k x) (pairs_listed ps x)
    where
      go : Told (k ≡ x) → Listed (HasPair ps x) → Listed (HasPair ((k, u) ∷ ps) x)
      go (inl e) r = record {
        items = u ∷ r.items;
        sound = λ v m. elim (contains-cases u v r.items m) [
          | inl i ↦ subst (λ (p : V × Value). Contains ((k, u) ∷ ps) p) (pair_is k x u v e i) (contains-head (k, u) ps)
          | inr n ↦ contains-cons (k, u) (x, v) ps (r.sound v n)
        ];
        whole = λ v m. elim (contains-cases (k, u) (x, v) ps m) [
          | inl i ↦ subst (λ z. Contains (u ∷ r.items) z) (ap (λ (p : V × Value). p.1) i) (contains-head u r.items)
          | inr n ↦ contains-cons u v r.items (r.whole v n)
        ];
      }
        where
          pair_is : (a b : V) (c d : Value) → a ≡ b → c ≡ d → ◌≡◌ {A = V × Value} (a, c) (b, d)
          pair_is a b c d i j = cc
      go (inr n) r = record {
        items = r.items;
        sound = λ v m. contains-cons (k, u) (x, v) ps (r.sound v m);
        whole = λ v m.
            elim
            (contains-cases (k, u) (x, v) ps m)
            [ inl i ↦ absurd (n (ap (λ (p : V × Value). p.0) i)) | inr l ↦ r.whole v l ];
      }

  module _ (net : Net V) (t : List Value) where
    -- an assignment gives the pair from these pairs
    record Derives (K : List (Pair V)) (p : Pair V) : Type 0 where
      pub assign : Assign V
      pub is_one : IsOneOf net.assertions assign
      pub is_target : assign.target ≡ p.0
      pub passes : PassesConditions (HasPair K) assign.conditions
      pub yields : Yields (HasPair K) (out-Expr V assign.value) p.1

    derives_told : (K : List (Pair V)) (p : Pair V) → Told (Derives K p)
    derives_told K p =
        elim
        (one_told (λ (a : Assign V). (a.target ≡ p.0)
        × (PassesConditions (HasPair K) a.conditions × Yields (HasPair K) (out-Expr V a.value) p.1)) net.assertions
        (λ a o. both_told (key_told a.target p.0)
        (both_told (passes_told (HasPair K) (pairs_listed K) a.conditions)
        (yields_told (HasPair K) (pairs_listed K) a.value p.1)))) [
          | inl r ↦ inl (record { assign = r.0; is_one = r.1; is_target = r.2.0; passes = r.2.1.0; yields = r.2.1.1 })
          | inr n ↦ inr (λ d. n (d.assign, d.is_one, (d.is_target, (d.passes, d.yields))))
        ]

    -- pairs that are facts, have what the state gives and are closed
    record Saturated : Type 0 where
      pub pairs : List (Pair V)
      pub sound : (x : V) (v : Value) → HasPair pairs x v → FactOf net t x v
      pub begins : (x : V) (v : Value) → HasStateValue net t x v → HasPair pairs x v
      pub closes : (x : V) (v : Value) → Allows net x v → Derives pairs (x, v) → HasPair pairs x v

    new_fact : (K : List (Pair V)) → ((x : V) (v : Value) → HasPair K x v → FactOf net t x v) → (x : V) (v : Value)
        → Allows net x v → Derives K (x, v) → FactOf net t x v
    new_fact K sound x v a d =
        subst (λ z. FactOf net t z v) d.is_target
        (closed net.assertions (Allows net) (HasStateValue net t) d.assign v d.is_one
        (passes_more V (HasPair K) (FactOf net t) sound d.passes)
        (yields_more V (HasPair K) (FactOf net t) sound d.yields)
        (subst (λ z. Allows net z v) (sym d.is_target) a))

    -- how far the facts have come: the pairs that may still follow, and those that do
    record Stage (n : ℕ) : Type 0 where
      pub rest : List (Pair V)
      pub long : length rest ≡ n
      pub allowed : (x : V) (v : Value) → Contains rest (x, v) → Allows net x v
      pub pairs : List (Pair V)
      pub sound : (x : V) (v : Value) → HasPair pairs x v → FactOf net t x v
      pub begins : (x : V) (v : Value) → HasStateValue net t x v → HasPair pairs x v
      pub covers : (x : V) (v : Value) → Allows net x v → HasPair pairs x v ⊎ Contains rest (x, v)

    advance : (n : ℕ) (s : Stage n) → Saturated ⊎ ((m : ℕ) × (n ≡ suc m) × Stage m)
    advance n s = go (search_list (Derives s.pairs) s.rest (λ p m. derives_told s.pairs p))
      where
        go : Found (Derives s.pairs) s.rest ⊎ ((p : Pair V) → Contains s.rest p → Derives s.pairs p → ⊥)
            → Saturated ⊎ ((m : ℕ) × (n ≡ suc m) × Stage m)
        go (inr none) = inl (record {
          pairs = s.pairs;
          sound = s.sound;
          begins = s.begins;
          closes = λ x v a d. elim (s.covers x v a) [ inl h ↦ h | inr m ↦ absurd (none (x, v) m d) ];
        })
        go (inl k) =
            let whole : (p : Pair V) → Contains (k.front ++ k.rest) p → Contains s.rest p =
            λ p c. subst (λ zs. Contains zs p) (sym k.is) (elim (Contains-append_cases k.front k.rest p c) [
              | inl h ↦ Contains-append_left k.front (k.item ∷ k.rest) p h
              | inr h ↦ Contains-append_right k.front (k.item ∷ k.rest) p (contains-cons k.item p k.rest h)
            ]) in
            let found : Contains s.rest k.item =
            subst (λ zs. Contains zs k.item) (sym k.is)
            (Contains-append_right k.front (k.item ∷ k.rest) k.item (contains-head k.item k.rest)) in
            inr (
              length (k.front ++ k.rest),
              sym s.long ∙ (ap length k.is ∙ shorter k.front k.item k.rest),
              record {
                rest = k.front ++ k.rest;
                long = refl;
                allowed = λ x v c. s.allowed x v (whole (x, v) c);
                pairs = k.item ∷ s.pairs;
                sound = λ x v h. let p : Pair V = (x, v) in elim (contains-cases k.item p s.pairs h) [
                  | inl i ↦
                      new_fact s.pairs s.sound x v (s.allowed x v (subst (λ q. Contains s.rest q) i found))
                      (subst (λ q. Derives s.pairs q) i k.has)
                  | inr l ↦ s.sound x v l
                ];
                begins = λ x v g. let p : Pair V = (x, v) in contains-cons k.item p s.pairs (s.begins x v g);
                covers = λ x v a. let p : Pair V = (x, v) in elim (s.covers x v a) [
                  | inl h ↦ inl (contains-cons k.item p s.pairs h)
                  | inr c ↦
                      elim (Contains-append_cases k.front (k.item ∷ k.rest) p (subst (λ zs. Contains zs p) k.is c)) [
                        | inl h ↦ inr (Contains-append_left k.front k.rest p h)
                        | inr h ↦ elim (contains-cases k.item p k.rest h) [
                          | inl i ↦ inl (subst (λ q. Contains (k.item ∷ s.pairs) q) i (contains-head k.item s.pairs))
                          | inr j ↦ inr (Contains-append_right k.front k.rest p j)
                        ]
                      ]
                ];
              },
            )

    saturate : (n : ℕ) → Stage n → Saturated
    saturate zero s = elim (advance zero s) [ inl r ↦ r | inr k ↦ (let e = k.1 in cc) ]
    saturate (suc n) s =
        elim
        (advance (suc n) s) [ inl r ↦ r | inr k ↦ (let e : k.0 ≡ n = omega (arith, k.1) in saturate n (subst (λ m. Stage m) e k.2)) ]

    given_pairs : List (Pair V)
    given_pairs = pairs_of (λ x. x.is_state) net.variables t

    saturated : Saturated
    unfolding given_pairs
    saturated = saturate (length (universe net.variables)) (record {
      rest = universe net.variables;
      long = refl;
      allowed = λ x v m.
          let r =
          from_universe net.variables x v m in record { place = r.0; variable = r.1; stands = r.2; is_key = r.3; has = r.4 };
      pairs = given_pairs;
      sound = λ x v m. let r = from_pairs (λ x. x.is_state) net.variables t x v m in
          given
          (record {
            place = r.place;
            variable = r.variable;
            stands = r.stands;
            is_key = r.is_key;
            is_state = r.holds;
            value = r.value;
          });
      begins = λ x v g.
          subst (λ z. HasPair given_pairs z v) g.is_key
          (in_pairs (λ x. x.is_state) net.variables t g.place g.variable v g.stands g.value g.is_state);
      covers = λ x v a.
          inr
          (subst (λ (z : V). Contains {X = Pair V} (universe net.variables) (z, v)) a.is_key
          (in_universe net.variables a.place a.variable v a.stands a.has));
    })

    -- the facts of a variable
    pub facts_known : (x : V) → Listed (FactOf net t x)
    facts_known x =
        let s = saturated in
        listed_as (pairs_listed s.pairs x) (λ v h. s.sound x v h)
        (λ v h. least net.assertions (Allows net) (HasStateValue net t) (HasPair s.pairs) s.begins
        (λ a d o p y l. s.closes a.target d l
        (record { assign = a; is_one = o; is_target = refl; passes = p; yields = y })) x v h)

    -- the values of a valuation
    pub values_known : (x : V) → Listed (HasValue net t x)
    values_known x = listed_as (pairs_listed (pairs_of (λ x. true) net.variables t) x)
        (λ v h. let r = from_pairs (λ x. true) net.variables t x v h in record { place = r.place; variable = r.variable; stands = r.stands; is_key = r.is_key; value = r.value })
        (λ v h. subst (λ (z : V). HasPair (pairs_of (λ x. true) net.variables t) z v) h.is_key
        (in_pairs (λ x. true) net.variables t h.place h.variable v h.stands h.value refl))

-- each variable's value, where the facts of each are listed
pub completed : {V : Type 0} (P : V → Value → Type 0) → ((x : V) → Listed (P x))
    → (xs : List (Variable V)) (ts : List Value) → length ts ≡ length xs → (us : List Value) × Completes P xs ts us
completed P known [] [] l = ([], w.none)
completed P known [] (v ∷ ts) l = absurd (omega (arith, l))
completed P known (x ∷ xs) [] l = absurd (omega (arith, l))
completed P known (x ∷ xs) (v ∷ ts) l =
    go x.is_state refl (known x.key).items refl (completed P known xs ts (omega (arith, l)))
  where
    go : (b : Bool) → x.is_state ≡ b → (ws : List Value) → (known x.key).items ≡ ws
        → (us : List Value) × Completes P xs ts us → (us : List Value) × Completes P (x ∷ xs) (v ∷ ts) us
    go true i ws j r = (v ∷ r.0, w.state i r.1)
    go false i [] j r =
        (x.value ∷ r.0, w.unknown i (λ u h. nothing-in u (subst (λ z. Contains z u) j ((known x.key).whole u h))) r.1)
    go false i (u ∷ ws) j r =
        (u ∷ r.0, w.known i ((known x.key).sound u (subst (λ z. Contains z u) (sym j) (contains-head u ws))) r.1)

module _ {V : Type 0} (key_told : (x y : V) → Told (x ≡ y)) (net : Net V) (t : List Value) where
  known : (x : V) → Listed (FactOf net t x)
  known = facts_known key_told net t

  two_told : (x : Variable V) → Told (HasTwo net t x)
  two_told x =
      let l = known x.key in
      elim
      (both_told (bool_told x.is_state false)
      (some_told (λ v. (u : Value) × Contains l.items u × (v ≡ u → ⊥)) l.items
      (λ v m. some_told (λ u. v ≡ u → ⊥) l.items (λ u n. not_told (value_told v u))))) [
        | inl r ↦
            inl
            (record {
              is_flow = r.0;
              first = r.1.0;
              second = r.1.2.0;
              is_first = l.sound r.1.0 r.1.1;
              is_second = l.sound r.1.2.0 r.1.2.1;
              differ = r.1.2.2;
            })
        | inr n ↦
            inr
            (λ h. n (
              h.is_flow,
              (
                h.first,
                l.whole h.first h.is_first,
                (h.second, l.whole h.second h.is_second, h.differ),
              ),
            ))
      ]

  -- the values that an assignment yields
  given_by : (P : V → Value → Type 0) → ((x : V) → Listed (P x)) → (a : Assign V)
      → Listed (Yields P (out-Expr V a.value))
  given_by P k a = yields_listed P k a.value

  outside_told : (x : Variable V) → Told (IsOutside net t x)
  outside_told x =
      let P : Assign V → Type 0 =
      λ a. (a.target ≡ x.key) ×
      (PassesConditions (FactOf net t) a.conditions
      × ((v : Value) × Contains (given_by (FactOf net t) known a).items v × (Contains x.domain v → ⊥))) in
      elim
      (both_told (bool_told x.is_state false)
      (one_told P net.assertions (λ a o. both_told (key_told a.target x.key)
      (both_told (passes_told (FactOf net t) known a.conditions)
      (some_told (λ v. Contains x.domain v → ⊥) (given_by (FactOf net t) known a).items
      (λ v m. not_told (contains_told x.domain v))))))) [
        | inl r ↦ inl (record {
          is_flow = r.0;
          assign = r.1.0;
          value = r.1.2.1.1.0;
          is_one = r.1.1;
          is_target = r.1.2.0;
          passes = r.1.2.1.0;
          yields = (given_by (FactOf net t) known r.1.0).sound r.1.2.1.1.0 r.1.2.1.1.1;
          outside = r.1.2.1.1.2;
        })
        | inr n ↦
            inr
            (λ h. n (
              h.is_flow,
              (
                h.assign,
                h.is_one,
                (
                  h.is_target,
                  (
                    h.passes,
                    (
                      h.value,
                      (given_by (FactOf net t) known h.assign).whole h.value h.yields,
                      h.outside,
                    ),
                  ),
                ),
              ),
            ))
      ]

  broken_told : (total : List Value) (a : Assign V) → Told (IsBrokenAssign net total a)
  broken_told total a =
      let k = values_known key_told net total in
      let l = given_by (HasValue net total) k a in
      elim
      (both_told (passes_told (HasValue net total) k a.conditions)
      (some_told (λ v. HasValue net total a.target v → ⊥) l.items (λ v m. not_told (listed_told (k a.target) v)))) [
        | inl r ↦ inl (record { passes = r.0; value = r.1.0; yields = l.sound r.1.0 r.1.1; differs = r.1.2 })
        | inr n ↦ inr (λ h. n (h.passes, (h.value, l.whole h.value h.yields, h.differs)))
      ]

  -- an outcome
  pub has_outcome : length t ≡ length net.variables → (o : Outcome) × Flows net t o
  has_outcome long =
      go (first_or_none (HasTwo net t) net.variables (λ x o. two_told x))
      (first_or_none (IsOutside net t) net.variables (λ x o. outside_told x))
    where
      last : HasNo net.variables (HasTwo net t) → HasNo net.variables (IsOutside net t) → (total : List Value)
          → Completes (FactOf net t) net.variables t total
          → ((i : ℕ) × IsFirst net.assertions (IsBrokenAssign net total) i) ⊎ HasNo net.assertions
          (IsBrokenAssign net total)
          → (o : Outcome) × Flows net t o
      last n m total c (inl r) = (Fails (Broken r.0), w.broken total n m c r.1)
      last n m total c (inr h) = (Total total, w.all_hold n m c h)

      go : ((n : ℕ) × IsFirst net.variables (HasTwo net t) n) ⊎ HasNo net.variables (HasTwo net t)
          → ((n : ℕ) × IsFirst net.variables (IsOutside net t) n) ⊎ HasNo net.variables (IsOutside net t)
          → (o : Outcome) × Flows net t o
      go (inl r) q = (Fails (Two r.0), w.two r.1)
      go (inr n) (inl r) = (Fails (Outside r.0), w.outside n r.1)
      go (inr n) (inr m) =
          let c = completed (FactOf net t) known net.variables t long in
          last n m c.0 c.1 (first_or_none (IsBrokenAssign net c.0) net.assertions (λ a o. broken_told c.0 a))
