-- Flows of a system whose variables' keys are their places, by a table of what is known of them.
use Rattle.std.proofs.Common.{◌≡◌, ◌+◌, ℕ, zero, suc, true, List, [], ◌∷◌, Option, Some, Contains, sym, ◌∙◌, subst, arith}
use Rattle.ar_base.specs.Lists.{Stands, HasNo}
use Rattle.domains.specs.declared.Value.{Value}
use Rattle.typed_expr.specs.Yields.{Yields}
use Rattle.typed_expr.proofs.Facts.{yields_more}
use Rattle.typed_expr.specs.declared.expr.Expr.{out-Expr}
use Rattle.ar_meaning.specs.Systems.{Assign, Variable, Net}
use Rattle.ar_meaning.specs.Facts.{PassesConditions, given, Allows, HasValue, HasStateValue, FactOf}
use Rattle.ar_meaning.specs.FactsInside.{AreNumberedVariables}
use Rattle.ar_meaning.specs.Flows.{HasTwo, IsOutside, Completes, Flows, Total, all_hold}
use Rattle.ar_meaning.proofs.ByNumber.{value_at, given_from, allowed_from}
use Rattle.ar_meaning.proofs.Least.{least, closed, passes_more}

-- Q holds of each item at its place, counted from n on
abbrev pub AllFrom : {A : Type 0} → (ℕ → A → Type 0) → ℕ → List A → Type 0
AllFrom Q n [] = Unit {0}
AllFrom Q n (x ∷ xs) = Q n x × AllFrom Q (suc n) xs

pub at_place : {A : Type 0} (Q : ℕ → A → Type 0) (n : ℕ) (xs : List A) → AllFrom Q n xs → (k m : ℕ) (a : A)
    → Stands xs k a → m ≡ n + k → Q m a
at_place Q n [] h k m a s e = cc
at_place Q n (x ∷ xs) h zero m a s e =
    let i : x ≡ a = cc in
    let j : m ≡ n = omega (arith, e) in
    subst (λ z. Q z a) (sym j) (subst (λ z. Q n z) i h.0)
at_place Q n (x ∷ xs) h (suc k) m a s e = at_place Q (suc n) xs h.1 k m a s (omega (arith, e))

pub in_list : {A : Type 0} (Q : A → Type 0) (xs : List A) → AllFrom (λ n a. Q a) 0 xs → (k : ℕ) (a : A) → Stands xs k a
    → Q a
in_list Q xs h k a s = at_place (λ n a. Q a) 0 xs h k k a s (omega arith)

-- what is known of a variable
abbrev pub Known : List (Option Value) → ℕ → Value → Type 0
Known table x v = Stands table x (Some v)

known_one : (table : List (Option Value)) (x : ℕ) (v w : Value) → Known table x v → Known table x w → v ≡ w
known_one table x v w a b = let e = sym a ∙ b in cc

-- the table knows the states
abbrev pub Starts : Net ℕ → List Value → List (Option Value) → Type 0
Starts net t table =
    AllFrom (λ n (x : Variable ℕ). x.is_state ≡ true → (v : Value) → Stands t n v → Known table n v) 0 net.variables

-- the table knows what the assignments give from it
abbrev pub Closes : Net ℕ → List (Option Value) → Type 0
Closes net table =
    AllFrom
    (λ n (a : Assign ℕ). (v : Value) → PassesConditions (Known table) a.conditions
    → Yields (Known table) (out-Expr ℕ a.value) v
    → Known table a.target v) 0 net.assertions

module _ (net : Net ℕ) (numbered : AllFrom (λ n (x : Variable ℕ). x.key ≡ n) 0 net.variables) where
  pub is_numbered : AreNumberedVariables net
  is_numbered = record {
    key = λ k x s. at_place (λ n (x : Variable ℕ). x.key ≡ n) 0 net.variables numbered k k x s (omega arith);
  }

  pub given_fact : (t : List Value) (n : ℕ) (x : Variable ℕ) (v : Value) → Stands net.variables n x → x.is_state ≡ true
      → Stands t n v → FactOf net t n v
  given_fact t n x v s i h = given (given_from net is_numbered t n x v s i h)

  pub added_fact : (t : List Value) (k : ℕ) (a : Assign ℕ) (n : ℕ) (x : Variable ℕ) (v : Value)
      → Stands net.assertions k a → a.target ≡ n → Stands net.variables n x → Contains x.domain v
      → PassesConditions (FactOf net t) a.conditions → Yields (FactOf net t) (out-Expr ℕ a.value) v → FactOf net t n v
  added_fact t k a n x v s e m c p d =
      subst (λ z. FactOf net t z v) e
      (closed net.assertions (Allows net) (HasStateValue net t) a v (record { place = k; stands = s }) p d
      (subst (λ z. Allows net z v) (sym e) (allowed_from net is_numbered n x v m c)))

  -- at most what the table knows follows
  module _ (t : List Value) (table : List (Option Value))
      (starts : Starts net t table)
      (closes : Closes net table) where
    pub at_most : (x : ℕ) (v : Value) → FactOf net t x v → Known table x v
    at_most = least net.assertions (Allows net) (HasStateValue net t) (Known table)
        (λ x v h. let e : h.place ≡ x = sym (is_numbered.key h.place h.variable h.stands) ∙ h.is_key in
        subst (λ z. Known table z v) e
        (at_place (λ n (x : Variable ℕ). x.is_state ≡ true → (v : Value) → Stands t n v → Known table n v) 0
        net.variables starts h.place h.place h.variable h.stands (omega arith) h.is_state v h.value))
        (λ a v o p d l. in_list (λ (a : Assign ℕ). (v : Value) → PassesConditions (Known table) a.conditions
        → Yields (Known table) (out-Expr ℕ a.value) v → Known table a.target v) net.assertions closes o.place a
        o.stands v p d)

    pub no_two : HasNo net.variables (HasTwo net t)
    no_two = record {
      has_not = λ k x s h.
          h.differ
          (known_one table x.key h.first h.second (at_most x.key h.first h.is_first)
          (at_most x.key h.second h.is_second));
    }

    module _
        (fits : AllFrom (λ n (x : Variable ℕ). (v : Value) → Known table n v → Contains x.domain v) 0
        net.variables) where
      pub none_outside : HasNo net.variables (IsOutside net t)
      none_outside = record {
        has_not = λ k x s h.
            let c =
            in_list
            (λ (a : Assign ℕ). (v : Value) → PassesConditions (Known table) a.conditions
            → Yields (Known table) (out-Expr ℕ a.value) v → Known table a.target v) net.assertions closes
            h.is_one.place h.assign h.is_one.stands in
            let n : Known table h.assign.target h.value =
            c h.value (passes_more ℕ (FactOf net t) (Known table) at_most h.passes)
            (yields_more ℕ (FactOf net t) (Known table) at_most h.yields) in
            let m : Known table k h.value =
            subst (λ z. Known table z h.value) (h.is_target ∙ is_numbered.key k x s) n in
            h.outside
            (at_place (λ n (x : Variable ℕ). (v : Value) → Known table n v → Contains x.domain v) 0 net.variables fits k
            k x s (omega arith) h.value m);
      }

      pub flows : (total : List Value) → Completes (FactOf net t) net.variables t total
          → AllFrom (λ n (a : Assign ℕ). (v : Value) → PassesConditions (Stands total) a.conditions
          → Yields (Stands total) (out-Expr ℕ a.value) v → HasValue net total a.target v) 0 net.assertions
          → Flows net t (Total total)
      flows total c h = all_hold no_two none_outside c (record {
        has_not = λ k a s b.
            b.differs
            (in_list (λ (a : Assign ℕ). (v : Value) → PassesConditions (Stands total) a.conditions
            → Yields (Stands total) (out-Expr ℕ a.value) v → HasValue net total a.target v) net.assertions h k a s
            b.value
            (passes_more ℕ (HasValue net total) (Stands total) (value_at net is_numbered total) b.passes)
            (yields_more ℕ (HasValue net total) (Stands total) (value_at net is_numbered total) b.yields));
      })
