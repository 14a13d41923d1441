-- What expressions read under a total valuation is what they yield from it.
use Rattle.std.proofs.Common.{◌≡◌, ◌<◌, ◌≤◌, ℕ, zero, suc, take, drop, Bool, true, false, List, [], ◌∷◌, map, length, Option, slice_get, unwrap_or, Contains, refl, sym, ap, ◌∙◌, subst, inl, inr, arith}
use Rattle.std.specs.List.{list_all}
use Rattle.ar_base.specs.Lists.{Stands, IsOneOf}
use Rattle.ar_base.proofs.Standing.{stands_some, one_first, one_rest}
use Rattle.domains.specs.Domains.{Holds}
use Rattle.domains.specs.declared.Domain.{Domain}
use Rattle.domains.specs.declared.Domain.TheVariants.{Boolean, Symbols, Range}
use Rattle.domains.specs.declared.Value.{Value}
use Rattle.domains.specs.declared.Value.TheVariants.{Truth, Whole, Symbol}
use Rattle.domains.proofs.Members.{contains-head, contains-cases, nothing-in}
use Rattle.typed_expr.specs.Kinds.{kind_of}
use Rattle.typed_expr.specs.Yields.{Yields}
use Rattle.typed_expr.specs.YieldsInside.{facts_of}
use Rattle.typed_expr.specs.declared.expr.Expr.{Expr, out-Expr}
use Rattle.typed_expr.specs.declared.expr.ValueKind.{ValueKind}
use Rattle.typed_expr.specs.declared.expr.ValueKind.TheVariants as kind
use Rattle.typed_expr.proofs.Facts.{yields_named, yields_more}
use Rattle.typed_expr.proofs.Valued.{one-fact}
use Rattle.ar_meaning.specs.Facts.{PassesConditions, none, one_and, HasValue}
use Rattle.ar_meaning.specs.Found.{IsAnswer}
use Rattle.ar_meaning.proofs.ByNumber as number
use Rattle.ar_base.specs.Numbers.{VarId}
use Rattle.gts_core.specs.View.{numbered, condition_of, net_of, variable_of}
use Rattle.gts_core.specs.Sound.{kind_of_domain, kind_of_found, variable_kind_at, IsTyped}
use Rattle.gts_core.specs.declared.system.Variable.{Variable}
use Rattle.gts_core.specs.declared.system.GtsParts.{GtsParts}
use Rattle.gts_core.proofs.Numbering.{yields_numbered, yields_back}
use Rattle.gts_core.proofs.Viewing.{variable_there, are_numbered}
use Rattle.gts_core.specs.Readings.{IsTotal, valuation_at, valuation_values, value_in, is_truth, is_met}
use Rattle.gts_core.proofs.Tests.{and_answer}

-- a value of a domain is of its kind
pub kind_of_held : (d : Domain) (v : Value) → Holds d v → kind_of v ≡ kind_of_domain d
kind_of_held Boolean (Truth b) h = refl
kind_of_held Boolean (Whole n) h = absurd h
kind_of_held Boolean (Symbol s) h = absurd h
kind_of_held (Symbols symbols) (Truth b) h = absurd h
kind_of_held (Symbols symbols) (Whole n) h = absurd h
kind_of_held (Symbols symbols) (Symbol s) h = refl
kind_of_held (Range low high) (Truth b) h = absurd h
kind_of_held (Range low high) (Whole n) h = refl
kind_of_held (Range low high) (Symbol s) h = absurd h

kinds_agree : (xs : List Variable) (t : List Value) → length t ≡ length xs
    → ((n : ℕ) (x : Variable) (v : Value) → Stands xs n x → Stands t n v → Holds x.domain v)
    → (n : ℕ) → kind_of (unwrap_or (slice_get t n) (Truth false)) ≡ kind_of_found (slice_get xs n)
kinds_agree [] [] e h n = refl
kinds_agree [] (v ∷ t) e h n = absurd (omega (arith, e))
kinds_agree (x ∷ xs) [] e h n = absurd (omega (arith, e))
kinds_agree (x ∷ xs) (v ∷ t) e h zero = kind_of_held x.domain v (h zero x v refl refl)
kinds_agree (x ∷ xs) (v ∷ t) e h (suc n) = kinds_agree xs t (omega (arith, e)) (λ k y u a b. h (suc k) y u a b) n

-- the part of a list that has the value at a place
pub one_there : (t : List Value) (n : ℕ) → n < length t → take 1 (drop n t) ≡ valuation_values t n
one_there [] n h = absurd (omega (arith, h))
one_there (v ∷ t) zero h = refl
one_there (v ∷ t) (suc n) h = one_there t n (omega (arith, h))

pub one_past : (t : List Value) (n : ℕ) → length t ≤ n → [] ≡ valuation_values t n
one_past [] n h = refl
one_past (v ∷ t) zero h = absurd (omega (arith, h))
one_past (v ∷ t) (suc n) h = one_past t n (omega (arith, h))

-- a value that stands there is the one that is read
pub read_value : (t : List Value) (n : ℕ) (v : Value) → Stands t n v → valuation_at t n ≡ v
read_value t n v h = ap (λ (o : Option Value). unwrap_or o (Truth false)) h

-- the answer of a test, where v is the one value with P
truth_answer : (P : Value → Type 0) (v : Value) (b : Bool) → ((w : Value) → P w → w ≡ v) → P v
    → IsAnswer (is_truth v b) (P (Truth b))
truth_answer P (Truth true) true only h = h
truth_answer P (Truth true) false only h = λ k. let e = only (Truth false) k in cc
truth_answer P (Truth false) true only h = λ k. let e = only (Truth true) k in cc
truth_answer P (Truth false) false only h = h
truth_answer P (Whole n) b only h = λ k. let e = only (Truth b) k in cc
truth_answer P (Symbol s) b only h = λ k. let e = only (Truth b) k in cc

module _ (p : GtsParts) (t : List Value) (total : IsTotal p t) where
  known : VarId → Value → Type 0
  known x w = HasValue (net_of p) t x.n w

  -- what is yielded is the value
  pub yielded_value : (e : Expr VarId) (k : ValueKind) → IsTyped p e k → (v : Value)
      → Yields (HasValue (net_of p) t) (out-Expr ℕ (numbered e)) v → v ≡ value_in t e
  yielded_value e k typed v h =
      let back : Yields (λ (x : VarId) (w : Value). HasValue (net_of p) t x.n w) (out-Expr VarId e) v =
      yields_back (λ (x : VarId) (w : Value). HasValue (net_of p) t x.n w) (HasValue (net_of p) t) e v
      (λ x w f. f) h in
      let one : Yields (facts_of (λ (x : VarId). valuation_at t x.n ∷ [])) (out-Expr VarId e) v =
      yields_more VarId (λ (x : VarId) (w : Value). HasValue (net_of p) t x.n w)
      (facts_of (λ (x : VarId). valuation_at t x.n ∷ []))
      (λ x w f. subst (λ (z : Value). Contains (valuation_at t x.n ∷ []) z)
      (read_value t x.n w (number.value_at (net_of p) (are_numbered p) t x.n w f))
      (contains-head (valuation_at t x.n) [])) back in
      (one-fact (λ (x : VarId). valuation_at t x.n) (variable_kind_at p)
      (λ x. kinds_agree p.variables.items t total.long total.in_domain x.n) e k typed.typed v).0 one

  -- the value is yielded
  pub value_yielded : (e : Expr VarId) (k : ValueKind) → IsTyped p e k
      → Yields (HasValue (net_of p) t) (out-Expr ℕ (numbered e)) (value_in t e)
  value_yielded e k typed =
      let one : Yields (facts_of (λ (x : VarId). valuation_at t x.n ∷ [])) (out-Expr VarId e) (value_in t e) =
      (one-fact (λ (x : VarId). valuation_at t x.n) (variable_kind_at p)
      (λ x. kinds_agree p.variables.items t total.long total.in_domain x.n) e k typed.typed (value_in t e)).1
      refl in
      yields_numbered (λ (x : VarId) (w : Value). HasValue (net_of p) t x.n w) (HasValue (net_of p) t) e (value_in t e)
      (λ x w f. f)
      (yields_named (λ x w m c. known_value x w (typed.variables x m) c) one)
    where
      known_value : (x : VarId) (w : Value) → x.n < length p.variables.items → Contains (valuation_at t x.n ∷ []) w
          → HasValue (net_of p) t x.n w
      known_value x w below c =
          let y = stands_some p.variables.items x.n below in
          let v = stands_some t x.n (omega (arith, total.long)) in
          let same : valuation_at t x.n ≡ w = elim (contains-cases (valuation_at t x.n) w [] c)
          [ inl i ↦ i | inr c ↦ absurd (nothing-in w c) ] in
          number.value_from (net_of p) (are_numbered p) t x.n (variable_of x.n y.0) w (variable_there p x.n y.0 y.1)
          (subst (λ (z : Value). Stands t x.n z) (sym (read_value t x.n v.0 v.1) ∙ same) v.1)

  pub met_answer : (e : Expr VarId) → IsTyped p e kind.Truth → (b : Bool)
      → IsAnswer (is_met t (e, b)) (Yields (HasValue (net_of p) t) (out-Expr ℕ (numbered e)) (Truth b))
  met_answer e typed b = truth_answer (Yields (HasValue (net_of p) t) (out-Expr ℕ (numbered e))) (value_in t e) b
      (yielded_value e kind.Truth typed) (value_yielded e kind.Truth typed)

  pub passes_answer : (cs : List (Expr VarId × Bool))
      → ((c : Expr VarId × Bool) → IsOneOf cs c → IsTyped p c.0 kind.Truth)
      → IsAnswer (list_all (is_met t) cs) (PassesConditions (HasValue (net_of p) t) (map condition_of cs))
  passes_answer [] typed = none
  passes_answer (c ∷ cs) typed =
      and_answer (is_met t c) (list_all (is_met t) cs)
      (Yields (HasValue (net_of p) t) (out-Expr ℕ (numbered c.0)) (Truth c.1))
      (PassesConditions (HasValue (net_of p) t) (map condition_of cs))
      (PassesConditions (HasValue (net_of p) t) (map condition_of (c ∷ cs))) (λ y q. one_and y q) first rest
      (met_answer c.0 (typed c (one_first c cs)) c.1) (passes_answer cs (λ d h. typed d (one_rest c cs d h)))
    where
      first : PassesConditions (HasValue (net_of p) t) (map condition_of (c ∷ cs))
          → Yields (HasValue (net_of p) t) (out-Expr ℕ (numbered c.0)) (Truth c.1)
      first (one_and y q) = y

      rest : PassesConditions (HasValue (net_of p) t) (map condition_of (c ∷ cs))
          → PassesConditions (HasValue (net_of p) t) (map condition_of cs)
      rest (one_and y q) = q
