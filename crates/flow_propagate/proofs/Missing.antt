-- How many facts may still come.
use Rattle.std.proofs.Common.{◌≡◌, ℕ, zero, suc, ◌+◌, ◌<◌, ◌≤◌, Bool, true, false, cond, List, [], ◌∷◌, Contains, refl, sym, subst, arith}
use Rattle.ar_base.specs.Lists.{Stands}
use Rattle.ar_base.proofs.Standing.{stands_none}
use Rattle.domains.specs.Domains.{values_of}
use Rattle.domains.specs.Same.{has_value}
use Rattle.domains.specs.declared.Value.{Value}
use Rattle.domains.proofs.Same.{has_in, in_has}
use Rattle.gts_core.specs.declared.system.Variable.{Variable}
use Rattle.typed_expr.specs.Rows.{Rows, known_row_at}
use Rattle.flow_propagate.specs.Table.{TableHolds}
use Rattle.flow_propagate.specs.Closing.{lacking, missing_from}

cond_le : (a b : Bool) → (a ≡ true → b ≡ true) → cond {A = ℕ} b 0 1 ≤ cond {A = ℕ} a 0 1
cond_le true true f = omega arith
cond_le true false f = absurd (cc (f refl))
cond_le false true f = omega arith
cond_le false false f = omega arith

cond_less : (a b : Bool) → (a ≡ true → ⊥) → b ≡ true → cond {A = ℕ} b 0 1 < cond {A = ℕ} a 0 1
cond_less true b f e = absurd (f refl)
cond_less false true f e = omega arith
cond_less false false f e = absurd (cc e)

lacking_le : (vs old new : List Value) → ((w : Value) → Contains old w → Contains new w)
    → lacking vs new ≤ lacking vs old
lacking_le [] old new g = omega arith
lacking_le (v ∷ vs) old new g =
    let a = cond_le (has_value v old) (has_value v new) (λ e. in_has v new (g v (has_in v old e))) in
    let b = lacking_le vs old new g in
    omega arith

lacking_less : (vs old new : List Value) (v : Value) → ((w : Value) → Contains old w → Contains new w) → Contains vs v
    → (Contains old v → ⊥) → Contains new v → lacking vs new < lacking vs old
lacking_less [] old new v g c was is = absurd (omega (arith, c.1))
lacking_less (x ∷ vs) old new v g (zero, h, e) was is =
    let a = cond_less (has_value x old) (has_value x new)
    (λ i. was (subst (λ (z : Value). Contains old z) e (has_in x old i)))
    (in_has x new (subst (λ (z : Value). Contains new z) (sym e) is)) in
    let b = lacking_le vs old new g in
    omega arith
lacking_less (x ∷ vs) old new v g (suc k, h, e) was is =
    let a = cond_le (has_value x old) (has_value x new) (λ i. in_has x new (g x (has_in x old i))) in
    let b = lacking_less vs old new v g (k, omega (arith, h), e) was is in
    omega arith

pub missing_le : (k : ℕ) (xs : List Variable) (old new : Rows) → ((n : ℕ) (w : Value) → TableHolds old n w → TableHolds new n w)
    → missing_from k xs new ≤ missing_from k xs old
missing_le k [] old new g = omega arith
missing_le k (x ∷ xs) old new g =
    let a = lacking_le (values_of x.domain) (known_row_at old k) (known_row_at new k) (g k) in
    let b = missing_le (k + 1) xs old new g in
    omega arith

pub missing_less : (k : ℕ) (xs : List Variable) (old new : Rows) → ((n : ℕ) (w : Value) → TableHolds old n w → TableHolds new n w)
    → (j n : ℕ) (x : Variable) (v : Value) → n ≡ k + j → Stands xs j x → Contains (values_of x.domain) v
    → (TableHolds old n v → ⊥) → TableHolds new n v → missing_from k xs new < missing_from k xs old
missing_less k [] old new g j n x v at s c was is = absurd (stands_none j x s)
missing_less k (y ∷ xs) old new g zero n x v at s c was is =
    let e : y ≡ x = cc in
    let i : n ≡ k = omega arith in
    let a = lacking_less (values_of y.domain) (known_row_at old k) (known_row_at new k) v (g k)
    (subst (λ (z : Variable). Contains (values_of z.domain) v) (sym e) c)
    (λ h. was (subst (λ (z : ℕ). TableHolds old z v) (sym i) h)) (subst (λ (z : ℕ). TableHolds new z v) i is) in
    let b = missing_le (k + 1) xs old new g in
    omega arith
missing_less k (y ∷ xs) old new g (suc j) n x v at s c was is =
    let a = lacking_le (values_of y.domain) (known_row_at old k) (known_row_at new k) (g k) in
    let b = missing_less (k + 1) xs old new g j n x v (omega arith) s c was is in
    omega arith
