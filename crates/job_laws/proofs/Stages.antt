-- Stages that have one answer each.
use Rattle.std.proofs.Common.{◌≡◌, Bool, true, false, Result, Ok, Err, sym, ◌∙◌, ap, subst}
use Rattle.ar_base.specs.Stages.{Then, refuses, passes, Where}
use Rattle.source_laws.specs.Answers.{SameAnswer}

-- the stage has one answer, where P holds of what it is given
abbrev pub IsOne : {A B R : Type 0} → (A → Type 0) → (A → Result B R → Type 0) → Type 0
IsOne {A = A} {B = B} {R = R} P stage = (a : A) → P a → (x y : Result B R) → stage a x → stage a y → x ≡ y

-- Q holds of what it passes on
abbrev pub PassesOn : {A B R : Type 0} → (A → Type 0) → (A → Result B R → Type 0) → (B → Type 0) → Type 0
PassesOn {A = A} {B = B} P stage Q = (a : A) (b : B) → P a → stage a (Ok b) → Q b

pub same_ok : {A B : Type 0} (x y : A) → ◌≡◌ {A = Result A B} (Ok x) (Ok y) → x ≡ y
same_ok x y e = cc

pub same_err : {A B : Type 0} (x y : B) → ◌≡◌ {A = Result A B} (Err x) (Err y) → x ≡ y
same_err x y e = cc

pub ok_err : {A B C : Type 0} (x : A) (e : B) → ◌≡◌ {A = Result A B} (Ok x) (Err e) → C
ok_err x e i = cc

-- an answer that is like a refusal is that refusal
pub refusal_of : {B R : Type 0} (Same : B → B → Type 0) (x : Result B R) (r : R) → SameAnswer Same x (Err r) → x ≡ Err r
refusal_of Same (Ok b) r h = absurd h
refusal_of Same (Err q) r e = ap Err e

-- Two stages

module _ {A B C R : Type 0} (P : A → Type 0) (Q : B → Type 0) (first : A → Result B R → Type 0)
    (second : B → Result C R → Type 0) where
  -- they have one answer where each has
  pub then_one : IsOne P first → PassesOn P first Q → IsOne Q second → IsOne P (Then first second)
  then_one one on two a p x y (refuses {r = r} h) (refuses {r = s} k) =
      ap Err (same_err r s (one a p (Err r) (Err s) h k))
  then_one one on two a p x y (refuses {r = r} h) (passes b k m) = ok_err b r (one a p (Ok b) (Err r) k h)
  then_one one on two a p x y (passes b h m) (refuses {r = r} k) = ok_err b r (one a p (Ok b) (Err r) h k)
  then_one one on two a p x y (passes b h m) (passes c k n) =
      let e : c ≡ b = same_ok c b (one a p (Ok c) (Ok b) k h) in
      two b (on a b p h) x y m (subst (λ (z : B). second z y) e n)

  pub then_on : (T : C → Type 0) → PassesOn P first Q → PassesOn Q second T → PassesOn P (Then first second) T
  then_on T on two a c p (passes b h m) = two b c (on a b p h) m

-- A stage that may be left out

module _ {A R : Type 0} (P : A → Type 0) (stage : A → Result A R → Type 0) where
  pub where_one : (b : Bool) → IsOne P stage → IsOne P (Where b stage)
  where_one true one a p x y h k = one a p x y h k
  where_one false one a p x y h k = h ∙ sym k

  pub where_on : (b : Bool) → PassesOn P stage P → PassesOn P (Where b stage) P
  where_on true on a c p h = on a c p h
  where_on false on a c p h = subst P (sym (same_ok c a h)) p
