-- Tests that answer whether a fact holds.
use Rattle.std.proofs.Common.{◌≡◌, Bool, true, false, ◌&&◌, ◌||◌, refl}
use Rattle.ar_meaning.specs.Found.{IsAnswer}

pub and_answer : (a b : Bool) (P Q R : Type 0) → (P → Q → R) → (R → P) → (R → Q) → IsAnswer a P → IsAnswer b Q
    → IsAnswer (a && b) R
and_answer true true P Q R both one two h k = both h k
and_answer true false P Q R both one two h k = λ r. k (two r)
and_answer false b P Q R both one two h k = λ r. h (one r)

pub or_answer : (a b : Bool) (P Q R : Type 0) → (P → R) → (Q → R) → ((P → ⊥) → (Q → ⊥) → R → ⊥) → IsAnswer a P
    → IsAnswer b Q → IsAnswer (a || b) R
or_answer true b P Q R one two none h k = one h
or_answer false true P Q R one two none h k = two k
or_answer false false P Q R one two none h k = none h k

pub turned_answer : (b : Bool) (P Q : Type 0) → (P → Q) → (Q → P) → IsAnswer b P → IsAnswer b Q
turned_answer true P Q on off h = on h
turned_answer false P Q on off h = λ q. h (off q)

pub answer_true : (b : Bool) (P : Type 0) → b ≡ true → IsAnswer b P → P
answer_true true P e h = h
answer_true false P e h = absurd (cc e)

pub answer_false : (b : Bool) (P : Type 0) → b ≡ false → IsAnswer b P → P → ⊥
answer_false true P e h = absurd (cc e)
answer_false false P e h = h

pub is_true : (b : Bool) (P : Type 0) → IsAnswer b P → P → b ≡ true
is_true true P h k = refl
is_true false P h k = absurd (h k)
