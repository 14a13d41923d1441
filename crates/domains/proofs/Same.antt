-- The test of equality of values says what it should.
use Rattle.std.proofs.Common.{◌≡◌, inl, inr, true, false, List, [], ◌∷◌, Contains, refl, sym, ap, subst}
use Rattle.std.specs.Cmp.{unsigned_Decides}
use Rattle.std.proofs.lemmas.Bool.{or_cases, or_left, or_right}
use Rattle.std.proofs.lemmas.Bool.Decides.{Decides-int_eq}
use Rattle.domains.specs.Same.{is_same, has_value}
use Rattle.domains.specs.declared.Value.{Value}
use Rattle.domains.specs.declared.Value.TheVariants.{Truth, Whole, Symbol}
use Rattle.domains.proofs.Members.{contains-head, contains-cons, contains-cases, nothing-in}

-- values of which the test is true are one
pub same_is : (v w : Value) → is_same v w ≡ true → v ≡ w
same_is (Truth true) (Truth true) e = refl
same_is (Truth true) (Truth false) e = absurd (cc e)
same_is (Truth false) (Truth true) e = absurd (cc e)
same_is (Truth false) (Truth false) e = refl
same_is (Whole m) (Whole n) e = ap Whole ((Decides-int_eq m n).0 e)
same_is (Symbol m) (Symbol n) e = ap Symbol ((unsigned_Decides m n).0 e)
same_is (Truth a) (Whole n) e = absurd (cc e)
same_is (Truth a) (Symbol n) e = absurd (cc e)
same_is (Whole m) (Truth b) e = absurd (cc e)
same_is (Whole m) (Symbol n) e = absurd (cc e)
same_is (Symbol m) (Truth b) e = absurd (cc e)
same_is (Symbol m) (Whole n) e = absurd (cc e)

-- the test is true of a value and itself
pub same_self : (v : Value) → is_same v v ≡ true
same_self (Truth true) = refl
same_self (Truth false) = refl
same_self (Whole n) = (Decides-int_eq n n).1 refl
same_self (Symbol n) = (unsigned_Decides n n).1 refl

-- a list that passes the test has the value
pub has_in : (v : Value) (values : List Value) → has_value v values ≡ true → Contains values v
has_in v [] e = absurd (cc e)
has_in v (w ∷ ws) e = elim (or_cases (is_same v w) (has_value v ws) e) [
  | inl a ↦ subst (λ (z : Value). Contains (w ∷ ws) z) (sym (same_is v w a)) (contains-head w ws)
  | inr a ↦ contains-cons w v ws (has_in v ws a)
]

-- a list that has the value passes the test
pub in_has : (v : Value) (values : List Value) → Contains values v → has_value v values ≡ true
in_has v [] c = absurd (nothing-in v c)
in_has v (w ∷ ws) c = elim (contains-cases w v ws c) [
  | inl e ↦ or_left (is_same v w) (has_value v ws) (subst (λ (z : Value). is_same v z ≡ true) (sym e) (same_self v))
  | inr m ↦ or_right (is_same v w) (has_value v ws) (in_has v ws m)
]
