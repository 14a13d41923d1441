-- Answers that are yes exactly where something holds.
use Rattle.std.proofs.Common.{◌≡◌, Bool, true, false, refl, sym, ◌∙◌, true≢false, subst, Option, Some, None}
use Rattle.std.specs.Option.{MatchOption}
use Rattle.gate_modules.specs.Walked.{SaysWhether}

pub answer_no : {P : Type 0} → (P → ⊥) → SaysWhether false P
answer_no n = record { yes = λ e. absurd (true≢false (sym e)); only = λ p. absurd (n p) }

pub answer_yes : {P : Type 0} → P → SaysWhether true P
answer_yes p = record { yes = λ _. p; only = λ _. refl }

-- what the answer no tells
pub told_no : {P : Type 0} (b : Bool) → SaysWhether b P → b ≡ false → P → ⊥
told_no b a e p = true≢false (sym (a.only p) ∙ e)

pub answer_by : {P Q : Type 0} (b : Bool) → SaysWhether b P → (P → Q) → (Q → P) → SaysWhether b Q
answer_by b a f g = record { yes = λ e. f (a.yes e); only = λ q. a.only (g q) }

-- what none tells
pub told_none : {T : Type 0} (A : Type 0) (B : T → Type 0) (r : Option T) → MatchOption r A B → r ≡ None → A
told_none A B r h e = subst (λ q. MatchOption q A B) e h

-- what some tells
pub told_some : {T : Type 0} (A : Type 0) (B : T → Type 0) (r : Option T) (x : T) → MatchOption r A B → r ≡ Some x → B x
told_some A B r x h e = subst (λ q. MatchOption q A B) e h
