-- Stages that give alike things of things that are alike, and refuse them alike.
use Rattle.std.proofs.Common.{Bool, true, false, Result, Ok, Err, refl, sym, subst}
use Rattle.ar_base.specs.Stages.{Then, refuses, passes, Where}

-- the stage gives something like this of c, or refuses it so
abbrev pub Gives : {A B R : Type 0} → (B → B → Type 0) → (A → Result B R → Type 0) → A → Result B R → Type 0
Gives {B = B} Same stage c (Ok b) = (d : B) × stage c (Ok d) × Same b d
Gives Same stage c (Err r) = stage c (Err r)

-- what it answers of the first of two that are alike, it answers of the second, but for what is alike
abbrev pub Carries : {A B R : Type 0} → (A → A → Type 0) → (B → B → Type 0) → (A → Result B R → Type 0) → Type 0
Carries {A = A} {B = B} {R = R} P Q stage = (a c : A) → P a c → (x : Result B R) → stage a x → Gives Q stage c x

module _ {A B C R : Type 0} (P : A → A → Type 0) (Q : B → B → Type 0) (S : C → C → Type 0)
    (first : A → Result B R → Type 0) (second : B → Result C R → Type 0) where
  goes_on : (c : A) (d : B) → first c (Ok d) → (x : Result C R) → Gives S second d x → Gives S (Then first second) c x
  goes_on c d h (Ok e) k = (k.0, passes d h k.1, k.2)
  goes_on c d h (Err r) k = passes d h k

  -- two stages carry where each does
  pub then_carries : Carries P Q first → Carries Q S second → Carries P S (Then first second)
  then_carries one two a c p _ (refuses {r = r} h) = refuses (one a c p (Err r) h)
  then_carries one two a c p x (passes b h k) =
      let o = one a c p (Ok b) h in goes_on c o.0 o.1 x (two b o.0 o.2 x k)

-- a stage that may be left out
module _ {A R : Type 0} (P : A → A → Type 0) (stage : A → Result A R → Type 0) where
  pub where_carries : (b : Bool) → Carries P P stage → Carries P P (Where b stage)
  where_carries true one a c p (Ok b) h = one a c p (Ok b) h
  where_carries true one a c p (Err r) h = one a c p (Err r) h
  where_carries false one a c p x h = subst (λ (z : Result A R). Gives P (Where false stage) c z) (sym h) (c, refl, p)
