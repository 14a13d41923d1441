-- Stages whose answers are alike where what they are given is alike.
use Rattle.std.proofs.Common.{◌≡◌, ◌↔◌, ℕ, List, Result, Ok, Err, refl, ap, ◌∙◌, arith}
use Rattle.ar_base.specs.Breach.{IsBroken}
use Rattle.ar_base.specs.Stages.{Then, refuses, passes, Keeps, kept, broken, Fits, fits, passes_it}
use Rattle.ar_base.specs.declared.counts.Count.{Count}
use Rattle.ar_base.specs.declared.faults.RuleFault.{RuleFault}
use Rattle.ar_base.specs.declared.faults.RuleFault.TheVariants.{Rule}
use Rattle.ar_base.specs.declared.places.Place.{Place}
use Rattle.class_table.proofs.OneRefusal.{breach_one}
use Rattle.source_laws.specs.Answers.{SameAnswer}

-- answers that are alike
pub data AreAlike {B R : Type 0} (Same : B → B → Type 0) : Result B R → Result B R → Type 0 where
  give : {b c : B} → Same b c → AreAlike Same (Ok b) (Ok c)
  refuse : {r s : R} → r ≡ s → AreAlike Same (Err r) (Err s)

-- Stages

given : {B R : Type 0} {Q : B → B → Type 0} {b d : B} → AreAlike {R = R} Q (Ok b) (Ok d) → Q b d
given (give q) = q

refused : {B C R : Type 0} {Q : B → B → Type 0} {S : C → C → Type 0} {r s : R} → AreAlike Q (Err r) (Err s)
    → AreAlike S (Err r) (Err s)
refused (refuse e) = refuse e

never : {B C R : Type 0} {Q : B → B → Type 0} {b : B} {r : R} → AreAlike Q (Ok b) (Err r) → C
never h = elim h [ ]

never_turned : {B C R : Type 0} {Q : B → B → Type 0} {b : B} {r : R} → AreAlike Q (Err r) (Ok b) → C
never_turned h = elim h [ ]

-- two stages, one after the other, have one answer where each has
pub then_alike : {A B C R : Type 0} (P : A → A → Type 0) (Q : B → B → Type 0) (S : C → C → Type 0)
    (first : A → Result B R → Type 0) (second : B → Result C R → Type 0)
    → ((a c : A) → P a c → (x y : Result B R) → first a x → first c y → AreAlike Q x y)
    → ((b d : B) → Q b d → (x y : Result C R) → second b x → second d y → AreAlike S x y)
    → (a c : A) → P a c → (x y : Result C R) → Then first second a x → Then first second c y → AreAlike S x y
then_alike P Q S first second one two a c p _ _ (refuses {r = r} h) (refuses {r = s} k) =
    refused (one a c p (Err r) (Err s) h k)
then_alike P Q S first second one two a c p _ _ (refuses {r = r} h) (passes b k m) =
    never_turned (one a c p (Err r) (Ok b) h k)
then_alike P Q S first second one two a c p _ _ (passes b h m) (refuses {r = r} k) =
    never (one a c p (Ok b) (Err r) h k)
then_alike P Q S first second one two a c p x y (passes b h m) (passes d k n) =
    two b d (given (one a c p (Ok b) (Ok d) h k)) x y m n

-- what two alike answers have in common
pub told : {B R : Type 0} (Q : B → B → Type 0) (x y : Result B R) → AreAlike Q x y → SameAnswer Q x y
told Q _ _ (give q) = q
told Q _ _ (refuse e) = e

pub alike_of : {B R : Type 0} (Q : B → B → Type 0) (x y : Result B R) → SameAnswer Q x y → AreAlike Q x y
alike_of Q (Ok b) (Ok c) q = give q
alike_of Q (Ok b) (Err s) q = absurd q
alike_of Q (Err r) (Ok c) q = absurd q
alike_of Q (Err r) (Err s) e = refuse e

-- more is alike of what both give
pub alike_where : {B R : Type 0} {Q S : B → B → Type 0} {x y : Result B R}
    → ((b c : B) → x ≡ Ok b → y ≡ Ok c → Q b c → S b c) → AreAlike Q x y → AreAlike S x y
alike_where more (give {b = b} {c = c} q) = give (more b c refl refl q)
alike_where more (refuse e) = refuse e

module _ {A : Type 0} (P : A → A → Type 0) where
  pub fits_alike : (count : Count) (counted : A → ℕ) → ((a c : A) → P a c → counted a ≡ counted c) → (a c : A) → P a c
      → (x y : Result A RuleFault) → Fits count counted a x → Fits count counted c y → AreAlike P x y
  fits_alike count counted same a c p x y (fits h) (fits k) = give p
  fits_alike count counted same a c p x y (fits h) (passes_it k) = let e = same a c p in absurd (omega (arith, h, k, e))
  fits_alike count counted same a c p x y (passes_it h) (fits k) = let e = same a c p in absurd (omega (arith, h, k, e))
  fits_alike count counted same a c p x y (passes_it h) (passes_it k) = refuse refl

  pub keeps_alike : (rules : List ℕ) (breaks : A → ℕ → Place → Type 0)
      → ((a c : A) → P a c → (r : ℕ) (p : Place) → (breaks a r p ↔ breaks c r p)) → (a c : A) → P a c
      → (x y : Result A RuleFault) → Keeps rules breaks a x → Keeps rules breaks c y → AreAlike P x y
  keeps_alike rules breaks same a c p x y (kept k) (kept l) = give p
  keeps_alike rules breaks same a c p x y (kept k) (broken {r = r} {p = at} b) =
      absurd (k.kept r at b.is_one ((same a c p r at).1 b.breaks_there))
  keeps_alike rules breaks same a c p x y (broken {r = r} {p = at} b) (kept k) =
      absurd (k.kept r at b.is_one ((same a c p r at).0 b.breaks_there))
  keeps_alike rules breaks same a c p x y (broken {r = r} {p = at} b) (broken {r = s} {p = there} d) =
      let moved : IsBroken rules (breaks a) s there = record {
        is_one = d.is_one;
        breaks_there = (same a c p s there).1 d.breaks_there;
        no_lesser = λ t o one less u. d.no_lesser t o one less ((same a c p t o).0 u);
        no_earlier = λ o less u. d.no_earlier o less ((same a c p s o).0 u);
      } in
      let j = breach_one rules (breaks a) r s at there b moved in
      refuse (ap (λ (z : ℕ). Rule z at) j.0 ∙ ap (λ (z : Place). Rule s z) j.1)
