-- The rules on units, one after the other.
use Rattle.std.proofs.Common.{◌≡◌, ◌<◌, ◌+◌, ◌⊎◌, inl, inr, ℕ, List, Option, Some, None, Result, Ok, Err, refl, sym, ◌∙◌, ap, subst, arith}
use Rattle.std.proofs.lemmas.Bool.{cases_eq}
use Rattle.ar_base.specs.Breach.{IsBroken, AreKept}
use Rattle.ar_base.specs.Lists.{IsOneOf}
use Rattle.ar_base.specs.Stages.{kept, broken}
use Rattle.ar_base.specs.StagesInside.{kept_rule}
use Rattle.ar_base.specs.declared.faults.RuleFault.{RuleFault}
use Rattle.ar_base.specs.declared.places.Place.{Place}
use Rattle.ar_base.proofs.Standing.{one_first, one_rest}
use Rattle.class_table.specs.Earliest.{IsEarliest, nowhere, there}
use Rattle.class_table.proofs.Answering.{kept_ok, kept_err}
use Rattle.class_table.proofs.FirstPlaces.{earliest_same}
use Rattle.hierarchy.specs.Models.{RootedModel}
use Rattle.hierarchy.specs.Units.{UnitPath}
use Rattle.hierarchy.specs.Walks.{Nothing, Loops}
use Rattle.unit_rules.specs.Statements.{WalkEnds}
use Rattle.unit_rules.specs.Rules.{BreaksDeclaration, BreaksSetting}
use Rattle.instantiate.specs.Unfolding.{BreaksUnitRule, l6, l7, l8, l9, unit_rules}
use Rattle.instantiate.specs.Settled.{AnswersUnitRules}

pub rule6 : IsOneOf unit_rules 6
rule6 = one_first 6 _

pub rule7 : IsOneOf unit_rules 7
rule7 = one_rest 6 _ 7 (one_first 7 _)

pub rule8 : IsOneOf unit_rules 8
rule8 = one_rest 6 _ 8 (one_rest 7 _ 8 (one_first 8 _))

pub rule9 : IsOneOf unit_rules 9
rule9 = one_rest 6 _ 9 (one_rest 7 _ 9 (one_rest 8 _ 9 (one_first 9 _)))

module _ (m : RootedModel) (units : List UnitPath) where
  -- the rules below this number are kept
  pub record KeptBelow (n : ℕ) : Type 0 where
    pub kept : (r : ℕ) (p : Place) → r < n → BreaksUnitRule m units r p → ⊥

  -- the tests, by their rules
  pub lost : (f : Option Place) → IsEarliest (WalkEnds m units Nothing) f → IsEarliest (BreaksUnitRule m units 6) f
  lost f h = earliest_same f (λ p w. l6 w) (λ p b. back p b) h
    where
      back : (p : Place) → BreaksUnitRule m units 6 p → WalkEnds m units Nothing p
      back p (l6 w) = w

  pub looping : (f : Option Place) → IsEarliest (WalkEnds m units Loops) f → IsEarliest (BreaksUnitRule m units 7) f
  looping f h = earliest_same f (λ p w. l7 w) (λ p b. back p b) h
    where
      back : (p : Place) → BreaksUnitRule m units 7 p → WalkEnds m units Loops p
      back p (l7 w) = w

  pub declaring : (f : Option Place) → IsEarliest (BreaksDeclaration m units) f
      → IsEarliest (BreaksUnitRule m units 8) f
  declaring f h = earliest_same f (λ p w. l8 w) (λ p b. back p b) h
    where
      back : (p : Place) → BreaksUnitRule m units 8 p → BreaksDeclaration m units p
      back p (l8 w) = w

  pub setting : (f : Option Place) → IsEarliest (BreaksSetting m units) f → IsEarliest (BreaksUnitRule m units 9) f
  setting f h = earliest_same f (λ p w. l9 w) (λ p b. back p b) h
    where
      back : (p : Place) → BreaksUnitRule m units 9 p → BreaksSetting m units p
      back p (l9 w) = w

  pub below_first : KeptBelow 6
  below_first = record { kept = λ r p l b. go r p l b }
    where
      go : (r : ℕ) (p : Place) → r < 6 → BreaksUnitRule m units r p → ⊥
      go r p l (l6 w) = omega (arith, l)
      go r p l (l7 w) = omega (arith, l)
      go r p l (l8 w) = omega (arith, l)
      go r p l (l9 w) = omega (arith, l)

  -- a test that passes
  pub passes_test : (n : ℕ) (f : Option Place) (x : Unit {0}) → Ok x ≡ kept_rule n f → KeptBelow n
      → IsEarliest (BreaksUnitRule m units n) f → KeptBelow (n + 1)
  passes_test n f x e k h = record { kept = λ r p l b. go r p l b (cases_eq r n) }
    where
      none_here : IsEarliest (BreaksUnitRule m units n) None → (p : Place) → BreaksUnitRule m units n p → ⊥
      none_here (nowhere w) p b = w p b

      go : (r : ℕ) (p : Place) → r < n + 1 → BreaksUnitRule m units r p → (r ≡ n) ⊎ (r ≡ n → ⊥) → ⊥
      go r p l b (inl q) = none_here (subst (IsEarliest (BreaksUnitRule m units n)) (kept_ok n f x e) h) p
          (subst (λ (s : ℕ). BreaksUnitRule m units s p) q b)
      go r p l b (inr q) = k.kept r p (omega (arith, l, q)) b

  -- a test that refuses
  pub refuses_test : {X : Type 0} (n : ℕ) (f : Option Place) (x : RuleFault) (r : Result X RuleFault)
      → IsOneOf unit_rules n → KeptBelow n → IsEarliest (BreaksUnitRule m units n) f → Err x ≡ kept_rule n f → r ≡ Err x
      → AnswersUnitRules m units r
  refuses_test {X = X} n f x r o k h e i =
      let w = kept_err n f x e in
      subst (λ (z : Result X RuleFault). AnswersUnitRules m units z) (sym (i ∙ ap Err w.2))
      (broken (there_broken w.0 (subst (IsEarliest (BreaksUnitRule m units n)) w.1 h)))
    where
      there_broken : (p : Place) → IsEarliest (BreaksUnitRule m units n) (Some p)
          → IsBroken unit_rules (BreaksUnitRule m units) n p
      there_broken p (there b none) = record
          { is_one = o; breaks_there = b; no_lesser = λ s q i l c. k.kept s q l c; no_earlier = none }

  -- all of them pass
  pub all_pass : KeptBelow 10 → AreKept unit_rules (BreaksUnitRule m units)
  all_pass k = record { kept = λ r p o b. go r p b }
    where
      go : (r : ℕ) (p : Place) → BreaksUnitRule m units r p → ⊥
      go r p (l6 w) = k.kept 6 p (omega arith) (l6 w)
      go r p (l7 w) = k.kept 7 p (omega arith) (l7 w)
      go r p (l8 w) = k.kept 8 p (omega arith) (l8 w)
      go r p (l9 w) = k.kept 9 p (omega arith) (l9 w)

  -- the last test answers for all
  pub last_test : (f : Option Place) (r : Result (Unit {0}) RuleFault) → KeptBelow 9 → IsEarliest (BreaksUnitRule m
      units 9) f → r ≡ kept_rule 9 f → AnswersUnitRules m units r
  last_test f r k h e = go r e
    where
      go : (r : Result (Unit {0}) RuleFault) → r ≡ kept_rule 9 f → AnswersUnitRules m units r
      go (Ok x) e = (record { model = m; units = units }, kept (all_pass (passes_test 9 f x e k h)), refl)
      go (Err x) e = refuses_test {X = Unit {0}} 9 f x (Err x) rule9 k h e refl
