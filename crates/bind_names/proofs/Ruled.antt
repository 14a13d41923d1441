-- The rules of names, kinds, values and targets, one after the other.
use Rattle.std.proofs.Common.{◌≡◌, ◌<◌, ◌+◌, ◌⊎◌, inl, inr, ℕ, List, Option, Some, None, Result, Ok, Err, sym, ◌∙◌, ap, subst, arith}
use Rattle.std.proofs.lemmas.Bool.{cases_eq}
use Rattle.ar_base.specs.Breach.{IsBroken, AreKept}
use Rattle.ar_base.specs.Lists.{IsOneOf}
use Rattle.ar_base.specs.declared.faults.RuleFault.{RuleFault}
use Rattle.ar_base.specs.declared.faults.RuleFault.TheVariants.{Rule}
use Rattle.ar_base.specs.declared.places.Place.{Place}
use Rattle.ar_base.proofs.Standing.{one_first, one_rest}
use Rattle.class_table.specs.Earliest.{IsEarliest, nowhere, there}
use Rattle.ar_base.specs.StagesInside.{kept_rule}
use Rattle.class_table.proofs.Answering.{kept_ok, kept_err}
use Rattle.class_table.proofs.FirstPlaces.{earliest_same}
use Rattle.hierarchy.specs.Models.{RootedModel}
use Rattle.hierarchy.specs.Units.{UnitPath}
use Rattle.source_meaning.specs.Rules.{BreaksNaming, BreaksKinds, BreaksValue, BreaksTargets, BreaksNameRule, l10, l11, l12, l13, name_rules}
use Rattle.bind_scopes.specs.Scopes.{AreScopes}
use Rattle.bind_scopes.specs.declared.scopes.Scopes.{Scopes}
use Rattle.bind_names.specs.Values.{AreNamesKept, AreValues, IsValued, values, outside}
use Rattle.bind_names.specs.declared.all_values.Values.{Values}
use Rattle.bind_names.specs.Whole.{KeepsNames, AnswersRules}

pub rule10 : IsOneOf name_rules 10
rule10 = one_first 10 _

pub rule11 : IsOneOf name_rules 11
rule11 = one_rest 10 _ 11 (one_first 11 _)

pub rule12 : IsOneOf name_rules 12
rule12 = one_rest 10 _ 12 (one_rest 11 _ 12 (one_first 12 _))

pub rule13 : IsOneOf name_rules 13
rule13 = one_rest 10 _ 13 (one_rest 11 _ 13 (one_rest 12 _ 13 (one_first 13 _)))

module _ (m : RootedModel) (units : List UnitPath) where
  -- the rules below this number are kept
  pub record KeptBelow (n : ℕ) : Type 0 where
    pub kept : (r : ℕ) (p : Place) → r < n → BreaksNameRule m units r p → ⊥

  -- the tests, by their rules
  pub naming : (f : Option Place) → IsEarliest (BreaksNaming m units) f → IsEarliest (BreaksNameRule m units 10) f
  naming f h = earliest_same f (λ p w. l10 w) (λ p b. back p b) h
    where
      back : (p : Place) → BreaksNameRule m units 10 p → BreaksNaming m units p
      back p (l10 w) = w

  pub kinds : (f : Option Place) → IsEarliest (BreaksKinds m units) f → IsEarliest (BreaksNameRule m units 11) f
  kinds f h = earliest_same f (λ p w. l11 w) (λ p b. back p b) h
    where
      back : (p : Place) → BreaksNameRule m units 11 p → BreaksKinds m units p
      back p (l11 w) = w

  pub valuing : (f : Option Place) → IsEarliest (BreaksValue m units) f → IsEarliest (BreaksNameRule m units 12) f
  valuing f h = earliest_same f (λ p w. l12 w) (λ p b. back p b) h
    where
      back : (p : Place) → BreaksNameRule m units 12 p → BreaksValue m units p
      back p (l12 w) = w

  pub targets : (f : Option Place) → IsEarliest (BreaksTargets m units) f → IsEarliest (BreaksNameRule m units 13) f
  targets f h = earliest_same f (λ p w. l13 w) (λ p b. back p b) h
    where
      back : (p : Place) → BreaksNameRule m units 13 p → BreaksTargets m units p
      back p (l13 w) = w

  pub below_first : KeptBelow 10
  below_first = record { kept = λ r p l b. go r p l b }
    where
      go : (r : ℕ) (p : Place) → r < 10 → BreaksNameRule m units r p → ⊥
      go r p l (l10 w) = omega (arith, l)
      go r p l (l11 w) = omega (arith, l)
      go r p l (l12 w) = omega (arith, l)
      go r p l (l13 w) = omega (arith, l)

  -- a test that finds nothing
  none_here : (n : ℕ) → IsEarliest (BreaksNameRule m units n) None → (p : Place) → BreaksNameRule m units n p → ⊥
  none_here n (nowhere w) p b = w p b

  next_below : (n : ℕ) → KeptBelow n → IsEarliest (BreaksNameRule m units n) None → KeptBelow (n + 1)
  next_below n k h = record { kept = λ r p l b. go r p l b (cases_eq r n) }
    where
      go : (r : ℕ) (p : Place) → r < n + 1 → BreaksNameRule m units r p → (r ≡ n) ⊎ (r ≡ n → ⊥) → ⊥
      go r p l b (inl q) = none_here n h p (subst (λ (s : ℕ). BreaksNameRule m units s p) q b)
      go r p l b (inr q) = k.kept r p (omega (arith, l, q)) b

  passes_test : (n : ℕ) (f : Option Place) (x : Unit {0}) → Ok x ≡ kept_rule n f → KeptBelow n
      → IsEarliest (BreaksNameRule m units n) f → KeptBelow (n + 1)
  passes_test n f x e k h = next_below n k (subst (IsEarliest (BreaksNameRule m units n)) (kept_ok n f x e) h)

  pub passes10 : (f : Option Place) (x : Unit {0}) → Ok x ≡ kept_rule 10 f → IsEarliest (BreaksNaming m units) f
      → KeptBelow 11
  passes10 f x e h = passes_test 10 f x e below_first (naming f h)

  pub passes11 : (f : Option Place) (x : Unit {0}) → Ok x ≡ kept_rule 11 f → KeptBelow 11
      → IsEarliest (BreaksKinds m units) f → KeptBelow 12
  passes11 f x e k h = passes_test 11 f x e k (kinds f h)

  pub passes13 : (f : Option Place) (x : Unit {0}) → Ok x ≡ kept_rule 13 f → KeptBelow 13
      → IsEarliest (BreaksTargets m units) f → KeptBelow 14
  passes13 f x e k h = passes_test 13 f x e k (targets f h)

  -- a test that finds a place
  broken_there : (n : ℕ) (p : Place) → IsOneOf name_rules n → KeptBelow n → IsEarliest (BreaksNameRule m units n) (Some
      p) → IsBroken name_rules (BreaksNameRule m units) n p
  broken_there n p o k (there b none) = record {
    is_one = o;
    breaks_there = b;
    no_lesser = λ s q i l c. k.kept s q l c;
    no_earlier = none;
  }

  pub refuses_test : (scopes : Scopes) (n : ℕ) (f : Option Place) (x : RuleFault) (r : Result Values RuleFault)
      → IsOneOf name_rules n → KeptBelow n → IsEarliest (BreaksNameRule m units n) f → Err x ≡ kept_rule n f → r ≡ Err x
      → AnswersRules m units scopes r
  refuses_test scopes n f x r o k h e i =
      let w = kept_err n f x e in
      subst (λ (z : Result Values RuleFault). AnswersRules m units scopes z) (sym (i ∙ ap Err w.2))
      (broken_there n w.0 o k (subst (IsEarliest (BreaksNameRule m units n)) w.1 h))

  -- names and kinds are right where the first two rules are kept
  pub names_kept : (n : ℕ) → 11 < n → KeptBelow n → AreNamesKept m units
  names_kept n l k = record {
    naming = λ p b. k.kept 10 p (omega (arith, l)) (l10 b);
    kinds = λ p b. k.kept 11 p (omega (arith, l)) (l11 b);
  }

  -- all of them are kept
  pub all_kept : KeptBelow 14 → AreKept name_rules (BreaksNameRule m units)
  all_kept k = record { kept = λ r p o b. go r p b }
    where
      go : (r : ℕ) (p : Place) → BreaksNameRule m units r p → ⊥
      go r p (l10 w) = k.kept 10 p (omega arith) (l10 w)
      go r p (l11 w) = k.kept 11 p (omega arith) (l11 w)
      go r p (l12 w) = k.kept 12 p (omega arith) (l12 w)
      go r p (l13 w) = k.kept 13 p (omega arith) (l13 w)

  module _ (scopes : Scopes) where
    -- the values, or the place of one that is outside its domain
    valued_right : (vs : Values) → IsValued m units scopes.tree.now (Ok vs)
        → AreValues m units scopes.tree.now vs × IsEarliest (BreaksValue m units) None
    valued_right vs (values h none) = (h, none)

    valued_outside : (p : Place) → IsValued m units scopes.tree.now (Err p) → IsEarliest (BreaksValue m units) (Some p)
    valued_outside p (outside h) = h

    pub outside_told : (p : Place) → KeptBelow 12 → IsValued m units scopes.tree.now (Err p)
        → AnswersRules m units scopes (Err (Rule 12 p))
    outside_told p k h = broken_there 12 p rule12 k (valuing (Some p) (valued_outside p h))

    pub values_pass : (vs : Values) → KeptBelow 12 → IsValued m units scopes.tree.now (Ok vs) → KeptBelow 13
    values_pass vs k h = next_below 12 k (valuing None (valued_right vs h).1)

    pub keeps_names : (vs : Values) → AreScopes m units scopes → IsValued m units scopes.tree.now (Ok vs) → KeptBelow 14
        → KeepsNames m units scopes vs
    keeps_names vs are h k = record {
      settled = record {
        are = are;
        names = names_kept 14 (omega arith) k;
        targets = λ p b. k.kept 13 p (omega arith) (l13 b);
        values = (valued_right vs h).0;
      };
      kept = all_kept k;
    }
