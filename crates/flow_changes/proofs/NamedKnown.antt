-- What an assignment yields of which every named variable is known.
use Rattle.std.proofs.Common.{◌≡◌, ℕ, inl, inr, Bool, true, false, List, [], ◌∷◌, None, Some, sym, ◌∙◌, subst, arith}
use Rattle.std.specs.List.{list_all}
use Rattle.ar_base.specs.Lists.{Stands, IsOneOf}
use Rattle.ar_base.proofs.Standing.{stands_some, stands_within}
use Rattle.domains.specs.declared.Value.{Value}
use Rattle.domains.proofs.Members.{contains-one}
use Rattle.typed_expr.specs.Yields.{Yields}
use Rattle.typed_expr.specs.declared.expr.Expr.{out-Expr}
use Rattle.typed_expr.proofs.Facts.{yields_more, yields_named}
use Rattle.ar_meaning.specs.Dependence.{Names}
use Rattle.ar_meaning.specs.Facts.{PassesConditions, HasValue}
use Rattle.ar_meaning.specs.Found.{IsAnswer}
use Rattle.ar_meaning.specs.Reached.{YieldsWhereReached}
use Rattle.ar_meaning.proofs.ByNumber as number
use Rattle.ar_meaning.proofs.Dependence.{passes_named}
use Rattle.ar_meaning.proofs.Found.{holds, fails}
use Rattle.ar_meaning.proofs.Least.{passes_more}
use Rattle.gts_core.specs.Readings.{IsTotal, value_in, is_met}
use Rattle.gts_core.specs.Sound.{IsSound, IsAssignTo, kind_of_domain}
use Rattle.gts_core.specs.View.{net_of, assign_of, variable_of}
use Rattle.gts_core.specs.declared.system.Assign.{Assign}
use Rattle.gts_core.specs.declared.system.GtsParts.{GtsParts}
use Rattle.gts_core.proofs.Reading.{passes_answer, yielded_value, value_yielded}
use Rattle.gts_core.proofs.Viewing.{variable_there, are_numbered}
use Rattle.flow_changes.specs.Cone.{Knows}

module _ (p : GtsParts) (sound : IsSound p) (a : Assign) (one : IsOneOf p.assigns.items a) (t : List Value)
    (total : IsTotal p t) (known : List Bool)
    (named : (n : ℕ) → Names (assign_of a) n → Stands known n true) where
  typed : IsAssignTo p false a
  typed = sound.assertions a one

  -- what is known is the value, and the value of what is named is known
  there : (n : ℕ) (v : Value) → Knows t known n v → HasValue (net_of p) t n v
  there n v k =
      let x = stands_some p.variables.items n (let h = stands_within t n v k.value in omega (arith, h, total.long)) in
      number.value_from (net_of p) (are_numbered p) t n (variable_of n x.0) v (variable_there p n x.0 x.1) k.value

  back : (n : ℕ) (v : Value) → Names (assign_of a) n → HasValue (net_of p) t n v → Knows t known n v
  back n v d h = record { marked = named n d; value = number.value_at (net_of p) (are_numbered p) t n v h }

  passes_there : PassesConditions (Knows t known) (assign_of a).conditions
      → PassesConditions (HasValue (net_of p) t) (assign_of a).conditions
  passes_there q = passes_more ℕ (Knows t known) (HasValue (net_of p) t) there q

  passes_back : PassesConditions (HasValue (net_of p) t) (assign_of a).conditions
      → PassesConditions (Knows t known) (assign_of a).conditions
  passes_back q = passes_named (λ x w d h. back x w (inr d) h) q

  yields_there : (v : Value) → Yields (Knows t known) (out-Expr ℕ (assign_of a).value) v
      → Yields (HasValue (net_of p) t) (out-Expr ℕ (assign_of a).value) v
  yields_there v y = yields_more ℕ (Knows t known) (HasValue (net_of p) t) there y

  yields_back : (v : Value) → Yields (HasValue (net_of p) t) (out-Expr ℕ (assign_of a).value) v
      → Yields (Knows t known) (out-Expr ℕ (assign_of a).value) v
  yields_back v y = yields_named (λ x w d h. back x w (inl d) h) y

  met : IsAnswer (list_all (is_met t) a.when.items) (PassesConditions (HasValue (net_of p) t) (assign_of a).conditions)
  met = passes_answer p t total a.when.items typed.conditions

  -- it is not reached
  pub not_met : list_all (is_met t) a.when.items ≡ false → YieldsWhereReached (Knows t known) (assign_of a) None
  not_met e q = fails _ _ e met (passes_there q)

  -- it yields its value alone
  pub yields_value : list_all (is_met t) a.when.items ≡ true → (v : Value) → v ≡ value_in t a.value
      → YieldsWhereReached (Knows t known) (assign_of a) (Some (v ∷ []))
  yields_value e v is = (
    passes_back (holds _ _ e met),
    record {
      sound = λ w c. subst (λ (z : Value). Yields (Knows t known) (out-Expr ℕ (assign_of a).value) z)
          (sym is ∙ contains-one v w c)
          (yields_back (value_in t a.value)
          (value_yielded p t total a.value (kind_of_domain typed.variable.domain) typed.value));
      complete = λ w y.
          let i : w ≡ v = yielded_value p t total a.value (kind_of_domain typed.variable.domain) typed.value w
          (yields_there w y) ∙ sym is in
          (0, omega arith, sym i);
    },
  )
