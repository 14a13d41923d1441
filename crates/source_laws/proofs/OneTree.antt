-- The unfolding of models that agree has one answer.
use Rattle.std.proofs.Common.{◌≡◌, ◌↔◌, ℕ, List, length, inl, inr, Result, sym, ap, subst, ◌∙◌}
use Rattle.ar_base.specs.Stages.{Then, Keeps, Fits}
use Rattle.ar_base.specs.declared.counts.Count.TheVariants.{Variables, Events, TreeNodes}
use Rattle.ar_base.specs.declared.faults.RuleFault.{RuleFault}
use Rattle.ar_base.specs.declared.faults.RuleFault.TheVariants.{Limit}
use Rattle.ar_base.specs.declared.places.Place.{Place}
use Rattle.ar_syntax.specs.declared.expressions.RawExpr.{RawExpr}
use Rattle.ar_syntax.specs.declared.expressions.RawForm.{out-RawForm}
use Rattle.ar_syntax.specs.declared.instructions.Instr.{Instr, out-Instr}
use Rattle.ar_syntax.specs.declared.members.Member.{Member, out-Member}
use Rattle.parser_laws.specs.Expressions.{SameExpr, SameInstr}
use Rattle.parser_laws.specs.Members.{SameMember}
use Rattle.parser_laws.specs.Opened.{SameForm, SameStep, SameKind}
use Rattle.hierarchy.specs.Models.{RootedModel}
use Rattle.hierarchy.specs.Units.{UnitPath, Thing}
use Rattle.hierarchy.specs.Walks.{is_variable, is_event}
use Rattle.hierarchy.specs.Listing.{Unfolded, variables, events}
use Rattle.hierarchy.proofs.Lists.{lists_same}
use Rattle.unit_walks.specs.Unfolding.{Unfolds, whole, over}
use Rattle.unit_rules.specs.Sizes.{tree_nodes}
use Rattle.unit_rules.specs.Limits.{variables_counted, events_counted, unfolded_nodes, FitsLimits}
use Rattle.instantiate.specs.Unfolding.{BreaksUnitRule, unit_rules, unit_breaks, Instantiates}
use Rattle.source_laws.specs.Tables.{SameRooted}
use Rattle.source_laws.specs.Answers.{SameAnswer}
use Rattle.source_laws.specs.Units.{SameUnfolded}
use Rattle.source_laws.proofs.Alike.{AreAlike, give, refuse, then_alike, told, fits_alike, keeps_alike}
use Rattle.source_laws.proofs.Firsts.{begins_all, begins_one, within_limits, one_limit}
use Rattle.source_laws.proofs.Leading.{lists_there, things_same, variable_same, event_same}
use Rattle.source_laws.proofs.Settled.{unit_rules_there}
use Rattle.source_laws.proofs.Sizes.{nodes_same}
use Rattle.source_laws.proofs.Turned.{rooted_turned}

module _ (forms : (e f : RawExpr) → SameExpr e f → SameForm (out-RawForm e.form) (out-RawForm f.form))
    (steps : (i j : Instr) → SameInstr i j → SameStep (out-Instr i) (out-Instr j))
    (kinds : (m n : Member) → SameMember m n → SameKind (out-Member m) (out-Member n)) where
  unfolds_alike : (m n : RootedModel) → SameRooted m n → (x y : Result Unfolded RuleFault) → Unfolds m x → Unfolds n y
      → AreAlike SameUnfolded x y
  unfolds_alike m n agree x y (whole l s f) (whole k t g) =
      give (record { model = agree; units = lists_same (lists_there kinds m n agree l) k })
  unfolds_alike m n agree x y (whole l s f) (over k o) =
      absurd (within_limits s f o (begins_all k (lists_there kinds m n agree l)))
  unfolds_alike m n agree x y (over l o) (whole k s f) =
      absurd (within_limits s f o (begins_all (lists_there kinds m n agree l) k))
  unfolds_alike m n agree x y (over {count = c} l o) (over {count = d} k p) =
      refuse (elim (begins_one (lists_there kinds m n agree l) k) [
        | inl b ↦ ap Limit (one_limit o p b)
        | inr b ↦ ap Limit (sym (one_limit p o b))
      ])

  variables_same : (t u : Unfolded) → SameUnfolded t u → variables_counted t ≡ variables_counted u
  variables_same t u s =
      ap (λ (ts : List Thing). length ts)
      (things_same kinds t.model u.model s.model is_variable (λ k l r. variable_same r) t.units)
      ∙ ap (λ (us : List UnitPath). length (variables u.model us)) s.units

  events_same : (t u : Unfolded) → SameUnfolded t u → events_counted t ≡ events_counted u
  events_same t u s =
      ap (λ (ts : List Thing). length ts)
      (things_same kinds t.model u.model s.model is_event (λ k l r. event_same r) t.units)
      ∙ ap (λ (us : List UnitPath). length (events u.model us)) s.units

  all_nodes_same : (t u : Unfolded) → SameUnfolded t u → unfolded_nodes t ≡ unfolded_nodes u
  all_nodes_same t u s =
      nodes_same forms steps kinds t.model u.model s.model t.units
      ∙ ap (λ (us : List UnitPath). tree_nodes u.model us) s.units

  rules_same : (t u : Unfolded) → SameUnfolded t u → (r : ℕ) (p : Place) → (unit_breaks t r p ↔ unit_breaks u r p)
  rules_same t u s r p =
      let back = rooted_turned s.model in (
        λ b. subst (λ (us : List UnitPath). BreaksUnitRule u.model us r p) s.units
            (unit_rules_there kinds t.model u.model s.model back t.units r p b),
        λ b. unit_rules_there kinds u.model t.model back s.model t.units r p
            (subst (λ (us : List UnitPath). BreaksUnitRule u.model us r p) (sym s.units) b),
      )

  limits_alike : (t u : Unfolded) → SameUnfolded t u → (x y : Result Unfolded RuleFault) → FitsLimits t x
      → FitsLimits u y → AreAlike SameUnfolded x y
  limits_alike =
      then_alike SameUnfolded SameUnfolded SameUnfolded (Fits Variables variables_counted)
      (Then (Fits Events events_counted) (Fits TreeNodes unfolded_nodes))
      (fits_alike SameUnfolded Variables variables_counted variables_same)
      (then_alike SameUnfolded SameUnfolded SameUnfolded (Fits Events events_counted) (Fits TreeNodes unfolded_nodes)
      (fits_alike SameUnfolded Events events_counted events_same)
      (fits_alike SameUnfolded TreeNodes unfolded_nodes all_nodes_same))

  -- the stage has one answer
  pub tree_alike : (m n : RootedModel) → SameRooted m n → (x y : Result Unfolded RuleFault) → Instantiates m x
      → Instantiates n y → SameAnswer SameUnfolded x y
  tree_alike m n agree x y h k =
      told SameUnfolded x y
      (then_alike SameRooted SameUnfolded SameUnfolded Unfolds (Then FitsLimits (Keeps unit_rules unit_breaks)) unfolds_alike
      (then_alike SameUnfolded SameUnfolded SameUnfolded FitsLimits (Keeps unit_rules unit_breaks) limits_alike
      (keeps_alike SameUnfolded unit_rules unit_breaks rules_same)) m n agree x y h k)
