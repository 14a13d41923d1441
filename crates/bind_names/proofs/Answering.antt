-- What the binding of a tree answers.
use Rattle.std.proofs.Common.{◌≡◌, List, Result, Ok, Err, refl, sym, ◌∙◌, ap, subst}
use Rattle.ar_base.specs.Stages.{refuses, passes, kept, broken}
use Rattle.ar_base.specs.declared.faults.RuleFault.{RuleFault}
use Rattle.ar_base.specs.declared.faults.RuleFault.TheVariants.{Rule, Limit, Memory}
use Rattle.hierarchy.specs.Models.{RootedModel}
use Rattle.hierarchy.specs.Units.{UnitPath}
use Rattle.hierarchy.specs.Listing.{Unfolded}
use Rattle.source_meaning.specs.Binding.{BindsTo}
use Rattle.source_meaning.specs.SoundBound.{IsSoundBound}
use Rattle.source_meaning.specs.Systems.{declares}
use Rattle.source_meaning.specs.declared.bound.Bound.{Bound}
use Rattle.bind_scopes.specs.declared.scopes.Scopes.{Scopes}
use Rattle.bind_names.specs.declared.all_values.Values.{Values}
use Rattle.bind_names.specs.Whole.{KeepsNames, AnswersRules, IsBoundOf}

module _ (m : RootedModel) (units : List UnitPath) where
  -- the model with its units
  abbrev tree : Unfolded
  tree = record { model = m; units = units }

  -- there is no memory
  pub memory_refuses : (r : Result Bound RuleFault) (d : RuleFault) → r ≡ Err d → d ≡ Memory → BindsTo tree r
  memory_refuses r d i j = subst (λ (z : Result Bound RuleFault). BindsTo tree z) (sym (i ∙ ap Err j))
      (record { meets = tt; no_limit = λ c q. cc; sound = λ b q. cc })

  module _ (scopes : Scopes) where
    -- the rules refuse
    pub rules_refuse : (r : Result Bound RuleFault) (d e : RuleFault) → r ≡ Err d → d ≡ e
        → AnswersRules m units scopes (Err e) → BindsTo tree r
    rules_refuse r d e i j h = subst (λ (z : Result Bound RuleFault). BindsTo tree z) (sym (i ∙ ap Err j)) (go e h)
      where
        go : (e : RuleFault) → AnswersRules m units scopes (Err e) → BindsTo tree (Err e)
        go (Rule n p) h = record { meets = refuses (broken h); no_limit = λ c q. cc; sound = λ b q. cc }
        go (Limit count) h = absurd h
        go Memory h = memory_refuses (Err Memory) Memory refl refl

    -- the bound forms
    pub bound_told : (values : Values) (b : Bound) → KeepsNames m units scopes values → IsBoundOf m units b
        → BindsTo tree (Ok b)
    bound_told values b k w = record {
      meets = (w.declarations, passes tree (kept k.kept) (declares w.are), w.bound);
      no_limit = λ c q. cc;
      sound = λ c q. let e : b ≡ c = cc in subst IsSoundBound e w.sound;
    }
