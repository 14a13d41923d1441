-- Of jobs that stand ready alike the same sets of events meet conflicts, and the same are cuts.
use Rattle.std.proofs.Common.{◌≡◌, ℕ, Option, List, Some, sym, ◌∙◌, subst}
use Rattle.ar_base.specs.Lists.{Stands}
use Rattle.ar_base.proofs.Standing.{stands_one}
use Rattle.ar_firing.specs.Cuts.{Cut, MeetsConflict}
use Rattle.firable_families.specs.Firable.{AndUpTo}
use Rattle.cut_text.proofs.UpToOrder.{has_other}
use Rattle.ar_firing.proofs.ImageCuts.{meets_there, cut_there}
use Rattle.ar_meaning.specs.Image.{Expr_renames}
use Rattle.ar_meaning.specs.ImageInside.{IsImage}
use Rattle.ar_meaning.specs.Systems.{System}
use Rattle.ar_meaning.proofs.ImageFlows.{Partner, partner}
use Rattle.hierarchy.specs.Units.{Thing}
use Rattle.job_inputs.specs.declared.wanting.Wanted.{Wanted}
use Rattle.typed_expr.specs.declared.expr.Expr.{Expr}
use Rattle.altarica_run.specs.Listings.{IsCut}
use Rattle.altarica_run.specs.Nodes.{HasConflict}
use Rattle.job_stages.specs.Stages.{Ready}
use Rattle.job_stages.specs.Tells.{HasCuts}
use Rattle.source_laws.specs.Declarations.{IsSameThing}
use Rattle.job_laws.specs.Ready.{SameReady}

same_some : {A : Type 0} (a b : A) → Some a ≡ Some b → a ≡ b
same_some a b e = cc

module _ (w v : Ready) (same : SameReady w v) where
  abbrev here : System Thing
  here = w.source.system

  abbrev there : System Thing
  there = v.source.system

  abbrev image : IsImage IsSameThing here there
  image = same.source.system

  pub conflict_alike : HasConflict w → HasConflict v
  conflict_alike h = (
    h.0,
    subst (λ (o : Option ℕ). AndUpTo o (MeetsConflict there v.dropped) h.0) same.order
        (has_other w.order (MeetsConflict here w.dropped) (MeetsConflict there v.dropped)
        (λ s m. subst (λ (z : List ℕ). MeetsConflict there z s) same.dropped
        (meets_there IsSameThing here there image w.dropped m)) h.0 h.1),
  )

  module _ (a : HasCuts w) (b : HasCuts v) where
    asked_same : a.wanted ≡ b.wanted
    asked_same = same_some a.wanted b.wanted (sym a.are_wanted ∙ same.wanted ∙ b.are_wanted)

    other : Partner (Expr_renames IsSameThing) there.observers a.wanted.observer a.observed
    other = partner image.observers a.wanted.observer a.observed a.is_observed

    observed_same : other.item ≡ b.observed
    observed_same =
        stands_one there.observers a.wanted.observer other.item b.observed other.stands
        (subst (λ (z : Wanted). Stands there.observers z.observer b.observed) (sym asked_same) b.is_observed)

    one_cut : (set : List ℕ) → Cut here w.dropped a.observed a.wanted.value set
        → Cut there v.dropped b.observed b.wanted.value set
    one_cut set h =
        let over = cut_there IsSameThing here there image w.dropped a.observed other.item other.related
        a.wanted.value set h in
        let without = subst (λ (z : List ℕ). Cut there z other.item a.wanted.value set) same.dropped over in
        let seen = subst (λ (z : Expr Thing). Cut there v.dropped z a.wanted.value set) observed_same without in
        subst (λ (z : Wanted). Cut there v.dropped b.observed z.value set) asked_same seen

    pub cut_alike : (set : List ℕ) → IsCut w a set → IsCut v b set
    cut_alike set h =
        subst (λ (o : Option ℕ). AndUpTo o (Cut there v.dropped b.observed b.wanted.value) set) same.order
        (has_other w.order (Cut here w.dropped a.observed a.wanted.value) (Cut there v.dropped b.observed b.wanted.value)
        one_cut set h)
