use Rattle.std.proofs.Common.{◌∙◌, ℕ, Option, List, ap, sym, subst}
use Rattle.ar_meaning.specs.Systems.{System}
use Rattle.gts_core.specs.View.{Views}
use Rattle.gts_core.specs.declared.system.GtsParts.{GtsParts}
use Rattle.mode_trees.specs.Views.{trees_of, number_in}
use Rattle.static_fragment.specs.Recognised.{IsRecognisedUpTo, IsRefusedUpTo, spot_of}
use Rattle.static_fragment.specs.declared.faults.FragmentFault.{FragmentFault}
use Rattle.job_stages.specs.Spots.{path_in}
use Rattle.job_stages.proofs.ForestLemmas.{forest_given, outside_given}
use Rattle.job_stages.proofs.analysing.forest_of.Goals as goal

pub returns-in-Ok : goal.returns-in-Ok
returns-in-Ok c = λ w of e same.
    let p = c.args.system.now in
    let f = c.in-Ok.forest in
    let all : (system : System ℕ) → Views p system
    → IsRecognisedUpTo w.order system w.dropped (trees_of (number_in p) f) =
    λ system views. subst (λ (o : Option ℕ). IsRecognisedUpTo o system w.dropped (trees_of (number_in p) f)) (sym same)
    (subst (λ (d : List ℕ). IsRecognisedUpTo c.args.order system d (trees_of (number_in p) f)) (sym e)
    (c.in-Ok.ensures.ok system views)) in
    let own = all of.flat of.views in
    forest_given w p of f all c.in-Ok.ensures.ways
    (c.forests_of_the_source.ensures.few p of.flat of.views w.order w.dropped f own.keeps own.forest)

pub returns-in_ok-path-in-Err-Outside : goal.returns-in_ok-path-in-Err-Outside
returns-in_ok-path-in-Err-Outside c = λ w of e same.
    let p = c.args.system.now in
    let spot = c.in-Err-Outside.spot in
    let refused = subst (λ (d : List ℕ). IsRefusedUpTo c.args.order of.flat d c.in-Err-Outside.field-0) (sym e)
    (c.in-Err-Outside.ensures.outside of.flat of.views) in
    let asked = subst (λ (o : Option ℕ). IsRefusedUpTo o of.flat w.dropped c.in-Err-Outside.field-0) (sym same) refused in
    let shown = subst (λ (z : FragmentFault). IsRefusedUpTo w.order of.flat w.dropped z) c.in-Err-Outside.field-0-is asked in
    outside_given w p of c.in-Err-Outside.rule c.in_ok-path-in-Err-Outside.path spot shown
    (c.in_ok-path-in-Err-Outside.ensures ∙ ap (λ (z : GtsParts). path_in z (spot_of spot)) c.parts.ensures.parts)
