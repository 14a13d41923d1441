use Rattle.std.proofs.Common.{◌≡◌, Err, sym, ◌∙◌, ap, List}
use Rattle.std.proofs.lemmas.Result.{err_from_is_err_and}
use Rattle.ar_base.specs.Stages.{Then, Fits, fits}
use Rattle.ar_base.specs.StagesInside.{rule_told}
use Rattle.ar_base.specs.declared.counts.Count.TheVariants.{Variables, Events, TreeNodes}
use Rattle.ar_base.proofs.Stages.{stage_stops, stage_passes}
use Rattle.hierarchy.specs.Models.{RootedModel}
use Rattle.hierarchy.specs.Units.{UnitPath}
use Rattle.hierarchy.specs.Listing.{Unfolded}
use Rattle.hierarchy.specs.Walks.{is_variable, is_event}
use Rattle.unit_rules.specs.Counting.{capped}
use Rattle.unit_rules.specs.Limits.{variables_counted, events_counted, unfolded_nodes}
use Rattle.unit_rules.proofs.Limited.{things_named, within_limit}
use Rattle.unit_rules.proofs.limits.fit.Goals as goal

-- the model with its units
abbrev tree : RootedModel → List UnitPath → Unfolded
tree m units = record { model = m; units = units }

pub returns-in_err-within : goal.returns-in_err-within
returns-in_err-within c = λ m units h.
    let p = err_from_is_err_and c.from_residual-in_err-within.result c.from_residual-in_err-within.ensures.1 in
    let v = (c.in_ok-counts.ensures m units h).variables ∙ ap capped (sym (things_named is_variable m units)) in
    stage_stops {X = Unit {0}} rule_told (Fits Variables variables_counted)
    (Then (Fits Events events_counted) (Fits TreeNodes unfolded_nodes)) (tree m units) (λ u x. u ≡ tree m units)
    (λ u x. u ≡ tree m units) _ _ _ p.1 p.2
    (within_limit {X = Unit {0}} Variables variables_counted (tree m units) (Err _)
    (c.in_err-within.ensures (variables_counted (tree m units)) v))

pub returns-in_err-within-2 : goal.returns-in_err-within-2
returns-in_err-within-2 c = λ m units h.
    let p = err_from_is_err_and c.from_residual-in_err-within-2.result c.from_residual-in_err-within-2.ensures.1 in
    let v = (c.in_ok-counts.ensures m units h).variables ∙ ap capped (sym (things_named is_variable m units)) in
    let e = (c.in_ok-counts.ensures m units h).events ∙ ap capped (sym (things_named is_event m units)) in
    stage_passes {X = Unit {0}} rule_told (Fits Variables variables_counted)
    (Then (Fits Events events_counted) (Fits TreeNodes unfolded_nodes)) (tree m units) (λ u x. u ≡ tree m units)
    (λ u x. u ≡ tree m units) (tree m units) _
    (fits (c.in_ok-within.ensures (variables_counted (tree m units)) v))
    (stage_stops {X = Unit {0}} rule_told (Fits Events events_counted) (Fits TreeNodes unfolded_nodes) (tree m units)
    (λ u x. u ≡ tree m units) (λ u x. u ≡ tree m units) _ _ _ p.1 p.2
    (within_limit {X = Unit {0}} Events events_counted (tree m units) (Err _)
    (c.in_err-within-2.ensures (events_counted (tree m units)) e)))

pub returns : goal.returns
returns c = λ m units h.
    let v = (c.in_ok-counts.ensures m units h).variables ∙ ap capped (sym (things_named is_variable m units)) in
    let e = (c.in_ok-counts.ensures m units h).events ∙ ap capped (sym (things_named is_event m units)) in
    stage_passes {X = Unit {0}} rule_told (Fits Variables variables_counted)
    (Then (Fits Events events_counted) (Fits TreeNodes unfolded_nodes)) (tree m units) (λ u x. u ≡ tree m units)
    (λ u x. u ≡ tree m units) (tree m units) _
    (fits (c.in_ok-within.ensures (variables_counted (tree m units)) v))
    (stage_passes {X = Unit {0}} rule_told (Fits Events events_counted) (Fits TreeNodes unfolded_nodes) (tree m units)
    (λ u x. u ≡ tree m units) (λ u x. u ≡ tree m units) (tree m units) _
    (fits (c.in_ok-within-2.ensures (events_counted (tree m units)) e))
    (within_limit {X = Unit {0}} TreeNodes unfolded_nodes (tree m units) _
    (c.within-3.ensures (unfolded_nodes (tree m units)) (c.in_ok-counts.ensures m units h).nodes_are)))
