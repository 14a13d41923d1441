use Rattle.std.proofs.Common.{Ok, refl}
use Rattle.std.proofs.lemmas.Result.{err_from_is_err_and}
use Rattle.ar_base.specs.Stages.{Then}
use Rattle.ar_base.specs.StagesInside.{rule_told}
use Rattle.ar_base.proofs.Stages.{stage_stops, stage_passes}
use Rattle.gts_flatten.specs.Elaborating.{Flattens}
use Rattle.hierarchy.specs.ModelsInside.{IsKeptTable}
use Rattle.instantiate.specs.Unfolding.{Instantiates}
use Rattle.instantiate.specs.MadeTrees.{IsTreeFor}
use Rattle.source_meaning.specs.Binding.{IsBoundFrom}
use Rattle.source_meaning.specs.Systems.{Binds}
use Rattle.job_stages.specs.Elaborates.{Tables}
use Rattle.job_stages.specs.Passing.{IsFlattened}
use Rattle.job_stages.specs.declared.elaborating.Flattened.{Flattened}
use Rattle.job_stages.proofs.ElaborateLemmas.{declared_of, flattened, last_stops}
use Rattle.job_stages.proofs.elaborating.system_of.Goals as goal

pub returns-in_err-classes : goal.returns-in_err-classes
returns-in_err-classes c =
    let r = err_from_is_err_and c.from_residual.result c.from_residual.ensures.1 in
    stage_stops rule_told (Tables c.args.main.now)
    (Then Instantiates (Then Binds Flattens)) c.args.model IsKeptTable IsFlattened _ _ _ r.1 r.2
    c.in_err-classes.ensures

pub returns-in_err-tree : goal.returns-in_err-tree
returns-in_err-tree c =
    let r = err_from_is_err_and c.from_residual-in_err-tree.result c.from_residual-in_err-tree.ensures.1 in
    let k = c.in_ok-classes.ensures in
    stage_passes rule_told (Tables c.args.main.now)
    (Then Instantiates (Then Binds Flattens)) c.args.model IsKeptTable IsFlattened k.0 _ k.1
    (stage_stops rule_told Instantiates (Then Binds Flattens) k.0 IsTreeFor IsFlattened _ _ _ r.1 r.2
    (c.in_err-tree.ensures k.0 k.2))

pub bind-requires : goal.bind-requires
bind-requires c =
    let k = c.in_ok-classes.ensures in
    let t = c.in_ok-tree.ensures k.0 k.2 in
    record { model = t.0.model; units = t.0.units; is_tree = t.2 }

pub returns-in_err-bound : goal.returns-in_err-bound
returns-in_err-bound c =
    let r = err_from_is_err_and c.from_residual-in_err-bound.result c.from_residual-in_err-bound.ensures.1 in
    let k = c.in_ok-classes.ensures in
    let t = c.in_ok-tree.ensures k.0 k.2 in
    stage_passes rule_told (Tables c.args.main.now)
    (Then Instantiates (Then Binds Flattens)) c.args.model IsKeptTable IsFlattened k.0 _ k.1
    (stage_passes rule_told Instantiates (Then Binds Flattens) k.0 IsTreeFor IsFlattened t.0 _ t.1
    (stage_stops rule_told Binds Flattens t.0 IsBoundFrom IsFlattened _ _ _ r.1 r.2
    (c.in_err-bound.ensures t.0.model t.0.units t.2).meets))

pub flatten-requires : goal.flatten-requires
flatten-requires c =
    let k = c.in_ok-classes.ensures in
    let t = c.in_ok-tree.ensures k.0 k.2 in
    (c.in_ok-bound.ensures t.0.model t.0.units t.2).sound c.in_ok-bound.bound refl

pub returns-in_err-system : goal.returns-in_err-system
returns-in_err-system c =
    let r = err_from_is_err_and c.from_residual-in_err-system.result c.from_residual-in_err-system.ensures.1 in
    let k = c.in_ok-classes.ensures in
    let t = c.in_ok-tree.ensures k.0 k.2 in
    let b = (c.in_ok-bound.ensures t.0.model t.0.units t.2).meets in
    let f = c.in_err-system.ensures t.0.model t.0.units b.0 t.2.table.kept t.2.are_units (declared_of t.0 b.0 b.1)
    b.2 in
    stage_passes rule_told (Tables c.args.main.now)
    (Then Instantiates (Then Binds Flattens)) c.args.model IsKeptTable IsFlattened k.0 _ k.1
    (stage_passes rule_told Instantiates (Then Binds Flattens) k.0 IsTreeFor IsFlattened t.0 _ t.1
    (stage_passes rule_told Binds Flattens t.0 IsBoundFrom IsFlattened b.0 _ b.1
    (last_stops Flattens IsFlattened b.0 _ _ _ r.1 r.2 f)))

pub returns : goal.returns
returns c =
    let k = c.in_ok-classes.ensures in
    let t = c.in_ok-tree.ensures k.0 k.2 in
    let b = (c.in_ok-bound.ensures t.0.model t.0.units t.2).meets in
    let of = declared_of t.0 b.0 b.1 in
    let f = c.in_ok-system.ensures t.0.model t.0.units b.0 t.2.table.kept t.2.are_units of b.2 in
    let made : Flattened = record { tree = c.in_ok-tree.tree; system = c.in_ok-system.system } in
    stage_passes rule_told (Tables c.args.main.now)
    (Then Instantiates (Then Binds Flattens)) c.args.model IsKeptTable IsFlattened k.0 (Ok made) k.1
    (stage_passes rule_told Instantiates (Then Binds Flattens) k.0 IsTreeFor IsFlattened t.0 (Ok made) t.1
    (stage_passes rule_told Binds Flattens t.0 IsBoundFrom IsFlattened b.0 (Ok made) b.1
    (f.0, f.1, flattened t.0 b.0 f.0 _ _ t.2 of f.1 f.2)))
