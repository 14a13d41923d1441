use Rattle.std.proofs.Common.{◌∙◌, refl, ap, arith}
use Rattle.std.proofs.lemmas.Result.{err_from_is_err_and}
use Rattle.ar_base.proofs.Standing.{stands_some}
use Rattle.gts_core.specs.declared.system.GtsParts.{GtsParts}
use Rattle.gts_flatten.specs.Flat.{naming_of_parts}
use Rattle.cut_text.proofs.Edges.{edges_of_one}
use Rattle.job_stages.proofs.TableLemmas.{table_refused, memory_refused, table_given}
use Rattle.job_stages.proofs.tabling.table_of.Goals as goal

pub equations-requires-clause-few : goal.equations-requires-clause-few
equations-requires-clause-few c = λ tree o.
    let all = c.requires.forest in
    let one = edges_of_one c.args.forest.now.trees.items tree o in omega (arith, all, one)

pub returns-in_err-equations : goal.returns-in_err-equations
returns-in_err-equations c = λ w of e trees.
    let r = err_from_is_err_and c.from_residual.result c.from_residual.ensures.1 in
    table_refused c.args.system.now w c.args.forest.now c.args.wanted of e trees (stands_some _ _ c.requires.observer)
    (c.tables_of_the_source.ensures.table)
    (c.tables_of_the_source.ensures.some c.args.system.now c.parts-parts.ensures.sound)
    _ _ _ r.1 r.2 c.in_err-equations.ensures.gates

pub returns-in_err-events : goal.returns-in_err-events
returns-in_err-events c = λ w of e trees.
    let r = err_from_is_err_and c.from_residual-in_err-events.result c.from_residual-in_err-events.ensures.1 in
    memory_refused c.args.system.now c.args.forest.now w _ _ r.1 r.2

pub returns : goal.returns
returns c = λ w of e trees.
    table_given c.args.system.now w c.args.forest.now c.args.wanted of e trees (stands_some _ _ c.requires.observer)
    (c.tables_of_the_source.ensures.table) c.parts-parts.ensures.sound c.requires.observer _ c.in_ok-equations.ensures.table c.in_ok-equations.ensures.few _
    refl
    (c.in_ok-events.ensures ∙ ap (λ (z : GtsParts). (naming_of_parts z).events) c.parts-parts.ensures.parts)
