use Rattle.std.proofs.Common.{◌≤◌, length, refl, ap, arith}
use Rattle.std.proofs.lemmas.Result.{err_from_is_err_and}
use Rattle.run_words.specs.Commands.{shape_of, is_script, is_list}
use Rattle.run_words.specs.declared.verbs.Verb.{Verb}
use Rattle.job_stages.specs.Stages.{bare, is_static, has_table}
use Rattle.job_stages.specs.Telling.{written}
use Rattle.altarica_run.proofs.CommandLemmas.{elaborate_stops, done, forest_here, dropped_stops, fragment_stops, fragment_ready}
use Rattle.job_stages.proofs.PassLemmas.{few_events}
use Rattle.job_stages.proofs.TellLemmas.{forest_told}
use Rattle.altarica_run.proofs.commands.fragment.Goals as goal

pub elaborate-requires : goal.elaborate-requires
elaborate-requires g c = c.requires.given.model

pub returns-in_err-model : goal.returns-in_err-model
returns-in_err-model g c =
    let r = err_from_is_err_and c.from_residual.result c.from_residual.ensures.1 in
    elaborate_stops c.args.asked.now c.args.texts _ _ _ _ r.1 r.2 c.in_err-model.ensures

pub dropped_of-requires : goal.dropped_of-requires
dropped_of-requires g c = let f = c.in_ok-model.ensures in (f.0, f.2)

pub returns-in_err-dropped : goal.returns-in_err-dropped
returns-in_err-dropped g c =
    let r = err_from_is_err_and c.from_residual-in_err-dropped.result c.from_residual-in_err-dropped.ensures.1 in
    let asked = c.args.asked.now in
    let t = c.args.texts in
    let e = c.requires.command in
    let script = ap (λ (v : Verb). is_script (shape_of v).files) e in
    let list = ap (λ (v : Verb). is_list (shape_of v).files) e in
    let static = ap is_static e in
    let table = ap has_table e in
    let explains = ap (λ (v : Verb). (shape_of v).explains) e in
    let f = c.in_ok-model.ensures in
    dropped_stops asked t f.0 f.1 script list static table explains _ _ _ _ r.1 r.2 (c.in_err-dropped.ensures f.0 f.2)

pub forest_of-requires : goal.forest_of-requires
forest_of-requires g c =
    let f = c.in_ok-model.ensures in
    rw c.deref.ensures.value (c.in_ok-dropped.ensures f.0 f.2).2.inside

pub returns-in_err-forest : goal.returns-in_err-forest
returns-in_err-forest g c =
    let r = err_from_is_err_and c.from_residual-in_err-forest.result c.from_residual-in_err-forest.ensures.1 in
    let asked = c.args.asked.now in
    let t = c.args.texts in
    let e = c.requires.command in
    let script = ap (λ (v : Verb). is_script (shape_of v).files) e in
    let list = ap (λ (v : Verb). is_list (shape_of v).files) e in
    let static = ap is_static e in
    let table = ap has_table e in
    let explains = ap (λ (v : Verb). (shape_of v).explains) e in
    let f = c.in_ok-model.ensures in
    let k = c.in_ok-dropped.ensures f.0 f.2 in
    let w = record (bare c.args.asked.now.order f.0) { dropped = k.0 } in
    let h = rw c.deref.ensures.value at c.in_err-forest.ensures w f.2.flat in
    fragment_stops asked t f.0 f.1 script list static table explains k.0 k.1 _ _ _ _ r.1 r.2 (h k.2.are refl)

pub print_forest-requires-clause-inside : goal.print_forest-requires-clause-inside
print_forest-requires-clause-inside g c =
    let f = c.in_ok-model.ensures in
    let k = c.in_ok-dropped.ensures f.0 f.2 in
    let w = record (bare c.args.asked.now.order f.0) { dropped = k.0 } in
    let h = rw c.deref.ensures.value at c.in_ok-forest.ensures w f.2.flat in
    (h k.2.are refl).2.own

pub print_forest-requires-clause-few : goal.print_forest-requires-clause-few
print_forest-requires-clause-few g c =
    let f = c.in_ok-model.ensures in
    let k = c.in_ok-dropped.ensures f.0 f.2 in
    let w = record (bare c.args.asked.now.order f.0) { dropped = k.0 } in
    let h = rw c.deref.ensures.value at c.in_ok-forest.ensures w f.2.flat in
    let few = (h k.2.are refl).2.few in
    let most : length c.in_ok-model.model.system.events.items ≤ 16384 = few_events f.0 c.in_ok-model.model f.2 in
    omega (arith, few, most)

pub returns : goal.returns
returns g c =
    let asked = c.args.asked.now in
    let t = c.args.texts in
    let e = c.requires.command in
    let script = ap (λ (v : Verb). is_script (shape_of v).files) e in
    let list = ap (λ (v : Verb). is_list (shape_of v).files) e in
    let static = ap is_static e in
    let table = ap has_table e in
    let explains = ap (λ (v : Verb). (shape_of v).explains) e in
    let f = c.in_ok-model.ensures in
    let k = c.in_ok-dropped.ensures f.0 f.2 in
    let p = c.in_ok-model.model.system in
    let forest = c.in_ok-forest.forest in
    let w = record (bare c.args.asked.now.order f.0) { dropped = k.0 } in
    let is = f.2.flat in
    let h = rw c.deref.ensures.value at c.in_ok-forest.ensures w is in
    let trees = forest_here p w forest (h k.2.are refl) in
    let text = c.forests_of_the_source.ensures.text f.0 p is.flat is is.views asked.order k.0 forest (trees.1.keeps is.flat is.views)
    (trees.1.is_forest is.flat is.views) trees.1.own in
    done asked t f.0 f.1 w _ (fragment_ready asked t f.0 f.1 script list static table explains k.0 k.1 trees.0)
    (written (forest_told asked w p is forest e text _ _ c.written.ensures c.print_forest.ensures))
