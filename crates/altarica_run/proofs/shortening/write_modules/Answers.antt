use Rattle.std.proofs.lemmas.Result.{err_from_is_err_and}
use Rattle.gate_diagrams.specs.declared.answer.Drawn.TheVariants.{Cuts}
use Rattle.table_laws.specs.Drawn.{sets_of}
use Rattle.job_stages.specs.Tells.{Tells}
use Rattle.job_stages.specs.declared.status.Status.TheVariants.{Done}
use Rattle.job_stages.proofs.CutLemmas.{forest_is, table, observed, source_observer, renamed, are_drawn, few_counted, listed_all, short_told, none_printed, printed_partly, printed_whole}
use Rattle.altarica_run.proofs.shortening.write_modules.Goals as goal

pub shorten-requires-clause-root : goal.shorten-requires-clause-root
shorten-requires-clause-root g c = c.requires.drawn.2.answer.1

pub print_modules-requires : goal.print_modules-requires
print_modules-requires g c = c.requires.drawn.2.gates.forest.own

pub returns-in_err-short : goal.returns-in_err-short
returns-in_err-short g c = λ asked w drawn of e all.
    let r = err_from_is_err_and c.from_residual.result c.from_residual.ensures.1 in
    none_printed (Tells asked w) _ _ r.1 r.2

pub returns-in_err-print_modules : goal.returns-in_err-print_modules
returns-in_err-print_modules g c = λ asked w drawn of e all.
    let r = err_from_is_err_and c.from_residual-in_err-print_modules.result
    c.from_residual-in_err-print_modules.ensures.1 in
    let p = c.args.system.now in
    let f = c.args.family.now in
    let trees = c.args.forest.now in
    let gates = drawn.table in
    let is = drawn.gates in
    let sound = c.parts-sound_parts.ensures.sound in
    let kinds = c.lawful_systems.ensures.net p sound in
    let d = are_drawn w p trees gates is kinds (λ o h. c.lawful_systems.ensures.observers p o sound h)
    (c.drawn_sets.ensures.meant_up_to w.order) (Cuts f) drawn.answer in
    let forest = forest_is w p trees gates is in
    let o = source_observer w p trees gates is in
    let q = renamed w p trees gates is in
    let t = table w p trees gates is in
    let few = few_counted c.store_laws.ensures.stored_sections c.store_laws.ensures.room_for_families f.store f.root.n asked.job.nodes
    c.len-sound_store.ensures.sound drawn.answer.1 drawn.within in
    let told = short_told w p trees gates is asked e all (sets_of f) _ d.0 d.1
    (c.modules_of_the_source.ensures w.source p is.flat.flat w.dropped trees forest o (observed w p trees gates is)
    q t.wanted.value (sets_of f) (listed_all w p trees gates is all (sets_of f) d.1) c.args.ranges.now of c.in_ok-short.short c.in_ok-short.ensures.short)
    few in
    printed_partly (Tells asked w) _ Done told _ c.in_err-print_modules.ensures _ _ r.1 r.2

pub returns : goal.returns
returns g c = λ asked w drawn of e all.
    let p = c.args.system.now in
    let f = c.args.family.now in
    let trees = c.args.forest.now in
    let gates = drawn.table in
    let is = drawn.gates in
    let sound = c.parts-sound_parts.ensures.sound in
    let kinds = c.lawful_systems.ensures.net p sound in
    let d = are_drawn w p trees gates is kinds (λ o h. c.lawful_systems.ensures.observers p o sound h)
    (c.drawn_sets.ensures.meant_up_to w.order) (Cuts f) drawn.answer in
    let forest = forest_is w p trees gates is in
    let o = source_observer w p trees gates is in
    let q = renamed w p trees gates is in
    let t = table w p trees gates is in
    let few = few_counted c.store_laws.ensures.stored_sections c.store_laws.ensures.room_for_families f.store f.root.n asked.job.nodes
    c.len-sound_store.ensures.sound drawn.answer.1 drawn.within in
    let told = short_told w p trees gates is asked e all (sets_of f) _ d.0 d.1
    (c.modules_of_the_source.ensures w.source p is.flat.flat w.dropped trees forest o (observed w p trees gates is)
    q t.wanted.value (sets_of f) (listed_all w p trees gates is all (sets_of f) d.1) c.args.ranges.now of c.in_ok-short.short c.in_ok-short.ensures.short)
    few in
    printed_whole (Tells asked w) _ Done told tt c.in_ok-print_modules.ensures
