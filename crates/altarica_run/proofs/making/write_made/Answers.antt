use Rattle.std.proofs.lemmas.Result.{err_from_is_err_and}
use Rattle.gate_diagrams.specs.declared.answer.Drawn.TheVariants.{Cuts}
use Rattle.table_laws.specs.Drawn.{sets_of}
use Rattle.cut_text.specs.declared.faults.PrintFault.TheVariants as print
use Rattle.job_stages.specs.Tells.{Tells}
use Rattle.job_stages.specs.declared.status.Status.TheVariants.{Done}
use Rattle.job_stages.proofs.CutLemmas.{are_drawn, few_counted, make_told, none_printed, printed_partly, printed_whole}
use Rattle.job_stages.proofs.LineLemmas.{made_text}
use Rattle.altarica_run.proofs.making.write_made.Goals as goal

pub counts-requires : goal.counts-requires
counts-requires g c = record { root = c.requires.drawn.3.answer.1 }

pub returns-in_err-counted : goal.returns-in_err-counted
returns-in_err-counted g c = λ asked w trees drawn e all same.
    let r = err_from_is_err_and c.from_residual.result c.from_residual.ensures.1 in
    none_printed (Tells asked w) _ _ r.1 r.2

pub returns-in_err-put_made : goal.returns-in_err-put_made
returns-in_err-put_made g c = λ asked w trees drawn e all same.
    let r = err_from_is_err_and c.from_residual-in_err-put_made.result c.from_residual-in_err-put_made.ensures.1 in
    let p = c.args.system.now in
    let f = c.args.family.now in
    let sound = c.parts-parts.ensures.sound in
    let d = are_drawn w p trees drawn.table drawn.gates (c.lawful_systems.ensures.net p sound)
    (λ o h. c.lawful_systems.ensures.observers p o sound h)
    (c.drawn_sets.ensures.meant_up_to w.order) (Cuts f) drawn.answer in
    let few = few_counted c.store_laws.ensures.stored_sections c.store_laws.ensures.room_for_families f.store f.root.n asked.job.nodes
    c.len-sound_store.ensures.sound drawn.answer.1 drawn.within in
    let t = make_told w p trees drawn.table drawn.gates asked e all c.args.number same (sets_of f) _ d.0 d.1
    (made_text c.parts-parts.ensures.parts c.args.number c.in_ok-counted.ensures.sets
    c.in_ok-counted.ensures.largest) few in
    printed_partly (Tells asked w) _ Done t print.Write c.in_err-put_made.ensures _ _ r.1 r.2

pub returns : goal.returns
returns g c = λ asked w trees drawn e all same.
    let p = c.args.system.now in
    let f = c.args.family.now in
    let sound = c.parts-parts.ensures.sound in
    let d = are_drawn w p trees drawn.table drawn.gates (c.lawful_systems.ensures.net p sound)
    (λ o h. c.lawful_systems.ensures.observers p o sound h)
    (c.drawn_sets.ensures.meant_up_to w.order) (Cuts f) drawn.answer in
    let few = few_counted c.store_laws.ensures.stored_sections c.store_laws.ensures.room_for_families f.store f.root.n asked.job.nodes
    c.len-sound_store.ensures.sound drawn.answer.1 drawn.within in
    let t = make_told w p trees drawn.table drawn.gates asked e all c.args.number same (sets_of f) _ d.0 d.1
    (made_text c.parts-parts.ensures.parts c.args.number c.in_ok-counted.ensures.sets
    c.in_ok-counted.ensures.largest) few in
    printed_whole (Tells asked w) _ Done t tt c.in_ok-put_made.ensures
