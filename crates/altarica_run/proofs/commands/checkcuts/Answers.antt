use Rattle.std.proofs.Common.{◌≡◌, refl, ap, arith}
use Rattle.std.proofs.lemmas.Result.{err_from_is_err_and}
use Rattle.run_words.specs.Commands.{shape_of, is_script, is_list, is_made}
use Rattle.run_words.specs.CommandsInside.{is_second}
use Rattle.run_words.specs.declared.verbs.Verb.{Verb}
use Rattle.job_stages.specs.Stages.{Ready, has_table, lists_cuts}
use Rattle.altarica_run.proofs.CommandLemmas.{checked_there, drawn_there, drawn_told, elaborate_stops, forest_here, forest_stops, lines_given, lines_stop, lines_there, nodes_told, request_stops, table_stops, tabled}
use Rattle.altarica_run.proofs.commands.checkcuts.Goals as goal

pub elaborate-requires : goal.elaborate-requires
elaborate-requires g c = c.requires.given.model

pub returns-in_err-model : goal.returns-in_err-model
returns-in_err-model g c =
    let r = err_from_is_err_and c.from_residual.result c.from_residual.ensures.1 in
    elaborate_stops c.args.asked.now c.args.texts _ _ _ _ r.1 r.2 c.in_err-model.ensures

pub chains_of-requires-clause-source : goal.chains_of-requires-clause-source
chains_of-requires-clause-source g c = let f = c.in_ok-model.ensures in (f.0, f.2)

pub chains_of-requires-clause-there : goal.chains_of-requires-clause-there
chains_of-requires-clause-there g c =
    c.requires.given.second (ap (λ (v : Verb). is_second (shape_of v).files) c.requires.command)

pub returns-in_err-chains : goal.returns-in_err-chains
returns-in_err-chains g c =
    let r = err_from_is_err_and c.from_residual-in_err-chains.result c.from_residual-in_err-chains.ensures.1 in
    let asked = c.args.asked.now in
    let t = c.args.texts in
    let e = c.requires.command in
    let table = ap has_table e in
    let script = ap (λ (v : Verb). is_script (shape_of v).files) e in
    let list = ap (λ (v : Verb). is_list (shape_of v).files) e in
    let made = ap (λ (v : Verb). is_made (shape_of v).files) e in
    let f = c.in_ok-model.ensures in
    lines_stop asked t f.0 f.1 table script list made _ _ _ _ r.1 r.2 (c.in_err-chains.ensures f.0 f.2)

pub request_of-requires-clause-source : goal.request_of-requires-clause-source
request_of-requires-clause-source g c = let f = c.in_ok-model.ensures in (f.0, f.2)

pub request_of-requires-clause-command : goal.request_of-requires-clause-command
request_of-requires-clause-command g c = ap has_table c.requires.command

pub request_of-requires-clause-observer : goal.request_of-requires-clause-observer
request_of-requires-clause-observer g c = c.requires.given.observer (ap has_table c.requires.command)

pub returns-in_err-request : goal.returns-in_err-request
returns-in_err-request g c =
    let r = err_from_is_err_and c.from_residual-in_err-request.result c.from_residual-in_err-request.ensures.1 in
    let asked = c.args.asked.now in
    let t = c.args.texts in
    let e = c.requires.command in
    let table = ap has_table e in
    let script = ap (λ (v : Verb). is_script (shape_of v).files) e in
    let list = ap (λ (v : Verb). is_list (shape_of v).files) e in
    let made = ap (λ (v : Verb). is_made (shape_of v).files) e in
    let f = c.in_ok-model.ensures in
    let cuts = c.in_ok-chains.ensures f.0 f.2 in
    let second = lines_given asked t f.0 f.1 table script list made cuts.0 cuts.1 in
    request_stops asked t f.0 f.1 table script cuts.0 second _ _ _ _ r.1 r.2 (c.in_err-request.ensures.sought f.0 cuts.0 f.2)

pub forest_of-requires : goal.forest_of-requires
forest_of-requires g c =
    let f = c.in_ok-model.ensures in
    let cuts = c.in_ok-chains.ensures f.0 f.2 in
    let q = c.in_ok-request.ensures.sought f.0 cuts.0 f.2 in
    rw c.deref.ensures.value q.2.requested.dropped.inside

pub returns-in_err-forest : goal.returns-in_err-forest
returns-in_err-forest g c =
    let r = err_from_is_err_and c.from_residual-in_err-forest.result c.from_residual-in_err-forest.ensures.1 in
    let asked = c.args.asked.now in
    let t = c.args.texts in
    let e = c.requires.command in
    let table = ap has_table e in
    let script = ap (λ (v : Verb). is_script (shape_of v).files) e in
    let list = ap (λ (v : Verb). is_list (shape_of v).files) e in
    let made = ap (λ (v : Verb). is_made (shape_of v).files) e in
    let f = c.in_ok-model.ensures in
    let cuts = c.in_ok-chains.ensures f.0 f.2 in
    let second = lines_given asked t f.0 f.1 table script list made cuts.0 cuts.1 in
    let q = c.in_ok-request.ensures.sought f.0 cuts.0 f.2 in
    let h = rw c.deref.ensures.value at c.in_err-forest.ensures q.0 q.2.requested.flat in
    forest_stops asked t f.0 f.1 table script cuts.0 second q.0 q.1 _ _ _ _ r.1 r.2 (h q.2.requested.dropped.are q.2.same_order)

pub table_of-requires-clause-observer : goal.table_of-requires-clause-observer
table_of-requires-clause-observer g c =
    let f = c.in_ok-model.ensures in
    let cuts = c.in_ok-chains.ensures f.0 f.2 in
    let q = c.in_ok-request.ensures.sought f.0 cuts.0 f.2 in
    q.2.requested.inside

pub table_of-requires-clause-forest : goal.table_of-requires-clause-forest
table_of-requires-clause-forest g c =
    let f = c.in_ok-model.ensures in
    let cuts = c.in_ok-chains.ensures f.0 f.2 in
    let q = c.in_ok-request.ensures.sought f.0 cuts.0 f.2 in
    let is = q.2.requested in
    let h = rw c.deref.ensures.value at c.in_ok-forest.ensures q.0 is.flat in
    let few = (h is.dropped.are q.2.same_order).2.few in
    let events = is.few in
    omega (arith, few, events)

pub returns-in_err-table : goal.returns-in_err-table
returns-in_err-table g c =
    let r = err_from_is_err_and c.from_residual-in_err-table.result c.from_residual-in_err-table.ensures.1 in
    let asked = c.args.asked.now in
    let t = c.args.texts in
    let e = c.requires.command in
    let table = ap has_table e in
    let script = ap (λ (v : Verb). is_script (shape_of v).files) e in
    let list = ap (λ (v : Verb). is_list (shape_of v).files) e in
    let made = ap (λ (v : Verb). is_made (shape_of v).files) e in
    let f = c.in_ok-model.ensures in
    let cuts = c.in_ok-chains.ensures f.0 f.2 in
    let second = lines_given asked t f.0 f.1 table script list made cuts.0 cuts.1 in
    let q = c.in_ok-request.ensures.sought f.0 cuts.0 f.2 in
    let is = q.2.requested in
    let p = c.in_ok-request.request.system in
    let h = rw c.deref.ensures.value at c.in_ok-forest.ensures q.0 is.flat in
    let trees = h is.dropped.are q.2.same_order in
    let has = (forest_here p q.0 c.in_ok-forest.forest trees).1 in
    table_stops asked t f.0 f.1 table script cuts.0 second q.0 q.1 p c.in_ok-forest.forest trees _ _ _ _ r.1 r.2
    (c.in_err-table.ensures q.0 is.flat is.wanted has)

pub draw-requires-clause-analysed : goal.draw-requires-clause-analysed
draw-requires-clause-analysed g c =
    let asked = c.args.asked.now in
    let t = c.args.texts in
    let e = c.requires.command in
    let table = ap has_table e in
    let script = ap (λ (v : Verb). is_script (shape_of v).files) e in
    let list = ap (λ (v : Verb). is_list (shape_of v).files) e in
    let made = ap (λ (v : Verb). is_made (shape_of v).files) e in
    let f = c.in_ok-model.ensures in
    let cuts = c.in_ok-chains.ensures f.0 f.2 in
    let second = lines_given asked t f.0 f.1 table script list made cuts.0 cuts.1 in
    let n = tabled asked t f.0 f.1 table script cuts.0 second c.in_ok-request.request c.in_ok-forest.forest
    c.in_ok-table.table (c.in_ok-request.ensures.sought f.0 cuts.0 f.2)
    (λ w is. rw c.deref.ensures.value at c.in_ok-forest.ensures w is) c.in_ok-table.ensures in
    (n.w, c.in_ok-request.request.system, n.has)

pub draw-requires-clause-nodes : goal.draw-requires-clause-nodes
draw-requires-clause-nodes g c = c.requires.given.nodes

pub write_check-requires : goal.write_check-requires
write_check-requires g c =
    let asked = c.args.asked.now in
    let t = c.args.texts in
    let e = c.requires.command in
    let table = ap has_table e in
    let script = ap (λ (v : Verb). is_script (shape_of v).files) e in
    let list = ap (λ (v : Verb). is_list (shape_of v).files) e in
    let made = ap (λ (v : Verb). is_made (shape_of v).files) e in
    let f = c.in_ok-model.ensures in
    let cuts = c.in_ok-chains.ensures f.0 f.2 in
    let second = lines_given asked t f.0 f.1 table script list made cuts.0 cuts.1 in
    let n = tabled asked t f.0 f.1 table script cuts.0 second c.in_ok-request.request c.in_ok-forest.forest
    c.in_ok-table.table (c.in_ok-request.ensures.sought f.0 cuts.0 f.2)
    (λ w is. rw c.deref.ensures.value at c.in_ok-forest.ensures w is) c.in_ok-table.ensures in
    let lines = λ (w : Ready) (i : w.lines ≡ cuts.0). lines_there c.in_ok-model.model.system c.in_ok-request.request.system
    c.in_ok-request.ensures.same cuts.0 w.lines i c.in_ok-chains.chains.items c.deref-in-Ok-Cuts.result.now
    c.deref-in-Ok-Cuts.ensures.value cuts.2 in
    record {
      drawn = checked_there n (ap lists_cuts e) _ lines _ _ c.in-Ok-Cuts.field-0-is c.in-Ok-Cuts.ensures;
    }

pub write_conflict-requires : goal.write_conflict-requires
write_conflict-requires g c =
    let asked = c.args.asked.now in
    let t = c.args.texts in
    let e = c.requires.command in
    let table = ap has_table e in
    let script = ap (λ (v : Verb). is_script (shape_of v).files) e in
    let list = ap (λ (v : Verb). is_list (shape_of v).files) e in
    let made = ap (λ (v : Verb). is_made (shape_of v).files) e in
    let f = c.in_ok-model.ensures in
    let cuts = c.in_ok-chains.ensures f.0 f.2 in
    let second = lines_given asked t f.0 f.1 table script list made cuts.0 cuts.1 in
    let n = tabled asked t f.0 f.1 table script cuts.0 second c.in_ok-request.request c.in_ok-forest.forest
    c.in_ok-table.table (c.in_ok-request.ensures.sought f.0 cuts.0 f.2)
    (λ w is. rw c.deref.ensures.value at c.in_ok-forest.ensures w is) c.in_ok-table.ensures in
    record {
      drawn = drawn_there n (ap lists_cuts e) _ _ c.in-Ok-Conflicts.field-0-is c.in-Ok-Conflicts.ensures;
    }

pub returns-in-Ok-Cuts : goal.returns-in-Ok-Cuts
returns-in-Ok-Cuts g c =
    let asked = c.args.asked.now in
    let t = c.args.texts in
    let e = c.requires.command in
    let table = ap has_table e in
    let script = ap (λ (v : Verb). is_script (shape_of v).files) e in
    let list = ap (λ (v : Verb). is_list (shape_of v).files) e in
    let made = ap (λ (v : Verb). is_made (shape_of v).files) e in
    let f = c.in_ok-model.ensures in
    let cuts = c.in_ok-chains.ensures f.0 f.2 in
    let second = lines_given asked t f.0 f.1 table script list made cuts.0 cuts.1 in
    let n = tabled asked t f.0 f.1 table script cuts.0 second c.in_ok-request.request c.in_ok-forest.forest
    c.in_ok-table.table (c.in_ok-request.ensures.sought f.0 cuts.0 f.2)
    (λ w is. rw c.deref.ensures.value at c.in_ok-forest.ensures w is) c.in_ok-table.ensures in
    let lines = λ (w : Ready) (i : w.lines ≡ cuts.0). lines_there c.in_ok-model.model.system c.in_ok-request.request.system
    c.in_ok-request.ensures.same cuts.0 w.lines i c.in_ok-chains.chains.items c.deref-in-Ok-Cuts.result.now
    c.deref-in-Ok-Cuts.ensures.value cuts.2 in
    drawn_told n (ap lists_cuts e) f.1 c.write_check.result c.printed.ensures _ _ c.in-Ok-Cuts.field-0-is c.in-Ok-Cuts.ensures
    (λ w sought drawn. c.write_check.ensures asked w sought.requested (lines w sought.lines) drawn e sought.same_order)

pub returns-in-Ok-Conflicts : goal.returns-in-Ok-Conflicts
returns-in-Ok-Conflicts g c =
    let asked = c.args.asked.now in
    let t = c.args.texts in
    let e = c.requires.command in
    let table = ap has_table e in
    let script = ap (λ (v : Verb). is_script (shape_of v).files) e in
    let list = ap (λ (v : Verb). is_list (shape_of v).files) e in
    let made = ap (λ (v : Verb). is_made (shape_of v).files) e in
    let f = c.in_ok-model.ensures in
    let cuts = c.in_ok-chains.ensures f.0 f.2 in
    let second = lines_given asked t f.0 f.1 table script list made cuts.0 cuts.1 in
    let n = tabled asked t f.0 f.1 table script cuts.0 second c.in_ok-request.request c.in_ok-forest.forest
    c.in_ok-table.table (c.in_ok-request.ensures.sought f.0 cuts.0 f.2)
    (λ w is. rw c.deref.ensures.value at c.in_ok-forest.ensures w is) c.in_ok-table.ensures in
    drawn_told n (ap lists_cuts e) f.1 c.write_conflict.result c.printed-in-Ok-Conflicts.ensures _ _
    c.in-Ok-Conflicts.field-0-is c.in-Ok-Conflicts.ensures (λ w sought drawn. c.write_conflict.ensures asked w drawn)

pub returns : goal.returns
returns g c =
    let asked = c.args.asked.now in
    let t = c.args.texts in
    let e = c.requires.command in
    let table = ap has_table e in
    let script = ap (λ (v : Verb). is_script (shape_of v).files) e in
    let list = ap (λ (v : Verb). is_list (shape_of v).files) e in
    let made = ap (λ (v : Verb). is_made (shape_of v).files) e in
    let f = c.in_ok-model.ensures in
    let cuts = c.in_ok-chains.ensures f.0 f.2 in
    let second = lines_given asked t f.0 f.1 table script list made cuts.0 cuts.1 in
    let n = tabled asked t f.0 f.1 table script cuts.0 second c.in_ok-request.request c.in_ok-forest.forest
    c.in_ok-table.table (c.in_ok-request.ensures.sought f.0 cuts.0 f.2)
    (λ w is. rw c.deref.ensures.value at c.in_ok-forest.ensures w is) c.in_ok-table.ensures in
    nodes_told n (ap lists_cuts e) f.1 c.write_nodes.result c.printed-in-Err.ensures _ c.in-Err.ensures
    (λ w full. c.write_nodes.ensures asked w refl (ap lists_cuts e) full)
