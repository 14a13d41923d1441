use Rattle.std.proofs.Common.{refl}
use Rattle.std.proofs.lemmas.Result.{err_from_is_err_and}
use Rattle.altarica_run.proofs.ExplainLemmas.{flows_at_end, settle_stops, fault_told_whole, explained_whole, explained_cut, known_there}
use Rattle.altarica_run.proofs.explaining.write_reasons.Goals as goal

pub settle-requires : goal.settle-requires
settle-requires g c = c.requires.ready.1.commands.firable

pub returns-in_err-values : goal.returns-in_err-values
returns-in_err-values g c = λ asked w given e.
    let r = err_from_is_err_and c.from_residual.result c.from_residual.ensures.1 in
    let p = c.args.system.now in
    let is = given.flat in
    let answers = c.in_err-values.ensures.answers is.flat is.views in
    settle_stops asked w p is e c.args.commands.now given.commands.are
    (λ text. (c.settles_of_the_source.ensures.fault_lines w.source is.flat p is is.views _
    text).0)
    _ answers _ _ r.1 r.2

pub returns-in-None : goal.returns-in-None
returns-in-None g c = λ asked w given e.
    let p = c.args.system.now in
    let is = given.flat in
    let answers = c.in_ok-values.ensures.answers is.flat is.views in
    fault_told_whole asked w p is e c.args.commands.now given.commands.are
    (λ text. (c.settles_of_the_source.ensures.fault_lines w.source is.flat p is is.views _
    text).0)
    _ c.in-None.is answers

pub print_reasons-requires-clause-flows : goal.print_reasons-requires-clause-flows
print_reasons-requires-clause-flows g c =
    let p = c.args.system.now in
    let is = c.requires.ready.1.flat in
    let answers = c.in_ok-values.ensures.answers is.flat is.views in
    flows_at_end p is.flat is.views _ _ _ _ c.in-Some.values c.in-Some.is answers

pub returns-in_err-print_reasons-in-Some : goal.returns-in_err-print_reasons-in-Some
returns-in_err-print_reasons-in-Some g c = λ asked w given e.
    let r = err_from_is_err_and c.from_residual-in_err-print_reasons-in-Some.result
    c.from_residual-in_err-print_reasons-in-Some.ensures.1 in
    let p = c.args.system.now in
    let is = given.flat in
    let answers = c.in_ok-values.ensures.answers is.flat is.views in
    let shown = given.shown in
    explained_cut asked w p is e c.args.commands.now given.commands.are c.args.shown shown.are
    (known_there p c.args.shown shown.inside) c.in-Some.values.values.items
    (λ settles. (c.settles_of_the_source.ensures.settles w.source is.flat p is is.views _ _).0
    settles)
    (λ observer other same text. c.reasons_of_the_source.ensures w.source p is _ observer other same text)
    _ _ _ c.in-Some.values refl c.in-Some.is answers _ c.in_err-print_reasons-in-Some.ensures _ _ r.1 r.2

pub returns-in_ok-print_reasons-in-Some : goal.returns-in_ok-print_reasons-in-Some
returns-in_ok-print_reasons-in-Some g c = λ asked w given e.
    let p = c.args.system.now in
    let is = given.flat in
    let answers = c.in_ok-values.ensures.answers is.flat is.views in
    let shown = given.shown in
    explained_whole asked w p is e c.args.commands.now given.commands.are c.args.shown shown.are
    (known_there p c.args.shown shown.inside) c.in-Some.values.values.items
    (λ settles. (c.settles_of_the_source.ensures.settles w.source is.flat p is is.views _ _).0
    settles)
    (λ observer other same text. c.reasons_of_the_source.ensures w.source p is _ observer other same text)
    _ _ _ c.in-Some.values refl c.in-Some.is answers c.in_ok-print_reasons-in-Some.ensures
