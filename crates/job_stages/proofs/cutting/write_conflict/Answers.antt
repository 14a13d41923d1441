use Rattle.std.proofs.Common.{Ok, Err}
use Rattle.std.proofs.lemmas.Result.{err_from_is_err_and}
use Rattle.mode_trees.specs.Views.{trees_of, number_in}
use Rattle.eq_core.specs.Views.{table_of}
use Rattle.gate_diagrams.specs.declared.answer.Drawn.TheVariants.{Conflicts}
use Rattle.table_laws.specs.Drawn.{sets_of}
use Rattle.job_stages.specs.Tells.{Tells}
use Rattle.job_stages.specs.declared.status.Status.TheVariants.{Fault}
use Rattle.job_stages.proofs.CutLemmas.{both, own_forest, forest_is, table, observed, agrees, are_drawn, none_printed, printed_partly, printed_whole, conflict_printed}
use Rattle.job_stages.proofs.cutting.write_conflict.Goals as goal

pub open-requires-clause-root : goal.open-requires-clause-root
open-requires-clause-root g c = c.requires.drawn.2.answer.1

pub open-requires-clause-trees : goal.open-requires-clause-trees
open-requires-clause-trees g c =
    let r = c.requires.drawn in
    let d = r.2 in
    let p = c.args.system.now in
    let f = c.args.forest.now in
    c.edges_of_forests.ensures.trees d.gates.flat.flat r.1.dropped (both r.1 p f d.table d.gates)
    (number_in p) f (own_forest r.1 p f d.table d.gates)

pub open-requires-clause-firable : goal.open-requires-clause-firable
open-requires-clause-firable g c =
    let d = c.requires.drawn.2 in
    c.drawn_sets.ensures.firable_up_to c.requires.drawn.1.order (trees_of (λ n. n) c.args.forest.now) (table_of d.table.equations)
    (Conflicts c.args.family) d.answer

pub returns-in_err-lister : goal.returns-in_err-lister
returns-in_err-lister g c = λ asked w drawn.
    let r = err_from_is_err_and c.from_residual.result c.from_residual.ensures.1 in
    none_printed (Tells asked w) _ _ r.1 r.2

pub print_conflict-requires-clause-own : goal.print_conflict-requires-clause-own
print_conflict-requires-clause-own g c = c.requires.drawn.2.gates.forest.own

pub print_conflict-requires-clause-one_way : goal.print_conflict-requires-clause-one_way
print_conflict-requires-clause-one_way g c =
    let r = c.requires.drawn in
    let d = r.2 in
    let p = c.args.system.now in
    let f = c.args.forest.now in
    c.edges_of_forests.ensures.one_way d.gates.flat.flat r.1.dropped (both r.1 p f d.table d.gates)
    (number_in p) f (own_forest r.1 p f d.table d.gates)

pub print_conflict-requires-clause-known : goal.print_conflict-requires-clause-known
print_conflict-requires-clause-known g c =
    c.edges_of_forests.ensures.known c.args.forest.now (sets_of c.args.family) _ c.in_ok-lister.ensures.lines

pub returns-in_err-print_conflict : goal.returns-in_err-print_conflict
returns-in_err-print_conflict g c = λ asked w drawn.
    let r = err_from_is_err_and c.from_residual-in_err-print_conflict.result
    c.from_residual-in_err-print_conflict.ensures.1 in
    let p = c.args.system.now in
    let trees = c.args.forest.now in
    let gates = drawn.table in
    let is = drawn.gates in
    let sound = c.parts-sound_parts.ensures.sound in
    let kinds = c.lawful_systems.ensures.net p sound in
    let f = forest_is w p trees gates is in
    let a = agrees w p trees gates is kinds (λ o h. c.lawful_systems.ensures.observers p o sound h)
    c.gate_table_laws.ensures.agrees in
    let d = are_drawn w p trees gates is kinds (λ o h. c.lawful_systems.ensures.observers p o sound h)
    (c.drawn_sets.ensures.meant_up_to w.order) (Conflicts c.args.family) drawn.answer in
    let k = conflict_printed w p trees gates is asked drawn.lists
    (λ set sets events lists l x. c.cuts_of_the_source.ensures.conflicts_of_the_source w.source p is.flat.flat w.dropped
    trees f (observed w p trees gates is) (table w p trees gates is).wanted.value _ _ a w.order set sets events lists l x)
    (λ set sets events lists fault l x y. c.cuts_of_the_source.ensures.conflict_text_of_the_source w.source p is.flat.flat
    w.dropped trees f w.order set sets events lists fault l x y)
    (g.K.Sink.state c.args.out.now) (g.K.Sink.state c.print_conflict.new.out) (Err c.in_err-print_conflict.field-0.0)
    (sets_of c.args.family) _ d.0 d.1 c.in_ok-lister.ensures.lines c.in_err-print_conflict.ensures in
    printed_partly (Tells asked w) k.0 Fault k.1 _ k.2 _ _ r.1 r.2

pub returns : goal.returns
returns g c = λ asked w drawn.
    let p = c.args.system.now in
    let trees = c.args.forest.now in
    let gates = drawn.table in
    let is = drawn.gates in
    let sound = c.parts-sound_parts.ensures.sound in
    let kinds = c.lawful_systems.ensures.net p sound in
    let f = forest_is w p trees gates is in
    let a = agrees w p trees gates is kinds (λ o h. c.lawful_systems.ensures.observers p o sound h)
    c.gate_table_laws.ensures.agrees in
    let d = are_drawn w p trees gates is kinds (λ o h. c.lawful_systems.ensures.observers p o sound h)
    (c.drawn_sets.ensures.meant_up_to w.order) (Conflicts c.args.family) drawn.answer in
    let k = conflict_printed w p trees gates is asked drawn.lists
    (λ set sets events lists l x. c.cuts_of_the_source.ensures.conflicts_of_the_source w.source p is.flat.flat w.dropped
    trees f (observed w p trees gates is) (table w p trees gates is).wanted.value _ _ a w.order set sets events lists l x)
    (λ set sets events lists fault l x y. c.cuts_of_the_source.ensures.conflict_text_of_the_source w.source p is.flat.flat
    w.dropped trees f w.order set sets events lists fault l x y)
    (g.K.Sink.state c.args.out.now) (g.K.Sink.state c.print_conflict.new.out) (Ok tt) (sets_of c.args.family) _ d.0 d.1
    c.in_ok-lister.ensures.lines c.in_ok-print_conflict.ensures in
    printed_whole (Tells asked w) k.0 Fault k.1 tt k.2
