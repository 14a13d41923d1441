use Rattle.std.proofs.Common.{ℕ, Option, Ok, Err, sym, subst}
use Rattle.std.proofs.lemmas.Result.{err_from_is_err_and}
use Rattle.mode_trees.specs.Views.{trees_of, number_in}
use Rattle.eq_core.specs.Views.{table_of}
use Rattle.gate_diagrams.specs.declared.answer.Drawn.TheVariants.{Cuts}
use Rattle.table_laws.specs.Drawn.{sets_of}
use Rattle.cut_text.specs.Answers.{Prints}
use Rattle.cut_text.specs.Printed.{forest_edges, cuts_text}
use Rattle.job_stages.specs.Tells.{Tells}
use Rattle.job_stages.specs.declared.status.Status.TheVariants.{Done}
use Rattle.job_stages.proofs.CutLemmas.{agrees, both, counted_text, own_forest, forest_is, table, observed, source_observer, renamed, are_drawn, few_counted, cuts_told, none_printed, printed_partly, printed_whole}
use Rattle.job_stages.proofs.cutting.write_cuts.Goals as goal

pub counts-requires : goal.counts-requires
counts-requires g c = record { root = c.requires.drawn.2.answer.1 }

pub open-requires-clause-root : goal.open-requires-clause-root
open-requires-clause-root g c = c.requires.drawn.2.answer.1

pub open-requires-clause-trees : goal.open-requires-clause-trees
open-requires-clause-trees g c =
    let r = c.requires.drawn in
    let d = r.2 in
    let p = c.args.system.now in
    let f = c.args.forest.now in
    c.edges_of_forests.ensures.trees d.gates.flat.flat r.1.dropped (both r.1 p f d.table d.gates)
    (number_in p) f (own_forest r.1 p f d.table d.gates)

pub open-requires-clause-firable : goal.open-requires-clause-firable
open-requires-clause-firable g c =
    let d = c.requires.drawn.2 in
    c.drawn_sets.ensures.firable_up_to c.requires.drawn.1.order (trees_of (λ n. n) c.args.forest.now) (table_of d.table.equations) (Cuts c.args.family)
    d.answer

pub returns-in_err-counted : goal.returns-in_err-counted
returns-in_err-counted g c = λ asked w drawn e one.
    let r = err_from_is_err_and c.from_residual.result c.from_residual.ensures.1 in
    none_printed (Tells asked w) _ _ r.1 r.2

pub returns-in_err-lister : goal.returns-in_err-lister
returns-in_err-lister g c = λ asked w drawn e one.
    let r = err_from_is_err_and c.from_residual-in_err-lister.result c.from_residual-in_err-lister.ensures.1 in
    none_printed (Tells asked w) _ _ r.1 r.2

pub print_cuts-requires-clause-own : goal.print_cuts-requires-clause-own
print_cuts-requires-clause-own g c = c.requires.drawn.2.gates.forest.own

pub print_cuts-requires-clause-one_way : goal.print_cuts-requires-clause-one_way
print_cuts-requires-clause-one_way g c =
    let r = c.requires.drawn in
    let d = r.2 in
    let p = c.args.system.now in
    let f = c.args.forest.now in
    c.edges_of_forests.ensures.one_way d.gates.flat.flat r.1.dropped (both r.1 p f d.table d.gates)
    (number_in p) f (own_forest r.1 p f d.table d.gates)

pub print_cuts-requires-clause-known : goal.print_cuts-requires-clause-known
print_cuts-requires-clause-known g c =
    c.edges_of_forests.ensures.known c.args.forest.now (sets_of c.args.family) _ c.in_ok-lister.ensures.lines

pub returns-in_err-print_cuts : goal.returns-in_err-print_cuts
returns-in_err-print_cuts g c = λ asked w drawn e one.
    let r = err_from_is_err_and c.from_residual-in_err-print_cuts.result c.from_residual-in_err-print_cuts.ensures.1 in
    let p = c.args.system.now in
    let f = c.args.family in
    let trees = c.args.forest.now in
    let gates = drawn.table in
    let is = drawn.gates in
    let sound = c.parts-sound_parts.ensures.sound in
    let kinds = c.lawful_systems.ensures.net p sound in
    let d = are_drawn w p trees gates is kinds (λ o h. c.lawful_systems.ensures.observers p o sound h)
    (c.drawn_sets.ensures.meant_up_to w.order) (Cuts f) drawn.answer in
    let a = agrees w p trees gates is kinds (λ o h. c.lawful_systems.ensures.observers p o sound h)
    c.gate_table_laws.ensures.agrees in
    let forest = forest_is w p trees gates is in
    let o = source_observer w p trees gates is in
    let q = renamed w p trees gates is in
    let v = (table w p trees gates is).wanted.value in
    let few = few_counted c.store_laws.ensures.stored_sections c.store_laws.ensures.room_for_families f.store f.root.n asked.job.nodes
    c.len-sound_store.ensures.sound drawn.answer.1 drawn.within in
    let t = cuts_told w p trees gates is asked e (sets_of f) _ d.0 d.1
    (c.cuts_of_the_source.ensures.cuts_of_the_source w.source p is.flat.flat w.dropped trees forest o (observed w p trees gates is) q v w.order
    (sets_of f) _ d.1 c.in_ok-lister.ensures.lines)
    (λ sets listed set one ls line. c.cuts_of_the_source.ensures.lines_of_the_source_replay w.source p is.flat.flat w.dropped
    trees forest o (observed w p trees gates is) q v _ _ a w.order d.0 sets listed set one ls line)
    few in
    let h = counted_text (g.K.Sink.state c.args.out.now) (g.K.Sink.state c.print_cuts.new.out) p
    (forest_edges trees.trees.items) w.order c.in_ok-lister.lister _ _ c.in_ok-counted.ensures.sets
    (Err c.in_err-print_cuts.field-0.0)
    (subst (λ (k : Option ℕ). Prints (g.K.Sink.state c.args.out.now) (g.K.Sink.state c.print_cuts.new.out)
    (cuts_text p (forest_edges trees.trees.items) k c.in_ok-lister.lister c.in_ok-counted.counted.sets)
    (Err c.in_err-print_cuts.field-0.0)) (sym one) c.in_err-print_cuts.ensures) in
    printed_partly (Tells asked w) _ Done t _ h _ _ r.1 r.2

pub returns : goal.returns
returns g c = λ asked w drawn e one.
    let p = c.args.system.now in
    let f = c.args.family in
    let trees = c.args.forest.now in
    let gates = drawn.table in
    let is = drawn.gates in
    let sound = c.parts-sound_parts.ensures.sound in
    let kinds = c.lawful_systems.ensures.net p sound in
    let d = are_drawn w p trees gates is kinds (λ o h. c.lawful_systems.ensures.observers p o sound h)
    (c.drawn_sets.ensures.meant_up_to w.order) (Cuts f) drawn.answer in
    let a = agrees w p trees gates is kinds (λ o h. c.lawful_systems.ensures.observers p o sound h)
    c.gate_table_laws.ensures.agrees in
    let forest = forest_is w p trees gates is in
    let o = source_observer w p trees gates is in
    let q = renamed w p trees gates is in
    let v = (table w p trees gates is).wanted.value in
    let few = few_counted c.store_laws.ensures.stored_sections c.store_laws.ensures.room_for_families f.store f.root.n asked.job.nodes
    c.len-sound_store.ensures.sound drawn.answer.1 drawn.within in
    let t = cuts_told w p trees gates is asked e (sets_of f) _ d.0 d.1
    (c.cuts_of_the_source.ensures.cuts_of_the_source w.source p is.flat.flat w.dropped trees forest o (observed w p trees gates is) q v w.order
    (sets_of f) _ d.1 c.in_ok-lister.ensures.lines)
    (λ sets listed set one ls line. c.cuts_of_the_source.ensures.lines_of_the_source_replay w.source p is.flat.flat w.dropped
    trees forest o (observed w p trees gates is) q v _ _ a w.order d.0 sets listed set one ls line)
    few in
    let h = counted_text (g.K.Sink.state c.args.out.now) (g.K.Sink.state c.print_cuts.new.out) p
    (forest_edges trees.trees.items) w.order c.in_ok-lister.lister _ _ c.in_ok-counted.ensures.sets (Ok tt)
    (subst (λ (k : Option ℕ). Prints (g.K.Sink.state c.args.out.now) (g.K.Sink.state c.print_cuts.new.out)
    (cuts_text p (forest_edges trees.trees.items) k c.in_ok-lister.lister c.in_ok-counted.counted.sets) (Ok tt))
    (sym one) c.in_ok-print_cuts.ensures) in
    printed_whole (Tells asked w) _ Done t tt h
