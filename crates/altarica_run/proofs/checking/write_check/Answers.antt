use Rattle.std.proofs.Common.{◌≡◌, ℕ, List, Option, map, sym, subst}
use Rattle.cut_check.specs.Flat.{AreVerdicts}
use Rattle.cut_check.specs.declared.checking.Verdict.{Verdict}
use Rattle.gts_core.specs.declared.bound.Chain.{Chain}
use Rattle.std.proofs.lemmas.Result.{err_from_is_err_and}
use Rattle.mode_trees.specs.Views.{trees_of, number_in}
use Rattle.eq_core.specs.Views.{table_of}
use Rattle.gate_diagrams.specs.declared.answer.Drawn.TheVariants.{Cuts}
use Rattle.table_laws.specs.Drawn.{sets_of}
use Rattle.check_text.specs.Printed.{chains_within, chain_parts, text_of_check}
use Rattle.check_text.proofs.ShortLines.{short_known}
use Rattle.cut_text.specs.Printed.{forest_edges}
use Rattle.job_stages.specs.Tells.{Tells}
use Rattle.job_stages.specs.declared.status.Status.TheVariants.{Done}
use Rattle.job_stages.proofs.CutLemmas.{both, own_forest, forest_is, table, observed, said_of_table, source_observer, renamed, are_drawn, few_counted, checks_told, none_printed, printed_partly, printed_whole}
use Rattle.altarica_run.proofs.checking.write_check.Goals as goal

pub open-requires-clause-root : goal.open-requires-clause-root
open-requires-clause-root g c = c.requires.drawn.4.answer.1

pub open-requires-clause-trees : goal.open-requires-clause-trees
open-requires-clause-trees g c =
    let r = c.requires.drawn in
    let d = r.4 in
    let p = c.args.request.now.system in
    let f = c.args.forest.now in
    c.edges_of_forests.ensures.trees d.gates.flat.flat r.1.dropped (both r.1 p f d.table d.gates)
    (number_in p) f (own_forest r.1 p f d.table d.gates)

pub open-requires-clause-firable : goal.open-requires-clause-firable
open-requires-clause-firable g c =
    let d = c.requires.drawn.4 in
    c.drawn_sets.ensures.firable_up_to c.requires.drawn.1.order (trees_of (λ n. n) c.args.forest.now) (table_of d.table.equations) (Cuts c.args.family)
    d.answer

pub returns-in_err-short : goal.returns-in_err-short
returns-in_err-short g c = λ asked w sought lines drawn e one.
    let r = err_from_is_err_and c.from_residual.result c.from_residual.ensures.1 in
    none_printed (Tells asked w) _ _ r.1 r.2

pub returns-in_err-said : goal.returns-in_err-said
returns-in_err-said g c = λ asked w sought lines drawn e one.
    let r = err_from_is_err_and c.from_residual-in_err-said.result c.from_residual-in_err-said.ensures.1 in
    none_printed (Tells asked w) _ _ r.1 r.2

pub returns-in_err-lister : goal.returns-in_err-lister
returns-in_err-lister g c = λ asked w sought lines drawn e one.
    let r = err_from_is_err_and c.from_residual-in_err-lister.result c.from_residual-in_err-lister.ensures.1 in
    none_printed (Tells asked w) _ _ r.1 r.2

pub print_check-requires-clause-own : goal.print_check-requires-clause-own
print_check-requires-clause-own g c = c.requires.drawn.4.gates.forest.own

pub print_check-requires-clause-one_way : goal.print_check-requires-clause-one_way
print_check-requires-clause-one_way g c =
    let r = c.requires.drawn in
    let d = r.4 in
    let p = c.args.request.now.system in
    let f = c.args.forest.now in
    c.edges_of_forests.ensures.one_way d.gates.flat.flat r.1.dropped (both r.1 p f d.table d.gates)
    (number_in p) f (own_forest r.1 p f d.table d.gates)

pub print_check-requires-clause-known : goal.print_check-requires-clause-known
print_check-requires-clause-known g c =
    c.edges_of_forests.ensures.known c.args.forest.now (sets_of c.args.family) _ c.in_ok-lister.ensures.lines

pub returns-in_err-print_check : goal.returns-in_err-print_check
returns-in_err-print_check g c = λ asked w sought lines drawn e one.
    let r = err_from_is_err_and c.from_residual-in_err-print_check.result
    c.from_residual-in_err-print_check.ensures.1 in
    let p = c.args.request.now.system in
    let f = c.args.family in
    let trees = c.args.forest.now in
    let gates = drawn.table in
    let is = drawn.gates in
    let sound = c.parts-sound_parts.ensures.sound in
    let kinds = c.lawful_systems.ensures.net p sound in
    let d = are_drawn w p trees gates is kinds (λ o h. c.lawful_systems.ensures.observers p o sound h)
    (c.drawn_sets.ensures.meant_up_to w.order) (Cuts f) drawn.answer in
    let forest = forest_is w p trees gates is in
    let o = source_observer w p trees gates is in
    let q = renamed w p trees gates is in
    let t = table w p trees gates is in
    let shorts = subst (λ (o : Option ℕ). map chain_parts c.in_ok-short.short.items
    ≡ map chain_parts (chains_within o c.args.chains.now)) (sym one) c.in_ok-short.ensures in
    let said = said_of_table w p trees gates is c.args.request.now.wanted sought.wanted c.in_ok-short.short.items
    c.in_ok-said.said.items (λ o at. rw c.deref.ensures.value at c.in_ok-said.ensures w sought is.flat.flat is.flat.views o at) in
    let short : map chain_parts c.deref-2.result.now ≡ map chain_parts (chains_within w.order c.args.chains.now)
    = subst (λ (z : List Chain). map chain_parts z ≡ map chain_parts (chains_within w.order c.args.chains.now))
    (sym c.deref-2.ensures.value) shorts in
    let chained = subst (λ (z : List Chain). AreVerdicts p is.flat.flat w.dropped (observed w p trees gates is)
    t.wanted.value z c.in_ok-said.said.items) (sym c.deref-2.ensures.value) said in
    let verdicts = subst (λ (z : List Verdict). AreVerdicts p is.flat.flat w.dropped (observed w p trees gates is)
    t.wanted.value c.deref-2.result.now z) (sym c.deref-3.ensures.value) chained in
    let few = few_counted c.store_laws.ensures.stored_sections c.store_laws.ensures.room_for_families f.store f.root.n asked.job.nodes
    c.len-sound_store.ensures.sound drawn.answer.1 drawn.within in
    let told = checks_told w p trees gates is asked e c.args.chains.now lines.are (sets_of f) _ d.0 d.1
    (c.check_of_the_source.ensures w.source p is.flat.flat w.dropped trees forest o (observed w p trees gates is) q
    t.wanted.value w.order (sets_of f) _ d.1 c.in_ok-lister.ensures.lines c.args.chains.now c.deref-2.result.now
    c.deref-3.result.now short verdicts)
    few in
    let asked_told = subst (λ (k : Option ℕ). Tells asked w (text_of_check p (forest_edges trees.trees.items) k
    c.args.chains.now c.deref-2.result.now c.deref-3.result.now c.in_ok-lister.lister) Done) one told in
    printed_partly (Tells asked w) _ Done asked_told _ c.in_err-print_check.ensures _ _ r.1 r.2

pub returns : goal.returns
returns g c = λ asked w sought lines drawn e one.
    let p = c.args.request.now.system in
    let f = c.args.family in
    let trees = c.args.forest.now in
    let gates = drawn.table in
    let is = drawn.gates in
    let sound = c.parts-sound_parts.ensures.sound in
    let kinds = c.lawful_systems.ensures.net p sound in
    let d = are_drawn w p trees gates is kinds (λ o h. c.lawful_systems.ensures.observers p o sound h)
    (c.drawn_sets.ensures.meant_up_to w.order) (Cuts f) drawn.answer in
    let forest = forest_is w p trees gates is in
    let o = source_observer w p trees gates is in
    let q = renamed w p trees gates is in
    let t = table w p trees gates is in
    let shorts = subst (λ (o : Option ℕ). map chain_parts c.in_ok-short.short.items
    ≡ map chain_parts (chains_within o c.args.chains.now)) (sym one) c.in_ok-short.ensures in
    let said = said_of_table w p trees gates is c.args.request.now.wanted sought.wanted c.in_ok-short.short.items
    c.in_ok-said.said.items (λ o at. rw c.deref.ensures.value at c.in_ok-said.ensures w sought is.flat.flat is.flat.views o at) in
    let short : map chain_parts c.deref-2.result.now ≡ map chain_parts (chains_within w.order c.args.chains.now)
    = subst (λ (z : List Chain). map chain_parts z ≡ map chain_parts (chains_within w.order c.args.chains.now))
    (sym c.deref-2.ensures.value) shorts in
    let chained = subst (λ (z : List Chain). AreVerdicts p is.flat.flat w.dropped (observed w p trees gates is)
    t.wanted.value z c.in_ok-said.said.items) (sym c.deref-2.ensures.value) said in
    let verdicts = subst (λ (z : List Verdict). AreVerdicts p is.flat.flat w.dropped (observed w p trees gates is)
    t.wanted.value c.deref-2.result.now z) (sym c.deref-3.ensures.value) chained in
    let few = few_counted c.store_laws.ensures.stored_sections c.store_laws.ensures.room_for_families f.store f.root.n asked.job.nodes
    c.len-sound_store.ensures.sound drawn.answer.1 drawn.within in
    let told = checks_told w p trees gates is asked e c.args.chains.now lines.are (sets_of f) _ d.0 d.1
    (c.check_of_the_source.ensures w.source p is.flat.flat w.dropped trees forest o (observed w p trees gates is) q
    t.wanted.value w.order (sets_of f) _ d.1 c.in_ok-lister.ensures.lines c.args.chains.now c.deref-2.result.now
    c.deref-3.result.now short verdicts)
    few in
    let asked_told = subst (λ (k : Option ℕ). Tells asked w (text_of_check p (forest_edges trees.trees.items) k
    c.args.chains.now c.deref-2.result.now c.deref-3.result.now c.in_ok-lister.lister) Done) one told in
    printed_whole (Tells asked w) _ Done asked_told tt c.in_ok-print_check.ensures

pub said_of_lines-requires : goal.said_of_lines-requires
said_of_lines-requires g c =
    let r = c.requires.drawn in (
      r.1,
      r.2,
      rw c.deref.ensures.value (short_known c.args.request.now.system c.args.order c.args.chains.now
          c.in_ok-short.short.items c.in_ok-short.ensures r.3.known),
    )

pub print_check-requires-clause-ways : goal.print_check-requires-clause-ways
print_check-requires-clause-ways g c =
    rw c.deref-2.ensures.value (short_known c.args.request.now.system c.args.order c.args.chains.now
    c.in_ok-short.short.items c.in_ok-short.ensures c.requires.drawn.3.known)
