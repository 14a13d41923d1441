use Rattle.std.proofs.Common.{sym, ◌∙◌, subst}
use Rattle.zdd_nodes.specs.Nodes.{NodeId}
use Rattle.zdd_nodes.proofs.Growing.{Grows-then}
use Rattle.mode_trees.specs.Views.{edge_row}
use Rattle.gate_diagrams.specs.Paths.{IsOneSet}
use Rattle.gate_diagrams.proofs.Adding.{extends}
use Rattle.gate_diagrams.proofs.Tabling.{some_one, tabled_more}
use Rattle.gate_diagrams.proofs.paths.one_more.Goals as goal

pub union-requires-clause-g_in : goal.union-requires-clause-g_in
union-requires-clause-g_in c =
    let k = c.requires.known in
    let same = some_one k.number c.number_of-before.result (sym k.found ∙ c.number_of-before.ensures) in
    (c.in_ok-set.ensures.more k.set (subst (λ (z : NodeId). IsOneSet c.args.ops.now z.n k.set) same k.one)).1.in_store

pub returns-clause-grows : goal.returns-clause-grows
returns-clause-grows c =
    Grows-then (λ h. Unit {0}) c.args.ops.now c.with_event.new.ops c.union.new.self c.in_ok-set.ensures.grows
    (extends _ c.with_event.new.ops c.union.new.self c.union.ensures.drawn.grows)

pub returns-clause-tabled : goal.returns-clause-tabled
returns-clause-tabled c = λ tree k t at i.
    let e = c.in_ok-set.ensures in
    tabled_more tree t k (edge_row (λ n. n) c.args.edge.now) at c.args.modes.now c.put.new.modes c.args.ops.now
    c.with_event.new.ops c.union.new.self c.args.paths.n i c.number_of-before.result c.in_ok-set.set
    c.number_of-before.ensures e.more c.in_ok-put.ensures e.grows c.union.result c.union.ensures.drawn
