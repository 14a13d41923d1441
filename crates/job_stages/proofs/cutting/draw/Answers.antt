use Rattle.mode_trees.specs.Views.{number_in}
use Rattle.job_stages.proofs.CutLemmas.{ordered, both, own_forest}
use Rattle.job_stages.proofs.DrawnLemmas.{drawn_answers}
use Rattle.job_stages.proofs.cutting.draw.Goals as goal

pub diagrams_up_to-requires-clause-table : goal.diagrams_up_to-requires-clause-table
diagrams_up_to-requires-clause-table c =
    let r = c.requires.analysed in
    ordered r.0 r.1 c.args.forest.now c.args.table.now r.2 c.gate_table_laws.ensures.ordered_table

pub diagrams_up_to-requires-clause-trees : goal.diagrams_up_to-requires-clause-trees
diagrams_up_to-requires-clause-trees c =
    let r = c.requires.analysed in
    let f = c.args.forest.now in
    c.edges_of_forests.ensures.trees r.2.flat.flat r.0.dropped (both r.0 r.1 f c.args.table.now r.2)
    (number_in r.1) f (own_forest r.0 r.1 f c.args.table.now r.2)

pub returns : goal.returns
returns c = λ asked w p is lists order nodes.
    drawn_answers asked w p c.args.forest.now c.args.table.now is lists c.args.order order c.args.nodes nodes
    c.drawn_sets.ensures.nodes_up_to
    c.diagrams_up_to.result c.diagrams_up_to.ensures.sets c.diagrams_up_to.ensures.within c.diagrams_up_to.ensures.full
