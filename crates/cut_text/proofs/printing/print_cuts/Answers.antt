use Rattle.std.proofs.Common.{◌++◌, ◌∙◌, ℕ, List, Err, ap, sym, subst}
use Rattle.std.proofs.lemmas.Result.{err_from_is_err_and}
use Rattle.ar_base.specs.Numbers.{WayId}
use Rattle.ar_io.proofs.Writing.{writes_on, writes_front, writes_as}
use Rattle.mode_trees.specs.declared.forests.ModeTree.{ModeTree}
use Rattle.cut_text.specs.Printed.{forest_edges}
use Rattle.cut_text.specs.Tables.{HasEdgeWays}
use Rattle.cut_text.specs.Texts.{count_line}
use Rattle.cut_text.proofs.Answering.{failed}
use Rattle.cut_text.proofs.Known.{have_ways, same_lines}
use Rattle.cut_text.proofs.printing.print_cuts.Goals as goal

pub set_lines-requires : goal.set_lines-requires
set_lines-requires g c =
    let ts : List ModeTree = c.args.forest.now.trees.items in
    have_ways c.args.gts.now ts c.requires.own c.deref.result.now
    (subst (λ (z : List WayId). HasEdgeWays (forest_edges ts) z) (sym c.deref.ensures.value) c.in_ok-ways.ensures)
    c.args.lister c.requires.known

pub returns-in_err-set_lines : goal.returns-in_err-set_lines
returns-in_err-set_lines g c =
    let ts : List ModeTree = c.args.forest.now.trees.items in
    let are = subst (λ (z : List WayId). HasEdgeWays (forest_edges ts) z) (sym c.deref.ensures.value) c.in_ok-ways.ensures in
    let r = err_from_is_err_and c.from_residual-in_err-set_lines.result c.from_residual-in_err-set_lines.ensures.1 in
    failed c.from_residual-in_err-set_lines.result (r.1 ∙ ap Err r.2)
    (writes_as _ _ (ap (λ (z : List ℕ). z ++ count_line c.args.order c.args.count)
    (same_lines (forest_edges ts) c.requires.one_way c.deref.result.now are c.args.gts.now c.args.lister
    c.requires.known))
    (writes_front _ (count_line c.args.order c.args.count) c.in_err-set_lines.ensures))

pub returns-in_err-print_count : goal.returns-in_err-print_count
returns-in_err-print_count g c =
    let ts : List ModeTree = c.args.forest.now.trees.items in
    let are = subst (λ (z : List WayId). HasEdgeWays (forest_edges ts) z) (sym c.deref.ensures.value) c.in_ok-ways.ensures in
    let r = err_from_is_err_and c.from_residual-in_err-print_count.result c.from_residual-in_err-print_count.ensures.1
    in
    failed c.from_residual-in_err-print_count.result (r.1 ∙ ap Err r.2)
    (writes_as _ _ (ap (λ (z : List ℕ). z ++ count_line c.args.order c.args.count)
    (same_lines (forest_edges ts) c.requires.one_way c.deref.result.now are c.args.gts.now c.args.lister
    c.requires.known))
    (writes_on c.in_ok-set_lines.ensures c.in_err-print_count.ensures))

pub returns : goal.returns
returns g c =
    let ts : List ModeTree = c.args.forest.now.trees.items in
    let are = subst (λ (z : List WayId). HasEdgeWays (forest_edges ts) z) (sym c.deref.ensures.value) c.in_ok-ways.ensures in
    writes_as _ _ (ap (λ (z : List ℕ). z ++ count_line c.args.order c.args.count)
    (same_lines (forest_edges ts) c.requires.one_way c.deref.result.now are c.args.gts.now c.args.lister
    c.requires.known))
    (writes_on c.in_ok-set_lines.ensures c.in_ok-print_count.ensures)
