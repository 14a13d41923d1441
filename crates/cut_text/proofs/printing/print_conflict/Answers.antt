use Rattle.std.proofs.Common.{◌∙◌, List, Err, ap, sym, subst}
use Rattle.std.proofs.lemmas.Result.{err_from_is_err_and}
use Rattle.ar_base.specs.Numbers.{WayId}
use Rattle.ar_io.proofs.Writing.{writes_as}
use Rattle.flow_propagate.specs.Answers.{fault_of}
use Rattle.min_cuts.specs.Kept.{numbers_of_set}
use Rattle.mode_trees.specs.declared.forests.ModeTree.{ModeTree}
use Rattle.cut_text.specs.Printed.{forest_edges}
use Rattle.cut_text.specs.Tables.{HasEdgeWays, IsMet}
use Rattle.cut_text.proofs.Answering.{failed}
use Rattle.cut_text.proofs.Known.{have_ways, conflict_here, same_text}
use Rattle.cut_text.proofs.Pieces.{all_first}
use Rattle.cut_text.proofs.printing.print_conflict.Goals as goal

pub fault_met-requires : goal.fault_met-requires
fault_met-requires g c =
    let ts : List ModeTree = c.args.forest.now.trees.items in
    let are = subst (λ (z : List WayId). HasEdgeWays (forest_edges ts) z) (sym c.deref.ensures.value) c.in_ok-ways.ensures in
    all_first c.args.gts.now c.deref.result.now c.args.lister _ c.in-Some.ensures.first.0 c.in-Some.ensures.first.1
    (have_ways c.args.gts.now ts c.requires.own c.deref.result.now are c.args.lister c.requires.known)

pub fault_line-requires-clause-ways : goal.fault_line-requires-clause-ways
fault_line-requires-clause-ways g c =
    let ts : List ModeTree = c.args.forest.now.trees.items in
    let are = subst (λ (z : List WayId). HasEdgeWays (forest_edges ts) z)
    (sym c.deref-2.ensures.value) c.in_ok-ways.ensures in
    all_first c.args.gts.now c.deref-2.result.now c.args.lister _ c.in-Some.ensures.first.0 c.in-Some.ensures.first.1
    (have_ways c.args.gts.now ts c.requires.own c.deref-2.result.now are c.args.lister c.requires.known)

pub returns-in_default-2 : goal.returns-in_default-2
returns-in_default-2 g c = λ system views dropped events later fault e h.
    let ts : List ModeTree = c.args.forest.now.trees.items in
    let are = subst (λ (z : List WayId). HasEdgeWays (forest_edges ts) z) (sym c.deref.ensures.value) c.in_ok-ways.ensures in
    let k = conflict_here (forest_edges ts) c.requires.one_way c.deref.result.now are c.args.gts.now c.args.lister
    c.requires.known (numbers_of_set c.in-Some.events.now) events c.in-Some.ensures.first.0 later
    c.in-Some.ensures.first.1 e
    system dropped fault h in
    let m = c.in_ok-fault.ensures.met system views dropped fault k in
    absurd (subst (IsMet fault) c.in_default-2.is m)

pub returns-in_err-fault_line : goal.returns-in_err-fault_line
returns-in_err-fault_line g c = λ system views dropped events later fault e h.
    let ts : List ModeTree = c.args.forest.now.trees.items in
    let are = subst (λ (z : List WayId). HasEdgeWays (forest_edges ts) z) (sym c.deref.ensures.value) c.in_ok-ways.ensures in
    let k = conflict_here (forest_edges ts) c.requires.one_way c.deref.result.now are c.args.gts.now c.args.lister
    c.requires.known (numbers_of_set c.in-Some.events.now) events c.in-Some.ensures.first.0 later
    c.in-Some.ensures.first.1 e
    system dropped fault h in
    let m = subst (IsMet fault) c.in-Some-2.is (c.in_ok-fault.ensures.met system views dropped fault k) in
    let too = subst (λ (z : List WayId). HasEdgeWays (forest_edges ts) z)
    (sym c.deref-2.ensures.value) c.in_ok-ways.ensures in
    let r = err_from_is_err_and c.from_residual-in_err-fault_line.result c.from_residual-in_err-fault_line.ensures.1 in
    failed c.from_residual-in_err-fault_line.result (r.1 ∙ ap Err r.2)
    (writes_as _ _ (same_text (forest_edges ts) c.requires.one_way c.deref-2.result.now too c.args.gts.now c.args.lister
    c.requires.known (numbers_of_set c.in-Some.events.now) events c.in-Some.ensures.first.0 later
    c.in-Some.ensures.first.1 e
    (fault_of c.in-Some-2.fault) fault m) c.in_err-fault_line.ensures)

pub returns : goal.returns
returns g c = λ system views dropped events later fault e h.
    let ts : List ModeTree = c.args.forest.now.trees.items in
    let are = subst (λ (z : List WayId). HasEdgeWays (forest_edges ts) z) (sym c.deref.ensures.value) c.in_ok-ways.ensures in
    let k = conflict_here (forest_edges ts) c.requires.one_way c.deref.result.now are c.args.gts.now c.args.lister
    c.requires.known (numbers_of_set c.in-Some.events.now) events c.in-Some.ensures.first.0 later
    c.in-Some.ensures.first.1 e
    system dropped fault h in
    let m = subst (IsMet fault) c.in-Some-2.is (c.in_ok-fault.ensures.met system views dropped fault k) in
    let too = subst (λ (z : List WayId). HasEdgeWays (forest_edges ts) z)
    (sym c.deref-2.ensures.value) c.in_ok-ways.ensures in
    writes_as _ _ (same_text (forest_edges ts) c.requires.one_way c.deref-2.result.now too c.args.gts.now c.args.lister
    c.requires.known (numbers_of_set c.in-Some.events.now) events c.in-Some.ensures.first.0 later
    c.in-Some.ensures.first.1 e
    (fault_of c.in-Some-2.fault) fault m) c.in_ok-fault_line.ensures
