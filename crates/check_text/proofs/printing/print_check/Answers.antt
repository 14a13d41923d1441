use Rattle.std.proofs.Common.{◌≡◌, ◌&&◌, ◌∙◌, Bool, List, Err, refl, ap, sym, subst}
use Rattle.std.proofs.lemmas.Result.{err_from_is_err_and}
use Rattle.ar_base.specs.Numbers.{WayId}
use Rattle.ar_io.proofs.Writing.{writes_on, writes_front, writes_as}
use Rattle.mode_trees.specs.declared.forests.ModeTree.{ModeTree}
use Rattle.cut_check.specs.Flat.{chain_lines}
use Rattle.cut_text.specs.Printed.{forest_edges}
use Rattle.cut_text.specs.Tables.{HasEdgeWays}
use Rattle.check_text.specs.Printed.{all_verdicts_good, all_listed}
use Rattle.cut_text.proofs.Answering.{failed}
use Rattle.cut_text.proofs.Known.{have_ways}
use Rattle.check_text.proofs.Listing.{whole_text, set_numbers}
use Rattle.check_text.proofs.printing.print_check.Goals as goal

pub missing_lines-requires-clause-ways : goal.missing_lines-requires-clause-ways
missing_lines-requires-clause-ways g c =
    let ts : List ModeTree = c.args.forest.now.trees.items in
    have_ways c.args.gts.now ts c.requires.own c.deref.result.now
    (subst (λ (z : List WayId). HasEdgeWays (forest_edges ts) z) (sym c.deref.ensures.value) c.in_ok-ways.ensures)
    c.args.lister c.requires.known

pub missing_lines-requires-clause-events : goal.missing_lines-requires-clause-events
missing_lines-requires-clause-events g c =
    set_numbers c.args.gts.now c.parts-sound_parts.ensures.sound c.args.forest.now.trees.items c.requires.own c.args.lister
    c.requires.known

pub missing_lines-requires-clause-sets : goal.missing_lines-requires-clause-sets
missing_lines-requires-clause-sets g c =
    record { lines = chain_lines c.args.gts.now c.args.list.now.short.now; are = c.in_ok-sets.ensures }

pub returns-in_err-verdict_lines : goal.returns-in_err-verdict_lines
returns-in_err-verdict_lines g c =
    let ts : List ModeTree = c.args.forest.now.trees.items in
    let r = err_from_is_err_and c.from_residual-in_err-verdict_lines.result
    c.from_residual-in_err-verdict_lines.ensures.1 in
    failed c.from_residual-in_err-verdict_lines.result (r.1 ∙ ap Err r.2)
    (writes_as _ _ (whole_text (forest_edges ts) c.requires.one_way c.in_ok-ways.ways.items c.in_ok-ways.ensures
    c.args.gts.now c.args.list.now.order c.args.list.now.chains.now c.args.list.now.short.now c.args.list.now.verdicts.now c.args.lister c.requires.known _ refl)
    (writes_front _ _ c.in_err-verdict_lines.ensures))

pub returns-in_err-missing_lines : goal.returns-in_err-missing_lines
returns-in_err-missing_lines g c =
    let ts : List ModeTree = c.args.forest.now.trees.items in
    let are = subst (λ (z : List WayId). HasEdgeWays (forest_edges ts) z) (sym c.deref.ensures.value) c.in_ok-ways.ensures in
    let r = err_from_is_err_and c.from_residual-in_err-missing_lines.result
    c.from_residual-in_err-missing_lines.ensures.1 in
    failed c.from_residual-in_err-missing_lines.result (r.1 ∙ ap Err r.2)
    (writes_as _ _ (whole_text (forest_edges ts) c.requires.one_way c.deref.result.now are c.args.gts.now c.args.list.now.order c.args.list.now.chains.now c.args.list.now.short.now
    c.args.list.now.verdicts.now c.args.lister c.requires.known _ refl)
    (writes_on c.in_ok-verdict_lines.ensures (writes_front _ _ (c.in_err-missing_lines.ensures.text (chain_lines c.args.gts.now c.args.list.now.short.now) c.in_ok-sets.ensures))))

pub returns-in_err-answer : goal.returns-in_err-answer
returns-in_err-answer g c =
    let ts : List ModeTree = c.args.forest.now.trees.items in
    let are = subst (λ (z : List WayId). HasEdgeWays (forest_edges ts) z) (sym c.deref.ensures.value) c.in_ok-ways.ensures in
    let r = err_from_is_err_and c.from_residual-in_err-answer.result c.from_residual-in_err-answer.ensures.1 in
    let b : c.both.result ≡ (all_verdicts_good c.args.list.now.verdicts.now && all_listed
    (chain_lines c.args.gts.now c.args.list.now.short.now) c.args.lister) =
    c.both.ensures ∙ ap (λ (z : Bool). z && c.missing_lines.new.whole) c.all_good-good.ensures
    ∙ ap (λ (z : Bool). all_verdicts_good c.args.list.now.verdicts.now && z) (c.in_ok-missing_lines.ensures.whole (chain_lines c.args.gts.now c.args.list.now.short.now) c.in_ok-sets.ensures) in
    failed c.from_residual-in_err-answer.result (r.1 ∙ ap Err r.2)
    (writes_as _ _ (whole_text (forest_edges ts) c.requires.one_way c.deref.result.now are c.args.gts.now c.args.list.now.order c.args.list.now.chains.now c.args.list.now.short.now
    c.args.list.now.verdicts.now c.args.lister c.requires.known c.both.result b)
    (writes_on c.in_ok-verdict_lines.ensures (writes_on (c.in_ok-missing_lines.ensures.text (chain_lines c.args.gts.now c.args.list.now.short.now) c.in_ok-sets.ensures) c.in_err-answer.ensures)))

pub returns : goal.returns
returns g c =
    let ts : List ModeTree = c.args.forest.now.trees.items in
    let are = subst (λ (z : List WayId). HasEdgeWays (forest_edges ts) z) (sym c.deref.ensures.value) c.in_ok-ways.ensures in
    let b : c.both.result ≡ (all_verdicts_good c.args.list.now.verdicts.now && all_listed
    (chain_lines c.args.gts.now c.args.list.now.short.now) c.args.lister) =
    c.both.ensures ∙ ap (λ (z : Bool). z && c.missing_lines.new.whole) c.all_good-good.ensures
    ∙ ap (λ (z : Bool). all_verdicts_good c.args.list.now.verdicts.now && z) (c.in_ok-missing_lines.ensures.whole (chain_lines c.args.gts.now c.args.list.now.short.now) c.in_ok-sets.ensures) in
    writes_as _ _ (whole_text (forest_edges ts) c.requires.one_way c.deref.result.now are c.args.gts.now c.args.list.now.order c.args.list.now.chains.now c.args.list.now.short.now
    c.args.list.now.verdicts.now c.args.lister c.requires.known c.both.result b)
    (writes_on c.in_ok-verdict_lines.ensures (writes_on (c.in_ok-missing_lines.ensures.text (chain_lines c.args.gts.now c.args.list.now.short.now) c.in_ok-sets.ensures) c.in_ok-answer.ensures))
