use Rattle.std.proofs.Common.{map, refl}
use Rattle.std.proofs.lemmas.Result.{err_from_is_err_and}
use Rattle.job_inputs.specs.CutLines.{texts_in}
use Rattle.job_inputs.specs.Chains.{cut_of, chain_labels}
use Rattle.job_inputs.specs.CutLists.{no_cut}
use Rattle.job_inputs.proofs.CutLineLemmas.{one_cut}
use Rattle.job_inputs.proofs.CutListLemmas.{adds_nothing, adds_cut, labels_bad, one_added, chains_more, line_passed}
use Rattle.job_inputs.proofs.cut_lists.add_cut.Goals as goal

pub returns-in-Passed-clause-added : goal.returns-in-Passed-clause-added
returns-in-Passed-clause-added c = λ x of. adds_nothing _ c.in-Passed.ensures

pub returns-in-NoCut-clause-bad : goal.returns-in-NoCut-clause-bad
returns-in-NoCut-clause-bad c = λ x of. (refl, no_cut c.in-NoCut.ensures.0 c.in-NoCut.ensures.1)

pub returns-in_err-ways-clause-bad : goal.returns-in_err-ways-clause-bad
returns-in_err-ways-clause-bad c = λ x of.
    let r = err_from_is_err_and c.from_residual.result c.from_residual.ensures.1 in
    line_passed x c.args.line.now c.args.number _ _ _ r.1 r.2
    (labels_bad x c.args.gts.now c.args.line.now (texts_in c.in-Labels.inner.now) c.args.number _ c.in-Labels.ensures.0
    c.in-Labels.ensures.1 (c.in_err-ways.ensures x of))

pub returns-clause-added : goal.returns-clause-added
returns-clause-added c = λ x of.
    let p = c.args.gts.now in
    let line = c.args.line.now in
    let old = c.args.chains.now.items in
    let a = c.in_ok-ways.ensures x of in
    one_added p x line c.args.number old c.push.new.self.items
    (record { line = c.args.number; ways = c.in_ok-ways.ways }) c.in_ok-push.ensures.items
    (adds_cut (map (cut_of p) old) (texts_in c.in-Labels.inner.now) (chain_labels p c.in_ok-ways.ways.items)
    c.in-Labels.ensures.0 c.in-Labels.ensures.1 a.0
    (λ others d. one_cut line (texts_in c.in-Labels.inner.now) others c.in-Labels.ensures.1 d) a.2)

pub returns-clause-known : goal.returns-clause-known
returns-clause-known c = λ x of h.
    let a = c.in_ok-ways.ensures x of in
    chains_more c.args.gts.now c.args.chains.now.items c.push.new.self.items
    (record { line = c.args.number; ways = c.in_ok-ways.ways }) c.in_ok-push.ensures.items a.1 h
