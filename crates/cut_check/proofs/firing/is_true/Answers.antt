use Rattle.std.proofs.Common.{◌≡◌, ◌∙◌, Bool, List, ap, sym, subst, rules}
use Rattle.domains.specs.Same.{is_same}
use Rattle.domains.specs.declared.Value.{Value}
use Rattle.ar_meaning.specs.Found.{IsAnswer}
use Rattle.gts_core.specs.Readings.{IsTotal, value_in}
use Rattle.gts_core.specs.View.{numbered}
use Rattle.gts_core.specs.declared.system.GtsParts.{GtsParts}
use Rattle.gts_core.proofs.Tests.{answer_true, answer_false}
use Rattle.job_inputs.specs.Chains.{chain_labels}
use Rattle.cut_check.specs.Rows.{IsFit}
use Rattle.cut_check.specs.Verdicts.{IsTrueLine}
use Rattle.cut_check.proofs.TruthLemmas.{true_fit, are_open, fired_answer}
use Rattle.cut_check.proofs.firing.is_true.Goals as goal

pub returns-then-not-fit-clause-answer : goal.returns-then-not-fit-clause-answer
returns-then-not-fit-clause-answer c = λ system views dropped fit h k.
    let p = c.args.gts.now in
    answer_false c.args.fit (IsFit p dropped (chain_labels p c.args.ways.now)) c.if-not-fit.true fit
    (true_fit p c.requires.sound system views dropped (numbered c.args.observer.now.value) c.args.wanted
    (chain_labels p c.args.ways.now) k)

pub returns-then-not-done-clause-fired : goal.returns-then-not-done-clause-fired
returns-then-not-done-clause-fired c = λ system views dropped fit h.
    let p = c.args.gts.now in
    let op = are_open p c.requires.sound system views dropped c.args.ways.now c.requires.known
    (answer_true c.args.fit (IsFit p dropped (chain_labels p c.args.ways.now)) c.if-not-fit.false fit) in
    c.in_ok-done.ensures.fired system views dropped op (c.go_back.ensures.fired system dropped h)

pub returns-then-not-done-clause-answer : goal.returns-then-not-done-clause-answer
returns-then-not-done-clause-answer c = λ system views dropped fit h k.
    let p = c.args.gts.now in
    let op = are_open p c.requires.sound system views dropped c.args.ways.now c.requires.known
    (answer_true c.args.fit (IsFit p dropped (chain_labels p c.args.ways.now)) c.if-not-fit.false fit) in
    c.in_ok-done.ensures.stops system views dropped op (c.go_back.ensures.fired system dropped h) c.if-not-done.true
    k.values k.reaches

pub returns-clause-fired : goal.returns-clause-fired
returns-clause-fired c = λ system views dropped fit h.
    let p = c.args.gts.now in
    let op = are_open p c.requires.sound system views dropped c.args.ways.now c.requires.known
    (answer_true c.args.fit (IsFit p dropped (chain_labels p c.args.ways.now)) c.if-not-fit.false fit) in
    c.in_ok-done.ensures.fired system views dropped op (c.go_back.ensures.fired system dropped h)

pub returns-clause-answer : goal.returns-clause-answer
returns-clause-answer c = λ system views dropped fit h.
    let p = c.args.gts.now in
    let o = c.args.observer.now in
    let its = answer_true c.args.fit (IsFit p dropped (chain_labels p c.args.ways.now)) c.if-not-fit.false fit in
    let op = are_open p c.requires.sound system views dropped c.args.ways.now c.requires.known its in
    let end = c.go_on.new.stepper in
    let total = subst (λ (q : GtsParts). IsTotal q end.values)
    (c.in_ok-done.ensures.system ∙ c.go_back.ensures.system ∙ c.requires.same) c.values.ensures.total in
    let shown : c.eq.result ≡ is_same (value_in c.deref.result.now o.value) c.args.wanted = search rules in
    let same = shown ∙ ap (λ (t : List Value). is_same (value_in t o.value) c.args.wanted)
    (c.deref.ensures.value ∙ c.values.ensures.values) in
    subst (λ (b : Bool). IsAnswer b (IsTrueLine system dropped (numbered o.value) c.args.wanted
    (chain_labels p c.args.ways.now))) (sym same)
    (fired_answer p c.requires.sound system views dropped o c.requires.observer c.args.wanted c.args.ways.now
    c.go_on.new.fired.items end total (c.in_ok-done.ensures.all c.if-not-done.false) its
    (c.in_ok-done.ensures.fired system views dropped op (c.go_back.ensures.fired system dropped h)))
