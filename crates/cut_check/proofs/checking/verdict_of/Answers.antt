use Rattle.std.proofs.Common.{Bool, false, get_or, subst, arith}
use Rattle.ar_base.specs.Lists.{Stands}
use Rattle.ar_base.proofs.Standing.{stands_get}
use Rattle.cut_check.proofs.HoldLemmas.{says_fails, says_holds, says_good}
use Rattle.cut_check.proofs.checking.verdict_of.Goals as goal

pub returns-then-not-truths-n : goal.returns-then-not-truths-n
returns-then-not-truths-n c = λ system dropped observer wanted lines have truth.
    let ts = c.args.truths.now in
    says_fails system dropped observer wanted lines c.args.rows.now ts c.args.chains.now have truth c.args.n
    (omega (arith, c.requires.inside, c.requires.rows))
    (subst (λ (b : Bool). Stands ts c.args.n b) c.if-not-truths-n.true
    (stands_get ts c.args.n false (omega (arith, c.requires.inside, c.requires.truths))))

pub returns-in-Some : goal.returns-in-Some
returns-in-Some c = λ system dropped observer wanted lines have truth.
    let ts = c.args.truths.now in
    let chains = c.args.chains.now in
    says_holds system dropped observer wanted lines c.args.rows.now ts chains have truth c.args.n
    (omega (arith, c.requires.inside, c.requires.rows))
    (subst (λ (b : Bool). Stands ts c.args.n b) c.if-not-truths-n.false
    (stands_get ts c.args.n false (omega (arith, c.requires.inside, c.requires.truths))))
    c.in-Some.k (get_or chains c.in-Some.k c.index-chains-k.result)
    (stands_get chains c.in-Some.k c.index-chains-k.result
    (omega (arith, c.in-Some.ensures.inside, c.requires.rows)))
    (c.in-Some.ensures.held lines have)

pub returns-in-None : goal.returns-in-None
returns-in-None c = λ system dropped observer wanted lines have truth.
    let ts = c.args.truths.now in
    says_good system dropped observer wanted lines c.args.rows.now ts c.args.chains.now have truth c.args.n
    (omega (arith, c.requires.inside, c.requires.rows))
    (subst (λ (b : Bool). Stands ts c.args.n b) c.if-not-truths-n.false
    (stands_get ts c.args.n false (omega (arith, c.requires.inside, c.requires.truths))))
    (c.in-None.ensures.held lines have)
