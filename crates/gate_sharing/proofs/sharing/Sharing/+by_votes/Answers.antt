use Rattle.std.proofs.Common.{List, Ok, IfSome, MatchOption, sym, subst}
use Rattle.eq_core.specs.Gates.{Gate}
use Rattle.gate_sharing.specs.Literals.{literal_operands, AreEnough, AreNeverAll}
use Rattle.gate_sharing.specs.Sharing.{AddsGates}
use Rattle.gate_sharing.specs.Votes.{IsVoteOf}
use Rattle.gate_sharing.proofs.Sharings.{enough_of_all}
use Rattle.gate_sharing.proofs.Voting.{voted_made}
use Rattle.gate_sharing.proofs.sharing.Sharing.+by_votes.Goals as goal

pub keep-requires : goal.keep-requires
keep-requires t c =
    let old = c.args.self.now in
    let os = literal_operands c.args.literals.now in
    let is = subst (λ z. IfSome z (λ v. IsVoteOf old os v)) c.in-Some.is c.in_ok-vote.ensures in
    let enough : AreEnough os (literal_operands c.in-Some-2.key.all.items) =
    subst (λ z. MatchOption z (AreNeverAll os) (λ key. AreEnough os (literal_operands key.all.items))) c.in-Some-2.is c.in_ok-key.ensures in
    enough_of_all enough
    (voted_made old c.spend.new.self c.by_votes.new.self c.by_votes-2.new.self c.decide.new.self os c.in-Some.vote c.deref.result.now
    c.deref-2.result.now c.in_ok-with.with c.in_ok-without.without c.in_ok-made.made is c.requires c.spend.ensures
    c.deref.ensures.value c.deref-2.ensures.value c.in_ok-with.ensures c.in_ok-without.ensures c.in_ok-made.ensures).made

pub returns : goal.returns
returns t c =
    let old = c.args.self.now in
    let os = literal_operands c.args.literals.now in
    let is = subst (λ z. IfSome z (λ v. IsVoteOf old os v)) c.in-Some.is c.in_ok-vote.ensures in
    subst (λ (z : List Gate). AddsGates os old z (Ok c.in_ok-made.made)) (sym c.in_ok-keep.ensures)
    (voted_made old c.spend.new.self c.by_votes.new.self c.by_votes-2.new.self c.decide.new.self os c.in-Some.vote c.deref.result.now
    c.deref-2.result.now c.in_ok-with.with c.in_ok-without.without c.in_ok-made.made is c.requires c.spend.ensures
    c.deref.ensures.value c.deref-2.ensures.value c.in_ok-with.ensures c.in_ok-without.ensures c.in_ok-made.ensures)
