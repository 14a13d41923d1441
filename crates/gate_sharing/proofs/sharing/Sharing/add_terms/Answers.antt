use Rattle.gate_sharing.specs.Literals.{literal_of}
use Rattle.gate_sharing.proofs.Voting.{adds_term, adds_terms}
use Rattle.gate_sharing.proofs.sharing.Sharing.add_terms.Goals as goal

pub returns-in-Some : goal.returns-in-Some
returns-in-Some c = λ yes.
    adds_term c.args.self.now (literal_of c.args.literal) c.args.terms.now.items c.push.new.self.items c.in-Some.term
    c.in-Some.ensures c.in_ok-push.ensures.items

pub returns : goal.returns
returns c = λ yes.
    adds_terms c.args.self.now (literal_of c.args.literal) c.args.terms.now.items c.push-2.new.self.items c.push-3.new.self.items
    c.in-Some-term_for.parts c.in-Some-term_for-2.first c.in-Some-term_for-3.second c.in-Some-term_for.ensures
    c.in-Some-term_for-2.ensures c.in-Some-term_for-3.ensures c.in_ok-push-2.ensures.items c.in_ok-push-3.ensures.items
