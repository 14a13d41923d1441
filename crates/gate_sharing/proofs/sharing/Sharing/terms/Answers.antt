use Rattle.std.proofs.Common.{length}
use Rattle.gate_sharing.proofs.Absorbings.{literal_below}
use Rattle.gate_sharing.proofs.Voting.{terms_next}
use Rattle.gate_sharing.proofs.sharing.Sharing.terms.Goals as goal

pub add_terms-requires : goal.add_terms-requires
add_terms-requires c =
    literal_below (length c.args.self.now) c.args.literals.now c.loop-literal.literal-index _ c.loop-literal-test.true c.requires

pub loop-literal-preserved : goal.loop-literal-preserved
loop-literal-preserved c =
    terms_next c.args.self.now c.args.literals.now c.loop-literal.literal-index _ c.loop-literal.terms.items c.add_terms.new.terms.items
    c.loop-literal-test.true c.loop-literal.invariant (c.in_ok-add_terms.ensures c.if-not-branch.false)
