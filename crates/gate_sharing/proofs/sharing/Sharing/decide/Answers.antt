use Rattle.eq_core.specs.Views.{operand_of}
use Rattle.gate_sharing.proofs.Voting.{vote_decided}
use Rattle.gate_sharing.proofs.sharing.Sharing.decide.Goals as goal

pub returns : goal.returns
returns c =
    vote_decided c.args.self.now c.either.new.self c.args.vote.now (operand_of c.args.with) (operand_of c.args.without)
    (operand_of c.with_sign-larger.result) (operand_of c.with_sign-smaller.result) c.in_ok-either.either c.with_sign.result
    c.with_sign-larger.ensures c.with_sign-smaller.ensures c.in_ok-either.ensures c.with_sign.ensures
