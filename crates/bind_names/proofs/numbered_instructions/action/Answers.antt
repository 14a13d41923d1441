use Rattle.std.proofs.Common.{true}
use Rattle.ar_base.proofs.Results.{ok_map}
use Rattle.bind_names.proofs.Settling.{settled_action}
use Rattle.bind_names.proofs.numbered_instructions.action.Goals as goal

pub returns-clause-bound : goal.returns-clause-bound
returns-clause-bound c = λ m units u x at guard s stands f. ok_map c.bound.result (λ a w. w.0)
    (c.bound.ensures m units u true s stands (settled_action s c.args.unit.n u stands c.args.written.now x at guard f))

pub returns-clause-sound : goal.returns-clause-sound
returns-clause-sound c = λ m units u x at guard s stands f. ok_map c.bound.result (λ a w. w.1)
    (c.bound.ensures m units u true s stands (settled_action s c.args.unit.n u stands c.args.written.now x at guard f))
