use Rattle.std.proofs.Common.{false}
use Rattle.ar_base.proofs.Results.{ok_map}
use Rattle.bind_names.proofs.Settling.{settled_assertion}
use Rattle.bind_names.proofs.numbered_instructions.assertion.Goals as goal

pub returns-clause-bound : goal.returns-clause-bound
returns-clause-bound c = λ m units u s stands f. ok_map c.bound.result (λ a w. w.0)
    (c.bound.ensures m units u false s stands (settled_assertion s c.args.unit.n u stands c.args.written.now f))

pub returns-clause-sound : goal.returns-clause-sound
returns-clause-sound c = λ m units u s stands f. ok_map c.bound.result (λ a w. w.1)
    (c.bound.ensures m units u false s stands (settled_assertion s c.args.unit.n u stands c.args.written.now f))
