use Rattle.ar_base.proofs.Results.{ok_map}
use Rattle.ar_syntax.specs.declared.instructions.Instr.{out-Instr}
use Rattle.bind_names.specs.declared.leaves.UnitLeaves.{UnitLeaves}
use Rattle.bind_names.proofs.Acting.{instruction_bound, instruction_sound}
use Rattle.bind_names.proofs.Settling.{settled_leaves}
use Rattle.bind_names.proofs.numbered_instructions.bound.Goals as goal

pub returns : goal.returns
returns c = λ m units u to_state s at keeps.
    let leaves : UnitLeaves = record { scopes = c.args.scopes; unit = c.args.unit; parameters = c.deref.result } in
    let h = settled_leaves leaves c.args.values.now s at c.deref.ensures.value in
    let whole = out-Instr c.args.written.now in
    ok_map c.acted.result
    (λ a x. (instruction_bound h to_state whole a keeps x, instruction_sound h to_state whole a keeps x))
    c.acted.ensures
