use Rattle.std.proofs.Common.{take}
use Rattle.written_forms.specs.Acting.{All_act}
use Rattle.written_forms.proofs.acting.+acts.Given as goal

abbrev pub invariant-all_acted-loop-instr : goal.invariant-all_acted-loop-instr
invariant-all_acted-loop-instr g l = All_act (g.L.Leaves.leaf_at l.leaves) (take l.instr-index l.instrs) l.out.items
