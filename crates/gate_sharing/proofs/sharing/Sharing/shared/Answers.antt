use Rattle.std.proofs.Common.{map, refl}
use Rattle.eq_core.specs.Views.{gate_of}
use Rattle.gate_sharing.proofs.Sharings.{sharing_kept}
use Rattle.gate_sharing.proofs.sharing.Sharing.shared.Goals as goal

pub invariant_of-self : goal.invariant_of-self
invariant_of-self c =
    sharing_kept (map gate_of c.self.inside.gates.items) (map gate_of c.gate.new.gates.items)
    c.self.inside.known.entries c.self.inside.known.entries
    c.in_err-made.ensures.adds.grows c.in_err-made.ensures.ordered refl c.self.invariant

pub invariant_of-self-2 : goal.invariant_of-self-2
invariant_of-self-2 c =
    sharing_kept (map gate_of c.self.inside.gates.items) (map gate_of c.gate.new.gates.items)
    c.self.inside.known.entries c.self.inside.known.entries
    c.in_ok-made.ensures.adds.grows c.in_ok-made.ensures.ordered refl c.self.invariant
