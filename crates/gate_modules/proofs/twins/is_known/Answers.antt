use Rattle.std.proofs.Common.{ℕ, subst}
use Rattle.ar_base.proofs.Standing.{stands_get}
use Rattle.zdd_nodes.specs.Nodes.{Stored, family}
use Rattle.gate_modules.specs.Ends.{Agree}
use Rattle.gate_modules.specs.Walked.{IsAskedPair, HaveTwinFamilies}
use Rattle.gate_modules.specs.declared.twins.Twin.{Twin}
use Rattle.gate_modules.specs.declared.twins.Question.{Question}
use Rattle.gate_modules.proofs.twins.is_known.Goals as goal

told : (s : Stored) (t : Twin) (asked : Question) (n m : ℕ) → IsAskedPair t asked m
    → Agree t.to (family s n) (family s t.node.n) (family s t.end.n) (family s t.node_end.n) → HaveTwinFamilies s asked n m
told s t asked n m is g =
    subst (λ z. Agree asked.to (family s n) (family s m) (family s asked.end.n) (family s z)) is.node_end
    (subst (λ z. Agree asked.to (family s n) (family s m) (family s z) (family s t.node_end.n)) is.end
    (subst (λ z. Agree asked.to (family s n) (family s z) (family s t.end.n) (family s t.node_end.n)) is.node
    (subst (λ z. Agree z (family s n) (family s t.node.n) (family s t.end.n) (family s t.node_end.n)) is.to g)))

pub returns-then-known-gt0 : goal.returns-then-known-gt0
returns-then-known-gt0 c = λ s known yes. told s _ c.args.asked c.args.first.n c.args.second.n (c.is_asked.ensures yes)
    (known.each c.args.first.n _ (stands_get c.args.twins.now c.args.first.n _ c.requires.room) c.if-known-gt0.true)
