use Rattle.std.proofs.Common.{◌≡◌, ◌||◌, Bool, true, false, refl, ◌∙◌}
use Rattle.gate_diagrams.proofs.Stepping.{node_has, node_lacks}
use Rattle.gate_diagrams.proofs.states.first_event.Goals as goal

alone : (c : Bool) → (c || false) ≡ c
alone true = refl
alone false = refl

pub returns : goal.returns
returns c =
    let i = c.in_ok-event.ensures.halves in (
      alone _ ∙ node_has c.args.trees.now c.args.tree.n c.in_ok-event.event.n c.in_ok-event.field-0-1.n
          c.in_ok-event.field-0-2.n i c.requires,
      λ x l. alone _ ∙ node_lacks c.args.trees.now c.args.tree.n c.in_ok-event.event.n c.in_ok-event.field-0-1.n
          c.in_ok-event.field-0-2.n i c.requires x l,
    )
