use Rattle.std.proofs.Common.{◌∙◌, ap}
use Rattle.flow_blocks.specs.Bits.{row_of}
use Rattle.module_text.proofs.Placing.{more_room}
use Rattle.module_text.proofs.places.make_room.Goals as goal

pub loop-alloc-preserved : goal.loop-alloc-preserved
loop-alloc-preserved c = λ e.
    ap (λ z. row_of z e) c.in_ok-push.ensures.items
    ∙ more_room c.loop-alloc.places.items c.new-none.result c.new-none.ensures.items e ∙ c.loop-alloc.invariant e
