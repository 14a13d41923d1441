use Rattle.std.proofs.Common.{take}
use Rattle.flow_blocks.specs.Table.{members_of}
use Rattle.tree_equations.specs.Blocks.{blocks_in, ArePlacedBlocks}
use Rattle.tree_equations.proofs.index.numbered_blocks.Given as goal

abbrev pub invariant-loop-block : goal.invariant-loop-block
invariant-loop-block l = ArePlacedBlocks l.flows (members_of (take l.block-index l.blocks)) (blocks_in l.found.items)
