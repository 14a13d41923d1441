use Rattle.std.proofs.Common.{◌≡◌, ◌++◌, drop, map}
use Rattle.check_text.specs.Printed.{chains_within, chain_parts}
use Rattle.check_text.proofs.short.short_chains.Given as goal

-- the short ones so far, and those of the chains that are left
abbrev pub invariant-loop-chain : goal.invariant-loop-chain
invariant-loop-chain l =
    (map chain_parts l.short.items ++ map chain_parts (chains_within l.order (drop l.chain-index l.chains)))
    ≡ map chain_parts (chains_within l.order l.chains)
