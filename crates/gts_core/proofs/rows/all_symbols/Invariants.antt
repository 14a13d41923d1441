use Rattle.std.proofs.Common.{◌≡◌, map, take}
use Rattle.domains.specs.declared.Value.TheVariants.{Symbol}
use Rattle.gts_core.proofs.rows.all_symbols.Given as goal

abbrev pub invariant-loop-symbol : goal.invariant-loop-symbol
invariant-loop-symbol l = l.found.items ≡ map Symbol (take l.symbol-index l.symbols)
