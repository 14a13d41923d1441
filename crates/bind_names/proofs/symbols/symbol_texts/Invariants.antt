use Rattle.std.proofs.Common.{◌≡◌, List, map, take}
use Rattle.hierarchy.specs.Models.{RootedModel}
use Rattle.hierarchy.specs.Paths.{name_text}
use Rattle.hierarchy.specs.Tie.{IsTreeOf}
use Rattle.hierarchy.specs.Units.{UnitPath}
use Rattle.bind_names.proofs.symbols.symbol_texts.Given as goal

abbrev pub invariant-loop-symbol : goal.invariant-loop-symbol
invariant-loop-symbol l = (m : RootedModel) (units : List UnitPath) → IsTreeOf m units l.tree
    → l.texts.items ≡ map (name_text m) (take l.symbol-index m.declared.symbols)
