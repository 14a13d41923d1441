use Rattle.std.proofs.Common.{◌≡◌, take}
use Rattle.ar_base.specs.Lists.{IsOneOf}
use Rattle.ar_base.specs.Numbers.{VarId}
use Rattle.mode_search.proofs.modes.is_alone.Given as goal

abbrev pub invariant-loop-name : goal.invariant-loop-name
invariant-loop-name l = (x : VarId) → IsOneOf (take l.name-index l.names) x → x.n ≡ l.variable.n
