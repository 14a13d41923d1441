use Rattle.std.proofs.Common.{◌≡◌, length, nat_eq, rules, false}
use Rattle.ar_io.proofs.Writing.{writes_as}
use Rattle.gts_core.proofs.Texts.{some_text}
use Rattle.gts_core.proofs.print.action.Goals as goal

pub returns-else-is_empty : goal.returns-else-is_empty
returns-else-is_empty g c =
    let some : nat_eq (length c.args.assigns.now) 0 ≡ false = search rules in
    writes_as _ _ (some_text c.args.parts.now c.args.assigns.now some) c.sets.ensures
