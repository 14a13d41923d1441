use Rattle.std.proofs.Common.{sym}
use Rattle.std.proofs.lemmas.Result.{on_ok_weaker}
use Rattle.class_table.proofs.Searches.{opens_some}
use Rattle.class_table.proofs.containment.add_inside.Goals as goal

pub returns-in-Some : goal.returns-in-Some
returns-in-Some c = λ d known h. on_ok_weaker _ (λ k. opens_some d _ _ _ _ _ _ (sym (c.in-Some.ensures d known)) k)
    (c.add_one.ensures h)
