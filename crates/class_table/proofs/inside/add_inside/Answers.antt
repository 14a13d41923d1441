use Rattle.std.proofs.Common.{sym}
use Rattle.class_table.specs.Rows.AddsInside.{nothing, body}
use Rattle.class_table.proofs.inside.add_inside.Goals as goal

pub returns-in-None : goal.returns-in-None
returns-in-None c = λ d known. nothing (sym (c.in-None.ensures d known))

pub returns-in_ok-push-in-Some : goal.returns-in_ok-push-in-Some
returns-in_ok-push-in-Some c = λ d known. rw c.in_ok-push-in-Some.ensures.items (body (sym (c.in-Some.ensures d known)))
