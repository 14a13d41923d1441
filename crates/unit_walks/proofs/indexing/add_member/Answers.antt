use Rattle.std.proofs.Common.{refl}
use Rattle.ar_base.proofs.Items.{along_push}
use Rattle.unit_walks.specs.Forms.{inner}
use Rattle.unit_walks.proofs.indexing.add_member.Goals as goal

pub returns-in-Plain : goal.returns-in-Plain
returns-in-Plain c = λ d k. rw c.in-Plain.is (c.add_plain.ensures d k)

pub returns-in_ok-push-in-Nested : goal.returns-in_ok-push-in-Nested
returns-in_ok-push-in-Nested c = λ d k gs h. rw c.in-Nested.is
    (rw c.in_ok-push-in-Nested.ensures.items (along_push _ gs _ _ h (record { name = refl; form = inner refl refl })))
