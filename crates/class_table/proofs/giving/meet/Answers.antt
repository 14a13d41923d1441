use Rattle.ar_syntax.specs.declared.members.Member.{out-Member}
use Rattle.std.proofs.Common.{ℕ, List, ◌++◌, map, ap, sym, ◌∙◌}
use Rattle.std.proofs.lemmas.List.{append-nil}
use Rattle.ar_base.specs.declared.places.Place.{Place}
use Rattle.class_table.specs.Names.{name_and_place}
use Rattle.class_table.proofs.Taken.{map_join}
use Rattle.class_table.proofs.MemberNames.{declared_names}
use Rattle.class_table.proofs.giving.meet.Goals as goal

pub returns-in_ok-extend_from_slice-in-Declare : goal.returns-in_ok-extend_from_slice-in-Declare
unfolding out-Member denote.Hole.Carrier.out
returns-in_ok-extend_from_slice-in-Declare c = λ d s known. rw c.in-Plain.is (rw c.in-Declare.is
    (ap (map name_and_place) c.in_ok-extend_from_slice-in-Declare.ensures.items
    ∙ (map_join name_and_place c.args.names.now.items c.deref.result.now
    ∙ ap (λ (ns : List (ℕ × Place)). map name_and_place c.args.names.now.items ++ ns)
    (ap (map name_and_place) c.deref.ensures.value
    ∙ declared_names d s c.in-Declare.type_name.form c.in-Declare.field-2.items c.in-Declare.list.items
    (c.if-is_declared.ensures d known)))))

pub returns-in-Extends : goal.returns-in-Extends
unfolding out-Member denote.Hole.Carrier.out
returns-in-Extends c = λ d s known. rw c.in-Plain.is (rw c.in-Extends.is (sym (append-nil _)))

pub returns-in-Block : goal.returns-in-Block
unfolding out-Member denote.Hole.Carrier.out
returns-in-Block c = λ d s known. rw c.in-Plain.is (rw c.in-Block.is (sym (append-nil _)))

pub returns-in-Hide : goal.returns-in-Hide
unfolding out-Member denote.Hole.Carrier.out
returns-in-Hide c = λ d s known. rw c.in-Plain.is (rw c.in-Hide.is (sym (append-nil _)))

pub returns-in-Local : goal.returns-in-Local
unfolding out-Member denote.Hole.Carrier.out
returns-in-Local c = λ d s known. rw c.in-Plain.is (rw c.in-Local.is (sym (append-nil _)))

pub returns-in-Sync : goal.returns-in-Sync
unfolding out-Member denote.Hole.Carrier.out
returns-in-Sync c = λ d s known. rw c.in-Plain.is (rw c.in-Sync.is (sym (append-nil _)))

pub returns-in-Assert : goal.returns-in-Assert
unfolding out-Member denote.Hole.Carrier.out
returns-in-Assert c = λ d s known. rw c.in-Plain.is (rw c.in-Assert.is (sym (append-nil _)))
