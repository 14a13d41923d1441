use Rattle.ar_syntax.specs.declared.members.Member.{out-Member}
use Rattle.std.proofs.Common.{refl}
use Rattle.std.proofs.lemmas.List.{append-nil}
use Rattle.ar_base.proofs.Items.{along_push}
use Rattle.class_table.specs.TablesInside.{site_of}
use Rattle.unit_walks.specs.Forms.{clone, alias}
use Rattle.unit_walks.proofs.NameLists.{declares_none, declares_instances}
use Rattle.unit_walks.proofs.indexing.add_plain.Goals as goal

pub returns-in-None : goal.returns-in-None
unfolding out-Member denote.Hole.Carrier.out
returns-in-None c = λ d k gs h. rw c.in-Declare.is
    (rw (
      declares_none d c.args.classes.now (site_of c.args.site) c.in-Declare.type_name.form c.in-Declare.field-2.items
          c.in-Declare.names.items k c.in-None.ensures,
      append-nil,
    ) h)

pub returns-in-Some : goal.returns-in-Some
unfolding out-Member denote.Hole.Carrier.out
returns-in-Some c = λ d k. rw c.in-Declare.is
    (rw (declares_instances d c.args.classes.now (site_of c.args.site) c.in-Declare.type_name.form
    c.in-Declare.field-2.items c.in-Declare.names.items c.in-Some.body k c.in-Some.ensures)
    (rw c.deref.ensures.value at c.add_instances.ensures))

pub returns-in_ok-push-in-Clones : goal.returns-in_ok-push-in-Clones
unfolding out-Member denote.Hole.Carrier.out
returns-in_ok-push-in-Clones c = λ d k gs h. rw c.in-Clones.is
    (rw c.in_ok-push-in-Clones.ensures.items (along_push _ gs _ _ h (record { name = refl; form = clone refl })))

pub returns-in_ok-push-in-Embeds : goal.returns-in_ok-push-in-Embeds
unfolding out-Member denote.Hole.Carrier.out
returns-in_ok-push-in-Embeds c = λ d k gs h. rw c.in-Embeds.is
    (rw c.in_ok-push-in-Embeds.ensures.items (along_push _ gs _ _ h (record { name = refl; form = alias refl })))

pub returns-in-Extends : goal.returns-in-Extends
unfolding out-Member denote.Hole.Carrier.out
returns-in-Extends c = λ d k gs h. rw c.in-Extends.is (rw append-nil h)

pub returns-in-Block : goal.returns-in-Block
unfolding out-Member denote.Hole.Carrier.out
returns-in-Block c = λ d k gs h. rw c.in-Block.is (rw append-nil h)

pub returns-in-Parameter : goal.returns-in-Parameter
unfolding out-Member denote.Hole.Carrier.out
returns-in-Parameter c = λ d k gs h. rw c.in-Parameter.is (rw append-nil h)

pub returns-in-Kept : goal.returns-in-Kept
unfolding out-Member denote.Hole.Carrier.out
returns-in-Kept c = λ d k gs h. rw c.in-Kept.is (rw append-nil h)

pub returns-in-Event : goal.returns-in-Event
unfolding out-Member denote.Hole.Carrier.out
returns-in-Event c = λ d k gs h. rw c.in-Event.is (rw append-nil h)

pub returns-in-Observer : goal.returns-in-Observer
unfolding out-Member denote.Hole.Carrier.out
returns-in-Observer c = λ d k gs h. rw c.in-Observer.is (rw append-nil h)

pub returns-in-Hide : goal.returns-in-Hide
unfolding out-Member denote.Hole.Carrier.out
returns-in-Hide c = λ d k gs h. rw c.in-Hide.is (rw append-nil h)

pub returns-in-Local : goal.returns-in-Local
unfolding out-Member denote.Hole.Carrier.out
returns-in-Local c = λ d k gs h. rw c.in-Local.is (rw append-nil h)

pub returns-in-Sync : goal.returns-in-Sync
unfolding out-Member denote.Hole.Carrier.out
returns-in-Sync c = λ d k gs h. rw c.in-Sync.is (rw append-nil h)

pub returns-in-Assert : goal.returns-in-Assert
unfolding out-Member denote.Hole.Carrier.out
returns-in-Assert c = λ d k gs h. rw c.in-Assert.is (rw append-nil h)
