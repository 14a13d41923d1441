use Rattle.ar_syntax.specs.declared.members.Member.{out-Member}
use Rattle.class_table.proofs.Taken.{item_stands}
use Rattle.bind_scopes.proofs.Siting.{setting_written, setting_past}
use Rattle.bind_scopes.proofs.sites.written_in.Goals as goal

pub returns-in-Some-get : goal.returns-in-Some-get
unfolding out-Member denote.Hole.Carrier.out
returns-in-Some-get c = rw c.in-Plain.is (rw c.in-Some.is (rw c.in-Declare.is (
    let l = rw c.deref.ensures.value at c.in-Some-get.ensures.lookup.3.0 in
    let e = rw c.deref.ensures.value at c.in-Some-get.ensures.lookup.1 in
    setting_written c.in-Declare.settings.items c.in-Some.place c.in-Some-get.found.now
    (item_stands c.in-Declare.settings.items c.in-Some.place c.in-Some-get.found.now l e))))

pub returns-in-None-get : goal.returns-in-None-get
unfolding out-Member denote.Hole.Carrier.out
returns-in-None-get c = rw c.in-Plain.is (rw c.in-Some.is (rw c.in-Declare.is (
    let l = rw c.deref.ensures.value at c.in-None-get.ensures.lookup.3 in
    setting_past c.in-Declare.settings.items c.in-Some.place l)))
