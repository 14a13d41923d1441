use Rattle.std.proofs.Common.{◌++◌, List, subst, arith}
use Rattle.std.proofs.lemmas.List.{take_all, append-nil}
use Rattle.ar_base.specs.Lists.{Along}
use Rattle.ar_base.specs.Numbers.{NameId}
use Rattle.ar_base.specs.declared.places.Place.{Place}
use Rattle.class_table.specs.TablesInside.{site_of}
use Rattle.unit_walks.specs.Forms.{IsUnitName, instances}
use Rattle.unit_walks.proofs.NameLists.{instance_pushed}
use Rattle.unit_walks.proofs.indexing.add_instances.Goals as goal

pub loop-name-init : goal.loop-name-init
loop-name-init c = λ gs h. rw append-nil h

pub loop-name-preserved : goal.loop-name-preserved
loop-name-preserved c = λ gs h. instance_pushed c.loop-name.list.items c.push.new.self.items c.args.names.now
    c.loop-name.name-index gs c.args.body c.args.site _ (omega arith) c.in_ok-push.ensures.items
    (c.loop-name.invariant gs h)

pub returns : goal.returns
returns c = λ gs h.
    let e = take_all c.loop-name.name-index c.args.names.now (omega arith) in
    subst (λ (ns : List (NameId × Place)). Along IsUnitName c.loop-name.list.items
    (gs ++ instances (site_of c.args.site) c.args.body.n ns)) e (c.loop-name.invariant gs h)
