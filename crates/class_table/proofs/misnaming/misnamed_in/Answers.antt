use Rattle.std.proofs.Common.{arith, sym, subst}
use Rattle.class_table.specs.Earliest.{IsEarliest}
use Rattle.class_table.specs.Shown.{MisnamesIn}
use Rattle.class_table.proofs.Taken.{item_stands}
use Rattle.class_table.proofs.Looping.{loop_start, loop_next, loop_end}
use Rattle.class_table.proofs.WrongTypes.{one_to, one_back, owned_found}
use Rattle.class_table.proofs.misnaming.misnamed_in.Goals as goal

pub loop-owned-init : goal.loop-owned-init
loop-owned-init c = λ d known. loop_start _ _

pub loop-owned-preserved : goal.loop-owned-preserved
loop-owned-preserved c = λ d known. let s = item_stands c.args.own.now c.loop-owned.owned-index c.owned-item.result (omega arith) c.owned-item.is in
    loop_next _ _ _ _ _ _ _ s (c.loop-owned.invariant d known)
    (subst (IsEarliest (MisnamesIn d c.owned-item.result)) (sym (c.misnamed.ensures d known))
    (owned_found d c.owned-item.result)) c.earliest-found.ensures

pub returns : goal.returns
returns c = λ d known. loop_end _ _ _ _ _ (omega arith) (one_to d _) (one_back d _) (c.loop-owned.invariant d known)
