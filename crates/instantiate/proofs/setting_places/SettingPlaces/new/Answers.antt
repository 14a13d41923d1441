use Rattle.std.proofs.Common.{ℕ, Vec, nat_eq, sym, ◌∙◌, ap, arith}
use Rattle.std.specs.Global.{Global}
use Rattle.std.specs.Cmp.Lexicographic.{pointwise}
use Rattle.std.specs.Map.{lookup}
use Rattle.ar_base.proofs.Standing.{along_length}
use Rattle.class_table.proofs.OwnAt.{own_shown}
use Rattle.class_table.proofs.Taken.{item_stands}
use Rattle.instantiate.proofs.PlacesTold.{first_start, bodies_end}
use Rattle.instantiate.proofs.setting_places.SettingPlaces.new.Goals as goal

pub loop-place-init : goal.loop-place-init
loop-place-init c = λ m h. first_start m _
    (λ q. ap (lookup (λ (x : Vec ℕ Global). pointwise nat_eq q.items x.items)) c.new.ensures.empty)

pub loop-place-preserved : goal.loop-place-preserved
loop-place-preserved c = λ m h.
    let l = rw c.deref-body-items.ensures.value at c.loop-place-test.true in
    let is = rw c.deref-body-items.ensures.value at c.body-item.is in
    let s = item_stands c.args.classes.now.bodies.items c.loop-place.place c.body-item.result l is in
    c.in_ok-add_body.ensures m (own_shown m.declared _ h.bodies _ _ s ∙ sym c.deref.ensures.value)
    (c.loop-place.invariant m h)

pub returns : goal.returns
returns c = λ m h.
    let l = rw c.deref-body-items.ensures.value at c.loop-place-test.false in
    let e = along_length c.args.classes.now.bodies.items m.declared.bodies h.bodies in
    bodies_end m c.loop-place.place _ (omega (arith, l, e)) (c.loop-place.invariant m h)
