use Rattle.std.proofs.Common.{◌≡◌, List, Some, length, slice_get, sym, ◌∙◌, ap, subst, arith}
use Rattle.ar_syntax.specs.declared.members.Setting.{Setting}
use Rattle.class_table.specs.Members.{owned_at}
use Rattle.class_table.specs.declared.tables.Owned.{Owned}
use Rattle.class_table.proofs.Taken.{item_stands}
use Rattle.hierarchy.specs.Settings.{settings_of}
use Rattle.instantiate.specs.SettingPlaces.{AddsSettings}
use Rattle.instantiate.proofs.PlacesTold.{member_next, body_next}
use Rattle.instantiate.proofs.setting_places.SettingPlaces.add_body.Goals as goal

pub loop-place-init : goal.loop-place-init
loop-place-init c = λ m e h. h

pub loop-place-preserved : goal.loop-place-preserved
loop-place-preserved c = λ m e h.
    let s = item_stands c.args.own.now c.loop-place.place c.index-own-place.result (omega arith) c.index-own-place.is in
    let at : owned_at m.declared (record { body = c.args.body; place = c.loop-place.place }) ≡ Some c.index-own-place.result =
    ap (λ (os : List Owned). slice_get os c.loop-place.place) e ∙ s in
    member_next m c.args.body c.loop-place.place _ _
    (subst (λ (xs : List Setting). AddsSettings (record { body = c.args.body; place = c.loop-place.place }) 0 xs
    c.loop-place.self c.add_settings.new.self) (c.settings_of.ensures ∙ ap settings_of (sym at))
    c.in_ok-add_settings.ensures) (c.loop-place.invariant m e h)

pub returns : goal.returns
returns c = λ m e h. body_next m c.args.body c.loop-place.place _
    (let f = ap length e in omega (arith, f)) (c.loop-place.invariant m e h)
