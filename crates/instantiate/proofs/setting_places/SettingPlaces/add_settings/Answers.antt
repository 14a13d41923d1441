use Rattle.std.proofs.Common.{◌≡◌, ◌+◌, ◌-◌, ◌<◌, ℕ, List, ◌∷◌, length, map, drop, sym, ◌∙◌, ap, subst, arith}
use Rattle.ar_syntax.specs.declared.members.Setting.{Setting}
use Rattle.ar_syntax.specs.declared.members.Word.{Word}
use Rattle.class_table.proofs.Taken.{item_stands}
use Rattle.hierarchy.specs.Settings.{target_word_of}
use Rattle.unit_rules.specs.Repeats.{code_of}
use Rattle.instantiate.specs.SettingPlaces.{AddsSettings}
use Rattle.instantiate.proofs.PlacesTold.{adds_none, adds_next}
use Rattle.instantiate.proofs.setting_places.SettingPlaces.add_settings.Goals as goal

pub loop-place-init : goal.loop-place-init
loop-place-init c = record { within = omega arith; adds = adds_none _ _ c.args.settings.now _ (omega arith) }

pub loop-place-preserved : goal.loop-place-preserved
loop-place-preserved c =
    let xs = c.args.settings.now in
    let w = c.loop-place.invariant.within in
    let t = c.loop-place-test.true in
    let up : c.loop-place.place ≡ (c.loop-place.place - 1) + 1 = omega (arith, t) in
    let l : c.loop-place.place - 1 < length c.args.settings.now = omega (arith, t, w) in
    let s = item_stands xs (c.loop-place.place - 1) c.index-settings-place.result l c.index-settings-place.is in
    record {
      within = omega (arith, w);
      adds = adds_next (record { body = c.args.body; place = c.args.member }) xs c.index-settings-place.result
          (c.loop-place.place - 1) c.in_ok-key.key c.args.self.now c.loop-place.self (record { places = c.insert.new.self }) s
          (c.in_ok-key.ensures
          ∙ ap (λ (ws : List Word). c.args.body ∷ c.args.member ∷ map code_of (map target_word_of ws)) (c.deref.ensures.value
          ∙ ap (λ (x : Setting). x.target.items) (sym c.index-settings-place.is)))
          c.in_ok-insert.ensures.updates.0
          (subst (λ (n : ℕ). AddsSettings (record { body = c.args.body; place = c.args.member }) n (drop n xs)
          c.args.self.now c.loop-place.self) up c.loop-place.invariant.adds);
    }
