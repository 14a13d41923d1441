use Rattle.std.proofs.Common.{◌≡◌, ◌<◌, map, length, ap, arith}
use Rattle.class_table.proofs.Looping.{loop_start, loop_next, loop_end}
use Rattle.class_table.proofs.Taken.{item_stands}
use Rattle.hierarchy.specs.Settings.{target_word_of, target_of}
use Rattle.unit_rules.proofs.Searched.{setting_to, setting_back}
use Rattle.unit_rules.proofs.wrong.wrong_among.Goals as goal

pub loop-place-init : goal.loop-place-init
loop-place-init c = (c.new-targets.ensures c.args.settings.now, λ m units classes u o a k t. loop_start _ _)

pub loop-place-preserved : goal.loop-place-preserved
loop-place-preserved c =
    let l : c.loop-place.place < length c.args.settings.now = omega arith in
    let x = c.index-settings-place.result in
    let s = item_stands c.args.settings.now c.loop-place.place x l c.index-settings-place.is in
    let words : map target_word_of c.deref.result.now ≡ target_of x = ap (map target_word_of) c.deref.ensures.value in
    let met = c.in_ok-is_new.ensures c.args.settings.now c.loop-place.place x c.loop-place.invariant.0 s words in (
      met.have_met,
      λ m units classes u o a k t.
          loop_next _ _ c.loop-place.place x _ _ _ s (c.loop-place.invariant.1 m units classes u o a k t)
          (c.wrong_here-wrong.ensures m units classes u o a k t c.args.settings.now c.loop-place.place met.told)
          c.earliest-first.ensures,
    )

pub returns : goal.returns
returns c = λ m units classes u o a k t.
    loop_end _ _ _ c.loop-place.place _ (omega arith) (setting_to m u c.args.settings.now)
    (setting_back m u c.args.settings.now) (c.loop-place.invariant.1 m units classes u o a k t)
