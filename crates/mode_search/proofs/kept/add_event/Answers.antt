use Rattle.std.proofs.Common.{◌≡◌, ◌≤◌, Option, List, ◌++◌, Vec, Global, length, get_or, sym, ap, ◌∙◌, subst, arith}
use Rattle.std.proofs.lemmas.List.{append-nil}
use Rattle.ar_base.specs.Lists.{Stands}
use Rattle.ar_base.specs.Numbers.{WayId}
use Rattle.ar_base.proofs.Standing.{stands_within, stands_get}
use Rattle.mode_search.specs.Kept.{items_of}
use Rattle.mode_search.specs.declared.kept.KeptWay.{KeptWay}
use Rattle.mode_search.proofs.Keeping.{extends_more, extends_all}
use Rattle.mode_search.proofs.kept.add_event.Goals as goal
use Rattle.mode_search.proofs.kept.add_event.Goals.{in-Some+in_ok-push, in_default}

pub kept_way-requires-clause-inside : goal.kept_way-requires-clause-inside
kept_way-requires-clause-inside c =
    let p = c.args.parts.now in
    let way : WayId = get_or c.deref-way-items.result.now c.loop-way.way-index (record { n = 0; of = record {} }) in
    let has = subst (λ (z : List WayId). Stands z c.loop-way.way-index way) c.deref-way-items.ensures.value
    (stands_get c.deref-way-items.result.now c.loop-way.way-index (record { n = 0; of = record {} })
    c.loop-way-test.true) in
    let listed = c.requires.sound.event_ways c.args.id.n c.loop-way.way-index c.args.event.now way c.requires.event
    has in
    stands_within p.ways.items way.n listed.way listed.stands

pub loop-way-preserved : goal.loop-way-preserved
loop-way-preserved c =
    let p = c.args.parts.now in
    let way : WayId = get_or c.deref-way-items.result.now c.loop-way.way-index (record { n = 0; of = record {} }) in
    let has = subst (λ (z : List WayId). Stands z c.loop-way.way-index way) c.deref-way-items.ensures.value
    (stands_get c.deref-way-items.result.now c.loop-way.way-index (record { n = 0; of = record {} })
    c.loop-way-test.true) in
    let old = c.loop-way.kept.items in
    let same : c.match-more.kept.items ≡ old ++ items_of c.in_ok-more.more = elim c.match-more.branch [
      | in-Some+in_ok-push w ↦
          ap (λ (z : Vec KeptWay Global). z.items) w.kept-is ∙ w.in_ok-push.ensures.items
          ∙ ap (λ (z : Option KeptWay). old ++ items_of z) (sym w.in-Some.is)
      | in_default w ↦
          ap (λ (z : Vec KeptWay Global). z.items) w.kept-is ∙ sym (append-nil old)
          ∙ ap (λ (z : Option KeptWay). old ++ items_of z) (sym w.in_default.is)
    ] in
    extends_more p c.args.id c.args.event.now c.requires.event c.loop-way.way-index c.args.kept.now.items old
    c.match-more.kept.items way c.in_ok-more.more has c.loop-way.invariant c.in_ok-more.ensures same

pub returns : goal.returns
returns c =
    let past = subst (λ (z : List WayId). length z ≤ c.loop-way.way-index) c.deref-way-items.ensures.value
    c.loop-way-test.false in
    let within = subst (λ (z : List WayId). c.loop-way.way-index ≤ length z) c.deref-way-items.ensures.value
    c.loop-way.auto.way-index-end in
    extends_all c.args.parts.now c.args.id c.args.event.now c.requires.event c.loop-way.way-index
    (length c.args.event.now.ways.items) c.args.kept.now.items c.loop-way.kept.items (omega arith)
    c.loop-way.invariant
