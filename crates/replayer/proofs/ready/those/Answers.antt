use Rattle.std.proofs.Common.{◌++◌, ◌∷◌, [], cond, Bool, List, Vec, Global, get_or, take, refl, sym, ap, ◌∙◌}
use Rattle.std.proofs.lemmas.List.{append-nil, take_all}
use Rattle.std.proofs.lemmas.List.Elements.{filter_more}
use Rattle.ar_base.specs.Numbers.{WayId}
use Rattle.ar_base.proofs.Standing.{stands_get}
use Rattle.replayer.specs.Listing.{able}
use Rattle.replayer.proofs.ListLemmas.{enabled_so}
use Rattle.replayer.proofs.ready.those.Goals as goal
use Rattle.replayer.proofs.ready.those.Goals.{then-enabled+in_ok-push, else-enabled}

-- what is read past the end
abbrev none : WayId
none = record { n = 0; of = record {} }

pub loop-way-init : goal.loop-way-init
loop-way-init c = λ can answers. c.new-ready.ensures.items

pub enabled-requires : goal.enabled-requires
enabled-requires c =
    let ways = c.args.ways.now in
    let i = c.loop-way.way-index in
    c.requires.inside.each i (get_or ways i none) (stands_get ways i none c.loop-way-test.true)

pub loop-way-preserved : goal.loop-way-preserved
loop-way-preserved c = λ can answers.
    let ways = c.args.ways.now in
    let i = c.loop-way.way-index in
    let way = get_or ways i none in
    let inside = c.requires.inside.each i way (stands_get ways i none c.loop-way-test.true) in
    let told = enabled_so c.args.stepper.now.system c.args.stepper.now.system c.args.stepper.now.values can way.n _
    refl c.requires.sound inside answers c.enabled.ensures in
    let more = filter_more (λ (w : WayId). can w.n) ways i none c.loop-way-test.true in
    let was = c.loop-way.invariant can answers in
    elim c.if-enabled.branch [
      | then-enabled+in_ok-push w ↦
          ap (λ (z : Vec WayId Global). z.items) w.ready-is ∙ w.in_ok-push.ensures.items
          ∙ ap (λ (z : List WayId). z ++ way ∷ []) was
          ∙ ap (λ (b : Bool). able can (take i ways) ++ cond b (way ∷ []) []) (sym (told ∙ w.if-enabled.true))
          ∙ sym more
      | else-enabled w ↦
          ap (λ (z : Vec WayId Global). z.items) w.ready-is ∙ was ∙ sym (append-nil (able can (take i ways)))
          ∙ ap (λ (b : Bool). able can (take i ways) ++ cond b (way ∷ []) []) (sym (told ∙ w.if-enabled.false))
          ∙ sym more
    ]

pub returns : goal.returns
returns c = λ can answers.
    c.loop-way.invariant can answers
    ∙ ap (able can) (take_all c.loop-way.way-index c.args.ways.now c.loop-way-test.false)
