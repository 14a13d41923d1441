use Rattle.std.proofs.Common.{◌≡◌, ◌||◌, Bool, false, refl, sym, ap, ◌∙◌}
use Rattle.std.proofs.lemmas.List.{take_all}
use Rattle.std.proofs.lemmas.List.Folds.{list_any_more, list_any_at}
use Rattle.ar_base.specs.Numbers.{WayId}
use Rattle.way_flags.specs.Parts.{has_must_in}
use Rattle.way_flags.proofs.part_flags.has_must.Goals as goal

-- neither of two that are false
none_of : (a b : Bool) → a ≡ false → b ≡ false → (a || b) ≡ false
none_of a b h k = ap (λ (z : Bool). z || b) h ∙ k

-- what stands for no part where a list of parts is read
no_part : Bool × WayId
no_part = (false, record { n = 0; of = record {} })

pub loop-must-init : goal.loop-must-init
loop-must-init c = refl

pub returns-then-must : goal.returns-then-must
unfolding no_part
returns-then-must c = sym (list_any_at (λ (q : Bool × WayId). q.0) c.args.parts.now c.loop-must.must-index no_part
    c.loop-must-test.true c.if-must.true)

pub loop-must-preserved : goal.loop-must-preserved
unfolding no_part
loop-must-preserved c =
    list_any_more (λ (q : Bool × WayId). q.0) c.args.parts.now c.loop-must.must-index no_part c.loop-must-test.true
    ∙ none_of _ _ c.loop-must.invariant c.if-must.false

pub returns : goal.returns
returns c = sym c.loop-must.invariant ∙ ap has_must_in (take_all c.loop-must.must-index c.args.parts.now
    c.loop-must-test.false)
