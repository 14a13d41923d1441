use Rattle.std.proofs.Common.{◌≡◌, ◌+◌, ◌++◌, ◌∷◌, [], Bool, List, take, get_or, sym, ◌∙◌, subst, false}
use Rattle.std.proofs.lemmas.List.{take_more}
use Rattle.ar_base.specs.Numbers.{WayId}
use Rattle.way_flags.specs.Meeting.{MeetsWays, HasTakenPart}
use Rattle.way_flags.specs.declared.takers.Met.{Met}
use Rattle.way_flags.proofs.Meeting.{meets_one, meets_past}
use Rattle.way_flags.proofs.takers.meet_parts.Goals as goal
use Rattle.way_flags.proofs.takers.meet_parts.Goals.{then-takes_part+in_ok-meet, else-takes_part}

no_part : Bool × WayId
no_part = (false, record { n = 0; of = record {} })

pub loop-must-preserved : goal.loop-must-preserved
unfolding no_part
loop-must-preserved c =
    let ps = c.deref-must-items.result.now in
    let i = c.loop-must.must-index in
    let flags = c.args.flags.now in
    let old = c.args.met.now in
    let q = get_or ps i no_part in
    let more : take (i + 1) ps ≡ take i ps ++ q ∷ [] = take_more ps i no_part c.loop-must-test.true in
    subst (λ (z : List (Bool × WayId)). MeetsWays (HasTakenPart z flags) old c.if-takes_part.met) (sym more)
    (elim c.if-takes_part.branch [
      | then-takes_part+in_ok-meet w ↦
          subst (λ (z : Met). MeetsWays (HasTakenPart (take i ps ++ q ∷ []) flags) old z) (sym w.met-is)
          (meets_one flags (take i ps) q old c.loop-must.met w.meet.new.met c.loop-must.invariant
          (sym c.takes_part.ensures ∙ w.if-takes_part.true) w.in_ok-meet.ensures)
      | else-takes_part w ↦
          subst (λ (z : Met). MeetsWays (HasTakenPart (take i ps ++ q ∷ []) flags) old z) (sym w.met-is)
          (meets_past flags (take i ps) q old c.loop-must.met c.loop-must.invariant
          (sym c.takes_part.ensures ∙ w.if-takes_part.false))
    ])
