use Rattle.std.proofs.Common.{◌≡◌, ◌<◌, ◌≤◌, inl, [], Bool, List, ℕ, Vec, Global, length, get_or, subst, sym, ap}
use Rattle.ar_base.specs.Lists.{Stands, IsOneOf}
use Rattle.ar_base.specs.Numbers.{WayId}
use Rattle.ar_base.proofs.Standing.{stands_get, stands_none}
use Rattle.gts_core.specs.declared.system.Way.{Way}
use Rattle.gts_core.specs.declared.system.WayBody.{WayBody}
use Rattle.way_flags.specs.Index.{AreAbove, AddsParts}
use Rattle.way_flags.specs.Ways.{parts_of}
use Rattle.way_flags.proofs.Indexed.{above_start, above_more, above_all}
use Rattle.way_flags.proofs.index.ways_above.Goals as goal
use Rattle.way_flags.proofs.index.ways_above.Goals.{in-Local, in-Sync+in_ok-add_each-in-Sync}

none_one : (part : Bool × WayId) → IsOneOf [] part → ⊥
none_one part one = stands_none one.place part one.stands

pub loop-n-init : goal.loop-n-init
loop-n-init c = subst (λ (z : List (ℕ × ℕ)). AreAbove c.args.parts.now 0 z) (sym c.new-pairs.ensures.items)
    (above_start c.args.parts.now)

pub loop-n-preserved : goal.loop-n-preserved
loop-n-preserved c =
    let items = c.deref-way-items.ensures.value in
    let i = c.loop-n.n in
    let o = c.way-item.result in
    let below = subst (λ (z : List Way). i < length z) items c.loop-n-test.true in
    let is = subst (λ (z : List Way). o ≡ get_or z i o) items c.way-item.is in
    let st : Stands c.args.parts.now.ways.items i o =
    subst (λ (z : Way). Stands c.args.parts.now.ways.items i z) (sym is)
    (stands_get c.args.parts.now.ways.items i o below) in
    let old = c.loop-n.pairs.items in
    let adds : AddsParts (parts_of o.body) i old c.match-way.pairs.items = elim c.match-way.branch [
      | in-Local w ↦
          subst (λ (z : List (ℕ × ℕ)). AddsParts (parts_of o.body) i old z)
          (sym (ap (λ (z : Vec (ℕ × ℕ) Global). z.items) w.pairs-is))
          (subst (λ (z : WayBody). AddsParts (parts_of z) i old old) (sym w.in-Local.is)
          (record { grows = λ q one. one; only = λ q one. inl one; all = λ part none. absurd (none_one part none) }))
      | in-Sync+in_ok-add_each-in-Sync w ↦
          subst (λ (z : List (ℕ × ℕ)). AddsParts (parts_of o.body) i old z)
          (sym (ap (λ (z : Vec (ℕ × ℕ) Global). z.items) w.pairs-is))
          (subst (λ (z : WayBody). AddsParts (parts_of z) i old w.add_each.new.pairs.items) (sym w.in-Sync.is)
          (subst (λ (z : List (Bool × WayId)). AddsParts z i old w.add_each.new.pairs.items) w.deref.ensures.value
          w.in_ok-add_each-in-Sync.ensures))
    ] in
    above_more c.args.parts.now i o old c.match-way.pairs.items st c.loop-n.invariant adds

pub returns : goal.returns
returns c = above_all c.args.parts.now c.loop-n.n c.loop-n.pairs.items
    (subst (λ (z : List Way). length z ≤ c.loop-n.n) c.deref-way-items.ensures.value c.loop-n-test.false)
    c.loop-n.invariant
