use Rattle.std.proofs.Common.{◌≡◌, ◌<◌, ◌≤◌, inl, List, ℕ, Vec, Global, length, get_or, subst, sym, ap}
use Rattle.ar_base.specs.Lists.{Stands}
use Rattle.ar_base.proofs.Standing.{stands_get}
use Rattle.gts_core.specs.declared.system.Way.{Way}
use Rattle.gts_core.specs.declared.system.WayBody.{WayBody}
use Rattle.way_flags.specs.Index.{AreGuards, AddsGuards}
use Rattle.way_flags.proofs.Indexed.{guards_start, guards_more, guards_all}
use Rattle.way_flags.proofs.index.guards.Goals as goal
use Rattle.way_flags.proofs.index.guards.Goals.{in-Local+in_ok-add_named_pairs-in-Local, in-Sync}

pub loop-n-init : goal.loop-n-init
loop-n-init c = subst (λ (z : List (ℕ × ℕ)). AreGuards c.args.parts.now 0 z) (sym c.new-pairs.ensures.items)
    (guards_start c.args.parts.now)

pub loop-n-preserved : goal.loop-n-preserved
loop-n-preserved c =
    let items = c.deref-way-items.ensures.value in
    let i = c.loop-n.n in
    let o = c.way-item.result in
    let below = subst (λ (z : List Way). i < length z) items c.loop-n-test.true in
    let is = subst (λ (z : List Way). o ≡ get_or z i o) items c.way-item.is in
    let st : Stands c.args.parts.now.ways.items i o =
    subst (λ (z : Way). Stands c.args.parts.now.ways.items i z) (sym is)
    (stands_get c.args.parts.now.ways.items i o below) in
    let old = c.loop-n.pairs.items in
    let adds : AddsGuards o.body i old c.match-way.pairs.items = elim c.match-way.branch [
      | in-Local+in_ok-add_named_pairs-in-Local w ↦
          let named = w.in_ok-add_named_pairs-in-Local.ensures in
          subst (λ (z : List (ℕ × ℕ)). AddsGuards o.body i old z)
          (sym (ap (λ (z : Vec (ℕ × ℕ) Global). z.items) w.pairs-is))
          (subst (λ (z : WayBody). AddsGuards z i old w.add_named_pairs.new.found.items) (sym w.in-Local.is)
          (record { grows = named.grows; only = named.only; all = named.all }))
      | in-Sync w ↦
          subst (λ (z : List (ℕ × ℕ)). AddsGuards o.body i old z)
          (sym (ap (λ (z : Vec (ℕ × ℕ) Global). z.items) w.pairs-is))
          (subst (λ (z : WayBody). AddsGuards z i old old) (sym w.in-Sync.is)
          (record { grows = λ q one. one; only = λ q one. inl one; all = λ x none. absurd none }))
    ] in
    guards_more c.args.parts.now i o old c.match-way.pairs.items st c.loop-n.invariant adds

pub returns : goal.returns
returns c = guards_all c.args.parts.now c.loop-n.n c.loop-n.pairs.items
    (subst (λ (z : List Way). length z ≤ c.loop-n.n) c.deref-way-items.ensures.value c.loop-n-test.false)
    c.loop-n.invariant
