use Rattle.std.proofs.Common.{◌+◌, ◌∷◌, List, Option, map, sym, subst, arith}
use Rattle.ar_base.proofs.Standing.{along_length, one_here, stands_within}
use Rattle.class_table.proofs.MemberNames.{none_of}
use Rattle.class_table.proofs.Taken.{item_stands}
use Rattle.hierarchy.specs.Units.{UnitPath, set_at_of}
use Rattle.hierarchy.specs.Settings.{Named, target_word_of, set_by}
use Rattle.hierarchy.specs.Tie.{IsNameOfUnit, IsSetAt}
use Rattle.hierarchy.specs.declared.tree.Attribute.{Attribute}
use Rattle.ar_syntax.specs.declared.members.Word.{Word}
use Rattle.instantiate.specs.InForce.{AreAttribute}
use Rattle.instantiate.proofs.Depth.{fewer_levels}
use Rattle.instantiate.proofs.Upward.{IsOn, on_start, on_end, on_set, on_none, owner_none, owner_some, outline_of}
use Rattle.instantiate.proofs.outermost.outermost.Goals as goal
use Rattle.instantiate.proofs.outermost.outermost.Goals.{in-Some-2, in_default-2}

pub loop-level-init : goal.loop-level-init
loop-level-init c = λ m units classes u h tells there. on_start m units u _ c.args.unit.n there

pub loop-level-preserved : goal.loop-level-preserved
loop-level-preserved c = λ m units classes u h tells there.
    let on = c.loop-level.invariant m units classes u h tells there in
    let o = c.in-Some.outline.now in
    let s = item_stands c.args.outlines.now c.loop-level.at.n o c.in-Some.ensures.lookup.3.0
    c.in-Some.ensures.lookup.1 in
    let is = outline_of m units c.args.outlines.now h.along c.loop-level.at.n on.unit o on.stands s in
    let w = owner_some units on.unit o.owner c.in-Some-owner.owner is.owner c.in-Some-owner.is in
    let name = subst (λ (v : UnitPath). IsNameOfUnit v o.name) w.2 is.name in
    let set = subst (λ (v : UnitPath). IsSetAt (set_at_of v) o.set_at) w.2 is.set_at in
    let a = rw c.deref.ensures.value at (c.in_ok-attribute.ensures m units w.1 w.0.set_at tells set
    w.3) in
    subst (λ (ws : List Word). IsOn m units u (map target_word_of c.args.target.items) c.in-Some-owner.owner.n (c.loop-level._level + 1) (map target_word_of ws)
    c.match-branch-2.found) (sym c.in_ok-insert.ensures.items)
    (elim c.match-branch-2.branch [
      | in-Some-2 v ↦ subst (λ (f : Option Attribute). IsOn m units u (map target_word_of c.args.target.items)
          c.in-Some-owner.owner.n (c.loop-level._level + 1) (Named o.name.n ∷ map target_word_of c.loop-level.target.items) f) (sym v.found-is)
          (on_set m units u _ c.loop-level.at.n c.loop-level._level _ _ on w.0 w.1 w.2 c.in-Some-owner.owner.n w.3 o.name.n _ name
          (subst (AreAttribute units (set_by m w.1 w.0.set_at (map target_word_of c.loop-level.target.items)))
          v.in-Some-2.is a))
      | in_default-2 v ↦ subst (λ (f : Option Attribute). IsOn m units u (map target_word_of c.args.target.items)
          c.in-Some-owner.owner.n (c.loop-level._level + 1) (Named o.name.n ∷ map target_word_of c.loop-level.target.items) f) (sym v.found-is)
          (on_none m units u _ c.loop-level.at.n c.loop-level._level _ _ on w.0 w.1 w.2 c.in-Some-owner.owner.n w.3 o.name.n name
          (subst (AreAttribute units (set_by m w.1 w.0.set_at (map target_word_of c.loop-level.target.items)))
          v.in_default-2.is a))
    ])

pub returns-in_default : goal.returns-in_default
returns-in_default c = λ m units classes u h tells there.
    let on = c.loop-level.invariant m units classes u h tells there in
    let none = none_of c.get.result c.in_default.not-Some in
    let past = (rw none at c.get.ensures.lookup).3 in
    let l = stands_within units c.loop-level.at.n on.unit on.stands in
    let e = along_length units c.args.outlines.now h.along in
    absurd (omega (arith, past, l, e))

pub returns-in_default-owner : goal.returns-in_default-owner
returns-in_default-owner c = λ m units classes u h tells there.
    let on = c.loop-level.invariant m units classes u h tells there in
    let o = c.in-Some.outline.now in
    let s = item_stands c.args.outlines.now c.loop-level.at.n o c.in-Some.ensures.lookup.3.0
    c.in-Some.ensures.lookup.1 in
    let is = outline_of m units c.args.outlines.now h.along c.loop-level.at.n on.unit o on.stands s in
    on_end m units u _ c.loop-level.at.n c.loop-level._level _ c.loop-level.found on
    (owner_none units on.unit o.owner is.owner c.in_default-owner.is)

pub returns : goal.returns
returns c = λ m units classes u h tells there.
    let on = c.loop-level.invariant m units classes u h tells there in
    let k = on.levels in
    let e = along_length units c.args.outlines.now h.along in
    let few = fewer_levels h.are_units u (one_here units c.args.unit.n u there) in
    absurd (omega (arith, k, e, few))
