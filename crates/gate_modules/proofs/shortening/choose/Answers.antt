use Rattle.std.proofs.Common.{◌∷◌, [], map, get_or, refl, sym, ap, ◌∙◌, subst, take_all}
use Rattle.std.proofs.lemmas.List.{map-append}
use Rattle.zdd_nodes.specs.Nodes.{family}
use Rattle.gate_modules.specs.Choosing.{IsRangeCovered, IsWithinNone, AreChosenSoFar}
use Rattle.gate_modules.specs.Choosing.Considers.{within, no_module, is_new}
use Rattle.gate_modules.specs.ShortenedInside.{module_of, set_of}
use Rattle.gate_modules.specs.declared.ranges.Range.{Range}
use Rattle.gate_modules.proofs.Answering.{told_none, told_some}
use Rattle.gate_modules.proofs.Choosing.{none_yet, one_more}
use Rattle.gate_modules.proofs.shortening.choose.Goals as goal

-- what is read past the end
abbrev no_range : Range
no_range = record { unit = record { n = 0; of = record {} }; from = 0; to = 0 }

pub loop-range-init : goal.loop-range-init
loop-range-init c = (
  c.requires.known,
  c.requires.room,
  subst (λ z. AreChosenSoFar (family c.args.store.now c.args.root.n) c.args.ranges.now [] z
      (map module_of c.args.modules.now.items)) (sym c.requires.no_range)
      (subst (λ z. AreChosenSoFar (family c.args.store.now c.args.root.n) c.args.ranges.now [] [] (map module_of z))
      (sym c.requires.no_module) (none_yet (family c.args.store.now c.args.root.n) c.args.ranges.now
      c.requires.ranges)),
)

pub loop-range-preserved-then-is_within : goal.loop-range-preserved-then-is_within
loop-range-preserved-then-is_within c = (
  c.loop-range.invariant.0,
  c.loop-range.invariant.1,
  one_more (family c.args.store.now c.args.root.n) c.args.ranges.now c.requires.ranges c.loop-range.range-index _
      c.loop-range-test.true c.loop-range.chosen.items (map module_of c.loop-range.modules.items)
      c.loop-range.invariant.2 _ _
      (within (subst (λ z. IsRangeCovered z (get_or c.args.ranges.now c.loop-range.range-index no_range)) c.deref.ensures.value
      (c.is_within.ensures.yes c.if-is_within.true))),
)

pub loop-range-preserved-in_default : goal.loop-range-preserved-in_default
loop-range-preserved-in_default c = (
  c.in_ok-sets.ensures.known,
  c.in_ok-sets.ensures.long ∙ c.loop-range.invariant.1,
  one_more (family c.args.store.now c.args.root.n) c.args.ranges.now c.requires.ranges c.loop-range.range-index _
      c.loop-range-test.true c.loop-range.chosen.items (map module_of c.loop-range.modules.items)
      c.loop-range.invariant.2 _ _
      (no_module (told_none _ _ c.in_ok-sets.field-0 c.in_ok-sets.ensures.sets c.in_default.is)),
)

pub loop-range-preserved : goal.loop-range-preserved
loop-range-preserved c = (
  c.in_ok-sets.ensures.known,
  c.in_ok-sets.ensures.long ∙ c.loop-range.invariant.1,
  one_more (family c.args.store.now c.args.root.n) c.args.ranges.now c.requires.ranges c.loop-range.range-index _
      c.loop-range-test.true c.loop-range.chosen.items (map module_of c.loop-range.modules.items)
      c.loop-range.invariant.2 _ _
      (is_new (record {
        unit = (get_or c.args.ranges.now c.loop-range.range-index no_range).unit.n;
        sets = map set_of c.in-Some.sets.items;
      })
      (subst (λ z. IsWithinNone z (get_or c.args.ranges.now c.loop-range.range-index no_range)) c.deref.ensures.value
      (c.is_within.ensures.no c.if-is_within.false))
      (told_some _ _ c.in_ok-sets.field-0 c.in-Some.sets c.in_ok-sets.ensures.sets c.in-Some.is) refl
      c.in_ok-push.ensures.items
      (ap (map module_of) c.in_ok-push-2.ensures.items
      ∙ map-append module_of c.loop-range.modules.items (_ ∷ []))),
)

pub returns : goal.returns
returns c =
    subst (λ z. AreChosenSoFar (family c.args.store.now c.args.root.n) c.args.ranges.now z c.loop-range.chosen.items
    (map module_of c.loop-range.modules.items))
    (take_all c.loop-range.range-index c.args.ranges.now c.loop-range-test.false) c.loop-range.invariant.2
