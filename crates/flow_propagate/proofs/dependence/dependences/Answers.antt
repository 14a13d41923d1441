use Rattle.std.proofs.Common.{List, ℕ, get_or, subst, sym, refl}
use Rattle.std.proofs.lemmas.List.{get_or_default}
use Rattle.ar_base.proofs.Standing.{stands_item}
use Rattle.flow_propagate.specs.Dependence.{AreUsesSoFar}
use Rattle.flow_propagate.proofs.FlowUses.{uses_start, uses_more, uses_all}
use Rattle.flow_propagate.proofs.dependence.dependences.Goals as goal

pub loop-variable-init : goal.loop-variable-init
loop-variable-init c = subst (λ (z : List (ℕ × ℕ)). AreUsesSoFar c.args.parts.now c.args.readers.now 0 z)
    (sym c.new-uses.ensures.items) (uses_start c.args.parts.now c.args.readers.now)

pub loop-variable-preserved : goal.loop-variable-preserved
loop-variable-preserved c =
    let q = get_or c.args.readers.now c.loop-variable.variable-index (0, 0) in
    uses_more c.args.parts.now c.args.readers.now c.loop-variable.variable-index q.0 q.1 c.loop-variable.uses.items
    c.add_use.new.uses.items
    (stands_item c.args.readers.now c.loop-variable.variable-index q c.loop-variable-test.true
    (get_or_default c.args.readers.now c.loop-variable.variable-index (0, 0) q c.loop-variable-test.true))
    c.loop-variable.invariant c.in_ok-add_use.ensures

pub add_use-requires : goal.add_use-requires
add_use-requires c =
    let q = get_or c.args.readers.now c.loop-variable.variable-index (0, 0) in
    record {
      sound = c.requires.sound;
      places = c.requires.places;
      reads = c.requires.readers.only q.0 q.1
          (record {
            place = c.loop-variable.variable-index;
            stands = stands_item c.args.readers.now c.loop-variable.variable-index q c.loop-variable-test.true
                (get_or_default c.args.readers.now c.loop-variable.variable-index (0, 0) q c.loop-variable-test.true);
          });
    }

pub returns : goal.returns
returns c = record {
  uses = uses_all c.args.parts.now c.args.readers.now c.loop-variable.variable-index
      c.loop-variable.uses.items c.requires.readers c.loop-variable-test.false c.loop-variable.invariant;
  count = refl;
}
