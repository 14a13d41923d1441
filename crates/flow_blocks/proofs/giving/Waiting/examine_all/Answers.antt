-- One class after the other.
use Rattle.std.proofs.Common.{ℕ, ◌+◌, List, drop, ◌∙◌, subst}
use Rattle.flow_blocks.specs.Waits.{IsWaiting}
use Rattle.flow_blocks.proofs.UseLemmas.{drop_one, drop_all}
use Rattle.flow_blocks.proofs.giving.Waiting.examine_all.Goals as goal

pub examine-requires : goal.examine-requires
examine-requires c =
    let now = c.loop-class.invariant.waits c.requires.count c.requires.uses c.requires.class_of c.requires.waits in (
      drop (c.loop-class.class-index + 1) c.args.classes.now,
      record {
        count = c.requires.count;
        uses = c.requires.uses;
        class_of = c.requires.class_of;
        waits = subst (λ (l : List ℕ). IsWaiting c.requires.count c.requires.uses c.requires.class_of c.loop-class.self
            l) (drop_one c.args.classes.now c.loop-class.class-index 0 c.loop-class-test.true) now;
      },
    )

pub loop-class-preserved : goal.loop-class-preserved
loop-class-preserved c = record {
  waits = λ count uses class_of waits. c.in_ok-examine.ensures.waits count uses class_of
      (drop (c.loop-class.class-index + 1) c.args.classes.now)
      (subst (λ (l : List ℕ). IsWaiting count uses class_of c.loop-class.self l)
      (drop_one c.args.classes.now c.loop-class.class-index 0 c.loop-class-test.true)
      (c.loop-class.invariant.waits count uses class_of waits));
  given = c.in_ok-examine.ensures.given ∙ c.loop-class.invariant.given;
}

pub returns-clause-waits : goal.returns-clause-waits
returns-clause-waits c = λ count uses class_of waits.
    subst (λ (l : List ℕ). IsWaiting count uses class_of c.loop-class.self l)
    (drop_all c.args.classes.now c.loop-class.class-index c.loop-class-test.false)
    (c.loop-class.invariant.waits count uses class_of waits)
