use Rattle.std.proofs.Common.{arith, refl, sym, ◌∙◌, subst, take_all, ℕ, true≢false}
use Rattle.ar_base.specs.Lists.{IsOneOf}
use Rattle.ar_base.proofs.Standing.{stands_get}
use Rattle.gate_modules.specs.Walked.{EntryAgrees}
use Rattle.gate_modules.specs.Walked.EntryAgrees.{no_part, alike}
use Rattle.zdd_nodes.specs.Bounds.{node_numbers}
use Rattle.zdd_nodes.proofs.Numbering.{all_more, number_stands}
use Rattle.gate_modules.proofs.Answering.{told_no}
use Rattle.gate_modules.proofs.Entering.{entry_exit_up}
use Rattle.gate_modules.proofs.entries.entries_agree.Goals as goal

pub returns-then-not-agree_some-clause-is : goal.returns-then-not-agree_some-clause-is
returns-then-not-agree_some-clause-is c = record {
  yes = λ e. absurd (true≢false (sym e));
  no = λ e. (
    _,
    number_stands c.args.entries.now c.loop-entry.entry-index _ c.loop-entry-test.true,
    record {
      asked = record { to = c.args.to; end = c.exit.result; node_end = c.args.reference.end };
      ends = record {
        end_in = c.exit.ensures.inside;
        end_some = c.exit.ensures.some;
        node_end_in = c.requires.end_in;
        node_end_some = c.requires.end_some;
      };
      to_is = refl;
      y_is = refl;
      exit = entry_exit_up c.args.store.now c.args.to _ _ _ c.in-Some.hi.n c.exit.result.n
          c.in-Some.ensures.halves c.exit.ensures;
      differs = told_no c.agree_some.result c.agree_some.ensures.is c.if-not-agree_some.true;
    },
  );
}

pub loop-entry-preserved-in_default : goal.loop-entry-preserved-in_default
loop-entry-preserved-in_default c = (
  c.loop-entry.invariant.0,
  c.loop-entry.invariant.1,
  all_more (EntryAgrees c.args.store.now c.args.to c.args.reference.node.n c.args.reference.end.n) c.args.entries.now
      c.loop-entry.entry-index _ c.loop-entry-test.true c.loop-entry.invariant.2
      (no_part c.in_default.ensures.halves),
)

pub loop-entry-preserved : goal.loop-entry-preserved
loop-entry-preserved c = (
  c.agree_some.ensures.known,
  c.agree_some.ensures.long ∙ c.loop-entry.invariant.1,
  all_more (EntryAgrees c.args.store.now c.args.to c.args.reference.node.n c.args.reference.end.n) c.args.entries.now
      c.loop-entry.entry-index _ c.loop-entry-test.true c.loop-entry.invariant.2
      (alike c.exit.result.n (c.agree_some.ensures.is.yes c.if-not-agree_some.false)),
)

pub returns-clause-is : goal.returns-clause-is
returns-clause-is c = record {
  yes = λ _. subst (λ z. (e : ℕ) → IsOneOf (node_numbers z) e
      → EntryAgrees c.args.store.now c.args.to c.args.reference.node.n c.args.reference.end.n e)
      (take_all c.loop-entry.entry-index c.args.entries.now c.loop-entry-test.false) c.loop-entry.invariant.2;
  no = λ e. absurd (true≢false e);
}

pub agree_some-requires-clause-first_in : goal.agree_some-requires-clause-first_in
agree_some-requires-clause-first_in c = c.requires.in_store c.loop-entry.entry-index _
    (stands_get c.args.entries.now c.loop-entry.entry-index _ c.loop-entry-test.true)

pub agree_some-requires-clause-room : goal.agree_some-requires-clause-room
agree_some-requires-clause-room c =
    let r = c.requires.room c.loop-entry.entry-index _
    (stands_get c.args.entries.now c.loop-entry.entry-index (record { n = 0; of = record {} }) c.loop-entry-test.true) in
    omega (arith, r, c.loop-entry.invariant.1)
