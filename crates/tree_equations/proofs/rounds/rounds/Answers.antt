use Rattle.std.proofs.Common.{◌≡◌, ℕ, List, length, map, rules, true≢false, sym, ap, ◌∙◌, subst, arith}
use Rattle.std.proofs.lemmas.List.{length-map}
use Rattle.eq_build.specs.Views.{gates_in, row_at, lists_in}
use Rattle.gts_core.specs.View.{net_of}
use Rattle.eq_build.specs.Steps.{Reading, Threads, RoundOf, Rounds, updated}
use Rattle.tree_equations.specs.Answers.{TooMany, Entries, itself}
use Rattle.tree_equations.proofs.Flowing.{rounds_start, rounds_next, rounds_stop, rounds_over, rounds_still, threads_long, itself_all}
use Rattle.tree_equations.proofs.Giving.{gives_on}
use Rattle.tree_equations.proofs.rounds.rounds.Goals as goal
use Rattle.tree_equations.proofs.rounds.rounds.Goals.{then-len-before, else-len-before}

pub loop-alloc-init : goal.loop-alloc-init
loop-alloc-init c = record {
  few = c.requires.few;
  long = search rules;
  within = omega arith;
  so_far = rounds_start (net_of c.args.parts.now) c.args.block.now (length c.args.block.now)
      (gates_in c.args.gates.now.items) (row_at c.args.rows.now.items);
  over = λ e. absurd (true≢false (sym e));
}

pub returns-in_err-new-clause-rounds : goal.returns-in_err-new-clause-rounds
returns-in_err-new-clause-rounds c =
    let net = net_of c.args.parts.now in
    let block = c.args.block.now in
    let g = gates_in c.args.gates.now.items in
    let h = gates_in c.loop-alloc.gates.items in
    let first = row_at c.args.rows.now.items in
    let read = row_at c.loop-alloc.rows.items in
    let less = (c.needs_round.ensures.0 c.loop-alloc-test.true).0 in
    gives_on (λ _. read) (λ last e. Rounds net block (length block) g first last e)
    (TooMany (λ rows k. Threads (RoundOf net (row_at c.deref.result.now)) h (map itself block) rows k))
    c.from_residual.result c.in_err-new.field-0.0 c.round.new.gates.items
    (λ n. rounds_stop net block (length block) g first c.loop-alloc.made h read less c.loop-alloc.invariant.so_far
    (λ rows k d. n rows k (subst (λ (z : List Entries). Threads (RoundOf net (row_at z)) h (map itself block) rows k)
    (sym c.deref.ensures.value)
    (subst (λ (z : List ℕ). Threads (RoundOf net read) h z rows k) (sym (itself_all block)) d))))
    c.from_residual.ensures.1 c.in_err-new.ensures

pub put_rows-requires-clause-long : goal.put_rows-requires-clause-long
put_rows-requires-clause-long c =
    sym (length-map c.in_ok-new.new.items _) ∙ threads_long c.in_ok-new.ensures.0
    ∙ ap length (itself_all c.args.block.now)

pub put_rows-requires-clause-under : goal.put_rows-requires-clause-under
put_rows-requires-clause-under c = λ n o.
    let u = c.requires.under n o in
    let long = c.loop-alloc.invariant.long in
    let all = c.requires.long in omega (arith, u, long, all)

pub are_rows-still-requires-clause-long : goal.are_rows-still-requires-clause-long
are_rows-still-requires-clause-long c =
    ap length c.deref-then-len-before-2.ensures.value ∙ sym (length-map c.in_ok-new.new.items _)
    ∙ threads_long c.in_ok-new.ensures.0 ∙ ap length (itself_all c.args.block.now)

pub are_rows-still-requires-clause-under : goal.are_rows-still-requires-clause-under
are_rows-still-requires-clause-under c = λ n o.
    let u = c.requires.under n o in
    let long = c.loop-alloc.invariant.long in
    let rows = ap length c.deref-then-len-before.ensures.value in
    let all = c.requires.long in omega (arith, u, long, all, rows)

pub loop-alloc-preserved : goal.loop-alloc-preserved
loop-alloc-preserved c =
    let net = net_of c.args.parts.now in
    let block = c.args.block.now in
    let g = gates_in c.args.gates.now.items in
    let h = gates_in c.loop-alloc.gates.items in
    let k = gates_in c.round.new.gates.items in
    let first = row_at c.args.rows.now.items in
    let read = row_at c.loop-alloc.rows.items in
    let next = row_at c.put_rows.new.rows.items in
    let rows = lists_in c.in_ok-new.new.items in
    let less = (c.needs_round.ensures.0 c.loop-alloc-test.true).0 in
    let d = subst (λ (z : List ℕ). Threads (RoundOf net read) h z rows k) (itself_all block)
    (subst (λ (z : List Entries). Threads (RoundOf net (row_at z)) h (map itself block) rows k)
    c.deref.ensures.value c.in_ok-new.ensures.0) in
    record {
      few = c.in_ok-new.ensures.1;
      long = c.put_rows.ensures.long ∙ c.loop-alloc.invariant.long;
      within = omega (arith, less);
      so_far = rounds_next net block (length block) g first c.loop-alloc.made h k read next rows d
          c.put_rows.ensures.reading c.loop-alloc.invariant.so_far;
      over = elim c.if-len-before.branch [
        | then-len-before w ↦ (λ e.
            let size : length c.round.new.gates.items ≡ length c.loop-alloc.gates.items =
            (let t = w.if-len-before.true in search rules) in
            let long : length k ≡ length h = length-map c.round.new.gates.items _ ∙ size
            ∙ sym (length-map c.loop-alloc.gates.items _) in
            let same = w.are_rows-still.ensures (sym w.still-is ∙ e) in
            let is : read ≡ updated read block rows = ap row_at (sym w.deref-then-len-before.ensures.value) ∙ same
            ∙ ap (λ (z : List Entries). updated (row_at z) block (lists_in w.deref-then-len-before-2.result.now))
            w.deref-then-len-before.ensures.value
            ∙ ap (λ (z : List Entries). updated read block (lists_in z)) w.deref-then-len-before-2.ensures.value in
            subst (λ (z : Reading). Rounds net block (length block) g first z k)
            (is ∙ sym c.put_rows.ensures.reading)
            (rounds_still net block (length block) g first c.loop-alloc.made h k read rows d long is less
            c.loop-alloc.invariant.so_far))
        | else-len-before w ↦ (λ e.
            let same = sym w.still-is ∙ e in let differs = w.if-len-before.false in absurd (search rules))
      ];
    }

pub returns-clause-rounds : goal.returns-clause-rounds
returns-clause-rounds c =
    let net = net_of c.args.parts.now in
    let block = c.args.block.now in (
      rounds_over net block (length block) (gates_in c.args.gates.now.items) (row_at c.args.rows.now.items)
          c.loop-alloc.made (gates_in c.loop-alloc.gates.items) (row_at c.loop-alloc.rows.items) c.loop-alloc.still
          c.needs_round.result c.loop-alloc-test.false c.needs_round.ensures.1 c.loop-alloc.invariant.within
          c.loop-alloc.invariant.so_far c.loop-alloc.invariant.over,
      c.loop-alloc.invariant.few,
    )
