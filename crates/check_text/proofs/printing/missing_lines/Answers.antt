use Rattle.std.proofs.Common.{◌&&◌, Bool, List, ℕ, ap, sym, ◌∙◌}
use Rattle.ar_io.proofs.Writing.{writes_exit, leaves_on, leaves_front}
use Rattle.check_text.specs.Printed.{missing_at, all_listed}
use Rattle.check_text.proofs.Listing.{and_then, first_numbers, rest_numbers}
use Rattle.cut_text.proofs.Pieces.{gives_some, all_first, all_rest}
use Rattle.check_text.proofs.printing.missing_lines.Goals as goal

pub missing_line-requires-clause-ways : goal.missing_line-requires-clause-ways
missing_line-requires-clause-ways g c =
    all_first c.args.gts.now c.args.ways.now c.loop-events.lister _ c.in-Some.ensures.first.0
    c.in-Some.ensures.first.1 c.loop-events.invariant.ways

pub missing_line-requires-clause-events : goal.missing_line-requires-clause-events
missing_line-requires-clause-events g c =
    first_numbers c.args.gts.now c.loop-events.lister _ c.in-Some.ensures.first.0
    c.in-Some.ensures.first.1 c.loop-events.invariant.numbers

pub missing_line-requires-clause-sets : goal.missing_line-requires-clause-sets
missing_line-requires-clause-sets g c = record {
  lines = c.requires.sets.lines;
  are = c.loop-events.invariant.sets c.requires.sets.lines c.requires.sets.are;
}

pub returns-in_err-missing_line-clause-text : goal.returns-in_err-missing_line-clause-text
returns-in_err-missing_line-clause-text g c = λ lines are.
    writes_exit _ _ c.from_residual.ensures.1
    (leaves_front _ _ (c.loop-events.invariant.text lines are)
    (c.in_err-missing_line.ensures.text lines (c.loop-events.invariant.sets lines are))
    (ap (λ (z : List (List ℕ)). missing_at c.args.gts.now c.args.ways.now lines z) c.in-Some.ensures.first.1))

pub loop-events-preserved : goal.loop-events-preserved
loop-events-preserved g c =
    let rest = c.next.follows.lender-at-none in
    let e = gives_some c.loop-events.lister rest c.next.result c.in-Some.events c.in-Some.is
    c.next.follows.holds-at-none in
    record {
      text = λ lines are.
          leaves_on _ _ (c.loop-events.invariant.text lines are)
          (c.in_ok-missing_line.ensures.text lines (c.loop-events.invariant.sets lines are))
          (ap (λ (z : List (List ℕ)). missing_at c.args.gts.now c.args.ways.now lines z) e);
      ways = all_rest c.args.gts.now c.args.ways.now c.loop-events.lister _ rest e c.loop-events.invariant.ways;
      numbers = rest_numbers c.args.gts.now c.loop-events.lister _ rest e c.loop-events.invariant.numbers;
      sets = λ lines are. c.in_ok-missing_line.ensures.same lines (c.loop-events.invariant.sets lines are);
      whole = λ lines are.
          ap (λ (b : Bool). b && all_listed lines rest)
          (c.in_ok-missing_line.ensures.whole lines (c.loop-events.invariant.sets lines are))
          ∙ and_then c.loop-events.whole _ (all_listed lines rest)
          ∙ ap (λ (z : List (List ℕ)). c.loop-events.whole && all_listed lines z) (sym e)
          ∙ c.loop-events.invariant.whole lines are;
    }
