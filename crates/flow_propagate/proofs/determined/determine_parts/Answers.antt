use Rattle.std.proofs.Common.{ℕ, List, Option, length, subst, sym}
use Rattle.domains.specs.declared.Value.{Value}
use Rattle.ar_meaning.specs.Flows as f
use Rattle.ar_base.specs.Lists.{IsFirst, HasNo}
use Rattle.gts_core.specs.View.{net_of}
use Rattle.flow_propagate.specs.Searches.{IsLeastTarget, LeavesTargetDomain}
use Rattle.flow_propagate.specs.Totals.{Breaks, MarkKnownRows}
use Rattle.flow_propagate.proofs.Searching.{outside_found, outside_none}
use Rattle.flow_propagate.proofs.Determining.{completes_total, completed_states, flows_itself}
use Rattle.flow_propagate.proofs.Marking.{tell_facts}
use Rattle.flow_propagate.proofs.Totalling.{completes, broken_found, broken_none}
use Rattle.flow_propagate.proofs.determined.determine_parts.Goals as goal

pub returns-in-Some : goal.returns-in-Some
returns-in-Some c =
    subst (λ (n : ℕ). f.Flows (net_of c.args.parts.now) c.args.values.now (f.Fails (f.Two n))) (sym c.new.ensures)
    (f.two (c.in-Some.ensures c.args.values.now c.in_ok-known.ensures.facts))

pub returns-in-Some-outside : goal.returns-in-Some-outside
returns-in-Some-outside c =
    let p = c.args.parts.now in
    let rows = c.in_ok-known.known.table.rows.items in
    let least = subst (λ (o : Option ℕ). IsLeastTarget p.assigns.items (length p.assigns.items) (LeavesTargetDomain p rows) o)
    c.in-Some-outside.is c.in_ok-known.ensures.outside in
    subst (λ (n : ℕ). f.Flows (net_of p) c.args.values.now (f.Fails (f.Outside n))) (sym c.new-in-Some-outside.ensures)
    (f.outside (c.in_default.ensures c.args.values.now c.in_ok-known.ensures.facts)
    (outside_found p c.requires.sound c.args.values.now rows c.in_ok-known.ensures.facts c.in-Some-outside.n least))

pub returns-in-Some-first_broken : goal.returns-in-Some-first_broken
returns-in-Some-first_broken c =
    let p = c.args.parts.now in
    let t = c.args.values.now in
    let rows = c.in_ok-known.known.table.rows.items in
    let total = c.in_ok-total.total.items in
    let facts = c.in_ok-known.ensures.facts in
    let least = subst (λ (o : Option ℕ). IsLeastTarget p.assigns.items (length p.assigns.items) (LeavesTargetDomain p rows) o)
    c.in_default-outside.is c.in_ok-known.ensures.outside in
    let whole = completes p t rows facts total c.requires.state.long c.in_ok-total.ensures in
    let is = completes_total p c.requires.sound t total c.requires.state whole in
    let found = subst (λ (z : List Value). IsFirst p.assigns.items (Breaks z) c.in-Some-first_broken.n)
    c.deref.ensures.value c.in-Some-first_broken.ensures in
    subst (λ (n : ℕ). f.Flows (net_of p) t (f.Fails (f.Broken n))) (sym c.new-in-Some-first_broken.ensures)
    (f.broken total (c.in_default.ensures t facts) (outside_none p c.requires.sound t rows facts least) whole
    (broken_found p c.requires.sound total is c.in-Some-first_broken.n found))

pub returns : goal.returns
returns c =
    let p = c.args.parts.now in
    let t = c.args.values.now in
    let rows = c.in_ok-known.known.table.rows.items in
    let total = c.in_ok-total.total.items in
    let facts = c.in_ok-known.ensures.facts in
    let least = subst (λ (o : Option ℕ). IsLeastTarget p.assigns.items (length p.assigns.items) (LeavesTargetDomain p rows) o)
    c.in_default-outside.is c.in_ok-known.ensures.outside in
    let two = c.in_default.ensures t facts in
    let whole = completes p t rows facts total c.requires.state.long c.in_ok-total.ensures in
    let is = completes_total p c.requires.sound t total c.requires.state whole in
    let none = subst (λ (z : List Value). HasNo p.assigns.items (Breaks z)) c.deref.ensures.value
    c.in_default-first_broken.ensures in
    let flows : f.Flows (net_of p) t (f.Total total) =
    f.all_hold two (outside_none p c.requires.sound t rows facts least) whole
    (broken_none p c.requires.sound total is none) in
    let marks = subst (λ (n : ℕ). MarkKnownRows rows n c.in_ok-marks.marks.items) c.in_ok-known.ensures.long
    c.in_ok-marks.ensures in
    record {
      is = record {
        total = is;
        flows = flows_itself (net_of p) t total flows;
        long = marks.long;
        facts = tell_facts p c.requires.sound t total rows c.in_ok-marks.marks.items facts c.requires.state.long
            c.in_ok-known.ensures.long c.in_ok-total.ensures two (completed_states whole) marks;
      };
      flows = flows;
    }
