use Rattle.std.proofs.Common.{◌≡◌, inl, ℕ, List, length, subst, ap, ◌∙◌, arith}
use Rattle.ar_base.proofs.Standing.{stands_within}
use Rattle.gts_core.specs.declared.system.Variable.{Variable}
use Rattle.flow_propagate.specs.Rows.{Starts}
use Rattle.flow_propagate.specs.Closing.{IsWorklist}
use Rattle.flow_propagate.proofs.Looking.{are_facts}
use Rattle.flow_propagate.proofs.Starting.{starts_sound, starts_given}
use Rattle.flow_propagate.proofs.closing.known.Goals as goal

pub close-requires : goal.close-requires
close-requires c =
    let places = c.deref-3.ensures.value in
    let count : length c.deref-3.result.now ≡ length c.args.parts.now.assigns.items =
    ap (λ (z : List ℕ). length z) places ∙ c.requires.schedule.long in
    let variables = ap (λ (z : List Variable). length z) c.deref.ensures.value in
    record {
      sound = c.requires.sound;
      readers = c.requires.readers;
      long = c.in_ok-rows.ensures.long ∙ variables;
      work = subst (λ (z : ℕ). IsWorklist z c.all_waiting-work.result) count c.all_waiting-work.ensures.is;
      settled = λ m a st. inl (c.all_waiting-work.ensures.all m (let h = stands_within c.args.parts.now.assigns.items m a st in omega (arith, h, count)));
      heard = λ m a st. inl (c.all_waiting-work.ensures.all m (let h = stands_within c.args.parts.now.assigns.items m a st in omega (arith, h, count)));
    }

pub returns : goal.returns
returns c =
    let rows = c.in_ok-rows.rows.items in
    let s = subst (λ (z : List Variable). Starts z c.args.values.now (length z) rows) c.deref.ensures.value
    c.in_ok-rows.ensures in
    let m = c.in_ok-known.ensures.moves in
    record {
      facts = are_facts c.args.parts.now c.args.values.now c.in_ok-known.known.table.rows.items
          (m.sound c.args.values.now (starts_sound c.args.parts.now c.args.values.now rows c.requires.long s))
          (λ n v g. m.grows n v (starts_given c.args.parts.now c.args.values.now rows c.requires.long s n v g))
          c.in_ok-known.ensures.closed;
      long = m.long ∙ s.long;
      outside = c.in_ok-known.ensures.outside;
    }
