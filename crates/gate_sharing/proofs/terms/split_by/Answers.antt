use Rattle.std.proofs.Common.{false, ap}
use Rattle.gate_sharing.specs.declared.literals.Literal.TheVariants.{Event}
use Rattle.gate_sharing.specs.declared.terms.Term.{Term}
use Rattle.gate_sharing.specs.Literals.{literal_of}
use Rattle.gate_sharing.proofs.Terming.{next_with, next_without}
use Rattle.gate_sharing.proofs.terms.split_by.Goals as goal
use Rattle.gate_sharing.proofs.terms.split_by.Goals.{in-Some+in_ok-push, in_default+in-Some-beside+in_ok-push-2}

pub loop-term-preserved : goal.loop-term-preserved
loop-term-preserved c =
    let test = literal_of c.args.test in
    let ts = c.args.terms.now in
    let i = c.loop-term.term-index in
    let short = c.loop-term-test.true in
    let with = c.loop-term.with.items in
    let without = c.loop-term.without.items in
    let d : Term = record { first = Event 0 false; second = Event 0 false } in
    elim c.match-beside.branch [
      | in-Some+in_ok-push w ↦ next_with test ts i d short with without c.loop-term.invariant (literal_of w.in-Some.other)
          w.negated.result w.negated.ensures c.match-beside.with.items w.push.new.self.items c.match-beside.without.items
          (ap (λ v. v.items) w.with-is) w.in-Some.ensures w.in_ok-push.ensures.items (ap (λ v. v.items) w.without-is)
      | in_default+in-Some-beside+in_ok-push-2 w ↦ next_without test ts i d short with without c.loop-term.invariant
          (literal_of w.in-Some-beside.other) w.negated-in-Some-beside.result w.negated-in-Some-beside.ensures
          c.match-beside.without.items w.push-in-Some-beside.new.self.items c.match-beside.with.items
          (ap (λ v. v.items) w.without-is) (literal_of w.negated-in_default.result) w.negated-in_default.ensures
          w.in-Some-beside.ensures w.in_ok-push-2.ensures.items (ap (λ v. v.items) w.with-is)
    ]
