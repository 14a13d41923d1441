use Rattle.std.proofs.Common.{◌↔◌, ◌∙◌, ℕ, List, length, drop, sym, subst}
use Rattle.std.proofs.lemmas.List.{take_at}
use Rattle.ar_base.specs.Lists.{IsOneOf}
use Rattle.flow_blocks.specs.Bits.{IsSet}
use Rattle.cut_check.specs.Flat.{flat_event_numbers}
use Rattle.cut_check.specs.Rows.{HaveBits}
use Rattle.cut_check.specs.declared.rows.Row.{Row}
use Rattle.cut_check.proofs.lookup.LineSets.has.Goals as goal

pub returns-clause-answer : goal.returns-clause-answer
returns-clause-answer c = λ p lines are.
    let old : List ℕ = c.args.self.now.asked.items in
    let new : List ℕ = c.put_events.new.row in
    let kept = take_at new (drop (length new) old) c.args.self.now.asked.len
    (c.put_events.auto.row ∙ c.deref_mut.ensures.len) in
    c.is_any.ensures lines (subst (λ (z : List Row). HaveBits lines z) (sym c.deref.ensures.value) are.have)
    (subst (λ (z : List ℕ). (n : ℕ) → IsSet z n ↔ IsOneOf (flat_event_numbers c.args.events.now) n)
    (sym (c.deref-2.ensures.value ∙ kept)) c.put_events.ensures)
