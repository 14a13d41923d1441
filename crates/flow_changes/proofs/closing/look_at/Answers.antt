use Rattle.std.proofs.Common.{◌<◌, ℕ, Bool, List, Option, IfSome, length, subst, sym, arith}
use Rattle.ar_base.specs.Lists.{Stands}
use Rattle.ar_base.proofs.Standing.{stands_item, stands_one}
use Rattle.gts_core.specs.declared.system.Assign.{Assign}
use Rattle.gts_core.specs.declared.system.Variable.{Variable}
use Rattle.flow_propagate.proofs.Worklists.{readers_below}
use Rattle.flow_changes.specs.Known.{Touches, Applies}
use Rattle.flow_changes.specs.Queue.{AddsPlaces, IsPairPlace}
use Rattle.flow_changes.proofs.Looks.{looks_more}
use Rattle.flow_changes.proofs.closing.look_at.Goals as goal

pub add_all-requires-clause-within : goal.add_all-requires-clause-within
add_all-requires-clause-within c = λ r o.
    let h = readers_below c.args.parts.now c.args.plan.now.readers.pairs.items c.requires.plan.readers r
    (c.pairs_of-run.ensures.among r o) in
    subst (λ (z : List ℕ). r.1.n < length z) (sym c.deref.ensures.value)
    (omega (arith, h, c.requires.plan.schedule.long))

pub add_all-requires-clause-one : goal.add_all-requires-clause-one
add_all-requires-clause-one c = λ r q o s.
    c.requires.listed c.index-assign.result.now r q
    (stands_item c.args.parts.now.assigns.items c.args.n c.index-assign.result.now c.requires.below
    c.index-assign.ensures)
    (c.pairs_of-run.ensures.among r o) (c.pairs_of-run.ensures.exact r o)
    (subst (λ (z : List ℕ). Stands z r.1.n q) c.deref.ensures.value s)

pub returns-in_err-add_all-clause-touches : goal.returns-in_err-add_all-clause-touches
returns-in_err-add_all-clause-touches c = λ a x sa sx.
    let same = stands_one c.args.parts.now.assigns.items c.args.n c.index-assign.result.now a
    (stands_item c.args.parts.now.assigns.items c.args.n c.index-assign.result.now c.requires.below
    c.index-assign.ensures) sa in
    subst (λ (z : Assign). (y : Variable) → Stands c.args.parts.now.variables.items z.target.n y
    → Touches y.domain z.target.n c.args.values.now.items c.args.known.now.items c.apply.new.values.items
    c.apply.new.known.items) same c.apply.ensures.touches x sx

pub returns-clause-touches : goal.returns-clause-touches
returns-clause-touches c = λ a x sa sx.
    let same = stands_one c.args.parts.now.assigns.items c.args.n c.index-assign.result.now a
    (stands_item c.args.parts.now.assigns.items c.args.n c.index-assign.result.now c.requires.below
    c.index-assign.ensures) sa in
    subst (λ (z : Assign). (y : Variable) → Stands c.args.parts.now.variables.items z.target.n y
    → Touches y.domain z.target.n c.args.values.now.items c.args.known.now.items c.apply.new.values.items
    c.apply.new.known.items) same c.apply.ensures.touches x sx

pub returns-clause-looks : goal.returns-clause-looks
returns-clause-looks c = λ e.
    let p = c.args.parts.now in
    let plan = c.args.plan.now in
    let a = c.index-assign.result.now in
    let sa = stands_item p.assigns.items c.args.n a c.requires.below c.index-assign.ensures in
    let applies = subst (λ (b : Bool). Applies p a c.args.values.now.items c.args.known.now.items
    c.apply.new.values.items c.apply.new.known.items b) c.if-not-changed.false
    (subst (λ (o : Option Bool). IfSome o
    (Applies p a c.args.values.now.items c.args.known.now.items c.apply.new.values.items
    c.apply.new.known.items)) c.in-Some.is c.in_ok-changed.ensures.applies) in
    looks_more p plan c.args.n a sa c.args.values.now.items c.args.known.now.items c.apply.new.values.items
    c.apply.new.known.items c.args.work.now c.add_all.new.work c.pairs_of-run.result.now c.requires.plan applies
    c.pairs_of-run.ensures.all c.pairs_of-run.ensures.short
    (subst (λ (z : List ℕ). AddsPlaces (length c.pairs_of-run.result.now) (IsPairPlace z c.pairs_of-run.result.now)
    c.args.work.now c.add_all.new.work) c.deref.ensures.value c.in_ok-add_all.ensures)
