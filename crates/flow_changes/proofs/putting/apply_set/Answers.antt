use Rattle.std.proofs.Common.{List, Bool, Option, Some, rules, subst, sym, arith}
use Rattle.ar_base.proofs.Standing.{stands_within, stands_item, stands_one}
use Rattle.domains.specs.Domains.{IsDomain}
use Rattle.domains.specs.declared.Value.{Value}
use Rattle.gts_core.specs.View.{assign_of}
use Rattle.gts_core.specs.declared.system.Variable.{Variable}
use Rattle.flow_changes.specs.Cone.{Knows}
use Rattle.flow_changes.specs.Known.{Touches, PutsKnown, Applies}
use Rattle.flow_changes.proofs.Puts.{some_as, applies_set, aims}
use Rattle.flow_changes.proofs.putting.apply_set.Goals as goal
use Rattle.ar_meaning.specs.Reached.{YieldsWhereReached}

pub index-requires : goal.index-requires
index-requires c =
    let a = aims c.args.parts.now c.args.assign.now c.requires.sound c.requires.one in
    let h = stands_within c.args.parts.now.variables.items c.args.assign.now.target.n a.variable a.stands in search (rules, h)

pub put_all-changed-requires-clause-domain : goal.put_all-changed-requires-clause-domain
put_all-changed-requires-clause-domain c =
    let p = c.args.parts.now in
    let t = c.args.assign.now.target.n in
    let a = aims p c.args.assign.now c.requires.sound c.requires.one in
    let h = stands_within p.variables.items t a.variable a.stands in
    subst (λ (x : Variable). IsDomain x.domain)
    (stands_one p.variables.items t a.variable c.index.result.now a.stands
    (stands_item p.variables.items t c.index.result.now h c.index.ensures)) a.domain

pub put_all-changed-requires-clause-within : goal.put_all-changed-requires-clause-within
put_all-changed-requires-clause-within c =
    let a = aims c.args.parts.now c.args.assign.now c.requires.sound c.requires.one in
    let h = stands_within c.args.parts.now.variables.items c.args.assign.now.target.n a.variable a.stands in omega (arith, h, c.requires.long)

pub put_all-changed-requires-clause-marked : goal.put_all-changed-requires-clause-marked
put_all-changed-requires-clause-marked c =
    let a = aims c.args.parts.now c.args.assign.now c.requires.sound c.requires.one in
    let h = stands_within c.args.parts.now.variables.items c.args.assign.now.target.n a.variable a.stands in omega (arith, h, c.requires.marked)

pub returns-clause-touches : goal.returns-clause-touches
returns-clause-touches c = λ x sx.
    let p = c.args.parts.now in
    let t = c.args.assign.now.target.n in
    let h = stands_within p.variables.items t x sx in
    let same = stands_one p.variables.items t c.index.result.now x
    (stands_item p.variables.items t c.index.result.now h c.index.ensures) sx in
    subst (λ (z : Variable). Touches z.domain t c.args.values.now.items c.args.known.now.items
    c.put_all-changed.new.values.items c.put_all-changed.new.known.items) same c.put_all-changed.ensures.touches

pub returns-clause-applies : goal.returns-clause-applies
returns-clause-applies c =
    let p = c.args.parts.now in
    let a = c.args.assign.now in
    let values = c.args.values.now.items in
    let known = c.args.known.now.items in
    let d = c.index.result.now.domain in
    let told = subst (λ (z : List Bool). YieldsWhereReached (Knows values z) (assign_of a) c.in_ok-set.field-0)
    c.deref-2.ensures.value (subst (λ (z : List Value). YieldsWhereReached (Knows z c.deref-2.result.now) (assign_of a)
    c.in_ok-set.field-0) c.deref.ensures.value c.in_ok-set.ensures) in
    let gives = subst (λ (o : Option (List Value)). YieldsWhereReached (Knows values known) (assign_of a) o) c.in-Some.is told in
    let set = subst (λ (z : List Value). YieldsWhereReached (Knows values known) (assign_of a) (Some z))
    (sym c.values.ensures.values) gives in
    some_as (PutsKnown d a.target.n c.values.result.now values known c.put_all-changed.new.values.items
    c.put_all-changed.new.known.items)
    (Applies p a values known c.put_all-changed.new.values.items c.put_all-changed.new.known.items)
    c.put_all-changed.result
    (λ changed puts. applies_set p a values known d c.values.result.now c.put_all-changed.new.values.items
    c.put_all-changed.new.known.items changed set puts) c.put_all-changed.ensures.puts
