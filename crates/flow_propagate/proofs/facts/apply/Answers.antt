use Rattle.std.proofs.Common.{arith, rules, refl, subst, Option, List}
use Rattle.ar_base.specs.Lists.{Stands}
use Rattle.domains.specs.declared.Value.{Value}
use Rattle.domains.specs.Domains.{IsDomain}
use Rattle.ar_base.proofs.Standing.{stands_within}
use Rattle.gts_core.specs.View.{assign_of}
use Rattle.gts_core.specs.declared.system.Variable.{Variable}
use Rattle.flow_propagate.specs.Table.{YieldsFromTable, PutsAll}
use Rattle.flow_propagate.proofs.Putting.{aims, reads_there}
use Rattle.flow_propagate.proofs.Applying.{applies}
use Rattle.flow_propagate.proofs.Hearing.{leaves_answer}
use Rattle.flow_propagate.proofs.Searching.{leaves_as}
use Rattle.flow_propagate.proofs.facts.apply.Goals as goal

pub index-requires : goal.index-requires
index-requires c =
    let a = aims c.args.parts.now c.args.assign.now c.requires.sound c.requires.one in
    let h = stands_within c.args.parts.now.variables.items c.args.assign.now.target.n a.variable a.stands in search (rules, h)

pub some_outside-outside-requires : goal.some_outside-outside-requires
some_outside-outside-requires c =
    let a = aims c.args.parts.now c.args.assign.now c.requires.sound c.requires.one in
    subst (λ (x : Variable). IsDomain x.domain)
    (reads_there c.args.parts.now.variables.items c.args.assign.now.target.n a.variable c.index.result.now a.stands
    c.index.ensures) a.domain

pub put_all-requires-clause-in_range : goal.put_all-requires-clause-in_range
put_all-requires-clause-in_range c =
    let a = aims c.args.parts.now c.args.assign.now c.requires.sound c.requires.one in
    let h = stands_within c.args.parts.now.variables.items c.args.assign.now.target.n a.variable a.stands in omega (arith, h, c.requires.long)

pub put_all-requires-clause-domain : goal.put_all-requires-clause-domain
put_all-requires-clause-domain c =
    let a = aims c.args.parts.now c.args.assign.now c.requires.sound c.requires.one in
    subst (λ (x : Variable). IsDomain x.domain)
    (reads_there c.args.parts.now.variables.items c.args.assign.now.target.n a.variable c.index.result.now a.stands
    c.index.ensures) a.domain

pub returns-clause-applies : goal.returns-clause-applies
returns-clause-applies c =
    let a = aims c.args.parts.now c.args.assign.now c.requires.sound c.requires.one in
    let same = reads_there c.args.parts.now.variables.items c.args.assign.now.target.n a.variable c.index.result.now
    a.stands c.index.ensures in
    let reach = subst (λ (o : Option (List Value)). YieldsFromTable c.args.table.now.rows.items (assign_of c.args.assign.now) o)
    c.in-Some.is c.in_ok-set.ensures in
    let puts = subst (λ (vs : List Value). PutsAll c.index.result.now.domain c.args.assign.now.target.n vs
    c.args.table.now.rows.items c.put_all.new.table.rows.items c.in_ok-changed.changed)
    c.values-2.ensures.values c.in_ok-changed.ensures in
    applies c.args.parts.now c.args.assign.now c.requires.one c.index.result.now
    (subst (λ (x : Variable). Stands c.args.parts.now.variables.items c.args.assign.now.target.n x) same a.stands)
    (subst (λ (x : Variable). IsDomain x.domain) same a.domain) _ _ _ _ reach puts

pub returns-clause-outside : goal.returns-clause-outside
returns-clause-outside c =
    let a = aims c.args.parts.now c.args.assign.now c.requires.sound c.requires.one in
    let same = reads_there c.args.parts.now.variables.items c.args.assign.now.target.n a.variable c.index.result.now
    a.stands c.index.ensures in
    let reach = subst (λ (o : Option (List Value)). YieldsFromTable c.args.table.now.rows.items (assign_of c.args.assign.now) o)
    c.in-Some.is c.in_ok-set.ensures in
    leaves_as c.args.parts.now c.args.table.now.rows.items c.args.assign.now c.index.result.now.domain
    c.some_outside-outside.result c.index.result.now
    (subst (λ (x : Variable). Stands c.args.parts.now.variables.items c.args.assign.now.target.n x) same a.stands)
    refl
    (leaves_answer c.args.table.now.rows.items c.args.assign.now c.index.result.now.domain c.in-Some.set
    c.values.result.now c.some_outside-outside.result reach c.values.ensures.values c.some_outside-outside.ensures)
