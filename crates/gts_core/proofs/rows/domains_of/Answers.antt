use Rattle.std.proofs.Common.{◌≡◌, ◌<◌, ◌≤◌, ℕ, List, length, get_or, subst, arith}
use Rattle.gts_core.specs.declared.system.Variable.{Variable}
use Rattle.ar_base.proofs.Standing.{stands_item}
use Rattle.gts_core.specs.Rows.{AreDomains}
use Rattle.gts_core.proofs.Gathering.{domains_start, domains_more}
use Rattle.gts_core.proofs.rows.domains_of.Goals as goal

pub loop-variable-init : goal.loop-variable-init
loop-variable-init c = domains_start c.args.parts.now c.new-rows.result.items c.new-rows.ensures.items

pub values-requires : goal.values-requires
values-requires c =
    let items = c.deref-variable-items.ensures.value in
    let below = subst (λ (z : List Variable). c.loop-variable.variable-index < length z) items
    c.loop-variable-test.true in
    let is = subst (λ (z : List Variable). c.variable-item.result
    ≡ get_or z c.loop-variable.variable-index c.variable-item.result) items c.variable-item.is in
    (c.requires.variables c.loop-variable.variable-index c.variable-item.result
    (stands_item c.args.parts.now.variables.items c.loop-variable.variable-index c.variable-item.result below
    is)).domain

pub loop-variable-preserved : goal.loop-variable-preserved
loop-variable-preserved c =
    let items = c.deref-variable-items.ensures.value in
    let below = subst (λ (z : List Variable). c.loop-variable.variable-index < length z) items
    c.loop-variable-test.true in
    let is = subst (λ (z : List Variable). c.variable-item.result
    ≡ get_or z c.loop-variable.variable-index c.variable-item.result) items c.variable-item.is in
    let st = stands_item c.args.parts.now.variables.items c.loop-variable.variable-index c.variable-item.result below
    is in
    domains_more c.args.parts.now c.loop-variable.variable-index c.loop-variable.rows.items c.push.new.self.items
    c.variable-item.result c.in_ok-row.row st c.loop-variable.invariant c.in_ok-row.ensures
    c.in_ok-push.ensures.items

pub returns : goal.returns
returns c =
    let past = subst (λ (z : List Variable). length z ≤ c.loop-variable.variable-index)
    c.deref-variable-items.ensures.value c.loop-variable-test.false in
    let within = subst (λ (z : List Variable). c.loop-variable.variable-index ≤ length z)
    c.deref-variable-items.ensures.value c.loop-variable.auto.variable-index-end in
    let e : c.loop-variable.variable-index ≡ length c.args.parts.now.variables.items = omega arith in
    subst (λ (n : ℕ). AreDomains c.args.parts.now n c.loop-variable.rows.items) e c.loop-variable.invariant
