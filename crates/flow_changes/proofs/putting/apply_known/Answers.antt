use Rattle.std.proofs.Common.{◌≡◌, true, false, Bool, List, [], ◌∷◌, Option, Some, rules, sym, subst, ap, ◌∙◌, arith}
use Rattle.std.specs.List.{list_all}
use Rattle.ar_base.specs.Numbers.{VarId}
use Rattle.ar_base.proofs.Standing.{stands_within, stands_item, stands_one}
use Rattle.domains.specs.Domains.{IsDomain}
use Rattle.domains.specs.declared.Value.{Value}
use Rattle.typed_expr.specs.declared.expr.Expr.{Expr}
use Rattle.gts_core.specs.Readings.{value_in, is_met}
use Rattle.gts_core.specs.declared.system.Variable.{Variable}
use Rattle.flow_changes.specs.Known.{Touches, PutsKnown, Applies}
use Rattle.flow_changes.proofs.Puts.{some_as, touches_not, applies_not, applies_set, aims}
use Rattle.flow_changes.proofs.NamedKnown.{not_met, yields_value}
use Rattle.flow_changes.proofs.putting.apply_known.Goals as goal

pub returns-then-not-are_met : goal.returns-then-not-are_met
returns-then-not-are_met c =
    let p = c.args.parts.now in
    let a = c.args.assign.now in
    let t = c.args.values.now.items in
    let known = c.args.known.now.items in
    let met : list_all (is_met t) a.when.items ≡ c.are_met.result =
    sym (c.are_met.ensures ∙ ap (λ (z : List Value). list_all (is_met z) c.deref-2.result.now)
    c.deref.ensures.value
    ∙ ap (λ (z : List (Expr VarId × Bool)). list_all (is_met t) z) c.deref-2.ensures.value) in
    record {
      touches = λ x sx. touches_not x.domain a.target.n t known;
      applies = applies_not p a t known (not_met p c.requires.sound a c.requires.one t c.requires.total known
          c.requires.named (met ∙ c.if-not-are_met.true));
    }

pub index-requires : goal.index-requires
index-requires c =
    let a = aims c.args.parts.now c.args.assign.now c.requires.sound c.requires.one in
    let h = stands_within c.args.parts.now.variables.items c.args.assign.now.target.n a.variable a.stands in search (rules, h)

pub put-requires-clause-domain : goal.put-requires-clause-domain
put-requires-clause-domain c =
    let p = c.args.parts.now in
    let t = c.args.assign.now.target.n in
    let a = aims p c.args.assign.now c.requires.sound c.requires.one in
    let h = stands_within p.variables.items t a.variable a.stands in
    subst (λ (x : Variable). IsDomain x.domain)
    (stands_one p.variables.items t a.variable c.index.result.now a.stands
    (stands_item p.variables.items t c.index.result.now h c.index.ensures)) a.domain

pub put-requires-clause-within : goal.put-requires-clause-within
put-requires-clause-within c =
    let a = aims c.args.parts.now c.args.assign.now c.requires.sound c.requires.one in
    let h = stands_within c.args.parts.now.variables.items c.args.assign.now.target.n a.variable a.stands in omega (arith, h, c.requires.total.long)

pub put-requires-clause-marked : goal.put-requires-clause-marked
put-requires-clause-marked c =
    let a = aims c.args.parts.now c.args.assign.now c.requires.sound c.requires.one in
    let h = stands_within c.args.parts.now.variables.items c.args.assign.now.target.n a.variable a.stands in omega (arith, h, c.requires.marked)

pub returns-clause-touches : goal.returns-clause-touches
returns-clause-touches c = λ x sx.
    let p = c.args.parts.now in
    let t = c.args.assign.now.target.n in
    let h = stands_within p.variables.items t x sx in
    let same = stands_one p.variables.items t c.index.result.now x
    (stands_item p.variables.items t c.index.result.now h c.index.ensures) sx in
    subst (λ (z : Variable). Touches z.domain t c.args.values.now.items c.args.known.now.items c.put.new.values.items
    c.put.new.known.items) same c.put.ensures.touches

pub returns-clause-applies : goal.returns-clause-applies
returns-clause-applies c =
    let p = c.args.parts.now in
    let a = c.args.assign.now in
    let t = c.args.values.now.items in
    let known = c.args.known.now.items in
    let d = c.index.result.now.domain in
    let v = c.value_in-v.result in
    let met : list_all (is_met t) a.when.items ≡ c.are_met.result =
    sym (c.are_met.ensures ∙ ap (λ (z : List Value). list_all (is_met z) c.deref-2.result.now)
    c.deref.ensures.value
    ∙ ap (λ (z : List (Expr VarId × Bool)). list_all (is_met t) z) c.deref-2.ensures.value) in
    let is : v ≡ value_in t a.value = c.value_in-v.ensures
    ∙ ap (λ (z : List Value). value_in z a.value) c.deref-3.ensures.value in
    let gives = yields_value p c.requires.sound a c.requires.one t c.requires.total known c.requires.named
    (met ∙ c.if-not-are_met.false) v is in
    some_as (PutsKnown d a.target.n (v ∷ []) t known c.put.new.values.items c.put.new.known.items)
    (Applies p a t known c.put.new.values.items c.put.new.known.items) c.put.result
    (λ changed puts. applies_set p a t known d (v ∷ []) c.put.new.values.items c.put.new.known.items changed gives puts)
    c.put.ensures.puts
