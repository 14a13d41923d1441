use Rattle.std.proofs.Common.{◌<◌, ◌+◌, ℕ, length, List, Contains, get_or, sym, subst, rules, Vec, Global}
use Rattle.std.proofs.lemmas.List.{get_or_default}
use Rattle.domains.specs.Domains.{Holds}
use Rattle.domains.specs.declared.Value.{Value}
use Rattle.ar_meaning.specs.Found.{IsAnswer}
use Rattle.ar_base.proofs.Standing.{stands_within, stands_one, stands_item}
use Rattle.ar_base.proofs.Items.{none_left}
use Rattle.gts_core.specs.declared.system.Variable.{Variable}
use Rattle.gts_core.specs.declared.system.Assign.{Assign}
use Rattle.tree_equations.specs.Index.{to_target}
use Rattle.tree_equations.specs.Leaving.{MayGiveOutside}
use Rattle.ar_meaning.proofs.Found.{holds, fails}
use Rattle.tree_equations.proofs.Allowing.{leave_answer}
use Rattle.tree_equations.proofs.Giving.{along_at, along_end}
use Rattle.tree_equations.proofs.LeavingLemmas.{OneSoFar, one_start, one_leaves, one_stays, one_end}
use Rattle.tree_equations.proofs.leaving.push_leaving.Goals as goal
use Rattle.tree_equations.proofs.leaving.push_leaving.Goals.{then-some_outside+in_ok-push, else-some_outside}

pub index-requires : goal.index-requires
index-requires c =
    let ks = c.args.numbers.now in
    let i = c.loop-k.k-index in
    let k = get_or ks i 0 in
    let xs = c.args.parts.now.assigns.items in
    let at = along_at c.requires.numbers i k c.loop-k-test.true (get_or_default ks i 0 k c.loop-k-test.true) in
    let h : k < length xs = stands_within xs k at.0 at.1 in
    search (rules, h)

pub some_outside-requires : goal.some_outside-requires
some_outside-requires c =
    let vs = c.args.parts.now.variables.items in
    let x = c.index-variable.result.now in
    (c.requires.sound.variables c.args.flow x
    (stands_item vs c.args.flow x c.requires.flow c.index-variable.ensures)).domain

pub loop-k-init : goal.loop-k-init
loop-k-init c = λ x at. one_start c.args.parts.now c.args.flow x at c.args.leaving.now.items

pub loop-k-preserved : goal.loop-k-preserved
loop-k-preserved c = λ x at.
    let p = c.args.parts.now in
    let flow = c.args.flow in
    let old = c.args.leaving.now.items in
    let ks = c.args.numbers.now in
    let i = c.loop-k.k-index in
    let k = get_or ks i 0 in
    let xs = p.assigns.items in
    let a = along_at c.requires.numbers i k c.loop-k-test.true (get_or_default ks i 0 k c.loop-k-test.true) in
    let within = stands_within xs k a.0 a.1 in
    let item = c.index.result.now in
    let same = stands_one xs k item a.0 (stands_item xs k item within c.index.ensures) a.1 in
    let v = c.index-variable.result.now in
    let one = stands_one p.variables.items flow v x
    (stands_item p.variables.items flow v c.requires.flow c.index-variable.ensures) at in
    let b = c.some_outside.result in
    let domain = (c.requires.sound.variables flow v
    (stands_item p.variables.items flow v c.requires.flow c.index-variable.ensures)).domain in
    let answer = leave_answer p c.args.domains.now.rows.items c.requires.domains v item _ c.in_ok-set.ensures.yields domain b
    (subst (λ (z : List Value). IsAnswer b ((y : Value) × Contains z y × (Holds v.domain y → ⊥)))
    c.values.ensures.values c.some_outside.ensures) in
    let so_far = c.loop-k.invariant x at in
    elim c.if-some_outside.branch [
      | then-some_outside+in_ok-push w ↦
          subst (λ (z : Vec ℕ Global). OneSoFar p flow x at old (i + 1) z.items) (sym w.leaving-is)
          (one_leaves p flow x at old i k c.loop-k.leaving.items a.0 a.2 a.1 so_far w.push.new.self.items
          w.in_ok-push.ensures.items
          (subst (λ (z : Variable). MayGiveOutside z a.0 p) one
          (subst (λ (z : Assign). MayGiveOutside v z p) same (holds _ b w.if-some_outside.true answer))))
      | else-some_outside w ↦
          subst (λ (z : Vec ℕ Global). OneSoFar p flow x at old (i + 1) z.items) (sym w.leaving-is)
          (one_stays p flow x at old i k c.loop-k.leaving.items a.0 a.2 a.1 so_far
          (λ m. fails _ b w.if-some_outside.false answer
          (subst (λ (z : Assign). MayGiveOutside v z p) (sym same)
          (subst (λ (z : Variable). MayGiveOutside z a.0 p) (sym one) m))))
    ]

pub returns : goal.returns
returns c = λ x at.
    let all = to_target c.args.flow c.args.parts.now.assigns.items in
    one_end c.args.parts.now c.args.flow x at c.args.leaving.now.items c.loop-k.k-index c.loop-k.leaving.items
    (none_left all c.loop-k.k-index (along_end c.requires.numbers c.loop-k.k-index c.loop-k-test.false))
    (c.loop-k.invariant x at)
