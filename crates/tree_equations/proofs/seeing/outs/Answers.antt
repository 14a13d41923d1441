use Rattle.std.proofs.Common.{◌<◌, ℕ, List, length, get_or, refl, sym, ap, ◌∙◌, subst, rules}
use Rattle.std.proofs.lemmas.List.{get_or_default}
use Rattle.ar_base.specs.Lists.{Stands}
use Rattle.ar_base.proofs.Standing.{stands_within, stands_one, stands_item}
use Rattle.ar_meaning.specs.Systems as s
use Rattle.eq_core.specs.Views.{operand_of}
use Rattle.eq_build.specs.Views.{gates_in, row_at, StopsBuilding}
use Rattle.gts_core.specs.View.{assign_of, variable_of}
use Rattle.gts_core.specs.declared.system.Variable.{Variable}
use Rattle.gts_core.specs.declared.system.Assign.{Assign}
use Rattle.eq_build.specs.Steps.{Threads, Sees_outside}
use Rattle.tree_equations.specs.Answers.{TooMany, Gives, signs_in}
use Rattle.tree_equations.proofs.Each.{as_is, all_as_is, each_start, each_next, each_stops, each_ends}
use Rattle.tree_equations.proofs.Determined.{out_one}
use Rattle.tree_equations.proofs.Rising.{out_more}
use Rattle.tree_equations.proofs.Giving.{along_at, along_end}
use Rattle.tree_equations.proofs.seeing.outs.Goals as goal

pub index-assign-requires : goal.index-assign-requires
index-assign-requires c =
    let ks = c.args.leaving.now in
    let i = c.loop-k.k-index in
    let k = get_or ks i 0 in
    let at = along_at c.requires.leaving.1 i k c.loop-k-test.true (get_or_default ks i 0 k c.loop-k-test.true) in
    let h : k < length c.args.parts.now.assigns.items =
    stands_within c.args.parts.now.assigns.items k at.1.assign at.1.stands in
    search (rules, h)

pub index-requires : goal.index-requires
index-requires c =
    let ks = c.args.leaving.now in
    let i = c.loop-k.k-index in
    let k = get_or ks i 0 in
    let p = c.args.parts.now in
    let at = along_at c.requires.leaving.1 i k c.loop-k-test.true (get_or_default ks i 0 k c.loop-k-test.true) in
    let within = stands_within p.assigns.items k at.1.assign at.1.stands in
    let here = stands_item p.assigns.items k c.index-assign.result.now within c.index-assign.ensures in
    let same = stands_one p.assigns.items k at.1.assign c.index-assign.result.now at.1.stands here in
    let h : c.index-assign.result.now.target.n < length p.variables.items =
    subst (λ (z : Assign). z.target.n < length p.variables.items) same
    (stands_within p.variables.items at.1.assign.target.n at.1.variable at.1.is_target) in
    search (rules, h)

pub outside-requires-clause-domain : goal.outside-requires-clause-domain
outside-requires-clause-domain c =
    let ks = c.args.leaving.now in
    let i = c.loop-k.k-index in
    let k = get_or ks i 0 in
    let p = c.args.parts.now in
    let n = c.index-assign.result.now.target.n in
    let at = along_at c.requires.leaving.1 i k c.loop-k-test.true (get_or_default ks i 0 k c.loop-k-test.true) in
    let within = stands_within p.assigns.items k at.1.assign at.1.stands in
    let here = stands_item p.assigns.items k c.index-assign.result.now within c.index-assign.ensures in
    let same = stands_one p.assigns.items k at.1.assign c.index-assign.result.now at.1.stands here in
    let h : n < length p.variables.items =
    subst (λ (z : Assign). z.target.n < length p.variables.items) same
    (stands_within p.variables.items at.1.assign.target.n at.1.variable at.1.is_target) in
    (c.requires.sound.variables n c.index.result.now
    (stands_item p.variables.items n c.index.result.now h c.index.ensures)).domain

pub loop-k-init : goal.loop-k-init
loop-k-init c =
    let read = row_at c.args.rows.now in
    record {
      few = c.requires.few;
      so_far = λ pairs a. each_start as_is operand_of (Sees_outside read) (out_one read) (out_more read)
          (gates_in c.args.gates.now.items) pairs c.new-seen.result.items c.new-seen.ensures.items;
    }

pub loop-k-preserved : goal.loop-k-preserved
loop-k-preserved c =
    let read = row_at c.args.rows.now in
    let ks = c.args.leaving.now in
    let i = c.loop-k.k-index in
    let k = get_or ks i 0 in
    let p = c.args.parts.now in
    let a = c.index-assign.result.now in
    let x = c.index.result.now in
    let h = gates_in c.loop-k.gates.items in
    let j = gates_in c.outside.new.gates.items in
    let made = c.in_ok-operand.ensures (variable_of a.target.n x) refl in
    record {
      few = made.1;
      so_far = λ pairs along.
          let at = along_at along i k c.loop-k-test.true (get_or_default ks i 0 k c.loop-k-test.true) in
          let within = stands_within p.assigns.items k at.1.assign at.1.stands in
          let here = stands_item p.assigns.items k a within c.index-assign.ensures in
          let same = stands_one p.assigns.items k at.1.assign a at.1.stands here in
          let target = subst (λ (z : Assign). Stands p.variables.items z.target.n at.1.variable) same at.1.is_target in
          let there = stands_item p.variables.items a.target.n x
          (stands_within p.variables.items a.target.n at.1.variable target)
          c.index.ensures in
          let variable = stands_one p.variables.items a.target.n at.1.variable x target there in
          let pair = at.1.is ∙ ap (λ (z : Assign). (variable_of z.target.n at.1.variable, assign_of z)) same
          ∙ ap (λ (z : Variable). (variable_of a.target.n z, assign_of a)) variable in
          each_next as_is operand_of (Sees_outside read) (out_one read) (out_more read)
          (gates_in c.args.gates.now.items) h j pairs i at.0 c.loop-k.seen.items c.push.new.self.items
          c.in_ok-operand.operand at.2
          (subst (λ (z : s.Variable ℕ × s.Assign ℕ). Sees_outside read h z (operand_of c.in_ok-operand.operand) j)
          (sym pair) made.0) c.in_ok-push.ensures.items (c.loop-k.invariant.so_far pairs along);
    }

pub returns-in_err-operand : goal.returns-in_err-operand
returns-in_err-operand c = λ pairs along.
    let read = row_at c.args.rows.now in
    let ks = c.args.leaving.now in
    let i = c.loop-k.k-index in
    let k = get_or ks i 0 in
    let p = c.args.parts.now in
    let a = c.index-assign.result.now in
    let x = c.index.result.now in
    let h = gates_in c.loop-k.gates.items in
    let f = c.in_err-operand.field-0.0 in
    let fails = c.in_err-operand.ensures (variable_of a.target.n x) refl in
    let at = along_at along i k c.loop-k-test.true (get_or_default ks i 0 k c.loop-k-test.true) in
    let within = stands_within p.assigns.items k at.1.assign at.1.stands in
    let here = stands_item p.assigns.items k a within c.index-assign.ensures in
    let same = stands_one p.assigns.items k at.1.assign a at.1.stands here in
    let target = subst (λ (z : Assign). Stands p.variables.items z.target.n at.1.variable) same at.1.is_target in
    let there = stands_item p.variables.items a.target.n x
    (stands_within p.variables.items a.target.n at.1.variable target)
    c.index.ensures in
    let variable = stands_one p.variables.items a.target.n at.1.variable x target there in
    let pair = at.1.is ∙ ap (λ (z : Assign). (variable_of z.target.n at.1.variable, assign_of z)) same
    ∙ ap (λ (z : Variable). (variable_of a.target.n z, assign_of a)) variable in
    subst (λ (z : List (s.Variable ℕ × s.Assign ℕ)). Gives signs_in
    (λ os h. Threads (Sees_outside read) (gates_in c.args.gates.now.items) z os h) c.from_residual.result
    c.outside.new.gates.items) (all_as_is pairs)
    (each_stops as_is operand_of (Sees_outside read) (out_one read) (out_more read) (gates_in c.args.gates.now.items) h
    pairs i at.0 c.loop-k.seen.items c.from_residual.result f c.outside.new.gates.items at.2
    (c.loop-k.invariant.so_far pairs along) c.from_residual.ensures.1
    (subst (λ (z : s.Variable ℕ × s.Assign ℕ). StopsBuilding f (TooMany (λ y k. Sees_outside read h z y k))) (sym pair) fails))

pub returns : goal.returns
returns c = λ pairs along.
    let read = row_at c.args.rows.now in (
      subst (λ (z : List (s.Variable ℕ × s.Assign ℕ)). Threads (Sees_outside read) (gates_in c.args.gates.now.items) z
          (signs_in c.loop-k.seen) (gates_in c.loop-k.gates.items)) (all_as_is pairs)
          (each_ends as_is operand_of (Sees_outside read) (out_one read) (out_more read)
          (gates_in c.args.gates.now.items) (gates_in c.loop-k.gates.items) pairs c.loop-k.k-index c.loop-k.seen.items
          (along_end along c.loop-k.k-index c.loop-k-test.false) (c.loop-k.invariant.so_far pairs along)),
      c.loop-k.invariant.few,
    )
