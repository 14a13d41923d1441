use Rattle.std.proofs.Common.{◌∷◌, [], List, Bool, true, false, pos, Vec, Global, sym, ap, ◌∙◌, subst}
use borrow.Author.Count.{falls}
use Rattle.ar_base.specs.Numbers.{VarId}
use Rattle.domains.specs.declared.Value.TheVariants.{Whole}
use Rattle.typed_expr.specs.Yields.{Level}
use Rattle.typed_expr.specs.declared.expr.Expr.{Expr, out-Expr}
use Rattle.typed_expr.specs.declared.expr.Expr.TheOpen as form
use Rattle.typed_expr.proofs.Opened.{opened-constant, opened-variable, opened-not, opened-all, opened-any, opened-compare, opened-sum, opened-product, opened-least, opened-greatest, opened-count, opened-choice}
use Rattle.typed_expr.proofs.Shrinking as smaller
use Rattle.eq_build.specs.Entries as e
use Rattle.eq_build.specs.Entries.{only, entries_for, opposite_terms, joint_terms, combined, folded, led, with_step, with_signs, chosen}
use Rattle.eq_build.specs.Builds.{Builds, Builds_each, Builds_parts, Builds_cases}
use Rattle.eq_build.specs.BuildsInside.{NeedsMore}
use Rattle.eq_build.specs.Builds as b
use Rattle.eq_build.specs.Views.{entries_in, lists_in, signed_parts_in, cases_in, gates_in, row_read, MakesEntries}
use Rattle.eq_build.specs.Answers.{EntryLists, PartsNeedMore, CasesNeedMore}
use Rattle.eq_build.specs.declared.entries.Entry.{Entry}
use Rattle.eq_build.specs.declared.steps.Step.TheVariants.{Times, Lesser, Greater, Counted, Compared}
use Rattle.eq_build.proofs.Arms as arm
use Rattle.eq_build.proofs.Operands as operand
use Rattle.eq_build.proofs.Reading.{row_here, row_past}
use Rattle.eq_build.proofs.Threading.{SoFar, nothing_yet}
use Rattle.eq_build.proofs.building.+building.Goals as goal

pub entries_of-returns-in_err-operands-in-All : goal.entries_of-returns-in_err-operands-in-All
entries_of-returns-in_err-operands-in-All t c =
    let rows = c.args.rows.now in
    let g = gates_in c.args.gates.now.items in
    let es = c.in-All.es in
    arm.each_fails rows g c.args.expr.now (form.All es) c.deref-in-All.result.now es.items
    c.from_residual-in_err-operands-in-All.result c.in_err-operands-in-All.field-0.0 c.each.new.gates.items
    (opened-all c.args.expr.now es c.in-All.is) c.deref-in-All.ensures.value (arm.up_all (row_read rows) g es)
    c.from_residual-in_err-operands-in-All.ensures.1 c.in_err-operands-in-All.ensures

pub entries_of-returns-in_ok-operands-in-All : goal.entries_of-returns-in_ok-operands-in-All
entries_of-returns-in_ok-operands-in-All t c =
    let rows = c.args.rows.now in
    let g = gates_in c.args.gates.now.items in
    let es = c.in-All.es in
    let h = gates_in c.each.new.gates.items in
    let all = c.in_ok-operands-in-All.operands.items in
    let made = c.in_ok-operands-in-All.ensures in
    arm.each_done rows g c.args.expr.now (form.All es) c.deref-in-All.result.now es.items all
    c.deref-in-All-2.result.now h (λ ess. entries_for h (joint_terms true ess)) c.joined.result c.joined.new.gates.items
    (opened-all c.args.expr.now es c.in-All.is) c.deref-in-All.ensures.value c.deref-in-All-2.ensures.value
    (λ d. b.all d) made.0 c.joined.ensures

pub entries_of-returns-in_err-operands-in-Any : goal.entries_of-returns-in_err-operands-in-Any
entries_of-returns-in_err-operands-in-Any t c =
    let rows = c.args.rows.now in
    let g = gates_in c.args.gates.now.items in
    let es = c.in-Any.es in
    arm.each_fails rows g c.args.expr.now (form.Any es) c.deref-in-Any.result.now es.items
    c.from_residual-in_err-operands-in-Any.result c.in_err-operands-in-Any.field-0.0 c.each-in-Any.new.gates.items
    (opened-any c.args.expr.now es c.in-Any.is) c.deref-in-Any.ensures.value (arm.up_any (row_read rows) g es)
    c.from_residual-in_err-operands-in-Any.ensures.1 c.in_err-operands-in-Any.ensures

pub entries_of-returns-in_ok-operands-in-Any : goal.entries_of-returns-in_ok-operands-in-Any
entries_of-returns-in_ok-operands-in-Any t c =
    let rows = c.args.rows.now in
    let g = gates_in c.args.gates.now.items in
    let es = c.in-Any.es in
    let h = gates_in c.each-in-Any.new.gates.items in
    let all = c.in_ok-operands-in-Any.operands.items in
    let made = c.in_ok-operands-in-Any.ensures in
    arm.each_done rows g c.args.expr.now (form.Any es) c.deref-in-Any.result.now es.items all
    c.deref-in-Any-2.result.now h (λ ess. entries_for h (joint_terms false ess)) c.joined-in-Any.result
    c.joined-in-Any.new.gates.items
    (opened-any c.args.expr.now es c.in-Any.is) c.deref-in-Any.ensures.value c.deref-in-Any-2.ensures.value
    (λ d. b.any d) made.0 c.joined-in-Any.ensures

pub entries_of-returns-in_err-operands-in-Least : goal.entries_of-returns-in_err-operands-in-Least
entries_of-returns-in_err-operands-in-Least t c =
    let rows = c.args.rows.now in
    let g = gates_in c.args.gates.now.items in
    let es = c.in-Least.es in
    arm.each_fails rows g c.args.expr.now (form.Least es) c.deref-in-Least.result.now es.items
    c.from_residual-in_err-operands-in-Least.result c.in_err-operands-in-Least.field-0.0 c.each-in-Least.new.gates.items
    (opened-least c.args.expr.now es c.in-Least.is) c.deref-in-Least.ensures.value (arm.up_least (row_read rows) g es)
    c.from_residual-in_err-operands-in-Least.ensures.1 c.in_err-operands-in-Least.ensures

pub entries_of-returns-in_ok-operands-in-Least : goal.entries_of-returns-in_ok-operands-in-Least
entries_of-returns-in_ok-operands-in-Least t c =
    let rows = c.args.rows.now in
    let g = gates_in c.args.gates.now.items in
    let es = c.in-Least.es in
    let h = gates_in c.each-in-Least.new.gates.items in
    let all = c.in_ok-operands-in-Least.operands.items in
    let made = c.in_ok-operands-in-Least.ensures in
    arm.each_done rows g c.args.expr.now (form.Least es) c.deref-in-Least.result.now es.items all
    c.deref-in-Least-2.result.now h (λ ess. led Lesser h ess) c.led.result c.led.new.gates.items
    (opened-least c.args.expr.now es c.in-Least.is) c.deref-in-Least.ensures.value c.deref-in-Least-2.ensures.value
    (λ d. b.least d) made.0 c.led.ensures

pub entries_of-returns-in_err-operands-in-Greatest : goal.entries_of-returns-in_err-operands-in-Greatest
entries_of-returns-in_err-operands-in-Greatest t c =
    let rows = c.args.rows.now in
    let g = gates_in c.args.gates.now.items in
    let es = c.in-Greatest.es in
    arm.each_fails rows g c.args.expr.now (form.Greatest es) c.deref-in-Greatest.result.now es.items
    c.from_residual-in_err-operands-in-Greatest.result c.in_err-operands-in-Greatest.field-0.0
    c.each-in-Greatest.new.gates.items
    (opened-greatest c.args.expr.now es c.in-Greatest.is) c.deref-in-Greatest.ensures.value
    (arm.up_greatest (row_read rows) g es)
    c.from_residual-in_err-operands-in-Greatest.ensures.1 c.in_err-operands-in-Greatest.ensures

pub entries_of-returns-in_ok-operands-in-Greatest : goal.entries_of-returns-in_ok-operands-in-Greatest
entries_of-returns-in_ok-operands-in-Greatest t c =
    let rows = c.args.rows.now in
    let g = gates_in c.args.gates.now.items in
    let es = c.in-Greatest.es in
    let h = gates_in c.each-in-Greatest.new.gates.items in
    let all = c.in_ok-operands-in-Greatest.operands.items in
    let made = c.in_ok-operands-in-Greatest.ensures in
    arm.each_done rows g c.args.expr.now (form.Greatest es) c.deref-in-Greatest.result.now es.items all
    c.deref-in-Greatest-2.result.now h (λ ess. led Greater h ess) c.led-in-Greatest.result
    c.led-in-Greatest.new.gates.items
    (opened-greatest c.args.expr.now es c.in-Greatest.is) c.deref-in-Greatest.ensures.value
    c.deref-in-Greatest-2.ensures.value
    (λ d. b.greatest d) made.0 c.led-in-Greatest.ensures

pub entries_of-returns-in_err-operands-in-Product : goal.entries_of-returns-in_err-operands-in-Product
entries_of-returns-in_err-operands-in-Product t c =
    let rows = c.args.rows.now in
    let g = gates_in c.args.gates.now.items in
    let es = c.in-Product.es in
    arm.each_fails rows g c.args.expr.now (form.Product es) c.deref-in-Product.result.now es.items
    c.from_residual-in_err-operands-in-Product.result c.in_err-operands-in-Product.field-0.0
    c.each-in-Product.new.gates.items
    (opened-product c.args.expr.now es c.in-Product.is) c.deref-in-Product.ensures.value
    (arm.up_product (row_read rows) g es)
    c.from_residual-in_err-operands-in-Product.ensures.1 c.in_err-operands-in-Product.ensures

pub entries_of-returns-in_ok-operands-in-Product : goal.entries_of-returns-in_ok-operands-in-Product
entries_of-returns-in_ok-operands-in-Product t c =
    let rows = c.args.rows.now in
    let g = gates_in c.args.gates.now.items in
    let es = c.in-Product.es in
    let h = gates_in c.each-in-Product.new.gates.items in
    let all = c.in_ok-operands-in-Product.operands.items in
    let made = c.in_ok-operands-in-Product.ensures in
    arm.each_done rows g c.args.expr.now (form.Product es) c.deref-in-Product.result.now es.items all
    c.deref-in-Product-2.result.now h (λ ess. folded h (entries_in (c.always-in-Product.result ∷ []))
    (with_step Times ess)) c.folded.result c.folded.new.gates.items
    (opened-product c.args.expr.now es c.in-Product.is) c.deref-in-Product.ensures.value
    c.deref-in-Product-2.ensures.value
    (λ d. subst (λ z. Builds (row_read rows) g (form.Product es) (folded h z (with_step Times (lists_in all))))
    (sym (ap (λ z. z ∷ []) c.always-in-Product.ensures)) (b.product d)) made.0 c.folded.ensures

pub entries_of-returns-in_err-operands-in-Count : goal.entries_of-returns-in_err-operands-in-Count
entries_of-returns-in_err-operands-in-Count t c =
    let rows = c.args.rows.now in
    let g = gates_in c.args.gates.now.items in
    let es = c.in-Count.es in
    arm.each_fails rows g c.args.expr.now (form.Count es) c.deref-in-Count.result.now es.items
    c.from_residual-in_err-operands-in-Count.result c.in_err-operands-in-Count.field-0.0 c.each-in-Count.new.gates.items
    (opened-count c.args.expr.now es c.in-Count.is) c.deref-in-Count.ensures.value (arm.up_count (row_read rows) g es)
    c.from_residual-in_err-operands-in-Count.ensures.1 c.in_err-operands-in-Count.ensures

pub entries_of-returns-in_ok-operands-in-Count : goal.entries_of-returns-in_ok-operands-in-Count
entries_of-returns-in_ok-operands-in-Count t c =
    let rows = c.args.rows.now in
    let g = gates_in c.args.gates.now.items in
    let es = c.in-Count.es in
    let h = gates_in c.each-in-Count.new.gates.items in
    let all = c.in_ok-operands-in-Count.operands.items in
    let made = c.in_ok-operands-in-Count.ensures in
    arm.each_done rows g c.args.expr.now (form.Count es) c.deref-in-Count.result.now es.items all
    c.deref-in-Count-2.result.now h (λ ess. folded h (entries_in (c.always-in-Count.result ∷ []))
    (with_step Counted ess)) c.folded-in-Count.result c.folded-in-Count.new.gates.items
    (opened-count c.args.expr.now es c.in-Count.is) c.deref-in-Count.ensures.value c.deref-in-Count-2.ensures.value
    (λ d. subst (λ z. Builds (row_read rows) g (form.Count es) (folded h z (with_step Counted (lists_in all))))
    (sym (ap (λ z. z ∷ []) c.always-in-Count.ensures)) (b.count d)) made.0 c.folded-in-Count.ensures

pub entries_of-returns-in_ok-from_slice-in-Constant : goal.entries_of-returns-in_ok-from_slice-in-Constant
entries_of-returns-in_ok-from_slice-in-Constant t c =
    let rows = c.args.rows.now in
    let read = row_read rows in
    let g = gates_in c.args.gates.now.items in
    let v = c.in-Constant.v in
    let level = ap (out-Expr VarId) c.in-Constant.is ∙ opened-constant v in
    let built : e.Built → Type 0 = λ z. Builds read g (form.Constant v) z in
    let made = subst (λ z. built (record { entries = z; gates = g }))
    (sym (ap entries_in c.in_ok-from_slice-in-Constant.ensures.items ∙ ap (λ z. z ∷ []) c.always.ensures))
    b.constant in (
      subst (λ (z : Level VarId). Builds read g z
          (record { entries = entries_in c.in_ok-from_slice-in-Constant.field-0.items; gates = g }))
          (sym level) made,
      c.requires,
    )

pub entries_of-returns-in_ok-from_slice-in-Some : goal.entries_of-returns-in_ok-from_slice-in-Some
entries_of-returns-in_ok-from_slice-in-Some t c =
    let rows = c.args.rows.now in
    let read = row_read rows in
    let g = gates_in c.args.gates.now.items in
    let x = c.in-Variable.x in
    let level = ap (out-Expr VarId) c.in-Variable.is ∙ opened-variable x in
    let found = c.in-Some.ensures.lookup in
    let same = ap entries_in (c.in_ok-from_slice-in-Some.ensures.items ∙ c.deref.ensures.value)
    ∙ ap (λ (z : Vec Entry Global). entries_in z.items) found.1 ∙ row_here rows x.n c.in-Some.row.now found.3.0 in
    let built : e.Built → Type 0 = λ z. Builds read g (form.Variable x) z in
    let made = subst (λ z. built (record { entries = z; gates = g })) (sym same) b.variable in (
      subst (λ (z : Level VarId). Builds read g z
          (record { entries = entries_in c.in_ok-from_slice-in-Some.field-0.items; gates = g }))
          (sym level) made,
      c.requires,
    )

pub entries_of-returns-in-None : goal.entries_of-returns-in-None
entries_of-returns-in-None t c =
    let rows = c.args.rows.now in
    let read = row_read rows in
    let g = gates_in c.args.gates.now.items in
    let x = c.in-Variable.x in
    let level = ap (out-Expr VarId) c.in-Variable.is ∙ opened-variable x in
    let found = c.in-None.ensures.lookup in
    let same = ap entries_in c.new.ensures.items ∙ sym (row_past rows x.n found.3) in
    let built : e.Built → Type 0 = λ z. Builds read g (form.Variable x) z in
    let made = subst (λ z. built (record { entries = z; gates = g })) (sym same) b.variable in (
      subst (λ (z : Level VarId). Builds read g z (record { entries = entries_in c.new.result.items; gates = g }))
          (sym level) made,
      c.requires,
    )

pub entries_of-returns-in_err-entries-in-Not : goal.entries_of-returns-in_err-entries-in-Not
entries_of-returns-in_err-entries-in-Not t c =
    let rows = c.args.rows.now in
    let g = gates_in c.args.gates.now.items in
    let a = c.in-Not.a in
    arm.fails rows g c.args.expr.now (form.Not a) (NeedsMore (row_read rows) g (out-Expr VarId c.deref-in-Not.result.now))
    c.from_residual-in_err-entries-in-Not.result c.in_err-entries-in-Not.field-0.0 c.entries_of.new.gates.items
    (opened-not c.args.expr.now a c.in-Not.is)
    (λ n. arm.up_not (row_read rows) g a
    (subst (λ (z : Expr VarId). NeedsMore (row_read rows) g (out-Expr VarId z)) c.deref-in-Not.ensures n))
    c.from_residual-in_err-entries-in-Not.ensures.1 c.in_err-entries-in-Not.ensures

pub entries_of-returns-in_ok-entries-in-Not : goal.entries_of-returns-in_ok-entries-in-Not
entries_of-returns-in_ok-entries-in-Not t c =
    let rows = c.args.rows.now in
    let read = row_read rows in
    let g = gates_in c.args.gates.now.items in
    let a = c.in-Not.a in
    let h = gates_in c.entries_of.new.gates.items in
    let xs = c.in_ok-entries-in-Not.entries.items in
    let made = c.in_ok-entries-in-Not.ensures in
    let first = subst (λ (z : Expr VarId). Builds read g (out-Expr VarId z)
    (record { entries = entries_in xs; gates = h }))
    c.deref-in-Not.ensures made.0 in
    arm.at_level rows g c.args.expr.now (form.Not a) c.turned.result c.turned.new.gates.items
    (opened-not c.args.expr.now a c.in-Not.is)
    (arm.finished rows g (form.Not a) (entries_for h (opposite_terms (entries_in xs))) c.turned.result
    c.turned.new.gates.items (b.opposite first)
    (subst (λ (z : List Entry). MakesEntries (entries_for h (opposite_terms (entries_in z))) c.turned.result
    c.turned.new.gates.items)
    c.deref-in-Not-2.ensures.value c.turned.ensures))

pub entries_of-returns-in_err-left-in-Compare : goal.entries_of-returns-in_err-left-in-Compare
entries_of-returns-in_err-left-in-Compare t c =
    let rows = c.args.rows.now in
    let g = gates_in c.args.gates.now.items in
    let q = c.in-Compare.relation in
    let x = c.in-Compare.a in
    let y = c.in-Compare.b in
    arm.fails rows g c.args.expr.now (form.Compare q x y)
    (NeedsMore (row_read rows) g (out-Expr VarId c.deref-in-Compare.result.now))
    c.from_residual-in_err-left-in-Compare.result c.in_err-left-in-Compare.field-0.0
    c.entries_of-in-Compare.new.gates.items
    (opened-compare c.args.expr.now q x y c.in-Compare.is)
    (λ n. arm.up_left (row_read rows) g q x y (subst
    (λ (z : Expr VarId). NeedsMore (row_read rows) g (out-Expr VarId z)) c.deref-in-Compare.ensures n))
    c.from_residual-in_err-left-in-Compare.ensures.1 c.in_err-left-in-Compare.ensures

pub entries_of-returns-in_err-right-in-Compare : goal.entries_of-returns-in_err-right-in-Compare
entries_of-returns-in_err-right-in-Compare t c =
    let rows = c.args.rows.now in
    let g = gates_in c.args.gates.now.items in
    let q = c.in-Compare.relation in
    let x = c.in-Compare.a in
    let y = c.in-Compare.b in
    let h = gates_in c.entries_of-in-Compare.new.gates.items in
    let left : e.Built = record { entries = entries_in c.in_ok-left-in-Compare.left.items; gates = h } in
    let made = c.in_ok-left-in-Compare.ensures in
    let first = subst (λ (z : Expr VarId). Builds (row_read rows) g (out-Expr VarId z) left)
    c.deref-in-Compare.ensures made.0 in
    arm.fails rows g c.args.expr.now (form.Compare q x y)
    (NeedsMore (row_read rows) h (out-Expr VarId c.deref-in-Compare-2.result.now))
    c.from_residual-in_err-right-in-Compare.result c.in_err-right-in-Compare.field-0.0
    c.entries_of-in-Compare-2.new.gates.items
    (opened-compare c.args.expr.now q x y c.in-Compare.is)
    (λ n. arm.up_right (row_read rows) g q x y left first (subst (λ (z : Expr VarId). NeedsMore (row_read rows) h
    (out-Expr VarId z)) c.deref-in-Compare-2.ensures n))
    c.from_residual-in_err-right-in-Compare.ensures.1 c.in_err-right-in-Compare.ensures

pub entries_of-returns-in_ok-right-in-Compare : goal.entries_of-returns-in_ok-right-in-Compare
entries_of-returns-in_ok-right-in-Compare t c =
    let rows = c.args.rows.now in
    let read = row_read rows in
    let g = gates_in c.args.gates.now.items in
    let q = c.in-Compare.relation in
    let x = c.in-Compare.a in
    let y = c.in-Compare.b in
    let h = gates_in c.entries_of-in-Compare.new.gates.items in
    let k = gates_in c.entries_of-in-Compare-2.new.gates.items in
    let xs = c.in_ok-left-in-Compare.left.items in
    let ys = c.in_ok-right-in-Compare.right.items in
    let left = c.in_ok-left-in-Compare.ensures in
    let right = c.in_ok-right-in-Compare.ensures in
    let first = subst (λ (z : Expr VarId). Builds read g (out-Expr VarId z)
    (record { entries = entries_in xs; gates = h }))
    c.deref-in-Compare.ensures left.0 in
    let second = subst (λ (z : Expr VarId). Builds read h (out-Expr VarId z)
    (record { entries = entries_in ys; gates = k }))
    c.deref-in-Compare-2.ensures right.0 in
    let made : List Entry → List Entry → Type 0 = λ v w.
    MakesEntries (combined (Compared q) k (entries_in v) (entries_in w)) c.combined.result c.combined.new.gates.items in
    arm.at_level rows g c.args.expr.now (form.Compare q x y) c.combined.result c.combined.new.gates.items
    (opened-compare c.args.expr.now q x y c.in-Compare.is)
    (arm.finished rows g (form.Compare q x y) (combined (Compared q) k (entries_in xs) (entries_in ys))
    c.combined.result
    c.combined.new.gates.items (b.compared first second)
    (subst (λ z. made xs z) c.deref-in-Compare-4.ensures.value
    (subst (λ z. made z c.deref-in-Compare-4.result.now) c.deref-in-Compare-3.ensures.value c.combined.ensures)))

pub entries_of-returns-in_err-operands-in-Sum : goal.entries_of-returns-in_err-operands-in-Sum
entries_of-returns-in_err-operands-in-Sum t c =
    let rows = c.args.rows.now in
    let g = gates_in c.args.gates.now.items in
    let ps = c.in-Sum.parts in
    arm.fails rows g c.args.expr.now (form.Sum ps) (PartsNeedMore (row_read rows) g c.deref-in-Sum.result.now)
    c.from_residual-in_err-operands-in-Sum.result c.in_err-operands-in-Sum.field-0.0 c.signed.new.gates.items
    (opened-sum c.args.expr.now ps c.in-Sum.is)
    (λ n. arm.up_sum (row_read rows) g ps (subst (λ (z : List (Bool × Expr VarId)). PartsNeedMore (row_read rows) g z)
    c.deref-in-Sum.ensures.value n))
    c.from_residual-in_err-operands-in-Sum.ensures.1 c.in_err-operands-in-Sum.ensures

pub entries_of-returns-in_ok-operands-in-Sum : goal.entries_of-returns-in_ok-operands-in-Sum
entries_of-returns-in_ok-operands-in-Sum t c =
    let rows = c.args.rows.now in
    let read = row_read rows in
    let g = gates_in c.args.gates.now.items in
    let ps = c.in-Sum.parts in
    let h = gates_in c.signed.new.gates.items in
    let all = c.in_ok-operands-in-Sum.operands.items in
    let made = c.in_ok-operands-in-Sum.ensures in
    let parts = subst (λ (z : List (Bool × Expr VarId)). Builds_parts read g z (signed_parts_in all) h)
    c.deref-in-Sum.ensures.value made.0 in
    let start = ap (λ z. z ∷ []) c.always-in-Sum.ensures in
    let w : List e.Entry → List (Bool × EntryLists) → e.Built = λ xs z. folded h xs (with_signs (signed_parts_in z)) in
    arm.at_level rows g c.args.expr.now (form.Sum ps) c.summed.result c.summed.new.gates.items
    (opened-sum c.args.expr.now ps c.in-Sum.is)
    (arm.finished rows g (form.Sum ps) (w (only (Whole (pos 0))) all) c.summed.result c.summed.new.gates.items
    (b.sum parts)
    (subst (λ z. MakesEntries (w z all) c.summed.result c.summed.new.gates.items) start
    (subst (λ z. MakesEntries (w (entries_in (c.always-in-Sum.result ∷ [])) z) c.summed.result c.summed.new.gates.items)
    c.deref-in-Sum-2.ensures.value c.summed.ensures)))

pub entries_of-returns-in_err-pairs-in-Choose : goal.entries_of-returns-in_err-pairs-in-Choose
entries_of-returns-in_err-pairs-in-Choose t c =
    let rows = c.args.rows.now in
    let read = row_read rows in
    let g = gates_in c.args.gates.now.items in
    let cs = c.in-Choose.cases in
    let other = c.in-Choose.other in
    arm.fails rows g c.args.expr.now (form.Choose cs other) (CasesNeedMore read g c.deref-in-Choose.result.now)
    c.from_residual-in_err-pairs-in-Choose.result c.in_err-pairs-in-Choose.field-0.0 c.tested.new.gates.items
    (opened-choice c.args.expr.now cs other c.in-Choose.is)
    (λ n. arm.up_cases read g cs other
    (subst (λ (z : List (Expr VarId × Expr VarId)). CasesNeedMore read g z) c.deref-in-Choose.ensures.value n))
    c.from_residual-in_err-pairs-in-Choose.ensures.1 c.in_err-pairs-in-Choose.ensures

pub entries_of-returns-in_err-rest-in-Choose : goal.entries_of-returns-in_err-rest-in-Choose
entries_of-returns-in_err-rest-in-Choose t c =
    let rows = c.args.rows.now in
    let read = row_read rows in
    let g = gates_in c.args.gates.now.items in
    let cs = c.in-Choose.cases in
    let other = c.in-Choose.other in
    let h = gates_in c.tested.new.gates.items in
    let all = c.in_ok-pairs-in-Choose.pairs.items in
    let made = c.in_ok-pairs-in-Choose.ensures in
    let cases = subst (λ (z : List (Expr VarId × Expr VarId)). Builds_cases read g z (cases_in all) h)
    c.deref-in-Choose.ensures.value made.0 in
    arm.fails rows g c.args.expr.now (form.Choose cs other)
    (NeedsMore read h (out-Expr VarId c.deref-in-Choose-2.result.now))
    c.from_residual-in_err-rest-in-Choose.result c.in_err-rest-in-Choose.field-0.0
    c.entries_of-in-Choose.new.gates.items
    (opened-choice c.args.expr.now cs other c.in-Choose.is)
    (λ n. arm.up_other read g cs other (cases_in all) h cases
    (subst (λ (z : Expr VarId). NeedsMore read h (out-Expr VarId z)) c.deref-in-Choose-2.ensures n))
    c.from_residual-in_err-rest-in-Choose.ensures.1 c.in_err-rest-in-Choose.ensures

pub entries_of-returns-in_ok-rest-in-Choose : goal.entries_of-returns-in_ok-rest-in-Choose
entries_of-returns-in_ok-rest-in-Choose t c =
    let rows = c.args.rows.now in
    let read = row_read rows in
    let g = gates_in c.args.gates.now.items in
    let cs = c.in-Choose.cases in
    let other = c.in-Choose.other in
    let h = gates_in c.tested.new.gates.items in
    let k = gates_in c.entries_of-in-Choose.new.gates.items in
    let all = c.in_ok-pairs-in-Choose.pairs.items in
    let xs = entries_in c.in_ok-rest-in-Choose.rest.items in
    let made = c.in_ok-pairs-in-Choose.ensures in
    let rest = c.in_ok-rest-in-Choose.ensures in
    let cases = subst (λ (z : List (Expr VarId × Expr VarId)). Builds_cases read g z (cases_in all) h)
    c.deref-in-Choose.ensures.value made.0 in
    let last = subst (λ (z : Expr VarId). Builds read h (out-Expr VarId z) (record { entries = xs; gates = k }))
    c.deref-in-Choose-2.ensures rest.0 in
    arm.at_level rows g c.args.expr.now (form.Choose cs other) c.chosen.result c.chosen.new.gates.items
    (opened-choice c.args.expr.now cs other c.in-Choose.is)
    (arm.finished rows g (form.Choose cs other) (chosen k (cases_in all) xs) c.chosen.result c.chosen.new.gates.items
    (b.choice cases last) c.chosen.ensures)

pub each-loop-e-init : goal.each-loop-e-init
each-loop-e-init t c =
    let rows = c.args.rows.now in
    let read = row_read rows in
    let g = gates_in c.args.gates.now.items in
    record {
      few = c.requires;
      so_far = subst (λ (z : List (EntryLists)). SoFar (Builds_each read) g c.args.es.now 0 (lists_in z) g)
          (sym c.new-operands.ensures.items) (nothing_yet (Builds_each read) g c.args.es.now);
    }

pub each-loop-e-preserved : goal.each-loop-e-preserved
each-loop-e-preserved t c =
    let rows = c.args.rows.now in
    let read = row_read rows in
    let g = gates_in c.args.gates.now.items in
    let h = gates_in c.loop-e.gates.items in
    let k = gates_in c.entries_of.new.gates.items in
    let made = c.in_ok-entries.ensures in
    record {
      few = made.1;
      so_far = operand.each_next rows g h k c.args.es.now c.loop-e.e-index c.e-item.result c.loop-e.operands.items
          c.push.new.self.items c.in_ok-entries.entries c.loop-e-test.true c.e-item.is made.0 c.in_ok-push.ensures.items
          c.loop-e.invariant.so_far;
    }

pub each-returns-in_err-entries : goal.each-returns-in_err-entries
each-returns-in_err-entries t c =
    let rows = c.args.rows.now in
    let read = row_read rows in
    let g = gates_in c.args.gates.now.items in
    let h = gates_in c.loop-e.gates.items in
    operand.each_stops rows g h c.args.es.now c.loop-e.e-index c.e-item.result c.loop-e.operands.items
    c.from_residual.result c.in_err-entries.field-0.0 c.entries_of.new.gates.items c.loop-e-test.true c.e-item.is
    c.loop-e.invariant.so_far c.from_residual.ensures.1 c.in_err-entries.ensures

pub each-returns : goal.each-returns
each-returns t c =
    let rows = c.args.rows.now in
    let read = row_read rows in
    let g = gates_in c.args.gates.now.items in
    let h = gates_in c.loop-e.gates.items in (
      operand.each_ends rows g h c.args.es.now c.loop-e.e-index c.loop-e.operands.items c.loop-e-test.false
          c.loop-e.invariant.so_far,
      c.loop-e.invariant.few,
    )

pub signed-loop-plus-init : goal.signed-loop-plus-init
signed-loop-plus-init t c =
    let rows = c.args.rows.now in
    let read = row_read rows in
    let g = gates_in c.args.gates.now.items in
    record {
      few = c.requires;
      so_far = subst (λ (z : List (Bool × EntryLists)). SoFar (Builds_parts read) g c.args.parts.now 0 (signed_parts_in z) g)
          (sym c.new-operands.ensures.items) (nothing_yet (Builds_parts read) g c.args.parts.now);
    }

pub signed-loop-plus-preserved : goal.signed-loop-plus-preserved
signed-loop-plus-preserved t c =
    let rows = c.args.rows.now in
    let read = row_read rows in
    let g = gates_in c.args.gates.now.items in
    let h = gates_in c.loop-plus.gates.items in
    let k = gates_in c.entries_of.new.gates.items in
    let made = c.in_ok-entries.ensures in
    record {
      few = made.1;
      so_far = operand.parts_next rows g h k c.args.parts.now c.loop-plus.plus-index c.loop-plus-item.result
          c.loop-plus.operands.items
          c.push.new.self.items c.in_ok-entries.entries c.loop-plus-test.true c.loop-plus-item.is made.0
          c.in_ok-push.ensures.items
          c.loop-plus.invariant.so_far;
    }

pub signed-returns-in_err-entries : goal.signed-returns-in_err-entries
signed-returns-in_err-entries t c =
    let rows = c.args.rows.now in
    let read = row_read rows in
    let g = gates_in c.args.gates.now.items in
    let h = gates_in c.loop-plus.gates.items in
    operand.parts_stop rows g h c.args.parts.now c.loop-plus.plus-index c.loop-plus-item.result
    c.loop-plus.operands.items
    c.from_residual.result c.in_err-entries.field-0.0 c.entries_of.new.gates.items c.loop-plus-test.true
    c.loop-plus-item.is
    c.loop-plus.invariant.so_far c.from_residual.ensures.1 c.in_err-entries.ensures

pub signed-returns : goal.signed-returns
signed-returns t c =
    let rows = c.args.rows.now in
    let read = row_read rows in
    let g = gates_in c.args.gates.now.items in
    let h = gates_in c.loop-plus.gates.items in (
      operand.parts_end rows g h c.args.parts.now c.loop-plus.plus-index c.loop-plus.operands.items
          c.loop-plus-test.false
          c.loop-plus.invariant.so_far,
      c.loop-plus.invariant.few,
    )

pub tested-loop-test-init : goal.tested-loop-test-init
tested-loop-test-init t c =
    let rows = c.args.rows.now in
    let read = row_read rows in
    let g = gates_in c.args.gates.now.items in
    record {
      few = c.requires;
      so_far = subst (λ (z : List (EntryLists × EntryLists)). SoFar (Builds_cases read) g c.args.cases.now 0 (cases_in z) g)
          (sym c.new-pairs.ensures.items) (nothing_yet (Builds_cases read) g c.args.cases.now);
    }

pub tested-loop-test-preserved : goal.tested-loop-test-preserved
tested-loop-test-preserved t c =
    let rows = c.args.rows.now in
    let read = row_read rows in
    let g = gates_in c.args.gates.now.items in
    let h = gates_in c.loop-test.gates.items in
    let m = gates_in c.entries_of.new.gates.items in
    let k = gates_in c.entries_of-in-loop-test.new.gates.items in
    let tests = c.in_ok-tests.ensures in
    let values = c.in_ok-values.ensures in
    record {
      few = values.1;
      so_far = operand.cases_next rows g h m k c.args.cases.now c.loop-test.test-index c.loop-test-item.result
          c.loop-test.pairs.items c.push.new.self.items c.in_ok-tests.tests c.in_ok-values.values c.loop-test-test.true
          c.loop-test-item.is tests.0 values.0 c.in_ok-push.ensures.items c.loop-test.invariant.so_far;
    }

pub tested-returns-in_err-tests : goal.tested-returns-in_err-tests
tested-returns-in_err-tests t c =
    let rows = c.args.rows.now in
    let read = row_read rows in
    let g = gates_in c.args.gates.now.items in
    let h = gates_in c.loop-test.gates.items in
    operand.test_stops rows g h c.args.cases.now c.loop-test.test-index c.loop-test-item.result c.loop-test.pairs.items
    c.from_residual.result c.in_err-tests.field-0.0 c.entries_of.new.gates.items c.loop-test-test.true
    c.loop-test-item.is
    c.loop-test.invariant.so_far c.from_residual.ensures.1 c.in_err-tests.ensures

pub tested-returns-in_err-values : goal.tested-returns-in_err-values
tested-returns-in_err-values t c =
    let rows = c.args.rows.now in
    let read = row_read rows in
    let g = gates_in c.args.gates.now.items in
    let h = gates_in c.loop-test.gates.items in
    let m = gates_in c.entries_of.new.gates.items in
    let tests = c.in_ok-tests.ensures in
    operand.value_stops rows g h m c.args.cases.now c.loop-test.test-index c.loop-test-item.result
    c.loop-test.pairs.items
    c.in_ok-tests.tests c.from_residual-in_err-values.result c.in_err-values.field-0.0
    c.entries_of-in-loop-test.new.gates.items c.loop-test-test.true c.loop-test-item.is c.loop-test.invariant.so_far
    tests.0
    c.from_residual-in_err-values.ensures.1 c.in_err-values.ensures

pub tested-returns : goal.tested-returns
tested-returns t c =
    let rows = c.args.rows.now in
    let read = row_read rows in
    let g = gates_in c.args.gates.now.items in
    let h = gates_in c.loop-test.gates.items in (
      operand.cases_end rows g h c.args.cases.now c.loop-test.test-index c.loop-test.pairs.items c.loop-test-test.false
          c.loop-test.invariant.so_far,
      c.loop-test.invariant.few,
    )

pub entries_of-entries_of-requires : goal.entries_of-entries_of-requires
entries_of-entries_of-requires t c = (
  smaller.one_falls _ _ t
      (smaller.less-not c.args.expr.now c.deref-in-Not.result.now c.in-Not.a c.in-Not.is c.deref-in-Not.ensures) c.decreases,
  c.requires,
)

pub entries_of-each-requires : goal.entries_of-each-requires
entries_of-each-requires t c = (
  smaller.list_falls _ _ t
      (smaller.less-all c.args.expr.now c.in-All.es c.deref-in-All.result.now c.in-All.is
      c.deref-in-All.ensures.value) c.decreases,
  c.requires,
)

pub entries_of-each-requires-in-Any : goal.entries_of-each-requires-in-Any
entries_of-each-requires-in-Any t c = (
  smaller.list_falls _ _ t
      (smaller.less-any c.args.expr.now c.in-Any.es c.deref-in-Any.result.now c.in-Any.is
      c.deref-in-Any.ensures.value) c.decreases,
  c.requires,
)

pub entries_of-each-requires-in-Product : goal.entries_of-each-requires-in-Product
entries_of-each-requires-in-Product t c = (
  smaller.list_falls _ _ t
      (smaller.less-product c.args.expr.now c.in-Product.es c.deref-in-Product.result.now c.in-Product.is
      c.deref-in-Product.ensures.value) c.decreases,
  c.requires,
)

pub entries_of-each-requires-in-Least : goal.entries_of-each-requires-in-Least
entries_of-each-requires-in-Least t c = (
  smaller.list_falls _ _ t
      (smaller.less-least c.args.expr.now c.in-Least.es c.deref-in-Least.result.now c.in-Least.is
      c.deref-in-Least.ensures.value) c.decreases,
  c.requires,
)

pub entries_of-each-requires-in-Greatest : goal.entries_of-each-requires-in-Greatest
entries_of-each-requires-in-Greatest t c = (
  smaller.list_falls _ _ t
      (smaller.less-greatest c.args.expr.now c.in-Greatest.es c.deref-in-Greatest.result.now c.in-Greatest.is
      c.deref-in-Greatest.ensures.value) c.decreases,
  c.requires,
)

pub entries_of-each-requires-in-Count : goal.entries_of-each-requires-in-Count
entries_of-each-requires-in-Count t c = (
  smaller.list_falls _ _ t
      (smaller.less-count c.args.expr.now c.in-Count.es c.deref-in-Count.result.now c.in-Count.is
      c.deref-in-Count.ensures.value) c.decreases,
  c.requires,
)

pub entries_of-entries_of-requires-in-Compare : goal.entries_of-entries_of-requires-in-Compare
entries_of-entries_of-requires-in-Compare t c = (
  smaller.one_falls _ _ t
      (smaller.less-left c.args.expr.now c.deref-in-Compare.result.now c.in-Compare.relation c.in-Compare.a
      c.in-Compare.b c.in-Compare.is c.deref-in-Compare.ensures) c.decreases,
  c.requires,
)

pub entries_of-entries_of-requires-in-Compare-2 : goal.entries_of-entries_of-requires-in-Compare-2
entries_of-entries_of-requires-in-Compare-2 t c = (
  smaller.one_falls _ _ t
      (smaller.less-right c.args.expr.now c.deref-in-Compare-2.result.now c.in-Compare.relation c.in-Compare.a
      c.in-Compare.b c.in-Compare.is c.deref-in-Compare-2.ensures) c.decreases,
  c.in_ok-left-in-Compare.ensures.1,
)

pub entries_of-signed-requires : goal.entries_of-signed-requires
entries_of-signed-requires t c = (
  smaller.list_falls _ _ t
      (smaller.less-parts c.args.expr.now c.in-Sum.parts c.deref-in-Sum.result.now c.in-Sum.is
      c.deref-in-Sum.ensures.value) c.decreases,
  c.requires,
)

pub entries_of-tested-requires : goal.entries_of-tested-requires
entries_of-tested-requires t c = (
  smaller.list_falls _ _ t
      (smaller.less-cases c.args.expr.now c.in-Choose.cases c.in-Choose.other c.deref-in-Choose.result.now
      c.in-Choose.is c.deref-in-Choose.ensures.value) c.decreases,
  c.requires,
)

pub entries_of-entries_of-requires-in-Choose : goal.entries_of-entries_of-requires-in-Choose
entries_of-entries_of-requires-in-Choose t c = (
  smaller.one_falls _ _ t
      (smaller.less-other c.args.expr.now c.deref-in-Choose-2.result.now c.in-Choose.cases c.in-Choose.other
      c.in-Choose.is c.deref-in-Choose-2.ensures) c.decreases,
  c.in_ok-pairs-in-Choose.ensures.1,
)

pub each-entries_of-requires : goal.each-entries_of-requires
each-entries_of-requires t c = (
  smaller.item_falls _ _ t
      (smaller.up-item c.args.es.now c.loop-e.e-index c.e-item.result c.loop-e-test.true c.e-item.is) c.decreases,
  c.loop-e.invariant.few,
)

pub signed-entries_of-requires : goal.signed-entries_of-requires
signed-entries_of-requires t c = (
  smaller.item_falls _ _ t
      (smaller.up-part c.args.parts.now c.loop-plus.plus-index c.loop-plus-item.result c.loop-plus-test.true
      c.loop-plus-item.is) c.decreases,
  c.loop-plus.invariant.few,
)

pub tested-entries_of-requires : goal.tested-entries_of-requires
tested-entries_of-requires t c = (
  smaller.item_falls _ _ t
      (smaller.up-test c.args.cases.now c.loop-test.test-index c.loop-test-item.result c.loop-test-test.true
      c.loop-test-item.is) c.decreases,
  c.loop-test.invariant.few,
)

pub tested-entries_of-requires-in-loop-test : goal.tested-entries_of-requires-in-loop-test
tested-entries_of-requires-in-loop-test t c = (
  smaller.item_falls _ _ t
      (smaller.up-value c.args.cases.now c.loop-test.test-index c.loop-test-item.result c.loop-test-test.true
      c.loop-test-item.is) c.decreases,
  c.in_ok-tests.ensures.1,
)

pub each-loop-e-smaller : goal.each-loop-e-smaller
each-loop-e-smaller t c =
    falls _ c.loop-e.e-index c.loop-e-test.true

pub signed-loop-plus-smaller : goal.signed-loop-plus-smaller
signed-loop-plus-smaller t c =
    falls _ c.loop-plus.plus-index c.loop-plus-test.true

pub tested-loop-test-smaller : goal.tested-loop-test-smaller
tested-loop-test-smaller t c =
    falls _ c.loop-test.test-index c.loop-test-test.true
