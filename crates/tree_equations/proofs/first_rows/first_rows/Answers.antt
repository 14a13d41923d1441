use Rattle.std.proofs.Common.{◌≡◌, ◌<◌, ◌≤◌, ℕ, [], ◌∷◌, List, length, take, get_or, set, sym, ap, ◌∙◌, subst, rules, arith, take_all, Vec, Global, true, false}
use Rattle.std.proofs.Math.Path.{fun_ext}
use Rattle.std.proofs.lemmas.List.{length_push, get_or_default, length-set}
use Rattle.ar_base.specs.Lists.{Stands}
use Rattle.ar_base.proofs.Standing.{stands_one, stands_within, stands_item, stands_left, stands_next}
use Rattle.eq_build.specs.BuildsInside.{most_gates}
use Rattle.eq_build.specs.Views.{row_at, lists_in, entries_in}
use Rattle.eq_build.specs.declared.entries.Entry.{Entry}
use Rattle.gts_core.specs.declared.system.Variable.{Variable}
use Rattle.gts_core.specs.View.{variables_from}
use Rattle.mode_trees.specs.declared.forests.ModeTree.{ModeTree}
use Rattle.eq_build.specs.Steps.{first_reading, in_order}
use Rattle.tree_equations.specs.Answers.{Entries, row_in, trees_in}
use Rattle.tree_equations.proofs.FirstReading.{reading_or, first_from, first_step, first_done, IsPlaced, placed_put, placed_skip}
use Rattle.tree_equations.proofs.first_rows.first_rows.Goals as goal
use Rattle.tree_equations.proofs.first_rows.first_rows.Goals.{then-number-variables+then-variables-number+in_ok-row, else-number-variables, else-number-variables-via-then-number-variables+else-variables-number, else-number-variables-via-else-number-variables}

pub loop-entries-init : goal.loop-entries-init
loop-entries-init c =
    let l : length c.args.trees.now ≤ length c.args.modes.items = let e = c.requires.long in omega (arith, e) in
    record {
      few = let e = c.requires.long in omega (arith, e);
      long = c.in_ok-rows.ensures.long;
      small = c.requires.few;
      same = λ x. first_from (trees_in c.args.trees.now) (lists_in c.args.modes.items) 0 c.args.variables.now x
          (row_at c.in_ok-rows.rows.items) (c.in_ok-rows.ensures.reading x)
          ∙ ap (λ (z : List ModeTree). reading_or (trees_in z) (lists_in c.args.modes.items)
          (row_at c.in_ok-rows.rows.items) 0
          c.args.variables.now x) (sym (take_all (length c.args.modes.items) c.args.trees.now l));
    }

pub loop-entries-preserved : goal.loop-entries-preserved
loop-entries-preserved c =
    let vs = c.args.variables.now in
    let trees = c.args.trees.now in
    let left = c.pop.new.self.items in
    let tree = get_or trees c.len.result c.index-trees-len.result in
    let number = tree.variable.n in
    let es = c.in-Some.entries in
    let split = c.in-Some.ensures.items in
    let few = c.loop-entries.invariant.few in
    let size : c.len.result ≡ length left = search rules in
    let long = ap length split ∙ length_push left es in
    let l : c.len.result < length trees = omega (arith, size, long, few) in
    let at : tree ≡ get_or trees (length left) tree = get_or_default trees c.len.result c.index-trees-len.result tree l
    ∙ ap (λ (k : ℕ). get_or trees k tree) size in
    let rows = c.loop-entries.rows.items in
    let small : (n : ℕ) (row : Entries) → Stands left n row → length row.items ≤ most_gates = λ n row s.
    c.loop-entries.invariant.small n row (subst (λ (z : List Entries). Stands z n row) (sym split)
    (stands_left left (es ∷ []) n row s)) in
    let step : (new : List Entries) → IsPlaced vs number (row_in es) rows new → (x : ℕ)
    → first_reading (trees_in trees) (lists_in c.args.modes.items) 0 (variables_from 0 vs) x
    ≡ reading_or (trees_in (take (length left) trees)) (lists_in left) (row_at new) 0 vs x =
    λ new p x. c.loop-entries.invariant.same x ∙ first_step vs trees c.loop-entries.modes.items left es tree rows new
    split few at p x in
    elim c.if-number-variables.branch [
      | then-number-variables+then-variables-number+in_ok-row w ↦
          let new = c.if-number-variables.rows.items in
          let v = w.index-variables-number.result in
          let st = stands_item vs number v w.if-number-variables.true w.index-variables-number.is in
          let is : v.is_state ≡ true = search rules in
          let items : new ≡ set rows number w.in_ok-row.row = ap (λ (z : Vec Entries Global). z.items) w.rows-is in
          let order = w.in_ok-row.ensures ∙ ap (λ (z : List Entry). in_order (entries_in z)) w.deref.ensures.value in
          let keeps = c.loop-entries.invariant.long in
          let within = w.if-number-variables.true in
          record {
            few = omega (arith, long, few);
            small = small;
            long = ap length items ∙ length-set rows number w.in_ok-row.row ∙ keeps;
            same = step new (placed_put vs v number (row_in es) rows new w.in_ok-row.row st is
                (omega (arith, within, keeps)) order items);
          }
      | else-number-variables w ↦
          let new = c.if-number-variables.rows.items in
          let items : new ≡ rows = ap (λ (z : Vec Entries Global). z.items) w.rows-is in
          let none : (v : Variable) → Stands vs number v → v.is_state ≡ true → ⊥ =
          elim w.else-number-variables.branch [
            | else-number-variables-via-then-number-variables+else-variables-number u ↦ λ v st is.
                let one = stands_one vs number u.index-variables-number.result v
                (stands_item vs number u.index-variables-number.result u.if-number-variables.true
                u.index-variables-number.is)
                st in
                let not : u.index-variables-number.result.is_state ≡ false = search rules in
                differ (sym (ap (λ (z : Variable). z.is_state) one ∙ is) ∙ not)
            | else-number-variables-via-else-number-variables u ↦ λ v st is.
                let h = stands_within vs number v st in
                let k = u.if-number-variables.false in absurd (omega (arith, h, k))
          ] in
          record {
            few = omega (arith, long, few);
            small = small;
            long = ap length items ∙ c.loop-entries.invariant.long;
            same = step new (subst (λ (z : List Entries). IsPlaced vs number (row_in es) rows z) (sym items)
                (placed_skip vs number (row_in es) rows none));
          }
    ]
  where
    differ : true ≡ false → ⊥
    differ h = absurd (cc h)

pub in_order-requires : goal.in_order-requires
in_order-requires c =
    let split = c.in-Some.ensures.items in
    let es = c.in-Some.entries in
    let left = c.pop.new.self.items in
    let small = c.loop-entries.invariant.small (length left) es
    (subst (λ (z : List Entries). Stands z (length left) es) (sym split) (stands_next left es [])) in
    subst (λ (z : List Entry). length z ≤ most_gates) (sym c.deref.ensures.value) small

pub returns : goal.returns
returns c =
    let e : c.loop-entries.modes.items ≡ [] = search rules in
    record {
      long = c.loop-entries.invariant.long;
      reading = fun_ext (λ x. sym (c.loop-entries.invariant.same x ∙ first_done c.args.variables.now c.args.trees.now
          c.loop-entries.modes.items c.loop-entries.rows.items x e));
    }
