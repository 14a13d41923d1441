use Rattle.std.proofs.Common.{ℕ, [], List, sym, ap, ◌∙◌, subst, Vec, Global, map, arith}
use Rattle.domains.specs.Domains.{values_of}
use Rattle.eq_build.specs.Entries.{Group, entries_of, entries_for, with_terms}
use Rattle.eq_build.specs.Views.{gates_in, row_at, lists_in, MakesEntries}
use Rattle.gts_core.specs.View.{net_of, assign_of}
use Rattle.gts_core.specs.declared.system.Assign.{Assign}
use Rattle.eq_build.specs.Steps.{Threads, Gives_target, RoundOf, together}
use Rattle.tree_equations.specs.Answers.{TooMany, row_in, Entries}
use Rattle.tree_equations.specs.Index.{to_target, AreNumbersOf}
use Rattle.ar_base.proofs.Standing.{stands_item}
use Rattle.tree_equations.proofs.Determined.{round_one}
use Rattle.tree_equations.proofs.Giving.{gives_on, entries_give}
use Rattle.tree_equations.proofs.Flowing.{round_given, round_stops}
use Rattle.tree_equations.proofs.rounds.flow_round.Goals as goal
use Rattle.flow_blocks.proofs.RowLemmas.{row_got}

pub each_given-requires-clause-domain : goal.each_given-requires-clause-domain
each_given-requires-clause-domain c =
    let vs = c.args.parts.now.variables.items in
    (c.requires.sound.variables c.args.n c.index.result.now
    (stands_item vs c.args.n c.index.result.now c.requires.under c.index.ensures)).domain

pub each_given-requires-clause-numbers : goal.each_given-requires-clause-numbers
each_given-requires-clause-numbers c =
    let p = c.args.parts.now in
    let n = c.args.n in
    let rows = c.args.index.now.assigns.items in
    let picked = to_target n p.assigns.items in
    let row = c.deref-2.ensures.value ∙ ap (λ (r : Vec ℕ Global). r.items) c.index-numbers.ensures
    ∙ row_got rows n c.index-numbers.result.now
    (let l = c.requires.under in let e = c.requires.index.assigns.long in omega (arith, l, e)) in (
      picked,
      subst (λ (z : List Assign). AreNumbersOf z c.deref-2.result.now picked) (sym c.deref.ensures.value)
          (subst (λ (z : List ℕ). AreNumbersOf p.assigns.items z picked) (sym row)
          (c.requires.index.assigns.row n c.requires.under)),
    )

pub returns-in_err-lists : goal.returns-in_err-lists
returns-in_err-lists c =
    let p = c.args.parts.now in
    let read = row_at c.args.rows.now in
    let g = gates_in c.args.gates.now.items in
    let n = c.args.n in
    let x = c.index.result.now in
    let st = stands_item p.variables.items n x c.requires.under c.index.ensures in
    let rows = c.args.index.now.assigns.items in
    let picked = to_target n p.assigns.items in
    let row = c.deref-2.ensures.value ∙ ap (λ (r : Vec ℕ Global). r.items) c.index-numbers.ensures
    ∙ row_got rows n c.index-numbers.result.now
    (let l = c.requires.under in let e = c.requires.index.assigns.long in omega (arith, l, e)) in
    let are = subst (λ (z : List Assign). AreNumbersOf z c.deref-2.result.now picked) (sym c.deref.ensures.value)
    (subst (λ (z : List ℕ). AreNumbersOf p.assigns.items z picked) (sym row)
    (c.requires.index.assigns.row n c.requires.under)) in
    gives_on row_in (λ es h. RoundOf (net_of p) read g n es h)
    (TooMany (λ ess h. Threads (Gives_target read (values_of x.domain)) g (map assign_of picked) ess h))
    c.from_residual.result c.in_err-lists.field-0.0 c.each_given.new.gates.items (round_stops p read g n x st)
    c.from_residual.ensures.1 (c.in_err-lists.ensures picked are)

pub entries-requires : goal.entries-requires
entries-requires c =
    let p = c.args.parts.now in
    let n = c.args.n in
    let rows = c.args.index.now.assigns.items in
    let picked = to_target n p.assigns.items in
    let row = c.deref-2.ensures.value ∙ ap (λ (r : Vec ℕ Global). r.items) c.index-numbers.ensures
    ∙ row_got rows n c.index-numbers.result.now
    (let l = c.requires.under in let e = c.requires.index.assigns.long in omega (arith, l, e)) in
    let are = subst (λ (z : List Assign). AreNumbersOf z c.deref-2.result.now picked) (sym c.deref.ensures.value)
    (subst (λ (z : List ℕ). AreNumbersOf p.assigns.items z picked) (sym row)
    (c.requires.index.assigns.row n c.requires.under)) in
    (c.in_ok-lists.ensures picked are).1

pub returns : goal.returns
returns c =
    let p = c.args.parts.now in
    let read = row_at c.args.rows.now in
    let g = gates_in c.args.gates.now.items in
    let h = gates_in c.each_given.new.gates.items in
    let n = c.args.n in
    let x = c.index.result.now in
    let st = stands_item p.variables.items n x c.requires.under c.index.ensures in
    let rows = c.args.index.now.assigns.items in
    let picked = to_target n p.assigns.items in
    let row = c.deref-2.ensures.value ∙ ap (λ (r : Vec ℕ Global). r.items) c.index-numbers.ensures
    ∙ row_got rows n c.index-numbers.result.now
    (let l = c.requires.under in let e = c.requires.index.assigns.long in omega (arith, l, e)) in
    let are = subst (λ (z : List Assign). AreNumbersOf z c.deref-2.result.now picked) (sym c.deref.ensures.value)
    (subst (λ (z : List ℕ). AreNumbersOf p.assigns.items z picked) (sym row)
    (c.requires.index.assigns.row n c.requires.under)) in
    let ess = lists_in c.in_ok-lists.lists.items in
    let b = entries_for h (together ess) in
    let made : RoundOf (net_of p) read g n b.entries b.gates =
    round_given p read g n x st ess h (c.in_ok-lists.ensures picked are).0 in
    let groups = c.in_ok-groups.ensures
    ∙ ap (λ (z : List Entries). with_terms (together (lists_in z)) []) c.deref-3.ensures.value in
    entries_give b (λ es k. RoundOf (net_of p) read g n es k) c.entries.result c.entries.new.gates.items made
    (λ y k d. (round_one read (net_of p) g _ k n _ y made d).1)
    (subst (λ (z : List Group). MakesEntries (entries_of h z) c.entries.result c.entries.new.gates.items) groups
    c.entries.ensures)
