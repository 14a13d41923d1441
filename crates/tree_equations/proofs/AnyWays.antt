-- The ways of edges play no part.
use Rattle.std.proofs.Common.{◌≡◌, ℕ, ◌+◌, true, false, if◌then◌else◌, nat_eq, List, [], ◌∷◌, map, refl, sym, ap, ◌∙◌, subst}
use Rattle.std.proofs.Math.Path.{fun_ext}
use Rattle.domains.specs.Same.{is_same}
use Rattle.domains.specs.declared.Value.{Value}
use Rattle.typed_expr.specs.declared.expr.Expr.{Expr}
use Rattle.ar_meaning.specs.Systems as s
use Rattle.eq_core.specs.Gates.{Operand, EventIs, Gate, Table, all_of}
use Rattle.eq_build.specs.Entries.{Entry, Built, with_entry}
use Rattle.mode_trees.specs.Views.{edge_row, tree_of}
use Rattle.mode_trees.specs.declared.forests.Edge.{Edge}
use Rattle.mode_trees.specs.declared.forests.ModeTree.{ModeTree}
use Rattle.eq_build.specs.Steps.{Reading, Threads, Has_modes, not_left, entered, modes_of, in_order, modes_at, first_reading, All_rounds}
use Rattle.eq_build.specs.Steps as t
use Rattle.eq_build.specs.Table.{IsTable}
use Rattle.tree_equations.proofs.Determined.{modes_one}

module _ (f k : ℕ → ℕ) where
  left_any : (m : Value) (es : List Edge) → not_left m (map (edge_row f) es) ≡ not_left m (map (edge_row k) es)
  left_any m [] = refl
  left_any m (e ∷ es) = ap (λ z. if is_same e.from m then EventIs e.event.n false ∷ z else z) (left_any m es)

  -- a mode, and what comes behind it
  abbrev with_rest : Value → List Gate → List Operand → (List Gate → Built) → Built
  with_rest v g os rest =
      let m = all_of g os in
      let r = rest m.gates in
      record { entries = with_entry v m.operand r.entries; gates = r.gates }

  rest_any : (v : Value) (g : List Gate) (os ps : List Operand) (x y : List Gate → Built) → os ≡ ps
      → ((h : List Gate) → x h ≡ y h) → with_rest v g os x ≡ with_rest v g ps y
  rest_any v g os ps x y e h =
      ap (λ z. with_rest v g z x) e
      ∙ ap (λ (r : Built). let b : Built = record { entries = with_entry v (all_of g ps).operand r.entries; gates = r.gates } in b)
      (h (all_of g ps).gates)

  entered_any : (all rest : List Edge) (g : List Gate)
      → entered (map (edge_row f) all) (map (edge_row f) rest) g ≡ entered (map (edge_row k) all) (map (edge_row k) rest) g
  entered_any all [] g = refl
  entered_any all (r ∷ rs) g =
      rest_any r.to g (EventIs r.event.n true ∷ not_left r.to (map (edge_row f) all))
      (EventIs r.event.n true ∷ not_left r.to (map (edge_row k) all)) (entered (map (edge_row f) all) (map (edge_row f) rs))
      (entered (map (edge_row k) all) (map (edge_row k) rs)) (ap (λ z. EventIs r.event.n true ∷ z) (left_any r.to all))
      (entered_any all rs)

  modes_any : (tree : ModeTree) (g : List Gate) → modes_of (tree_of f tree) g ≡ modes_of (tree_of k tree) g
  modes_any tree g =
      let es = tree.edges.items in
      rest_any tree.first g (not_left tree.first (map (edge_row f) es)) (not_left tree.first (map (edge_row k) es))
      (entered (map (edge_row f) es) (map (edge_row f) es)) (entered (map (edge_row k) es) (map (edge_row k) es))
      (left_any tree.first es) (entered_any es es)

  has_any : (g : List Gate) (tree : ModeTree) (y : List Entry) (h : List Gate) → Has_modes g (tree_of f tree) y h
      → Has_modes g (tree_of k tree) y h
  has_any g tree y h d =
      let made : Has_modes g (tree_of f tree) (modes_of (tree_of f tree) g).entries
      (modes_of (tree_of f tree) g).gates = t.modes in
      let other : Has_modes g (tree_of k tree) (modes_of (tree_of k tree) g).entries
      (modes_of (tree_of k tree) g).gates = t.modes in
      let same = modes_one g h _ (tree_of f tree) y _ d made in
      subst (λ (z : List Entry). Has_modes g (tree_of k tree) z h) (sym same.0)
      (subst (λ (z : List Gate). Has_modes g (tree_of k tree) (modes_of (tree_of f tree) g).entries z) (sym same.1)
      (subst (λ (b : Built). Has_modes g (tree_of k tree) b.entries b.gates) (sym (modes_any tree g)) other))

  threads_any : (g : List Gate) (trees : List ModeTree) (ys : List (List Entry)) (h : List Gate)
      → Threads Has_modes g (map (tree_of f) trees) ys h → Threads Has_modes g (map (tree_of k) trees) ys h
  threads_any g [] ys h t.none = t.none
  threads_any g (tree ∷ trees) ys h (t.one_and {h = i} {b = y} {ys = zs} d ds) =
      t.one_and (has_any g tree y i d) (threads_any i trees zs h ds)

  modes_at_any : (n : ℕ) (trees : List ModeTree) (rows : List (List Entry)) (v : Value)
      → modes_at n (map (tree_of f) trees) rows v ≡ modes_at n (map (tree_of k) trees) rows v
  modes_at_any n [] rows v = refl
  modes_at_any n (tree ∷ trees) [] v = refl
  modes_at_any n (tree ∷ trees) (es ∷ rows) v =
      ap (λ z. if nat_eq tree.variable.n n then in_order es else z) (modes_at_any n trees rows v)

  first_any : (trees : List ModeTree) (rows : List (List Entry)) (n : ℕ) (ys : List (s.Variable ℕ)) (x : ℕ)
      → first_reading (map (tree_of f) trees) rows n ys x ≡ first_reading (map (tree_of k) trees) rows n ys x
  first_any trees rows n [] x = refl
  first_any trees rows n (y ∷ ys) x =
      ap (λ z. if nat_eq n x then (if y.is_state then z else [])
      else first_reading (map (tree_of f) trees) rows (n + 1) ys x)
      (modes_at_any n trees rows y.value)
      ∙ ap (λ z. if nat_eq n x then (if y.is_state then modes_at n (map (tree_of k) trees) rows y.value else []) else z)
      (first_any trees rows (n + 1) ys x)

  -- a table by one numbering of ways is one by another
  pub table_any : (net : s.Net ℕ) (trees : List ModeTree) (observer : Expr ℕ) (wanted : Value) (table : Table)
      → IsTable net (map (tree_of f) trees) observer wanted table
      → IsTable net (map (tree_of k) trees) observer wanted table
  table_any net trees observer wanted table w = record {
    modes = w.modes;
    after_modes = w.after_modes;
    has_modes = threads_any [] trees w.modes w.after_modes w.has_modes;
    blocks = w.blocks;
    are_blocks = w.are_blocks;
    known = w.known;
    after_rounds = w.after_rounds;
    has_rounds = subst (λ (z : Reading). All_rounds net w.blocks w.after_modes z w.known w.after_rounds)
        (fun_ext (first_any trees w.modes 0 net.variables)) w.has_rounds;
    twos = w.twos;
    after_twos = w.after_twos;
    sees_twos = w.sees_twos;
    leaving = w.leaving;
    all_leave = w.all_leave;
    outs = w.outs;
    after_outs = w.after_outs;
    sees_outs = w.sees_outs;
    totals = w.totals;
    after_totals = w.after_totals;
    has_totals = w.has_totals;
    total = w.total;
    is_total = w.is_total;
    broken = w.broken;
    after_broken = w.after_broken;
    sees_broken = w.sees_broken;
    after_conflict = w.after_conflict;
    conflict = w.conflict;
    seen = w.seen;
    observed = w.observed;
    top = w.top;
    gates = w.gates;
  }
