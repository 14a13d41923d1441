-- The modes of a tree in the order of their values make few gates: one for each value at most.
use Rattle.std.proofs.Common.{◌≡◌, ℕ, zero, suc, ◌+◌, ◌≤◌, ◌<◌, Bool, true, false, if◌then◌else◌, List, [], ◌∷◌, ◌++◌, map, length, refl, sym, ap, ◌∙◌, subst, arith}
use Rattle.std.proofs.lemmas.List.{length_push, length-map}
use Rattle.ar_base.specs.Lists.{Stands, IsOneOf}
use Rattle.domains.specs.Same.{is_same}
use Rattle.domains.specs.Values.{is_before}
use Rattle.domains.specs.declared.Value.{Value}
use Rattle.ar_firing.specs.Forest.{Row, ModeTree}
use Rattle.eq_core.specs.Gates.{Operand, Always, Never, EventIs, GateIs, Gate, closed_as, joined, all_of}
use Rattle.eq_build.specs.Entries.{Entry, Group, with_term, with_terms, with_entry, is_never, all_of_each, one_of_alls, entries_of, entries_for}
use Rattle.eq_build.specs.Steps.{Threads, Has_modes, as_terms, not_left, entered, modes_of}
use Rattle.eq_build.specs.Steps as t
use Rattle.ar_base.proofs.Standing.{stands_map, stands_map_back}
use Rattle.eq_build.specs.BuildsInside.{most_gates}
use Rattle.eq_build.specs.Views.{entry_of, lists_in}
use Rattle.mode_trees.specs.declared.forests.ModeTree.{ModeTree as TreeOfCode}
use Rattle.mode_trees.specs.Views.{edge_row}
use Rattle.tree_equations.specs.Answers.{Entries, row_in, tree_in, plain}

-- each term is of one operand
data AreSingle : List (List Operand) → Type 0 where
  no_term : AreSingle []
  term_and : {o : Operand} {oss : List (List Operand)} → AreSingle oss → AreSingle ((o ∷ []) ∷ oss)

-- the terms of each group are
data HaveSingle : List Group → Type 0 where
  no_group : HaveSingle []
  group_and : {p : Group} {ps : List Group} → AreSingle p.terms → HaveSingle ps → HaveSingle (p ∷ ps)

-- one operand makes no gate
one_makes_none : (gates : List Gate) (o : Operand) → (all_of gates (o ∷ [])).gates ≡ gates
one_makes_none gates Always = refl
one_makes_none gates Never = refl
one_makes_none gates (EventIs e b) = refl
one_makes_none gates (GateIs g b) = refl

each_makes_none : (gates : List Gate) (oss : List (List Operand)) → AreSingle oss → (all_of_each gates oss).gates ≡ gates
each_makes_none gates [] no_term = refl
each_makes_none gates ((o ∷ []) ∷ oss) (term_and s) =
    each_makes_none (all_of gates (o ∷ [])).gates oss s ∙ one_makes_none gates o
each_makes_none gates ([] ∷ oss) s = elim s [ ]
each_makes_none gates ((o ∷ (p ∷ os)) ∷ oss) s = elim s [ ]

closed_makes_one : (both : Bool) (gates : List Gate) (kept : List Operand)
    → length (closed_as both gates kept).gates ≤ suc (length gates)
closed_makes_one both gates [] = omega arith
closed_makes_one both gates (o ∷ []) = omega arith
closed_makes_one both gates (o ∷ p ∷ os) =
    let l = length_push gates (record { both = both; operands = o ∷ p ∷ os }) in omega (arith, l)

-- one of several operands makes one gate at most
joined_makes_one : (gates : List Gate) (kept os : List Operand)
    → length (joined false gates kept os).gates ≤ suc (length gates)
joined_makes_one gates kept [] = closed_makes_one false gates kept
joined_makes_one gates kept (Always ∷ os) = omega arith
joined_makes_one gates kept (Never ∷ os) = joined_makes_one gates kept os
joined_makes_one gates kept (EventIs e b ∷ os) = joined_makes_one gates (kept ++ EventIs e b ∷ []) os
joined_makes_one gates kept (GateIs g b ∷ os) = joined_makes_one gates (kept ++ GateIs g b ∷ []) os

-- so does a group
group_makes_one : (gates : List Gate) (oss : List (List Operand)) → AreSingle oss
    → length (one_of_alls gates oss).gates ≤ suc (length gates)
group_makes_one gates oss s =
    let r = all_of_each gates oss in
    subst (λ (g : List Gate). length (one_of_alls gates oss).gates ≤ suc (length g)) (each_makes_none gates oss s)
    (joined_makes_one r.gates [] r.operands)

groups_make_few : (gates : List Gate) (ps : List Group) → HaveSingle ps
    → length (entries_of gates ps).gates ≤ length gates + length ps
groups_make_few gates [] no_group = omega arith
groups_make_few gates (p ∷ ps) (group_and s t) =
    let one = group_makes_one gates p.terms s in
    let rest = groups_make_few (one_of_alls gates p.terms).gates ps t in
    omega (arith, one, rest)

single_more : (oss : List (List Operand)) (o : Operand) → AreSingle oss → AreSingle (oss ++ (o ∷ []) ∷ [])
single_more [] o no_term = term_and no_term
single_more ((x ∷ []) ∷ oss) o (term_and s) = term_and (single_more oss o s)
single_more ([] ∷ oss) o s = elim s [ ]
single_more ((x ∷ (y ∷ ys)) ∷ oss) o s = elim s [ ]

-- one more term of one operand makes one group more at most
record AddsOne (old new : List Group) : Type 0 where
  single : HaveSingle new
  few : length new ≤ suc (length old)

-- the groups that a term of one operand makes of a first group and the others
one_choice : (v : Value) (o : Operand) (p : Group) (ps : List Group) → AreSingle p.terms → HaveSingle ps
    → AddsOne ps (with_term (record { value = v; operands = o ∷ [] }) ps) → (same before : Bool)
    → AddsOne (p ∷ ps) (if same then record { value = p.value; terms = p.terms ++ (o ∷ []) ∷ [] } ∷ ps
    else (if before then p ∷ with_term (record { value = v; operands = o ∷ [] }) ps
    else record { value = v; terms = (o ∷ []) ∷ [] } ∷ p ∷ ps))
one_choice v o p ps s t rest true before =
    record { single = group_and (single_more p.terms o s) t; few = omega arith }
one_choice v o p ps s t rest false true =
    record { single = group_and s rest.single; few = let f = rest.few in omega (arith, f) }
one_choice v o p ps s t rest false false =
    record { single = group_and (term_and no_term) (group_and s t); few = omega arith }

term_adds_one : (v : Value) (o : Operand) (ps : List Group) → HaveSingle ps
    → AddsOne ps (with_term (record { value = v; operands = o ∷ [] }) ps)
term_adds_one v o [] no_group = record { single = group_and (term_and no_term) no_group; few = omega arith }
term_adds_one v o (p ∷ ps) (group_and s t) =
    one_choice v o p ps s t (term_adds_one v o ps t) (is_same p.value v) (is_before p.value v)

terms_add_few : (es : List Entry) (ps : List Group) → HaveSingle ps
    → HaveSingle (with_terms (as_terms es) ps) × (length (with_terms (as_terms es) ps) ≤ length es + length ps)
terms_add_few [] ps h = (h, omega arith)
terms_add_few (e ∷ es) ps h =
    let one = term_adds_one e.value e.operand ps h in
    let rest = terms_add_few es (with_term (record { value = e.value; operands = e.operand ∷ [] }) ps) one.single in
    let f = one.few in
    let r = rest.1 in
    (rest.0, omega (arith, f, r))

-- entries in the order of their values make no more gates than they are
pub order_makes_few : (es : List Entry) → length (entries_for [] (as_terms es)).gates ≤ length es
order_makes_few es =
    let all = terms_add_few es [] no_group in
    let made = groups_make_few [] (with_terms (as_terms es) []) all.0 in
    let few = all.1 in
    omega (arith, made, few)

entry_adds_one : (v : Value) (o : Operand) (es : List Entry) → length (with_entry v o es) ≤ suc (length es)
entry_adds_one v o es = go (is_never o)
  where
    go : (b : Bool) → length (if b then es else record { value = v; operand = o } ∷ es) ≤ suc (length es)
    go true = omega arith
    go false = omega arith

entered_few : (all rs : List Row) (gates : List Gate) → length (entered all rs gates).entries ≤ length rs
entered_few all [] gates = omega arith
entered_few all (r ∷ rs) gates =
    let m = all_of gates (EventIs r.label.event true ∷ not_left r.to all) in
    let rest = entered_few all rs m.gates in
    let one = entry_adds_one r.to m.operand (entered all rs m.gates).entries in
    omega (arith, rest, one)

-- a tree has an entry for its first mode and one for each edge at most
pub modes_few : (tree : ModeTree) (gates : List Gate) → length (modes_of tree gates).entries ≤ suc (length tree.edges)
modes_few tree gates =
    let m = all_of gates (not_left tree.first tree.edges) in
    let rest = entered_few tree.edges tree.edges m.gates in
    let one = entry_adds_one tree.first m.operand (entered tree.edges tree.edges m.gates).entries in
    omega (arith, rest, one)

-- the entries that stand at this place are of the tree there, and few
record IsOfTree (trees : List ModeTree) (n : ℕ) (es : List Entry) : Type 0 where
  tree : ModeTree
  stands : Stands trees n tree
  few : length es ≤ suc (length tree.edges)

row_of_tree : {g h : List Gate} (trees : List ModeTree) (rows : List (List Entry)) (n : ℕ) (es : List Entry)
    → Threads Has_modes g trees rows h → Stands rows n es → IsOfTree trees n es
row_of_tree [] [] zero es t.none s = absurd (cc)
row_of_tree [] [] (suc n) es t.none s = absurd (cc)
row_of_tree [] (row ∷ rows) n es d s = elim d [ ]
row_of_tree (tree ∷ trees) [] n es d s = elim d [ ]
row_of_tree (tree ∷ trees) (row ∷ rows) zero es (t.one_and (t.modes {g = g}) d) s =
    let same : (modes_of tree g).entries ≡ es = cc in
    record { tree = tree; stands = refl; few = subst (λ (z : List Entry). length z ≤ suc (length tree.edges)) same (modes_few tree g) }
row_of_tree (tree ∷ trees) (row ∷ rows) (suc n) es (t.one_and o d) s =
    let r = row_of_tree trees rows n es d s in
    record { tree = r.tree; stands = r.stands; few = r.few }

-- the rows of trees with few edges are short
pub rows_few : (g h : List Gate) (trees : List TreeOfCode) (rows : List Entries)
    → Threads Has_modes g (map tree_in trees) (lists_in rows) h
    → ((tree : TreeOfCode) → IsOneOf trees tree → length tree.edges.items < most_gates)
    → (n : ℕ) (row : Entries) → Stands rows n row → length row.items ≤ most_gates
rows_few g h trees rows d small n row s =
    let r = row_of_tree (map tree_in trees) (lists_in rows) n (row_in row) d (stands_map row_in rows n row s) in
    let back = stands_map_back tree_in trees n r.tree r.stands in
    let few = small back.0 (record { place = n; stands = back.1 }) in
    let long = length-map row.items entry_of in
    let edges = sym (ap (λ (z : ModeTree). length z.edges) back.2) ∙ length-map back.0.edges.items (edge_row plain) in
    let f = r.few in
    omega (arith, few, long, edges, f)
