-- What the loops over steps, edges and spots keep.
use Rattle.std.proofs.Common.{◌≡◌, ◌<◌, ℕ, ◌+◌, List, [], ◌∷◌, ◌++◌, map, length, take, get_or, Result, Ok, Err, is_ok, IsOk, if◌then◌else◌, true≢false, refl, sym, ap, ap₂, ◌∙◌, append_assoc, append-nil}
use Rattle.std.proofs.lemmas.List.{map-append, take_more}
use Rattle.ar_firing.specs.Forest.{ModeTree}
use Rattle.mode_trees.specs.Views.{edge_row, tree_of}
use Rattle.mode_trees.specs.declared.forests.Edge.{Edge}
use Rattle.mode_trees.specs.declared.forests.ModeTree.{ModeTree as TreeOfCode}
use Rattle.min_cuts.specs.Kept.{edge_events}

-- what a push that cannot fail leaves
pub pushed : {T E V : Type 0} (r : Result V E) (old new : List T) (x : T) → IsOk r
    → new ≡ (if is_ok r then old ++ x ∷ [] else old) → new ≡ old ++ x ∷ []
pushed (Ok v) old new x h e = e
pushed (Err f) old new x h e = absurd (true≢false (sym h))

-- a mapped beginning grows by one item
pub map_more : {A B : Type 0} (f : A → B) (xs : List A) (k : ℕ) (d : A) (ys : List B) → k < length xs
    → ys ≡ map f (take k xs)
    → ys ++ f (get_or xs k d) ∷ [] ≡ map f (take (k + 1) xs)
map_more f xs k d ys l e = ap (λ z. z ++ f (get_or xs k d) ∷ []) e
    ∙ sym (map-append f (take k xs) (get_or xs k d ∷ [])) ∙ sym (ap (map f) (take_more xs k d l))

-- the events of one more tree come last
pub edge_events-push : (trees : List ModeTree) (t : ModeTree)
    → edge_events (trees ++ t ∷ []) ≡ edge_events trees ++ map (λ r. r.label.event) t.edges
edge_events-push [] t = append-nil (map (λ r. r.label.event) t.edges)
edge_events-push (u ∷ trees) t =
    ap (λ z. map (λ r. r.label.event) u.edges ++ z) (edge_events-push trees t)
    ∙ sym (append_assoc (map (λ r. r.label.event) u.edges) (edge_events trees) (map (λ r. r.label.event) t.edges))

-- the event of an edge of the code
abbrev edge_event : Edge → ℕ
edge_event e = (edge_row (λ n. n) e).label.event

seen_edges : (edges : List Edge) → map (λ r. r.label.event) (map (edge_row (λ n. n)) edges) ≡ map edge_event edges
seen_edges [] = refl
seen_edges (e ∷ edges) = ap (λ z. edge_event e ∷ z) (seen_edges edges)

-- one more tree's edges are put behind the others
pub order_more : (trees : List TreeOfCode) (k : ℕ) (tree : TreeOfCode) → k < length trees → tree ≡ get_or trees k tree
    → (old new : List ℕ) (edges : List Edge)
    → edges ≡ tree.edges.items → old ≡ edge_events (map (tree_of (λ n. n)) (take k trees))
    → new ≡ old ++ map edge_event edges
    → new ≡ edge_events (map (tree_of (λ n. n)) (take (k + 1) trees))
order_more trees k tree l is old new edges e o w =
    let view = tree_of (λ n. n) in
    w ∙ ap₂ (λ (a b : List ℕ). a ++ b) o (ap (map edge_event) e ∙ sym (seen_edges tree.edges.items))
    ∙ sym (edge_events-push (map view (take k trees)) (view tree))
    ∙ ap edge_events (sym (map-append view (take k trees) (tree ∷ [])))
    ∙ ap (λ z. edge_events (map view (take k trees ++ z ∷ []))) is
    ∙ ap (λ z. edge_events (map view z)) (sym (take_more trees k tree l))
