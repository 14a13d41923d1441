-- Lines in pieces.
use Rattle.std.proofs.Common.{◌≡◌, ◌+◌, ℕ, zero, suc, List, [], ◌∷◌, ◌++◌, codes, decimal, drop, length, refl, ◌∙◌, ap}
use Rattle.ar_base.specs.Lists.{Stands}
use Rattle.ar_base.specs.Texts.{text_at}
use Rattle.ar_base.proofs.Lines.{line_after}
use Rattle.ar_meaning.specs.ValueTexts.{value_text}
use Rattle.gts_core.specs.declared.system.GtsParts.{GtsParts}
use Rattle.gts_flatten.specs.Flat.{naming_of_parts}
use Rattle.text_pieces.specs.WayLabels.{way_label}
use Rattle.mode_trees.specs.declared.forests.Edge.{Edge}
use Rattle.mode_trees.specs.declared.forests.ModeTree.{ModeTree}
use Rattle.cut_text.specs.ForestTexts.{edge_text, root_text, events_line}
use Rattle.cut_text.specs.ForestPrinted.{edge_line, tree_line, edge_count}

edge_pieces : (from label to : List ℕ)
    → codes "  " ++ (from ++ (codes " " ++ (label ++ (codes " " ++ (to ++ 10 ∷ []))))) ≡ edge_text from label to
edge_pieces from label to =
    line_after (codes "  ") (from ++ (codes " " ++ (label ++ (codes " " ++ to)))) _
    (line_after from (codes " " ++ (label ++ (codes " " ++ to))) _
    (line_after (codes " ") (label ++ (codes " " ++ to)) _
    (line_after label (codes " " ++ to) _ (line_after (codes " ") to _ refl))))

root_pieces : (path first : List ℕ)
    → codes "tree " ++ (path ++ (codes " at " ++ (first ++ 10 ∷ []))) ≡ root_text path first
root_pieces path first =
    line_after (codes "tree ") (path ++ (codes " at " ++ first)) _
    (line_after path (codes " at " ++ first) _ (line_after (codes " at ") first _ refl))

-- the same with the parts that were read
pub edge_written : (p q : GtsParts) (e : Edge) → q ≡ p
    → codes "  " ++ (value_text q.symbols.items
    e.from ++ (codes " " ++ (way_label p e.way.n ++ (codes " " ++ (value_text q.symbols.items e.to ++ 10 ∷ [])))))
    ≡ edge_line p e
edge_written p q e i =
    ap (λ (z : GtsParts). codes "  " ++ (value_text z.symbols.items
    e.from ++ (codes " " ++ (way_label p e.way.n ++ (codes " " ++ (value_text z.symbols.items e.to ++ 10 ∷ []))))))
    i
    ∙ edge_pieces (value_text p.symbols.items e.from) (way_label p e.way.n) (value_text p.symbols.items e.to)

pub root_written : (p : GtsParts) (t : ModeTree) (path : List ℕ)
    → path ≡ text_at (naming_of_parts p).variables t.variable.n
    → codes "tree " ++ (path ++ (codes " at " ++ (value_text p.symbols.items t.first ++ 10 ∷ []))) ≡ tree_line p t
root_written p t path e =
    root_pieces path (value_text p.symbols.items t.first)
    ∙ ap (λ (z : List ℕ). root_text z (value_text p.symbols.items t.first)) e

pub events_pieces : (n : ℕ) → codes "events " ++ (decimal n ++ 10 ∷ []) ≡ events_line n
events_pieces n = line_after (codes "events ") (decimal n) _ refl

-- one tree more of those that are counted
pub count_next : (ts : List ModeTree) (n : ℕ) (t : ModeTree) → Stands ts n t
    → edge_count (drop n ts) ≡ length t.edges.items + edge_count (drop (suc n) ts)
count_next [] n t s = cc
count_next (u ∷ ts) zero t s = let i : u ≡ t = cc in ap (λ (z : ModeTree). length z.edges.items + edge_count ts) i
count_next (u ∷ ts) (suc n) t s = count_next ts n t s
