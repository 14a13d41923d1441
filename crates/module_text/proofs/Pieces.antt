-- How lines are arranged.
use Rattle.std.proofs.Common.{◌≡◌, inl, inr, ℕ, zero, suc, ◌+◌, ◌<◌, Bool, true, false, cond, ◌||◌, eqb, eq-eqb, List, [], ◌∷◌, ◌++◌, map, length, filter, take, get_or, refl, sym, ap, ap₂, ◌∙◌, subst, arith, append_assoc, codes, decimal}
use Rattle.std.specs.List.{flat_map}
use Rattle.std.proofs.lemmas.List.{map-append, take_more, length-map}
use Rattle.std.proofs.lemmas.List.Elements.{filter-append}
use Rattle.ar_base.specs.Lists.{Along, IsOneOf}
use Rattle.ar_base.specs.Lists.Along.{none, one_and}
use Rattle.ar_base.specs.NumbersInside.{EventId}
use Rattle.ar_base.specs.Texts.{line, text_at}
use Rattle.gts_core.specs.declared.system.GtsParts.{GtsParts}
use Rattle.mode_trees.specs.declared.forests.Edge.{Edge}
use Rattle.mode_trees.specs.declared.forests.ModeTree.{ModeTree}
use Rattle.zdd_nodes.specs.Families.{holds}
use Rattle.ar_base.specs.NumbersInside.{UnitId}
use Rattle.ar_base.proofs.Standing.{one_none, one_first, one_rest, one_cases, one_split, one_here, stands_map, stands_map_back, stands_within, along_back}
use Rattle.ar_base.proofs.Lines.{line_after}
use Rattle.mode_trees.specs.Ways.{OwnTheirWays}
use Rattle.text_pieces.specs.WayLabels.{way_label}
use Rattle.gate_modules.specs.ShortenedInside.{event_numbers, set_of, module_of, short_form_of}
use Rattle.gate_modules.specs.declared.ranges.EventSet.{EventSet}
use Rattle.gate_modules.specs.declared.ranges.Module.{Module}
use Rattle.gate_modules.specs.declared.ranges.Short.{Short}
use Rattle.gate_modules.specs.declared.ranges.ShortSet.{ShortSet}
use Rattle.cut_text.specs.Texts.{braced}
use Rattle.module_text.specs.Arranged.{unit_pieces, way_pieces, line_pieces, part_pieces, form_pieces, pieces_of, IsGroupOf, piece_text, line_text, part_lines, groups_lines, form_lines, IsInside, ArePiecesOf, LinesInside, GroupsInside}
use Rattle.module_text.specs.Printed.{edge_labels_in, module_lines, form_line}
use Rattle.module_text.specs.Texts.{module_line, part_line, unit_mark, lines_line}
use Rattle.module_text.specs.declared.arranging.Piece.{Piece}
use Rattle.module_text.specs.declared.arranging.Piece.TheVariants.{Unit as AUnit, Way as AWay}
use Rattle.module_text.specs.declared.arranging.Line.{Line}
use Rattle.module_text.specs.declared.arranging.Group.{Group}
use Rattle.cut_text.specs.Printed.{forest_edges}
use Rattle.cut_text.proofs.TableLemmas.{tree_of_edge}

pub edges_push : (ts : List ModeTree) (t : ModeTree) → forest_edges (ts ++ t ∷ []) ≡ forest_edges ts ++ t.edges.items
edges_push [] t = append_nil t.edges.items
  where
    append_nil : (xs : List Edge) → xs ++ [] ≡ xs
    append_nil [] = refl
    append_nil (x ∷ xs) = ap (λ z. x ∷ z) (append_nil xs)
edges_push (u ∷ ts) t = ap (λ z. u.edges.items ++ z) (edges_push ts t)
    ∙ sym (append_assoc u.edges.items (forest_edges ts) t.edges.items)

-- one group more
pub groups_more : (edges : List Edge) (ms : List Module) (k : ℕ) (m : Module) (gs new : List Group) (g : Group)
    → k < length ms → m ≡ get_or ms k m → new ≡ gs ++ g ∷ [] → IsGroupOf edges m g
    → Along (IsGroupOf edges) (take k ms) gs → Along (IsGroupOf edges) (take (k + 1) ms) new
groups_more edges ms k m gs new g l is e h a =
    subst (λ z. Along (IsGroupOf edges) z new) (sym (take_more ms k m l ∙ ap (λ z. take k ms ++ z ∷ []) (sym is)))
    (subst (Along (IsGroupOf edges) (take k ms ++ m ∷ [])) (sym e) (push (take k ms) gs a))
  where
    push : (xs : List Module) (ys : List Group) → Along (IsGroupOf edges) xs ys
        → Along (IsGroupOf edges) (xs ++ m ∷ []) (ys ++ g ∷ [])
    push _ _ none = one_and h none
    push _ _ (one_and {xs = xs} {ys = ys} q rest) = one_and q (push xs ys rest)

pub no_groups : (edges : List Edge) (gs : List Group) → gs ≡ [] → Along (IsGroupOf edges) [] gs
no_groups edges gs e = subst (Along (IsGroupOf edges) []) (sym e) none

-- ---- the ways of a line are ways of the system
one_mapped : {A B : Type 0} (f : A → B) (xs : List A) (b : B) → IsOneOf (map f xs) b
    → (a : A) × IsOneOf xs a × (f a ≡ b)
one_mapped f xs b i = let t = stands_map_back f xs i.place b i.stands in (t.0, one_here xs i.place t.0 t.1, t.2)

one_filtered : (q : Edge → Bool) (xs : List Edge) (e : Edge) → IsOneOf (filter q xs) e → IsOneOf xs e
one_filtered q [] e i = absurd (one_none e i)
one_filtered q (x ∷ xs) e i = step (one_filtered q xs e) (q x) i
  where
    step : (IsOneOf (filter q xs) e → IsOneOf xs e) → (b : Bool) → IsOneOf (cond b (x ∷ filter q xs) (filter q xs)) e
        → IsOneOf (x ∷ xs) e
    step ih true i = elim (one_cases x (filter q xs) e i)
        [ inl h ↦ subst (λ z. IsOneOf (x ∷ xs) z) h (one_first x xs) | inr j ↦ one_rest x xs e (ih j) ]
    step ih false i = one_rest x xs e (ih i)

module _ (p : GtsParts) (ts : List ModeTree) (own : OwnTheirWays p ts) where
  edge_inside : (e : Edge) → IsOneOf (forest_edges ts) e → e.way.n < length p.ways.items
  edge_inside e i =
      let r = tree_of_edge ts e i in
      let o = (own.each r.0 r.1).each e r.2 in
      stands_within p.ways.items e.way.n o.way o.stands

  line_inside : (units : List UnitId) (set : List ℕ) → ArePiecesOf p (line_pieces (forest_edges ts) units set)
  line_inside units set = record {
    each = λ x i. elim (one_split (unit_pieces units) (way_pieces (forest_edges ts) set) x i) [
      | inl j ↦ (let t = one_mapped (λ (u : UnitId). AUnit u) units x j in subst (IsInside p) t.2 tt)
      | inr j ↦ (let t = one_mapped (λ (e : Edge). AWay e.way) (filter (λ (e : Edge). holds e.event.n set) (forest_edges ts)) x j in
          subst (IsInside p) t.2 (edge_inside t.0
          (one_filtered (λ (e : Edge). holds e.event.n set) (forest_edges ts) t.0 t.1)))
    ];
  }

  inside_from : {A : Type 0} (f : A → List Piece) → ((a : A) → ArePiecesOf p (f a)) → (xs : List A) (lines : List Line)
      → map pieces_of lines ≡ map f xs → LinesInside p lines
  inside_from f h xs lines e = record {
    each = λ l i.
        let t = one_mapped f xs l.pieces.items
        (subst (λ z. IsOneOf z l.pieces.items) e
        (one_here (map pieces_of lines) i.place l.pieces.items
        (stands_map pieces_of lines i.place l i.stands))) in
        subst (ArePiecesOf p) t.2 (h t.0);
  }

  pub forms_inside : (sets : List ShortSet) (lines : List Line)
      → map pieces_of lines ≡ map (form_pieces (forest_edges ts)) sets → LinesInside p lines
  forms_inside sets lines e = inside_from (form_pieces (forest_edges ts))
      (λ s. line_inside s.units.items (event_numbers s.events.items)) sets lines e

  parts_inside : (sets : List EventSet) (lines : List Line) → map pieces_of lines ≡ map (part_pieces (forest_edges ts)) sets
      → LinesInside p lines
  parts_inside sets lines e = inside_from (part_pieces (forest_edges ts)) (λ s. line_inside [] (event_numbers
      s.events.items)) sets lines e

  pub groups_inside : (ms : List Module) (gs : List Group) → Along (IsGroupOf (forest_edges ts)) ms gs → GroupsInside p gs
  groups_inside ms gs a = record { each = λ g i. let t = along_back ms gs a i.place g i.stands in parts_inside t.0.sets.items g.lines.items t.2.lines }

pub head_pieces : (path t : List ℕ) → path ≡ t → codes "module " ++ (path ++ 10 ∷ []) ≡ module_line t
head_pieces path t e = line_after (codes "module ") path _ refl ∙ ap module_line e

pub mark_pieces : (path t : List ℕ) → path ≡ t → codes "[" ++ (path ++ codes "]") ≡ unit_mark t
mark_pieces path t e = ap unit_mark e

pub part_text : (t : List ℕ) → codes "  " ++ (t ++ 10 ∷ []) ≡ part_line t
part_text t = line_after (codes "  ") t _ refl

pub last_pieces : (n : ℕ) → codes "lines " ++ (decimal n ++ 10 ∷ []) ≡ lines_line n
last_pieces n = line_after (codes "lines ") (decimal n) _ refl

-- ---- the whole text
texts_kept : (p : GtsParts) (edges : List Edge) (units : List UnitId) (set : List ℕ)
    → map (piece_text p) (line_pieces edges units set)
    ≡ map (λ u. unit_mark (text_at p.units.items u)) (map (λ (u : UnitId). u.n) units) ++ edge_labels_in p edges set
texts_kept p edges units set = map-append (piece_text p) (unit_pieces units) (way_pieces edges set)
    ∙ ap₂ (λ y z. y ++ z) (marks units) (labels (filter (λ (e : Edge). holds e.event.n set) edges))
  where
    marks : (us : List UnitId) → map (piece_text p) (unit_pieces us)
        ≡ map (λ u. unit_mark (text_at p.units.items u)) (map (λ (u : UnitId). u.n) us)
    marks [] = refl
    marks (u ∷ us) = ap (λ z. unit_mark (text_at p.units.items u.n) ∷ z) (marks us)

    labels : (es : List Edge) → map (piece_text p) (map (λ (e : Edge). AWay e.way) es)
        ≡ map (λ (e : Edge). way_label p e.way.n) es
    labels [] = refl
    labels (e ∷ es) = ap (λ z. way_label p e.way.n ∷ z) (labels es)

module _ (p : GtsParts) (edges : List Edge) where
  form_texts : (sets : List ShortSet) (lines : List Line) → map pieces_of lines ≡ map (form_pieces edges) sets
      → form_lines p lines ≡ flat_map (form_line p edges) (map short_form_of sets)
  form_texts sets lines e = through lines ∙ ap (flat_map (λ ps. line (braced (map (piece_text p) ps)))) e ∙ each sets
    where
      through : (ls : List Line) → form_lines p ls
          ≡ flat_map (λ ps. line (braced (map (piece_text p) ps))) (map pieces_of ls)
      through [] = refl
      through (l ∷ ls) = ap (λ z. line (line_text p l) ++ z) (through ls)

      each : (ss : List ShortSet) → flat_map (λ ps. line (braced (map (piece_text p) ps))) (map (form_pieces edges) ss)
          ≡ flat_map (form_line p edges) (map short_form_of ss)
      each [] = refl
      each (s ∷ ss) = ap₂ (λ y z. line (braced y) ++ z) (texts_kept p edges s.units.items (event_numbers
          s.events.items)) (each ss)

  part_texts : (sets : List EventSet) (lines : List Line) → map pieces_of lines ≡ map (part_pieces edges) sets
      → part_lines p lines ≡ flat_map (λ set. part_line (braced (edge_labels_in p edges set))) (map set_of sets)
  part_texts sets lines e = through lines ∙ ap (flat_map (λ ps. part_line (braced (map (piece_text p) ps)))) e
      ∙ each sets
    where
      through : (ls : List Line) → part_lines p ls
          ≡ flat_map (λ ps. part_line (braced (map (piece_text p) ps))) (map pieces_of ls)
      through [] = refl
      through (l ∷ ls) = ap (λ z. part_line (line_text p l) ++ z) (through ls)

      each : (ss : List EventSet) → flat_map (λ ps. part_line (braced (map (piece_text p) ps)))
          (map (part_pieces edges) ss) ≡ flat_map (λ set. part_line (braced (edge_labels_in p edges set))) (map set_of ss)
      each [] = refl
      each (s ∷ ss) = ap₂ (λ y z. part_line (braced y) ++ z) (texts_kept p edges [] (event_numbers s.events.items))
          (each ss)

  group_texts : (ms : List Module) (gs : List Group) → Along (IsGroupOf edges) ms gs
      → groups_lines p gs ≡ flat_map (module_lines p edges) (map module_of ms)
  group_texts _ _ none = refl
  group_texts _ _ (one_and {a = m} {b = g} {xs = ms} {ys = gs} q rest) =
      ap₂ (λ y z. y ++ z) (ap₂ (λ y z. y ++ z) (ap (λ (u : UnitId). module_line (text_at p.units.items u.n)) q.unit)
      (part_texts m.sets.items g.lines.items q.lines)) (group_texts ms gs rest)

  pub whole_text : (s : Short) (gs : List Group) (lines : List Line) (n : ℕ)
      → Along (IsGroupOf edges) s.modules.items gs → map pieces_of lines ≡ map (form_pieces edges) s.sets.items
      → n ≡ length lines
      → groups_lines p gs ++ (form_lines p lines ++ lines_line n)
      ≡ flat_map (module_lines p edges) (map module_of s.modules.items)
      ++ (flat_map (form_line p edges) (map short_form_of s.sets.items) ++ lines_line (length s.sets.items))
  whole_text s gs lines n a e k = ap₂ (λ y z. y ++ z) (group_texts s.modules.items gs a)
      (ap₂ (λ y z. y ++ lines_line z) (form_texts s.sets.items lines e)
      (k ∙ sym (length-map lines pieces_of) ∙ ap length e ∙ length-map s.sets.items (form_pieces edges)))
