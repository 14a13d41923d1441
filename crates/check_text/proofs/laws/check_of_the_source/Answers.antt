use Rattle.std.proofs.Common.{◌≡◌, ◌++◌, ◌∙◌, ◌&&◌, ℕ, Option, Bool, List, [], ◌∷◌, map, codes, refl, sym, ap, subst, arith}
use Rattle.std.proofs.lemmas.List.{length-map}
use Rattle.ar_base.specs.Lists.{Along}
use Rattle.ar_base.specs.Lists as l
use Rattle.ar_base.specs.Texts.{line}
use Rattle.ar_firing.specs.Cuts.{Cut}
use Rattle.ar_firing.specs.Forest.{ModeTree, IsLine}
use Rattle.ar_firing.specs.Listed.{AreListed}
use Rattle.firable_families.specs.Firable.{AndUpTo}
use Rattle.firable_families.proofs.Few.{and_up_to}
use Rattle.ar_firing.proofs.OneListing.{listed_as}
use Rattle.ar_meaning.specs.FlatOf.{IsNumber}
use Rattle.ar_meaning.specs.Runs.{Label}
use Rattle.ar_meaning.specs.Systems.{System}
use Rattle.ar_meaning.proofs.FlatSystems.{flat_image}
use Rattle.domains.specs.declared.Value.{Value}
use Rattle.typed_expr.specs.declared.expr.Expr.{Expr}
use Rattle.gts_core.specs.declared.bound.Chain.{Chain}
use Rattle.gts_core.specs.declared.system.GtsParts.{GtsParts}
use Rattle.gts_core.specs.View.{Views}
use Rattle.gts_flatten.specs.Elaborating.{Elaborated}
use Rattle.gts_flatten.specs.Flat.{naming_of}
use Rattle.mode_trees.specs.Views.{trees_of}
use Rattle.mode_trees.specs.declared.forests.Edge.{Edge}
use Rattle.mode_trees.specs.declared.forests.Forest.{Forest}
use Rattle.min_cuts.specs.Lines.{AreInFiringOrder}
use Rattle.job_inputs.specs.Chains.{cut_of, chain_labels}
use Rattle.job_inputs.specs.CutLists.{CutLine}
use Rattle.cut_check.specs.Flat.{chain_lines, IsVerdict}
use Rattle.cut_check.specs.Verdicts.{IsSaid, IsMissing}
use Rattle.cut_check.proofs.LawLemmas.{said_back, missing_there, missing_back}
use Rattle.cut_text.specs.Printed.{forest_edges, labels_in, things_of, IsForestOf}
use Rattle.cut_text.specs.Texts.{labels_text}
use Rattle.cut_text.proofs.UpToOrder.{has_it, is_small, has_other}
use Rattle.check_text.specs.Texts.{AreSaid, within_order, lines_in, said_lines, missing_lines, last_line}
use Rattle.check_text.proofs.MissingLemmas.{Unlisted, unlisted_of, missing_texts, listed_members}
use Rattle.check_text.proofs.SaidLemmas.{all_said, lines_same}
use Rattle.check_text.proofs.ShortLines.{lines_are, short_are}
use Rattle.check_text.proofs.SourceLines.{is_flat_of, source_set, text_is}
use Rattle.check_text.proofs.laws.check_of_the_source.Goals as goal

-- the parts of the text, one by one
joined : (order : Option ℕ) (a b k m : List ℕ) (g h i j : Bool) → a ≡ b → k ≡ m → g ≡ h → i ≡ j
    → a ++ (k ++ last_line order (g && i)) ≡ b ++ (m ++ last_line order (h && j))
joined order a b k m g h i j d e f w =
    ap (λ (z : List ℕ). z ++ (k ++ last_line order (g && i))) d
    ∙ ap (λ (z : List ℕ). b ++ (z ++ last_line order (g && i))) e
    ∙ ap (λ (z : Bool). b ++ (m ++ last_line order (z && i))) f
    ∙ ap (λ (z : Bool). b ++ (m ++ last_line order (h && z))) w

-- the missing cuts are listed
missing_listed : (order : Option ℕ) (p : GtsParts) (edges : List Edge) (flat : System ℕ) (dropped : List ℕ) (other : Expr ℕ)
    (wanted : Value) (lines : List (List Label)) (ts : List ModeTree) (sets lists : List (List ℕ))
    → AreListed (AndUpTo order (Cut flat dropped other wanted)) sets → (u : Unlisted p edges lines ts sets lists)
    → AreListed (AndUpTo order (IsMissing flat dropped other wanted lines)) u.left
missing_listed order p edges flat dropped other wanted lines ts sets lists listed u = record {
  ascend = λ k s st. listed.ascend (u.place k) s (u.places k s st);
  sound = λ k s st.
      let cut = listed.sound (u.place k) s (u.places k s st) in
      and_up_to order (IsMissing flat dropped other wanted lines) s
      (record { is_cut = has_it order (Cut flat dropped other wanted) s cut; unlisted = u.unlisted k s st })
      (is_small order (Cut flat dropped other wanted) s cut);
  whole = λ s m.
      let missing = has_it order (IsMissing flat dropped other wanted lines) s m in
      let o = listed.whole s (and_up_to order (Cut flat dropped other wanted) s missing.is_cut
      (is_small order (IsMissing flat dropped other wanted lines) s m)) in
      (o.0, u.whole o.1.place o.0 o.1.stands (λ hl. missing.unlisted (listed_members lines o.0 s o.3 o.2 hl)), o.2, o.3);
  in_order = λ j k a b lt sa sb. listed.in_order (u.place j) (u.place k) a b (u.later j k lt) (u.places j a sa)
      (u.places k b sb);
}

module _ (x : Elaborated) (p : GtsParts) (flat : System ℕ) (dropped : List ℕ) (f : Forest)
    (one : (a b : System ℕ) → Views p a → Views p b → a ≡ b) (h : IsForestOf x p flat dropped f) where
  lines_along : {left orders : List (List ℕ)} → AreInFiringOrder (trees_of (λ n. n) f) left orders
      → Along (IsLine x.system dropped) left (map (labels_in p (forest_edges f.trees.items)) orders)
  lines_along l.none = l.none
  lines_along (l.one_and {a = s} {b = es} g gs) =
      l.one_and (source_set x p flat dropped f one h s es g) (lines_along gs)

  texts_are : (orders : List (List ℕ))
      → missing_texts p (forest_edges f.trees.items) orders
      ≡ missing_lines (naming_of x.declarations) x.system (map (labels_in p (forest_edges f.trees.items)) orders)
  texts_are [] = refl
  texts_are (es ∷ more) =
      ap (λ (z : List ℕ). line (codes "missing " ++ z) ++ missing_texts p (forest_edges f.trees.items) more)
      (text_is x p flat dropped f one h es)
      ∙ ap (λ (z : List ℕ). line (codes "missing " ++ labels_text (naming_of x.declarations) x.system
      (labels_in p (forest_edges f.trees.items) es)) ++ z) (texts_are more)

pub returns : goal.returns
returns c = λ x p flat dropped f h observer other q wanted order sets lists listed g chains short verdicts shorts are.
    let one = c.one_system.ensures.one p in
    let things = things_of x in
    let edges = forest_edges f.trees.items in
    let lines = chain_lines p short in
    let own = is_flat_of x p flat dropped f one h in
    let image = flat_image things x.system flat own in
    let checked = short_are p order chains short shorts in
    let same : lines_in (within_order order (map (cut_of p) chains)) ≡ lines
    = ap lines_in (sym checked) ∙ lines_are p short in
    let u = unlisted_of p edges lines (trees_of (λ n. n) f) g in
    let s = all_said p flat dropped other wanted lines short 0 verdicts
    (λ n v st. subst (λ (z : ℕ). IsVerdict flat dropped other wanted lines short z v) (omega arith)
    (are.each n v st)) in
    record {
      said = s.all;
      are_said = subst (λ (ls : List (List Label)). AreSaid x.system dropped observer wanted ls s.all) (sym same)
          (record {
            long = s.long ∙ are.long ∙ sym (length-map short (λ (d : Chain). chain_labels p d.ways.items));
            each = λ n said st.
                said_back (IsNumber things) x.system flat image dropped observer other q wanted lines n said
                (subst (λ (z : ℕ). IsSaid flat dropped other wanted lines z said) (omega arith) (s.each n said st));
          });
      missing = u.left;
      are_missing = subst
          (λ (ls : List (List Label)). AreListed (AndUpTo order (IsMissing x.system dropped observer wanted ls)) u.left)
          (sym same)
          (listed_as
          (has_other order (IsMissing flat dropped other wanted lines) (IsMissing x.system dropped observer wanted lines)
          (λ set m. missing_back (IsNumber things) x.system flat image dropped observer other q wanted lines set m))
          (has_other order (IsMissing x.system dropped observer wanted lines) (IsMissing flat dropped other wanted lines)
          (λ set m. missing_there (IsNumber things) x.system flat image dropped observer other q wanted lines set m))
          (missing_listed order p edges flat dropped other wanted lines (trees_of (λ n. n) f) sets lists listed u));
      lines = map (labels_in p edges) u.orders;
      are_lines = lines_along x p flat dropped f one h u.along;
      is_text = joined order _ _ _ _ _ _ _ _
          (lines_same p flat dropped other wanted lines short order chains s.texts
          ∙ ap (λ (z : List CutLine). said_lines order z (map (cut_of p) chains) s.all) checked)
          (u.text ∙ texts_are x p flat dropped f one h u.orders) s.good u.none_left;
    }
