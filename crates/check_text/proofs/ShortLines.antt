-- The short ones of chains are the lines that are checked.
use Rattle.std.proofs.Common.{◌≡◌, ℕ, Option, Bool, true, false, inl, inr, List, [], ◌∷◌, map, refl, sym, ◌∙◌, ap, subst}
use Rattle.ar_base.specs.Lists.{Stands, IsOneOf}
use Rattle.ar_base.proofs.Standing.{one_cases, one_first, one_rest, one_here, stands_map, stands_map_back}
use Rattle.ar_base.specs.Numbers.{WayId}
use Rattle.ar_meaning.specs.Runs.{Label}
use Rattle.gts_core.specs.declared.bound.Chain.{Chain}
use Rattle.gts_core.specs.declared.system.GtsParts.{GtsParts}
use Rattle.job_inputs.specs.Chains.{cut_of, chain_labels, HaveKnownWays}
use Rattle.job_inputs.specs.CutLists.{CutLine}
use Rattle.cut_check.specs.Flat.{chain_lines}
use Rattle.check_text.specs.Printed.{is_chain_above, kept_chain, chains_within, chain_parts}
use Rattle.check_text.specs.Texts.{kept_line, within_order, lines_in}
use Rattle.check_text.proofs.SaidLemmas.{above_same}

module _ (p : GtsParts) where
  -- the lines of chains as cut lines
  pub lines_are : (chains : List Chain) → lines_in (map (cut_of p) chains) ≡ chain_lines p chains
  lines_are [] = refl
  lines_are (c ∷ cs) = ap (λ (z : List (List Label)). chain_labels p c.ways.items ∷ z) (lines_are cs)

  -- a cut line is known by the line and the ways of its chain
  abbrev cut_by : ℕ × List WayId → CutLine
  cut_by parts = record { number = parts.0; labels = chain_labels p parts.1 }

  by_parts : (chains : List Chain) → map (cut_of p) chains ≡ map cut_by (map chain_parts chains)
  by_parts [] = refl
  by_parts (c ∷ cs) = ap (λ (z : List CutLine). cut_of p c ∷ z) (by_parts cs)

  kept_same : (b : Bool) (c : Chain) (cs : List Chain)
      → map (cut_of p) (kept_chain b c cs) ≡ kept_line b (cut_of p c) (map (cut_of p) cs)
  kept_same true c cs = refl
  kept_same false c cs = refl

  within_same : (order : Option ℕ) (chains : List Chain)
      → map (cut_of p) (chains_within order chains) ≡ within_order order (map (cut_of p) chains)
  within_same order [] = refl
  within_same order (c ∷ cs) =
      kept_same (is_chain_above order c) c (chains_within order cs)
      ∙ ap (λ (z : List CutLine). kept_line (is_chain_above order c) (cut_of p c) z) (within_same order cs)
      ∙ ap (λ (b : Bool). kept_line b (cut_of p c) (within_order order (map (cut_of p) cs))) (sym (above_same p order c))

  pub short_are : (order : Option ℕ) (chains short : List Chain)
      → map chain_parts short ≡ map chain_parts (chains_within order chains)
      → map (cut_of p) short ≡ within_order order (map (cut_of p) chains)
  short_are order chains short e =
      by_parts short ∙ ap (map cut_by) e ∙ sym (by_parts (chains_within order chains)) ∙ within_same order chains

  -- the ways of the short ones of chains are known where those of the chains are
  kept_known : (b : Bool) (c : Chain) (cs : List Chain) (d : Chain) → IsOneOf (kept_chain b c cs) d → IsOneOf (c ∷ cs) d
  kept_known true c cs d o = one_rest c cs d o
  kept_known false c cs d o = o

  within_one : (order : Option ℕ) (chains : List Chain) (d : Chain) → IsOneOf (chains_within order chains) d
      → IsOneOf chains d
  within_one order [] d o = o
  within_one order (c ∷ cs) d o = elim (one_cases c (chains_within order cs) d
      (kept_known (is_chain_above order c) c (chains_within order cs) d o)) [
        | inl i ↦ subst (λ (z : Chain). IsOneOf (c ∷ cs) z) i (one_first c cs)
        | inr r ↦ one_rest c cs d (within_one order cs d r)
      ]

  pub short_known : (order : Option ℕ) (chains short : List Chain)
      → map chain_parts short ≡ map chain_parts (chains_within order chains) → HaveKnownWays p chains → HaveKnownWays p short
  short_known order chains short e known = record {
    each = λ c o w q.
        let at = stands_map chain_parts short o.place c o.stands in
        let there = subst (λ (z : List (ℕ × List WayId)). Stands z o.place (chain_parts c)) e at in
        let back = stands_map_back chain_parts (chains_within order chains) o.place (chain_parts c) there in
        let one = within_one order chains back.0 (one_here (chains_within order chains) o.place back.0 back.1) in
        known.each back.0 one w (subst (λ (z : ℕ × List WayId). IsOneOf z.1 w) (sym back.2) q);
  }
