-- Verdicts as what is said of lines.
use Rattle.std.proofs.Common.{◌≡◌, ◌+◌, ℕ, zero, suc, Option, Bool, true, false, ◌&&◌, codes, decimal, List, [], ◌∷◌, ◌++◌, map, length, slice_get, refl, sym, ◌∙◌, ap, subst, arith}
use Rattle.std.proofs.lemmas.List.{length-map}
use Rattle.ar_base.specs.Lists.{Stands, Along}
use Rattle.ar_base.specs.Lists as l
use Rattle.ar_base.specs.Numbers.{WayId}
use Rattle.ar_base.specs.Texts.{line}
use Rattle.ar_base.proofs.Standing.{stands_none, stands_map}
use Rattle.domains.specs.declared.Value.{Value}
use Rattle.typed_expr.specs.declared.expr.Expr.{Expr}
use Rattle.ar_meaning.specs.Systems.{System}
use Rattle.ar_meaning.specs.Runs.{Label}
use Rattle.gts_core.specs.declared.bound.Chain.{Chain}
use Rattle.gts_core.specs.declared.system.GtsParts.{GtsParts}
use Rattle.job_inputs.specs.Chains.{cut_of, chain_labels}
use Rattle.job_inputs.specs.CutLists.{CutLine}
use Rattle.cut_check.specs.Flat.{TellsVerdict, IsVerdict}
use Rattle.cut_check.specs.Verdicts.{Said, IsSaid}
use Rattle.cut_check.specs.declared.checking.Verdict.{Verdict}
use Rattle.cut_check.specs.declared.checking.Verdict.TheVariants as verdict
use Rattle.text_pieces.specs.WayLabels.{numbered_label}
use Rattle.check_text.specs.Printed.{verdict_text, is_chain_above, chain_line, verdict_lines, all_verdicts_good}
use Rattle.check_text.specs.Texts.{is_above, later, number_found, said_text, cut_line, said_lines, is_good, all_good}

-- a chain is above the order where its cut line is
pub above_same : (p : GtsParts) (order : Option ℕ) (c : Chain)
    → is_above order (length (chain_labels p c.ways.items)) ≡ is_chain_above order c
above_same p order c = ap (is_above order) (length-map c.ways.items (λ (w : WayId). numbered_label p w.n))

module _ (p : GtsParts) (sys : System ℕ) (dropped : List ℕ) (observer : Expr ℕ) (wanted : Value)
    (lines : List (List Label)) (chains : List Chain) where
  abbrev cuts : List CutLine
  cuts = map (cut_of p) chains

  -- a verdict's text is that of what is said
  text_same : (v : Verdict) (said : Said) → TellsVerdict chains v said → verdict_text v ≡ said_text cuts said
  text_same verdict.Good said e = ap (said_text cuts) (sym e)
  text_same verdict.Fails said e = ap (said_text cuts) (sym e)
  text_same (verdict.Holds n) said (k, c, s, e, i) =
      let at_k = stands_map (cut_of p) chains k c s in
      let same : number_found (slice_get cuts k) ≡ n = ap number_found at_k ∙ e in
      sym (ap (λ (z : ℕ). codes "holds line " ++ decimal z) same) ∙ sym (ap (said_text cuts) i)

  good_same : (v : Verdict) (vs : List Verdict) (said : Said) (all : List Said) → TellsVerdict chains v said
      → all_verdicts_good vs ≡ all_good all
      → all_verdicts_good (v ∷ vs) ≡ all_good (said ∷ all)
  good_same verdict.Good vs said all e h = h ∙ ap (λ (z : Said). is_good z && all_good all) (sym e)
  good_same verdict.Fails vs said all e h = ap (λ (z : Said). is_good z && all_good all) (sym e)
  good_same (verdict.Holds n) vs said all (k, c, s, e, i) h = ap (λ (z : Said). is_good z && all_good all) (sym i)

  -- a verdict and what is said have one text
  abbrev pub HaveOneText : Verdict → Said → Type 0
  HaveOneText v said = verdict_text v ≡ said_text cuts said

  -- what is said of the lines, the first of which stands at place k
  pub record AllSaid (k : ℕ) (vs : List Verdict) : Type 0 where
    pub all : List Said
    pub long : length all ≡ length vs
    pub each : (n : ℕ) (said : Said) → Stands all n said → IsSaid sys dropped observer wanted lines (k + n) said
    pub texts : Along HaveOneText vs all
    pub good : all_verdicts_good vs ≡ all_good all

  pub all_said : (k : ℕ) (vs : List Verdict)
      → ((n : ℕ) (v : Verdict) → Stands vs n v → IsVerdict sys dropped observer wanted lines chains (k + n) v)
      → AllSaid k vs
  all_said k [] h = record {
    all = [];
    long = refl;
    each = λ n s st. absurd (stands_none n s st);
    texts = l.none;
    good = refl;
  }
  all_said k (v ∷ vs) h = go (h zero v refl)
      (all_said (suc k) vs
      (λ n w st. subst (λ (z : ℕ). IsVerdict sys dropped observer wanted lines chains z w) (omega arith)
      (h (suc n) w st)))
    where
      go : IsVerdict sys dropped observer wanted lines chains (k + zero) v → AllSaid (suc k) vs → AllSaid k (v ∷ vs)
      go (said, tells, is) more = record {
        all = said ∷ more.all;
        long = ap suc more.long;
        each = each;
        texts = l.one_and (text_same v said tells) more.texts;
        good = good_same v vs said more.all tells more.good;
      }
        where
          each : (n : ℕ) (other : Said) → Stands (said ∷ more.all) n other
              → IsSaid sys dropped observer wanted lines (k + n) other
          each zero other st = let same : said ≡ other = cc in subst (λ (z : Said). IsSaid sys dropped observer wanted lines (k + zero) z) same is
          each (suc n) other st = subst (λ (z : ℕ). IsSaid sys dropped observer wanted lines z other) (omega arith)
              (more.each n other st)

  -- the line of a chain
  line_same : (b : Bool) (c : Chain) {vs : List Verdict} {all : List Said} → Along HaveOneText vs all
      → chain_line b c.line vs ≡ cut_line b cuts (cut_of p c) all
  line_same true c a = refl
  line_same false c l.none = refl
  line_same false c (l.one_and e more) =
      ap (λ (z : List ℕ). line (codes "line " ++ (decimal c.line ++ (codes " " ++ z)))) e

  later_same : (b : Bool) {vs : List Verdict} {all : List Said} → Along HaveOneText vs all
      → Along HaveOneText (later b vs) (later b all)
  later_same true a = a
  later_same false l.none = l.none
  later_same false (l.one_and e more) = more

  -- the lines of these chains
  pub lines_same : (order : Option ℕ) (cs : List Chain) {vs : List Verdict} {all : List Said} → Along HaveOneText vs all
      → verdict_lines order cs vs ≡ said_lines order cuts (map (cut_of p) cs) all
  lines_same order [] a = refl
  lines_same order (c ∷ cs) {vs = vs} {all = all} a =
      let b = is_chain_above order c in
      ap (λ (z : List ℕ). z ++ verdict_lines order cs (later b vs)) (line_same b c a)
      ∙ ap (λ (z : List ℕ). cut_line b cuts (cut_of p c) all ++ z) (lines_same order cs (later_same b a))
      ∙ ap (λ (z : Bool). cut_line z cuts (cut_of p c) all ++ said_lines order cuts (map (cut_of p) cs) (later z all))
      (sym (above_same p order c))
