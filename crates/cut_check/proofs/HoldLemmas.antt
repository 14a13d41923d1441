-- Which lines may be held, by rows.
use Rattle.std.proofs.Common.{◌≡◌, ℕ, zero, suc, ◌+◌, ◌<◌, ◌≤◌, Bool, true, false, not, List, [], ◌∷◌, ◌++◌, length, inl, inr, refl, subst, arith}
use Rattle.ar_base.specs.Lists.{Stands}
use Rattle.ar_base.specs.Sets.{Within}
use Rattle.ar_base.proofs.Standing.{stands_none, stands_split, stands_within, stands_some}
use Rattle.domains.specs.declared.Value.{Value}
use Rattle.typed_expr.specs.declared.expr.Expr.{Expr}
use Rattle.ar_meaning.specs.Found.{IsAnswer}
use Rattle.ar_meaning.specs.Runs.{Label}
use Rattle.ar_meaning.specs.Systems.{System}
use Rattle.flow_blocks.specs.Bits.{IsSet}
use Rattle.gts_core.specs.declared.bound.Chain.{Chain}
use Rattle.cut_check.specs.Flat.{IsVerdict}
use Rattle.cut_check.specs.Rows.{HaveBits}
use Rattle.cut_check.specs.Truths.{AreTruths}
use Rattle.cut_check.specs.Verdicts.{events_of, ContainsLine, HoldsLine, IsGood, Fails, Holds}
use Rattle.cut_check.specs.Verdicts as v
use Rattle.cut_check.specs.declared.checking.Verdict.{Verdict}
use Rattle.cut_check.specs.declared.checking.Verdict.TheVariants as verdict
use Rattle.cut_check.specs.declared.rows.Row.{Row}

module _ (lines : List (List Label)) (rows : List Row) (have : HaveBits lines rows) where
  -- the line of a row
  pub line_at : (k : ℕ) (r : Row) → Stands rows k r → (ls : List Label) × Stands lines k ls
  line_at k r s = stands_some lines k (let w = stands_within rows k r s in omega (arith, w, have.long))

  within_from : (j k : ℕ) (ls ms : List Label) (r s : Row) → Stands lines j ls → Stands lines k ms → Stands rows j r
      → Stands rows k s
      → ((n : ℕ) → IsSet r.words.items n → IsSet s.words.items n) → Within (events_of ls) (events_of ms)
  within_from j k ls ms r s a b c d h =
      record { each = λ e o. (have.each k ms s b d e).0 (h e ((have.each j ls r a c e).1 o)) }

  bits_from : (j k : ℕ) (ls ms : List Label) (r s : Row) → Stands lines j ls → Stands lines k ms → Stands rows j r
      → Stands rows k s
      → Within (events_of ls) (events_of ms) → (n : ℕ) → IsSet r.words.items n → IsSet s.words.items n
  bits_from j k ls ms r s a b c d w n i = (have.each k ms s b d n).1 (w.each n ((have.each j ls r a c n).0 i))

  module _ (n k : ℕ) (r s : Row) (at_n : Stands rows n r) (at_k : Stands rows k s) where
    -- the events of line k, in line n
    held_within : ContainsLine lines n k → (e : ℕ) → IsSet s.words.items e → IsSet r.words.items e
    held_within h = bits_from k n h.held h.line s r h.is_held h.is_line at_k at_n h.within

    pub not_within : (((e : ℕ) → IsSet s.words.items e → IsSet r.words.items e) → ⊥) → ContainsLine lines n k → ⊥
    not_within refuted h = refuted (held_within h)

    may : ((e : ℕ) → IsSet s.words.items e → IsSet r.words.items e)
        → ((ls ms : List Label) → Stands lines n ls → Stands lines k ms → Within (events_of ls) (events_of ms) → k < n)
        → ContainsLine lines n k
    may h early =
        let l = line_at n r at_n in
        let m = line_at k s at_k in
        record {
          line = l.0;
          is_line = l.1;
          held = m.0;
          is_held = m.1;
          within = within_from k n m.0 l.0 s r m.1 l.1 at_k at_n h;
          earlier = early l.0 m.0 l.1 m.1;
        }

    pub may_before : ((e : ℕ) → IsSet s.words.items e → IsSet r.words.items e) → k < n → ContainsLine lines n k
    may_before h lt = may h (λ ls ms a b w. lt)

    pub may_after : ((e : ℕ) → IsSet s.words.items e → IsSet r.words.items e) → n ≤ k → (b : Bool)
        → IsAnswer b ((e : ℕ) → IsSet r.words.items e → IsSet s.words.items e)
        → IsAnswer (not b) (ContainsLine lines n k)
    may_after h le true all = λ m.
        let lt = m.earlier (within_from n k m.line m.held r s m.is_line m.is_held at_n at_k all) in omega (arith, lt, le)
    may_after h le false refuted = may h (λ ls ms a b w. absurd (refuted (bits_from n k ls ms r s a b at_n at_k w)))

  pub none_held : (n count : ℕ) → length rows ≤ count → ((j : ℕ) → j < count → ContainsLine lines n j → ⊥) → (k : ℕ)
      → ContainsLine lines n k → ⊥
  none_held n count le h k m = h k (let w = stands_within lines k m.held m.is_held in omega (arith, w, le, have.long)) m

-- the verdict of a line
module _ (sys : System ℕ) (dropped : List ℕ) (observer : Expr ℕ) (wanted : Value) (lines : List (List Label))
    (rows : List Row) (truths : List Bool) (chains : List Chain)
    (have : HaveBits lines rows) (truth : AreTruths sys dropped observer wanted lines truths) (n : ℕ) where
  pub says_fails : n < length rows → Stands truths n false
      → IsVerdict sys dropped observer wanted lines chains n verdict.Fails
  says_fails inside s =
      let l = stands_some lines n (omega (arith, inside, have.long)) in
      (Fails, refl, v.fails l.1 (truth.each n l.0 false l.1 s))

  pub says_holds : n < length rows → Stands truths n true → (k : ℕ) (c : Chain) → Stands chains k c
      → HoldsLine lines n k
      → IsVerdict sys dropped observer wanted lines chains n (verdict.Holds c.line)
  says_holds inside s k c at h =
      let l = stands_some lines n (omega (arith, inside, have.long)) in
      (Holds k, (k, c, at, refl, refl), v.holds l.1 (truth.each n l.0 true l.1 s) h)

  pub says_good : n < length rows → Stands truths n true → ((k : ℕ) → ContainsLine lines n k → ⊥)
      → IsVerdict sys dropped observer wanted lines chains n verdict.Good
  says_good inside s h =
      let l = stands_some lines n (omega (arith, inside, have.long)) in
      (IsGood, refl, v.good l.1 (truth.each n l.0 true l.1 s) h)

-- tests of slices, as tests of the words that they are
pub words_answer : (us vs xs ys : List ℕ) (b : Bool) → us ≡ xs → vs ≡ ys
    → IsAnswer b ((n : ℕ) → IsSet us n → IsSet vs n) → IsAnswer b ((n : ℕ) → IsSet xs n → IsSet ys n)
words_answer us vs xs ys b e f h =
    subst (λ (z : List ℕ). IsAnswer b ((n : ℕ) → IsSet xs n → IsSet z n)) f
    (subst (λ (z : List ℕ). IsAnswer b ((n : ℕ) → IsSet z n → IsSet vs n)) e h)

-- a verdict more
pub verdicts_more : (sys : System ℕ) (dropped : List ℕ) (observer : Expr ℕ) (wanted : Value) (lines : List (List Label))
    (chains : List Chain) (old new : List Verdict) (last : Verdict) (k : ℕ)
    → new ≡ old ++ last ∷ [] → length old ≡ k → IsVerdict sys dropped observer wanted lines chains k last
    → ((n : ℕ) (w : Verdict) → Stands old n w → IsVerdict sys dropped observer wanted lines chains n w)
    → (n : ℕ) (w : Verdict) → Stands new n w → IsVerdict sys dropped observer wanted lines chains n w
verdicts_more sys dropped observer wanted lines chains old new last k e long is each n w s =
    elim (stands_split old (last ∷ []) n w (subst (λ (z : List Verdict). Stands z n w) e s)) [
      | inl q ↦ each n w q
      | inr q ↦ here q.0 q.1 q.2
    ]
  where
    here : (j : ℕ) → n ≡ length old + j → Stands (last ∷ []) j w
        → IsVerdict sys dropped observer wanted lines chains n w
    here zero i t =
        let same : last ≡ w = cc in
        let at_end : k ≡ n = omega (arith, i, long) in
        subst (λ (z : Verdict). IsVerdict sys dropped observer wanted lines chains n z) same
        (subst (λ (z : ℕ). IsVerdict sys dropped observer wanted lines chains z last) at_end is)
    here (suc j) i t = absurd (stands_none j w t)
