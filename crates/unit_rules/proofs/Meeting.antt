-- Targets that were met before, one after the other.
use Rattle.std.proofs.Common.{◌≡◌, ◌+◌, ◌⊎◌, inl, inr, ◌↔◌, ℕ, Bool, true, false, not, cond, List, [], ◌∷◌, map, Vec, refl, sym, ◌∙◌, ap, subst, arith, nat_eq}
use Rattle.std.specs.Global.{Global}
use Rattle.std.specs.Cmp.Lexicographic.{pointwise}
use Rattle.std.proofs.lemmas.Bool.{cases_eq}
use Rattle.std.proofs.lemmas.Slice.Eq.{bytes_eq-Decides}
use Rattle.ar_base.specs.Lists.{Stands}
use Rattle.ar_base.proofs.Standing.{stands_one}
use Rattle.ar_syntax.specs.declared.members.Setting.{Setting}
use Rattle.hierarchy.specs.Settings.{TargetWord, Named, Init, Reset, target_of}
use Rattle.unit_rules.specs.Wrong.{IsSetBefore}
use Rattle.unit_rules.specs.Repeats.{code_of, was_met, IsTargetMet, HaveMet, MeetsOne}
use Rattle.unit_rules.specs.declared.repeats.Targets.{Targets}

-- words of one number are one
code_same : (v w : TargetWord) → code_of v ≡ code_of w → v ≡ w
code_same Init Init e = refl
code_same Init Reset e = absurd (omega (arith, e))
code_same Init (Named y) e = absurd (omega (arith, e))
code_same Reset Init e = absurd (omega (arith, e))
code_same Reset Reset e = refl
code_same Reset (Named y) e = absurd (omega (arith, e))
code_same (Named x) Init e = absurd (omega (arith, e))
code_same (Named x) Reset e = absurd (omega (arith, e))
code_same (Named x) (Named y) e = ap Named (let f : x ≡ y = omega (arith, e) in f)

pub codes_same : (vs ws : List TargetWord) → map code_of vs ≡ map code_of ws → vs ≡ ws
codes_same [] [] e = refl
codes_same [] (w ∷ ws) e = cc
codes_same (v ∷ vs) [] e = cc
codes_same (v ∷ vs) (w ∷ ws) e =
    let first : code_of v ≡ code_of w = cc in
    let rest : map code_of vs ≡ map code_of ws = cc in
    ap (λ (z : TargetWord). z ∷ vs) (code_same v w first)
    ∙ ap (λ (zs : List TargetWord). w ∷ zs) (codes_same vs ws rest)

or_true : (b : Bool) {c : Bool} → c ≡ true → cond b true c ≡ true
or_true true e = refl
or_true false e = e

-- nothing was met yet
pub met_none : (settings : List Setting) (t : Targets) → t.met.keys ≡ [] → HaveMet settings 0 t
met_none settings t e = record { met = λ key. (λ h. absurd (none key h), λ w. (let l = w.before in absurd (omega (arith, l)))) }
  where
    none : (key : Vec ℕ Global) → was_met t key ≡ true → ⊥
    none key h = let g = rw e at h in cc

module _ (settings : List Setting) (i : ℕ) (s : Setting) (there : Stands settings i s) (old new : Targets)
    (h : HaveMet settings i old) (key : Vec ℕ Global) (codes : key.items ≡ map code_of (target_of s)) where
  -- one more was met
  pub met_next : ((q : Vec ℕ Global) → was_met new q ≡ cond (pointwise nat_eq key.items q.items) true (was_met old q))
      → HaveMet settings (i + 1) new
  met_next u = record {
    met = λ q. (
      λ e. to q e (pointwise nat_eq key.items q.items) refl,
      λ w. from q w
          (cases_eq w.j i),
    );
  }
    where
      to : (q : Vec ℕ Global) → was_met new q ≡ true → (b : Bool) → pointwise nat_eq key.items q.items ≡ b
          → IsTargetMet settings (i + 1) q.items
      to q e true f = record {
        j = i;
        before = omega arith;
        setting = s;
        stands = there;
        same = sym codes
            ∙ (bytes_eq-Decides key.items q.items).0 f;
      }
      to q e false f =
          let g : was_met old q ≡ true = sym (u q ∙ ap (λ (b : Bool). cond b true (was_met old q)) f) ∙ e in
          let w = (h.met q).0 g in
          let l = w.before in
          record { j = w.j; before = omega (arith, l); setting = w.setting; stands = w.stands; same = w.same }

      from : (q : Vec ℕ Global) (w : IsTargetMet settings (i + 1) q.items) → (w.j ≡ i) ⊎ (w.j ≡ i → ⊥) → was_met new q ≡ true
      from q w (inl m) =
          let one : w.setting ≡ s = stands_one settings i w.setting s
          (subst (λ (n : ℕ). Stands settings n w.setting) m w.stands) there in
          let same : key.items ≡ q.items =
          codes ∙ (sym (ap (λ (z : Setting). map code_of (target_of z)) one) ∙ w.same) in
          u q ∙ ap (λ (b : Bool). cond b true (was_met old q)) ((bytes_eq-Decides key.items q.items).1 same)
      from q w (inr n) =
          let l = w.before in
          let g : was_met old q ≡ true = (h.met q).1
          (record {
            j = w.j;
            before = omega (arith, l, n);
            setting = w.setting;
            stands = w.stands;
            same = w.same;
          }) in
          u q ∙ or_true (pointwise nat_eq key.items q.items) g

  -- whether it was new
  pub met_told : (added : Bool) → added ≡ not (was_met old key) → (added ≡ false) ↔ IsSetBefore settings i
  met_told added e = (
    λ f. before_of ((h.met key).0 (is_met (was_met old key) f e)),
    λ w. e
        ∙ ap not ((h.met key).1 (of_before w)),
  )
    where
      is_met : (b : Bool) → added ≡ false → added ≡ not b → b ≡ true
      is_met true f g = refl
      is_met false f g = let k : false ≡ true = sym f ∙ g in absurd cc

      before_of : IsTargetMet settings i key.items → IsSetBefore settings i
      before_of w = record {
        j = w.j;
        before = w.before;
        first = w.setting;
        has_first = w.stands;
        later = s;
        has_later = there;
        same = codes_same (target_of w.setting) (target_of s) (w.same ∙ codes);
      }

      of_before : IsSetBefore settings i → IsTargetMet settings i key.items
      of_before w =
          let one : w.later ≡ s = stands_one settings i w.later s w.has_later there in
          record {
            j = w.j;
            before = w.before;
            setting = w.first;
            stands = w.has_first;
            same = ap (map code_of) (w.same ∙ ap target_of one) ∙ sym codes;
          }

  pub meets_one : (added : Bool) → added ≡ not (was_met old key)
      → ((q : Vec ℕ Global) → was_met new q ≡ cond (pointwise nat_eq key.items q.items) true (was_met old q))
      → MeetsOne settings i added new
  meets_one added e u = record { have_met = met_next u; told = met_told added e }
