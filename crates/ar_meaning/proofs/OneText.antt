-- A run's moments have one text.
use Rattle.std.proofs.Common.{◌≡◌, ◌+◌, ℕ, List, refl, sym, ◌∙◌, ap, subst}
use Rattle.ar_base.specs.Lists.{Stands, Along}
use Rattle.ar_base.specs.Lists as l
use Rattle.domains.specs.declared.Value.{Value}
use Rattle.typed_expr.specs.Yields.{Yields}
use Rattle.typed_expr.specs.declared.expr.Expr.{Expr, out-Expr}
use Rattle.typed_expr.proofs.OneValue.{yields_one}
use Rattle.ar_base.proofs.Standing.{stands_one}
use Rattle.ar_meaning.specs.Systems.{System, Net}
use Rattle.ar_meaning.specs.Facts.{HasValue}
use Rattle.ar_meaning.specs.FactsInside.{AreKeyed}
use Rattle.ar_meaning.specs.Runs.{Moment}
use Rattle.ar_meaning.specs.TraceText.{Naming, variable_line, observer_line, Changed, none, same, differs, Observed, ChangedLines, MomentText, starts, start_fails, fires, fire_fails, goes_back, no_step, shows, lists, ends, TraceText}
use Rattle.ar_meaning.specs.TraceText as t

-- where no two variables have one key, a valuation gives a variable at most one value
pub value_one : {V : Type 0} (net : Net V) → AreKeyed net → (t : List Value) (x : V) (v w : Value) → HasValue net t x v
    → HasValue net t x w → v ≡ w
value_one net keyed t x v w h k =
    let i : h.place ≡ k.place =
    keyed.one h.place k.place h.variable k.variable h.stands k.stands (h.is_key ∙ sym k.is_key) in
    stands_one t k.place v w (subst (λ z. Stands t z v) i h.value) k.value

changed_one : {one : ℕ → Value → List ℕ} {m n : ℕ} {vs ws ts us : List Value} {a b : List ℕ} → m ≡ n → vs ≡ ts → ws ≡ us
    → Changed one m vs ws a → Changed one n ts us b → a ≡ b
changed_one i j k none none = refl
changed_one i j k none (same d) = cc
changed_one i j k none (differs n d) = cc
changed_one i j k (same d) none = cc
changed_one i j k (same {vs = vs} {ws = ws} d) (same {vs = ts} {ws = us} e) =
    let p : vs ≡ ts = cc in
    let q : ws ≡ us = cc in
    changed_one (ap (λ z. z + 1) i) p q d e
changed_one i j k (same d) (differs {v = v} {w = w} n e) = let p : v ≡ w = cc in absurd (n p)
changed_one i j k (differs n d) none = cc
changed_one i j k (differs {v = v} {w = w} n d) (same e) = let p : v ≡ w = cc in absurd (n p)
changed_one i j k (differs {vs = vs} {ws = ws} n d) (differs {vs = ts} {ws = us} m e) =
    let p : vs ≡ ts = cc in let q : ws ≡ us = cc in let h = changed_one (ap (λ z. z + 1) i) p q d e in cc

module _ {V : Type 0} (names : Naming) (sys : System V) (keyed : AreKeyed sys.net) where
  along_one : (t : List Value) {es : List (Expr V)} {vs ws : List Value}
      → Along (λ e v. Yields (HasValue sys.net t) (out-Expr V e) v) es vs
      → Along (λ e v. Yields (HasValue sys.net t) (out-Expr V e) v) es ws → vs ≡ ws
  along_one t l.none l.none = refl
  along_one t (l.one_and d ds) (l.one_and k ks) =
      let i = yields_one V (HasValue sys.net t) (value_one sys.net keyed t) d k in
      let j = along_one t ds ks in
      cc

  observed_one : (t seen other : List Value) → Observed sys t seen → Observed sys t other → seen ≡ other
  observed_one t seen other o p = along_one t o p

  changed_lines_one : (old new : List Value) (a b : List ℕ) → ChangedLines names sys old new a
      → ChangedLines names sys old new b → a ≡ b
  changed_lines_one old new a b c d =
      let i = observed_one old c.seen d.seen c.is_seen d.is_seen in
      let j = observed_one new c.seen_then d.seen_then c.is_seen_then d.is_seen_then in
      let k = changed_one refl refl refl c.variables_changed d.variables_changed in
      let h = changed_one refl i j c.observers_changed d.observers_changed in
      let p = c.joined in let q = d.joined in cc

  pub moment_one : {m : Moment} {a b : List ℕ} → MomentText names sys m a → MomentText names sys m b → a ≡ b
  moment_one (starts {t = t} {seen = seen} o) (starts {seen = other} p) = let i = observed_one t seen other o p in cc
  moment_one start_fails start_fails = refl
  moment_one (fires {old = old} {new = new} {text = a} c) (fires {text = b} d) =
      let i = changed_lines_one old new a b c d in
      cc
  moment_one fire_fails fire_fails = refl
  moment_one (goes_back {old = old} {new = new} {text = a} c) (goes_back {text = b} d) =
      let i = changed_lines_one old new a b c d in
      cc
  moment_one no_step no_step = refl
  moment_one (shows {t = t} {seen = seen} o) (shows {seen = other} p) = let i = observed_one t seen other o p in cc
  moment_one lists lists = refl
  moment_one ends ends = refl

  pub trace_one : {ms : List Moment} {a b : List ℕ} → TraceText names sys ms a → TraceText names sys ms b → a ≡ b
  trace_one t.none t.none = refl
  trace_one (t.one_and m d) (t.one_and m' d') = let i = moment_one m m' in let j = trace_one d d' in cc
