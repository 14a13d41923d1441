-- What is written of values is what the trace tells of them.
use Rattle.std.proofs.Common.{◌≡◌, ◌+◌, ◌<◌, ◌≤◌, ℕ, suc, Bool, true, false, if◌then◌else◌, List, [], ◌∷◌, ◌++◌, map, length, drop, get_or, refl, sym, ◌∙◌, ap, subst, arith}
use Rattle.std.proofs.lemmas.List.{at_drop_more, at_drop_all}
use Rattle.ar_base.specs.Lists.{IsOneOf, Along}
use Rattle.ar_base.specs.Lists as l
use Rattle.ar_base.proofs.Standing.{one_first, one_rest}
use Rattle.domains.specs.declared.Value.{Value}
use Rattle.domains.specs.Same.{is_same}
use Rattle.domains.proofs.Same.{same_is, same_self}
use Rattle.typed_expr.specs.Yields.{Yields}
use Rattle.typed_expr.specs.declared.expr.Expr.{Expr, out-Expr}
use Rattle.ar_meaning.specs.Systems as s
use Rattle.ar_meaning.specs.Facts.{HasValue}
use Rattle.ar_meaning.specs.TraceText.{variable_line, observer_line, lines_from, Changed, none, same, differs, Observed, ChangedLines}
use Rattle.gts_core.specs.View.{Views, net_of, numbered, observers_of}
use Rattle.gts_core.specs.Sound.{IsSound, IsTyped}
use Rattle.gts_core.specs.Readings.{IsTotal, value_in}
use Rattle.gts_core.specs.declared.system.GtsParts.{GtsParts}
use Rattle.gts_core.specs.declared.system.Observer.{Observer}
use Rattle.gts_core.proofs.Reading.{value_yielded}
use Rattle.gts_flatten.specs.Flat.{naming_of_parts}
use Rattle.replayer.specs.Printing.{seen_by, seen_in, change_text, changes_from, observer_changes, observer_lines, changes_text}

-- Changes

module _ (one : ℕ → Value → List ℕ) where
  change_more : (n : ℕ) (v w : Value) (vs ws : List Value) (text : List ℕ) (b : Bool) → is_same v w ≡ b
      → Changed one (n + 1) vs ws text → Changed one n (v ∷ vs) (w ∷ ws) ((if b then [] else one n w) ++ text)
  change_more n v w vs ws text true e h =
      subst (λ (z : Value). Changed one n (v ∷ vs) (z ∷ ws) text) (same_is v w e) (same h)
  change_more n v w vs ws text false e h = differs (λ i. absurd (unlike i)) h
    where
      unlike : v ≡ w → ⊥
      unlike i = let k = subst (λ (z : Value). is_same v z ≡ true) i (same_self v) in cc (sym e, k)

  -- the lines of what changed
  pub changed_from : (n : ℕ) (vs ws : List Value) → length vs ≡ length ws
      → Changed one n vs ws (changes_from one n vs ws)
  changed_from n [] [] e = none
  changed_from n [] (w ∷ ws) e = absurd (omega (arith, e))
  changed_from n (v ∷ vs) [] e = absurd (omega (arith, e))
  changed_from n (v ∷ vs) (w ∷ ws) e =
      change_more n v w vs ws (changes_from one (n + 1) vs ws) (is_same v w) refl
      (changed_from (n + 1) vs ws (omega (arith, e)))

  -- what is left of the changes begins with the next one
  pub next_change : (vs ws : List Value) (i : ℕ) (d e : Value) → i < length vs → length vs ≡ length ws
      → changes_from one i (drop i vs) (drop i ws)
      ≡ change_text one i (get_or vs i d) (get_or ws i e) ++ changes_from one (i + 1) (drop (i + 1) vs)
      (drop (i + 1) ws)
  next_change vs ws i d e h long =
      at_drop_more (λ (xs : List Value). changes_from one i xs (drop i ws)) vs i d h
      ∙ at_drop_more (λ (xs : List Value). changes_from one i (get_or vs i d ∷ drop (i + 1) vs) xs) ws i e
      (omega (arith, long, h))

  pub no_change : (vs ws : List Value) (i : ℕ) → length vs ≤ i → changes_from one i (drop i vs) (drop i ws) ≡ []
  no_change vs ws i h = at_drop_all (λ (xs : List Value). changes_from one i xs (drop i ws)) vs i h

-- Observers

module _ (p : GtsParts) where
  -- the lines of observers are those of their values
  pub observers_alike : (t : List Value) (n : ℕ) (os : List Observer)
      → observer_lines p t n os ≡ lines_from (observer_line (naming_of_parts p)) n (seen_by os t)
  observers_alike t n [] = refl
  observers_alike t n (o ∷ os) =
      ap (λ z. observer_line (naming_of_parts p) n (value_in t o.value) ++ z) (observers_alike t (n + 1) os)

  pub changes_alike : (old new : List Value) (n : ℕ) (os : List Observer)
      → changes_from (observer_line (naming_of_parts p)) n (seen_by os old) (seen_by os new)
      ≡ observer_changes p old new n os
  changes_alike old new n [] = refl
  changes_alike old new n (o ∷ os) =
      ap (λ z. change_text (observer_line (naming_of_parts p)) n (value_in old o.value) (value_in new o.value) ++ z)
      (changes_alike old new (n + 1) os)

  seen_long : (t u : List Value) (os : List Observer) → length (seen_by os t) ≡ length (seen_by os u)
  seen_long t u [] = refl
  seen_long t u (o ∷ os) = ap suc (seen_long t u os)

  module _ (sound : IsSound p) where
    seen_from : (t : List Value) → IsTotal p t → (os : List Observer)
        → ((o : Observer) → IsOneOf os o → IsTyped p o.value o.kind)
        → Along (λ (e : Expr ℕ) (v : Value). Yields (HasValue (net_of p) t) (out-Expr ℕ e) v)
        (map (λ (o : Observer). numbered o.value) os) (seen_by os t)
    seen_from t total [] typed = l.none
    seen_from t total (o ∷ os) typed =
        l.one_and (value_yielded p t total o.value o.kind (typed o (one_first o os)))
        (seen_from t total os (λ q h. typed q (one_rest o os q h)))

    module _ (sys : s.System ℕ) (views : Views p sys) where
      -- the observers' values
      pub observed : (t : List Value) → IsTotal p t → Observed sys t (seen_in p t)
      observed t total =
          let own : Along (λ (e : Expr ℕ) (v : Value). Yields (HasValue (net_of p) t) (out-Expr ℕ e) v) (observers_of p)
          (seen_in p t) =
          seen_from t total p.observers.items (λ o h. sound.observers o h) in
          subst (λ (net : s.Net ℕ). Along (λ (e : Expr ℕ) (v : Value). Yields (HasValue net t) (out-Expr ℕ e) v)
          sys.observers (seen_in p t)) (sym views.net)
          (subst (λ (es : List (Expr ℕ)). Along
          (λ (e : Expr ℕ) (v : Value). Yields (HasValue (net_of p) t) (out-Expr ℕ e) v) es (seen_in p t))
          (sym views.observers) own)

      -- the lines of what changed between two valuations
      pub changed_lines : (old new : List Value) → IsTotal p old → IsTotal p new
          → ChangedLines (naming_of_parts p) sys old new (changes_text p old new)
      changed_lines old new before after = record {
        seen = seen_in p old;
        seen_then = seen_in p new;
        is_seen = observed old before;
        is_seen_then = observed new after;
        variables = changes_from (variable_line (naming_of_parts p)) 0 old new;
        observers = observer_changes p old new 0 p.observers.items;
        variables_changed = changed_from (variable_line (naming_of_parts p)) 0 old new
            (omega (arith, before.long, after.long));
        observers_changed =
            subst (λ z. Changed (observer_line (naming_of_parts p)) 0 (seen_in p old) (seen_in p new) z)
            (changes_alike old new 0 p.observers.items)
            (changed_from (observer_line (naming_of_parts p)) 0 (seen_in p old) (seen_in p new)
            (seen_long old new p.observers.items));
        joined = refl;
      }
