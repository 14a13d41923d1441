-- A run's moments have the same text over a system and its image, where the same numbers are called alike.
use Rattle.std.proofs.Common.{◌≡◌, ◌+◌, ℕ, zero, suc, List, [], ◌∷◌, ◌++◌, length, slice_get, codes, refl, sym, ap, subst}
use Rattle.ar_base.specs.Lists.{Along}
use Rattle.ar_base.specs.Lists as l
use Rattle.ar_base.specs.Texts.{line}
use Rattle.domains.specs.declared.Value.{Value}
use Rattle.domains.specs.declared.Value.TheVariants.{Truth, Whole, Symbol}
use Rattle.typed_expr.specs.Yields.{Yields}
use Rattle.typed_expr.specs.declared.expr.Expr.{Expr, out-Expr}
use Rattle.typed_expr.proofs.Renaming.{carries}
use Rattle.ar_meaning.specs.Systems.{System, Event}
use Rattle.ar_meaning.specs.Facts.{HasValue}
use Rattle.ar_meaning.specs.Flows.{FlowFault, Two, Outside, Broken}
use Rattle.ar_meaning.specs.Steps.{StepFault, NotEnabled, Clash, Range, Flow}
use Rattle.ar_meaning.specs.Runs.{Label, Moment, Starts, Start_fails, Fires, Fire_fails, Shows, Lists}
use Rattle.ar_meaning.specs.Image.{Expr_renames, Event_renames}
use Rattle.ar_meaning.specs.ImageInside.{IsImage}
use Rattle.ar_meaning.specs.FlatOfInside.{NameAlike}
use Rattle.ar_meaning.specs.TraceText.{Naming, variable_line, observer_line, lines_from, Changed, none, same, differs, Observed, all_lines, ChangedLines, way_text, ways_of, label_text, label_lines, optional_place_text, flow_fault_text, step_fault_text, MomentText, starts, start_fails, fires, fire_fails, goes_back, no_step, shows, lists, ends, TraceText}
use Rattle.ar_meaning.specs.TraceText as t
use Rattle.ar_meaning.specs.ValueTexts.{value_text}
use Rattle.ar_meaning.proofs.ImageFlows.{value_there}

pub along_long : {A B : Type 0} {R : A → B → Type 0} {xs : List A} {ys : List B} → Along R xs ys → length xs ≡ length ys
along_long l.none = refl
along_long (l.one_and r rs) = ap suc (along_long rs)

-- lines by two functions that agree
module _ (f g : ℕ → Value → List ℕ) (alike : (n : ℕ) (v : Value) → f n v ≡ g n v) where
  pub lines_alike : (n : ℕ) (vs : List Value) → lines_from f n vs ≡ lines_from g n vs
  lines_alike n [] = refl
  lines_alike n (v ∷ vs) = let i = alike n v in let j = lines_alike (n + 1) vs in cc

  pub changed_alike : {n : ℕ} {vs ws : List Value} {text : List ℕ} → Changed f n vs ws text → Changed g n vs ws text
  changed_alike none = none
  changed_alike (same d) = same (changed_alike d)
  changed_alike {n = n} {vs = v ∷ vs} {ws = w ∷ ws} (differs {text = text} k d) =
      subst (λ z. Changed g n (v ∷ vs) (w ∷ ws) (z ++ text)) (sym (alike n w)) (differs k (changed_alike d))

-- names
module _ (a b : Naming) (alike : NameAlike a b) where
  value_alike : (v : Value) → value_text a.symbols v ≡ value_text b.symbols v
  value_alike (Truth x) = refl
  value_alike (Whole n) = refl
  value_alike (Symbol n) = alike.symbols n

  pub variable_alike : (n : ℕ) (v : Value) → variable_line a n v ≡ variable_line b n v
  variable_alike n v = let i = alike.variables n in let j = value_alike v in cc

  pub observer_alike : (n : ℕ) (v : Value) → observer_line a n v ≡ observer_line b n v
  observer_alike n v = let i = alike.observers n in let j = value_alike v in cc

  pub all_alike : (vs seen : List Value) → all_lines a vs seen ≡ all_lines b vs seen
  all_alike vs seen =
      let i = lines_alike (variable_line a) (variable_line b) variable_alike 0 vs in
      let j = lines_alike (observer_line a) (observer_line b) observer_alike 0 seen in cc

  pub flow_fault_alike : (f : FlowFault) → flow_fault_text a f ≡ flow_fault_text b f
  flow_fault_alike (Two n) = let i = alike.variables n in cc
  flow_fault_alike (Outside n) = let i = alike.variables n in cc
  flow_fault_alike (Broken i) = let j = alike.places i in cc

  pub step_fault_alike : (f : StepFault) → step_fault_text a f ≡ step_fault_text b f
  step_fault_alike NotEnabled = refl
  step_fault_alike (Clash n) = let i = alike.variables n in cc
  step_fault_alike (Range n) = let i = alike.variables n in cc
  step_fault_alike (Flow f) = flow_fault_alike f

module _ {V W : Type 0} (same' : V → W → Type 0) where
  ways_count : {es : List (Event V)} {fs : List (Event W)} → Along (Event_renames same') es fs → (n : ℕ)
      → ways_of (slice_get es n) ≡ ways_of (slice_get fs n)
  ways_count l.none zero = refl
  ways_count l.none (suc n) = refl
  ways_count (l.one_and r rs) zero = along_long r.ways
  ways_count (l.one_and r rs) (suc n) = ways_count rs n

  observed_along : (P : V → Value → Type 0) (Q : W → Value → Type 0)
      → ((x : V) (y : W) (v : Value) → same' x y → P x v → Q y v)
      → {es : List (Expr V)} {fs : List (Expr W)} {vs : List Value}
      → Along (Expr_renames same') es fs → Along (λ e v. Yields P (out-Expr V e) v) es vs
      → Along (λ e v. Yields Q (out-Expr W e) v) fs vs
  observed_along P Q kept l.none l.none = l.none
  observed_along P Q kept (l.one_and r rs) (l.one_and d ds) =
      l.one_and (carries V W P Q same' kept d r.renames) (observed_along P Q kept rs ds)

-- texts
module _ {V W : Type 0} (same' : V → W → Type 0) (A : System V) (B : System W) (image : IsImage same' A B)
    (a b : Naming) (alike : NameAlike a b) where
  label_alike : (k : Label) → label_text a A k ≡ label_text b B k
  label_alike k =
      let i = alike.events k.event in
      let j = ways_count same' image.events k.event in cc

  labels_alike : (ks : List Label) → label_lines a A ks ≡ label_lines b B ks
  labels_alike [] = refl
  labels_alike (k ∷ ks) = let i = label_alike k in let j = labels_alike ks in cc

  pub observed_there : (t seen : List Value) → Observed A t seen → Observed B t seen
  observed_there t seen o =
      observed_along same' (HasValue A.net t) (HasValue B.net t)
      (λ x y v s h. value_there same' A.net B.net image.net t x y v s h) image.observers o

  changed_there : (old new : List Value) (text : List ℕ) → ChangedLines a A old new text → ChangedLines b B old new text
  changed_there old new text c = record {
    seen = c.seen;
    seen_then = c.seen_then;
    is_seen = observed_there old c.seen c.is_seen;
    is_seen_then = observed_there new c.seen_then c.is_seen_then;
    variables = c.variables;
    observers = c.observers;
    variables_changed =
        changed_alike (variable_line a) (variable_line b) (variable_alike a b alike) c.variables_changed;
    observers_changed =
        changed_alike (observer_line a) (observer_line b) (observer_alike a b alike) c.observers_changed;
    joined = c.joined;
  }

  pub moment_there : {m : Moment} {text : List ℕ} → MomentText a A m text → MomentText b B m text
  moment_there (starts {t = t} {seen = seen} o) =
      subst (λ z. MomentText b B (Starts t) (line (codes "start") ++ z)) (sym (all_alike a b alike t seen))
      (starts (observed_there t seen o))
  moment_there (start_fails {f = f}) =
      subst (λ z. MomentText b B (Start_fails f) (line (codes "fault: start: " ++ z)))
      (sym (flow_fault_alike a b alike f)) start_fails
  moment_there (fires {l = k} {old = old} {new = new} {text = text} c) =
      subst (λ z. MomentText b B (Fires k old new) (line (codes "fire " ++ z) ++ text)) (sym (label_alike k))
      (fires (changed_there old new text c))
  moment_there (fire_fails {l = k} {f = f}) =
      subst (λ z. MomentText b B (Fire_fails k f) z)
      (let i = label_alike k in let j = step_fault_alike a b alike f in cc) fire_fails
  moment_there (goes_back {old = old} {new = new} {text = text} c) = goes_back (changed_there old new text c)
  moment_there no_step = no_step
  moment_there (shows {t = t} {seen = seen} o) =
      subst (λ z. MomentText b B (Shows t) (line (codes "show") ++ z)) (sym (all_alike a b alike t seen))
      (shows (observed_there t seen o))
  moment_there (lists {ls = ks}) =
      subst (λ z. MomentText b B (Lists ks) (line (codes "enabled") ++ z)) (sym (labels_alike ks)) lists
  moment_there ends = ends

  pub trace_there : {ms : List Moment} {text : List ℕ} → TraceText a A ms text → TraceText b B ms text
  trace_there t.none = t.none
  trace_there (t.one_and m d) = t.one_and (moment_there m) (trace_there d)
