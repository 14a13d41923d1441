-- The commands of a script, and its first bad line: one reading each.
use Rattle.std.proofs.Common.{◌≡◌, ◌<◌, ℕ, zero, suc, List, [], ◌∷◌, Result, Ok, refl, sym, ◌∙◌, ap, subst, arith, inl, inr}
use Rattle.std.proofs.lemmas.Bool.{cases_lt}
use Rattle.ar_base.specs.Lists.{Stands}
use Rattle.ar_base.proofs.Standing.{stands_none, stands_one}
use Rattle.ar_meaning.specs.Runs.{Command, Label, Fire, Back, Show, Enabled}
use Rattle.gts_flatten.specs.Elaborating.{Elaborated}
use Rattle.job_inputs.specs.CutListsInside.{HaveOneMeaning}
use Rattle.job_inputs.specs.Labels.{IsLabel, NeedsWay}
use Rattle.job_inputs.specs.Lines.{ScriptLine, Skipped, Fires, GoesBack, Shows, ListsEnabled, NoCommand, line_said, lines_of}
use Rattle.job_inputs.specs.Scripts.{GivesCommands, IsBad, no_command, needs_way, no_event, Why, IsFirstBad, BadLine, Commands}
use Rattle.job_inputs.specs.Scripts as scripts

-- of two places none is before the other
one_place : (m n : ℕ) → (m < n → ⊥) → (n < m → ⊥) → m ≡ n
one_place m n h k = elim (cases_lt m n) [
  | inl a ↦ absurd (h a)
  | inr b ↦ elim (cases_lt n m) [ inl c ↦ absurd (k c) | inr d ↦ omega (arith, b, d) ]
]

-- a command before others
record Before (x : Elaborated) (c : Command) (lines : List (List ℕ)) (cs : List Command) : Type 0 where
  rest : List Command
  gives : GivesCommands x lines rest
  split : cs ≡ c ∷ rest

-- a label's command before others
record Firing (x : Elaborated) (text : List ℕ) (lines : List (List ℕ)) (cs : List Command) : Type 0 where
  label : Label
  is_label : IsLabel x text label
  before : Before x (Fire label) lines cs

-- what a line that says this gives, with those behind it
abbrev By : Elaborated → ScriptLine → List (List ℕ) → List Command → Type 0
By x Skipped lines cs = GivesCommands x lines cs
By x (Fires text) lines cs = Firing x text lines cs
By x GoesBack lines cs = Before x Back lines cs
By x Shows lines cs = Before x Show lines cs
By x ListsEnabled lines cs = Before x Enabled lines cs
By x NoCommand lines cs = ⊥

by_line : {x : Elaborated} (line : List ℕ) (lines : List (List ℕ)) (cs : List Command) → GivesCommands x (line ∷ lines)
    cs → By x (line_said line) lines cs
by_line {x} line lines cs (scripts.skips e g) = subst (λ (s : ScriptLine). By x s lines cs) (sym e) g
by_line {x} line lines cs (scripts.fires {l = l} {cs = ds} e is g) =
    subst (λ (s : ScriptLine). By x s lines cs) (sym e)
    (record { label = l; is_label = is; before = record { rest = ds; gives = g; split = refl } })
by_line {x} line lines cs (scripts.goes_back {cs = ds} e g) =
    subst (λ (s : ScriptLine). By x s lines cs) (sym e) (record { rest = ds; gives = g; split = refl })
by_line {x} line lines cs (scripts.shows {cs = ds} e g) =
    subst (λ (s : ScriptLine). By x s lines cs) (sym e) (record { rest = ds; gives = g; split = refl })
by_line {x} line lines cs (scripts.lists {cs = ds} e g) =
    subst (λ (s : ScriptLine). By x s lines cs) (sym e) (record { rest = ds; gives = g; split = refl })

module _ (x : Elaborated) (is : HaveOneMeaning x) where
  -- what the lines behind give is one list
  abbrev HaveOne : List (List ℕ) → Type 0
  HaveOne lines = (cs ds : List Command) → GivesCommands x lines cs → GivesCommands x lines ds → cs ≡ ds

  before_same : (c : Command) (lines : List (List ℕ)) (cs ds : List Command) → HaveOne lines → Before x c lines cs
      → Before x c lines ds → cs ≡ ds
  before_same c lines cs ds one a b = a.split ∙ ap (λ z. c ∷ z) (one a.rest b.rest a.gives b.gives) ∙ sym b.split

  line_same : (said : ScriptLine) (lines : List (List ℕ)) (cs ds : List Command) → HaveOne lines → By x said lines cs
      → By x said lines ds → cs ≡ ds
  line_same Skipped lines cs ds one a b = one cs ds a b
  line_same (Fires text) lines cs ds one a b =
      let e : b.label ≡ a.label = is.one text b.label a.label b.is_label a.is_label in
      before_same (Fire a.label) lines cs ds one a.before
      (subst (λ (l : Label). Before x (Fire l) lines ds) e b.before)
  line_same GoesBack lines cs ds one a b = before_same Back lines cs ds one a b
  line_same Shows lines cs ds one a b = before_same Show lines cs ds one a b
  line_same ListsEnabled lines cs ds one a b = before_same Enabled lines cs ds one a b
  line_same NoCommand lines cs ds one a b = absurd a

  gives_same : (lines : List (List ℕ)) (cs ds : List Command) → GivesCommands x lines cs → GivesCommands x lines ds
      → cs ≡ ds
  gives_same [] cs ds scripts.none scripts.none = refl
  gives_same (line ∷ lines) cs ds g h =
      line_same (line_said line) lines cs ds (gives_same lines) (by_line line lines cs g) (by_line line lines ds h)

  -- Bad lines

  -- a line that gives something is not bad
  line_good : (line : List ℕ) (lines : List (List ℕ)) (cs : List Command) (why : Why) → By x (line_said line) lines cs
      → IsBad x why line → ⊥
  line_good line lines cs why a (no_command e) = subst (λ (s : ScriptLine). By x s lines cs) e a
  line_good line lines cs why a (needs_way {label = text} e h) =
      let f = subst (λ (s : ScriptLine). By x s lines cs) e a in is.needs_none text f.label f.is_label h
  line_good line lines cs why a (no_event {label = text} e h n) =
      let f = subst (λ (s : ScriptLine). By x s lines cs) e a in n f.label f.is_label

  gives_rest : (said : ScriptLine) (lines : List (List ℕ)) (cs : List Command) → By x said lines cs
      → (ds : List Command) × GivesCommands x lines ds
  gives_rest Skipped lines cs a = (cs, a)
  gives_rest (Fires text) lines cs a = (a.before.rest, a.before.gives)
  gives_rest GoesBack lines cs a = (a.rest, a.gives)
  gives_rest Shows lines cs a = (a.rest, a.gives)
  gives_rest ListsEnabled lines cs a = (a.rest, a.gives)
  gives_rest NoCommand lines cs a = absurd a

  gives_good : (lines : List (List ℕ)) (cs : List Command) → GivesCommands x lines cs → (k : ℕ) (line : List ℕ)
      (why : Why) → Stands lines k line → IsBad x why line → ⊥
  gives_good [] cs g k line why s b = stands_none k line s
  gives_good (own ∷ lines) cs g zero line why s b =
      let e : line ≡ own = stands_one (own ∷ lines) 0 line own s refl in
      line_good own lines cs why (by_line own lines cs g) (subst (IsBad x why) e b)
  gives_good (own ∷ lines) cs g (suc k) line why s b =
      let r = gives_rest (line_said own) lines cs (by_line own lines cs g) in gives_good lines r.0 r.1 k line why s b

  one_text : (s t : List ℕ) → ◌≡◌ {A = ScriptLine} (Fires s) (Fires t) → s ≡ t
  one_text s t e = cc

  -- a line is bad for one reason
  bad_once : (line : List ℕ) (v w : Why) → IsBad x v line → IsBad x w line → v ≡ w
  bad_once line v w (no_command e) (no_command f) = refl
  bad_once line v w (no_command e) (needs_way f h) = let z = sym e ∙ f in cc
  bad_once line v w (no_command e) (no_event f h n) = let z = sym e ∙ f in cc
  bad_once line v w (needs_way e h) (no_command f) = let z = sym e ∙ f in cc
  bad_once line v w (needs_way e h) (needs_way f k) = refl
  bad_once line v w (needs_way {label = s} e h) (no_event {label = t} f k n) =
      absurd (k (subst (λ (z : List ℕ). NeedsWay x z) (one_text s t (sym e ∙ f)) h))
  bad_once line v w (no_event e h n) (no_command f) = let z = sym e ∙ f in cc
  bad_once line v w (no_event {label = s} e h n) (needs_way {label = t} f k) =
      absurd (h (subst (λ (z : List ℕ). NeedsWay x z) (one_text t s (sym f ∙ e)) k))
  bad_once line v w (no_event e h n) (no_event f k m) = refl

  first_once : (lines : List (List ℕ)) (m n : ℕ) (v w : Why) → IsFirstBad x lines m v → IsFirstBad x lines n w
      → (m ≡ n) × (v ≡ w)
  first_once lines m n v w a b =
      let e : m ≡ n = one_place m n (λ h. b.before m a.line v h a.stands a.bad)
      (λ h. a.before n b.line w h b.stands b.bad) in
      let there = subst (λ (k : ℕ). Stands lines k b.line) (sym e) b.stands in
      let i : b.line ≡ a.line = stands_one lines m b.line a.line there a.stands in
      (e, bad_once a.line v w a.bad (subst (λ (z : List ℕ). IsBad x w z) i b.bad))

  pub script_once : (script : List ℕ) (a b : Result (List Command) BadLine) → Commands script x a → Commands script x b
      → a ≡ b
  script_once script a b (scripts.gives {cs = cs} g) (scripts.gives {cs = ds} h) =
      ap Ok (gives_same (lines_of script) cs ds g h)
  script_once script a b (scripts.gives {cs = cs} g) (scripts.bad {n = n} {why = why} f) =
      absurd (gives_good (lines_of script) cs g n f.line why f.stands f.bad)
  script_once script a b (scripts.bad {n = n} {why = why} f) (scripts.gives {cs = cs} g) =
      absurd (gives_good (lines_of script) cs g n f.line why f.stands f.bad)
  script_once script a b (scripts.bad {n = m} {why = v} f) (scripts.bad {n = n} {why = w} g) =
      let e = first_once (lines_of script) m n v w f g in
      let i : m ≡ n = e.0 in
      let j : v ≡ w = e.1 in
      cc
