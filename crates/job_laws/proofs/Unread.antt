-- What a call never answers to a text that has a reading.
use Rattle.std.proofs.Common.{◌≡◌, ℕ, Bool, true, false, List, Option, Result, Ok, Err, refl, sym, ◌∙◌, subst}
use Rattle.ar_base.specs.Stages.{Where, refuses, passes}
use Rattle.ar_io.specs.Outside.{Told}
use Rattle.ar_parser.specs.Models.{Reads}
use Rattle.parser_laws.specs.Models.{HasOneTree}
use Rattle.ar_syntax.specs.declared.items.Model.{Model}
use Rattle.job_inputs.specs.Scripts.{Why, IsNoCommand, LacksWay, NamesNoEvent}
use Rattle.run_words.specs.Commands.{shape_of, is_script, is_list}
use Rattle.run_words.specs.declared.jobs.Asked.{Asked}
use Rattle.job_stages.specs.Elaborates.{reads, breaks, exceeds as exceeds_limit}
use Rattle.run_words.specs.Jobs.{IsAsked}
use Rattle.altarica_run.specs.Follows.{Call, Gave}
use Rattle.job_stages.specs.Refusals.{status_of}
use Rattle.altarica_run.specs.Statuses.{Meaning_of}
use Rattle.job_stages.specs.Files.{File, files_of, Loaded, IsText, first, made}
use Rattle.job_stages.specs.Stages.{Ready, bare, Passes, not_loaded, loaded, Stages, line_refused, cut_refused, Scripted, bad, ListsCuts, bad_line, exceeds_lines, Drops, names_none, Wanting, no_observer, no_value, observer_asked, Showing, shows_none, Static, outside, is_static, Tabled, exceeds, has_table}
use Rattle.job_stages.specs.declared.refusals.Refusal.{Refusal}
use Rattle.job_stages.specs.declared.refusals.Refusal.TheVariants.{Usage, NotRead, Size, Syntax, Rule, NoCommand, NoCut, NeedsWay, NoEvent, NoDropped, NoObserver, NoValue, Outside}
use Rattle.job_stages.specs.declared.status.Status.{Status}
use Rattle.job_stages.specs.declared.status.Status.TheVariants as status
use Rattle.altarica_run.proofs.FollowLemmas.{meaning_of}
use Rattle.job_laws.proofs.Readings.{parses_one}
use Rattle.job_laws.proofs.Stages.{same_ok, ok_err}

-- Refusals for the syntax come from the grammar alone

abbrev pub is_syntax : Refusal → Bool
is_syntax (Syntax place) = true
is_syntax _ = false

of_line : (why : Why) (n : ℕ) → is_syntax (line_refused why n) ≡ false
of_line IsNoCommand n = refl
of_line LacksWay n = refl
of_line NamesNoEvent n = refl

of_cut : (why : Why) (n : ℕ) → is_syntax (cut_refused why n) ≡ false
of_cut IsNoCommand n = refl
of_cut LacksWay n = refl
of_cut NamesNoEvent n = refl

of_script : (b : Bool) (texts : List (List ℕ)) (w : Ready) (r : Refusal) → Where b (Scripted texts) w (Err r)
    → is_syntax r ≡ false
of_script true texts w r (bad {l = l} i h) = of_line l.why l.number
of_script false texts w r h = cc

of_list : (b : Bool) (texts : List (List ℕ)) (w : Ready) (r : Refusal) → Where b (ListsCuts texts) w (Err r)
    → is_syntax r ≡ false
of_list true texts w r (bad_line {l = l} i h) = of_cut l.why l.number
of_list true texts w r (exceeds_lines i h k) = refl
of_list false texts w r h = cc

of_dropped : (list : Option (List ℕ)) (w : Ready) (r : Refusal) → Drops list w (Err r) → is_syntax r ≡ false
of_dropped list w r (names_none i h) = refl

of_wanted : (b : Bool) (observer word : Option (List ℕ)) (w : Ready) (r : Refusal)
    → Where b (Wanting observer word) w (Err r) → is_syntax r ≡ false
of_wanted true observer word w r (no_observer i h) = refl
of_wanted true observer word w r (no_value i h) = refl
of_wanted false observer word w r h = cc

of_shown : (b : Bool) (path : Option (List ℕ)) (w : Ready) (r : Refusal) → Where b (Showing path) w (Err r)
    → is_syntax r ≡ false
of_shown true path w r (shows_none i h) = refl
of_shown false path w r h = cc

of_static : (b : Bool) (w : Ready) (r : Refusal) → Where b Static w (Err r) → is_syntax r ≡ false
of_static true w r (outside q h) = refl
of_static false w r h = cc

of_table : (b : Bool) (w : Ready) (r : Refusal) → Where b Tabled w (Err r) → is_syntax r ≡ false
of_table true w r (exceeds i h k) = refl
of_table false w r h = cc

module _ (text : List ℕ) (one : HasOneTree text) (asked : Asked) (texts : List (List ℕ)) where
  -- a text that is read is refused by a later stage
  pub later_refused : (m : Model) → Reads text m → (r : Refusal) → Stages asked texts text (Err r) → is_syntax r ≡ false
  later_refused m is r (refuses (refuses h)) = absurd (parses_one text one (Ok m) (Err r) (reads is) h)
  later_refused m is r (refuses (passes n p (breaks h))) = refl
  later_refused m is r (refuses (passes n p (exceeds_limit h))) = refl
  later_refused m is r (passes x p (refuses (refuses h))) = of_script (is_script (shape_of asked.job.command).files) texts (bare asked.order x) r h
  later_refused m is r (passes x p (refuses (passes w q (refuses h)))) =
      of_list (is_list (shape_of asked.job.command).files) texts w r h
  later_refused m is r (passes x p (refuses (passes w q (passes v k (refuses h))))) = of_dropped asked.job.dropped v r h
  later_refused m is r (passes x p (refuses (passes w q (passes v k (passes u l (refuses h)))))) =
      of_wanted (has_table asked.job.command) (observer_asked asked) asked.job.value u r h
  later_refused m is r (passes x p (refuses (passes w q (passes v k (passes u l (passes y n h)))))) =
      of_shown (shape_of asked.job.command).explains asked.job.observer y r h
  later_refused m is r (passes x p (passes w q (refuses h))) = of_static (is_static asked.job.command) w r h
  later_refused m is r (passes x p (passes w q (passes v k h))) = of_table (has_table asked.job.command) v r h

-- The text of a job is one

texts_same : (asked : Asked) (a b : List (List ℕ)) (s t : List ℕ) → a ≡ b → IsText asked a s → IsText asked b t → s ≡ t
texts_same asked a b s t e (first i) (first j) = cc
texts_same asked a b s t e (first i) (made j) = let k : false ≡ true = sym i ∙ j in absurd cc
texts_same asked a b s t e (made i) (first j) = let k : false ≡ true = sym j ∙ i in absurd cc
texts_same asked a b s t e (made i) (made j) = refl

module _ (files : List ℕ → Told)
    (loading : (fs : List File) (x y : Result (List (List ℕ)) Refusal) → Loaded files fs x → Loaded files fs y → x ≡ y)
    (asked : Asked) (texts : List (List ℕ)) (text : List ℕ) (is_loaded : Loaded files (files_of asked) (Ok texts))
    (is_text : IsText asked texts text) (one : HasOneTree text) where
  -- its stages are passed with this text
  pub of_text : (x : Result Ready Refusal) → Passes files asked x → Stages asked texts text x
  of_text x (not_loaded {r = q} h) = ok_err texts q (loading (files_of asked) (Ok texts) (Err q) is_loaded h)
  of_text x (loaded {text = other} others l t s) =
      let e : others ≡ texts = same_ok others texts (loading (files_of asked) (Ok others) (Ok texts) l is_loaded) in
      let i : other ≡ text = texts_same asked others texts other text e t is_text in
      subst (λ (z : List (List ℕ)). Stages asked z text x) e (subst (λ (z : List ℕ). Stages asked others z x) i s)

  pub read_not_refused : (m : Model) → Reads text m → (r : Refusal) → Passes files asked (Err r) → is_syntax r ≡ false
  read_not_refused m is r h = later_refused text one asked texts m is r (of_text (Err r) h)

-- Calls

module _ (c : Call) (asked : Asked) (same : (a b : Asked) → IsAsked c.words a → IsAsked c.words b → a ≡ b)
    (is : IsAsked c.words asked)
    (loading : (fs : List File) (x y : Result (List (List ℕ)) Refusal) → Loaded c.files fs x → Loaded c.files fs y
    → x ≡ y)
    (texts : List (List ℕ)) (text : List ℕ) (is_loaded : Loaded c.files (files_of asked) (Ok texts))
    (is_text : IsText asked texts text) (one : HasOneTree text) where
  syntax_status : (r : Refusal) → status_of r ≡ status.Syntax → is_syntax r ≡ true
  syntax_status (Syntax place) e = refl
  syntax_status Usage e = cc
  syntax_status (NotRead kind) e = cc
  syntax_status (Size count) e = cc
  syntax_status (Rule rule place) e = cc
  syntax_status (NoCommand n) e = cc
  syntax_status (NoCut n) e = cc
  syntax_status (NeedsWay n) e = cc
  syntax_status (NoEvent n) e = cc
  syntax_status NoDropped e = cc
  syntax_status NoObserver e = cc
  syntax_status NoValue e = cc
  syntax_status (Outside rule path) e = cc

  pub never_syntax : (m : Model) → Reads text m → (s : Status) → Gave c s → s ≡ status.Syntax → ⊥
  never_syntax m is_read s g e =
      let h = subst (Meaning_of c) e (meaning_of c s g) in
      let p = subst (λ (j : Asked). Passes c.files j (Err h.refusal)) (same h.asked asked h.is_job is) h.stage in
      let no = read_not_refused c.files loading asked texts text is_loaded is_text one m is_read h.refusal p in
      let yes = syntax_status h.refusal (sym h.is_status) in
      let k : false ≡ true = sym no ∙ yes in
      absurd cc
