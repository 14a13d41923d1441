-- What the words, the script and the list of a job ask for.
use Rattle.std.proofs.Common.{◌≡◌, ℕ, List, [], ◌∷◌, Option, Some, None, Result, Ok, Err, length, refl, sym, ◌∙◌, ap, subst, arith}
use Rattle.ar_base.specs.Stages.{Then, Where}
use Rattle.ar_base.proofs.Standing.{along_on}
use Rattle.ar_meaning.specs.Runs.{Command}
use Rattle.domains.specs.declared.Value.{Value}
use Rattle.job_inputs.specs.Naming.{NamesEvents, HasUnknown}
use Rattle.gts_flatten.specs.Elaborating.{Elaborated}
use Rattle.job_inputs.specs.CutLines.{is_comma}
use Rattle.job_inputs.specs.CutLists.{CutLine, CutList}
use Rattle.job_inputs.specs.CutListsInside.{HaveOneMeaning}
use Rattle.job_inputs.specs.Lines.{pieces}
use Rattle.job_inputs.specs.Scripts.{BadLine, Commands}
use Rattle.run_words.specs.Commands.{shape_of, is_script, is_list}
use Rattle.run_words.specs.declared.jobs.Asked.{Asked}
use Rattle.run_words.specs.declared.shapes.Shape.{Shape}
use Rattle.job_inputs.specs.Wanting.{IsWanted, NamesObserver, NamesNone, WantsNone}
use Rattle.job_laws.proofs.Labels.{along_one, one_event, one_meaning}
use Rattle.job_laws.proofs.Observers.{observer_once, wanted_once, wanted_apart}
use Rattle.job_laws.proofs.Scripts.{script_once}
use Rattle.job_stages.specs.Stages.{Ready, bare, line_refused, Scripted, cut_refused, ListsCuts, Drops, Wanting, has_table, observer_asked, Showing, AsksByWords, Asks}
use Rattle.job_stages.specs.Stages as s
use Rattle.job_stages.specs.declared.refusals.Refusal.{Refusal}
use Rattle.job_laws.specs.Definite.{IsDefinite}
use Rattle.job_laws.proofs.Stages.{IsOne, PassesOn, then_one, then_on, where_one, where_on, same_ok, same_err, ok_err}

-- its source is definite
abbrev pub OfDefinite : Ready → Type 0
OfDefinite w = IsDefinite w.source

second_text : (texts : List (List ℕ)) (m s n t : List ℕ) → texts ≡ m ∷ s ∷ [] → texts ≡ n ∷ t ∷ [] → s ≡ t
second_text texts m s n t e f = cc

pub same_some : {A : Type 0} (o : Option A) (a b : A) → o ≡ Some a → o ≡ Some b → a ≡ b
same_some o a b e f = cc

none_some : {A C : Type 0} (o : Option A) (a : A) → o ≡ None → o ≡ Some a → C
none_some o a e f = let z : None ≡ Some a = sym e ∙ f in cc

-- Scripts

-- what the reading of the script comes to
abbrev scripted_as : Ready → Result (List Command) BadLine → Result Ready Refusal
scripted_as w (Ok cs) = Ok (record w { commands = cs })
scripted_as w (Err l) = Err (line_refused l.why l.number)

record WasScripted (texts : List (List ℕ)) (w : Ready) (answer : Result Ready Refusal) : Type 0 where
  model : List ℕ
  script : List ℕ
  is_texts : texts ≡ model ∷ script ∷ []
  result : Result (List Command) BadLine
  commands : Commands script w.source result
  answers : answer ≡ scripted_as w result

was_scripted : (texts : List (List ℕ)) (w : Ready) (a : Result Ready Refusal) → Scripted texts w a
    → WasScripted texts w a
was_scripted texts w a (s.gives {model = m} {script = t} {cs = cs} e c) =
    record { model = m; script = t; is_texts = e; result = Ok cs; commands = c; answers = refl }
was_scripted texts w a (s.bad {model = m} {script = t} {l = l} e c) =
    record { model = m; script = t; is_texts = e; result = Err l; commands = c; answers = refl }

scripted_one : (texts : List (List ℕ)) → IsOne OfDefinite (Scripted texts)
scripted_one texts w is x y h k =
    let a = was_scripted texts w x h in
    let b = was_scripted texts w y k in
    let e : b.script ≡ a.script = second_text texts b.model b.script a.model a.script b.is_texts a.is_texts in
    let there = subst (λ (t : List ℕ). Commands t w.source b.result) e b.commands in
    let i : a.result ≡ b.result = script_once w.source (one_meaning is.names) a.script a.result b.result a.commands
    there in
    a.answers ∙ ap (scripted_as w) i ∙ sym b.answers

scripted_on : (texts : List (List ℕ)) → PassesOn OfDefinite (Scripted texts) OfDefinite
scripted_on texts w v is (s.gives e c) = is

-- Lists of cuts

-- a list of cuts has one reading
abbrev pub OneList : Type 0
OneList = (x : Elaborated) → HaveOneMeaning x → (text : List ℕ) (a b : Result (List CutLine) BadLine) → CutList text x a
    → CutList text x b → a ≡ b

module _ (one_list : OneList) (texts : List (List ℕ)) where
  same_list : (w : Ready) → OfDefinite w → (m t n u : List ℕ) (a b : Result (List CutLine) BadLine)
      → texts ≡ m ∷ t ∷ [] → texts ≡ n ∷ u ∷ [] → CutList t w.source a → CutList u w.source b → a ≡ b
  same_list w is m t n u a b e f c d =
      let i : u ≡ t = second_text texts n u m t f e in
      one_list w.source (one_meaning is.names) t a b c (subst (λ (z : List ℕ). CutList z w.source b) i d)

  lists_one : IsOne OfDefinite (ListsCuts texts)
  lists_one w is x y (s.lists {model = m} {list = t} {cuts = cs} e c l)
      (s.lists {model = n} {list = u} {cuts = ds} f d k) =
      let i : cs ≡ ds = same_ok cs ds (same_list w is m t n u (Ok cs) (Ok ds) e f c d) in
      ap (λ (z : List CutLine). Ok (record w { lines = z })) i
  lists_one w is x y (s.lists {model = m} {list = t} {cuts = cs} e c l)
      (s.bad_line {model = n} {list = u} {l = b} f d) =
      ok_err cs b (same_list w is m t n u (Ok cs) (Err b) e f c d)
  lists_one w is x y (s.lists {model = m} {list = t} {cuts = cs} e c l)
      (s.exceeds_lines {model = n} {list = u} {cuts = ds} f d k) =
      let i : length cs ≡ length ds = ap length (same_ok cs ds (same_list w is m t n u (Ok cs) (Ok ds) e f c d)) in
      absurd (omega (arith, i, l, k))
  lists_one w is x y (s.bad_line {model = n} {list = u} {l = b} f d)
      (s.lists {model = m} {list = t} {cuts = cs} e c l) =
      ok_err cs b (same_list w is m t n u (Ok cs) (Err b) e f c d)
  lists_one w is x y (s.bad_line {model = m} {list = t} {l = a} e c) (s.bad_line {model = n} {list = u} {l = b} f d) =
      let i : a ≡ b = same_err a b (same_list w is m t n u (Err a) (Err b) e f c d) in
      ap (λ (z : BadLine). Err (cut_refused z.why z.number)) i
  lists_one w is x y (s.bad_line {model = n} {list = u} {l = b} f d)
      (s.exceeds_lines {model = m} {list = t} {cuts = cs} e c l) =
      ok_err cs b (same_list w is m t n u (Ok cs) (Err b) e f c d)
  lists_one w is x y (s.exceeds_lines {model = n} {list = u} {cuts = ds} f d k)
      (s.lists {model = m} {list = t} {cuts = cs} e c l) =
      let i : length cs ≡ length ds = ap length (same_ok cs ds (same_list w is m t n u (Ok cs) (Ok ds) e f c d)) in
      absurd (omega (arith, i, l, k))
  lists_one w is x y (s.exceeds_lines {model = m} {list = t} {cuts = cs} e c l)
      (s.bad_line {model = n} {list = u} {l = b} f d) =
      ok_err cs b (same_list w is m t n u (Ok cs) (Err b) e f c d)
  lists_one w is x y (s.exceeds_lines e c l) (s.exceeds_lines f d k) = refl

lists_on : (texts : List (List ℕ)) → PassesOn OfDefinite (ListsCuts texts) OfDefinite
lists_on texts w v is (s.lists e c l) = is

-- Dropped events

events_same : (x : Elaborated) → IsDefinite x → (t u events others : List ℕ) → t ≡ u → NamesEvents x t events
    → NamesEvents x u others → events ≡ others
events_same x is t u events others e a b =
    along_one (λ part m n h k. one_event is.names part m n h k) a
    (subst (λ (z : List ℕ). NamesEvents x z others) (sym e) b)

events_apart : (x : Elaborated) (t u events : List ℕ) → t ≡ u → NamesEvents x t events → HasUnknown x u → ⊥
events_apart x t u events e a b =
    let h = subst (HasUnknown x) (sym e) b in
    let r = along_on (pieces is_comma t) events a h.is_part.place h.part h.is_part.stands in
    h.names_none r.0 r.2

drops_one : (list : Option (List ℕ)) → IsOne OfDefinite (Drops list)
drops_one list w is x y (s.no_list e) (s.no_list f) = refl
drops_one list w is x y (s.no_list e) (s.names {text = t} f a) = none_some list t e f
drops_one list w is x y (s.no_list e) (s.names_none {text = t} f a) = none_some list t e f
drops_one list w is x y (s.names {text = t} e a) (s.no_list f) = none_some list t f e
drops_one list w is x y (s.names {text = t} {events = es} e a) (s.names {text = u} {events = fs} f b) =
    let i : es ≡ fs = events_same w.source is t u es fs (same_some list t u e f) a b in
    ap (λ (z : List ℕ). Ok (record w { dropped = z })) i
drops_one list w is x y (s.names {text = t} {events = es} e a) (s.names_none {text = u} f b) =
    absurd (events_apart w.source t u es (same_some list t u e f) a b)
drops_one list w is x y (s.names_none {text = t} e a) (s.no_list f) = none_some list t f e
drops_one list w is x y (s.names_none {text = t} e a) (s.names {text = u} {events = fs} f b) =
    absurd (events_apart w.source u t fs (same_some list u t f e) b a)
drops_one list w is x y (s.names_none e a) (s.names_none f b) = refl

drops_on : (list : Option (List ℕ)) → PassesOn OfDefinite (Drops list) OfDefinite
drops_on list w v is (s.no_list e) = is
drops_on list w v is (s.names e a) = is

-- The observer and its value

abbrev asked_as : Ready → ℕ → Value → Result Ready Refusal
asked_as w n v = Ok (record w { wanted = Some (record { observer = n; value = v }) })

both_same : (w : Ready) (m n : ℕ) (u v : Value) → m ≡ n → u ≡ v → asked_as w m u ≡ asked_as w n v
both_same w m n u v e f = ap (λ (z : ℕ). asked_as w z u) e ∙ ap (asked_as w n) f

module _ (observer word : Option (List ℕ)) where
  wanting_one : IsOne OfDefinite (Wanting observer word)
  wanting_one w is x y (s.wants {path = p} {wanted = a} e h) (s.wants {path = q} {wanted = b} f k) =
      let i = same_some observer q p f e in
      let there = subst (λ (z : List ℕ). IsWanted w.source z word b.observer b.value) i k in
      let r = wanted_once is.names p word a.observer b.observer a.value b.value h there in
      both_same w a.observer b.observer a.value b.value r.0 r.1
  wanting_one w is x y (s.wants {path = p} e h) (s.no_observer {path = q} f k) =
      let none = subst (NamesNone w.source) (same_some observer q p f e) k in absurd (none _ h.names)
  wanting_one w is x y (s.wants {path = p} {wanted = a} e h) (s.no_value {path = q} f k) =
      let none = subst (λ (z : List ℕ). WantsNone w.source z word) (same_some observer q p f e) k in
      absurd (wanted_apart is.names p word a.observer a.value h none)
  wanting_one w is x y (s.no_observer {path = q} f k) (s.wants {path = p} e h) =
      let none = subst (NamesNone w.source) (same_some observer q p f e) k in absurd (none _ h.names)
  wanting_one w is x y (s.no_observer e h) (s.no_observer f k) = refl
  wanting_one w is x y (s.no_observer {path = q} f k) (s.no_value {path = p} e h) =
      let none = subst (NamesNone w.source) (same_some observer q p f e) k in absurd (none _ h.names)
  wanting_one w is x y (s.no_value {path = q} f k) (s.wants {path = p} {wanted = a} e h) =
      let none = subst (λ (z : List ℕ). WantsNone w.source z word) (same_some observer q p f e) k in
      absurd (wanted_apart is.names p word a.observer a.value h none)
  wanting_one w is x y (s.no_value {path = p} e h) (s.no_observer {path = q} f k) =
      let none = subst (NamesNone w.source) (same_some observer q p f e) k in absurd (none _ h.names)
  wanting_one w is x y (s.no_value e h) (s.no_value f k) = refl

  wanting_on : PassesOn OfDefinite (Wanting observer word) OfDefinite
  wanting_on w v is (s.wants e h) = is

-- The observer to explain

module _ (observer : Option (List ℕ)) where
  showing_one : IsOne OfDefinite (Showing observer)
  showing_one w is x y (s.no_path e) (s.no_path f) = refl
  showing_one w is x y (s.no_path e) (s.shows {path = p} f h) = none_some observer p e f
  showing_one w is x y (s.no_path e) (s.shows_none {path = p} f h) = none_some observer p e f
  showing_one w is x y (s.shows {path = p} f h) (s.no_path e) = none_some observer p e f
  showing_one w is x y (s.shows {path = p} {n = m} e h) (s.shows {path = q} {n = n} f k) =
      let there = subst (λ (z : List ℕ). NamesObserver w.source z n) (same_some observer q p f e) k in
      let i : m ≡ n = observer_once is.names p m n h there in
      ap (λ (z : ℕ). Ok (record w { shown = Some z })) i
  showing_one w is x y (s.shows {path = p} {n = m} e h) (s.shows_none {path = q} f k) =
      let none = subst (NamesNone w.source) (same_some observer q p f e) k in absurd (none m h)
  showing_one w is x y (s.shows_none {path = p} f h) (s.no_path e) = none_some observer p e f
  showing_one w is x y (s.shows_none {path = q} f k) (s.shows {path = p} {n = m} e h) =
      let none = subst (NamesNone w.source) (same_some observer q p f e) k in absurd (none m h)
  showing_one w is x y (s.shows_none e h) (s.shows_none f k) = refl

  showing_on : PassesOn OfDefinite (Showing observer) OfDefinite
  showing_on w v is (s.no_path e) = is
  showing_on w v is (s.shows e h) = is

-- All of them

module _ (asked : Asked) (texts : List (List ℕ)) where
  abbrev shape : Shape
  shape = shape_of asked.job.command

  abbrev Drop : Ready → Result Ready Refusal → Type 0
  Drop = Drops asked.job.dropped

  abbrev Want : Ready → Result Ready Refusal → Type 0
  Want = Where (has_table asked.job.command) (Wanting (observer_asked asked) asked.job.value)

  abbrev Show : Ready → Result Ready Refusal → Type 0
  Show = Where shape.explains (Showing asked.job.observer)

  abbrev Script : Ready → Result Ready Refusal → Type 0
  Script = Where (is_script shape.files) (Scripted texts)

  abbrev Cuts : Ready → Result Ready Refusal → Type 0
  Cuts = Where (is_list shape.files) (ListsCuts texts)

  want_one : IsOne OfDefinite Want
  want_one = where_one OfDefinite (Wanting (observer_asked asked) asked.job.value) (has_table asked.job.command)
      (wanting_one (observer_asked asked) asked.job.value)

  want_on : PassesOn OfDefinite Want OfDefinite
  want_on = where_on OfDefinite (Wanting (observer_asked asked) asked.job.value) (has_table asked.job.command)
      (wanting_on (observer_asked asked) asked.job.value)

  show_one : IsOne OfDefinite Show
  show_one = where_one OfDefinite (Showing asked.job.observer) shape.explains (showing_one asked.job.observer)

  show_on : PassesOn OfDefinite Show OfDefinite
  show_on = where_on OfDefinite (Showing asked.job.observer) shape.explains (showing_on asked.job.observer)

  words_one : IsOne OfDefinite (AsksByWords asked)
  words_one =
      then_one OfDefinite OfDefinite Drop (Then Want Show) (drops_one asked.job.dropped) (drops_on asked.job.dropped)
      (then_one OfDefinite OfDefinite Want Show want_one want_on show_one)

  words_on : PassesOn OfDefinite (AsksByWords asked) OfDefinite
  words_on =
      then_on OfDefinite OfDefinite Drop (Then Want Show) OfDefinite (drops_on asked.job.dropped)
      (then_on OfDefinite OfDefinite Want Show OfDefinite want_on show_on)

  script_one : IsOne OfDefinite Script
  script_one = where_one OfDefinite (Scripted texts) (is_script shape.files) (scripted_one texts)

  script_on : PassesOn OfDefinite Script OfDefinite
  script_on = where_on OfDefinite (Scripted texts) (is_script shape.files) (scripted_on texts)

  cuts_one : OneList → IsOne OfDefinite Cuts
  cuts_one one_list = where_one OfDefinite (ListsCuts texts) (is_list shape.files) (lists_one one_list texts)

  cuts_on : PassesOn OfDefinite Cuts OfDefinite
  cuts_on = where_on OfDefinite (ListsCuts texts) (is_list shape.files) (lists_on texts)

  pub asks_one : OneList → IsOne IsDefinite (Asks asked texts)
  asks_one one_list x is a b h k =
      then_one OfDefinite OfDefinite Script (Then Cuts (AsksByWords asked)) script_one script_on
      (then_one OfDefinite OfDefinite Cuts (AsksByWords asked) (cuts_one one_list) cuts_on words_one) (bare asked.order x) is a b h k

  pub asks_on : PassesOn IsDefinite (Asks asked texts) OfDefinite
  asks_on x w is h =
      then_on OfDefinite OfDefinite Script (Then Cuts (AsksByWords asked)) OfDefinite script_on
      (then_on OfDefinite OfDefinite Cuts (AsksByWords asked) OfDefinite cuts_on words_on) (bare asked.order x) w is h
