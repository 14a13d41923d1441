-- What the words, the script and the list ask of a system, as the calls that read them answer.
use Rattle.std.proofs.Common.{length, vec_len, arith, ◌≡◌, ◌<◌, ◌≤◌, ℕ, Bool, true, false, List, Option, Some, None, Result, Ok, Err, Vec, map, refl, sym, ◌∙◌, ap, subst}
use Rattle.std.proofs.lemmas.List.{length-map}
use Rattle.std.proofs.lemmas.Option.{same_Some}
use Rattle.std.specs.Global.{Global}
use Rattle.ar_base.specs.Counts.{limit_of}
use Rattle.ar_base.specs.NumbersInside.{EventId}
use Rattle.ar_base.specs.declared.counts.Count.TheVariants.{CutLines, Events, ScriptBytes}
use Rattle.ar_base.proofs.Standing.{stands_within, along_length}
use Rattle.ar_base.specs.Stages.{Where}
use Rattle.ar_base.specs.StagesInside.{IsRefusal}
use Rattle.ar_base.specs.Stages as then
use Rattle.job_inputs.specs.NamingInside.{AnswersEvents}
use Rattle.job_inputs.specs.declared.reading.ListFault.{ListFault}
use Rattle.job_inputs.specs.declared.reading.ListFault.TheVariants as list
use Rattle.gts_core.specs.declared.bound.Chain.{Chain}
use Rattle.gts_core.specs.declared.system.GtsParts.{GtsParts}
use Rattle.gts_flatten.specs.Elaborating.{Elaborated}
use Rattle.gts_flatten.specs.Flat.{IsFlat}
use Rattle.hierarchy.specs.Listing.{observers}
use Rattle.job_inputs.specs.Chains.{cut_of, AnswersCuts}
use Rattle.job_inputs.specs.CutLists.{CutLine}
use Rattle.job_inputs.specs.Flat.{AnswersScript, IsBadScript}
use Rattle.job_inputs.specs.declared.commands.Command.{Command}
use Rattle.job_inputs.specs.declared.faults.ScriptFault.{ScriptFault}
use Rattle.job_inputs.specs.declared.faults.ScriptFault.TheVariants as script
use Rattle.job_inputs.specs.Answers.{AnswersWanted, AnswersObserver}
use Rattle.job_inputs.specs.Wanting.{NamesNone, NamesObserver}
use Rattle.job_inputs.specs.declared.wanting.Wanted.{Wanted}
use Rattle.job_inputs.specs.declared.wanting.WantedFault.{WantedFault}
use Rattle.job_inputs.specs.declared.wanting.WantedFault.TheVariants as wanted
use Rattle.run_words.specs.Commands.{shape_of}
use Rattle.run_words.specs.declared.jobs.Asked.{Asked}
use Rattle.run_words.specs.declared.verbs.Verb.{Verb}
use Rattle.run_words.specs.declared.verbs.Verb.TheVariants.{Check, Flat, Replay, Fragment, Equations, Cuts, Make, Explain, CheckCuts, Modules}
use Rattle.job_stages.specs.Passing as passing
use Rattle.job_stages.specs.Passing.{stop_of_wanted, stop_of_script, stop_of_cuts, stop_of_list, stop_told, IsStageOf, IsThere, AreCommands, ReadsScript, gives, bad, AreLines, ReadsCuts, lists, bad_line, too_many, ReadsList, no_list, names, names_none, AreDropped, ReadsWanted, IsWantedIn, ReadsShown, shows, shows_none, IsShown, IsFlattened, with_lines, IsRequestOf}
use Rattle.job_stages.specs.declared.elaborating.Flattened.{Flattened}
use Rattle.job_stages.proofs.TellLemmas.{many_events}
use Rattle.job_stages.specs.Stages.{Ready, has_table, observer_asked, Drops, Wanting, Showing, AsksByWords}
use Rattle.job_stages.specs.Stages as stages
use Rattle.job_stages.specs.declared.refusals.Refusal.{Refusal}
use Rattle.job_stages.specs.declared.refusals.Refusal.TheVariants.{NoObserver, Size}
use Rattle.job_stages.specs.declared.requesting.Request.{Request}
use Rattle.job_stages.specs.declared.stops.Stop.{Stop}
use Rattle.job_stages.specs.declared.stops.Stop.TheVariants.{Refused, Memory}
use Rattle.job_stages.proofs.TellLemmas.{many_observers}
use Rattle.aralia_text.proofs.Results.{vec_len-items}

-- The second file

-- the second file that is there is within its limit
pub there_short : (given : Option (Vec ℕ Global)) (bytes : Vec ℕ Global) → IsThere given → given ≡ Some bytes
    → length bytes.items ≤ limit_of ScriptBytes
there_short given bytes there e =
    subst (λ (z : Vec ℕ Global). length z.items ≤ limit_of ScriptBytes)
    (same_Some there.bytes bytes (sym there.is ∙ e)) there.short

-- The script

module _ (x : Elaborated) (p : GtsParts) (given : Option (Vec ℕ Global)) (bytes : Vec ℕ Global)
    (is : given ≡ Some bytes) where
  -- a bad line, or want of memory
  pub script_stops : (r : Result (Vec Command Global) Stop) (d : Stop) (e : ScriptFault) → r ≡ Err d
      → d ≡ stop_of_script e → IsBadScript x bytes.items e
      → IsStageOf (λ cs (commands : Vec Command Global). AreCommands p cs commands.items) (ReadsScript given x) r
  script_stops r d e i j h =
      subst (λ (z : Result (Vec Command Global) Stop). IsStageOf
      (λ cs (commands : Vec Command Global). AreCommands p cs commands.items) (ReadsScript given x) z)
      (sym (i ∙ ap Err j)) (go e h)
    where
      go : (e : ScriptFault) → IsBadScript x bytes.items e
          → IsStageOf {X = Vec Command Global} (λ cs (commands : Vec Command Global). AreCommands p cs commands.items)
          (ReadsScript given x) (Err (stop_of_script e))
      go (script.Line n) h = bad bytes is h
      go (script.Which n) h = bad bytes is h
      go (script.Unknown n) h = bad bytes is h
      go script.Memory h = tt

  pub script_given : (commands : Vec Command Global) → AnswersScript x p bytes.items (Ok commands)
      → IsStageOf (λ cs (commands : Vec Command Global). AreCommands p cs commands.items) (ReadsScript given x)
      (Ok commands)
  script_given commands h = (_, gives bytes is h.0, record { are = refl; firable = h.1 })

-- The list of cuts

module _ (x : Elaborated) (p : GtsParts) (bytes : Vec ℕ Global) where
  -- a bad line, or want of memory
  pub cuts_stop : (r : Result (Vec Chain Global) Stop) (d : Stop) (e : ScriptFault) → r ≡ Err d
      → d ≡ stop_of_cuts e → AnswersCuts x p bytes.items (Err e)
      → IsStageOf (λ cuts (chains : Vec Chain Global). AreLines p cuts chains.items) (ReadsCuts (Some bytes) x) r
  cuts_stop r d e i j h =
      subst (λ (z : Result (Vec Chain Global) Stop). IsStageOf
      (λ cuts (chains : Vec Chain Global). AreLines p cuts chains.items) (ReadsCuts (Some bytes) x) z)
      (sym (i ∙ ap Err j)) (go e h)
    where
      go : (e : ScriptFault) → AnswersCuts x p bytes.items (Err e)
          → IsStageOf {X = Vec Chain Global} (λ cuts (chains : Vec Chain Global). AreLines p cuts chains.items)
          (ReadsCuts (Some bytes) x) (Err (stop_of_cuts e))
      go (script.Line n) h = bad_line bytes refl h
      go (script.Which n) h = bad_line bytes refl h
      go (script.Unknown n) h = bad_line bytes refl h
      go script.Memory h = tt

  pub cuts_many : (chains : Vec Chain Global) → AnswersCuts x p bytes.items (Ok chains)
      → limit_of CutLines < vec_len chains
      → IsStageOf {X = Vec Chain Global} (λ cuts (chains : Vec Chain Global). AreLines p cuts chains.items)
      (ReadsCuts (Some bytes) x) (Err (Refused (Size CutLines)))
  cuts_many chains h k =
      too_many bytes refl h.0 (subst (λ (n : ℕ). limit_of CutLines < n)
      (vec_len-items chains ∙ sym (length-map chains.items (cut_of p))) k)

  pub cuts_given : (chains : Vec Chain Global) → AnswersCuts x p bytes.items (Ok chains)
      → vec_len chains ≤ limit_of CutLines
      → IsStageOf (λ cuts (chains : Vec Chain Global). AreLines p cuts chains.items) (ReadsCuts (Some bytes) x)
      (Ok chains)
  cuts_given chains h k = (
    map (cut_of p) chains.items,
    lists bytes refl h.0 (subst (λ (n : ℕ). n ≤ limit_of CutLines)
        (vec_len-items chains ∙ sym (length-map chains.items (cut_of p))) k),
    record { are = refl; known = h.1 },
  )

-- The observer to explain

-- a number of an observer of the source is one of an observer of its flat system
pub observer_known : (x : Elaborated) (p : GtsParts) → IsFlat x p → (text : List ℕ) (n : ℕ) → NamesObserver x text n
    → n < length p.observers.items
observer_known x p is text n h =
    let k = stands_within (observers x.declarations.model x.declarations.units) n h.thing h.number in
    let e = many_observers x p is in
    omega (arith, k, e)

pub shown_here : (x : Elaborated) (p : GtsParts) → IsFlat x p → (a b : List ℕ) → a ≡ b → (o : Option ℕ) (n : ℕ)
    → o ≡ Some n → AnswersObserver x a o → IsStageOf {X = Option ℕ} (IsShown p) (ReadsShown (Some b) x) (Ok (Some n))
shown_here x p of a b e o n i h =
    let k : NamesObserver x b n = subst (λ (z : List ℕ). NamesObserver x z n) e
    (subst (λ (z : Option ℕ). AnswersObserver x a z) i h) in
    (Some n, shows refl k, record { are = refl; inside = observer_known x p of b n k })

pub shown_none : (x : Elaborated) (p : GtsParts) (a b : List ℕ) → a ≡ b → (o : Option ℕ) → o ≡ None
    → AnswersObserver x a o
    → IsStageOf {X = Option ℕ} (IsShown p) (ReadsShown (Some b) x) (Err (Refused NoObserver))
shown_none x p a b e o i h =
    shows_none refl (subst (λ (z : List ℕ). NamesNone x z) e (subst (λ (z : Option ℕ). AnswersObserver x a z) i h))

-- The observer and its value

pub wanted_same : (x : Elaborated) (p : GtsParts) (a b : List ℕ) (word : Option (List ℕ))
    (r : Result Wanted WantedFault) → a ≡ b → AnswersWanted x p a word r → AnswersWanted x p b word r
wanted_same x p a b word r e h = subst (λ (z : List ℕ). AnswersWanted x p z word r) e h

module _ (x : Elaborated) (p : GtsParts) (path : List ℕ) (word : Option (List ℕ)) where
  pub wanted_stops : (r : Result Wanted Stop) (d : Stop) (e : WantedFault) → r ≡ Err d → d ≡ stop_of_wanted e
      → AnswersWanted x p path word (Err e) → IsStageOf (IsWantedIn p) (ReadsWanted path word x) r
  wanted_stops r d e i j h =
      subst (λ (z : Result Wanted Stop). IsStageOf (IsWantedIn p) (ReadsWanted path word x) z)
      (sym (i ∙ ap Err j)) (go e h)
    where
      go : (e : WantedFault) → AnswersWanted x p path word (Err e)
          → IsStageOf {X = Wanted} (IsWantedIn p) (ReadsWanted path word x) (Err (stop_of_wanted e))
      go wanted.NoObserver h = passing.no_observer h
      go wanted.NoValue h = passing.no_value h
      go wanted.Memory h = tt

  pub wanted_given : (w : Wanted) → AnswersWanted x p path word (Ok w)
      → IsStageOf (IsWantedIn p) (ReadsWanted path word x) (Ok w)
  wanted_given w h = (w, passing.wants h.0, record { are = refl; inside = h.1 })

-- The list of dropped events

pub list_refused_same : (x : Elaborated) (p : GtsParts) (a b : List ℕ) (fault : ListFault) → a ≡ b
    → AnswersEvents x p a (Err fault) → AnswersEvents x p b (Err fault)
list_refused_same x p a b fault e h = subst (λ (z : List ℕ). AnswersEvents x p z (Err fault)) e h

pub list_given_same : (x : Elaborated) (p : GtsParts) (a b : List ℕ) (events : Vec EventId Global) → a ≡ b
    → AnswersEvents x p a (Ok events) → AnswersEvents x p b (Ok events)
list_given_same x p a b events e h = subst (λ (z : List ℕ). AnswersEvents x p z (Ok events)) e h

module _ (x : Elaborated) (p : GtsParts) (text : List ℕ) where
  pub list_stops : (r : Result (Vec EventId Global) Stop) (d : Stop) (e : ListFault) → r ≡ Err d → d ≡ stop_of_list e
      → AnswersEvents x p text (Err e)
      → IsStageOf (λ dropped (events : Vec EventId Global). AreDropped p dropped events.items) (ReadsList (Some text) x)
      r
  list_stops r d e i j h =
      subst (λ (z : Result (Vec EventId Global) Stop). IsStageOf
      (λ dropped (events : Vec EventId Global). AreDropped p dropped events.items) (ReadsList (Some text) x) z)
      (sym (i ∙ ap Err j)) (go e h)
    where
      go : (e : ListFault) → AnswersEvents x p text (Err e)
          → IsStageOf {X = Vec EventId Global}
          (λ dropped (events : Vec EventId Global). AreDropped p dropped events.items) (ReadsList (Some text) x)
          (Err (stop_of_list e))
      go list.NoEvent h = names_none refl h
      go list.Memory h = tt

  pub list_given : (events : Vec EventId Global) → AnswersEvents x p text (Ok events)
      → IsStageOf (λ dropped (given : Vec EventId Global). AreDropped p dropped given.items) (ReadsList (Some text) x)
      (Ok events)
  list_given events h = (map (λ (e : EventId). e.n) events.items, names refl h.0, record { are = refl; inside = h.1 })

-- The request

-- no command explains the flows and is about the gate table
pub table_explains : (v : Verb) → has_table v ≡ true → (shape_of v).explains ≡ false
table_explains Check e = let k : false ≡ true = e in absurd cc
table_explains Flat e = let k : false ≡ true = e in absurd cc
table_explains Replay e = let k : false ≡ true = e in absurd cc
table_explains Fragment e = let k : false ≡ true = e in absurd cc
table_explains Equations e = refl
table_explains Cuts e = refl
table_explains Make e = refl
table_explains Explain e = let k : false ≡ true = e in absurd cc
table_explains CheckCuts e = refl
table_explains Modules e = refl

-- the events of the list are those that are dropped
pub drops_bad : (list : Option (List ℕ)) (w : Ready) (r : Refusal) → ReadsList list w.source (Err r)
    → Drops list w (Err r)
drops_bad list w r (names_none i h) = stages.names_none i h

pub drops_good : (list : Option (List ℕ)) (order : Option ℕ) (x : Elaborated) (cuts : List CutLine) (events : List ℕ)
    → ReadsList list x (Ok events)
    → Drops list (with_lines order x cuts) (Ok (record (with_lines order x cuts) { dropped = events }))
drops_good list order x cuts events (no_list i) = stages.no_list i
drops_good list order x cuts events (names i h) = stages.names i h

module _ (asked : Asked) (x : Elaborated) (cuts : List CutLine) (p : GtsParts) (table : has_table asked.job.command ≡ true)
    (path : List ℕ) (path_is : observer_asked asked ≡ Some path) where
  abbrev start : Ready
  start = with_lines asked.order x cuts

  abbrev asks : Result Ready Refusal → Type 0
  asks = AsksByWords asked start

  wants : (w : Ready) (r : Result Ready Refusal) → Wanting (observer_asked asked) asked.job.value w r
      → Where (has_table asked.job.command) (Wanting (observer_asked asked) asked.job.value) w r
  wants w r h = subst (λ (b : Bool). Where b (Wanting (observer_asked asked) asked.job.value) w r) (sym table) h

  -- a refusal, or want of memory
  refused_at : {A : Type 0} (Q : Result A Refusal → Type 0) → ((e : Refusal) → Q (Err e) → asks (Err e))
      → (r : Result Request Stop) (d e : Stop) → r ≡ Err d → d ≡ e → IsRefusal Q (stop_told e)
      → IsStageOf (IsRequestOf asked.order x cuts) asks r
  refused_at Q on r d e i j h =
      subst (λ (z : Result Request Stop). IsStageOf (IsRequestOf asked.order x cuts) asks z) (sym (i ∙ ap Err j)) (go e h)
    where
      go : (e : Stop) → IsRefusal Q (stop_told e) → IsStageOf {X = Request} (IsRequestOf asked.order x cuts) asks (Err e)
      go (Refused f) h = on f h
      go Memory h = tt

  pub dropped_refused : (r : Result Request Stop) (d e : Stop) → r ≡ Err d → d ≡ e
      → IsRefusal (ReadsList asked.job.dropped x) (stop_told e) → IsStageOf (IsRequestOf asked.order x cuts) asks r
  dropped_refused = refused_at (ReadsList asked.job.dropped x) (λ f h. then.refuses (drops_bad asked.job.dropped start f h))

  module _ (events : List ℕ) (named : ReadsList asked.job.dropped x (Ok events)) where
    abbrev without : Ready
    without = record start { dropped = events }

    wants_bad : (f : Refusal) → ReadsWanted path asked.job.value x (Err f)
        → Wanting (observer_asked asked) asked.job.value without (Err f)
    wants_bad f (passing.no_observer h) = stages.no_observer path_is h
    wants_bad f (passing.no_value h) = stages.no_value path_is h

    wants_good : (w : Wanted) → ReadsWanted path asked.job.value x (Ok w)
        → Wanting (observer_asked asked) asked.job.value without (Ok (record without { wanted = Some w }))
    wants_good w (passing.wants h) = stages.wants path_is h

    pub wanted_refused : (r : Result Request Stop) (d e : Stop) → r ≡ Err d → d ≡ e
        → IsRefusal (ReadsWanted path asked.job.value x) (stop_told e) → IsStageOf (IsRequestOf asked.order x cuts) asks r
    wanted_refused = refused_at (ReadsWanted path asked.job.value x) (λ f h.
        then.passes without (drops_good asked.job.dropped asked.order x cuts events named)
        (then.refuses (wants without (Err f) (wants_bad f h))))

    pub all_given : (request : Request) → IsFlat x request.system → request.system ≡ p
        → length p.events.items ≤ limit_of Events
        → AreDropped p events request.dropped.items
        → (w : Wanted) → ReadsWanted path asked.job.value x (Ok w) → IsWantedIn p w request.wanted
        → IsStageOf (IsRequestOf asked.order x cuts) asks (Ok request)
    all_given request flat same few drops w reads is = (
      record without { wanted = Some w },
      then.passes without (drops_good asked.job.dropped asked.order x cuts events named)
          (then.passes (record without { wanted = Some w })
          (wants without (Ok (record without { wanted = Some w })) (wants_good w reads))
          (subst (λ (b : Bool). Where b (Showing asked.job.observer) (record without { wanted = Some w })
          (Ok (record without { wanted = Some w }))) (sym (table_explains asked.job.command table)) refl)),
      record {
        same_order = refl;
        source = refl;
        lines = refl;
        requested = record {
          few = subst (λ (z : GtsParts). length z.events.items ≤ limit_of Events) (sym same) few;
          flat = flat;
          dropped = subst (λ (z : GtsParts). AreDropped z events request.dropped.items) (sym same) drops;
          wanted = ap Some is.are;
          inside = subst (λ (z : GtsParts). request.wanted.observer < length z.observers.items) (sym same) is.inside;
        };
      },
    )

-- a flat system has no more events than there may be
pub few_events : (x : Elaborated) (model : Flattened) → IsFlattened x model
    → length model.system.events.items ≤ limit_of Events
few_events x model of =
    let tree = of.is_tree.events_few in
    let long = along_length _ _ of.is_tree.events_are in
    let same = many_events x model.system of.flat in
    omega (arith, tree, long, same)
