-- The stages that each command passes, one after the other, as the calls that stand for them answer.
use Rattle.std.proofs.Common.{◌≡◌, ℕ, Bool, true, false, List, [], ◌∷◌, Option, Some, None, Result, Ok, Err, Vec, map, refl, sym, ◌∙◌, ap, subst}
use Rattle.std.specs.Global.{Global}
use Rattle.ar_base.specs.NumbersInside.{EventId}
use Rattle.ar_base.specs.Stages.{Where}
use Rattle.ar_base.specs.StagesInside.{IsRefusal}
use Rattle.ar_base.specs.Stages as then
use Rattle.ar_io.specs.Writing.{SinkState}
use Rattle.ar_meaning.specs.Runs as runs
use Rattle.cut_text.specs.declared.faults.PrintFault.{PrintFault}
use Rattle.gate_diagrams.specs.declared.answer.Drawn.{Drawn}
use Rattle.gate_modules.specs.declared.ranges.Range.{Range}
use Rattle.gts_core.specs.declared.bound.Chain.{Chain}
use Rattle.gts_core.specs.declared.system.GtsParts.{GtsParts}
use Rattle.gts_flatten.specs.Elaborating.{Elaborated}
use Rattle.gts_flatten.specs.Flat.{IsFlat}
use Rattle.job_inputs.specs.CutLists.{CutLine}
use Rattle.mode_trees.specs.declared.forests.Forest.{Forest}
use Rattle.module_text.specs.Ranges.{AreRangesOf}
use Rattle.run_words.specs.Commands.{shape_of, is_script, is_list, is_made, to_forest, to_table, of_system}
use Rattle.run_words.specs.declared.jobs.Asked.{Asked}
use Rattle.run_words.specs.declared.shapes.Form.{Form}
use Rattle.run_words.specs.declared.shapes.Shape.{Shape}
use Rattle.run_words.proofs.Reaches.{table_to_forest}
use Rattle.zdd_nodes.specs.declared.NodeFault.{NodeFault}
use Rattle.zdd_nodes.specs.declared.NodeFault.TheVariants.{Full}
use Rattle.altarica_run.specs.Doing.{AnswersFor}
use Rattle.job_stages.specs.Elaborates.{Elaborates}
use Rattle.job_stages.specs.Loading.{texts_of, texts_where, script_texts}
use Rattle.job_stages.specs.Passing.{stop_told, IsStageOf, IsFlattened, ReadsScript, gives, bad, ReadsCuts, lists, bad_line, too_many, ReadsList, AreLines, ReadsShown, no_path, shows, shows_none, with_lines, IsRequested, IsRequestOf, HasForest, IsGateTable, HasGates, IsDrawnFor, AnswersDrawn}
use Rattle.job_stages.specs.Stages.{Ready, bare, Scripted, ListsCuts, Wanting, observer_asked, Showing, AsksByWords, Asks, is_static, has_table, Static, keeps, Tabled, fits, Demands, Readies, Stages, lists_cuts}
use Rattle.job_stages.specs.Stages as stages
use Rattle.job_stages.specs.Telling.{IsWritten, status_printed, IsWrittenFor, written}
use Rattle.job_stages.specs.Tells.{Tells, MayNeedMore}
use Rattle.job_stages.specs.declared.elaborating.Flattened.{Flattened}
use Rattle.job_stages.specs.declared.loading.Texts.{Texts}
use Rattle.job_stages.specs.declared.refusals.Refusal.{Refusal}
use Rattle.job_stages.specs.declared.requesting.Request.{Request}
use Rattle.job_stages.specs.declared.status.Status.{Status}
use Rattle.job_stages.specs.declared.stops.Stop.{Stop}
use Rattle.job_stages.specs.declared.stops.Stop.TheVariants.{Refused, Memory}
use Rattle.job_stages.specs.declared.tabling.GateTable.{GateTable}
use Rattle.job_stages.proofs.PassLemmas.{drops_bad, drops_good}

-- a stage that a command asks for, and one that it does not
where_on : {A R : Type 0} (b : Bool) (stage : A → Result A R → Type 0) (a : A) (r : Result A R) → b ≡ true → stage a r
    → Where b stage a r
where_on b stage a r e h = subst (λ (z : Bool). Where z stage a r) (sym e) h

where_off : {A R : Type 0} (b : Bool) (stage : A → Result A R → Type 0) (a : A) → b ≡ false → Where b stage a (Ok a)
where_off b stage a e = subst (λ (z : Bool). Where z stage a (Ok a)) (sym e) refl

-- What stands ready is kept by the stage of the static fragment, and by that of the gate table

static_same : (w v : Ready) → Static w (Ok v) → v ≡ w
static_same w v (keeps k) = refl

tabled_same : (w v : Ready) → Tabled w (Ok v) → v ≡ w
tabled_same w v (fits e h k) = refl

pub forest_here : (p : GtsParts) (w : Ready) (f : Forest) → IsStageOf (HasForest p) (Static w) (Ok f)
    → Static w (Ok w) × HasForest p w f
forest_here p w f k =
    let e = static_same w k.0 k.1 in (
      subst (λ (z : Ready). Static w (Ok z)) e k.1,
      subst (λ (z : Ready). HasForest p z f) e k.2,
    )

table_here : (p : GtsParts) (f : Forest) (w : Ready) (t : GateTable)
    → IsStageOf (IsGateTable p f) (Tabled w) (Ok t)
    → Tabled w (Ok w) × IsGateTable p f w t
table_here p f w t k =
    let e = tabled_same w k.0 k.1 in (
      subst (λ (z : Ready). Tabled w (Ok z)) e k.1,
      subst (λ (z : Ready). IsGateTable p f z t) e k.2,
    )

-- the system, its forest and its table are those of what stands ready
has_gates : (w : Ready) (request : Request) → IsRequested w request → (f : Forest)
    → IsStageOf (HasForest request.system) (Static w) (Ok f) → (t : GateTable)
    → IsStageOf (IsGateTable request.system f) (Tabled w) (Ok t) → HasGates w request.system f t
has_gates w request is f k t l = record {
  flat = is.flat;
  forest = (forest_here request.system w f k).1;
  table = (table_here request.system f w t l).1;
}

-- The stages of a job

-- what is known once the gate table is there: all stages are passed, and the system, its forest and its table are those
-- of what then stands ready
pub record AreTabled (asked : Asked) (t : Texts) (x : Elaborated) (cuts : List CutLine) (request : Request) (f : Forest)
    (gates : GateTable) : Type 0 where
  pub w : Ready
  pub sought : IsRequestOf asked.order x cuts w request
  pub has : HasGates w request.system f gates
  pub ready : Readies asked (texts_of asked t) x (Ok w)

module _ (asked : Asked) (t : Texts) where
  abbrev texts : List (List ℕ)
  texts = texts_of asked t

  abbrev files : Form
  files = (shape_of asked.job.command).files

  -- a refusal at a stage, or want of memory, before anything is written
  stops : {B : Type 0} (Q : Result B Refusal → Type 0)
      → ((f : Refusal) → Q (Err f) → Stages asked texts t.model.items (Err f)) → (s : SinkState)
      → (r : Result Status Stop) (d e : Stop) → r ≡ Err d → d ≡ e → IsRefusal Q (stop_told e) → AnswersFor asked t s s r
  stops Q on s r d e i j h =
      subst (λ (z : Result Status Stop). AnswersFor asked t s s z) (sym (i ∙ ap Err j)) (go e h)
    where
      go : (e : Stop) → IsRefusal Q (stop_told e) → AnswersFor asked t s s (Err e)
      go (Refused f) h = (on f h, refl)
      go Memory h = refl

  pub memory_stops : (s : SinkState) (r : Result Status Stop) (d : Stop) → r ≡ Err d → d ≡ Memory
      → AnswersFor asked t s s r
  memory_stops s r d i j = subst (λ (z : Result Status Stop). AnswersFor asked t s s z) (sym (i ∙ ap Err j)) refl

  pub elaborate_stops : (s : SinkState) (r : Result Status Stop) (d e : Stop) → r ≡ Err d → d ≡ e
      → IsStageOf {X = Flattened} IsFlattened (Elaborates asked.job.main t.model.items) (Err e) → AnswersFor asked t s s r
  elaborate_stops = stops (Elaborates asked.job.main t.model.items) (λ f h. then.refuses h)

  module _ (x : Elaborated) (elaborated : Elaborates asked.job.main t.model.items (Ok x)) where
    -- a refusal at a stage behind the system
    behind : {B : Type 0} (Q : Result B Refusal → Type 0)
        → ((f : Refusal) → Q (Err f) → Readies asked texts x (Err f)) → (s : SinkState)
        → (r : Result Status Stop) (d e : Stop) → r ≡ Err d → d ≡ e → IsRefusal Q (stop_told e)
        → AnswersFor asked t s s r
    behind Q on = stops Q (λ f h. then.passes x elaborated (on f h))

    -- all stages are passed, and the text is written
    pub done : {old new : SinkState} (w : Ready) (status : Status) → Readies asked texts x (Ok w)
        → IsWrittenFor asked (Tells asked w) old new status → AnswersFor asked t old new (Ok status)
    done w status h k = (w, then.passes x elaborated h, k)

    -- what the words ask, where no second file is read
    alone : is_script files ≡ false → is_list files ≡ false → (r : Result Ready Refusal)
        → AsksByWords asked (bare asked.order x) r → Asks asked texts x r
    alone script list r h =
        then.passes (bare asked.order x) (where_off (is_script files) (Scripted texts) (bare asked.order x) script)
        (then.passes (bare asked.order x) (where_off (is_list files) (ListsCuts texts) (bare asked.order x) list) h)

    -- a command that asks nothing of the events and of observers, and one that demands nothing of the system
    asks_nothing : (w : Ready) → asked.job.dropped ≡ None → has_table asked.job.command ≡ false
        → (shape_of asked.job.command).explains ≡ false → AsksByWords asked w (Ok w)
    asks_nothing w none table explains =
        then.passes w (stages.no_list none)
        (then.passes w (where_off (has_table asked.job.command) (Wanting (observer_asked asked) asked.job.value) w table)
        (where_off (shape_of asked.job.command).explains (Showing asked.job.observer) w explains))

    demands_nothing : (w : Ready) → is_static asked.job.command ≡ false → has_table asked.job.command ≡ false
        → Demands asked.job.command w (Ok w)
    demands_nothing w static table =
        then.passes w (where_off (is_static asked.job.command) Static w static)
        (where_off (has_table asked.job.command) Tabled w table)

    -- Commands about the flat system

    pub plain_ready : shape_of asked.job.command ≡ of_system → asked.job.dropped ≡ None → Readies asked texts x (Ok (bare asked.order x))
    plain_ready row none =
        then.passes (bare asked.order x)
        (alone (ap (λ (z : Shape). is_script z.files) row) (ap (λ (z : Shape). is_list z.files) row) (Ok (bare asked.order x))
        (asks_nothing (bare asked.order x) none (ap (λ (z : Shape). to_table z.reach) row)
        (ap (λ (z : Shape). z.explains) row)))
        (demands_nothing (bare asked.order x) (ap (λ (z : Shape). to_forest z.reach) row)
        (ap (λ (z : Shape). to_table z.reach) row))

    -- Commands that read a script

    texts_are : is_made files ≡ false → (bytes : Vec ℕ Global) → t.script ≡ Some bytes
        → texts ≡ t.model.items ∷ bytes.items ∷ []
    texts_are made bytes e =
        ap (λ (b : Bool). texts_where b t) made
        ∙ ap (λ (z : Option (Vec ℕ Global)). t.model.items ∷ script_texts z) e

    module _ (script : is_script files ≡ true) (list : is_list files ≡ false) (made : is_made files ≡ false) where
      abbrev with_commands : List runs.Command → Ready
      with_commands cs = record (bare asked.order x) { commands = cs }

      script_bad : (f : Refusal) → ReadsScript t.script x (Err f) → Scripted texts (bare asked.order x) (Err f)
      script_bad f (bad bytes e h) = stages.bad (texts_are made bytes e) h

      script_good : (cs : List runs.Command) → ReadsScript t.script x (Ok cs)
          → Scripted texts (bare asked.order x) (Ok (with_commands cs))
      script_good cs (gives bytes e h) = stages.gives (texts_are made bytes e) h

      pub script_stops : (s : SinkState) (r : Result Status Stop) (d e : Stop) → r ≡ Err d → d ≡ e
          → IsRefusal (ReadsScript t.script x) (stop_told e) → AnswersFor asked t s s r
      script_stops = behind (ReadsScript t.script x) (λ f h.
          then.refuses (then.refuses
          (where_on (is_script files) (Scripted texts) (bare asked.order x) (Err f) script (script_bad f h))))

      module _ (cs : List runs.Command) (given : ReadsScript t.script x (Ok cs)) (none : asked.job.dropped ≡ None)
          (static : is_static asked.job.command ≡ false) (table : has_table asked.job.command ≡ false) where
        after : (r : Result Ready Refusal) → AsksByWords asked (with_commands cs) r → Asks asked texts x r
        after r h =
            then.passes (with_commands cs)
            (where_on (is_script files) (Scripted texts) (bare asked.order x) (Ok (with_commands cs)) script (script_good cs given))
            (then.passes (with_commands cs) (where_off (is_list files) (ListsCuts texts) (with_commands cs) list) h)

        pub script_ready : (shape_of asked.job.command).explains ≡ false → Readies asked texts x (Ok (with_commands cs))
        script_ready explains =
            then.passes (with_commands cs)
            (after (Ok (with_commands cs)) (asks_nothing (with_commands cs) none table explains))
            (demands_nothing (with_commands cs) static table)

        -- the observer to explain
        module _ (explains : (shape_of asked.job.command).explains ≡ true) where
          abbrev with_shown : Option ℕ → Ready
          with_shown shown = record (with_commands cs) { shown = shown }

          explained : (r : Result Ready Refusal) → Showing asked.job.observer (with_commands cs) r → Asks asked texts x r
          explained r h =
              after r
              (then.passes (with_commands cs) (stages.no_list none)
              (then.passes (with_commands cs)
              (where_off (has_table asked.job.command) (Wanting (observer_asked asked) asked.job.value)
              (with_commands cs) table)
              (where_on (shape_of asked.job.command).explains (Showing asked.job.observer) (with_commands cs) r explains h)))

          shown_bad : (f : Refusal) → ReadsShown asked.job.observer x (Err f)
              → Showing asked.job.observer (with_commands cs) (Err f)
          shown_bad f (shows_none e h) = stages.shows_none e h

          shown_good : (shown : Option ℕ) → ReadsShown asked.job.observer x (Ok shown)
              → Showing asked.job.observer (with_commands cs) (Ok (with_shown shown))
          shown_good shown (no_path e) = stages.no_path e
          shown_good shown (shows e h) = stages.shows e h

          pub shown_stops : (s : SinkState) (r : Result Status Stop) (d e : Stop) → r ≡ Err d → d ≡ e
              → IsRefusal (ReadsShown asked.job.observer x) (stop_told e) → AnswersFor asked t s s r
          shown_stops = behind (ReadsShown asked.job.observer x) (λ f h.
              then.refuses (explained (Err f) (shown_bad f h)))

          pub shown_ready : (shown : Option ℕ) → ReadsShown asked.job.observer x (Ok shown)
              → Readies asked texts x (Ok (with_shown shown))
          shown_ready shown h =
              then.passes (with_shown shown) (explained (Ok (with_shown shown)) (shown_good shown h))
              (demands_nothing (with_shown shown) static table)

    -- Commands about the trees of modes

    module _ (script : is_script files ≡ false) (list : is_list files ≡ false) (static : is_static asked.job.command ≡ true)
        (table : has_table asked.job.command ≡ false) (explains : (shape_of asked.job.command).explains ≡ false) where
      pub dropped_stops : (s : SinkState) (r : Result Status Stop) (d e : Stop) → r ≡ Err d → d ≡ e
          → IsRefusal (ReadsList asked.job.dropped x) (stop_told e) → AnswersFor asked t s s r
      dropped_stops = behind (ReadsList asked.job.dropped x) (λ f h.
          then.refuses (alone script list (Err f) (then.refuses (drops_bad asked.job.dropped (bare asked.order x) f h))))

      module _ (events : List ℕ) (named : ReadsList asked.job.dropped x (Ok events)) where
        abbrev without : Ready
        without = record (bare asked.order x) { dropped = events }

        drops : Asks asked texts x (Ok without)
        drops =
            alone script list (Ok without)
            (then.passes without (drops_good asked.job.dropped asked.order x [] events named)
            (then.passes without
            (where_off (has_table asked.job.command) (Wanting (observer_asked asked) asked.job.value) without table)
            (where_off (shape_of asked.job.command).explains (Showing asked.job.observer) without explains)))

        pub fragment_stops : (s : SinkState) (r : Result Status Stop) (d e : Stop) → r ≡ Err d → d ≡ e
            → IsRefusal (Static without) (stop_told e) → AnswersFor asked t s s r
        fragment_stops = behind (Static without) (λ f h.
            then.passes without drops
            (then.refuses (where_on (is_static asked.job.command) Static without (Err f) static h)))

        pub fragment_ready : Static without (Ok without) → Readies asked texts x (Ok without)
        fragment_ready h =
            then.passes without drops
            (then.passes without (where_on (is_static asked.job.command) Static without (Ok without) static h)
            (where_off (has_table asked.job.command) Tabled without table))

    -- Commands about the gate table

    module _ (table : has_table asked.job.command ≡ true) (script : is_script files ≡ false) where
      static_too : is_static asked.job.command ≡ true
      static_too = table_to_forest (shape_of asked.job.command).reach table

      -- the list of cuts
      module _ (list : is_list files ≡ true) (made : is_made files ≡ false) where
        lines_bad : (f : Refusal) → ReadsCuts t.script x (Err f) → ListsCuts texts (bare asked.order x) (Err f)
        lines_bad f (bad_line bytes e h) = stages.bad_line (texts_are made bytes e) h
        lines_bad f (too_many bytes e h k) = stages.exceeds_lines (texts_are made bytes e) h k

        lines_good : (cuts : List CutLine) → ReadsCuts t.script x (Ok cuts)
            → ListsCuts texts (bare asked.order x) (Ok (with_lines asked.order x cuts))
        lines_good cuts (lists bytes e h k) = stages.lists (texts_are made bytes e) h k

        pub lines_stop : (s : SinkState) (r : Result Status Stop) (d e : Stop) → r ≡ Err d → d ≡ e
            → IsRefusal (ReadsCuts t.script x) (stop_told e) → AnswersFor asked t s s r
        lines_stop = behind (ReadsCuts t.script x) (λ f h.
            then.refuses
            (then.passes (bare asked.order x) (where_off (is_script files) (Scripted texts) (bare asked.order x) script)
            (then.refuses (where_on (is_list files) (ListsCuts texts) (bare asked.order x) (Err f) list (lines_bad f h)))))

        pub lines_given : (cuts : List CutLine) → ReadsCuts t.script x (Ok cuts)
            → Where (is_list files) (ListsCuts texts) (bare asked.order x) (Ok (with_lines asked.order x cuts))
        lines_given cuts h =
            where_on (is_list files) (ListsCuts texts) (bare asked.order x) (Ok (with_lines asked.order x cuts)) list (lines_good cuts h)

      pub no_lines : is_list files ≡ false → Where (is_list files) (ListsCuts texts) (bare asked.order x) (Ok (with_lines asked.order x []))
      no_lines list = where_off (is_list files) (ListsCuts texts) (bare asked.order x) list

      module _ (cuts : List CutLine)
          (second : Where (is_list files) (ListsCuts texts) (bare asked.order x) (Ok (with_lines asked.order x cuts))) where
        asks : (r : Result Ready Refusal) → AsksByWords asked (with_lines asked.order x cuts) r → Asks asked texts x r
        asks r h =
            then.passes (bare asked.order x) (where_off (is_script files) (Scripted texts) (bare asked.order x) script)
            (then.passes (with_lines asked.order x cuts) second h)

        pub request_stops : (s : SinkState) (r : Result Status Stop) (d e : Stop) → r ≡ Err d → d ≡ e
            → IsRefusal (AsksByWords asked (with_lines asked.order x cuts)) (stop_told e) → AnswersFor asked t s s r
        request_stops = behind (AsksByWords asked (with_lines asked.order x cuts)) (λ f h. then.refuses (asks (Err f) h))

        module _ (w : Ready) (sought : AsksByWords asked (with_lines asked.order x cuts) (Ok w)) where
          pub forest_stops : (s : SinkState) (r : Result Status Stop) (d e : Stop) → r ≡ Err d → d ≡ e
              → IsRefusal (Static w) (stop_told e) → AnswersFor asked t s s r
          forest_stops = behind (Static w) (λ f h.
              then.passes w (asks (Ok w) sought)
              (then.refuses (where_on (is_static asked.job.command) Static w (Err f) static_too h)))

          module _ (p : GtsParts) (f : Forest) (trees : IsStageOf (HasForest p) (Static w) (Ok f)) where
            static : Where (is_static asked.job.command) Static w (Ok w)
            static = where_on (is_static asked.job.command) Static w (Ok w) static_too (forest_here p w f trees).0

            pub table_stops : (s : SinkState) (r : Result Status Stop) (d e : Stop) → r ≡ Err d → d ≡ e
                → IsRefusal (Tabled w) (stop_told e) → AnswersFor asked t s s r
            table_stops = behind (Tabled w) (λ g h.
                then.passes w (asks (Ok w) sought)
                (then.passes w static (where_on (has_table asked.job.command) Tabled w (Err g) table h)))

            table_ready : (gates : GateTable) → IsStageOf (IsGateTable p f) (Tabled w) (Ok gates)
                → Readies asked texts x (Ok w)
            table_ready gates h =
                then.passes w (asks (Ok w) sought)
                (then.passes w static
                (where_on (has_table asked.job.command) Tabled w (Ok w) table (table_here p f w gates h).0))

        pub tabled : (request : Request) (f : Forest) (gates : GateTable)
            → IsStageOf (IsRequestOf asked.order x cuts) (AsksByWords asked (with_lines asked.order x cuts)) (Ok request)
            → ((w : Ready) → IsFlat w.source request.system
            → w.dropped ≡ map (λ (e : EventId). e.n) request.dropped.items → w.order ≡ asked.order
            → IsStageOf (HasForest request.system) (Static w) (Ok f))
            → ((w : Ready) → IsFlat w.source request.system → w.wanted ≡ Some request.wanted
            → HasForest request.system w f → IsStageOf (IsGateTable request.system f) (Tabled w) (Ok gates))
            → AreTabled asked t x cuts request f gates
        tabled request f gates q k l =
            let is = q.2.requested in
            let trees = k q.0 is.flat is.dropped.are q.2.same_order in
            let rows = l q.0 is.flat is.wanted (forest_here request.system q.0 f trees).1 in
            record {
              w = q.0;
              sought = q.2;
              has = has_gates q.0 request is f trees gates rows;
              ready = table_ready q.0 q.1 request.system f trees gates rows;
            }

-- What is drawn, and the texts of it

-- the cut lines and the ranges of units, by the names that they have where the text is written
pub lines_there : (p q : GtsParts) → q ≡ p → (a b : List CutLine) → b ≡ a → (chains given : List Chain)
    → given ≡ chains → AreLines p a chains → AreLines q b given
lines_there p q e a b i chains given j h =
    subst (λ (z : GtsParts). AreLines z b given) (sym e)
    (subst (λ (z : List CutLine). AreLines p z given) (sym i)
    (subst (λ (z : List Chain). AreLines p a z) (sym j) h))

pub units_there : (x y : Elaborated) → y ≡ x → (ranges given : List Range) → given ≡ ranges
    → AreRangesOf x.declarations.model x.declarations.units ranges
    → AreRangesOf y.declarations.model y.declarations.units given
units_there x y e ranges given j h =
    subst (λ (z : Elaborated). AreRangesOf z.declarations.model z.declarations.units given) (sym e)
    (subst (λ (z : List Range). AreRangesOf x.declarations.model x.declarations.units z) (sym j) h)

module _ {asked : Asked} {t : Texts} {x : Elaborated} {cuts : List CutLine} {request : Request} {f : Forest}
    {gates : GateTable} (n : AreTabled asked t x cuts request f gates) (e : lists_cuts asked.job.command ≡ true) where
  -- what the drawing answered
  abbrev Answer : Result Drawn NodeFault → Type 0
  Answer r = (j : Asked) (w : Ready) (p : GtsParts) → HasGates w p f gates → lists_cuts j.job.command ≡ true
      → w.order ≡ asked.order → j.job.nodes ≡ asked.job.nodes → AnswersDrawn j w p f r

  drawn : (d k : Drawn) → d ≡ k → Answer (Ok d) → IsDrawnFor asked n.w request.system f k
  drawn d k i given =
      subst (λ (z : Drawn). IsDrawnFor asked n.w request.system f z) i (given asked n.w request.system n.has e n.sought.same_order refl)

  pub drawn_there : (d k : Drawn) → d ≡ k → Answer (Ok d)
      → (j : Asked) × (w : Ready) × IsDrawnFor j w request.system f k
  drawn_there d k i given = (asked, n.w, drawn d k i given)

  pub made_there : (d k : Drawn) → d ≡ k → Answer (Ok d)
      → (j : Asked) × (w : Ready) × (g : Forest) × IsDrawnFor j w request.system g k
  made_there d k i given = (asked, n.w, f, drawn d k i given)

  pub checked_there : (chains : List Chain) → ((w : Ready) → w.lines ≡ cuts → AreLines request.system w.lines chains)
      → (d k : Drawn) → d ≡ k → Answer (Ok d)
      → (j : Asked) × (w : Ready) × IsRequested w request × AreLines request.system w.lines chains
      × IsDrawnFor j w request.system f k
  checked_there chains lines d k i given =
      (asked, n.w, n.sought.requested, lines n.w n.sought.lines, drawn d k i given)

  module _ (elaborated : Elaborates asked.job.main t.model.items (Ok x)) {old new : SinkState} {s : Status}
      (r : Result Status PrintFault) (same : s ≡ status_printed r) where
    told : IsWritten (Tells asked n.w) old new (status_printed r) → AnswersFor asked t old new (Ok s)
    told h =
        done asked t x elaborated n.w s n.ready
        (written (subst (λ (z : Status). IsWritten (Tells asked n.w) old new z) (sym same) h))

    pub drawn_told : (d k : Drawn) → d ≡ k → Answer (Ok d)
        → ((w : Ready) → IsRequestOf asked.order x cuts w request → IsDrawnFor asked w request.system f k
        → IsWritten (Tells asked w) old new (status_printed r)) → AnswersFor asked t old new (Ok s)
    drawn_told d k i given write = told (write n.w n.sought (drawn d k i given))

    pub nodes_told : (fault : NodeFault) → Answer (Err fault)
        → ((w : Ready) → (fault ≡ Full → MayNeedMore w asked.job.nodes)
        → IsWritten (Tells asked w) old new (status_printed r)) → AnswersFor asked t old new (Ok s)
    nodes_told fault given write =
        told (write n.w (λ i. subst (λ (z : NodeFault). AnswersDrawn asked n.w request.system f (Err z)) i
        (given asked n.w request.system n.has e n.sought.same_order refl)))
