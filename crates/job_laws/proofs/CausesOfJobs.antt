-- What the stages of a job refuse behind the system: what its words, script and list ask for, and what its command
-- demands.
use Rattle.std.proofs.Common.{◌≡◌, ◌<◌, ◌+◌, ◌∙◌, ℕ, Bool, true, false, List, [], ◌∷◌, length, Some, None, Result, Ok, Err, refl, sym, subst}
use Rattle.ar_base.specs.Counts.{limit_of}
use Rattle.ar_base.specs.Stages.{Where, refuses, passes}
use Rattle.ar_base.specs.declared.counts.Count.TheVariants as count
use Rattle.ar_firing.specs.Rules.{Rule as StaticRule, rule_number, Spot, IsFirstBroken, IsAskedUpTo, KeepsUpTo}
use Rattle.ar_io.specs.Outside.{Told}
use Rattle.ar_meaning.specs.Runs.{Command}
use Rattle.eq_core.specs.Gates.{Table}
use Rattle.gts_flatten.specs.Elaborating.{Elaborated}
use Rattle.job_inputs.specs.CutLists as cuts
use Rattle.job_inputs.specs.CutLists.{CutLine, ListsCutLines, IsFirstBadCut}
use Rattle.job_inputs.specs.Lines.{lines_of}
use Rattle.job_inputs.specs.Naming.{HasUnknown}
use Rattle.job_inputs.specs.Scripts as scripts
use Rattle.job_inputs.specs.Scripts.{Why, IsNoCommand, LacksWay, NamesNoEvent, GivesCommands, IsFirstBad}
use Rattle.job_inputs.specs.Wanting.{NamesNone, WantsNone}
use Rattle.job_inputs.specs.declared.wanting.Wanted.{Wanted}
use Rattle.run_words.proofs.Reaches.{table_to_forest}
use Rattle.run_words.specs.Commands.{shape_of, is_script, is_list, is_made}
use Rattle.run_words.specs.Lines.{CommandWords}
use Rattle.run_words.specs.declared.jobs.Asked.{Asked}
use Rattle.run_words.specs.declared.shapes.Form.{Form}
use Rattle.run_words.specs.declared.shapes.Form.TheVariants as form
use Rattle.run_words.specs.declared.verbs.Verb.{Verb}
use Rattle.run_words.specs.declared.verbs.Verb.TheVariants.{Check, Flat, Replay, Fragment, Equations, Cuts, Make, Explain, CheckCuts, Modules}
use Rattle.run_words.specs.Jobs.{IsAsked, OptionsFit}
use Rattle.job_stages.specs.Elaborates.{Elaborates}
use Rattle.job_stages.specs.Files.{files_of, Loaded, IsText, first}
use Rattle.job_stages.specs.Stages as s
use Rattle.job_stages.specs.Stages.{Ready, bare, Asks, Demands, Readies, ListsCuts, Drops, AsksByWords, IsTableOf, line_refused, cut_refused, spot_path, has_table, observer_asked, is_static, Passes, loaded}
use Rattle.job_stages.specs.declared.refusals.Refusal.{Refusal}
use Rattle.job_stages.specs.declared.refusals.Refusal.TheVariants.{Size, NoDropped, NoObserver, NoValue, Outside}
use Rattle.job_laws.proofs.Findings.{scripted_source, listed_source, dropped_source, wanted_source, shown_source}

-- Stages that may be left out

-- one that is not
there : {A R : Type 0} (stage : A → Result A R → Type 0) (b : Bool) (a : A) (x : Result A R) → b ≡ true → stage a x
    → Where b stage a x
there stage true a x e h = h
there stage false a x e h = absurd cc

-- one that is
past : {A R : Type 0} (stage : A → Result A R → Type 0) (b : Bool) (a : A) → b ≡ false → Where b stage a (Ok a)
past stage false a e = refl
past stage true a e = absurd cc

-- Commands

-- a second file is a script or a list, and there is none where the command makes its model
list_no_script : (f : Form) → is_list f ≡ true → is_script f ≡ false
list_no_script form.Model e = refl
list_no_script form.ModelAndScript e = absurd cc
list_no_script form.ModelAndList e = refl
list_no_script form.Number e = refl

list_not_made : (f : Form) → is_list f ≡ true → is_made f ≡ false
list_not_made form.Model e = refl
list_not_made form.ModelAndScript e = refl
list_not_made form.ModelAndList e = refl
list_not_made form.Number e = absurd cc

script_not_made : (f : Form) → is_script f ≡ true → is_made f ≡ false
script_not_made form.Model e = refl
script_not_made form.ModelAndScript e = refl
script_not_made form.ModelAndList e = refl
script_not_made form.Number e = absurd cc

-- a command about the gate table has no script
pub table_no_script : (v : Verb) → has_table v ≡ true → is_script (shape_of v).files ≡ false
table_no_script Check e = refl
table_no_script Flat e = refl
table_no_script Replay e = absurd cc
table_no_script Fragment e = refl
table_no_script Equations e = refl
table_no_script Cuts e = refl
table_no_script Make e = refl
table_no_script Explain e = absurd cc
table_no_script CheckCuts e = refl
table_no_script Modules e = refl

-- nor has one that drops events
drops_no_script : (v : Verb) (line : CommandWords) (text : List ℕ) → OptionsFit (shape_of v) line
    → line.dropped ≡ Some text → is_script (shape_of v).files ≡ false
drops_no_script Check line text fit e = refl
drops_no_script Flat line text fit e = refl
drops_no_script Replay line text fit e = let k : Some text ≡ None = sym e ∙ fit.dropped in absurd cc
drops_no_script Fragment line text fit e = refl
drops_no_script Equations line text fit e = refl
drops_no_script Cuts line text fit e = refl
drops_no_script Make line text fit e = refl
drops_no_script Explain line text fit e = let k : Some text ≡ None = sym e ∙ fit.dropped in absurd cc
drops_no_script CheckCuts line text fit e = refl
drops_no_script Modules line text fit e = refl

-- a command that explains has a script and no list, is about no gate table, and drops nothing
record IsExplaining (v : Verb) : Type 0 where
  script : is_script (shape_of v).files ≡ true
  no_list : is_list (shape_of v).files ≡ false
  no_table : has_table v ≡ false
  drops_none : (line : CommandWords) → OptionsFit (shape_of v) line → line.dropped ≡ None

explaining : (v : Verb) → (shape_of v).explains ≡ true → IsExplaining v
explaining Check e = absurd cc
explaining Flat e = absurd cc
explaining Replay e = absurd cc
explaining Fragment e = absurd cc
explaining Equations e = absurd cc
explaining Cuts e = absurd cc
explaining Make e = absurd cc
explaining Explain e = record { script = refl; no_list = refl; no_table = refl; drops_none = λ line fit. fit.dropped }
explaining CheckCuts e = absurd cc
explaining Modules e = absurd cc

-- What stands ready has the source that is asked
asked_source : (asked : Asked) (texts : List (List ℕ)) (x : Elaborated) (w : Ready) → Asks asked texts x (Ok w) → w.source ≡ x
asked_source asked texts x w (passes b h (passes d k (passes f l (passes g m n)))) =
    shown_source (shape_of asked.job.command).explains asked.job.observer g w n
    ∙ wanted_source (has_table asked.job.command) (observer_asked asked) asked.job.value f g m
    ∙ dropped_source asked.job.dropped d f l
    ∙ listed_source (is_list (shape_of asked.job.command).files) texts b d k
    ∙ scripted_source (is_script (shape_of asked.job.command).files) texts (bare asked.order x) b h

-- A text that means a system
module _ (files : List ℕ → Told) (asked : Asked) (texts : List (List ℕ)) (text : List ℕ)
    (is_loaded : Loaded files (files_of asked) (Ok texts)) (is_text : IsText asked texts text) (x : Elaborated)
    (means : Elaborates asked.job.main text (Ok x)) where
  of_system : (r : Refusal) → Readies asked texts x (Err r) → Passes files asked (Err r)
  of_system r h = loaded texts is_loaded is_text (passes x means h)

  -- it has not what is asked for
  pub of_request : (r : Refusal) → Asks asked texts x (Err r) → Passes files asked (Err r)
  of_request r h = of_system r (refuses h)

  -- what the words ask for, where the list is passed and there is no script
  module _ (no_script : is_script (shape_of asked.job.command).files ≡ false) (w : Ready)
      (lists : Where (is_list (shape_of asked.job.command).files) (ListsCuts texts) (bare asked.order x) (Ok w)) where
    of_words : (r : Refusal) → AsksByWords asked w (Err r) → Passes files asked (Err r)
    of_words r h = of_request r (passes (bare asked.order x)
        (past (s.Scripted texts) (is_script (shape_of asked.job.command).files) (bare asked.order x) no_script) (passes w lists h))

    list_source : x ≡ w.source
    list_source = sym (listed_source (is_list (shape_of asked.job.command).files) texts (bare asked.order x) w lists)

    pub of_dropped : (list : List ℕ) → asked.job.dropped ≡ Some list → HasUnknown x list → Passes files asked (Err NoDropped)
    of_dropped list e h = of_words NoDropped
        (refuses (s.names_none e (subst (λ (z : Elaborated). HasUnknown z list) list_source h)))

    module _ (v : Ready) (drops : Drops asked.job.dropped w (Ok v)) (table : has_table asked.job.command ≡ true) (path : List ℕ)
        (sought : observer_asked asked ≡ Some path) where
      of_wanting : (r : Refusal) → s.Wanting (observer_asked asked) asked.job.value v (Err r) → Passes files asked (Err r)
      of_wanting r h = of_words r (passes v drops (refuses
          (there (s.Wanting (observer_asked asked) asked.job.value) (has_table asked.job.command) v (Err r) table h)))

      drop_source : x ≡ v.source
      drop_source = list_source ∙ sym (dropped_source asked.job.dropped w v drops)

      pub of_observer : NamesNone x path → Passes files asked (Err NoObserver)
      of_observer h = of_wanting NoObserver
          (s.no_observer sought (subst (λ (z : Elaborated). NamesNone z path) drop_source h))

      pub of_value : WantsNone x path asked.job.value → Passes files asked (Err NoValue)
      of_value h = of_wanting NoValue
          (s.no_value sought (subst (λ (z : Elaborated). WantsNone z path asked.job.value) drop_source h))

  -- it has what is asked for, and is not what the command demands
  module _ (w : Ready) (asks : Asks asked texts x (Ok w)) where
    of_demand : (r : Refusal) → Demands asked.job.command w (Err r) → Passes files asked (Err r)
    of_demand r h = of_system r (passes w asks h)

    pub of_fragment : is_static asked.job.command ≡ true → (rule : StaticRule) (spot : Spot)
        → IsAskedUpTo w.order rule → IsFirstBroken x.system w.dropped rule spot
        → Passes files asked (Err (Outside (rule_number rule) (spot_path x spot)))
    of_fragment static rule spot q h = subst
        (λ (z : Elaborated). IsFirstBroken z.system w.dropped rule spot
        → Passes files asked (Err (Outside (rule_number rule) (spot_path z spot))))
        (asked_source asked texts x w asks)
        (λ k. let r = Outside (rule_number rule) (spot_path w.source spot) in
        of_demand r (refuses (there s.Static (is_static asked.job.command) w (Err r) static (s.outside q k))))
        h

    pub of_gates : has_table asked.job.command ≡ true → KeepsUpTo w.order x.system w.dropped → (wanted : Wanted) (table : Table)
        → w.wanted ≡ Some wanted → IsTableOf x w.dropped wanted table → limit_of count.Gates < length table.gates
        → Passes files asked (Err (Size count.Gates))
    of_gates has keeps wanted table e is h =
        let back : x ≡ w.source = sym (asked_source asked texts x w asks) in
        of_demand (Size count.Gates) (passes w
        (there s.Static (is_static asked.job.command) w (Ok w) (table_to_forest (shape_of asked.job.command).reach has)
        (s.keeps (subst (λ (z : Elaborated). KeepsUpTo w.order z.system w.dropped) back keeps)))
        (there s.Tabled (has_table asked.job.command) w (Err (Size count.Gates)) has
        (s.exceeds e (subst (λ (z : Elaborated). IsTableOf z w.dropped wanted table) back is) h)))

-- A text with a second file
module _ (files : List ℕ → Told) (asked : Asked) (text second : List ℕ)
    (is_loaded : Loaded files (files_of asked) (Ok (text ∷ second ∷ []))) (x : Elaborated)
    (means : Elaborates asked.job.main text (Ok x)) where
  module _ (script : is_script (shape_of asked.job.command).files ≡ true) where
    of_two : (r : Refusal) → Asks asked (text ∷ second ∷ []) x (Err r) → Passes files asked (Err r)
    of_two = of_request files asked (text ∷ second ∷ []) text is_loaded
        (first (script_not_made (shape_of asked.job.command).files script)) x means

    pub of_script : (n : ℕ) (why : Why) → IsFirstBad x (lines_of second) n why
        → Passes files asked (Err (line_refused why (n + 1)))
    of_script n why h = of_two (line_refused why (n + 1)) (refuses (there (s.Scripted (text ∷ second ∷ []))
        (is_script (shape_of asked.job.command).files) (bare asked.order x) (Err (line_refused why (n + 1))) script
        (s.bad refl (scripts.bad h))))

  module _ (list : is_list (shape_of asked.job.command).files ≡ true) where
    of_lists : (r : Refusal) → ListsCuts (text ∷ second ∷ []) (bare asked.order x) (Err r) → Passes files asked (Err r)
    of_lists r h = of_request files asked (text ∷ second ∷ []) text is_loaded
        (first (list_not_made (shape_of asked.job.command).files list)) x means r
        (passes (bare asked.order x) (past (s.Scripted (text ∷ second ∷ [])) (is_script (shape_of asked.job.command).files) (bare asked.order x)
        (list_no_script (shape_of asked.job.command).files list))
        (refuses (there (ListsCuts (text ∷ second ∷ [])) (is_list (shape_of asked.job.command).files) (bare asked.order x) (Err r) list
        h)))

    pub of_list : (n : ℕ) (why : Why) → IsFirstBadCut x (lines_of second) n why
        → Passes files asked (Err (cut_refused why (n + 1)))
    of_list n why h = of_lists (cut_refused why (n + 1)) (s.bad_line refl (cuts.bad h))

    pub of_cut_lines : (lines : List CutLine) → ListsCutLines x 1 (lines_of second) lines
        → limit_of count.CutLines < length lines → Passes files asked (Err (Size count.CutLines))
    of_cut_lines lines h more = of_lists (Size count.CutLines) (s.exceeds_lines refl (cuts.gives h) more)

  -- the observer to explain
  pub of_shown : (words : List (List ℕ)) → IsAsked words asked → (shape_of asked.job.command).explains ≡ true
      → (commands : List Command) → GivesCommands x (lines_of second) commands
      → (path : List ℕ) → asked.job.observer ≡ Some path → NamesNone x path → Passes files asked (Err NoObserver)
  of_shown words is explains commands gives path e h =
      let v = explaining asked.job.command explains in
      let w : Ready = record (bare asked.order x) { commands = commands } in
      let dropped : asked.job.dropped ≡ None = is.asked_of.job.dropped ∙ v.drops_none _ is.asked_of.job.options in
      of_two v.script NoObserver (passes w
      (there (s.Scripted (text ∷ second ∷ [])) (is_script (shape_of asked.job.command).files) (bare asked.order x) (Ok w) v.script
      (s.gives refl (scripts.gives gives)))
      (passes w (past (ListsCuts (text ∷ second ∷ [])) (is_list (shape_of asked.job.command).files) w v.no_list)
      (passes w (s.no_list dropped)
      (passes w (past (s.Wanting (observer_asked asked) asked.job.value) (has_table asked.job.command) w v.no_table)
      (there (s.Showing asked.job.observer) (shape_of asked.job.command).explains w (Err NoObserver) explains
      (s.shows_none e h))))))

-- Words that drop events give no script
pub dropping_no_script : (words : List (List ℕ)) (asked : Asked) (list : List ℕ) → IsAsked words asked → asked.job.dropped ≡ Some list
    → is_script (shape_of asked.job.command).files ≡ false
dropping_no_script words asked list is e =
    drops_no_script asked.job.command _ list is.asked_of.job.options (sym is.asked_of.job.dropped ∙ e)
