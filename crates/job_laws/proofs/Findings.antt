-- What the modules of cuts, and the line of a conflict, say of the model.
use Rattle.std.proofs.Common.{◌≡◌, ℕ, zero, suc, Bool, true, false, List, [], ◌∷◌, Option, Ok, refl, sym, ◌∙◌, ap, subst}
use Rattle.std.specs.List.{AllByRecursion}
use Rattle.ar_base.specs.Lists.{Stands}
use Rattle.ar_base.proofs.Standing.{stands_none}
use Rattle.ar_base.specs.Stages.{passes, Where}
use Rattle.ar_firing.specs.Cuts.{Cut, Conflicts, start, fire}
use Rattle.ar_firing.proofs.Lines.{line_is_legal}
use Rattle.ar_firing.proofs.OrderedSets.{undropped}
use Rattle.ar_firing.proofs.Replays.{conflict_replays}
use Rattle.ar_meaning.specs.Flows.{FlowFault}
use Rattle.ar_meaning.specs.Runs.{Label}
use Rattle.ar_meaning.specs.Systems.{System}
use Rattle.parser_laws.specs.Keeps.{TreesKeep}
use Rattle.cut_text.specs.Texts.{IsConflictText}
use Rattle.domains.specs.declared.Value.{Value}
use Rattle.firable_families.specs.Firable.{AndUpTo}
use Rattle.gate_modules.specs.Choices.{StandFor}
use Rattle.gts_flatten.specs.Elaborating.{Elaborated}
use Rattle.gts_flatten.specs.Flat.{naming_of}
use Rattle.hierarchy.specs.Listing.{AreUnits}
use Rattle.hierarchy.specs.Models.{RootedModel}
use Rattle.hierarchy.specs.ModelsInside.{KeepsTextRules}
use Rattle.hierarchy.specs.Units.{UnitPath, Thing}
use Rattle.module_text.specs.Texts.{IsModuleText}
use Rattle.run_words.specs.Commands.{shape_of, is_script, is_list}
use Rattle.run_words.proofs.Reaches.{cuts_to_forest}
use Rattle.run_words.specs.declared.jobs.Asked.{Asked}
use Rattle.run_words.specs.declared.verbs.Verb.{Verb}
use Rattle.run_words.specs.declared.verbs.Verb.TheVariants.{Check, Flat, Replay, Fragment, Equations, Cuts, Make, Explain, CheckCuts, Modules}
use Rattle.run_words.specs.Jobs.{IsAsked}
use Rattle.source_meaning.specs.Systems.{Declarations, AreOf}
use Rattle.typed_expr.specs.declared.expr.Expr.{Expr}
use Rattle.zdd_nodes.specs.Families.{has}
use Rattle.zdd_nodes.proofs.Laws.{has_each}
use Rattle.zdd_nodes.proofs.Minimal.{member_of}
use Rattle.job_stages.specs.Elaborates.{Elaborates, rooted, reads}
use Rattle.job_stages.specs.Elaborates as e
use Rattle.altarica_run.specs.Follows.{Call, Gave, Wrote}
use Rattle.altarica_run.specs.Listings.{IsCut}
use Rattle.job_stages.specs.Stages.{Ready, bare, Passes, loaded, Scripted, gives, ListsCuts, lists, Drops, no_list, names, Wanting, wants, observer_asked, Showing, no_path, shows, Static, keeps, is_static, Tabled, fits, has_table, Readies, lists_cuts}
use Rattle.job_stages.specs.Tells.{IsShortText, Tells, check, flat, replay, fragment, equations, cuts, make, unsettled, checks, in_short, conflict, nodes}
use Rattle.job_stages.specs.Tells as told
use Rattle.job_stages.specs.declared.status.Status.{Status}
use Rattle.job_stages.specs.declared.status.Status.TheVariants as status
use Rattle.altarica_run.proofs.FollowLemmas.{meaning_of}
use Rattle.source_laws.proofs.Passing.{bound_of}
use Rattle.job_laws.specs.Findings.{AreModulesOf, IsConflictOf}
use Rattle.job_laws.proofs.Demanding.{IsFitWhere, keyed_static, readies_on}
use Rattle.job_laws.proofs.Sources.{text_definite, unfolded_of, flattened_of}
use Rattle.job_laws.proofs.Stages.{same_ok}

-- What stands ready has the source that it is made of

pub scripted_source : (b : Bool) (texts : List (List ℕ)) (w v : Ready) → Where b (Scripted texts) w (Ok v)
    → v.source ≡ w.source
scripted_source true texts w v (gives i h) = refl
scripted_source false texts w v h = ap (λ (z : Ready). z.source) (same_ok v w h)

pub listed_source : (b : Bool) (texts : List (List ℕ)) (w v : Ready) → Where b (ListsCuts texts) w (Ok v)
    → v.source ≡ w.source
listed_source true texts w v (lists i h l) = refl
listed_source false texts w v h = ap (λ (z : Ready). z.source) (same_ok v w h)

pub dropped_source : (list : Option (List ℕ)) (w v : Ready) → Drops list w (Ok v) → v.source ≡ w.source
dropped_source list w v (no_list i) = refl
dropped_source list w v (names i h) = refl

pub wanted_source : (b : Bool) (observer word : Option (List ℕ)) (w v : Ready) → Where b (Wanting observer word) w (Ok v)
    → v.source ≡ w.source
wanted_source true observer word w v (wants i h) = refl
wanted_source false observer word w v h = ap (λ (z : Ready). z.source) (same_ok v w h)

pub shown_source : (b : Bool) (path : Option (List ℕ)) (w v : Ready) → Where b (Showing path) w (Ok v)
    → v.source ≡ w.source
shown_source true path w v (no_path i) = refl
shown_source true path w v (shows i h) = refl
shown_source false path w v h = ap (λ (z : Ready). z.source) (same_ok v w h)

static_source : (b : Bool) (w v : Ready) → Where b Static w (Ok v) → v.source ≡ w.source
static_source true w v (keeps h) = refl
static_source false w v h = ap (λ (z : Ready). z.source) (same_ok v w h)

tabled_source : (b : Bool) (w v : Ready) → Where b Tabled w (Ok v) → v.source ≡ w.source
tabled_source true w v (fits i h l) = refl
tabled_source false w v h = ap (λ (z : Ready). z.source) (same_ok v w h)

readies_source : (asked : Asked) (texts : List (List ℕ)) (x : Elaborated) (w : Ready) → Readies asked texts x (Ok w)
    → w.source ≡ x
readies_source asked texts x w
    (passes a (passes b h (passes d k (passes f l (passes g m n)))) (passes i o p)) =
    tabled_source (has_table asked.job.command) i w p
    ∙ static_source (is_static asked.job.command) a i o
    ∙ shown_source (shape_of asked.job.command).explains asked.job.observer g a n
    ∙ wanted_source (has_table asked.job.command) (observer_asked asked) asked.job.value f g m
    ∙ dropped_source asked.job.dropped d f l
    ∙ listed_source (is_list (shape_of asked.job.command).files) texts b d k
    ∙ scripted_source (is_script (shape_of asked.job.command).files) texts (bare asked.order x) b h

-- The source of a text keeps the rules over the whole text, and its units are those of its main block

record HasUnits (x : Elaborated) : Type 0 where
  kept : KeepsTextRules x.declarations.model
  units : AreUnits x.declarations.model x.declarations.units

text_units : (main : Option (List ℕ)) (text : List ℕ) (x : Elaborated) → Elaborates main text (Ok x) → HasUnits x
text_units main text x (passes model (reads r) (e.passes (passes m (rooted is k) (passes t u (passes d b f))))) =
    let unfolded = unfolded_of m t u in
    let of = subst (λ (z : RootedModel). AreOf z t.units d) unfolded.same (bound_of t d b) in
    let flattened = flattened_of d x f in
    let i = ap (λ (z : Declarations). z.model) flattened.same ∙ of.model in
    let j = ap (λ (z : Declarations). z.units) flattened.same ∙ of.units_are in
    record {
      kept = subst KeepsTextRules (sym i) (record { model = model; main = main; rooted = is; kept = k });
      units = subst (λ (z : RootedModel). AreUnits z x.declarations.units) (sym i)
          (subst (λ (z : List UnitPath). AreUnits m z) (sym j) unfolded.units);
    }

-- What stands ready for a job

record IsReadyFor (asked : Asked) (w : Ready) : Type 0 where
  fit : IsFitWhere (is_static asked.job.command) w
  source : HasUnits w.source

ready_for : ((text : List ℕ) → TreesKeep text) → (c : Call) (asked : Asked) (w : Ready) → Passes c.files asked (Ok w)
    → IsReadyFor asked w
ready_for keep c asked w (loaded {text = text} texts l t (passes x p r)) = record {
  fit = readies_on asked texts x w (text_definite asked.job.main text x (keep text) p) r;
  source = subst HasUnits (sym (readies_source asked texts x w r)) (text_units asked.job.main text x p);
}

-- Texts by command

abbrev is_done : Status → Bool
is_done status.Done = true
is_done _ = false

abbrev is_fault : Status → Bool
is_fault status.Fault = true
is_fault _ = false

not_so : {A : Type 0} (test : Status → Bool) (s u : Status) → s ≡ u → test s ≡ false → test u ≡ true → A
not_so test s u i j k = let h : false ≡ true = sym j ∙ ap test i ∙ k in absurd cc

abbrev is_modules : Verb → Bool
is_modules Modules = true
is_modules _ = false

other_command : {A : Type 0} (test : Verb → Bool) (v u : Verb) → v ≡ u → test u ≡ false → test v ≡ true → A
other_command test v u i j k = let h : false ≡ true = sym j ∙ ap test (sym i) ∙ k in absurd cc

module _ (asked : Asked) (w : Ready) where
  short_text : is_modules asked.job.command ≡ true → (text : List ℕ) (s : Status) → s ≡ status.Done → Tells asked w text s
      → IsShortText w asked.job.nodes text
  short_text j text s d (check i) = other_command is_modules asked.job.command Check i refl j
  short_text j text s d (flat i h) = other_command is_modules asked.job.command Flat i refl j
  short_text j text s d (replay i h) = other_command is_modules asked.job.command Replay i refl j
  short_text j text s d (fragment i h) = other_command is_modules asked.job.command Fragment i refl j
  short_text j text s d (equations i q h) = other_command is_modules asked.job.command Equations i refl j
  short_text j text s d (cuts i h) = other_command is_modules asked.job.command Cuts i refl j
  short_text j text s d (make i h) = other_command is_modules asked.job.command Make i refl j
  short_text j text s d (told.explains i h) = other_command is_modules asked.job.command Explain i refl j
  short_text j text s d (unsettled i h) = other_command is_modules asked.job.command Explain i refl j
  short_text j text s d (checks i h) = other_command is_modules asked.job.command CheckCuts i refl j
  short_text j text s d (in_short i h) = h
  short_text j text s d (conflict i h) = not_so is_done status.Fault status.Done d refl refl
  short_text j text s d (nodes i h) = not_so is_done status.Nodes status.Done d refl refl

  abbrev IsConflict : List ℕ → Type 0
  IsConflict text = IsConflictText w.order (naming_of w.source.declarations) w.source.system w.dropped text

  pub conflict_text : lists_cuts asked.job.command ≡ true → (text : List ℕ) (s : Status) → s ≡ status.Fault → Tells asked w text s
      → IsConflict text
  conflict_text j text s d (check i) = other_command lists_cuts asked.job.command Check i refl j
  conflict_text j text s d (flat i h) = other_command lists_cuts asked.job.command Flat i refl j
  conflict_text j text s d (replay i h) = other_command lists_cuts asked.job.command Replay i refl j
  conflict_text j text s d (fragment i h) = other_command lists_cuts asked.job.command Fragment i refl j
  conflict_text j text s d (equations i q h) = other_command lists_cuts asked.job.command Equations i refl j
  conflict_text j text s d (cuts i h) = not_so is_fault status.Done status.Fault d refl refl
  conflict_text j text s d (make i h) = not_so is_fault status.Done status.Fault d refl refl
  conflict_text j text s d (told.explains i h) = other_command lists_cuts asked.job.command Explain i refl j
  conflict_text j text s d (unsettled i h) = other_command lists_cuts asked.job.command Explain i refl j
  conflict_text j text s d (checks i h) = not_so is_fault status.Done status.Fault d refl refl
  conflict_text j text s d (in_short i h) = not_so is_fault status.Done status.Fault d refl refl
  conflict_text j text s d (conflict i h) = h
  conflict_text j text s d (nodes i h) = not_so is_fault status.Nodes status.Fault d refl refl

-- what meets a conflict with events dropped meets it without
conflict_undropped : {V : Type 0} (sys : System V) (dropped : List ℕ) {ls : List Label} {f : FlowFault}
    → Conflicts sys dropped ls f → Conflicts sys [] ls f
conflict_undropped sys dropped (start f) = start f
conflict_undropped sys dropped (fire w r o s) =
    fire w (undropped sys dropped r)
    (record { is_kept = record { is_way = o.is_kept.is_way; stays = λ i. let h = i.stands in cc }; visible = o.visible })
    s

all_listed : {P : List ℕ → Type 0} (fs : List (List ℕ)) → ((k : ℕ) (set : List ℕ) → Stands fs k set → P set)
    → AllByRecursion P fs
all_listed [] each = tt
all_listed (x ∷ xs) each = (each zero x refl, all_listed xs (λ k set h. each (suc k) set h))

each_stands : (P : List ℕ → Type 0) (fs : List (List ℕ)) → AllByRecursion P fs → (k : ℕ) (set : List ℕ)
    → Stands fs k set → P set
each_stands P [] all k set h = absurd (stands_none k set h)
each_stands P (x ∷ fs) all zero set h = let i : x ≡ set = cc in subst P i all.0
each_stands P (x ∷ fs) all (suc k) set h = each_stands P fs all.1 k set h

-- in the text of modules of a source that keeps the rules over the whole text, the short forms stand for the cuts
abbrev Combinations : Type 0
Combinations = (x : Elaborated) (dropped : List ℕ) (observer : Expr Thing) (wanted : Value) (text : List ℕ)
    (t : IsModuleText x dropped observer wanted text) → KeepsTextRules x.declarations.model
    → AreUnits x.declarations.model x.declarations.units → StandFor t.cuts t.modules t.forms

-- Calls

module _ (keep : (text : List ℕ) → TreesKeep text) (c : Call) (asked : Asked)
    (one : (a b : Asked) → IsAsked c.words a → IsAsked c.words b → a ≡ b) (is : IsAsked c.words asked) where
  module _ (w : Ready) (p : Passes c.files asked (Ok w)) (text : List ℕ) (wrote : Wrote c text) where
    modules_given : Combinations → IsShortText w asked.job.nodes text → AreModulesOf c asked
    modules_given combined h =
        let ready = ready_for keep c asked w p in
        let stand = combined w.source w.dropped h.has.observed h.has.wanted.value text h.is_text ready.source.kept
        ready.source.units in
        let asked_cut : (set : List ℕ) → Cut w.source.system w.dropped h.has.observed h.has.wanted.value set
        → IsCut w h.has set
        = λ set k. subst (λ (o : Option ℕ). AndUpTo o (Cut w.source.system w.dropped h.has.observed h.has.wanted.value)
        set) (sym h.all) k in
        let some_cut : (set : List ℕ) → IsCut w h.has set
        → Cut w.source.system w.dropped h.has.observed h.has.wanted.value set
        = λ set k. subst (λ (o : Option ℕ). AndUpTo o (Cut w.source.system w.dropped h.has.observed h.has.wanted.value)
        set) h.all k in
        record {
          ready = w;
          passes = p;
          has = h.has;
          text = text;
          wrote = wrote;
          is_text = h.is_text;
          made = λ form choice o k.
              let m = stand.made form choice o k in (
                m.0,
                member_of (IsCut w h.has) h.is_text.cuts m.0
                    (all_listed h.is_text.cuts (λ n set at. asked_cut set (h.is_text.are_listed.sound n set at))) m.1,
                m.2,
              );
          whole = λ set k.
              let o = h.is_text.are_listed.whole set (some_cut set k) in
              (o.0, o.2, o.3, stand.whole o.0 (each_stands (λ s. has h.is_text.cuts s ≡ true) h.is_text.cuts (has_each h.is_text.cuts) o.1.place o.0 o.1.stands));
          one = stand.one;
        }

    conflict_given : lists_cuts asked.job.command ≡ true
        → IsConflictText w.order (naming_of w.source.declarations) w.source.system w.dropped text → IsConflictOf c asked
    conflict_given sought h =
        let ready = ready_for keep c asked w p in
        let static = keyed_static w (ready.fit.0, ready.fit.1 (cuts_to_forest (shape_of asked.job.command).reach sought)) in
        let legal = line_is_legal w.source.system w.dropped static.keyed static.static h.is_line in
        let run = conflict_replays w.source.system w.dropped h.conflicts in
        record {
          ready = w;
          passes = p;
          labels = h.labels;
          fault = h.fault;
          wrote = subst (Wrote c) h.is_text wrote;
          set = h.set;
          is_conflict = h.are_listed.sound zero h.set refl;
          events = legal.events;
          meets = conflict_undropped w.source.system w.dropped h.conflicts;
          moments = run.0;
          runs = run.1;
          fails = run.2;
        }

  pub modules_of : Combinations → asked.job.command ≡ Modules → Gave c status.Done → AreModulesOf c asked
  modules_of combined i gave =
      let m = meaning_of c status.Done gave in
      let same = one m.asked asked m.is_job is in
      let p = subst (λ (j : Asked). Passes c.files j (Ok m.ready)) same m.passes in
      let tells = subst (λ (j : Asked). Tells j m.ready m.text status.Done) same m.tells in
      modules_given m.ready p m.text m.wrote combined
      (short_text asked m.ready (ap is_modules i) m.text status.Done refl tells)

  pub conflict_of : lists_cuts asked.job.command ≡ true → Gave c status.Fault → IsConflictOf c asked
  conflict_of sought gave =
      let m = meaning_of c status.Fault gave in
      let same = one m.asked asked m.is_job is in
      let p = subst (λ (j : Asked). Passes c.files j (Ok m.ready)) same m.passes in
      let tells = subst (λ (j : Asked). Tells j m.ready m.text status.Fault) same m.tells in
      conflict_given m.ready p m.text m.wrote sought (conflict_text asked m.ready sought m.text status.Fault refl tells)
