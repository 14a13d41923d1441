-- What a job tells, a job that stands ready alike tells too, word for word.
use Rattle.std.proofs.Common.{◌≡◌, ℕ, List, Option, Some, None, length, refl, sym, ◌∙◌, ap, subst}
use Rattle.domains.specs.declared.Value.{Value}
use Rattle.typed_expr.specs.PairsInside.{turned_pairs}
use Rattle.typed_expr.specs.declared.expr.Expr.{Expr}
use Rattle.typed_expr.proofs.Renaming.{carries}
use Rattle.ar_meaning.specs.Facts.{HasValue}
use Rattle.ar_meaning.specs.Image.{Expr_renames}
use Rattle.ar_meaning.specs.ImageInside.{IsImage}
use Rattle.ar_meaning.specs.Runs.{Label, Command}
use Rattle.ar_meaning.specs.Systems.{System}
use Rattle.ar_meaning.specs.TraceText.{Naming}
use Rattle.ar_meaning.proofs.ImageFlows.{Partner, partner, value_there}
use Rattle.ar_meaning.proofs.ImageTurned.{image_turned}
use Rattle.ar_firing.specs.Cuts.{Cut, ConflictSet, IsConflictFreeUpTo}
use Rattle.ar_base.proofs.Sets.{within_self}
use Rattle.ar_firing.proofs.SmallSets.{free_within, told_free}
use Rattle.cut_text.proofs.UpToOrder.{has_other}
use Rattle.ar_firing.proofs.ImageCuts.{meets_there, reaches_there, cut_there, cut_back, conflict_set_there}
use Rattle.ar_firing.proofs.ImageModes.{firable_there}
use Rattle.ar_firing.proofs.OneListing.{listed_as}
use Rattle.hierarchy.specs.Listing.{variables, events, observers}
use Rattle.hierarchy.specs.Units.{UnitPath, Thing}
use Rattle.gts_flatten.specs.Elaborating.{Elaborated}
use Rattle.gts_flatten.specs.Flat.{naming_of}
use Rattle.job_inputs.specs.CutLists.{CutLine}
use Rattle.job_inputs.specs.declared.wanting.Wanted.{Wanted}
use Rattle.min_cuts.specs.Sizes.{count, largest}
use Rattle.reason_text.specs.Texts.{IsReasonText}
use Rattle.replayer.specs.Replays.{IsReplay}
use Rattle.replayer.specs.Settles.{IsFaultLine}
use Rattle.run_words.specs.declared.jobs.Asked.{Asked}
use Rattle.table_text.specs.Texts.{IsTableText}
use Rattle.job_stages.specs.Stages.{Ready}
use Rattle.job_stages.specs.Tells.{counts_line, check_text, IsFlatText, HasCuts, Replays, IsCutsText, IsCheckedText, IsShortText, IsObserverOf, IsExplained, make_lines, IsMakeText, IsFirableSet, MayNeedMore, Tells}
use Rattle.job_stages.specs.Tells as told
use Rattle.job_stages.specs.declared.status.Status.{Status}
use Rattle.job_stages.specs.declared.status.Status.TheVariants.{Done}
use Rattle.source_laws.specs.Declarations.{IsSameThing}
use Rattle.source_laws.specs.Sources.{SameSource}
use Rattle.job_laws.specs.Ready.{SameReady}
use Rattle.job_laws.proofs.ReadyDemanding.{table_of_there}
use Rattle.job_laws.proofs.Families.{forest_text_there, conflict_text_there, cut_text_there, check_text_there}
use Rattle.job_laws.proofs.ReadyFlats.{flat_parts_there}
use Rattle.job_laws.proofs.ReadyModules.{module_text_there}
use Rattle.job_laws.proofs.Runs.{SameObserver, replay_there, settles_there, fault_there, reasons_text_there}
use Rattle.job_laws.proofs.Shared.{Share}
use Rattle.job_laws.proofs.Turned.{source_back}

-- the same of another source
abbrev pub moved : Ready → Elaborated → Ready
moved w y = record w { source = y }

-- a job that stands ready alike is the same of its own source
pub is_moved : (w v : Ready) → SameReady w v → moved w v.source ≡ v
is_moved w v s =
    go v.source w.commands v.commands w.lines v.lines w.dropped v.dropped w.wanted v.wanted w.shown v.shown w.order v.order s.commands
    s.lines s.dropped s.wanted s.shown s.order
  where
    go : (x : Elaborated) (c d : List Command) (k l : List CutLine) (m n : List ℕ) (o p : Option Wanted)
        (q r a b : Option ℕ) → c ≡ d → k ≡ l → m ≡ n → o ≡ p → q ≡ r → a ≡ b
        → ◌≡◌ {A = Ready} (record { source = x; commands = c; lines = k; dropped = m; wanted = o; shown = q; order = a })
        (record { source = x; commands = d; lines = l; dropped = n; wanted = p; shown = r; order = b })
    go x c d k l m n o p q r a b e f g h i j = cc

-- an order replays over an image
replays_there : {V W : Type 0} (same : V → W → Type 0) (here : System V) (there : System W) → IsImage same here there
    → (observer : Expr V) (other : Expr W) → Expr_renames same observer other → (wanted : Value) (set : List ℕ)
    (ls : List Label) → Replays here observer wanted set ls → Replays there other wanted set ls
replays_there {V} {W} same here there image observer other q wanted set ls h = record {
  events = h.events;
  values = h.values;
  reaches = reaches_there same here there image _ h.reaches;
  shows =
      carries V W (HasValue here.net h.values) (HasValue there.net h.values) same
      (λ x y v s k. value_there same here.net there.net image.net h.values x y v s k) h.shows q.renames;
}

module _ (shared : (x y : Elaborated) → SameSource x y → Share x y) (w : Ready) (y : Elaborated)
    (same : SameSource w.source y) where
  abbrev x : Elaborated
  x = w.source

  abbrev there : Share x y
  there = shared x y same

  abbrev back : Share y x
  back = shared y x (source_back x y same)

  abbrev image : IsImage IsSameThing x.system y.system
  image = same.system

  abbrev behind : IsImage (turned_pairs IsSameThing) y.system x.system
  behind = image_turned IsSameThing image

  -- Counts and flat systems

  check_same : check_text x.declarations ≡ check_text y.declarations
  check_same =
      let d = x.declarations in
      let e = y.declarations in
      let i = ap (λ (z : List UnitPath). length z) there.units in
      let j = ap (λ (z : List Thing). length z) there.variables in
      let k = ap (λ (z : List Thing). length z) there.events in
      let l = ap (λ (z : List Thing). length z) there.observers in
      ap (λ (n : ℕ). counts_line n (length (variables d.model d.units)) (length (events d.model d.units))
      (length (observers d.model d.units))) i
      ∙ ap (λ (n : ℕ). counts_line (length e.units) n (length (events d.model d.units))
      (length (observers d.model d.units))) j
      ∙ ap (λ (n : ℕ). counts_line (length e.units) (length (variables e.model e.units)) n
      (length (observers d.model d.units))) k
      ∙ ap (counts_line (length e.units) (length (variables e.model e.units)) (length (events e.model e.units))) l

  flat_text_there : (text : List ℕ) → IsFlatText x text → IsFlatText y text
  flat_text_there text h = record {
    parts = h.parts;
    is_sound = h.is_sound;
    is_flat = flat_parts_there x y there h.parts h.is_flat;
    is_text = h.is_text;
  }

  -- Explanations

  observer_at : (n : Option ℕ) (o : Option (Expr Thing)) → IsObserverOf x.system n o
      → (p : Option (Expr Thing)) × IsObserverOf y.system n p × SameObserver IsSameThing o p
  observer_at None o h = (None, refl, subst (λ (z : Option (Expr Thing)). SameObserver IsSameThing z None) (sym h) tt)
  observer_at (Some n) o h =
      let p = partner image.observers n h.0 h.2 in (
        Some p.item,
        (p.item, refl, p.stands),
        subst (λ (z : Option (Expr Thing)). SameObserver IsSameThing z (Some p.item)) (sym h.1) p.related,
      )

  explained_there : (text : List ℕ) → IsExplained w text → IsExplained (moved w y) text
  explained_there text h =
      let o = observer_at w.shown h.observer h.is_observer in
      record {
        values = h.values;
        settles = settles_there IsSameThing x.system y.system image (naming_of x.declarations) w.commands h.values
            h.settles;
        observer = o.0;
        is_observer = o.1;
        is_text = subst (λ (z : Naming). IsReasonText z y.system.net h.values o.0 text) there.naming
            (reasons_text_there IsSameThing x.system y.system image (naming_of x.declarations) h.values h.observer o.0
            o.2 text h.is_text);
      }

  -- Cuts

  pub free_there : (order : Option ℕ) (dropped : List ℕ) → IsConflictFreeUpTo order x.system dropped
      → IsConflictFreeUpTo order y.system dropped
  free_there order dropped free = told_free order y.system dropped (λ s u m.
      free_within order x.system dropped free s u s (within_self s)
      (meets_there (turned_pairs IsSameThing) y.system x.system behind dropped m))

  abbrev other : (h : HasCuts w) → Partner (Expr_renames IsSameThing) y.system.observers h.wanted.observer h.observed
  other h = partner image.observers h.wanted.observer h.observed h.is_observed

  abbrev has_there : HasCuts w → HasCuts (moved w y)
  has_there h = record {
    wanted = h.wanted;
    are_wanted = h.are_wanted;
    observed = (other h).item;
    is_observed = (other h).stands;
    conflict_free = free_there w.order w.dropped h.conflict_free;
  }

  replays_at : (h : HasCuts w) (set : List ℕ) (ls : List Label) → Replays x.system h.observed h.wanted.value set ls
      → Replays y.system (other h).item h.wanted.value set ls
  replays_at h set ls r =
      replays_there IsSameThing x.system y.system image h.observed (other h).item (other h).related h.wanted.value set
      ls r

  cuts_text_there : (limit : ℕ) (text : List ℕ) → IsCutsText w limit text → IsCutsText (moved w y) limit text
  cuts_text_there limit text h = record {
    has = has_there h.has;
    is_text = cut_text_there IsSameThing x.system y.system image (naming_of x.declarations) (naming_of y.declarations)
        there.naming w.dropped h.has.observed (other h.has).item (other h.has).related h.has.wanted.value w.order
        text h.is_text;
    few = h.few;
    replay = λ k set ls s l. replays_at h.has set ls (h.replay k set ls s l);
  }

  checked_there : (limit : ℕ) (text : List ℕ) → IsCheckedText w limit text → IsCheckedText (moved w y) limit text
  checked_there limit text h = record {
    has = has_there h.has;
    is_text = check_text_there IsSameThing x.system y.system image (naming_of x.declarations)
        (naming_of y.declarations) there.naming w.dropped h.has.observed (other h.has).item (other h.has).related
        h.has.wanted.value w.order w.lines text h.is_text;
    replay = λ k set ls s l. replays_at h.has set ls (h.replay k set ls s l);
    sets = h.sets;
    are_listed = listed_as
        (has_other w.order (Cut x.system w.dropped h.has.observed h.has.wanted.value)
        (Cut y.system w.dropped (other h.has).item h.has.wanted.value)
        (λ s c. cut_there IsSameThing x.system y.system image w.dropped h.has.observed (other h.has).item
        (other h.has).related h.has.wanted.value s c))
        (has_other w.order (Cut y.system w.dropped (other h.has).item h.has.wanted.value)
        (Cut x.system w.dropped h.has.observed h.has.wanted.value)
        (λ s c. cut_back IsSameThing x.system y.system image w.dropped h.has.observed (other h.has).item
        (other h.has).related h.has.wanted.value s c)) h.are_listed;
    few = h.few;
  }

  short_there : (limit : ℕ) (text : List ℕ) → IsShortText w limit text → IsShortText (moved w y) limit text
  short_there limit text h = record {
    all = h.all;
    has = has_there h.has;
    is_text = module_text_there x y there back w.dropped h.has.observed (other h.has).item (other h.has).related
        h.has.wanted.value text h.is_text;
    few = h.few;
  }

  make_there : (number limit : ℕ) (text : List ℕ) → IsMakeText w number limit text
      → IsMakeText (moved w y) number limit text
  make_there number limit text h = record {
    all = h.all;
    has = has_there h.has;
    sets = h.sets;
    are_listed = listed_as
        (λ s c. cut_there IsSameThing x.system y.system image w.dropped h.has.observed (other h.has).item
        (other h.has).related h.has.wanted.value s c)
        (λ s c. cut_back IsSameThing x.system y.system image w.dropped h.has.observed (other h.has).item
        (other h.has).related h.has.wanted.value s c) h.are_listed;
    is_text = h.is_text
        ∙ ap (λ (z : List UnitPath). make_lines number (length z)
        (length (events x.declarations.model x.declarations.units)) (count h.sets) (largest h.sets)) there.units
        ∙ ap (λ (z : List Thing). make_lines number (length y.declarations.units) (length z) (count h.sets)
        (largest h.sets)) there.events;
    few = h.few;
  }

  -- Nodes

  pub needs_more_there : (limit : ℕ) → MayNeedMore w limit → MayNeedMore (moved w y) limit
  needs_more_there limit h = record {
    wanted = h.wanted;
    are_wanted = h.are_wanted;
    table = h.table;
    is_table = table_of_there x y there w.dropped h.wanted h.table h.is_table;
    firable = h.firable;
    are_firable = listed_as
        (has_other w.order (IsFirableSet x.system w.dropped) (IsFirableSet y.system w.dropped)
        (λ s f. (f.0, firable_there IsSameThing x.system y.system image w.dropped f.1)))
        (has_other w.order (IsFirableSet y.system w.dropped) (IsFirableSet x.system w.dropped)
        (λ s f. (f.0, firable_there (turned_pairs IsSameThing) y.system x.system behind w.dropped f.1))) h.are_firable;
    where_conflict = λ set c.
        h.where_conflict set (has_other w.order (ConflictSet y.system w.dropped) (ConflictSet x.system w.dropped)
        (λ s d. conflict_set_there (turned_pairs IsSameThing) y.system x.system behind w.dropped s d) set c);
    where_free = λ free.
        h.where_free (told_free w.order x.system w.dropped (λ s u m.
        free_within w.order y.system w.dropped free s u s (within_self s)
        (meets_there IsSameThing x.system y.system image w.dropped m)));
  }

  -- All commands

  table_text_there : (wanted : Wanted) (text : List ℕ)
      → IsTableText (variables x.declarations.model x.declarations.units) (naming_of x.declarations) x.system w.dropped
      wanted.observer wanted.value text
      → IsTableText (variables y.declarations.model y.declarations.units) (naming_of y.declarations) y.system w.dropped
      wanted.observer wanted.value text
  table_text_there wanted text h = subst
      (λ (z : Naming). IsTableText (variables y.declarations.model y.declarations.units) z y.system w.dropped
      wanted.observer wanted.value text)
      there.naming
      (record {
        table = h.table;
        is_table = table_of_there x y there w.dropped wanted h.table h.is_table;
        is_text = h.is_text;
      })

  pub tells_there : (asked : Asked) (text : List ℕ) (ends : Status) → Tells asked w text ends
      → Tells asked (moved w y) text ends
  tells_there asked _ _ (told.check e) =
      subst (λ (z : List ℕ). Tells asked (moved w y) z Done) (sym check_same) (told.check e)
  tells_there asked text _ (told.flat e h) = told.flat e (flat_text_there text h)
  tells_there asked text _ (told.replay {ends = last} e h) =
      told.replay e
      (subst (λ (z : Naming). IsReplay z y.system w.commands text last) there.naming
      (replay_there IsSameThing x.system y.system image (naming_of x.declarations) w.commands text last h))
  tells_there asked text _ (told.fragment e h) =
      told.fragment e
      (forest_text_there IsSameThing x.system y.system image (naming_of x.declarations) (naming_of y.declarations)
      there.naming w.dropped text h)
  tells_there asked text _ (told.equations {wanted = a} e i h) = told.equations e i (table_text_there a text h)
  tells_there asked text _ (told.cuts e h) = told.cuts e (cuts_text_there asked.job.nodes text h)
  tells_there asked text _ (told.make e h) = told.make e (make_there asked.job.number asked.job.nodes text h)
  tells_there asked text _ (told.checks e h) = told.checks e (checked_there asked.job.nodes text h)
  tells_there asked text _ (told.in_short e h) = told.in_short e (short_there asked.job.nodes text h)
  tells_there asked text _ (told.explains e h) = told.explains e (explained_there text h)
  tells_there asked text _ (told.unsettled e h) =
      told.unsettled e
      (subst (λ (z : Naming). IsFaultLine z y.system w.commands text) there.naming
      (fault_there IsSameThing x.system y.system image (naming_of x.declarations) w.commands text h))
  tells_there asked text _ (told.conflict e h) =
      told.conflict e
      (conflict_text_there IsSameThing x.system y.system image (naming_of x.declarations) (naming_of y.declarations)
      there.naming w.dropped w.order text h)
  tells_there asked _ _ (told.nodes e h) = told.nodes e (needs_more_there asked.job.nodes h)

-- Jobs that stand ready alike

module _ (shared : (x y : Elaborated) → SameSource x y → Share x y) (w v : Ready) (same : SameReady w v) where
  pub alike_tells : (asked : Asked) (text : List ℕ) (ends : Status) → Tells asked w text ends → Tells asked v text ends
  alike_tells asked text ends h =
      subst (λ (z : Ready). Tells asked z text ends) (is_moved w v same)
      (tells_there shared w v.source same.source asked text ends h)

  pub alike_needs : (limit : ℕ) → MayNeedMore w limit → MayNeedMore v limit
  alike_needs limit h =
      subst (λ (z : Ready). MayNeedMore z limit) (is_moved w v same)
      (needs_more_there shared w v.source same.source limit h)

  pub alike_free : IsConflictFreeUpTo w.order w.source.system w.dropped
      → IsConflictFreeUpTo v.order v.source.system v.dropped
  alike_free h =
      subst (λ (z : Ready). IsConflictFreeUpTo z.order z.source.system z.dropped) (is_moved w v same)
      (free_there shared w v.source same.source w.order w.dropped h)
