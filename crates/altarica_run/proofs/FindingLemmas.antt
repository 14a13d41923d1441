-- What a check of a list of cuts that ends well, and an explanation, say of the model.
use Rattle.std.proofs.Common.{◌≡◌, ◌<◌, ◌&&◌, ◌⊎◌, inl, inr, ℕ, Bool, true, false, List, Some, None, Ok, reverse, refl, sym, ◌∙◌, ap, subst}
use Rattle.std.proofs.lemmas.Bool.{cases_order}
use Rattle.ar_base.specs.Lists.{Stands, IsOneOf}
use Rattle.ar_base.proofs.Standing.{along_on, along_back}
use Rattle.ar_firing.specs.Cuts.{AreEvents, Cut}
use Rattle.ar_firing.proofs.OrderedSets.{undropped}
use Rattle.ar_meaning.specs.Flows.{Flows, Total}
use Rattle.ar_meaning.specs.Runs.{Label}
use Rattle.ar_meaning.specs.Systems.{Variable, Net}
use Rattle.ar_meaning.proofs.StatesAlone.{same_flows}
use Rattle.cut_check.specs.Verdicts.{IsMissing}
use Rattle.cut_text.proofs.UpToOrder.{has_it, has_other}
use Rattle.check_text.specs.Texts.{all_good, is_none}
use Rattle.check_text.specs.TextsInside.{EndsYes}
use Rattle.check_text.proofs.YesLemmas.{yes_told, told_yes}
use Rattle.flow_reasons.specs.Reasons.{Reason, IsReason, derived, reset}
use Rattle.flow_reasons.proofs.RoundStanding.{reason_at, no_two, descends}
use Rattle.flow_reasons.proofs.Sufficing.{suffices}
use Rattle.flow_reasons.proofs.RoundTotals.{states_of}
use Rattle.gts_flatten.specs.Flat.{naming_of}
use Rattle.hierarchy.specs.Units.{Thing}
use Rattle.run_words.specs.declared.jobs.Asked.{Asked}
use Rattle.run_words.specs.declared.verbs.Verb.{Verb}
use Rattle.run_words.specs.declared.verbs.Verb.TheVariants.{Check, Flat, Replay, Fragment, Equations, Cuts, Make, Explain, CheckCuts, Modules}
use Rattle.run_words.specs.Jobs.{IsAsked}
use Rattle.altarica_run.specs.Findings.{given_lines, GivesTheCuts, IsMissingIn, IsMissingOrder, ReplaysWhole, IsCheckOf, Suffices, IsExplanation}
use Rattle.altarica_run.specs.Follows.{Call, Gave, Wrote}
use Rattle.job_stages.specs.Stages.{Ready, Passes}
use Rattle.job_stages.specs.Tells.{IsCheckedText, IsExplained, Tells, check, flat, replay, fragment, equations, cuts, make, explains, unsettled, checks, in_short, conflict, nodes}
use Rattle.job_stages.specs.declared.status.Status.{Status}
use Rattle.job_stages.specs.declared.status.Status.TheVariants as status
use Rattle.altarica_run.proofs.ExplainLemmas.{settled_total}
use Rattle.altarica_run.proofs.FollowLemmas.{meaning_of}
use Rattle.altarica_run.proofs.ListingLemmas.{is_done, events_alike, events_within, not_alike, within_both}

abbrev is_checks : Verb → Bool
is_checks CheckCuts = true
is_checks _ = false

abbrev is_explain : Verb → Bool
is_explain Explain = true
is_explain _ = false

-- a job of another command
other_command : {A : Type 0} (test : Verb → Bool) (v u w : Verb) → v ≡ u → test u ≡ false → v ≡ w → test w ≡ true → A
other_command test v u w e i j k = let h : false ≡ true = sym i ∙ ap test (sym e ∙ j) ∙ k in absurd cc

module _ (asked : Asked) (w : Ready) where
  no_check : {A : Type 0} (u : Verb) → asked.job.command ≡ CheckCuts → asked.job.command ≡ u → is_checks u ≡ false → A
  no_check u j e i = other_command is_checks asked.job.command u CheckCuts e i j refl

  no_explain : {A : Type 0} (u : Verb) → asked.job.command ≡ Explain → asked.job.command ≡ u → is_explain u ≡ false → A
  no_explain u j e i = other_command is_explain asked.job.command u Explain e i j refl

  -- a check that ends well has its text
  checked_text : asked.job.command ≡ CheckCuts → (text : List ℕ) (s : Status) → s ≡ status.Done → Tells asked w text s
      → IsCheckedText w asked.job.nodes text
  checked_text j text s d (check e) = no_check Check j e refl
  checked_text j text s d (flat e h) = no_check Flat j e refl
  checked_text j text s d (replay e h) = no_check Replay j e refl
  checked_text j text s d (fragment e h) = no_check Fragment j e refl
  checked_text j text s d (equations e i h) = no_check Equations j e refl
  checked_text j text s d (cuts e h) = no_check Cuts j e refl
  checked_text j text s d (make e h) = no_check Make j e refl
  checked_text j text s d (explains e h) = no_check Explain j e refl
  checked_text j text s d (unsettled e h) = no_check Explain j e refl
  checked_text j text s d (checks e h) = h
  checked_text j text s d (in_short e h) = no_check Modules j e refl
  checked_text j text s d (conflict e h) = let k : false ≡ true = ap is_done d in absurd cc
  checked_text j text s d (nodes e h) = let k : false ≡ true = ap is_done d in absurd cc

  -- so has an explanation
  explained_text : asked.job.command ≡ Explain → (text : List ℕ) (s : Status) → s ≡ status.Done → Tells asked w text s
      → IsExplained w text
  explained_text j text s d (check e) = no_explain Check j e refl
  explained_text j text s d (flat e h) = no_explain Flat j e refl
  explained_text j text s d (replay e h) = no_explain Replay j e refl
  explained_text j text s d (fragment e h) = no_explain Fragment j e refl
  explained_text j text s d (equations e i h) = no_explain Equations j e refl
  explained_text j text s d (cuts e h) = no_explain Cuts j e refl
  explained_text j text s d (make e h) = no_explain Make j e refl
  explained_text j text s d (explains e h) = h
  explained_text j text s d (unsettled e h) = let k : false ≡ true = ap is_done d in absurd cc
  explained_text j text s d (checks e h) = no_explain CheckCuts j e refl
  explained_text j text s d (in_short e h) = no_explain Modules j e refl
  explained_text j text s d (conflict e h) = let k : false ≡ true = ap is_done d in absurd cc
  explained_text j text s d (nodes e h) = let k : false ≡ true = ap is_done d in absurd cc

-- Checks

module _ (c : Call) (asked : Asked) (w : Ready) (passes : Passes c.files asked (Ok w)) (text : List ℕ)
    (h : IsCheckedText w asked.job.nodes text) where
  abbrev sys_missing : List (List ℕ)
  sys_missing = h.is_text.missing

  abbrev missing_orders : List (List Label)
  missing_orders = h.is_text.lines

  abbrev lacks : List ℕ → Type 0
  lacks = IsMissing w.source.system w.dropped h.has.observed h.has.wanted.value (given_lines w)

  abbrev is_cut : List ℕ → Type 0
  is_cut = Cut w.source.system w.dropped h.has.observed h.has.wanted.value

  -- the set of a line
  missing_set : (k : ℕ) (ls : List Label) → Stands missing_orders k ls
      → (set : List ℕ) × Stands sys_missing k set × AreEvents (reverse ls) set
  missing_set k ls s =
      let g = along_back sys_missing missing_orders h.is_text.are_lines k ls s in
      (g.0, g.1, (h.replay k g.0 ls g.1 s).events)

  missing_sound : (k : ℕ) (ls : List Label) → Stands missing_orders k ls → IsMissingOrder w h.has ls
  missing_sound k ls s =
      let g = along_back sys_missing missing_orders h.is_text.are_lines k ls s in
      let m = h.is_text.are_missing.sound k g.0 g.1 in
      record {
        order = record {
          set = g.0;
          is_cut = has_other w.order lacks is_cut (λ t x. x.is_cut) g.0 m;
          replay = h.replay k g.0 ls g.1 s;
        };
        unlisted = (has_it w.order lacks g.0 m).unlisted;
      }

  missing_whole : (set : List ℕ) → IsMissingIn w h.has set
      → (k : ℕ) × (ls : List Label) × Stands missing_orders k ls × AreEvents (reverse ls) set
  missing_whole set is =
      let o = h.is_text.are_missing.whole set is in
      let g = along_on sys_missing missing_orders h.is_text.are_lines o.1.place o.0 o.1.stands in (
        o.1.place,
        g.0,
        g.1,
        events_alike (reverse g.0) o.0 set (h.replay o.1.place o.0 g.0 o.1.stands g.1).events o.3
            o.2,
      )

  two_sets : (j k : ℕ) (ls ms : List Label) (set : List ℕ) → Stands missing_orders j ls → Stands missing_orders k ms
      → AreEvents (reverse ls) set → AreEvents (reverse ms) set → j < k → ⊥
  two_sets j k ls ms set s r a b less =
      let x = missing_set j ls s in
      let y = missing_set k ms r in
      not_alike x.0 y.0 (h.is_text.are_missing.in_order j k x.0 y.0 less x.1 y.1)
      (within_both x.0 set y.0 (events_within (reverse ls) x.0 set x.2 a) (events_within (reverse ms) set y.0 b y.2))

  missing_once : (j k : ℕ) (ls ms : List Label) (set : List ℕ) → Stands missing_orders j ls
      → Stands missing_orders k ms → AreEvents (reverse ls) set → AreEvents (reverse ms) set → j ≡ k
  missing_once j k ls ms set s r a b = go (cases_order j k)
    where
      go : (j ≡ k) ⊎ ((j < k) ⊎ (k < j)) → j ≡ k
      go (inl e) = e
      go (inr (inl less)) = absurd (two_sets j k ls ms set s r a b less)
      go (inr (inr less)) = absurd (two_sets k j ms ls set r s b a less)

  yes_cuts : EndsYes w.order text → GivesTheCuts w h.has
  yes_cuts y =
      yes_told w.order (naming_of w.source.declarations) w.source.system w.dropped h.has.observed h.has.wanted.value w.lines
      text h.is_text y

  cuts_yes : GivesTheCuts w h.has → EndsYes w.order text
  cuts_yes a =
      told_yes w.order (naming_of w.source.declarations) w.source.system w.dropped h.has.observed h.has.wanted.value w.lines
      text h.is_text a

  -- the given lines replay
  given_replay : EndsYes w.order text → (k : ℕ) (ls : List Label) → Stands (given_lines w) k ls → ReplaysWhole w h.has ls
  given_replay y k ls s =
      let t = (yes_cuts y).true_lines k ls s in
      record { values = t.values; reaches = undropped w.source.system w.dropped t.reaches; shows = t.shows }

  check_given : Wrote c text → IsCheckOf c asked
  check_given wrote = record {
    ready = w;
    passes = passes;
    has = h.has;
    text = text;
    wrote = wrote;
    yes = (yes_cuts, cuts_yes);
    replay = given_replay;
    verdicts = h.is_text.said;
    are_said = h.is_text.are_said;
    missing = missing_orders;
    right = all_good h.is_text.said && is_none h.is_text.missing;
    is_text = h.is_text.is_text;
    sound = missing_sound;
    whole = missing_whole;
    once = missing_once;
  }

-- Explanations

module _ (c : Call) (asked : Asked) (w : Ready) (passes : Passes c.files asked (Ok w)) (text : List ℕ)
    (h : IsExplained w text) where
  abbrev net : Net Thing
  net = w.source.system.net

  total_flows : Flows net h.values (Total h.values)
  total_flows =
      settled_total w.source.system (λ u total f. same_flows w.source.system.net (states_of f) f) w.commands h.values
      h.settles

  each_suffices : (r : Reason) → IsOneOf h.is_text.reasons r → Suffices w h.values r
  each_suffices r o =
      let found = reason_at net h.values h.is_text.are_reasons r o in go found.variable found.is
    where
      go : (x : Variable Thing) → IsReason net h.values x r → Suffices w h.values r
      go x (derived d) = λ n a i s. suffices net h.values x r d n a i s
      go x (reset d) = λ n a i s. let k : None ≡ Some n = sym d.by ∙ i in absurd cc

  explanation_given : Wrote c text → IsExplanation c asked
  explanation_given wrote = record {
    ready = w;
    passes = passes;
    values = h.values;
    settles = h.settles;
    flows = total_flows;
    observer = h.observer;
    is_observer = h.is_observer;
    reasons = h.is_text.reasons;
    are_reasons = h.is_text.are_reasons;
    text = text;
    lines = h.is_text.lines;
    wrote = wrote;
    suffices = each_suffices;
    descends =
        λ r s o p rests.
        descends net h.values (no_two total_flows) h.is_text.reasons h.is_text.are_reasons r s o p rests;
  }

-- Calls

module _ (c : Call) (asked : Asked) (one : (a b : Asked) → IsAsked c.words a → IsAsked c.words b → a ≡ b)
    (is : IsAsked c.words asked) (gave : Gave c status.Done) where
  pub check_of : asked.job.command ≡ CheckCuts → IsCheckOf c asked
  check_of e =
      let m = meaning_of c status.Done gave in
      let same = one m.asked asked m.is_job is in
      let passes = subst (λ (j : Asked). Passes c.files j (Ok m.ready)) same m.passes in
      let tells = subst (λ (j : Asked). Tells j m.ready m.text status.Done) same m.tells in
      check_given c asked m.ready passes m.text (checked_text asked m.ready e m.text status.Done refl tells) m.wrote

  pub explanation_of : asked.job.command ≡ Explain → IsExplanation c asked
  explanation_of e =
      let m = meaning_of c status.Done gave in
      let same = one m.asked asked m.is_job is in
      let passes = subst (λ (j : Asked). Passes c.files j (Ok m.ready)) same m.passes in
      let tells = subst (λ (j : Asked). Tells j m.ready m.text status.Done) same m.tells in
      explanation_given c asked m.ready passes m.text (explained_text asked m.ready e m.text status.Done refl tells)
      m.wrote
