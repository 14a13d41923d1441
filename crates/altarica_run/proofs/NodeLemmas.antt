-- Limits of nodes.
use Rattle.std.proofs.Common.{◌≡◌, ◌≤◌, ◌+◌, ◌⊎◌, inl, inr, ℕ, zero, suc, true, false, List, [], ◌∷◌, Ok, take, refl, sym, ◌∙◌, ap, subst, arith}
use Rattle.std.proofs.lemmas.List.{length-take-le}
use Rattle.std.proofs.lemmas.List.Elements.{All-take}
use Rattle.ar_base.specs.Lists.{Stands}
use Rattle.ar_base.proofs.Sets.{within_self}
use Rattle.ar_firing.specs.Cuts.{ConflictSet, IsConflictFreeUpTo, MeetsConflict}
use Rattle.ar_firing.proofs.SmallSets.{free_within}
use Rattle.cut_text.proofs.UpToOrder.{has_it, is_small, has_other}
use Rattle.firable_families.specs.Firable.{AndUpTo}
use Rattle.cut_text.specs.Texts.{IsConflictText}
use Rattle.gts_flatten.specs.Flat.{naming_of}
use Rattle.run_words.specs.declared.jobs.Asked.{Asked}
use Rattle.run_words.specs.declared.verbs.Verb.{Verb}
use Rattle.run_words.specs.declared.verbs.Verb.TheVariants.{Check, Flat, Replay, Fragment, Equations, Cuts, Make, Explain, CheckCuts, Modules}
use Rattle.run_words.specs.Jobs.{IsAsked}
use Rattle.zdd_nodes.specs.Families.{Family}
use Rattle.zdd_nodes.specs.Sections.{IsMoreThan}
use Rattle.altarica_run.specs.Follows.{Call, Gave, SinkRose}
use Rattle.altarica_run.specs.Nodes.{HasConflict, HasEnough, IsTextOfCuts, OfAllReady}
use Rattle.job_stages.specs.Stages.{Ready, Passes, lists_cuts}
use Rattle.altarica_run.specs.Statuses.{IsWholeTold, IsRefused, IsNotRead, Meaning_of}
use Rattle.job_stages.specs.Tells.{MayNeedMore, Tells, check, flat, replay, fragment, equations, cuts, make, explains, unsettled, checks, in_short, conflict, nodes}
use Rattle.job_stages.specs.declared.status.Status.{Status}
use Rattle.job_stages.specs.declared.status.Status.TheVariants as status
use Rattle.altarica_run.proofs.FollowLemmas.{meaning_of}

-- Smaller limits

taken_stands : {A : Type 0} (k : ℕ) (xs : List A) (n : ℕ) (a : A) → Stands (take k xs) n a → Stands xs n a
taken_stands zero xs n a h = absurd (none_stands n a h)
  where
    none_stands : {A : Type 0} (n : ℕ) (a : A) → Stands [] n a → ⊥
    none_stands zero a h = cc
    none_stands (suc n) a h = cc
taken_stands (suc k) [] n a h = h
taken_stands (suc k) (x ∷ xs) zero a h = h
taken_stands (suc k) (x ∷ xs) (suc n) a h = taken_stands k xs n a h

-- more than a number are more than any smaller one
fewer : (P : Family → Type 0) (less more : ℕ) → less ≤ more → IsMoreThan more P → IsMoreThan less P
fewer P less more le h = record {
  members = take (less + 1) h.members;
  different = record {
    one = λ m n a s t. h.different.one m n a (taken_stands (less + 1) h.members m a s)
        (taken_stands (less + 1) h.members n a t);
  };
  all = All-take P (less + 1) h.members h.all;
  count = length-take-le (less + 1) h.members (let c = h.count in omega (arith, c, le));
}

pub smaller_limit : (w : Ready) (less more : ℕ) → less ≤ more → MayNeedMore w more → MayNeedMore w less
smaller_limit w less more le h = record {
  wanted = h.wanted;
  are_wanted = h.are_wanted;
  table = h.table;
  is_table = h.is_table;
  firable = h.firable;
  are_firable = h.are_firable;
  where_conflict = λ set c. fewer _ less more le (h.where_conflict set c);
  where_free = λ free. fewer _ less more le (h.where_free free);
}

-- Enough nodes

-- where no set of at most as many events as are asked for meets a conflict, this one does not
pub free_met : (w : Ready) → IsConflictFreeUpTo w.order w.source.system w.dropped → (set : List ℕ)
    → AndUpTo w.order (MeetsConflict w.source.system w.dropped) set → ⊥
free_met w free set met =
    free_within w.order w.source.system w.dropped free set
    (is_small w.order (MeetsConflict w.source.system w.dropped) set met) set (within_self set)
    (has_it w.order (MeetsConflict w.source.system w.dropped) set met)

-- the command is none that tells of cuts
not_listing : {A : Type 0} (v u : Verb) → v ≡ u → lists_cuts v ≡ true → lists_cuts u ≡ false → A
not_listing v u i e k = let h : false ≡ true = sym k ∙ ap lists_cuts (sym i) ∙ e in absurd cc

module _ (asked : Asked) (w : Ready) (lists : lists_cuts asked.job.command ≡ true) (enough : MayNeedMore w asked.job.nodes → ⊥) where
  abbrev IsConflict : List ℕ → Type 0
  IsConflict text = IsConflictText w.order (naming_of w.source.declarations) w.source.system w.dropped text

  pub conflict_told : HasConflict w → (text : List ℕ) (s : Status) → Tells asked w text s
      → (s ≡ status.Fault) × IsConflict text
  conflict_told met text s (check e) = not_listing asked.job.command Check e lists refl
  conflict_told met text s (flat e h) = not_listing asked.job.command Flat e lists refl
  conflict_told met text s (replay e h) = not_listing asked.job.command Replay e lists refl
  conflict_told met text s (fragment e h) = not_listing asked.job.command Fragment e lists refl
  conflict_told met text s (equations e i h) = not_listing asked.job.command Equations e lists refl
  conflict_told met text s (cuts e h) = absurd (free_met w h.has.conflict_free met.0 met.1)
  conflict_told met text s (make e h) = absurd (free_met w h.has.conflict_free met.0 met.1)
  conflict_told met text s (explains e h) = not_listing asked.job.command Explain e lists refl
  conflict_told met text s (unsettled e h) = not_listing asked.job.command Explain e lists refl
  conflict_told met text s (checks e h) = absurd (free_met w h.has.conflict_free met.0 met.1)
  conflict_told met text s (in_short e h) = absurd (free_met w h.has.conflict_free met.0 met.1)
  conflict_told met text s (conflict e h) = (refl, h)
  conflict_told met text s (nodes e h) = absurd (enough h)

  of_command : (v : Verb) (text : List ℕ) → asked.job.command ≡ v → IsTextOfCuts v asked w text
      → IsTextOfCuts asked.job.command asked w text
  of_command v text e h = subst (λ (u : Verb). IsTextOfCuts u asked w text) (sym e) h

  pub cuts_told : IsConflictFreeUpTo w.order w.source.system w.dropped → (text : List ℕ) (s : Status) → Tells asked w text s
      → (s ≡ status.Done) × IsTextOfCuts asked.job.command asked w text
  cuts_told free text s (check e) = not_listing asked.job.command Check e lists refl
  cuts_told free text s (flat e h) = not_listing asked.job.command Flat e lists refl
  cuts_told free text s (replay e h) = not_listing asked.job.command Replay e lists refl
  cuts_told free text s (fragment e h) = not_listing asked.job.command Fragment e lists refl
  cuts_told free text s (equations e i h) = not_listing asked.job.command Equations e lists refl
  cuts_told free text s (cuts e h) = (refl, of_command Cuts text e h)
  cuts_told free text s (make e h) = (refl, of_command Make text e h)
  cuts_told free text s (explains e h) = not_listing asked.job.command Explain e lists refl
  cuts_told free text s (unsettled e h) = not_listing asked.job.command Explain e lists refl
  cuts_told free text s (checks e h) = (refl, of_command CheckCuts text e h)
  cuts_told free text s (in_short e h) = (refl, of_command Modules text e h)
  cuts_told free text s (conflict e h) =
      let first = h.are_listed.sound zero h.set refl in
      absurd (free_met w free h.set
      (has_other w.order (ConflictSet w.source.system w.dropped) (MeetsConflict w.source.system w.dropped)
      (λ s least. least.has) h.set first))
  cuts_told free text s (nodes e h) = absurd (enough h)

-- Calls

module _ (c : Call) (asked : Asked) (one : (a b : Asked) → IsAsked c.words a → IsAsked c.words b → a ≡ b)
    (is : IsAsked c.words asked) where
  abbrev Other : Status → Type 0
  Other s = IsRefused c s ⊎ (IsNotRead c ⊎ (SinkRose c ⊎ (s ≡ status.Memory)))

  -- where what is told of the job ends so, the call ends so, or otherwise than with a text of the job
  ends_so : (end s : Status)
      → ((w : Ready) → Passes c.files asked (Ok w) → (text : List ℕ) (u : Status) → Tells asked w text u → u ≡ end)
      → Meaning_of c s → (s ≡ end) ⊎ Other s
  ends_so end s all m = go s m
    where
      told : (u : Status) → IsWholeTold c u → (u ≡ end) ⊎ Other u
      told u t =
          let same = one t.asked asked t.is_job is in
          inl (all t.ready (subst (λ (j : Asked). Passes c.files j (Ok t.ready)) same t.passes) t.text u
          (subst (λ (j : Asked). Tells j t.ready t.text u) same t.tells))

      go : (u : Status) → Meaning_of c u → (u ≡ end) ⊎ Other u
      go status.Done m = told status.Done m
      go status.Usage m = absurd (m.0 asked is)
      go status.Syntax m = inr (inl m)
      go status.Rule m = inr (inl m)
      go status.Outside m = inr (inl m)
      go status.Fault m = told status.Fault m
      go status.Nodes m = told status.Nodes m
      go status.Read m = inr (inr (inl m))
      go status.Write m = inr (inr (inr (inl m)))
      go status.Memory m = inr (inr (inr (inr refl)))
      go status.Size m = inr (inl m)
      go status.Script m = inr (inl m)

  module _ (lists : lists_cuts asked.job.command ≡ true) (enough : HasEnough c asked) where
    pub conflict_given : OfAllReady c asked HasConflict → (s : Status) → Gave c s → (s ≡ status.Fault) ⊎ Other s
    conflict_given met s g =
        ends_so status.Fault s
        (λ w p text u t. (conflict_told asked w lists (enough w p) (met w p) text u t).0) (meaning_of c s g)

    pub cuts_given : OfAllReady c asked (λ w. IsConflictFreeUpTo w.order w.source.system w.dropped) → (s : Status) → Gave c s
        → (s ≡ status.Done) ⊎ Other s
    cuts_given free s g =
        ends_so status.Done s (λ w p text u t. (cuts_told asked w lists (enough w p) (free w p) text u t).0)
        (meaning_of c s g)
