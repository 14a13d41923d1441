-- The cuts that a job asks for are of one observer and value, and listed in one way; and where their family itself has
-- more counted sections than the job's limit of nodes, only the line `nodes: N` is told.
use Rattle.std.proofs.Common.{◌≡◌, ◌⊎◌, ℕ, true, false, Option, None, List, zero, inl, inr, refl, sym, ◌∙◌, ap, subst}
use Rattle.ar_base.specs.Lists.{Stands}
use Rattle.ar_base.proofs.Standing.{stands_one}
use Rattle.ar_firing.specs.Cuts.{Cut, ConflictSet, MeetsConflict}
use Rattle.firable_families.specs.Firable.{AndUpTo}
use Rattle.cut_text.proofs.UpToOrder.{has_other}
use Rattle.altarica_run.proofs.NodeLemmas.{free_met}
use Rattle.ar_firing.specs.Listed.{AreListed}
use Rattle.ar_firing.proofs.OneListing.{listed_same}
use Rattle.domains.specs.declared.Value.{Value}
use Rattle.hierarchy.specs.Units.{Thing}
use Rattle.job_inputs.specs.declared.wanting.Wanted.{Wanted}
use Rattle.run_words.specs.declared.jobs.Asked.{Asked}
use Rattle.run_words.specs.declared.verbs.Verb.{Verb}
use Rattle.run_words.specs.declared.verbs.Verb.TheVariants as verb
use Rattle.typed_expr.specs.declared.expr.Expr.{Expr}
use Rattle.zdd_nodes.specs.Sections.{IsCounted, IsMoreThan}
use Rattle.altarica_run.specs.Follows.{Call, Wrote}
use Rattle.job_stages.specs.Stages.{Ready, lists_cuts}
use Rattle.job_stages.specs.Tells.{HasCuts, Tells, nodes_line, check, flat, replay, fragment, equations, cuts, make, checks, in_short, explains, unsettled, conflict, nodes}
use Rattle.job_stages.specs.declared.status.Status.{Status}
use Rattle.job_stages.specs.declared.status.Status.TheVariants as status
use Rattle.job_laws.specs.Told.{IsStopped, IsAnswered}
use Rattle.job_laws.proofs.Asking.{same_some}

-- One listing

module _ (w : Ready) where
  -- the observer and the value that are asked for
  record AreAsked (a b : HasCuts w) : Type 0 where
    observed : b.observed ≡ a.observed
    value : b.wanted.value ≡ a.wanted.value

  asked_one : (a b : HasCuts w) → AreAsked a b
  asked_one a b =
      let same : b.wanted ≡ a.wanted = same_some w.wanted b.wanted a.wanted b.are_wanted a.are_wanted in
      let there = subst (λ (z : Wanted). Stands w.source.system.observers z.observer b.observed) same b.is_observed in
      record {
        observed = stands_one w.source.system.observers a.wanted.observer b.observed a.observed there a.is_observed;
        value = ap (λ (z : Wanted). z.value) same;
      }

  -- what holds of the observer and the value of one holds of those of the other
  pub as_asked : (P : Expr Thing → Value → Type 0) (a b : HasCuts w) → P b.observed b.wanted.value
      → P a.observed a.wanted.value
  as_asked P a b h =
      let e = asked_one a b in
      subst (P a.observed) e.value (subst (λ (z : Expr Thing). P z b.wanted.value) e.observed h)

  -- the list has the cuts, and no other set
  abbrev pub AreCuts : HasCuts w → List (List ℕ) → Type 0
  AreCuts a = AreListed (AndUpTo w.order (Cut w.source.system w.dropped a.observed a.wanted.value))

  pub listing_one : (a b : HasCuts w) (xs ys : List (List ℕ)) → AreCuts a xs → AreCuts b ys → xs ≡ ys
  listing_one a b xs ys h k =
      listed_same xs ys (AndUpTo w.order (Cut w.source.system w.dropped a.observed a.wanted.value)) h
      (as_asked (λ o v. AreListed (AndUpTo w.order (Cut w.source.system w.dropped o v)) ys) a b k)

  -- where all cuts are asked for, all are listed
  pub all_asked : w.order ≡ None → (a : HasCuts w) (xs : List (List ℕ))
      → AreListed (Cut w.source.system w.dropped a.observed a.wanted.value) xs → AreCuts a xs
  all_asked all a xs h =
      subst (λ (o : Option ℕ). AreListed (AndUpTo o (Cut w.source.system w.dropped a.observed a.wanted.value)) xs)
      (sym all) h

-- Too many cuts

module _ (asked : Asked) (w : Ready) (lists : lists_cuts asked.job.command ≡ true) (has : HasCuts w) (sets : List (List ℕ))
    (are : AreCuts w has sets) (many : IsMoreThan asked.job.nodes (IsCounted sets)) where
  -- the command is no other than one that tells of cuts
  other : {A : Type 0} (v : Verb) → asked.job.command ≡ v → lists_cuts v ≡ false → A
  other v e k = let h : false ≡ true = sym k ∙ ap lists_cuts (sym e) ∙ lists in absurd cc

  -- and no list of its cuts is of few sections
  not_few : {A : Type 0} (a : HasCuts w) (xs : List (List ℕ)) → AreCuts w a xs
      → (IsMoreThan asked.job.nodes (IsCounted xs) → ⊥) → A
  not_few a xs h few =
      absurd (few (subst (λ (z : List (List ℕ)). IsMoreThan asked.job.nodes (IsCounted z))
      (listing_one w has a sets xs are h) many))

  nodes_told : (text : List ℕ) (s : Status) → Tells asked w text s → (s ≡ status.Nodes) × (text ≡ nodes_line asked.job.nodes)
  nodes_told text s (check e) = other verb.Check e refl
  nodes_told text s (flat e h) = other verb.Flat e refl
  nodes_told text s (replay e h) = other verb.Replay e refl
  nodes_told text s (fragment e h) = other verb.Fragment e refl
  nodes_told text s (equations e i h) = other verb.Equations e refl
  nodes_told text s (cuts e h) = not_few h.has h.is_text.sets h.is_text.are_listed h.few
  nodes_told text s (make e h) = not_few h.has h.sets (all_asked w h.all h.has h.sets h.are_listed) h.few
  nodes_told text s (checks e h) = not_few h.has h.sets h.are_listed h.few
  nodes_told text s (in_short e h) =
      not_few h.has h.is_text.cuts (all_asked w h.all h.has h.is_text.cuts h.is_text.are_listed) h.few
  nodes_told text s (explains e h) = other verb.Explain e refl
  nodes_told text s (unsettled e h) = other verb.Explain e refl
  nodes_told text s (conflict e h) =
      absurd (free_met w has.conflict_free h.set
      (has_other w.order (ConflictSet w.source.system w.dropped) (MeetsConflict w.source.system w.dropped)
      (λ t c. c.has) h.set (h.are_listed.sound zero h.set refl)))
  nodes_told text s (nodes e h) = (refl, refl)

  pub nodes_or_stopped : (c : Call) (s : Status) → IsAnswered c asked w s ⊎ IsStopped c s
      → ((s ≡ status.Nodes) × Wrote c (nodes_line asked.job.nodes)) ⊎ IsStopped c s
  nodes_or_stopped c s (inl a) =
      let h = nodes_told a.text s a.tells in inl (h.0, subst (λ (z : List ℕ). Wrote c z) h.1 a.wrote)
  nodes_or_stopped c s (inr h) = inr h
