-- Where no event is reached from itself, each has ways.
use Rattle.std.proofs.Common.{◌≡◌, ℕ, zero, suc, ◌+◌, ◌<◌, ◌≤◌, List, [], ◌∷◌, length, refl, sym, subst, inl, inr, arith}
use Rattle.ar_base.specs.Breach.{AreKept}
use Rattle.ar_base.specs.Lists.{IsOneOf}
use Rattle.ar_base.proofs.Standing.{stands_some, stands_within, one_none, one_cases}
use Rattle.ar_base.proofs.Few.{AllDiffer, nothing, new, few}
use Rattle.ar_meaning.specs.Systems.{Tree, Transition}
use Rattle.ar_meaning.specs.Expand.{ReachesPart, part_of, Ways, event}
use Rattle.gts_core.specs.Bound.{declared_from}
use Rattle.gts_core.specs.declared.bound.DeclaredEvent.{DeclaredEvent}
use Rattle.sync_expand.specs.Expanding.{AreExpandable, AreWays, BreaksNumberedWayRule}
use Rattle.sync_expand.specs.Counting.{way_rules}
use Rattle.sync_expand.proofs.DeclaredLemmas.{declared_stands, declared_back, declared_key, part_named}
use Rattle.sync_expand.proofs.Reaching.{reaches_on}
use Rattle.sync_expand.proofs.RuleLemmas.{never_itself}
use Rattle.sync_expand.proofs.WaysLemmas.{HasWays, members_give, along_all}

module _ (events : List DeclaredEvent) (sound : AreExpandable events)
    (keeps : AreKept way_rules (BreaksNumberedWayRule events)) where
  -- an event that is reached from so many others has ways: as many events are left below it
  ways_below : (fuel : ℕ) (above : List ℕ) (e : ℕ) → length events ≤ fuel + length above → AllDiffer above
      → ((a : ℕ) → IsOneOf above a → (a < length events) × ReachesPart (declared_from 0 events) a e)
      → e < length events → HasWays events e
  ways_below zero above e l d h b =
      let n = few (length events) (e ∷ above) (new (λ i. never_itself events keeps e (h e i).1) d)
      (λ x i. elim (one_cases e above x i)
      [ inl k ↦ subst (λ (z : ℕ). z < length events) k b | inr j ↦ (h x j).0 ]) in
      absurd (omega (arith, n, l))
  ways_below (suc fuel) above e l d h b =
      let x = stands_some events e b in
      let m = members_give events x.0.ways.items (λ parts at i p j.
      let part = part_named events e p.1.n
      (record {
        declared = x.0;
        stands = x.1;
        parts = parts;
        at = at;
        is_way = i;
        part = p;
        is_part = j;
        number = refl;
      }) in
      ways_below fuel (e ∷ above) p.1.n (omega (arith, l)) (new (λ k. never_itself events keeps e (h e k).1) d)
      (λ a k. elim (one_cases e above a k) [
        | inl s ↦ (
          subst (λ (z : ℕ). z < length events) s b,
          subst
              (λ (z : ℕ). ReachesPart (declared_from 0 events) z p.1.n) s (part_of part),
        )
        | inr s ↦ ((h a s).0, reaches_on (h a s).1 part)
      ])
      (sound.parts e i.place x.0 parts at x.1 i.stands p j)) in
      (m.0, event e (declared_stands 0 events e x.0 x.1) (let same : 0 + e ≡ e = omega arith in same) m.1)

  pub kept_ways : (wss : List (List (Tree (Transition ℕ)))) × AreWays (declared_from 0 events) wss
  kept_ways =
      along_all (λ d ts. Ways (declared_from 0 events) d.key ts) (declared_from 0 events) (λ d i.
      let b = declared_back 0 events i.place d i.stands in
      let k = declared_key events i.place d i.stands in
      let w = ways_below (length events) [] i.place (omega arith) nothing (λ a j. absurd (one_none a j))
      (stands_within events i.place b.0 b.1) in
      (w.0, subst (λ (n : ℕ). Ways (declared_from 0 events) n w.0) (sym k) w.1))
