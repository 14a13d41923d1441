-- Each run has its moments.
use Rattle.std.proofs.Common.{◌≡◌, inl, inr, ℕ, ◌+◌, Bool, true, false, List, [], ◌∷◌, length, refl}
use Rattle.ar_base.specs.Lists.{IsOneOf}
use Rattle.ar_base.proofs.Standing.{one_none, one_cases, one_first, one_rest}
use Rattle.domains.specs.declared.Value.{Value}
use Rattle.typed_expr.proofs.Listing.{Told}
use Rattle.ar_meaning.specs.Systems.{Way, Event, System}
use Rattle.ar_meaning.specs.Facts.{HasValue}
use Rattle.ar_meaning.specs.Flows.{Flows, Outcome, Fails, Total}
use Rattle.ar_meaning.specs.Ways.{Can}
use Rattle.ar_meaning.specs.Steps.{Answer, Refused, Next, Step}
use Rattle.ar_meaning.specs.Runs.{Label, IsWay, Command, Fire, Back, Show, Enabled, Moment, Ways_listed, can, cannot, Listed, visible, hidden, Goes, ends, fires, fails, back, no_step, shows, lists, first_values, Runs, starts, start_fails}
use Rattle.ar_meaning.specs.RunsInside.{FiresWays}
use Rattle.ar_meaning.specs.Runs as r
use Rattle.ar_meaning.proofs.Lengths.{first_long, total_long, step_long}
use Rattle.ar_meaning.proofs.Outcomes.{values_known, has_outcome}
use Rattle.ar_meaning.proofs.Answering.{can_told, has_answer}

module _ {V : Type 0} (facts : V → Value → Type 0) (way_told : (w : Way V) → Told (Can facts w)) where
  ways_listed : (e k : ℕ) (ws : List (Way V)) → (ls : List Label) × Ways_listed facts e k ws ls
  ways_listed e k [] = ([], r.none)
  ways_listed e k (w ∷ ws) = go (way_told w) (ways_listed e (k + 1) ws)
    where
      go : Told (Can facts w) → (ls : List Label) × Ways_listed facts e (k + 1) ws ls
          → (ls : List Label) × Ways_listed facts e k (w ∷ ws) ls
      go (inl c) h = (_, can c h.1)
      go (inr n) h = (_, cannot n h.1)

  -- what can fire
  listed : (e : ℕ) (vs : List (Event V)) → (ls : List Label) × Listed facts e vs ls
  listed e [] = ([], r.none)
  listed e (v ∷ vs) = go v.hidden refl (listed (e + 1) vs)
    where
      go : (b : Bool) → v.hidden ≡ b → (ls : List Label) × Listed facts (e + 1) vs ls
          → (ls : List Label) × Listed facts e (v ∷ vs) ls
      go true i h = (_, hidden i h.1)
      go false i h = let w = ways_listed e 0 v.ways in (_, visible i w.1 h.1)

module _ {V : Type 0} (key_told : (x y : V) → Told (x ≡ y)) (sys : System V) where
  -- each valuation has a value for each variable
  abbrev AreLong : List (List Value) → Type 0
  AreLong below = (u : List Value) → IsOneOf below u → length u ≡ length sys.net.variables

  later : {c : Command} {cs : List Command} → FiresWays sys (c ∷ cs) → FiresWays sys cs
  later {c = c} {cs = cs} h = record { each = λ l o. h.each l (one_rest c cs (Fire l) o) }

  -- what follows has its moments
  goes : (below : List (List Value)) (t : List Value) (cs : List Command) → AreLong below
      → length t ≡ length sys.net.variables → FiresWays sys cs → (ms : List Moment) × Goes sys below t cs ms
  goes below t [] longs long h = (_, ends)
  goes below t (Fire l ∷ cs) longs long h =
      go (has_answer key_told sys.net t way.0 long) (λ u k. goes (t ∷ below) u cs deeper k (later h))
    where
      way : (w : Way V) × IsWay sys l w
      way = h.each l (one_first (Fire l) cs)

      deeper : AreLong (t ∷ below)
      deeper u o = elim (one_cases t below u o) [ inl e ↦ (let i = long in cc) | inr p ↦ longs u p ]

      go : (a : Answer) × Step sys.net t way.0 a
          → ((u : List Value) → length u ≡ length sys.net.variables → (ms : List Moment) × Goes sys (t ∷ below) u cs ms)
          → (ms : List Moment) × Goes sys below t (Fire l ∷ cs) ms
      go (Refused f, s) on = (_, fails way.0 way.1 s)
      go (Next u, s) on = let k = on u (step_long s) in (_, fires way.0 way.1 s k.1)
  goes [] t (Back ∷ cs) longs long h = (_, no_step)
  goes (u ∷ below) t (Back ∷ cs) longs long h =
      let k =
      goes below u cs (λ v o. longs v (one_rest u below v o)) (longs u (one_first u below)) (later h) in
      (_, back k.1)
  goes below t (Show ∷ cs) longs long h = let k = goes below t cs longs long (later h) in (_, shows k.1)
  goes below t (Enabled ∷ cs) longs long h =
      let f =
      listed (HasValue sys.net t) (can_told (HasValue sys.net t) (values_known key_told sys.net t)) 0 sys.events in
      let k = goes below t cs longs long (later h) in
      (_, lists f.1 k.1)

  -- a run has its moments
  pub has_moments : (cs : List Command) → FiresWays sys cs → (ms : List Moment) × Runs sys cs ms
  has_moments cs h = go (has_outcome key_told sys.net (first_values sys.net.variables) (first_long sys.net.variables))
    where
      go : (o : Outcome) × Flows sys.net (first_values sys.net.variables) o → (ms : List Moment) × Runs sys cs ms
      go (Fails f, s) = (_, start_fails s)
      go (Total t, s) = let k = goes [] t cs (λ u o. absurd (one_none u o)) (total_long s) h in (_, starts s k.1)
