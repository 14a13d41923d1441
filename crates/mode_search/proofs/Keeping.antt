-- Kept ways, one label after the other.
use Rattle.std.proofs.Common.{◌≡◌, ℕ, ◌+◌, ◌<◌, ◌≤◌, ◌⊎◌, inl, inr, Bool, true, false, List, [], ◌∷◌, ◌++◌, length, Option, Some, None, MatchOption, refl, sym, ◌∙◌, subst, arith}
use Rattle.std.proofs.lemmas.List.{append-nil}
use Rattle.std.proofs.lemmas.Bool.{cases_lt}
use Rattle.ar_base.specs.Lists.{Stands, IsOneOf, HasNo, none}
use Rattle.ar_base.specs.Numbers.{WayId}
use Rattle.ar_base.specs.NumbersInside.{EventId}
use Rattle.ar_base.proofs.Standing.{stands_one, stands_within, stands_none, stands_split, one_left, one_right, one_first, at_most}
use Rattle.ar_base.proofs.Items.{single, along_push}
use Rattle.ar_meaning.specs.Runs.{Label}
use Rattle.ar_firing.specs.Fragment.{IsStateOf}
use Rattle.gts_core.specs.View.{net_of}
use Rattle.gts_core.specs.declared.system.Event.{Event}
use Rattle.gts_core.specs.declared.system.GtsParts.{GtsParts}
use Rattle.mode_search.specs.declared.kept.KeptWay.{KeptWay}
use Rattle.mode_search.specs.Kept.{IsLocal, IsKeptOf, IsNoKept, items_of, IsLabelBefore, IsKeptAt, IsToKeep, AreKeptWaysBefore, AddsKeptWays, Continues}

abbrev pub at_label : ℕ → ℕ → Label
at_label event way = record { event = event; way = way }

pub label_is : (l : Label) (e w : ℕ) → l.event ≡ e → l.way ≡ w → l ≡ at_label e w
label_is l e w i j = go l.event l.way e w i j
  where
    go : (a b c d : ℕ) → a ≡ c → b ≡ d → at_label a b ≡ at_label c d
    go a b c d i j = cc

before_cases : (l : Label) (e w : ℕ) → IsLabelBefore l (at_label e (w + 1))
    → IsLabelBefore l (at_label e w) ⊎ ((l.event ≡ e) × (l.way ≡ w))
before_cases l e w (inl h) = inl (inl h)
before_cases l e w (inr h) = elim (at_most l.way w h.1) [ inl k ↦ inl (inr (h.0, k)) | inr k ↦ inr (h.0, k) ]

before_more : (l : Label) (e w : ℕ) → IsLabelBefore l (at_label e w) → IsLabelBefore l (at_label e (w + 1))
before_more l e w (inl h) = inl h
before_more l e w (inr h) = inr (h.0, omega (arith, h.1))

before_next : (l : Label) (e w : ℕ) → IsLabelBefore l (at_label e w) → IsLabelBefore l (at_label (e + 1) 0)
before_next l e w (inl h) = inl (omega (arith, h))
before_next l e w (inr h) = inl (omega (arith, h.0))

module _ (p : GtsParts) (marks : List Bool) where
  pub kept_start : AreKeptWaysBefore p marks 0 0 []
  kept_start = record {
    labels = [];
    are = none;
    below = λ j l s. absurd (stands_none j l s);
    ascend = λ j k l m h s t. absurd (stands_none j l s);
    whole = λ l k b. elim b [ inl h ↦ absurd (omega (arith, h)) | inr h ↦ absurd (omega (arith, h.1)) ];
  }

  -- no way more
  kept_skip : (e w : ℕ) (kept : List KeptWay) → AreKeptWaysBefore p marks e w kept
      → ((l : Label) → l.event ≡ e → l.way ≡ w → IsToKeep p marks l → ⊥) → AreKeptWaysBefore p marks e (w + 1) kept
  kept_skip e w kept a lacks = record {
    labels = a.labels;
    are = a.are;
    below = λ j l s. before_more l e w (a.below j l s);
    ascend = a.ascend;
    whole = λ l k b. elim (before_cases l e w b) [ inl h ↦ a.whole l k h | inr h ↦ absurd (lacks l h.0 h.1 k) ];
  }

  -- one way more
  kept_push : (e w : ℕ) (kept : List KeptWay) (more : KeptWay) → AreKeptWaysBefore p marks e w kept
      → IsKeptAt p marks (at_label e w) more → AreKeptWaysBefore p marks e (w + 1) (kept ++ more ∷ [])
  kept_push e w kept more a is = record {
    labels = a.labels ++ at_label e w ∷ [];
    are = along_push a.labels kept (at_label e w) more a.are is;
    below = λ j l s. by_place j l (stands_split a.labels (at_label e w ∷ []) j l s);
    ascend = λ j k l m h s t. in_order j k l m h (stands_split a.labels (at_label e w ∷ []) j l s)
        (stands_split a.labels (at_label e w ∷ []) k m t);
    whole = λ l k b. elim (before_cases l e w b) [
      | inl h ↦ one_left a.labels (at_label e w ∷ []) l (a.whole l k h)
      | inr h ↦ one_right a.labels (at_label e w ∷ []) l
          (subst (λ (z : Label). IsOneOf (at_label e w ∷ []) z) (sym (label_is l e w h.0 h.1))
          (one_first (at_label e w) []))
    ];
  }
    where
      last : (k : ℕ) (l : Label) → Stands (at_label e w ∷ []) k l → (k ≡ 0) × (at_label e w ≡ l)
      last k l s = single (at_label e w) l k s

      at_last : (l : Label) → at_label e w ≡ l → IsLabelBefore l (at_label e (w + 1))
      at_last l i = subst (λ (z : Label). IsLabelBefore z (at_label e (w + 1))) i (inr (refl, omega arith))

      by_place : (j : ℕ) (l : Label) → Stands a.labels j l
          ⊎ ((k : ℕ) × (j ≡ length a.labels + k) × Stands (at_label e w ∷ []) k l) → IsLabelBefore l (at_label e (w + 1))
      by_place j l (inl s) = before_more l e w (a.below j l s)
      by_place j l (inr s) = at_last l (last s.0 l s.2).1

      in_order : (j k : ℕ) (l m : Label) → j < k
          → Stands a.labels j l ⊎ ((i : ℕ) × (j ≡ length a.labels + i) × Stands (at_label e w ∷ []) i l)
          → Stands a.labels k m ⊎ ((i : ℕ) × (k ≡ length a.labels + i) × Stands (at_label e w ∷ []) i m)
          → IsLabelBefore l m
      in_order j k l m h (inl s) (inl t) = a.ascend j k l m h s t
      in_order j k l m h (inl s) (inr t) = subst (λ (z : Label). IsLabelBefore l z) (last t.0 m t.2).1 (a.below j l s)
      in_order j k l m h (inr s) (inl t) = let u = stands_within a.labels k m t in absurd (omega (arith, s.1))
      in_order j k l m h (inr s) (inr t) = let u = (last s.0 l s.2).0 in let v = (last t.0 m t.2).0 in absurd (omega (arith, s.1, t.1))

  -- no way more of the event
  kept_next : (e w : ℕ) (kept : List KeptWay) → AreKeptWaysBefore p marks e w kept
      → ((l : Label) → l.event ≡ e → w ≤ l.way → IsToKeep p marks l → ⊥) → AreKeptWaysBefore p marks (e + 1) 0 kept
  kept_next e w kept a lacks = record {
    labels = a.labels;
    are = a.are;
    below = λ j l s. before_next l e w (a.below j l s);
    ascend = a.ascend;
    whole = λ l k b. by l k b;
  }
    where
      by_event : (l : Label) → IsToKeep p marks l → (l.event < e) ⊎ (l.event ≡ e) → IsOneOf a.labels l
      by_event l k (inl h) = a.whole l k (inl h)
      by_event l k (inr h) = elim (cases_lt l.way w)
          [ inl u ↦ a.whole l k (inr (h, u)) | inr u ↦ absurd (lacks l h u k) ]

      by : (l : Label) → IsToKeep p marks l → IsLabelBefore l (at_label (e + 1) 0) → IsOneOf a.labels l
      by l k (inl h) = by_event l k (at_most l.event e h)
      by l k (inr h) = absurd (omega (arith, h.1))

  -- nothing more of an event that is marked
  pub continues_marked : (e : ℕ) (kept : List KeptWay) → Stands marks e true → Continues p marks e kept kept
  continues_marked e kept m = record { on = λ a. kept_next e 0 kept a (λ l i u k. let s = subst (λ (z : ℕ). Stands marks z false) i k.mark in let t = stands_one marks e true false m s in cc) }

  -- the ways of an event that is not marked
  pub continues_event : (id : EventId) (event : Event) (old new : List KeptWay) → Stands p.events.items id.n event
      → Stands marks id.n false → AddsKeptWays p id event (length event.ways.items) old new → Continues p marks id.n old new
  continues_event id event old new st m h = record {
    on = λ a. kept_next id.n (length event.ways.items) new (h.on marks m a) (λ l i u k.
        let same : k.event ≡ event = stands_one p.events.items id.n k.event event
        (subst (λ (z : ℕ). Stands p.events.items z k.event) i k.is_event) st in
        let within = stands_within event.ways.items l.way k.way
        (subst (λ (z : Event). Stands z.ways.items l.way k.way) same k.has) in
        omega arith);
  }

module _ (p : GtsParts) (id : EventId) (event : Event) (st : Stands p.events.items id.n event) where
  pub extends_start : (kept : List KeptWay) → AddsKeptWays p id event 0 kept kept
  extends_start kept = record { on = λ marks m a. a }

  pub extends_more : (i : ℕ) (old now new : List KeptWay) (way : WayId) (found : Option KeptWay)
      → Stands event.ways.items i way → AddsKeptWays p id event i old now
      → MatchOption found (IsNoKept p event way.n) (IsKeptOf p id event way) → new ≡ now ++ items_of found
      → AddsKeptWays p id event (i + 1) old new
  extends_more i old now new way None has h lacks e = record {
    on = λ marks m a. subst (λ (z : List KeptWay). AreKeptWaysBefore p marks id.n (i + 1) z) (sym (e ∙ append-nil now))
        (kept_skip p marks id.n i now (h.on marks m a) (λ l u v k.
        let same : k.event ≡ event = stands_one p.events.items id.n k.event event
        (subst (λ (z : ℕ). Stands p.events.items z k.event) u k.is_event) st in
        let there : k.way ≡ way = stands_one event.ways.items i k.way way
        (subst (λ (z : ℕ). Stands event.ways.items z k.way) v
        (subst (λ (z : Event). Stands z.ways.items l.way k.way) same k.has)) has in
        k.state (subst (λ (z : Event). HasNo (net_of p).variables (IsStateOf z.unit.n)) (sym same)
        (lacks k.guard k.action (subst (λ (z : WayId). IsLocal p z.n k.guard k.action) there k.local)))));
  }
  extends_more i old now new way (Some more) has h is e = record {
    on = λ marks m a. subst (λ (z : List KeptWay). AreKeptWaysBefore p marks id.n (i + 1) z) (sym e)
        (kept_push p marks id.n i now more (h.on marks m a)
        (record { event = event; is_event = st; mark = m; id = id; number = refl; way = way; has = has; is = is }));
  }

  pub extends_all : (i n : ℕ) (old now : List KeptWay) → i ≡ n → AddsKeptWays p id event i old now
      → AddsKeptWays p id event n old now
  extends_all i n old now e h = subst (λ (z : ℕ). AddsKeptWays p id event z old now) e h
