-- Kept ways are ways of the parts, each once, and their mode variables are variables of the parts.
use Rattle.std.proofs.Common.{◌≡◌, ◌<◌, ◌≤◌, ◌+◌, ℕ, zero, suc, ◌⊎◌, inl, inr, Bool, true, false, cond, List, [], ◌∷◌, ◌++◌, length, refl, sym, ap, ◌∙◌, subst, arith}
use Rattle.std.specs.List.{filter}
use Rattle.std.proofs.lemmas.List.{length_push}
use Rattle.ar_base.specs.Lists.{Stands}
use Rattle.ar_base.specs.Numbers.{WayId}
use Rattle.ar_base.proofs.Standing.{stands_one, stands_within, stands_none, stands_split, along_back, at_most, only_item}
use Rattle.ar_base.proofs.Comparing.{three}
use Rattle.ar_meaning.specs.Systems.{System, Leaf, Way as Ways}
use Rattle.ar_meaning.specs.Runs.{Label}
use Rattle.ar_firing.specs.Fragment.{IsModeOf}
use Rattle.ar_firing.specs.Fragment as f
use Rattle.gts_core.specs.View.{net_of}
use Rattle.gts_core.specs.Sound.{IsSound}
use Rattle.gts_core.proofs.Viewing.{variables_long}
use Rattle.gts_core.specs.declared.system.Way.{Way}
use Rattle.gts_core.specs.declared.system.GtsParts.{GtsParts}
use Rattle.mode_search.specs.Modes.{transition_of}
use Rattle.mode_search.specs.Kept.{IsLabelBefore, IsKeptAt}
use Rattle.mode_search.specs.declared.kept.KeptWay.{KeptWay}
use Rattle.mode_search.specs.Reached.{AreWaysOfParts, AreDifferentWays, IsReach}
use Rattle.mode_search.specs.declared.searching.Reach.{Reach}
use Rattle.mode_search.specs.Rows.{is_of, variable_ways, HaveVariablesBelow}
use Rattle.mode_search.specs.Reaches.{AreKeptWaysOf, AreReaches}

-- an item that passes a test stands in the list, and two of them in their order
module _ {A : Type 0} (test : A → Bool) where
  pub record Was (xs : List A) (q : ℕ) (a : A) : Type 0 where
    pub place : ℕ
    pub stands : Stands xs place a
    pub early : q ≤ place

  pub was : (xs : List A) (q : ℕ) (a : A) → Stands (filter test xs) q a → Was xs q a
  was [] q a s = absurd (stands_none q a s)
  was (x ∷ xs) q a s = by (test x) (λ k t. was xs k a t) s
    where
      later : (k : ℕ) → Was xs k a → Was (x ∷ xs) k a
      later k w = record { place = suc w.place; stands = w.stands; early = omega (arith, w.early) }

      first : ((k : ℕ) → Stands (filter test xs) k a → Was xs k a) → (q : ℕ) → Stands (x ∷ filter test xs) q a
          → Was (x ∷ xs) q a
      first h zero s = record { place = zero; stands = s; early = omega arith }
      first h (suc q) s = let w = h q s in record { place = suc w.place; stands = w.stands; early = omega (arith, w.early) }

      by : (b : Bool) → ((k : ℕ) → Stands (filter test xs) k a → Was xs k a)
          → Stands (cond b (x ∷ filter test xs) (filter test xs)) q a → Was (x ∷ xs) q a
      by true h s = first h q s
      by false h s = later q (h q s)

  -- two items of the filtered list were at two places
  pub apart : (R : A → A → Type 0) (xs : List A) → ((m n : ℕ) (a b : A) → Stands xs m a → Stands xs n b → R a b → m ≡ n)
      → (q r : ℕ) (a b : A) → Stands (filter test xs) q a → Stands (filter test xs) r b → R a b → q ≡ r
  apart R [] one q r a b s t k = absurd (stands_none q a s)
  apart R (x ∷ xs) one q r a b s t k = by (λ m n u v. apart R xs (λ m n c d u v w. let e = one (suc m) (suc n) c d u v w in omega arith) m n a b u v k) (test x) s t
    where
      both : ((m n : ℕ) → Stands (filter test xs) m a → Stands (filter test xs) n b → m ≡ n) → (q r : ℕ)
          → Stands (x ∷ filter test xs) q a → Stands (x ∷ filter test xs) r b → q ≡ r
      both h zero zero s t = refl
      both h zero (suc r) s t = let w = was xs r b t in let e = one zero (suc w.place) a b s w.stands k in absurd (omega arith)
      both h (suc q) zero s t = let w = was xs q a s in let e = one (suc w.place) zero a b w.stands t k in absurd (omega arith)
      both h (suc q) (suc r) s t = ap suc (h q r s t)

      by : ((m n : ℕ) → Stands (filter test xs) m a → Stands (filter test xs) n b → m ≡ n) → (c : Bool)
          → Stands (cond c (x ∷ filter test xs) (filter test xs)) q a
          → Stands (cond c (x ∷ filter test xs) (filter test xs)) r b → q ≡ r
      by h true s t = both h q r s t
      by h false s t = h q r s t

-- a mode variable is a variable
mode_below : (system : System ℕ) (unit : ℕ) (w : Ways ℕ) (n : ℕ) → IsModeOf system unit w n
    → n < length system.net.variables
mode_below system unit w n (f.named h) = stands_within system.net.variables n h.item h.stands
mode_below system unit w n (f.first k h) = stands_within system.net.variables n h.item h.stands

module _ (p : GtsParts) (sound : IsSound p) (kept : List KeptWay) (h : AreKeptWaysOf p kept) where
  at : (q : ℕ) (k : KeptWay) → Stands kept q k → (l : Label) × Stands h.are.labels q l × IsKeptAt p h.marks l k
  at q k s = along_back h.are.labels kept h.are.are q k s

  pub all_inside : AreWaysOfParts p kept
  all_inside = record { inside = λ q k s. let w = at q k s in subst (λ (z : WayId). z.n < length p.ways.items) (sym w.2.is.is_way) (stands_within p.ways.items w.2.way.n w.2.is.local.way w.2.is.local.stands) }

  same_label : (l m : Label) (k j : KeptWay) → IsKeptAt p h.marks l k → IsKeptAt p h.marks m j → k.way ≡ j.way
      → (l.event ≡ m.event) × (l.way ≡ m.way)
  same_label l m k j a b e =
      let id : a.way ≡ b.way = sym a.is.is_way ∙ e ∙ b.is.is_way in
      let x = sound.event_ways l.event l.way a.event a.way a.is_event a.has in
      let y = sound.event_ways m.event m.way b.event b.way b.is_event b.has in
      let one : x.way ≡ y.way = stands_one p.ways.items b.way.n x.way y.way
      (subst (λ (z : WayId). Stands p.ways.items z.n x.way) id x.stands) y.stands in
      let event = ap (λ (z : Way). z.event.n) one in
      let number = ap (λ (z : Way). z.number) one in
      (sym x.event ∙ event ∙ y.event, omega (arith, x.number, y.number, number))

  not_before : (l m : Label) → l.event ≡ m.event → l.way ≡ m.way → IsLabelBefore l m → ⊥
  not_before l m e w (inl b) = omega arith
  not_before l m e w (inr b) = omega (arith, b.1)

  pub all_apart : AreDifferentWays kept
  all_apart = record { one = λ q r k j s t e. by q r k j s t e (three q r) }
    where
      by : (q r : ℕ) (k j : KeptWay) → Stands kept q k → Stands kept r j → k.way ≡ j.way → (q < r) ⊎ ((q ≡ r) ⊎ (r < q))
          → q ≡ r
      by q r k j s t e (inl o) =
          let a = at q k s in let b = at r j t in let same = same_label a.0 b.0 k j a.2 b.2 e in
          absurd (not_before a.0 b.0 same.0 same.1 (h.are.ascend q r a.0 b.0 o a.1 b.1))
      by q r k j s t e (inr (inl o)) = o
      by q r k j s t e (inr (inr o)) =
          let a = at q k s in let b = at r j t in let same = same_label a.0 b.0 k j a.2 b.2 e in
          absurd (not_before b.0 a.0 (sym same.0) (sym same.1) (h.are.ascend r q b.0 a.0 o b.1 a.1))

  pub all_below : HaveVariablesBelow (length p.variables.items) kept
  all_below = record {
    below = λ q k s.
        let w = at q k s in
        let system : System ℕ = record { net = net_of p; events = []; observers = [] } in
        let b = mode_below system w.2.event.unit.n (Leaf (transition_of w.2.is.guard w.2.is.action.items))
        k.mode.variable.n (w.2.is.mode.is_mode system refl) in
        omega (arith, b, variables_long 0 p.variables.items);
  }

  -- the same of those of one variable
  pub row_inside : (n : ℕ) → AreWaysOfParts p (variable_ways n kept)
  row_inside n = record { inside = λ q k s. let w = was (is_of n) kept q k s in all_inside.inside w.place k w.stands }

  pub row_apart : (n : ℕ) → AreDifferentWays (variable_ways n kept)
  row_apart n = record {
    one = λ q r k j s t e. apart (is_of n) (λ (a b : KeptWay). a.way ≡ b.way) kept
        (λ m o a b u v i. all_apart.one m o a b u v i) q r k j s t e;
  }

  -- one variable more
  pub reaches_more : (n : ℕ) (reaches new : List Reach) (r : Reach) → AreReaches p kept n reaches
      → IsReach p n (variable_ways n kept) r → new ≡ reaches ++ r ∷ [] → AreReaches p kept (n + 1) new
  reaches_more n reaches new r a is e = subst (λ (z : List Reach). AreReaches p kept (n + 1) z) (sym e) (record {
    long = length_push reaches r ∙ ap (λ (k : ℕ). k + 1) a.long;
    each = λ m x s. elim (stands_split reaches (r ∷ []) m x s) [
      | inl k ↦ a.each m x k
      | inr k ↦ last m x k.0 k.1 k.2
    ];
  })
    where
      last : (m : ℕ) (x : Reach) (k : ℕ) → m ≡ length reaches + k → Stands (r ∷ []) k x → IsReach p m (variable_ways m kept) x
      last m x zero i st =
          let here : m ≡ n = omega (arith, a.long) in
          let one : r ≡ x = only_item r x (record { place = zero; stands = st }) in
          subst (λ (z : ℕ). IsReach p z (variable_ways z kept) x) (sym here)
          (subst (λ (z : Reach). IsReach p n (variable_ways n kept) z) one is)
      last m x (suc k) i st = absurd (stands_none k x st)

pub reaches_start : (p : GtsParts) (kept : List KeptWay) (reaches : List Reach) → reaches ≡ []
    → AreReaches p kept 0 reaches
reaches_start p kept reaches e = subst (λ (z : List Reach). AreReaches p kept 0 z) (sym e)
    (record { long = refl; each = λ n r s. absurd (stands_none n r s) })

-- one place more at which it does not hold
pub place_more : (P : ℕ → Type 0) (n : ℕ) → ((k : ℕ) → k < n → P k → ⊥) → (P n → ⊥) → (k : ℕ) → k < n + 1 → P k → ⊥
place_more P n before lacks k l q = elim (at_most k n l) [ inl h ↦ before k h q | inr e ↦ lacks (subst P e q) ]
