-- Paths to one mode are one, so that no edge stands on a path twice.
use Rattle.std.proofs.Common.{◌≡◌, ◌<◌, ◌≤◌, ◌+◌, ℕ, zero, suc, List, [], ◌∷◌, map, length, refl, sym, ◌∙◌, ap, subst, arith}
use Rattle.ar_base.specs.Lists.{Stands, IsOneOf, AreDifferent}
use Rattle.ar_base.proofs.Standing.{stands_one, stands_none, stands_map}
use Rattle.domains.specs.declared.Value.{Value}
use Rattle.mode_trees.specs.declared.forests.Edge.{Edge}
use Rattle.mode_trees.proofs.Fewer.{no_more}
use Rattle.mode_trees.specs.Paths.{EntersOnce, LeadTo, root, along, IsOffPath}

module _ (first : Value) (edges : List Edge) (once : EntersOnce first edges) where
  abbrev entered : List Value
  entered = first ∷ map (λ (e : Edge). e.to) edges

  enters_at : (n : ℕ) (e : Edge) → Stands edges n e → Stands entered (suc n) e.to
  enters_at n e s = stands_map (λ (e : Edge). e.to) edges n e s

  not_first : (e : Edge) → IsOneOf edges e → e.to ≡ first → ⊥
  not_first e o i =
      let j = once.different.one (suc o.place) zero first
      (subst (λ (v : Value). Stands entered (suc o.place) v) i (enters_at o.place e o.stands)) refl in
      absurd (omega (arith, j))

  one_edge : (e f : Edge) → IsOneOf edges e → IsOneOf edges f → e.to ≡ f.to → e ≡ f
  one_edge e f o u i =
      let there = subst (λ (v : Value). Stands entered (suc o.place) v) i (enters_at o.place e o.stands) in
      let j = once.different.one (suc o.place) (suc u.place) f.to there (enters_at u.place f u.stands) in
      let k : o.place ≡ u.place = omega (arith, j) in
      stands_one edges u.place e f (subst (λ (n : ℕ). Stands edges n e) k o.stands) u.stands

  path_same : {es fs : List Edge} {m n : Value} → LeadTo first edges es m → LeadTo first edges fs n → m ≡ n → es ≡ fs
  path_same root root i = refl
  path_same root (along f q u j) i = absurd (not_first f u (sym i))
  path_same (along e p o i) root j = absurd (not_first e o j)
  path_same (along {es = es} {m = m} e p o i) (along {es = fs} {m = n} f q u j) k =
      let h : e ≡ f = one_edge e f o u k in
      let r : es ≡ fs = path_same p q (sym i ∙ ap (λ (z : Edge). z.from) h ∙ j) in
      cc

  path_at : {es : List Edge} {m : Value} → LeadTo first edges es m → (k : ℕ) (e : Edge) → Stands es k e
      → (fs : List Edge) × LeadTo first edges (e ∷ fs) e.to × (length fs < length es)
  path_at root k e s = absurd (stands_none k e s)
  path_at (along {es = es} f p o i) zero e s =
      let h : f ≡ e = cc in
      (es, subst (λ (z : Edge). LeadTo first edges (z ∷ es) z.to) h (along f p o i), omega arith)
  path_at (along {es = es} f p o i) (suc k) e s =
      let r = path_at p k e s in
      (r.0, r.1, omega (arith, r.2))

  not_again : {es : List Edge} {m : Value} (e : Edge) → LeadTo first edges es m → IsOneOf edges e → e.from ≡ m
      → (k : ℕ) → Stands es k e → ⊥
  not_again {es} e p o i k s =
      let r = path_at p k e s in
      let j = ap length (path_same (along e p o i) r.1 refl) in
      absurd (omega (arith, r.2, j))

  different_first : (e : Edge) (es : List Edge) → ((k : ℕ) → Stands es k e → ⊥) → AreDifferent es
      → (m n : ℕ) (a : Edge) → Stands (e ∷ es) m a → Stands (e ∷ es) n a → m ≡ n
  different_first e es later d zero zero a s t = refl
  different_first e es later d zero (suc n) a s t =
      let h : a ≡ e = cc in
      absurd (later n (subst (λ (z : Edge). Stands es n z) h t))
  different_first e es later d (suc m) zero a s t =
      let h : a ≡ e = cc in
      absurd (later m (subst (λ (z : Edge). Stands es m z) h s))
  different_first e es later d (suc m) (suc n) a s t = ap suc (d.one m n a s t)

  pub path_different : {es : List Edge} {m : Value} → LeadTo first edges es m → AreDifferent es
  path_different root = record { one = λ m n a p q. absurd (stands_none m a p) }
  path_different (along {es = es} e p o i) =
      record { one = different_first e es (not_again e p o i) (path_different p) }

  path_inside : {es : List Edge} {m : Value} → LeadTo first edges es m → (k : ℕ) (e : Edge) → Stands es k e
      → IsOneOf edges e
  path_inside root k e s = absurd (stands_none k e s)
  path_inside (along f p o i) zero e s = let h : f ≡ e = cc in subst (λ (z : Edge). IsOneOf edges z) h o
  path_inside (along f p o i) (suc k) e s = path_inside p k e s

  pub path_short : {es : List Edge} {m : Value} → LeadTo first edges es m → length es ≤ length edges
  path_short {es = es} p = no_more es edges (path_different p) (path_inside p)

-- below an edge there is less room
pub within_next : {edges : List Edge} {mode : Value} {room : ℕ} → IsOffPath edges mode room → (e : Edge)
    → IsOneOf edges e → e.from ≡ mode
    → (0 < room) × ((less : ℕ) → less + 1 ≡ room → IsOffPath edges e.to less)
within_next {edges} {mode} {room} w e o i =
    let p = along e w.leads o i in
    let short = path_short w.first edges w.enters p in
    let l = w.long in (
      omega (arith, short, l),
      λ less j.
          record { first = w.first; enters = w.enters; path = e ∷ w.path; leads = p; long = omega (arith, j, l) },
    )

pub within_first : (first : Value) (edges : List Edge) → AreDifferent (first ∷ map (λ (e : Edge). e.to) edges)
    → IsOffPath edges first (length edges)
within_first first edges h =
    record { first = first; enters = record { different = h }; path = []; leads = root; long = omega arith }
