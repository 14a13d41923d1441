-- The line of a firable set is a legal order of it.
use Rattle.std.proofs.Common.{◌≡◌, ◌<◌, ◌+◌, ◌⊎◌, inl, inr, ⊎_elim, ℕ, zero, suc, Bool, true, false, cond, List, [], ◌∷◌, ◌++◌, reverse, length, length-append, refl, sym, ◌∙◌, ap, subst, arith}
use Rattle.std.proofs.lemmas.List.{reverse-append, reverse-reverse, append-nil}
use Rattle.ar_base.specs.Lists.{Stands, IsOneOf}
use Rattle.ar_base.proofs.Standing.{stands_left, stands_right, stands_split}
use Rattle.domains.specs.declared.Value.{Value}
use Rattle.ar_meaning.specs.Systems.{Variable, System}
use Rattle.ar_meaning.specs.FactsInside.{AreKeyed}
use Rattle.ar_meaning.specs.Runs.{Label}
use Rattle.ar_firing.specs.Fragment.{Path, root, edge, Edge}
use Rattle.ar_firing.specs.Static.{IsStatic}
use Rattle.ar_firing.specs.Cuts.{IsFirable, AreEvents}
use Rattle.ar_firing.specs.CutsInside.{IsLegalOrder, FollowTheirModes}
use Rattle.ar_base.specs.Sets.{Within}
use Rattle.ar_firing.specs.Forest.{firing_line, IsLine}
use Rattle.ar_firing.proofs.Ends.{split_live, split, path_unique, live, label_same, path_same, on_path}
use Rattle.ar_firing.proofs.EachHasOrder.{AreOnce}

-- the labels of the variables' paths, the last first
abbrev pub backward : {V : Type 0} → ℕ → List (Variable V) → (ℕ → List Label) → List Label
backward n [] path = []
backward n (x ∷ xs) path = backward (suc n) xs path ++ cond x.is_state (path n) []

turned_round : {V : Type 0} (n : ℕ) (xs : List (Variable V)) (path : ℕ → List Label)
    → reverse (firing_line n xs path) ≡ backward n xs path
turned_round n [] path = refl
turned_round n (x ∷ xs) path =
    reverse-append (cond x.is_state (reverse (path n)) []) (firing_line (suc n) xs path) ∙
    (ap (λ z. z ++ reverse (cond x.is_state (reverse (path n)) [])) (turned_round (suc n) xs path)
    ∙ ap (λ z. backward (suc n) xs path ++ z) (inner x.is_state))
  where
    inner : (b : Bool) → reverse (cond b (reverse (path n)) []) ≡ cond b (path n) []
    inner true = reverse-reverse (path n)
    inner false = refl

-- where a label of the list comes from
pub record Comes_from {V : Type 0} (n : ℕ) (xs : List (Variable V)) (path : ℕ → List Label) (l : Label) : Type 0 where
  pub place : ℕ
  pub variable : Variable V
  pub stands : Stands xs place variable
  pub is_state : variable.is_state ≡ true
  pub number : ℕ
  pub is : number ≡ n + place
  pub on_path : IsOneOf (path number) l

comes_from : {V : Type 0} (n : ℕ) (xs : List (Variable V)) (path : ℕ → List Label) (l : Label)
    → IsOneOf (backward n xs path) l → Comes_from n xs path l
comes_from n [] path l o = let h = o.stands in cc
comes_from {V = V} n (x ∷ xs) path l o = ⊎_elim
    (λ h. let c = comes_from (suc n) xs path l (record { place = o.place; stands = h }) in
    record {
      place = suc c.place;
      variable = c.variable;
      stands = c.stands;
      is_state = c.is_state;
      number = c.number;
      is = omega (arith, c.is);
      on_path = c.on_path;
    })
    (λ h. here x.is_state refl h.0 h.2)
    (stands_split (backward (suc n) xs path) (cond x.is_state (path n) []) o.place l o.stands)
  where
    here : (b : Bool) → x.is_state ≡ b → (k : ℕ) → Stands (cond b (path n) []) k l → Comes_from n (x ∷ xs) path l
    here true e k s = record {
      place = zero;
      variable = x;
      stands = refl;
      is_state = e;
      number = n;
      is = omega arith;
      on_path = record { place = k; stands = s };
    }
    here false e k s = cc

-- a variable's path stands in the list as one piece
pub record Piece (ls whole : List Label) : Type 0 where
  pub front : List Label
  pub rest : List Label
  pub is : whole ≡ front ++ (ls ++ rest)

append_assoc : (xs ys zs : List Label) → (xs ++ ys) ++ zs ≡ xs ++ (ys ++ zs)
append_assoc [] ys zs = refl
append_assoc (x ∷ xs) ys zs = ap (λ z. x ∷ z) (append_assoc xs ys zs)

piece : {V : Type 0} (n : ℕ) (xs : List (Variable V)) (path : ℕ → List Label) (k m : ℕ) (x : Variable V) → Stands xs k x
    → x.is_state ≡ true → m ≡ n + k → Piece (path m) (backward n xs path)
piece n [] path k m x s i e = cc
piece {V = V} n (y ∷ ys) path zero m x s i e =
    let j : y ≡ x = cc in
    let h : y.is_state ≡ true = ap (λ z. z.is_state) j ∙ i in
    let f : m ≡ n = omega (arith, e) in
    record {
      front = backward (suc n) ys path;
      rest = [];
      is =
          ap (λ z. backward (suc n) ys path ++ z)
          (ap (λ b. cond b (path n) []) h ∙ (ap path (sym f) ∙ sym (append-nil (path m))));
    }
piece n (y ∷ ys) path (suc k) m x s i e =
    let p = piece (suc n) ys path k m x s i (omega (arith, e)) in
    record {
      front = p.front;
      rest = p.rest ++ cond y.is_state (path n) [];
      is =
          ap (λ z. z ++ cond y.is_state (path n) []) p.is ∙
          (append_assoc p.front (path m ++ p.rest) (cond y.is_state (path n) [])
          ∙ ap (λ z. p.front ++ z) (append_assoc (path m) p.rest (cond y.is_state (path n) [])));
    }

-- no two labels of the joined lists have one event
once_joined : (xs ys : List Label) → AreOnce xs → AreOnce ys
    → ((l m : Label) → IsOneOf xs l → IsOneOf ys m → l.event ≡ m.event → ⊥) → AreOnce (xs ++ ys)
once_joined xs ys a b apart = record {
  once = λ j k l m s t e. go j k l m e (stands_split xs ys j l s) (stands_split xs ys k m t);
}
  where
    go : (j k : ℕ) (l m : Label) → l.event ≡ m.event → Stands xs j l ⊎ ((i : ℕ) × (j ≡ length xs + i) × Stands ys i l)
        → Stands xs k m ⊎ ((i : ℕ) × (k ≡ length xs + i) × Stands ys i m) → j ≡ k
    go j k l m e (inl s) (inl t) = a.once j k l m s t e
    go j k l m e (inl s) (inr t) =
        absurd (apart l m (record { place = j; stands = s }) (record { place = t.0; stands = t.2 }) e)
    go j k l m e (inr s) (inl t) =
        absurd (apart m l (record { place = k; stands = t }) (record { place = s.0; stands = s.2 }) (sym e))
    go j k l m e (inr s) (inr t) = let i = b.once s.0 t.0 l m s.2 t.2 e in omega (arith, s.1, t.1, i)

nothing_once : AreOnce []
nothing_once = record { once = λ j k l m s t e. cc }

module _ {V : Type 0} (sys : System V) (dropped : List ℕ) (keyed : AreKeyed sys.net)
    (static : IsStatic sys dropped) where
  -- an edge's event stands nowhere on the path before it
  not_before : {n : ℕ} {ls : List Label} {l : Label} {from to : Value} → Path sys dropped n ls from
      → Edge sys dropped l n from to → (k : ℕ) (m : Label) → Stands ls k m → l.event ≡ m.event → ⊥
  not_before {n = n} {ls = ls} {l = l} {from = from} {to = to} p e k m s i =
      let r = split sys dropped keyed static p k m s in
      let c =
      static.one_edge.one l m n n from r.from to r.to (live sys dropped keyed static p e)
      (split_live sys dropped keyed static r) i in
      let u : r.rest ≡ ls =
      path_unique sys dropped keyed static (subst (λ z. Path sys dropped n r.rest z) (sym c.2) r.path) p in
      let g : length ls ≡ length r.front + suc (length r.rest) = ap length r.is ∙ length-append r.front (m ∷ r.rest) in
      let z : length r.rest ≡ length ls = ap length u in absurd (omega arith)

  path_once : {n : ℕ} {ls : List Label} {m : Value} → Path sys dropped n ls m → AreOnce ls
  path_once (root s i e) = nothing_once
  path_once (edge {l = l} {ls = ls} p e) = record { once = λ j k a b s t i. go (path_once p) j k a b s t i }
    where
      go : AreOnce ls → (j k : ℕ) (a b : Label) → Stands (l ∷ ls) j a → Stands (l ∷ ls) k b → a.event ≡ b.event → j ≡ k
      go h zero zero a b s t i = refl
      go h zero (suc k) a b s t i = let q : l ≡ a = cc in absurd (not_before p e k b t (ap (λ z. z.event) q ∙ i))
      go h (suc j) zero a b s t i = let q : l ≡ b = cc in absurd (not_before p e j a s (ap (λ z. z.event) q ∙ sym i))
      go h (suc j) (suc k) a b s t i = ap suc (h.once j k a b s t i)

  module _ {set : List ℕ} {t : List Value} (f : IsFirable sys dropped set t) where
    -- two labels of one event on the paths are one, on one path
    pub one_label : (m n : ℕ) (x y : Variable V) (k l : Label) → Stands sys.net.variables m x → x.is_state ≡ true
        → Stands sys.net.variables n y → y.is_state ≡ true
        → IsOneOf (f.path m) k → IsOneOf (f.path n) l → k.event ≡ l.event → (m ≡ n) × (k ≡ l)
    one_label m n x y k l s i s' i' o o' e =
        let w = f.walks m x s i in
        let v = f.walks n y s' i' in
        let r = split sys dropped keyed static w.2 o.place k o.stands in
        let q = split sys dropped keyed static v.2 o'.place l o'.stands in
        let c =
        static.one_edge.one k l m n r.from q.from r.to q.to (split_live sys dropped keyed static r)
        (split_live sys dropped keyed static q) e in
        (c.1, label_same k l e c.0)

    line_once : (n : ℕ) (xs : List (Variable V))
        → ((k : ℕ) (x : Variable V) → Stands xs k x → (m : ℕ) → m ≡ n + k → Stands sys.net.variables m x)
        → AreOnce (backward n xs f.path)
    line_once n [] at = nothing_once
    line_once n (x ∷ xs) at = go (line_once (suc n) xs after) x.is_state refl
      where
        after : (k : ℕ) (y : Variable V) → Stands xs k y → (m : ℕ) → m ≡ suc n + k → Stands sys.net.variables m y
        after k y s m e = at (suc k) y s m (omega (arith, e))

        go : AreOnce (backward (suc n) xs f.path) → (b : Bool) → x.is_state ≡ b
            → AreOnce (backward (suc n) xs f.path ++ cond b (f.path n) [])
        go r true i =
            once_joined (backward (suc n) xs f.path) (f.path n) r
            (let w = f.walks n x (at zero x refl n (omega arith)) i in path_once w.2)
            (λ k l o p e. let c = comes_from (suc n) xs f.path k o in
            let h =
            one_label c.number n c.variable x k l (after c.place c.variable c.stands c.number c.is) c.is_state
            (at zero x refl n (omega arith)) i c.on_path p e in
            absurd (omega (arith, h.0, c.is)))
        go r false i = once_joined (backward (suc n) xs f.path) [] r nothing_once (λ k l o p e. let h = p.stands in cc)

    at_start : (k : ℕ) (x : Variable V) → Stands sys.net.variables k x → (m : ℕ) → m ≡ 0 + k
        → Stands sys.net.variables m x
    at_start k x s m e = let i : m ≡ k = omega (arith, e) in subst (λ z. Stands sys.net.variables z x) (sym i) s

    abbrev whole : List Label
    whole = backward 0 sys.net.variables f.path

    on_paths : (k : ℕ) (l : Label) → Stands whole k l
        → (n : ℕ) × (x : Variable V) × Stands sys.net.variables n x × (x.is_state ≡ true) × IsOneOf (f.path n) l
    on_paths k l s =
        let c = comes_from 0 sys.net.variables f.path l (record { place = k; stands = s }) in
        (c.number, c.variable, at_start c.place c.variable c.stands c.number c.is, c.is_state, c.on_path)

    in_whole : (n : ℕ) (x : Variable V) → Stands sys.net.variables n x → x.is_state ≡ true → (l : Label)
        → IsOneOf (f.path n) l → IsOneOf whole l
    in_whole n x s i l o =
        let p = piece 0 sys.net.variables f.path n n x s i (omega arith) in
        let a : Stands (f.path n ++ p.rest) o.place l = stands_left (f.path n) p.rest o.place l o.stands in
        record {
          place = length p.front + o.place;
          stands = subst (λ z. Stands z (length p.front + o.place) l) (sym p.is)
              (stands_right p.front (f.path n ++ p.rest) o.place (length p.front + o.place) l refl a);
        }

    line_events : AreEvents whole set
    line_events = record {
      sound = λ k l s. let c = on_paths k l s in f.sound c.0 c.1 c.2 c.3 c.4.place l c.4.stands;
      whole = λ e o. let w = f.whole e o in (w.2, in_whole w.0 w.1 w.3 w.4 w.2 w.5, w.6);
      once = (line_once 0 sys.net.variables at_start).once;
    }

    line_in_order : FollowTheirModes sys dropped whole
    line_in_order = record {
      after = λ k l n from to m ms s p e.
          let c = on_paths k l s in
          let w = f.walks c.0 c.1 c.2 c.3 in
          let r = split sys dropped keyed static w.2 c.4.place l c.4.stands in
          let d =
          static.one_edge.one l l n c.0 from r.from to r.to (live sys dropped keyed static p e)
          (split_live sys dropped keyed static r) refl in
          let u : m ∷ ms ≡ r.rest =
          path_unique sys dropped keyed static p
          (subst (λ z. Path sys dropped n r.rest z) (sym d.2)
          (subst (λ z. Path sys dropped z r.rest r.from) (sym d.1) r.path)) in
          let q = piece 0 sys.net.variables f.path c.0 c.0 c.1 c.2 c.3 (omega arith) in
          let here : f.path c.0 ≡ r.front ++ (l ∷ (m ∷ ms)) = r.is ∙ ap (λ z. r.front ++ (l ∷ z)) (sym u) in
          follow k l m ms s c.0 q r.front here;
    }
      where
        at_end : (front rest : List Label) (l : Label) → Stands (front ++ (l ∷ rest)) (length front) l
        at_end [] rest l = refl
        at_end (x ∷ front) rest l = at_end front rest l

        follow : (k : ℕ) (l m : Label) (ms : List Label) → Stands whole k l
            → (n : ℕ) (q : Piece (f.path n) whole) (front : List Label) → f.path n ≡ front ++ (l ∷ (m ∷ ms))
            → (j : ℕ) × (k < j) × Stands whole j m
        follow k l m ms s n q front here =
            let a : Stands (f.path n) (length front) l =
            subst (λ z. Stands z (length front) l) (sym here) (at_end front (m ∷ ms) l) in
            let b : Stands (f.path n) (length front + 1) m =
            subst (λ z. Stands z (length front + 1) m) (sym here)
            (stands_right front (l ∷ (m ∷ ms)) 1 (length front + 1) m refl refl) in
            let c : Stands whole (length q.front + length front) l =
            subst (λ z. Stands z (length q.front + length front) l) (sym q.is)
            (stands_right q.front (f.path n ++ q.rest) (length front) (length q.front + length front) l refl
            (stands_left (f.path n) q.rest (length front) l a)) in
            let d : Stands whole (length q.front + (length front + 1)) m =
            subst (λ z. Stands z (length q.front + (length front + 1)) m) (sym q.is)
            (stands_right q.front (f.path n ++ q.rest) (length front + 1) (length q.front + (length front + 1)) m refl
            (stands_left (f.path n) q.rest (length front + 1) m b)) in
            let i : k ≡ length q.front + length front =
            line_events.once k (length q.front + length front) l l s c refl in
            (length q.front + (length front + 1), omega (arith, i), d)

  -- the line of a firable set, the last first, is a legal order of it
  pub line_is_legal : {set : List ℕ} {ls : List Label} → IsLine sys dropped set ls
      → IsLegalOrder sys dropped set (reverse ls)
  line_is_legal {set = set} {ls = ls} h =
      let f = h.is_firable in
      let e : reverse ls ≡ backward 0 sys.net.variables f.path =
      ap reverse h.is ∙ turned_round 0 sys.net.variables f.path in
      subst (λ z. IsLegalOrder sys dropped set z) (sym e)
      (record {
        values = h.values;
        is_firable = f;
        on_paths = on_paths f;
        events = line_events f;
        in_order = line_in_order f;
      })

  -- a set has one line
  pub one_line : {set other : List ℕ} {ls ks : List Label} → Within set other → Within other set
      → IsLine sys dropped set ls → IsLine sys dropped other ks → ls ≡ ks
  one_line {set = set} {other = other} h k a b = a.is ∙ (go 0 sys.net.variables (at_start a.is_firable) ∙ sym b.is)
    where
      go : (n : ℕ) (xs : List (Variable V))
          → ((k : ℕ) (x : Variable V) → Stands xs k x → (m : ℕ) → m ≡ n + k → Stands sys.net.variables m x)
          → firing_line n xs a.is_firable.path ≡ firing_line n xs b.is_firable.path
      go n [] at = refl
      go n (x ∷ xs) at = here x.is_state refl (go (suc n) xs (λ k y s m e. at (suc k) y s m (omega (arith, e))))
        where
          paths : x.is_state ≡ true → a.is_firable.path n ≡ b.is_firable.path n
          paths i =
              let s = at zero x refl n (omega arith) in
              let w = a.is_firable.walks n x s i in
              let v = b.is_firable.walks n x s i in
              path_same sys dropped keyed static w.2 v.2
              (on_path sys dropped keyed static a.is_firable b.is_firable h n x s i)
              (on_path sys dropped keyed static b.is_firable a.is_firable k n x s i)

          here : (b' : Bool) → x.is_state ≡ b'
              → firing_line (suc n) xs a.is_firable.path ≡ firing_line (suc n) xs b.is_firable.path
              → cond b' (reverse (a.is_firable.path n)) [] ++ firing_line (suc n) xs a.is_firable.path
              ≡ cond b' (reverse (b.is_firable.path n)) [] ++ firing_line (suc n) xs b.is_firable.path
          here true i r = let q = paths i in cc
          here false i r = r
