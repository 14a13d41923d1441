-- The family of the walk lists the sets that are firable in the trees.
use Rattle.std.proofs.Common.{◌≡◌, ◌⊎◌, inl, inr, ⊎_elim, ℕ, zero, suc, ◌<◌, ◌≤◌, Bool, true, false, cond, eqb, nat_lt, List, [], ◌∷◌, map, refl, sym, ap, ◌∙◌, subst, arith, eqb-true, lt_trans}
use Rattle.std.specs.List.{AllByRecursion}
use Rattle.std.proofs.lemmas.Bool.Decides.{nat_tests}
use Rattle.ar_base.specs.Lists.{Stands, IsOneOf}
use Rattle.ar_base.proofs.Standing.{stands_map, one_first, one_rest, one_cases, along_on, along_back}
use Rattle.ar_base.specs.Lists.Along.{none, one_and}
use Rattle.domains.specs.declared.Value.{Value}
use Rattle.ar_meaning.specs.Runs.{Label}
use Rattle.ar_firing.specs.Forest.{ModeTree}
use Rattle.ar_base.specs.Sets.{Within}
use Rattle.ar_firing.specs.Trees.{HaveOwnEvents}
use Rattle.ar_firing.specs.Listed.{AreListed}
use Rattle.zdd_nodes.specs.Families.{Family, holds, has}
use Rattle.zdd_nodes.proofs.Ascending.{IsAscending}
use Rattle.zdd_nodes.proofs.Laws.{holds_here, holds_more}
use Rattle.zdd_nodes.proofs.Members.{holds_law}
use Rattle.zdd_nodes.proofs.Minimal.{witness}
use Rattle.firable_families.specs.FirableInside.{LeadsToMode, root, edge, HaveEvents, IsPathSet, IsFirableOf}
use Rattle.firable_families.specs.Walk.{left, occurs, AreTreeFamilies, AreEventsBelow}
use Rattle.firable_families.proofs.Listing.{lists_listed, stands_has, has_stands}
use Rattle.firable_families.proofs.Merging.{IsMerged, AreParted, occurs_from, left_sound, map_stands}
use Rattle.firable_families.proofs.Whole.{left_family, left_whole}

-- ---- the same members in order
abbrev pub insert : ℕ → List ℕ → List ℕ
insert x [] = x ∷ []
insert x (y ∷ s) = cond (eqb x y) (y ∷ s) (cond (nat_lt x y) (x ∷ y ∷ s) (y ∷ insert x s))

abbrev pub sorted : List ℕ → List ℕ
sorted [] = []
sorted (x ∷ s) = insert x (sorted s)

above_then : (x y : ℕ) (s : List ℕ) → x < y → AllByRecursion (λ z. y < z) s → AllByRecursion (λ z. x < z) s
above_then x y [] l a = tt
above_then x y (z ∷ s) l a = (lt_trans l a.0, above_then x y s l a.1)

insert_above : (w x : ℕ) (s : List ℕ) → w < x → AllByRecursion (λ z. w < z) s → AllByRecursion (λ z. w < z) (insert x s)
insert_above w x [] l a = (l, tt)
insert_above w x (y ∷ s) l a = elim (eqb x y) as
    (λ b. AllByRecursion (λ z. w < z) (cond b (y ∷ s) (cond (nat_lt x y) (x ∷ y ∷ s) (y ∷ insert x s)))) [
      | true ↦ a
      | false ↦ elim (nat_lt x y) as (λ b. AllByRecursion (λ z. w < z) (cond b (x ∷ y ∷ s) (y ∷ insert x s)))
          [ true ↦ (l, a) | false ↦ (a.0, insert_above w x s l a.1) ]
    ]

insert_ascends : (x : ℕ) (s : List ℕ) → IsAscending s → IsAscending (insert x s)
insert_ascends x [] a = (tt, tt)
insert_ascends x (y ∷ s) a = step (insert_ascends x s a.1) (eqb x y) refl (nat_lt x y) refl
  where
    step : IsAscending (insert x s) → (b : Bool) → eqb x y ≡ b → (c : Bool) → nat_lt x y ≡ c
        → IsAscending (cond (eqb x y) (y ∷ s) (cond (nat_lt x y) (x ∷ y ∷ s) (y ∷ insert x s)))
    step ih true e c f = subst (λ b. IsAscending (cond b (y ∷ s) (cond (nat_lt x y) (x ∷ y ∷ s) (y ∷ insert x s))))
        (sym e) a
    step ih false e true f =
        let l : x < y = grind (arith, nat_tests, f) in
        subst (λ b. IsAscending (cond b (y ∷ s) (cond (nat_lt x y) (x ∷ y ∷ s) (y ∷ insert x s)))) (sym e)
        (subst (λ c. IsAscending (cond c (x ∷ y ∷ s) (y ∷ insert x s))) (sym f) ((l, above_then x y s l a.0), a))
    step ih false e false f =
        let l : y < x = grind (arith, nat_tests, e, f) in
        subst (λ b. IsAscending (cond b (y ∷ s) (cond (nat_lt x y) (x ∷ y ∷ s) (y ∷ insert x s)))) (sym e)
        (subst (λ c. IsAscending (cond c (x ∷ y ∷ s) (y ∷ insert x s))) (sym f) (insert_above y x s l a.0, ih))

sorted_ascends : (s : List ℕ) → IsAscending (sorted s)
sorted_ascends [] = tt
sorted_ascends (x ∷ s) = insert_ascends x (sorted s) (sorted_ascends s)

one_either : (x e : ℕ) (s : List ℕ) → IsOneOf (x ∷ s) e → (e ≡ x) ⊎ IsOneOf s e
one_either x e s i = ⊎_elim (λ t. inl (sym t)) (λ j. inr j) (one_cases x s e i)

insert_one : (x e : ℕ) (s : List ℕ) → IsOneOf (x ∷ s) e → IsOneOf (insert x s) e
insert_one x e [] i = i
insert_one x e (y ∷ s) i = step (λ j. insert_one x e s j) (eqb x y) refl
  where
    step : (IsOneOf (x ∷ s) e → IsOneOf (insert x s) e) → (b : Bool) → eqb x y ≡ b
        → IsOneOf (cond (eqb x y) (y ∷ s) (cond (nat_lt x y) (x ∷ y ∷ s) (y ∷ insert x s))) e
    step ih true q = subst (λ b. IsOneOf (cond b (y ∷ s) (cond (nat_lt x y) (x ∷ y ∷ s) (y ∷ insert x s))) e) (sym q)
        (⊎_elim (λ r. subst (IsOneOf (y ∷ s)) (sym (r ∙ eqb-true x y q)) (one_first y s)) (λ j. j)
        (one_either x e (y ∷ s) i))
    step ih false q = subst (λ b. IsOneOf (cond b (y ∷ s) (cond (nat_lt x y) (x ∷ y ∷ s) (y ∷ insert x s))) e) (sym q)
        (elim (nat_lt x y) as (λ c. IsOneOf (cond c (x ∷ y ∷ s) (y ∷ insert x s)) e) [
          | true ↦ i
          | false ↦ ⊎_elim (λ r. one_rest y (insert x s) e (ih (subst (IsOneOf (x ∷ s)) (sym r) (one_first x s))))
              (λ j. ⊎_elim (λ r. subst (IsOneOf (y ∷ insert x s)) (sym r) (one_first y (insert x s)))
              (λ k. one_rest y (insert x s) e (ih (one_rest x s e k))) (one_either y e s j))
              (one_either x e (y ∷ s) i)
        ])

one_insert : (x e : ℕ) (s : List ℕ) → IsOneOf (insert x s) e → IsOneOf (x ∷ s) e
one_insert x e [] i = i
one_insert x e (y ∷ s) i = step (λ j. one_insert x e s j) (eqb x y) refl (nat_lt x y) refl
  where
    step : (IsOneOf (insert x s) e → IsOneOf (x ∷ s) e) → (b : Bool) → eqb x y ≡ b → (c : Bool) → nat_lt x y ≡ c
        → IsOneOf (x ∷ y ∷ s) e
    step ih true q c r = one_rest x (y ∷ s) e
        (subst (λ b. IsOneOf (cond b (y ∷ s) (cond (nat_lt x y) (x ∷ y ∷ s) (y ∷ insert x s))) e) q i)
    step ih false q true r = subst (λ c. IsOneOf (cond c (x ∷ y ∷ s) (y ∷ insert x s)) e) r
        (subst (λ b. IsOneOf (cond b (y ∷ s) (cond (nat_lt x y) (x ∷ y ∷ s) (y ∷ insert x s))) e) q i)
    step ih false q false r =
        ⊎_elim (λ t. one_rest x (y ∷ s) e (subst (IsOneOf (y ∷ s)) (sym t) (one_first y s)))
        (λ j. ⊎_elim (λ t. subst (IsOneOf (x ∷ y ∷ s)) (sym t) (one_first x (y ∷ s)))
        (λ k. one_rest x (y ∷ s) e (one_rest y s e k)) (one_either x e s (ih j)))
        (one_either y e (insert x s) (subst (λ c. IsOneOf (cond c (x ∷ y ∷ s) (y ∷ insert x s)) e) r
        (subst (λ b. IsOneOf (cond b (y ∷ s) (cond (nat_lt x y) (x ∷ y ∷ s) (y ∷ insert x s))) e) q i)))

in_sorted : (s : List ℕ) (e : ℕ) → IsOneOf s e → IsOneOf (sorted s) e
in_sorted [] e i = i
in_sorted (x ∷ s) e i = insert_one x e (sorted s)
    (⊎_elim (λ r. subst (IsOneOf (x ∷ sorted s)) (sym r) (one_first x (sorted s)))
    (λ j. one_rest x (sorted s) e (in_sorted s e j)) (one_either x e s i))

sorted_in : (s : List ℕ) (e : ℕ) → IsOneOf (sorted s) e → IsOneOf s e
sorted_in [] e i = i
sorted_in (x ∷ s) e i = ⊎_elim (λ r. subst (IsOneOf (x ∷ s)) (sym r) (one_first x s))
    (λ j. one_rest x s e (sorted_in s e j)) (one_either x e (sorted s) (one_insert x e (sorted s) i))

-- ---- trees and their families
-- one in front
abbrev pub fore : {A : Type 0} → A → (ℕ → A) → ℕ → A
fore a f zero = a
fore a f (suc k) = f k

-- from a set of each tree's family a path of each tree, and back
from_choice : {trees : List ModeTree} {fs : List Family} → AreTreeFamilies trees fs → (choice : ℕ → List ℕ)
    → ((n : ℕ) (f : Family) → Stands fs n f → has f (choice n) ≡ true)
    → (path : ℕ → List Label) × ((k : ℕ) (tree : ModeTree) → Stands trees k tree
    → ((m : Value) × LeadsToMode tree (path k) m) × HaveEvents (path k) (choice k))
from_choice none choice each = (λ k. [], λ k tree i. cc)
from_choice (one_and {a = tree} {b = f} {xs = xs} r rest) choice each =
    let i = has_stands f (choice zero) (each zero f refl) in
    let s = r.sound i.place (choice zero) i.stands in
    let ih = from_choice rest (λ k. choice (suc k)) (λ n g j. each (suc n) g j) in
    (fore s.labels ih.0, at xs ih.0 s ih.1)
  where
    at : (ts : List ModeTree) (path : ℕ → List Label) → (s : IsPathSet tree (choice zero))
        → ((k : ℕ) (t : ModeTree) → Stands ts k t
        → ((m : Value) × LeadsToMode t (path k) m) × HaveEvents (path k) (choice (suc k)))
        → (k : ℕ) (t : ModeTree) → Stands (tree ∷ ts) k t
        → ((m : Value) × LeadsToMode t (fore s.labels path k) m) × HaveEvents (fore s.labels path k) (choice k)
    at ts path s ih zero t i = let e : tree ≡ t = cc in ((s.end, subst (λ z. LeadsToMode z s.labels s.end) e s.leads), s.events)
    at ts path s ih (suc k) t i = ih k t i

have_map : (ls : List Label) → HaveEvents ls (map (λ l. l.event) ls)
have_map ls = record {
  sound = λ k l i. record { place = k; stands = stands_map (λ l. l.event) ls k l i };
  whole = λ e i. let r = map_stands (λ l. l.event) ls i.place e i.stands in (r.0, record { place = i.place; stands = r.1 }, sym r.2);
}

have_within : (ls : List Label) (s t : List ℕ) → Within s t → Within t s → HaveEvents ls s → HaveEvents ls t
have_within ls s t v w h = record {
  sound = λ k l i. v.each l.event (h.sound k l i);
  whole = λ e i. h.whole e (w.each e i);
}

from_path : {trees : List ModeTree} {fs : List Family} → AreTreeFamilies trees fs → (path : ℕ → List Label)
    → ((k : ℕ) (tree : ModeTree) → Stands trees k tree → (m : Value) × LeadsToMode tree (path k) m)
    → (choice : ℕ → List ℕ) × ((k : ℕ) (f : Family) → Stands fs k f
    → (has f (choice k) ≡ true) × HaveEvents (path k) (choice k))
from_path none path leads = (λ k. [], λ k f i. cc)
from_path (one_and {a = tree} {b = f} {ys = ys} r rest) path leads =
    let l = leads zero tree refl in
    let w = r.whole (map (λ l. l.event) (path zero))
    (record { labels = path zero; end = l.0; leads = l.1; events = have_map (path zero) }) in
    let ih = from_path rest (λ k. path (suc k)) (λ k t i. leads (suc k) t i) in (
      fore w.0 ih.0,
      at ys ih.0 w.0 (stands_has f w.1.place w.0 w.1.stands)
          (have_within (path zero) (map (λ l. l.event) (path zero)) w.0 w.2 w.3 (have_map (path zero))) ih.1,
    )
  where
    at : (gs : List Family) (choice : ℕ → List ℕ) (t : List ℕ) → has f t ≡ true → HaveEvents (path zero) t
        → ((k : ℕ) (g : Family) → Stands gs k g → (has g (choice k) ≡ true) × HaveEvents (path (suc k)) (choice k))
        → (k : ℕ) (g : Family) → Stands (f ∷ gs) k g
        → (has g (fore t choice k) ≡ true) × HaveEvents (path k) (fore t choice k)
    at gs choice t h v ih zero g i = let e : f ≡ g = cc in (ap (λ z. has z t) (sym e) ∙ h, v)
    at gs choice t h v ih (suc k) g i = ih k g i

-- a label on a path is an edge of the tree
on_path : {tree : ModeTree} {ls : List Label} {m : Value} → LeadsToMode tree ls m → (k : ℕ) (l : Label) → Stands ls k l
    → (a : Value) × (b : Value) × IsOneOf tree.edges (record { from = a; label = l; to = b })
on_path (root e) k l i = cc
on_path {tree = tree} (edge {l = h} {m = m} {to = to} p r) zero l i = let e : h ≡ l = cc in (m, to, subst (λ z. IsOneOf tree.edges (record { from = m; label = z; to = to })) e r)
on_path (edge p r) (suc k) l i = on_path p k l i

module _ (trees : List ModeTree) (fs : List Family) (families : AreTreeFamilies trees fs) where
  pub merged_firable : (s : List ℕ) → IsMerged fs s → IsFirableOf trees s
  merged_firable s m =
      let c = from_choice families m.choice m.each in
      record {
        path = c.0;
        walks = λ k tree i. (c.1 k tree i).0;
        sound = λ k tree i j l h.
            let r = along_on trees fs families k tree i in
            (holds_law l.event s).0 (m.sound k r.0 l.event r.1
            ((holds_law l.event (m.choice k)).1 ((c.1 k tree i).1.sound j l h)));
        whole = λ e i.
            let w = m.whole e ((holds_law e s).1 i) in
            let r = along_back trees fs families w.0 w.1 w.2 in
            let x = (c.1 w.0 r.0 r.1).1.whole e ((holds_law e (m.choice w.0)).0 w.3) in
            (w.0, r.0, x.0, r.1, x.1, x.2);
      }

  pub firable_merged : (s t : List ℕ) → Within s t → Within t s → IsFirableOf trees s → IsMerged fs t
  firable_merged s t v w p =
      let c = from_path families p.path p.walks in
      record {
        choice = c.0;
        each = λ n f i. (c.1 n f i).0;
        sound = λ n f e i h.
            let r = along_back trees fs families n f i in
            let x = (c.1 n f i).1.whole e ((holds_law e (c.0 n)).0 h) in
            (holds_law e t).1 (v.each e (subst (IsOneOf s) x.2 (p.sound n r.0 r.1 x.1.place x.0 x.1.stands)));
        whole = λ e h.
            let x = p.whole e (w.each e ((holds_law e t).0 h)) in
            let r = along_on trees fs families x.0 x.1 x.3 in (
              x.0,
              r.0,
              r.1,
              (holds_law e (c.0 x.0)).1
                  (subst (IsOneOf (c.0 x.0)) x.5 ((c.1 x.0 r.0 r.1).1.sound x.4.place x.2 x.4.stands)),
            );
      }

  pub apart_parted : HaveOwnEvents trees → AreParted fs
  apart_parted a = record {
    one = λ m n e f g i j x y.
        let p = at e m f i x in
        let q = at e n g j y in
        a.one m n p.0 q.0 p.3 p.4 q.3 q.4 p.2 q.2 p.1 q.1 p.5 q.5 (p.6 ∙ sym q.6);
  }
    where
      at : (e n : ℕ) (f : Family) → Stands fs n f → occurs e f ≡ true
          → (tree : ModeTree) × Stands trees n tree × (l : Label) × (a : Value) × (b : Value)
          × IsOneOf tree.edges (record { from = a; label = l; to = b }) × (l.event ≡ e)
      at e n f i x =
          let r = along_back trees fs families n f i in
          let w = witness (holds e) f x in
          let k = has_stands f w.set w.in_family in
          let s = r.2.sound k.place w.set k.stands in
          let l = s.events.whole e ((holds_law e w.set).0 w.passes) in
          let t = on_path s.leads l.1.place l.0 l.1.stands in
          (r.0, r.1, l.0, t.0, t.1, t.2, l.2)

  all_members : (Q : ℕ → Type 0) (t : List ℕ) → ((e : ℕ) → holds e t ≡ true → Q e) → AllByRecursion Q t
  all_members Q [] h = tt
  all_members Q (x ∷ t) h = (h x (holds_here x t), all_members Q t (λ e k. h e (holds_more e x t k)))

  -- the walk through the events below n lists the firable sets
  pub walk_lists : (n : ℕ) → HaveOwnEvents trees → AreEventsBelow n fs → AreListed (IsFirableOf trees) (left n 0 fs)
  walk_lists n a b = lists_listed (record {
    is_family = left_family n 0 fs;
    sound = λ s h. merged_firable s (left_sound n 0 fs s h);
    whole = λ s p.
        let t = sorted s in
        let v : Within s t = record { each = in_sorted s } in
        let w : Within t s = record { each = sorted_in s } in
        let m = firable_merged s t v w p in (
          t,
          left_whole n 0 n fs t (omega arith) (apart_parted a) (sorted_ascends s)
              (all_members (λ x. 0 ≤ x) t (λ e h. omega arith))
              (all_members (λ x. x < n) t (λ e h. let x = m.whole e h in b.each x.0 e x.1 x.2 (occurs_from e x.1 (m.choice x.0) (m.each x.0 x.1 x.2) x.3))) m,
          v,
          w,
        );
  })
