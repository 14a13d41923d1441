-- The missing cuts among those that are listed.
use Rattle.std.proofs.Common.{◌≡◌, ◌<◌, ◌+◌, ⊎_elim, ℕ, zero, suc, Bool, true, false, ◌&&◌, if◌then◌else◌, codes, List, [], ◌∷◌, ◌++◌, map, reverse, refl, sym, ◌∙◌, ap, subst, arith}
use Rattle.std.proofs.lemmas.List.{reverse-append}
use Rattle.ar_base.specs.Lists.{Stands, IsOneOf}
use Rattle.ar_base.specs.Lists as l
use Rattle.ar_base.specs.Sets.{Within}
use Rattle.ar_base.specs.Texts.{line}
use Rattle.ar_base.proofs.Standing.{stands_none, stands_map, stands_map_back, one_here, one_cases, one_first, one_rest, one_left, one_right}
use Rattle.ar_firing.specs.Forest.{ModeTree}
use Rattle.ar_firing.proofs.LeastSets.{within_then}
use Rattle.ar_meaning.specs.Runs.{Label}
use Rattle.gts_core.specs.declared.system.GtsParts.{GtsParts}
use Rattle.mode_trees.specs.declared.forests.Edge.{Edge}
use Rattle.min_cuts.specs.Lines.{line_from, IsInFiringOrder, AreInFiringOrder}
use Rattle.cut_text.specs.Printed.{events_text}
use Rattle.cut_check.specs.Verdicts.{IsListed}
use Rattle.check_text.specs.Printed.{listed_in, all_listed, missing_text}
use Rattle.check_text.specs.Texts.{is_none}
use Rattle.check_text.proofs.Listing.{listed_answer}
use Rattle.cut_text.proofs.Relabelled.{on_line}
use Rattle.gts_core.proofs.Tests.{answer_true, answer_false}

-- the labels of a path stand on the line
reversed_one : {A : Type 0} (xs : List A) (a : A) → IsOneOf xs a → IsOneOf (reverse xs) a
reversed_one [] a o = o
reversed_one (x ∷ xs) a o = subst (λ z. IsOneOf z a) (sym (reverse-append (x ∷ []) xs)) (⊎_elim
    (λ (i : x ≡ a). one_right (reverse xs) (x ∷ []) a (subst (λ z. IsOneOf (x ∷ []) z) i (one_first x [])))
    (λ q. one_left (reverse xs) (x ∷ []) a (reversed_one xs a q))
    (one_cases x xs a o))

path_on_line : (k : ℕ) (ts : List ModeTree) (path : ℕ → List Label) (j : ℕ) (t : ModeTree) (x : Label) → Stands ts j t
    → IsOneOf (path (k + j)) x → IsOneOf (line_from k ts path) x
path_on_line k [] path j t x s o = absurd (stands_none j t s)
path_on_line k (u ∷ ts) path zero t x s o =
    one_left (reverse (path k)) (line_from (suc k) ts path) x
    (reversed_one (path k) x (subst (λ (n : ℕ). IsOneOf (path n) x) (omega arith) o))
path_on_line k (u ∷ ts) path (suc j) t x s o =
    one_right (reverse (path k)) (line_from (suc k) ts path) x
    (path_on_line (suc k) ts path j t x s (subst (λ (n : ℕ). IsOneOf (path n) x) (omega arith) o))

-- the events of a set in firing order are its members
module _ (ts : List ModeTree) (set events : List ℕ) (g : IsInFiringOrder ts set events) where
  pub order_within : Within events set
  order_within = record {
    each = λ e o.
        let p = subst (λ (z : List ℕ). IsOneOf z e) g.is o in
        let x = stands_map_back (λ (k : Label). k.event) (line_from 0 ts g.is_firable.path) p.place e p.stands in
        let w = on_line 0 ts g.is_firable.path x.0 (one_here (line_from 0 ts g.is_firable.path) p.place x.0 x.1) in
        let q = subst (λ (n : ℕ). IsOneOf (g.is_firable.path n) x.0) (omega arith) w.3 in
        subst (λ (z : ℕ). IsOneOf set z) x.2 (g.is_firable.sound w.0 w.1 w.2 q.place x.0 q.stands);
  }

  pub within_order : Within set events
  within_order = record {
    each = λ e o.
        let w = g.is_firable.whole e o in
        let q = path_on_line 0 ts g.is_firable.path w.0 w.1 w.2 w.3
        (subst (λ (n : ℕ). IsOneOf (g.is_firable.path n) w.2) (omega arith) w.4) in
        subst (λ (z : List ℕ). IsOneOf z e) (sym g.is)
        (subst (λ (z : ℕ). IsOneOf (map (λ (k : Label). k.event) (line_from 0 ts g.is_firable.path)) z) w.5
        (one_here (map (λ (k : Label). k.event) (line_from 0 ts g.is_firable.path)) q.place w.2.event
        (stands_map (λ (k : Label). k.event) (line_from 0 ts g.is_firable.path) q.place w.2 q.stands)));
  }

pub listed_members : (lines : List (List Label)) (s t : List ℕ) → Within s t → Within t s → IsListed lines s
    → IsListed lines t
listed_members lines s t a b h = record
    { line = h.line; is_line = h.is_line; within = within_then h.within a; whole = within_then b h.whole }

-- the lines of these missing sets
abbrev pub missing_texts : GtsParts → List Edge → List (List ℕ) → List ℕ
missing_texts p edges [] = []
missing_texts p edges (events ∷ more) =
    line (codes "missing " ++ events_text p edges events) ++ missing_texts p edges more

-- those of the sets that are not listed, in order, with their lists
pub record Unlisted (p : GtsParts) (edges : List Edge) (lines : List (List Label)) (ts : List ModeTree)
    (sets lists : List (List ℕ)) : Type 0 where
  pub left : List (List ℕ)
  pub orders : List (List ℕ)
  pub along : AreInFiringOrder ts left orders
  pub text : missing_text p edges lines lists ≡ missing_texts p edges orders
  pub none_left : all_listed lines lists ≡ is_none left
  pub unlisted : (k : ℕ) (s : List ℕ) → Stands left k s → IsListed lines s → ⊥
  pub place : ℕ → ℕ
  pub places : (k : ℕ) (s : List ℕ) → Stands left k s → Stands sets (place k) s
  pub later : (j k : ℕ) → j < k → place j < place k
  pub whole : (k : ℕ) (s : List ℕ) → Stands sets k s → (IsListed lines s → ⊥) → IsOneOf left s

module _ (p : GtsParts) (edges : List Edge) (lines : List (List Label)) (ts : List ModeTree) where
  listed_first : (s es : List ℕ) (sets lists : List (List ℕ)) → listed_in lines es ≡ true → IsInFiringOrder ts s es
      → Unlisted p edges lines ts sets lists → Unlisted p edges lines ts (s ∷ sets) (es ∷ lists)
  listed_first s es sets lists yes_listed g u = record {
    left = u.left;
    orders = u.orders;
    along = u.along;
    text = ap (λ (b : Bool). (if b then [] else line (codes "missing " ++ events_text p edges es)) ++ missing_text p
        edges lines lists) yes_listed ∙ u.text;
    none_left = ap (λ (b : Bool). b && all_listed lines lists) yes_listed ∙ u.none_left;
    unlisted = u.unlisted;
    place = λ k. suc (u.place k);
    places = λ k t st. u.places k t st;
    later = λ j k h. let z = u.later j k h in omega (arith, z);
    whole = whole;
  }
    where
      whole : (k : ℕ) (t : List ℕ) → Stands (s ∷ sets) k t → (IsListed lines t → ⊥) → IsOneOf u.left t
      whole zero t st n =
          let same : s ≡ t = cc in
          let h = listed_members lines es s (order_within ts s es g) (within_order ts s es g)
          (answer_true (listed_in lines es) (IsListed lines es) yes_listed (listed_answer lines es)) in
          absurd (n (subst (λ (z : List ℕ). IsListed lines z) same h))
      whole (suc k) t st n = u.whole k t st n

  missing_first : (s es : List ℕ) (sets lists : List (List ℕ)) → listed_in lines es ≡ false → IsInFiringOrder ts s es
      → Unlisted p edges lines ts sets lists → Unlisted p edges lines ts (s ∷ sets) (es ∷ lists)
  missing_first s es sets lists not_listed g u = record {
    left = s ∷ u.left;
    orders = es ∷ u.orders;
    along = l.one_and g u.along;
    text = ap (λ (b : Bool). (if b then [] else line (codes "missing " ++ events_text p edges es)) ++ missing_text p
        edges lines lists) not_listed
        ∙ ap (λ (z : List ℕ). line (codes "missing " ++ events_text p edges es) ++ z) u.text;
    none_left = ap (λ (b : Bool). b && all_listed lines lists) not_listed;
    unlisted = unlisted;
    place = place;
    places = places;
    later = later;
    whole = whole;
  }
    where
      unlisted : (k : ℕ) (t : List ℕ) → Stands (s ∷ u.left) k t → IsListed lines t → ⊥
      unlisted zero t st h =
          let same : t ≡ s = cc in
          answer_false (listed_in lines es) (IsListed lines es) not_listed (listed_answer lines es)
          (listed_members lines s es (within_order ts s es g) (order_within ts s es g)
          (subst (λ (z : List ℕ). IsListed lines z) same h))
      unlisted (suc k) t st h = u.unlisted k t st h

      place : ℕ → ℕ
      place zero = zero
      place (suc k) = suc (u.place k)

      places : (k : ℕ) (t : List ℕ) → Stands (s ∷ u.left) k t → Stands (s ∷ sets) (place k) t
      places zero t st = st
      places (suc k) t st = u.places k t st

      later : (j k : ℕ) → j < k → place j < place k
      later zero zero h = absurd (omega (arith, h))
      later zero (suc k) h = omega arith
      later (suc j) zero h = absurd (omega (arith, h))
      later (suc j) (suc k) h = let z = u.later j k (omega (arith, h)) in omega (arith, z)

      whole : (k : ℕ) (t : List ℕ) → Stands (s ∷ sets) k t → (IsListed lines t → ⊥) → IsOneOf (s ∷ u.left) t
      whole zero t st n = let same : s ≡ t = cc in subst (λ (z : List ℕ). IsOneOf (s ∷ u.left) z) same (one_first s u.left)
      whole (suc k) t st n = one_rest s u.left t (u.whole k t st n)

  pub unlisted_of : {sets lists : List (List ℕ)} → AreInFiringOrder ts sets lists → Unlisted p edges lines ts sets lists
  unlisted_of l.none = record {
    left = [];
    orders = [];
    along = l.none;
    text = refl;
    none_left = refl;
    unlisted = λ k s st h. stands_none k s st;
    place = λ k. k;
    places = λ k s st. st;
    later = λ j k h. h;
    whole = λ k s st n. absurd (stands_none k s st);
  }
  unlisted_of (l.one_and {a = s} {b = es} {xs = sets} {ys = lists} g gs) = go (listed_in lines es) refl (unlisted_of gs)
    where
      go : (b : Bool) → listed_in lines es ≡ b → Unlisted p edges lines ts sets lists
          → Unlisted p edges lines ts (s ∷ sets) (es ∷ lists)
      go true e u = listed_first s es sets lists e g u
      go false e u = missing_first s es sets lists e g u
