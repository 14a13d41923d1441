-- One more edge of a tree: the table of modes and the family of their sets.
use Rattle.std.proofs.Common.{◌≡◌, ◌⊎◌, inl, inr, ⊎_elim, ℕ, ℤ, zero, suc, ◌+◌, ◌<◌, ◌||◌, Bool, true, false, List, [], ◌∷◌, length, map, get_or, Option, Some, Result, Ok, Err, IfOk, refl, sym, ap, ◌∙◌, subst, arith, true≢false}
use Rattle.std.specs.HashMap.{HashMap, Updates}
use Rattle.std.proofs.lemmas.Bool.Decides.{Decides-int_eq, nat_tests}
use Rattle.std.proofs.lemmas.Bool.{or_cases, or_right}
use Rattle.ar_base.specs.Lists.{Stands, IsOneOf}
use Rattle.ar_base.specs.Sets.{Within}
use Rattle.ar_base.proofs.Standing.{stands_map, stands_get, stands_none, stands_one, stands_within, one_none, one_cases, one_first, one_rest}
use Rattle.ar_base.proofs.Sets.{within_self}
use Rattle.domains.specs.declared.Value.{Value}
use Rattle.domains.specs.declared.Value.TheVariants.{Truth, Whole, Symbol}
use Rattle.ar_meaning.specs.Runs.{Label}
use Rattle.ar_firing.specs.Forest.{Row, ModeTree}
use Rattle.ar_firing.specs.Listed.{AreListed}
use Rattle.ar_firing.specs.Trees.{IsTree}
use Rattle.mode_trees.specs.declared.forests.Edge.{Edge}
use Rattle.mode_trees.specs.declared.forests.ModeTree.{ModeTree as Tree}
use Rattle.mode_trees.specs.Views.{edge_row, tree_of}
use Rattle.zdd_nodes.specs.Families.{Family, same, has}
use Rattle.zdd_nodes.specs.FamiliesInside.{union}
use Rattle.zdd_nodes.specs.Sections.{IsCounted}
use Rattle.zdd_nodes.proofs.Laws.{same-refl, same-true}
use Rattle.zdd_nodes.proofs.Members.{has-union}
use Rattle.zdd_nodes.specs.Nodes.{NodeId, Stored, family, IsSoundStore, Draws}
use Rattle.zdd_nodes.specs.declared.NodeFault.{NodeFault}
use Rattle.zdd_nodes.proofs.Growing.{Grows-then, kept}
use Rattle.firable_families.specs.FirableInside.{root, edge, HaveEvents, IsPathSet}
use Rattle.firable_families.specs.Entries.{IsEntry, HasEntries}
use Rattle.firable_families.proofs.ModePaths.{entries_listed}
use Rattle.mode_diagrams.specs.Numbers.{IsEnteredBefore}
use Rattle.gate_diagrams.specs.Paths.{AddsFamilies, key_of, same_key, number_at, IsOneSet, IsWith, IsModeKnown, AreModesTabled}
use Rattle.gate_diagrams.proofs.Adding.{extends, one_still}

-- ---- keys
key_one : (a b : Value) → same_key (key_of a) (key_of b) ≡ true → a ≡ b
key_one (Truth true) (Truth true) e = refl
key_one (Truth false) (Truth false) e = refl
key_one (Truth true) (Truth false) e = cc
key_one (Truth false) (Truth true) e = cc
key_one (Truth b) (Whole n) e = cc
key_one (Truth b) (Symbol s) e = cc
key_one (Whole n) (Truth b) e = cc
key_one (Whole n) (Whole m) e = ap Whole ((Decides-int_eq n m).0 e)
key_one (Whole n) (Symbol s) e = cc
key_one (Symbol s) (Truth b) e = cc
key_one (Symbol s) (Whole n) e = cc
key_one (Symbol s) (Symbol t) e = ap Symbol (grind (arith, nat_tests, e))

module _ {S : Type 0} (old new : HashMap (ℕ × ℤ) NodeId S) (m : Value) (n : NodeId)
    (u : Updates same_key old new (key_of m) (Some n)) where
  pub found_here : number_at new m ≡ Some n
  found_here = u.1

  pub found_other : (q : Value) → (q ≡ m) ⊎ (number_at new q ≡ number_at old q)
  found_other q = step (same_key (key_of m) (key_of q)) refl
    where
      step : (b : Bool) → same_key (key_of m) (key_of q) ≡ b → (q ≡ m) ⊎ (number_at new q ≡ number_at old q)
      step true e = inl (sym (key_one m q e))
      step false e = inr (u.2 (key_of q) e)

has_single : (set s : List ℕ) → has (set ∷ []) s ≡ true → s ≡ set
has_single set s h = ⊎_elim (λ e. same-true s set e) (λ e. absurd (true≢false (sym e)))
    (or_cases (same s set) false h)

has_itself : (set : List ℕ) → has (set ∷ []) set ≡ true
has_itself set = ap (λ b. b || false) (same-refl set)

entry_alone : (m : Value) (set : List ℕ) → HasEntries ((m, set) ∷ []) (set ∷ [])
entry_alone m set = record {
  sound = λ s h. let e = has_single set s h in (
    m,
    set,
    one_first (m, set) [],
    subst (λ z. Within z set) (sym e) (within_self set),
    subst (Within set) (sym e)
        (within_self set),
  );
  whole = λ n other i. ⊎_elim
      (λ (e : (m, set) ≡ (n, other)). (
        set,
        has_itself set,
        subst (λ z. Within z set) (ap (λ (z : Value × List ℕ). z.1) e)
            (within_self set),
        subst (Within set) (ap (λ (z : Value × List ℕ). z.1) e) (within_self set),
      ))
      (λ j. absurd (one_none (n, other) j)) (one_cases (m, set) [] (n, other) i);
}

entry_more : (entries : List (Value × List ℕ)) (m : Value) (set : List ℕ) (f : Family) → HasEntries entries f
    → HasEntries ((m, set) ∷ entries) (union f (set ∷ []))
entry_more entries m set f h = record {
  sound = λ s x. ⊎_elim
      (λ e. let w = h.sound s e in (w.0, w.1, one_rest (m, set) entries (w.0, w.1) w.2, w.3, w.4))
      (λ e. let q = has_single set s e in (
        m,
        set,
        one_first (m, set) entries,
        subst (λ z. Within z set) (sym q) (within_self set),
        subst (Within set)
            (sym q) (within_self set),
      ))
      (or_cases (has f s) (has (set ∷ []) s) (sym (has-union f (set ∷ []) s) ∙ x));
  whole = λ n other i. ⊎_elim
      (λ (e : (m, set) ≡ (n, other)). (
        set,
        has-union f (set ∷ []) set ∙ or_right (has f set) (has (set ∷ []) set) (has_itself set),
        subst (λ z. Within z set) (ap (λ (z : Value × List ℕ). z.1) e) (within_self set),
        subst (Within set) (ap (λ (z : Value × List ℕ). z.1) e) (within_self set),
      ))
      (λ j. let w = h.whole n other j in
      (w.0, has-union f (set ∷ []) w.0 ∙ ap (λ b. b || has (set ∷ []) w.0) w.1, w.2, w.3))
      (one_cases (m, set) entries (n, other) i);
}

-- ---- the table
pub some_one : (a b : NodeId) → ◌≡◌ {A = Option NodeId} (Some a) (Some b) → a ≡ b
some_one a b e = cc

-- stands for no edge
abbrev pub no_edge : Edge
no_edge = record {
  from = Truth false;
  event = record { n = 0; of = record {} };
  way = record { n = 0; of = record {} };
  to = Truth false;
}

pub edge_stands : (tree : Tree) (items : List Edge) (k : ℕ) → items ≡ tree.edges.items → k < length items
    → Stands (tree_of (λ n. n) tree).edges k (edge_row (λ n. n) (get_or items k no_edge))
edge_stands tree items k e l =
    subst (λ (z : List Edge). Stands (map (edge_row (λ n. n)) z) k (edge_row (λ n. n) (get_or items k no_edge))) e
    (stands_map (edge_row (λ n. n)) items k (get_or items k no_edge) (stands_get items k no_edge l))

no_events : HaveEvents [] []
no_events = record { sound = λ k l i. absurd (stands_none k l i); whole = λ e i. absurd (one_none e i) }

events_more : (l : Label) (ls : List Label) (set more : List ℕ) → HaveEvents ls set → IsWith l.event set more
    → HaveEvents (l ∷ ls) more
events_more l ls set more h w = record {
  sound = λ k x i. ⊎_elim (λ (e : l ≡ x). subst (λ (z : Label). IsOneOf more z.event) e w.event)
      (λ (j : IsOneOf ls x). w.kept.each x.event (h.sound j.place x j.stands))
      (one_cases l ls x (record { place = k; stands = i }));
  whole = λ e i. ⊎_elim (λ q. (l, one_first l ls, sym q))
      (λ j. let r = h.whole e j in (r.0, one_rest l ls r.0 r.1, r.2)) (w.sound e i);
}

-- the first mode of a tree, with no event
abbrev first_alone : ModeTree → List (Value × List ℕ)
first_alone tree = (tree.first, []) ∷ []

-- a tree without edges has one path, with no event
pub edgeless_listed : (tree : ModeTree) → IsTree tree → (s : Stored) (n : ℕ) → n ≡ 1 → IsSoundStore s
    → length tree.edges ≡ 0 → AreListed (IsPathSet tree) (family s n)
edgeless_listed tree t s n one sound none =
    entries_listed tree t (first_alone tree) (record {
      sound = only;
      first = ([], one_first (tree.first, []) []);
      entered = λ r o. let w = stands_within tree.edges o.place r o.stands in absurd (omega (arith, none, w));
    }) (family s n) (sound.families n (omega (arith, one)))
    (subst (HasEntries (first_alone tree)) (sym (ap (family s) one)) (entry_alone tree.first []))
  where
    only : (j : ℕ) (m : Value) (set : List ℕ) → Stands (first_alone tree) j (m, set) → IsEntry tree m set
    only zero m set i =
        let e : ◌≡◌ {A = Value × List ℕ} (tree.first, []) (m, set) = cc in
        record {
          labels = [];
          leads = root (ap (λ (z : Value × List ℕ). z.0) e);
          events = subst (HaveEvents []) (ap (λ (z : Value × List ℕ). z.1) e) no_events;
        }
    only (suc j) m set i = absurd (stands_none j (m, set) i)

module _ {S : Type 0} (tree : ModeTree) where
  -- before the first edge
  pub tabled_first : (old modes : HashMap (ℕ × ℤ) NodeId S) (s : Stored) (n : NodeId) → n.n ≡ 1
      → Updates same_key old modes (key_of tree.first) (Some n)
      → AreModesTabled tree 0 modes s n.n
  tabled_first old modes s n one u = record {
    entries = (tree.first, []) ∷ [];
    sound = first_entry;
    known = λ m r. ⊎_elim
        (λ (q : m ≡ tree.first).
        subst (λ z. (i : IsModeKnown modes s z) × IsOneOf {A = Value × List ℕ} ((tree.first, []) ∷ []) (z, i.set))
        (sym q) first_known)
        (λ w. absurd (omega (arith, w.2))) r;
    in_store = omega (arith, one);
    has = subst (HasEntries ((tree.first, []) ∷ [])) (sym (ap (family s) one)) (entry_alone tree.first []);
  }
    where
      first_entry : (j : ℕ) (m : Value) (set : List ℕ)
          → Stands {A = Value × List ℕ} ((tree.first, []) ∷ []) j (m, set) → IsEntry tree m set
      first_entry zero m set i =
          let e : ◌≡◌ {A = Value × List ℕ} (tree.first, []) (m, set) = cc in
          record {
            labels = [];
            leads = root (ap (λ (z : Value × List ℕ). z.0) e);
            events = subst (HaveEvents []) (ap (λ (z : Value × List ℕ). z.1) e) no_events;
          }
      first_entry (suc j) m set i = absurd (stands_none j (m, set) i)

      first_known : (i : IsModeKnown modes s tree.first) × IsOneOf {A = Value × List ℕ} ((tree.first, []) ∷ [])
          (tree.first, i.set)
      first_known = (
        record {
          number = n;
          found = found_here old modes tree.first n u;
          set = [];
          one = record { in_store = omega (arith, one); is = ap (family s) one };
        },
        one_first (tree.first, []) [],
      )

  -- after the last
  pub tabled_listed : (t : IsTree tree) (k : ℕ) (modes : HashMap (ℕ × ℤ) NodeId S) (s : Stored) (paths : ℕ)
      → IsSoundStore s → k ≡ length tree.edges
      → AreModesTabled tree k modes s paths → AreListed (IsPathSet tree) (family s paths)
  tabled_listed t k modes s paths sound all i =
      entries_listed tree t i.entries (record {
        sound = i.sound;
        first = let w = i.known tree.first (inl refl) in (w.0.set, w.1);
        entered = λ r o. let w = i.known r.to
            (inr (o.place, r, omega (arith, all, stands_within tree.edges o.place r o.stands), o.stands, refl)) in
            (w.0.set, w.1);
      }) (family s paths) (sound.families paths i.in_store) i.has

  module _ (t : IsTree tree) (k : ℕ) (r : Row) (at : Stands tree.edges k r) (modes new : HashMap (ℕ × ℤ) NodeId S)
      (s0 s1 s2 : Stored) (paths : ℕ)
      (i : AreModesTabled tree k modes s0 paths) (before set : NodeId) (found : number_at modes r.from ≡ Some before)
      (more : (s : List ℕ) → IsOneSet s0 before.n s → (m : List ℕ) × IsOneSet s1 set.n m × IsWith r.label.event s m)
      (u : Updates same_key modes new (key_of r.to) (Some set)) (g : AddsFamilies s0 s1) where
    abbrev left_mode : (x : IsModeKnown modes s0 r.from) × IsOneOf i.entries (r.from, x.set)
    left_mode = i.known r.from (t.from k r at)

    abbrev is_before : left_mode.0.number ≡ before
    is_before = some_one left_mode.0.number before (sym left_mode.0.found ∙ found)

    abbrev made : (m : List ℕ) × IsOneSet s1 set.n m × IsWith r.label.event left_mode.0.set m
    made = more left_mode.0.set (subst (λ (z : NodeId). IsOneSet s0 z.n left_mode.0.set) is_before left_mode.0.one)

    entered : IsEntry tree r.to made.0
    entered =
        let e = i.sound left_mode.1.place r.from left_mode.0.set left_mode.1.stands in
        record {
          labels = r.label ∷ e.labels;
          leads = edge e.leads (record { place = k; stands = at });
          events = events_more r.label e.labels left_mode.0.set made.0 e.events made.2;
        }

    all_entries : (j : ℕ) (m : Value) (s : List ℕ) → Stands {A = Value × List ℕ} ((r.to, made.0) ∷ i.entries) j (m, s)
        → IsEntry tree m s
    all_entries zero m s x =
        let e : ◌≡◌ {A = Value × List ℕ} (r.to, made.0) (m, s) = cc in
        subst (λ (z : Value × List ℕ). IsEntry tree z.0 z.1) e entered
    all_entries (suc j) m s x = i.sound j m s x

    module _ (n : NodeId)
        (d : Draws (IsCounted (union (family s1 paths) (family s1 set.n)))
        (union (family s1 paths) (family s1 set.n)) s1 s2 (Ok n)) where
      abbrev Listed_known : Value → Type 0
      Listed_known m = (x : IsModeKnown new s2 m) × IsOneOf ((r.to, made.0) ∷ i.entries) (m, x.set)

      later : AddsFamilies s0 s2
      later = Grows-then (λ h. Unit {0}) s0 s1 s2 g (extends _ s1 s2 d.grows)

      new_known : Listed_known r.to
      new_known = (
        record {
          number = set;
          found = found_here modes new r.to set u;
          set = made.0;
          one = one_still s1 s2 set.n made.0 (extends _ s1 s2 d.grows) made.1;
        },
        one_first (r.to, made.0) i.entries,
      )

      old_known : (m : Value) → IsEnteredBefore tree k m → Listed_known m
      old_known m x = ⊎_elim (λ (q : m ≡ r.to). subst Listed_known (sym q) new_known)
          (λ (q : number_at new m ≡ number_at modes m).
          let w = i.known m x in
          let one = one_still s0 s2 w.0.number.n w.0.set later w.0.one in (
            record { number = w.0.number; found = q ∙ w.0.found; set = w.0.set; one = one },
            one_rest (r.to, made.0) i.entries (m, w.0.set) w.1,
          ))
          (found_other modes new r.to set u m)

      all_known : (m : Value) → IsEnteredBefore tree (k + 1) m → Listed_known m
      all_known m x = ⊎_elim (λ q. old_known m (inl q)) (λ w. either w.0 w.1 w.2 w.3 w.4) x
        where
          order : (j : ℕ) → j < k + 1 → (j < k) ⊎ (j ≡ k)
          order j l = grind arith

          either : (j : ℕ) (q : Row) → j < k + 1 → Stands tree.edges j q → q.to ≡ m → Listed_known m
          either j q l s e = ⊎_elim (λ x. old_known m (inr (j, q, x, s, e)))
              (λ x.
              let same = stands_one tree.edges k r q at (subst (λ z. Stands tree.edges z q) x s) in
              subst Listed_known (ap (λ (z : Row). z.to) same ∙ e) new_known) (order j l)

      tabled_one : AreModesTabled tree (k + 1) new s2 n.n
      tabled_one = record {
        entries = (r.to, made.0) ∷ i.entries;
        sound = all_entries;
        known = all_known;
        in_store = d.ok.0;
        has = subst (HasEntries ((r.to, made.0) ∷ i.entries))
            (sym (d.ok.1 ∙ ap (union (family s1 paths)) made.1.is))
            (entry_more i.entries r.to made.0 (family s1 paths)
            (subst (HasEntries i.entries) (sym (kept (λ h. Unit {0}) s0 s1 paths g i.in_store)) i.has));
      }

    pub tabled_more : (q : Result NodeId NodeFault)
        → (let both = union (family s1 paths) (family s1 set.n) in Draws (IsCounted both) both s1 s2 q)
        → IfOk q (λ n. AreModesTabled tree (k + 1) new s2 n.n)
    tabled_more (Ok n) d = tabled_one n d
    tabled_more (Err x) d = tt
