-- The modes' operands tell, at a firable set, the value of their variable in the set's state.
use Rattle.std.proofs.Common.{◌≡◌, ℕ, zero, suc, ◌⊎◌, ◌||◌, inl, inr, Bool, true, false, if◌then◌else◌, nat_eq, List, [], ◌∷◌, refl, sym, ap, ◌∙◌, subst, arith}
use Rattle.std.specs.Cmp.{unsigned_Decides}
use Rattle.ar_base.specs.Lists.{Stands, IsOneOf, Along}
use Rattle.ar_base.specs.Lists as l
use Rattle.ar_base.proofs.Standing.{one_cases, one_first, one_rest, one_none}
use Rattle.ar_base.proofs.Truths.{not_true, true_not}
use Rattle.domains.specs.Same.{is_same}
use Rattle.domains.specs.declared.Value.{Value}
use Rattle.domains.proofs.Same.{same_is}
use Rattle.ar_meaning.specs.Systems.{System}
use Rattle.ar_meaning.specs.FactsInside.{AreKeyed}
use Rattle.ar_firing.specs.Fragment.{IsLive}
use Rattle.ar_firing.specs.Static.{IsStatic}
use Rattle.ar_firing.specs.Cuts.{IsFirable}
use Rattle.ar_firing.specs.CutsInside.{NoneLeaves}
use Rattle.ar_firing.specs.Forest.{Row, ModeTree, IsModeTree}
use Rattle.ar_firing.proofs.ModesOfSets.{stays, entered, enters_and_stays, stays_at_first, comes_by}
use Rattle.ar_firing.proofs.TreeEdges.{row_is_live, live_is_row}
use Rattle.ar_firing.proofs.Shapes.{is_tree}
use Rattle.eq_core.specs.Gates.{EventIs, Gate, all_of}
use Rattle.eq_core.specs.Values.{has_event}
use Rattle.eq_core.specs.ValuesInside.{IsTrueWhere, GainsGates}
use Rattle.eq_core.proofs.Telling.{grows_self, grows_on, tells_kept, tells_as, all_tells, all_more}
use Rattle.eq_build.specs.Entries.{Entry, Built}
use Rattle.eq_build.specs.Tells.{AreEntries}
use Rattle.eq_build.proofs.EntriesTell.{entries_kept, entry_cases, true_kept, entry_first, entry_rest, is_so}
use Rattle.eq_build.specs.Steps.{Threads, none, one_and, not_left, modes_of, Has_modes, modes}
use Rattle.eq_build.specs.Steps as w
use Rattle.table_laws.proofs.OperandsTell.{TellTogether, together_before, together_as, nothing_told}
use Rattle.table_laws.proofs.OrderOfEntries.{Differ, differ_more}

event_in : (set : List ℕ) (e : ℕ) → has_event set e ≡ true → IsOneOf set e
event_in [] e h = absurd cc
event_in (x ∷ xs) e h = go (nat_eq x e) refl h (λ k. event_in xs e k)
  where
    go : (b : Bool) → nat_eq x e ≡ b → (b || has_event xs e) ≡ true → (has_event xs e ≡ true → IsOneOf xs e)
        → IsOneOf (x ∷ xs) e
    go true i k r = subst (λ z. IsOneOf (x ∷ xs) z) ((unsigned_Decides x e).0 i) (one_first x xs)
    go false i k r = one_rest x xs e (r k)

in_event : (set : List ℕ) (e : ℕ) → IsOneOf set e → has_event set e ≡ true
in_event [] e o = absurd (one_none e o)
in_event (x ∷ xs) e o = go (nat_eq x e) refl (one_cases x xs e o) (λ p. in_event xs e p)
  where
    go : (b : Bool) → nat_eq x e ≡ b → (x ≡ e) ⊎ IsOneOf xs e → (IsOneOf xs e → has_event xs e ≡ true)
        → (b || has_event xs e) ≡ true
    go true i q r = refl
    go false i (inl j) r = absurd (let k = (unsigned_Decides x e).1 j in cc)
    go false i (inr p) r = r p

-- no two of the rows enter one mode
abbrev pub RowsDiffer : List Row → Type 0
RowsDiffer [] = Unit {0}
RowsDiffer (r ∷ rs) = ((q : Row) → IsOneOf rs q → r.to ≡ q.to → ⊥) × RowsDiffer rs

pub rows_differ : (rs : List Row)
    → ((j k : ℕ) (q r : Row) → Stands rs j q → Stands rs k r → q.to ≡ r.to → j ≡ k) → RowsDiffer rs
rows_differ [] h = tt
rows_differ (r ∷ rs) h = (
  λ q o e. let i = h zero (suc o.place) r q refl o.stands e in omega (arith, i),
  rows_differ rs (λ j k q s a b e. let i = h (suc j) (suc k) q s a b e in omega (arith, i)),
)

module _ (set : List ℕ) where
  has_tells : (g : List Gate) (e : ℕ) → IsTrueWhere set g (EventIs e true) (IsOneOf set e)
  has_tells g e = record { below = tt; true_so = λ h. event_in set e h; so_true = λ o. in_event set e o }

  lacks_tells : (g : List Gate) (e : ℕ) → IsTrueWhere set g (EventIs e false) (IsOneOf set e → ⊥)
  lacks_tells g e = record {
    below = tt;
    true_so = λ h o. not_true (has_event set e) h (in_event set e o);
    so_true = λ n. true_not (has_event set e) (λ h. n (event_in set e h));
  }

  -- none of these edges that leaves the mode has its event in the set
  abbrev NoRowLeaves : Value → List Row → Type 0
  NoRowLeaves m rs = (r : Row) → IsOneOf rs r → r.from ≡ m → IsOneOf set r.label.event → ⊥

  not_left_tells : (g : List Gate) (m : Value) (rs : List Row)
      → TellTogether set g (not_left m rs) (NoRowLeaves m rs)
  not_left_tells g m [] = nothing_told (λ r o. absurd (one_none r o))
  not_left_tells g m (r ∷ rs) = go (is_same r.from m) refl (not_left_tells g m rs)
    where
      go : (b : Bool) → is_same r.from m ≡ b → TellTogether set g (not_left m rs) (NoRowLeaves m rs)
          → TellTogether set g (if b then EventIs r.label.event false ∷ not_left m rs else not_left m rs)
          (NoRowLeaves m (r ∷ rs))
      go true i t = together_as
          (λ h q o e k. elim (one_cases r rs q o) [
            | inl j ↦ h.0 (subst (λ (z : Row). IsOneOf set z.label.event) (sym j) k)
            | inr p ↦ h.1 q p e k
          ])
          (λ h. ((λ k. h r (one_first r rs) (same_is r.from m i) k), (λ q o e k. h q (one_rest r rs q o) e k)))
          (together_before (lacks_tells g r.label.event) t)
      go false i t = together_as
          (λ h q o e k. elim (one_cases r rs q o) [
            | inl j ↦ (let y = is_so r.from m (ap (λ (z : Row). z.from) j ∙ e) in let n : ⊥ = cc in n)
            | inr p ↦ h q p e k
          ])
          (λ h q o e k. h q (one_rest r rs q o) e k)
          t

  -- the entries of the modes that these edges enter
  record AreEntered (P : Value → Type 0) (g : List Gate) (rs : List Row) (b : Built) : Type 0 where
    pub grown : GainsGates g b.gates
    pub tells : (e : Entry) → IsOneOf b.entries e → IsTrueWhere set b.gates e.operand (P e.value)
    pub comes : (r : Row) → IsOneOf rs r → P r.to → (e : Entry) × IsOneOf b.entries e × (e.value ≡ r.to)
    pub of_row : (e : Entry) → IsOneOf b.entries e → (r : Row) × IsOneOf rs r × (r.to ≡ e.value)
    pub differ : Differ b.entries

  entered_tells : (P : Value → Type 0) (all rs : List Row) (g : List Gate) → RowsDiffer rs
      → ((r : Row) → IsOneOf rs r → (h : List Gate)
      → TellTogether set h (EventIs r.label.event true ∷ not_left r.to all) (P r.to))
      → AreEntered P g rs (w.entered all rs g)
  entered_tells P all [] g d c = record {
    grown = grows_self g;
    tells = λ e o. absurd (one_none e o);
    comes = λ r o p. absurd (one_none r o);
    of_row = λ e o. absurd (one_none e o);
    differ = tt;
  }
  entered_tells P all (r ∷ rs) g d c =
      let os = EventIs r.label.event true ∷ not_left r.to all in
      let u = c r (one_first r rs) g in
      let m = all_of g os in
      let n = entered_tells P all rs m.gates d.1 (λ q o h. c q (one_rest r rs q o) h) in
      let b = w.entered all rs m.gates in
      let here : Entry = record { value = r.to; operand = m.operand } in
      let t : IsTrueWhere set b.gates m.operand (P r.to) =
      tells_kept n.grown (tells_as u.true_so u.so_true (all_tells set g os u.below)) in
      record {
        grown = grows_on (all_more g os) n.grown;
        tells = λ e o. elim (entry_cases r.to m.operand b.entries e o) [
          | inl i ↦ subst (λ (z : Entry). IsTrueWhere set b.gates z.operand (P z.value)) i t
          | inr p ↦ n.tells e p
        ];
        comes = λ q o p. elim (one_cases r rs q o) [
          | inl i ↦ (
            here,
            entry_first r.to m.operand b.entries
                (true_kept set b.gates m.operand (t.so_true (subst (λ (z : Row). P z.to) (sym i) p))),
            ap (λ (z : Row). z.to) i,
          )
          | inr k ↦ let x = n.comes q k p in (x.0, entry_rest r.to m.operand b.entries x.0 x.1, x.2)
        ];
        of_row = λ e o. elim (entry_cases r.to m.operand b.entries e o) [
          | inl i ↦ (r, one_first r rs, ap (λ (z : Entry). z.value) i)
          | inr p ↦ let x = n.of_row e p in (x.0, one_rest r rs x.0 x.1, x.2)
        ];
        differ = differ_more r.to m.operand b.entries n.differ
            (λ f o e. let x = n.of_row f o in d.0 x.0 x.1 (e ∙ sym x.2));
      }

  module _ (sys : System ℕ) (dropped : List ℕ) (keyed : AreKeyed sys.net) (static : IsStatic sys dropped)
      (t : List Value) (f : IsFirable sys dropped set t) where
    -- a tree's entries, no two of one value, tell the value of its variable in the state
    pub record TreeTells (g : List Gate) (tree : ModeTree) (es : List Entry) : Type 0 where
      pub entries : AreEntries set g es (λ m. Stands t tree.variable m)
      pub differ : Differ es

    modes_tell : (g : List Gate) (tree : ModeTree) → IsModeTree sys dropped tree
        → GainsGates g (modes_of tree g).gates × TreeTells (modes_of tree g).gates tree (modes_of tree g).entries
    modes_tell g tree k =
        let n = tree.variable in
        let p = k.is_mode in
        let x = p.variable in
        let shape = is_tree sys dropped keyed static tree k in
        let none : (m : Value) → NoRowLeaves m tree.edges → NoneLeaves sys dropped set n m = λ m h l to v o.
        h (record { from = m; label = l; to = to })
        (live_is_row sys dropped keyed static tree k (record { from = m; label = l; to = to }) v) refl o in
        let rows : (m : Value) → NoneLeaves sys dropped set n m → NoRowLeaves m tree.edges = λ m h r o e z.
        h r.label r.to
        (subst (λ u. IsLive sys dropped r.label n u r.to) e (row_is_live sys dropped keyed static tree k r o)) z in
        let os = not_left tree.first tree.edges in
        let first = all_of g os in
        let u = not_left_tells g tree.first tree.edges in
        let at_first : IsTrueWhere set first.gates first.operand (Stands t n tree.first) = tells_as
        (λ e. subst (λ z. Stands t n z) (sym k.first)
        (stays_at_first sys dropped keyed static f n x p.stands p.is_state
        (subst (λ z. NoneLeaves sys dropped set n z) k.first (none tree.first (u.true_so e)))))
        (λ v. u.so_true (rows tree.first (stays sys dropped keyed static f n x p.stands p.is_state tree.first v)))
        (all_tells set g os u.below) in
        let r = entered_tells (λ m. Stands t n m) tree.edges tree.edges first.gates
        (rows_differ tree.edges shape.enters)
        (λ q o h.
        let live = row_is_live sys dropped keyed static tree k q o in
        together_as
        (λ c. enters_and_stays sys dropped keyed static f n x p.stands p.is_state q.label q.from q.to live c.0
        (none q.to c.1))
        (λ v. (
          entered sys dropped keyed static f n x p.stands p.is_state q.label q.from q.to live v,
          rows q.to (stays sys dropped keyed static f n x p.stands p.is_state q.to v),
        ))
        (together_before (has_tells h q.label.event) (not_left_tells h q.to tree.edges))) in
        let b = w.entered tree.edges tree.edges first.gates in
        let e0 : Entry = record { value = tree.first; operand = first.operand } in
        let at_end : IsTrueWhere set b.gates first.operand (Stands t n tree.first) = tells_kept r.grown at_first in (
          grows_on (all_more g os) r.grown,
          record {
            entries = record {
              tells = λ e o. elim (entry_cases tree.first first.operand b.entries e o) [
                | inl i ↦ subst (λ (z : Entry). IsTrueWhere set b.gates z.operand (Stands t n z.value)) i at_end
                | inr q ↦ r.tells e q
              ];
              whole = λ m v. elim (comes_by sys dropped keyed static f n x p.stands p.is_state m v) [
                | inl i ↦ (
                  e0,
                  entry_first tree.first first.operand b.entries
                      (true_kept set b.gates first.operand
                      (at_end.so_true (subst (λ z. Stands t n z) (i ∙ sym k.first) v))),
                  k.first ∙ sym i,
                )
                | inr c ↦
                    let row : Row = record { from = c.1; label = c.0; to = m } in
                    let z = r.comes row (live_is_row sys dropped keyed static tree k row c.2) v in
                    (z.0, entry_rest tree.first first.operand b.entries z.0 z.1, z.2)
              ];
            };
            differ = differ_more tree.first first.operand b.entries r.differ
                (λ e o i.
                let z = r.of_row e o in
                let m = z.1 in
                shape.begins m.place z.0 m.stands (z.2 ∙ sym i));
          },
        )

    tree_kept : {g h : List Gate} {tree : ModeTree} {es : List Entry} → GainsGates g h → TreeTells g tree es
        → TreeTells h tree es
    tree_kept s a = record { entries = entries_kept s a.entries; differ = a.differ }

    pub all_modes_tell : (trees : List ModeTree) {g h : List Gate} {ess : List (List Entry)}
        → Threads Has_modes g trees ess h
        → ((n : ℕ) (tree : ModeTree) → Stands trees n tree → IsModeTree sys dropped tree)
        → GainsGates g h × Along (TreeTells h) trees ess
    all_modes_tell [] (none {g = g}) k = (grows_self g, l.none)
    all_modes_tell (tree ∷ trees) (one_and {g = g} {h = h} {b = es} c d) k =
        let r = all_modes_tell trees d (λ n u s. k (suc n) u s) in
        let m = at g tree h es c (k zero tree refl) in
        (grows_on m.0 r.0, l.one_and (tree_kept r.0 m.1) r.1)
      where
        at : (g : List Gate) (tree : ModeTree) (h : List Gate) (es : List Entry) → Has_modes g tree es h
            → IsModeTree sys dropped tree → GainsGates g h × TreeTells h tree es
        at g tree h es modes k = modes_tell g tree k
