-- Families made over modes are those of the operands, and what an answer by them says.
use Rattle.std.proofs.Common.{◌≡◌, ◌≤◌, ℕ, Bool, List, [], Option, length, get_or, filter, Result, Ok, Err, IfOk, sym, ap, ◌∙◌, subst, arith}
use Rattle.std.specs.List.{All}
use Rattle.std.proofs.lemmas.List.Elements.{All-nil, All-get_or}
use Rattle.ar_base.proofs.Standing.{stands_one, stands_within, stands_get}
use Rattle.ar_firing.specs.Forest.{ModeTree}
use Rattle.ar_firing.specs.Listed.{AreListed}
use Rattle.zdd_nodes.specs.Families.{Family, minimal}
use Rattle.zdd_nodes.specs.FamiliesInside.{IsFamily}
use Rattle.zdd_nodes.specs.Sections.{IsCounted, of_minimal}
use Rattle.zdd_nodes.proofs.Ascending.{ascends_nil}
use Rattle.zdd_nodes.proofs.Sections.{section-whole}
use Rattle.zdd_nodes.specs.Nodes.{NodeId, Stored, family, Draws, IsFamilyNumber, IsSoundStore}
use Rattle.zdd_nodes.specs.declared.NodeFault.{NodeFault}
use Rattle.zdd_nodes.specs.declared.NodeFault.TheVariants.{Full, Memory as OutOfMemory}
use Rattle.zdd_nodes.proofs.Growing.{Grows-none, Draws-weaker}
use Rattle.eq_core.specs.Gates.{Operand, GateIs, Gate, Table}
use Rattle.eq_core.specs.Ordered.{AreOrdered}
use Rattle.eq_core.specs.Values.{value_at}
use Rattle.eq_core.specs.ValuesInside.{IsBelow}
use Rattle.eq_core.proofs.Telling.{place_below}
use Rattle.firable_families.specs.FirableInside.{IsFirableUpTo, IsTrueUpTo, ListsLeastUpTo}
use Rattle.firable_families.proofs.Few.{firable_of, small_of, firable_up_to}
use Rattle.firable_families.proofs.Listing.{Lists, lists_listed, listed_lists, minimal_lists, least_listed}
use Rattle.mode_nodes.specs.Bounds.{Bounded, GrowsWithin}
use Rattle.mode_nodes.proofs.Allowed.{allowed, allowed_before}
use Rattle.diagram_steps.specs.declared.trees.NumberedTree.{NumberedTree}
use Rattle.diagram_steps.specs.Trees.{edges_of}
use Rattle.mode_diagrams.specs.Agreement.{HasOperandValues, AreClosedMarks}
use Rattle.mode_diagrams.specs.Costs.{IsEnoughFor}
use Rattle.mode_diagrams.specs.declared.undrawn.Undrawn.{Undrawn}
use Rattle.mode_diagrams.specs.Numbers.{HasFewEdges, IsByModes}
use Rattle.mode_diagrams.specs.Sets.{AreSmall, HasSets, IsTrueFrom}
use Rattle.mode_diagrams.specs.declared.listing.Listed.{Listed}
use Rattle.eq_core.specs.Cones.{own, named}
use Rattle.gate_diagrams.specs.Needed.{family_at, IsNeeded, IsNeededByBoth}
use Rattle.gate_diagrams.specs.NodeLimits.{NodesMayUpTo}
use Rattle.gate_diagrams.specs.Needed.IsNeeded.{of_half}
use Rattle.gate_diagrams.specs.declared.answer.Drawn.{Drawn}
use Rattle.gate_diagrams.specs.declared.answer.Drawn.TheVariants.{Conflicts, Cuts}
use Rattle.gate_diagrams.specs.declared.answer.Family.{Family as Answered}
use Rattle.gate_diagrams.specs.declared.by_modes.Unanswered.{Unanswered}
use Rattle.gate_diagrams.specs.declared.by_modes.Unanswered.TheVariants.{Beyond, Nodes}
use Rattle.eq_core.specs.Marks.{AreConeMarks}
use Rattle.gate_diagrams.specs.ByModes.{IsListedFamily, HasValueOf, DrawsByModes, AnswersByModes, unanswered_of}
use Rattle.gate_diagrams.proofs.Answering.{needed_conflict, full_conflict, sets_conflict, needed_both, full_both, sets_top}
use Rattle.gate_diagrams.proofs.Filters.{of_members, family_same}
use Rattle.gate_diagrams.proofs.FirableSets.{listed_one}

-- ---- minimal sets of operands with the same values
pub minimal_as : (all : Family) (new : List Gate) (o : Operand) (old : List Gate) (p : Operand) → HasValueOf old p new o
    → minimal (family_at all new o) ≡ minimal (family_at all old p)
minimal_as all new o old p h = ap minimal (family_same all new old o p h.same)

-- ---- what the calls need
pub few_small : (trees : List NumberedTree) → All HasFewEdges trees → AreSmall trees
few_small trees a = record {
  each = λ k tree st.
      let w = stands_within trees k tree st in
      let e : tree ≡ get_or_at k tree = stands_one trees k tree (get_or_at k tree) st (stands_get trees k tree w) in
      let few : length (edges_of tree) ≤ 64 =
      subst (λ (t : NumberedTree). HasFewEdges t) (sym e) (All-get_or HasFewEdges trees k tree w a) in
      omega (arith, few);
}
  where
    get_or_at : ℕ → NumberedTree → NumberedTree
    get_or_at k d = get_or trees k d

-- the marked gates are closed under operands
pub marks_closed : (gates : List Gate) (o : Operand) (marks : List Bool) → AreOrdered gates → IsBelow (length gates) o
    → AreConeMarks gates o marks → AreClosedMarks gates o marks
marks_closed gates o marks a below m = record {
  long = m.long;
  own = λ g sign e. m.whole g (own e) (subst (IsBelow (length gates)) e below);
  operands = λ g h gate sign set st one.
      let c = (place_below (a.each g gate st)).each (GateIs h sign) one in
      let w = stands_within gates g gate st in
      m.whole h (named (m.sound g set) st one) (omega (arith, c, w));
}

-- ---- the family
-- what is enough for a store stays so as it grows
pub enough_kept : (order : Option ℕ) (ns : List NumberedTree) (s t : Bounded) → GrowsWithin s t → IsEnoughFor order ns s
    → IsEnoughFor order ns t
enough_kept order ns s t g e = record {
  short = subst (λ z. length z ≤ length ns) (sym g.costs) e.short;
  few = λ modes set is h. e.few modes set is (allowed_before s t modes g h);
  all = λ modes set is u. allowed s t modes g (e.all modes set is u);
}

module _ (order : Option ℕ) (ns : List NumberedTree) (gates : List Gate) (o : Operand) (s : Bounded) (n : ℕ)
    (enough : IsEnoughFor order ns s) (a : HasOperandValues ns gates o s n) (f : Family) (k : IsFamily f)
    (h : HasSets (IsTrueFrom ns 0 s n) f) where
  lists_true : (forest : List ModeTree) → IsByModes forest ns → Lists (IsTrueUpTo order forest (value_at gates o)) f
  lists_true forest b = record {
    is_family = k;
    sound = λ set i.
        let x = h.sound set i in
        record {
          is_firable = firable_up_to order forest set (b.firable x.modes set x.are) (enough.few x.modes set x.are x.cheap);
          holds = sym (a.same x.modes set x.are x.cheap) ∙ x.holds;
        };
    whole = λ set t.
        let m = b.modes set (firable_of order forest set t.is_firable) in
        let cheap = enough.all m.0 set m.1 (small_of order forest set t.is_firable) in
        h.whole set (record { modes = m.0; are = m.1; cheap = cheap; holds = a.same m.0 set m.1 cheap ∙ t.holds });
  }

is_listed : (order : Option ℕ) (ns : List NumberedTree) (gates : List Gate) (o : Operand) (s : Bounded) (n : ℕ)
    (l : Listed) → IsEnoughFor order ns s → HasOperandValues ns gates o s n → IsSoundStore l.store → IsFamilyNumber l.store l.root.n
    → HasSets (IsTrueFrom ns 0 s n) (family l.store l.root.n) → IsListedFamily order ns gates o l
is_listed order ns gates o s n l enough a sound in_store h = record {
  sound = sound;
  in_store = in_store;
  are = λ forest b. lists_listed
      (lists_true order ns gates o s n enough a (family l.store l.root.n) (sound.families l.root.n in_store) h forest b);
}

pub listed_or_not : (order : Option ℕ) (ns : List NumberedTree) (gates : List Gate) (o : Operand) (s : Bounded) (n : ℕ)
    → IsEnoughFor order ns s → HasOperandValues ns gates o s n → (r : Result Listed Undrawn) → IfOk r (λ l. IsSoundStore l.store)
    → IfOk r (λ l. IsFamilyNumber l.store l.root.n) → IfOk r (λ l. HasSets (IsTrueFrom ns 0 s n) (family l.store l.root.n))
    → IfOk r (λ l. IsListedFamily order ns gates o l)
listed_or_not order ns gates o s n enough a (Ok l) sound in_store h =
    is_listed order ns gates o s n l enough a sound in_store h
listed_or_not order ns gates o s n enough a (Err e) sound in_store h = tt

-- ---- the minimal sets
-- of the firable sets at which the operand is true they are the least
pub least_are : (order : Option ℕ) (forest : List ModeTree) (gates : List Gate) (o : Operand) (f g : Family)
    → AreListed (IsTrueUpTo order forest (value_at gates o)) f → g ≡ minimal f
    → ListsLeastUpTo order forest (value_at gates o) g
least_are order forest gates o f g l e =
    subst (λ z. ListsLeastUpTo order forest (value_at gates o) z) (sym e)
    (lists_listed (minimal_lists (listed_lists l)))

-- ---- the least sets by products
-- what is listed as the least firable sets is the minimal sets of the operand's family
pub minimal_is : (order : Option ℕ) (forest : List ModeTree) (gates : List Gate) (o : Operand) (f all : Family)
    → ListsLeastUpTo order forest (value_at gates o) f → AreListed (IsFirableUpTo order forest) all
    → f ≡ minimal (family_at all gates o)
unfolding family_at
minimal_is order forest gates o f all l is = listed_one f (minimal (filter (value_at gates o) all)) l
    (least_listed order forest (value_at gates o) (of_members gates o) all is)

module _ (all : Family) (gates : List Gate) (o : Operand) (f : Family) (is : f ≡ minimal (family_at all gates o))
    (s t : Stored) where
  counted_needed : (h : Family) → IsCounted (minimal (family_at all gates o)) h → IsNeeded all gates o h
  counted_needed h c = of_half (of_minimal 0 [] (ascends_nil, tt)
      (subst (λ x. IsCounted (minimal x) h) (sym (section-whole (family_at all gates o))) c))

  pub minimal_copied : (r : Result NodeId NodeFault) → Draws (IsCounted f) f s t r
      → Draws (IsNeeded all gates o) (minimal (family_at all gates o)) s t r
  minimal_copied r d = Draws-weaker (IsCounted (minimal (family_at all gates o))) (IsNeeded all gates o)
      (minimal (family_at all gates o)) s t r counted_needed (subst (λ z. Draws (IsCounted z) z s t r) is d)

-- nothing was drawn
pub memory_drawn : (all : Family) (gates : List Gate) (o : Operand) (s : Stored)
    → Draws (IsNeeded all gates o) (minimal (family_at all gates o)) s s (Err OutOfMemory)
memory_drawn all gates o s = record { grows = Grows-none (IsNeeded all gates o) s; ok = tt; full = λ e. cc }

pub undrawn_drawn : (all : Family) (gates : List Gate) (o : Operand) (s : Stored) (u : Undrawn)
    → DrawsByModes all gates o s s (Err (unanswered_of u))
undrawn_drawn all gates o s Undrawn.Beyond = tt
undrawn_drawn all gates o s Undrawn.Memory = memory_drawn all gates o s

-- ---- the answer
module _ (order : Option ℕ) (trees : List ModeTree) (table : Table) (all : Family)
    (is_all : AreListed (IsFirableUpTo order trees) all) (limit : ℕ)
  where
    abbrev Right : Result Drawn Unanswered → Type 0
    Right r = AnswersByModes order trees table all limit r

    pub beyond_right : Right (Err Beyond)
    beyond_right = record { sets = tt; needed = tt; within = tt; full = λ e. let w : ⊥ = cc in absurd w }

    pub memory_right : Right (Err (Nodes OutOfMemory))
    memory_right = record { sets = tt; needed = tt; within = tt; full = λ e. let w : ⊥ = cc in absurd w }

    pub undrawn_right : (u : Undrawn) → Right (Err (unanswered_of u))
    undrawn_right Undrawn.Beyond = beyond_right
    undrawn_right Undrawn.Memory = memory_right

    abbrev DrawsConflict : Stored → Stored → Result NodeId NodeFault → Type 0
    DrawsConflict s t r = Draws (IsNeeded all table.gates table.conflict)
        (minimal (family_at all table.gates table.conflict)) s t r

    abbrev DrawsTop : Stored → Stored → Result NodeId NodeFault → Type 0
    DrawsTop s t r = Draws (IsNeeded all table.gates table.top) (minimal (family_at all table.gates table.top)) s t r

    module _ (s0 s1 : Stored) (none : s0.families ≡ []) (limited : s0.limit ≡ limit) where
      stored : All (IsNeeded all table.gates table.conflict) s0.families
      stored = let P = IsNeeded all table.gates table.conflict in subst (All P) (sym none) (All-nil P)

      is_family : IsFamily all
      is_family = (listed_lists is_all).is_family

      pub conflict_refused : (e : NodeFault) → DrawsConflict s0 s1 (Err e) → Right (Err (Nodes e))
      conflict_refused e d = record {
        sets = tt;
        needed = tt;
        within = tt;
        full = λ x.
            let y : e ≡ Full = cc in
            subst (NodesMayUpTo order trees table) limited
            (full_conflict table all is_family s0 s1 stored (Err e) d order trees is_all (ap (λ (z : NodeFault). Err z) y));
      }

      pub conflict_unanswered : (e : Unanswered) → DrawsByModes all table.gates table.conflict s0 s1 (Err e)
          → Right (Err e)
      conflict_unanswered Beyond d = beyond_right
      conflict_unanswered (Nodes e) d = conflict_refused e d

      module _ (n : NodeId) (d : DrawsConflict s0 s1 (Ok n)) where
        pub conflicts_right : (f : Answered) → f.store ≡ s1 → f.root ≡ n → IsSoundStore s1 → (n.n ≡ 0 → ⊥)
            → Right (Ok (Conflicts f))
        conflicts_right f e i k some =
            let x = sets_conflict table all is_family s0 s1 stored n d k some order trees is_all in
            let y = subst (λ z. IsFamilyNumber z n.n
            × ListsLeastUpTo order trees (value_at table.gates table.conflict) (family z n.n)) (sym e) x.1 in
            let w = subst (λ (m : NodeId). IsFamilyNumber f.store m.n
            × ListsLeastUpTo order trees (value_at table.gates table.conflict) (family f.store m.n)) (sym i) y in
            record {
              sets = (x.0, w.0, w.1);
              needed = subst (λ z. All (IsNeeded all table.gates table.conflict) z.families) (sym e)
                  (needed_conflict table all is_family s0 s1 stored (Ok n) d);
              within = subst (λ z. length z.families ≤ limit) (sym e)
                  (subst (λ z. length s1.families ≤ z) (d.grows.limit ∙ limited) k.within);
              full = λ q. let wrong : ⊥ = cc in absurd wrong;
            }

        module _ (s2 : Stored) (zero_is : n.n ≡ 0) where
          pub top_refused : (e : NodeFault) → DrawsTop s1 s2 (Err e) → Right (Err (Nodes e))
          top_refused e t = record {
            sets = tt;
            needed = tt;
            within = tt;
            full = λ x.
                let y : e ≡ Full = cc in
                subst (NodesMayUpTo order trees table) limited
                (full_both table all is_family s0 s1 stored n d s2 (Err e) zero_is t order trees is_all
                (ap (λ (z : NodeFault). Err z) y));
          }

          pub top_unanswered : (e : Unanswered) → DrawsByModes all table.gates table.top s1 s2 (Err e) → Right (Err e)
          top_unanswered Beyond t = beyond_right
          top_unanswered (Nodes e) t = top_refused e t

          pub cuts_right : (m : NodeId) (f : Answered) → f.store ≡ s2 → f.root ≡ m → IsSoundStore s2 → DrawsTop s1 s2 (Ok m)
              → Right (Ok (Cuts f))
          cuts_right m f e i k t =
              let x = sets_top table all is_family s0 s1 stored n d s2 m zero_is t order trees is_all in
              let y = subst (λ z. IsFamilyNumber z m.n
              × ListsLeastUpTo order trees (value_at table.gates table.top) (family z m.n)) (sym e) x.1 in
              let w = subst (λ (q : NodeId). IsFamilyNumber f.store q.n
              × ListsLeastUpTo order trees (value_at table.gates table.top) (family f.store q.n)) (sym i) y in
              record {
                sets = (x.0, w.0, w.1);
                needed = subst (λ z. All (IsNeededByBoth all table) z.families) (sym e)
                    (needed_both table all is_family s0 s1 stored n d s2 (Ok m) zero_is t);
                within = subst (λ z. length z.families ≤ limit) (sym e)
                    (subst (λ z. length s2.families ≤ z) (t.grows.limit ∙ d.grows.limit ∙ limited) k.within);
                full = λ q. let wrong : ⊥ = cc in absurd wrong;
              }
