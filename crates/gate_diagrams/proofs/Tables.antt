-- The loop over the gates: the table of those that are drawn.
use Rattle.std.proofs.Common.{◌≡◌, ⊎_elim, ℕ, ◌+◌, ◌<◌, Bool, true, cond, List, [], ◌∷◌, ◌++◌, length, Result, Ok, Err, refl, sym, ap, ◌∙◌, subst, arith, length-append}
use Rattle.ar_base.specs.Lists.{Stands, IsOneOf}
use Rattle.ar_base.proofs.Standing.{stands_none}
use Rattle.zdd_nodes.specs.Families.{Family}
use Rattle.zdd_nodes.specs.FamiliesInside.{IsInOrder}
use Rattle.zdd_nodes.specs.Nodes.{NodeId, Stored, family, IsFamilyNumber, Grows, Draws}
use Rattle.zdd_nodes.specs.declared.NodeFault.{NodeFault}
use Rattle.zdd_nodes.specs.declared.NodeFault.TheVariants.{Memory}
use Rattle.zdd_nodes.proofs.Growing.{Grows-none, Grows-then, Draws-after, Draws-refused, kept, still}
use Rattle.zdd_nodes.proofs.Lists.{slice_get-push_cases}
use Rattle.eq_core.specs.Gates.{Operand, GateIs, Gate}
use Rattle.eq_core.specs.Ordered.{AreOrdered}
use Rattle.eq_core.specs.ValuesInside.{IsBelow}
use Rattle.eq_core.proofs.Telling.{place_below}
use Rattle.eq_core.specs.Cones.{InGateCone, own, named}
use Rattle.gate_diagrams.specs.Needed.{family_at, IsNeeded}
use Rattle.gate_diagrams.specs.Drawing.{IsDrawn, IsGateTabled, IsGateReady}

-- want of memory is no full store
pub memory_drawn : (P : Family → Type 0) (made : Family) (s t : Stored) → Grows P s t → Draws P made s t (Err Memory)
memory_drawn P made s t g = record { grows = g; ok = tt; full = λ e. cc }

-- the first k gates have been passed: the table has a number for each, and for one of the cone it is that of its family
pub record IsDrawing (all : Family) (gates : List Gate) (o : Operand) (k : ℕ) (table : List NodeId)
    (old s : Stored) : Type 0 where
  pub grows : Grows (IsNeeded all gates o) old s
  pub long : length table ≡ k
  pub drawn : (g : ℕ) (n : NodeId) → InGateCone gates o g → Stands table g n → IsDrawn all gates (GateIs g true) s n.n

pub drawing_begins : (all : Family) (gates : List Gate) (o : Operand) (s : Stored) → IsDrawing all gates o 0 [] s s
drawing_begins all gates o s = record
    { grows = Grows-none (IsNeeded all gates o) s; long = refl; drawn = λ g n c i. absurd (stands_none g n i) }

module _ (gates : List Gate) (o : Operand) (f : ℕ) (old : Stored) (f_in : IsFamilyNumber old f) (k : ℕ) (table : List NodeId)
    (s : Stored)
    (d : IsDrawing (family old f) gates o k table old s) where
  abbrev all : Family
  all = family old f

  abbrev N : Family → Type 0
  N = IsNeeded all gates o

  all_same : family s f ≡ all
  all_same = kept N old s f d.grows f_in

  pub firable_in : IsFamilyNumber s f
  firable_in = still N old s f d.grows f_in

  -- the next gate, where it is in the cone, can be drawn
  pub ready_next : AreOrdered gates → IsInOrder all → (gate : Gate) → InGateCone gates o (length table)
      → Stands gates (length table) gate
      → IsGateReady (family s f) gates o (length table) gate table s
  ready_next a i gate c h = subst (λ z. IsGateReady z gates o (length table) gate table s) (sym all_same) (record {
    ordered = a;
    in_order = i;
    cone = c;
    stands = h;
    operands = λ p x. record {
      in_table = λ g sign e. subst (IsBelow (length table)) e ((place_below (a.each (length table) gate h)).each p x);
      drawn = λ g sign n e j. d.drawn g n (named {sign = sign} c h (subst (IsOneOf gate.operands) e x)) j;
    };
  })

  next_as : (b : Bool) (t : Stored) (r : Result NodeId NodeFault)
      → Draws (IsNeeded (family s f) gates o) (cond b (family_at (family s f) gates (GateIs (length table) true)) []) s
      t r
      → Draws N (cond b (family_at all gates (GateIs (length table) true)) []) s t r
  next_as b t r x = subst (λ z. Draws (IsNeeded z gates o) (cond b (family_at z gates (GateIs (length table) true)) [])
      s t r) all_same x

  pub next_refused : (b : Bool) (t : Stored) (e : NodeFault) (made : Family)
      → Draws (IsNeeded (family s f) gates o) (cond b (family_at (family s f) gates (GateIs (length table) true)) []) s
      t (Err e) → Draws N made old t (Err e)
  next_refused b t e made x =
      let m = cond b (family_at all gates (GateIs (length table) true)) [] in
      Draws-after N made old s t (Err e) d.grows (Draws-refused N m made s t e (next_as b t (Err e) x))

  -- memory was refused after it was drawn
  pub next_memory : (b : Bool) (t : Stored) (r : Result NodeId NodeFault) (made : Family)
      → Draws (IsNeeded (family s f) gates o) (cond b (family_at (family s f) gates (GateIs (length table) true)) []) s
      t r → Draws N made old t (Err Memory)
  next_memory b t r made x = memory_drawn N made old t (Grows-then N old s t d.grows (next_as b t r x).grows)

  -- its number goes last into the table
  pub drawing_next : (b : Bool) (t : Stored) (n : NodeId) → (InGateCone gates o (length table) → b ≡ true)
      → Draws (IsNeeded (family s f) gates o) (cond b (family_at (family s f) gates (GateIs (length table) true)) []) s
      t (Ok n)
      → IsDrawing all gates o (k + 1) (table ++ n ∷ []) old t
  drawing_next b t n marked x =
      let y = next_as b t (Ok n) x in
      record {
        grows = Grows-then N old s t d.grows y.grows;
        long = omega (arith, length-append table (n ∷ []), d.long);
        drawn = λ g m c h. ⊎_elim
            (λ i. let q = d.drawn g m c i in record { in_store = still N s t m.n y.grows q.in_store; is = kept N s t m.n y.grows q.in_store ∙ q.is })
            (λ i. at g m i.0 i.1 c y.ok) (slice_get-push_cases table n g m h);
      }
    where
      at : (g : ℕ) (m : NodeId) → g ≡ length table → m ≡ n → InGateCone gates o g
          → IsFamilyNumber t n.n × (family t n.n ≡ cond b (family_at all gates (GateIs (length table) true)) [])
          → IsDrawn all gates (GateIs g true) t m.n
      at g m e q c y =
          let z : b ≡ true = marked (subst (InGateCone gates o) e c) in
          subst (λ z. IsDrawn all gates (GateIs z true) t m.n) (sym e)
          (subst (λ z. IsDrawn all gates (GateIs (length table) true) t z.n) (sym q)
          (record {
            in_store = y.0;
            is = y.1
                ∙ ap (λ c. cond c (family_at all gates (GateIs (length table) true)) []) z;
          }))

  -- the operand itself can then be drawn
  pub root_table : length table ≡ length gates → IsBelow (length gates) o → IsGateTabled (family s f) gates table s o
  root_table l b = subst (λ z. IsGateTabled z gates table s o) (sym all_same) (record {
    in_table = λ g sign e. subst (λ n. g < n) (sym l) (subst (IsBelow (length gates)) e b);
    drawn = λ g sign n e j. d.drawn g n (own {sign = sign} e) j;
  })

  pub root_drawn : (t : Stored) (r : Result NodeId NodeFault)
      → Draws (IsNeeded (family s f) gates o) (family_at (family s f) gates o) s t r
      → Draws N (family_at all gates o) old t r
  root_drawn t r x = Draws-after N (family_at all gates o) old s t r d.grows
      (subst (λ z. Draws (IsNeeded z gates o) (family_at z gates o) s t r) all_same x)
