-- Values outside their domains are noted while the facts are gathered.
use Rattle.std.proofs.Common.{◌≡◌, ℕ, ◌≤◌, ◌⊎◌, inl, inr, Bool, true, false, cond, nat_lt, List, length, Contains, Option, Some, None, refl, sym, subst, arith}
use Rattle.std.proofs.lemmas.Bool.{ltb-false}
use Rattle.ar_base.specs.Least.{least_with}
use Rattle.ar_base.specs.Lists.{Stands, IsOneOf}
use Rattle.ar_base.proofs.Standing.{stands_one}
use Rattle.ar_base.proofs.Comparing.{low}
use Rattle.domains.specs.Domains as domains
use Rattle.domains.specs.declared.Domain.{Domain}
use Rattle.domains.specs.declared.Value.{Value}
use Rattle.typed_expr.proofs.Facts.{yields_more, yields_named}
use Rattle.ar_meaning.specs.Dependence.{Names}
use Rattle.ar_meaning.specs.Found.{IsAnswer}
use Rattle.ar_meaning.proofs.Dependence.{passes_named}
use Rattle.ar_meaning.proofs.Least.{passes_more}
use Rattle.gts_core.specs.View.{assign_of}
use Rattle.gts_core.specs.declared.system.Assign.{Assign}
use Rattle.gts_core.specs.declared.system.GtsParts.{GtsParts}
use Rattle.typed_expr.specs.Rows.{Rows}
use Rattle.flow_propagate.specs.Plan.{AreReaders}
use Rattle.flow_propagate.specs.Table.{TableHolds, YieldsFromTable}
use Rattle.flow_propagate.specs.Searches.{LeavesADomain, LeavesTargetDomain, IsLeastTarget}
use Rattle.flow_propagate.specs.Closing.{AppliesAssignment, Waits, TakesAssignment, AddsWork, IsUpTo, NotesTarget, IsFounded, IsHeard, Hears}
use Rattle.flow_propagate.specs.declared.worklist.Worklist.{Worklist}
use Rattle.flow_propagate.proofs.Looking.{one_or_not}
use Rattle.flow_propagate.proofs.Numbered.{read_there}

-- whether a reached assignment yields a value outside the domain
pub leaves_answer : (rows : Rows) (a : Assign) (d : Domain) (set values : List Value) (b : Bool)
    → YieldsFromTable rows (assign_of a) (Some set) → values ≡ set
    → IsAnswer b ((v : Value) × Contains values v × (domains.Holds d v → ⊥)) → IsAnswer b (LeavesADomain rows d a)
leaves_answer rows a d set values true r e h =
    record {
      passes = r.0;
      value = h.0;
      yields = r.1.sound h.0 (subst (λ (z : List Value). Contains z h.0) e h.1);
      outside = h.2;
    }
leaves_answer rows a d set values false r e h =
    λ k. h (k.value, subst (λ (z : List Value). Contains z k.value) (sym e) (r.1.complete k.value k.yields), k.outside)

-- a table with more facts
pub leaves_more : (p : GtsParts) (a : Assign) (old new : Rows) → ((n : ℕ) (v : Value) → TableHolds old n v → TableHolds new n v)
    → LeavesTargetDomain p old a → LeavesTargetDomain p new a
leaves_more p a old new grows l = record {
  variable = l.variable;
  stands = l.stands;
  leaves = record {
    passes = passes_more ℕ (TableHolds old) (TableHolds new) grows l.leaves.passes;
    value = l.leaves.value;
    yields = yields_more ℕ (TableHolds old) (TableHolds new) grows l.leaves.yields;
    outside = l.leaves.outside;
  };
}

-- an assignment that does not name the target reads what it read before
leaves_back : (p : GtsParts) (a b : Assign) (old new : Rows) (changed : Bool) → AppliesAssignment p a old new changed
    → (Names (assign_of b) a.target.n → ⊥) → LeavesTargetDomain p new b → LeavesTargetDomain p old b
leaves_back p a b old new changed m lacks l = record {
  variable = l.variable;
  stands = l.stands;
  leaves = record {
    passes = passes_named (λ x w d h. m.others x w h (λ e. lacks (subst (λ (z : ℕ). Names (assign_of b) z) e (inr d))))
        l.leaves.passes;
    value = l.leaves.value;
    yields = yields_named (λ x w d h. m.others x w h (λ e. lacks (subst (λ (z : ℕ). Names (assign_of b) z) e (inl d))))
        l.leaves.yields;
    outside = l.leaves.outside;
  };
}

-- what was noted stays, or a lesser one was noted
up_to_more : (target t : ℕ) (noted : Option ℕ) (b : Bool) → IsUpTo t noted → IsUpTo t (least_with noted b target)
up_to_more target t None b u = let e = u.is in cc
up_to_more target t (Some n) false u = u
up_to_more target t (Some n) true u = go (nat_lt target n) refl
  where
    same : n ≡ u.number
    same = let e = u.is in cc

    go : (c : Bool) → nat_lt target n ≡ c → IsUpTo t (Some (cond c target n))
    go true e = let l = low target n e in record { number = target; is = refl; most = (let k = u.most in omega (arith, k, l, same)) }
    go false e = record { number = n; is = refl; most = (let k = u.most in omega (arith, k, same)) }

-- the target is noted
up_to_here : (target : ℕ) (noted : Option ℕ) → IsUpTo target (least_with noted true target)
up_to_here target None = record { number = target; is = refl; most = omega arith }
up_to_here target (Some n) = go (nat_lt target n) refl
  where
    go : (c : Bool) → nat_lt target n ≡ c → IsUpTo target (Some (cond c target n))
    go true e = record { number = target; is = refl; most = omega arith }
    go false e = let l = ltb-false target n e in record { number = n; is = refl; most = l }

module _ (p : GtsParts) (n : ℕ) (a : Assign) (st : Stands p.assigns.items n a) where
  -- the assignment that was looked at is noted where it leaves
  noted_here : (rows : Rows) (noted : Option ℕ) (b : Bool) → IsAnswer b (LeavesTargetDomain p rows a)
      → NotesTarget p rows (least_with noted b a.target.n) a
  noted_here rows noted true h l = up_to_here a.target.n noted
  noted_here rows noted false h l = absurd (h l)

  founded_here : (rows : Rows) (noted : Option ℕ) (b : Bool) → IsAnswer b (LeavesTargetDomain p rows a)
      → IsFounded p rows noted → IsFounded p rows (least_with noted b a.target.n)
  founded_here rows None false h f m e = cc
  founded_here rows None true h f m e = (n, a, st, h, (let i : Some a.target.n ≡ Some m = e in cc))
  founded_here rows (Some k) false h f m e = f m e
  founded_here rows (Some k) true h f m e = go (nat_lt a.target.n k) e
    where
      go : (c : Bool) → Some (cond c a.target.n k) ≡ Some m
          → (j : ℕ) × (x : Assign) × Stands p.assigns.items j x × LeavesTargetDomain p rows x × (x.target.n ≡ m)
      go true e = (n, a, st, h, cc)
      go false e = f m e

  module _ (old new : Rows) (b : Bool) (noted : Option ℕ) (answer : IsAnswer b (LeavesTargetDomain p old a)) where
    founded_on : ((m : ℕ) (v : Value) → TableHolds old m v → TableHolds new m v) → IsFounded p old noted
        → IsFounded p new (least_with noted b a.target.n)
    founded_on grows f m e = let r = founded_here old noted b answer f m e in (r.0, r.1, r.2, leaves_more p r.1 old new grows r.3, r.4)

    -- what an assignment had noted, or the one that was looked at
    noted_on : (k : ℕ) (x : Assign) → Stands p.assigns.items k x → (k ≡ n) ⊎ NotesTarget p old noted x
        → NotesTarget p old (least_with noted b a.target.n) x
    noted_on k x sx (inl e) =
        let one : a ≡ x = stands_one p.assigns.items n a x st (subst (λ (z : ℕ). Stands p.assigns.items z x) e sx) in
        subst (λ (z : Assign). NotesTarget p old (least_with noted b a.target.n) z) one (noted_here old noted b answer)
    noted_on k x sx (inr h) = λ l. up_to_more a.target.n x.target.n noted b (h l)

    -- the target got nothing
    pub hears_still : (work : Worklist) → AppliesAssignment p a old new false
        → Hears p n old noted work new (least_with noted b a.target.n) work
    hears_still work m = record {
      founded = founded_on m.moves.grows;
      heard = λ h k x sx. elim (h k x sx) [
        | inl e ↦ inr (on x (noted_on k x sx (inl e)))
        | inr y ↦ (elim y [ inl w ↦ inl w | inr c ↦ inr (on x (noted_on k x sx (inr c))) ])
      ];
    }
      where
        on : (x : Assign) → NotesTarget p old (least_with noted b a.target.n) x
            → NotesTarget p new (least_with noted b a.target.n) x
        on x h = subst (λ (z : Rows). NotesTarget p z (least_with noted b a.target.n) x) (sym (m.still refl)) h

    -- the target got a value: the readers of the target wait
    pub hears_more : (readers : List (ℕ × ℕ)) (most : ℕ) (before after : Worklist) → AreReaders p readers
        → AppliesAssignment p a old new true → AddsWork (length p.assigns.items) most (λ m. IsOneOf readers (a.target.n, m))
        before after
        → Hears p n old noted before new (least_with noted b a.target.n) after
    hears_more readers most before after r m w = record {
      founded = founded_on m.moves.grows;
      heard = λ h k x sx. elim (h k x sx) [
        | inl e ↦ again k x sx (noted_on k x sx (inl e))
        | inr y ↦ (elim y [ inl q ↦ inl (w.keeps k q) | inr c ↦ again k x sx (noted_on k x sx (inr c)) ])
      ];
    }
      where
        again : (k : ℕ) (x : Assign) → Stands p.assigns.items k x → NotesTarget p old (least_with noted b a.target.n) x
            → Waits after k ⊎ NotesTarget p new (least_with noted b a.target.n) x
        again k x sx h = elim (one_or_not readers (a.target.n, k)) [
          | inl o ↦ inl (w.adds k o)
          | inr f ↦ inr (λ l. h (leaves_back p a x old new true m
              (λ d. f (r.all a.target.n k (read_there p a.target.n k (record { assign = x; stands = sx; names = d }))))
              l))
        ]

-- what is heard once the next assignment was taken
pub taken_heard : (p : GtsParts) (count n : ℕ) (rows : Rows) (noted : Option ℕ) (old new : Worklist)
    → IsHeard p rows noted old → TakesAssignment count n old new
    → (m : ℕ) (a : Assign) → Stands p.assigns.items m a → (m ≡ n) ⊎ (Waits new m ⊎ NotesTarget p rows noted a)
taken_heard p count n rows noted old new h t m a st = elim (h m a st) [
  | inl w ↦ (elim (t.others m w) [ inl e ↦ inl e | inr k ↦ inr (inl k) ])
  | inr c ↦ inr (inr c)
]

pub founded_start : (p : GtsParts) (rows : Rows) → IsFounded p rows None
founded_start p rows n e = cc

-- where none waits, the least that was noted is the least there is
pub heard_all : (p : GtsParts) (rows : Rows) (noted : Option ℕ) (work : Worklist) → IsFounded p rows noted
    → IsHeard p rows noted work → ((n : ℕ) → Waits work n → ⊥)
    → IsLeastTarget p.assigns.items (length p.assigns.items) (LeavesTargetDomain p rows) noted
heard_all p rows None work f h lacks = λ k a below st l. elim (h k a st) [ inl w ↦ lacks k w | inr c ↦ (let u = c l in let e = u.is in cc) ]
heard_all p rows (Some n) work f h lacks =
    (f n refl, λ k a below st l. elim (h k a st) [ inl w ↦ absurd (lacks k w) | inr c ↦ most a.target.n (c l) ])
  where
    most : (t : ℕ) → IsUpTo t (Some n) → n ≤ t
    most t u = let e : n ≡ u.number = (let i = u.is in cc) in let k = u.most in omega (arith, e, k)
