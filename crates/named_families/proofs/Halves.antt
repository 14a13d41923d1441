-- An event put into families node by node.
use Rattle.std.proofs.Common.{◌≡◌, ℕ, ◌<◌, Bool, true, false, cond, eqb, [], Some, Result, Ok, Err, OnOk, refl, sym, ap, ◌∙◌, subst, arith, eqb-true}
use Rattle.std.specs.HashMap.{HashMap, get, Updates}
use Rattle.std.proofs.lemmas.Bool.{and_parts}
use Rattle.zdd_nodes.specs.Families.{Family}
use Rattle.zdd_nodes.specs.FamiliesInside.{node, IsAbove}
use Rattle.zdd_nodes.specs.Nodes.{NodeId, Stored, family, IsFamilyNumber, IsNode}
use Rattle.diagram_steps.specs.Putting.{Extends, HasWith}
use Rattle.diagram_steps.proofs.Growing as g
use Rattle.diagram_steps.proofs.PutIn.{with_above, with_after}
use Rattle.named_families.specs.WithEvent.{same_number, IsWithEvent, AreWithEvent}

-- ---- what is held
put_grows : (e : ℕ) (s t : Stored) (k n : ℕ) → Extends s t → IsWithEvent e s k n → IsWithEvent e t k n
put_grows e s t k n x p = record {
  old = g.still s t k x p.old;
  new = g.still s t n x p.new;
  sets = subst (λ f. HasWith e f (family t n)) (sym (g.kept s t k x p.old))
      (subst (HasWith e (family s k)) (sym (g.kept s t n x p.new)) p.sets);
}

pub put_none : {S : Type 0} (e : ℕ) (s : Stored) (m : HashMap NodeId NodeId S) → m.entries ≡ [] → AreWithEvent e s m
put_none e s m z = record { each = λ k n h. absurd (nothing k n h) }
  where
    nothing : (k n : NodeId) → get same_number m k ≡ Some n → ⊥
    nothing k n h = let w = rw z at h in cc

pub put_grow : {S : Type 0} (e : ℕ) (s t : Stored) (m : HashMap NodeId NodeId S) → Extends s t → AreWithEvent e s m
    → AreWithEvent e t m
put_grow e s t m x a = record { each = λ k n h. put_grows e s t k.n n.n x (a.each k n h) }

pub put_more : {S : Type 0} (e : ℕ) (s : Stored) (k n : NodeId) (old new : HashMap NodeId NodeId S)
    → Updates same_number old new k (Some n) → IsWithEvent e s k.n n.n → AreWithEvent e s old → AreWithEvent e s new
put_more e s k n old new u p a = record { each = λ q m h. by q m h (same_number k q) refl }
  where
    by : (q m : NodeId) → get same_number new q ≡ Some m → (b : Bool) → same_number k q ≡ b → IsWithEvent e s q.n m.n
    by q m h true t =
        let w : Some m ≡ Some n = sym h ∙ u.0 q ∙ ap (λ c. cond c (Some n) (get same_number old q)) t in
        let same : m ≡ n = cc in
        let key : k.n ≡ q.n = eqb-true k.n q.n (and_parts (eqb k.n q.n) true t).0 in
        subst (λ i. IsWithEvent e s i m.n) key (subst (λ (x : NodeId). IsWithEvent e s k.n x.n) (sym same) p)
    by q m h false t = a.each q m (sym (u.0 q ∙ ap (λ c. cond c (Some n) (get same_number old q)) t) ∙ h)

-- ---- a node of an event below the one that is put: its halves have the event, and so has the node of these
module _ (e : ℕ) (s w v : Stored) (k first lo hi lower upper : ℕ) (i : IsNode s.families k first lo hi)
    (inside : IsFamilyNumber s k) (later : first < e) (x : Extends s w) (y : Extends w v) (lower_in : IsFamilyNumber w lower)
    (a : HasWith e (family s lo) (family w lower)) (b : HasWith e (family w hi) (family v upper)) where
  lower_has : HasWith e (family s lo) (family v lower)
  lower_has = subst (HasWith e (family s lo)) (sym (g.kept w v lower y lower_in)) a

  upper_has : HasWith e (family s hi) (family v upper)
  upper_has = subst (λ f. HasWith e f (family v upper)) (g.kept s w hi x (omega (arith, i.hi_before, inside))) b

  pub lower_above : IsAbove first (family v lower)
  lower_above = with_above e first (family s lo) (family v lower) later i.lo_above lower_has

  pub upper_above : IsAbove first (family v upper)
  upper_above = with_above e first (family s hi) (family v upper) later i.hi_above upper_has

  pub halves_have : (f : Family) → f ≡ node first (family v lower) (family v upper) → HasWith e (family s k) f
  halves_have f is = with_after e first (family s k) f (family s lo) (family s hi) (family v lower) (family v upper)
      later i.is i.lo_above lower_has upper_has is

-- what holds anyway holds of a success
pub on_ok : {A E : Type 0} (P : Type 0) (r : Result A E) → P → OnOk r P
on_ok P (Ok x) p = p
on_ok P (Err e) p = tt
