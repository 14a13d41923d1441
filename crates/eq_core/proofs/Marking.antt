-- The pass that marks the cone of an operand.
use Rattle.std.proofs.Common.{◌≡◌, ◌⊎◌, inl, inr, ⊎_elim, ℕ, ◌+◌, ◌<◌, ◌≤◌, Bool, true, false, List, [], ◌∷◌, ◌++◌, length, replicate, refl, sym, ◌∙◌, subst, arith, true≢false}
use Rattle.ar_base.specs.Lists.{Stands, IsOneOf}
use Rattle.ar_base.proofs.Standing.{stands_one, stands_within, stands_left, one_right, one_split, one_cases, one_none, one_first}
use Rattle.ar_base.proofs.Items.{none_marked}
use Rattle.eq_core.specs.Gates.{Operand, Always, Never, EventIs, GateIs, Gate}
use Rattle.eq_core.specs.Ordered.{AreBelow, AreOrdered}
use Rattle.eq_core.specs.ValuesInside.{IsBelow}
use Rattle.eq_core.proofs.Telling.{place_below}
use Rattle.eq_core.specs.Cones.{InGateCone, own, named}
use Rattle.eq_core.specs.Marks.{AreConeMarks, MarksOperands}

pub marks_none : (m : List Bool) → MarksOperands [] m m
marks_none m = record {
  long = refl;
  kept = λ g i. i;
  sound = λ g i. inl i;
  whole = λ g sign i. absurd (one_none (GateIs g sign) i);
}

pub marks_then : (os ps : List Operand) (a b c : List Bool) → MarksOperands os a b → MarksOperands ps b c → MarksOperands (os ++ ps) a c
marks_then os ps a b c m n = record {
  long = n.long ∙ m.long;
  kept = λ g i. n.kept g (m.kept g i);
  sound = λ g i. ⊎_elim
      (λ j. ⊎_elim (λ k. inl k) (λ w. inr
      (w.0, record { place = w.1.place; stands = stands_left_of w.1.place (GateIs g w.0) w.1.stands }))
      (m.sound g j))
      (λ w. inr (w.0, one_on_right w.1)) (n.sound g i);
  whole = λ g sign i. ⊎_elim (λ j. n.kept g (m.whole g sign j)) (λ j. n.whole g sign j)
      (one_split os ps (GateIs g sign) i);
}
  where
    stands_left_of : (k : ℕ) (o : Operand) → Stands os k o → Stands (os ++ ps) k o
    stands_left_of k o s = stands_left os ps k o s

    one_on_right : {o : Operand} → IsOneOf ps o → IsOneOf (os ++ ps) o
    one_on_right {o = o} i = one_right os ps o i

-- an operand that names none of the first so many gates or later names none of more
pub below_more : (l n : ℕ) (o : Operand) → l ≤ n → IsBelow l o → IsBelow n o
below_more l n Always h b = tt
below_more l n Never h b = tt
below_more l n (EventIs e sign) h b = tt
below_more l n (GateIs g sign) h b = omega (arith, h, b)

pub all_below : (gates : List Gate) (l n : ℕ) (gate : Gate) → AreOrdered gates → Stands gates l gate → l ≤ n
    → AreBelow n gate.operands
all_below gates l n gate a s h = record { each = λ o i. below_more l n o h ((place_below (a.each l gate s)).each o i) }

-- the gates from number `left` on have been looked at
pub record IsMarking (gates : List Gate) (o : Operand) (left : ℕ) (marks : List Bool) : Type 0 where
  pub long : length marks ≡ length gates
  pub left_in : left ≤ length gates
  pub sound : (g : ℕ) → Stands marks g true → InGateCone gates o g
  pub own : (g : ℕ) (sign : Bool) → o ≡ GateIs g sign → Stands marks g true
  pub closed : (g h : ℕ) (gate : Gate) (sign : Bool) → left ≤ g → Stands marks g true → Stands gates g gate
      → IsOneOf gate.operands (GateIs h sign) → Stands marks h true

pub marking_begins : (gates : List Gate) (o : Operand) (none marks : List Bool) → none ≡ replicate (length gates) false
    → length none ≡ length gates
    → MarksOperands (o ∷ []) none marks → IsMarking gates o (length gates) marks
marking_begins gates o none marks e n m = record {
  long = m.long ∙ n;
  left_in = omega arith;
  sound = λ g i. ⊎_elim
      (λ j. absurd (none_marked (length gates) g (subst (λ z. Stands z g true) e j)))
      (λ w. ⊎_elim (λ q. own q) (λ q. absurd (one_none (GateIs g w.0) q)) (one_cases o [] (GateIs g w.0) w.1))
      (m.sound g i);
  own = λ g sign q. m.whole g sign (subst (λ z. IsOneOf (z ∷ []) (GateIs g sign)) (sym q)
      (one_first (GateIs g sign) []));
  closed = λ g h gate sign l i s x. let k = stands_within gates g gate s in absurd (omega (arith, l, k));
}

module _ (gates : List Gate) (o : Operand) (a : AreOrdered gates) (left l : ℕ) (e : left ≡ l + 1) (m : List Bool)
    (i : IsMarking gates o left m) where
  -- a gate that is not marked is passed over
  pub marking_passes : Stands m l false → IsMarking gates o l m
  marking_passes f = record {
    long = i.long;
    left_in = omega (arith, e, i.left_in);
    sound = i.sound;
    own = i.own;
    closed = λ g h gate sign b j s x. ⊎_elim
        (λ q. absurd (true≢false (stands_one m g true false j (subst (λ z. Stands m z false) q f))))
        (λ q. i.closed g h gate sign (omega (arith, e, q)) j s x) (either g b);
  }
    where
      either : (g : ℕ) → l ≤ g → (l ≡ g) ⊎ (l < g)
      either g b = grind arith

  -- the operands of one that is marked are marked
  pub marking_on : (gate : Gate) (n : List Bool) → Stands gates l gate → Stands m l true → MarksOperands gate.operands m n
      → IsMarking gates o l n
  marking_on gate n s t k = record {
    long = k.long ∙ i.long;
    left_in = omega (arith, e, i.left_in);
    sound = λ g j. ⊎_elim (λ x. i.sound g x) (λ w. named (i.sound l t) s w.1) (k.sound g j);
    own = λ g sign q. k.kept g (i.own g sign q);
    closed = λ g h other sign b j r x. ⊎_elim
        (λ q. k.whole h sign (subst (λ z. IsOneOf z.operands (GateIs h sign))
        (stands_one gates l other gate (subst (λ z. Stands gates z other) (sym q) r) s) x))
        (λ q. ⊎_elim
        (λ y. k.kept h (i.closed g h other sign (omega (arith, e, q)) y r x))
        (λ w. let c = (place_below (a.each l gate s)).each (GateIs g w.0) w.1 in absurd (omega (arith, c, q)))
        (k.sound g j)) (either g b);
  }
    where
      either : (g : ℕ) → l ≤ g → (l ≡ g) ⊎ (l < g)
      either g b = grind arith

pub marking_ends : (gates : List Gate) (o : Operand) (marks : List Bool) → IsMarking gates o 0 marks
    → AreConeMarks gates o marks
marking_ends gates o marks i = record { long = i.long; sound = i.sound; whole = λ g c l. all_of c }
  where
    all_of : {g : ℕ} → InGateCone gates o g → Stands marks g true
    all_of {g = g} (own {sign = sign} e) = i.own g sign e
    all_of {g = g} (named {g = k} {gate = gate} {sign = sign} c s x) =
        i.closed k g gate sign (omega arith) (all_of c) s x
