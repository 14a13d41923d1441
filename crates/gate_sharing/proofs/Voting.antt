-- What is made of a vote has the vote's value.
use Rattle.std.proofs.Common.{◌≡◌, ◌⊎◌, inl, inr, ℕ, ◌+◌, ◌<◌, Bool, true, false, not, ◌&&◌, ◌||◌, cond, List, [], ◌∷◌, ◌++◌, map, take, get_or, length, Option, Some, None, IfSome, IfOk, Result, Ok, Err, arith, refl, sym, ap, ap₂, ◌∙◌, subst, true≢false}
use Rattle.std.proofs.lemmas.List.{take_more, map-append}
use Rattle.ar_base.specs.Lists.{Stands, IsOneOf}
use Rattle.ar_base.specs.declared.faults.Memory.{Memory}
use Rattle.ar_base.proofs.Results.{ok_map}
use Rattle.ar_base.proofs.Standing.{one_first, one_rest, one_none}
use Rattle.eq_core.specs.Gates.{Operand, Gate, GateIs, opposite}
use Rattle.eq_core.specs.Ordered.{AreBelow}
use Rattle.eq_core.specs.Values.{signed, operand_at, joint_at, values_at, value_at}
use Rattle.eq_core.specs.ValuesInside.{IsBelow}
use Rattle.eq_core.specs.Views.{operand_of}
use Rattle.eq_core.specs.declared.joints.Operand as code
use Rattle.eq_core.specs.declared.joints.Operand.TheVariants as c
use Rattle.eq_core.proofs.Telling.{turned, value_kept, opposite_below, below_more, none_below, grows_on}
use Rattle.gate_sharing.specs.declared.literals.Literal.{Literal}
use Rattle.gate_sharing.specs.declared.terms.Term.{Term}
use Rattle.gate_sharing.specs.declared.terms.Vote.{Vote}
use Rattle.gate_sharing.specs.declared.unshared.Unshared.{Unshared}
use Rattle.gate_sharing.specs.Images.{with_sign}
use Rattle.gate_sharing.specs.Literals.{literal_of, literal_operands, AreEnough, AreNeverAll}
use Rattle.gate_sharing.specs.Sharing.{AddsGates}
use Rattle.gate_sharing.specs.Votes.{term_operands, none_at, IsOfTerm, AddsTerms, AreTermsOf, IsVoteBy, IsVoteOf, AddsEither, DecidesVote}
use Rattle.gate_sharing.specs.Absorbing.{needed_parts}
use Rattle.gate_sharing.proofs.Absorbings.{signed_value, literal_value, parts_below, below_up}
use Rattle.gate_sharing.proofs.Alls.{joint_append, enough_below}
use Rattle.gate_sharing.proofs.Imaging.{sign_below}
use Rattle.gate_sharing.proofs.Sharings.{all_kept, all_below_kept, all_of_kept, all_of_enough, all_of_never, adds_none}
use Rattle.gate_sharing.proofs.Terming.{and_always, none_more, terms_more_below}

and_joined : (a b c : Bool) → ((a && b) && c) ≡ (a && (b && (c && true)))
and_joined true b c = ap (λ z. b && z) (sym (and_always c))
and_joined false b c = refl

-- ---- the term of a literal
pub if_some : {A : Type 0} {P Q : A → Type 0} (r : Option A) → ((a : A) → P a → Q a) → IfSome r P → IfSome r Q
if_some None f h = tt
if_some (Some a) f h = f a h

pub term_of_gate : (gates : List Gate) (n : ℕ) (gate : Gate) (sign whole : Bool) (t : Term) → n < length gates
    → AreBelow n gate.operands → ((b : Bool) → signed whole b ≡ signed sign (signed gate.both b)) → Stands gates n gate
    → term_operands t ≡ needed_parts gate → IsOfTerm whole gates (GateIs n sign) t
term_of_gate gates n gate sign whole t h below is s e = record {
  below = subst (λ (z : List Operand). AreBelow (length gates) z) (sym e) (record {
    each = λ o m. below_up n (length gates) o (omega (arith, h)) ((parts_below n gate below).each o m);
  });
  same = λ set.
      literal_value gates n gate sign whole below is gates s set
      ∙ ap (λ z. signed whole (joint_at true set (values_at set gates) z)) (sym e);
}

-- ---- terms of literals
pub adds_term : (gates : List Gate) (o : Operand) (old new : List Term) (t : Term) → IsOfTerm false gates o t
    → new ≡ old ++ t ∷ [] → AddsTerms gates o old new
adds_term gates o old new t is e =
    subst (λ (z : List Term). AddsTerms gates o old z) (sym e) (record {
      below = λ b. terms_more_below (length gates) old t b is.below;
      same = λ set. none_more set (values_at set gates) old t
          ∙ ap (λ z. none_at set (values_at set gates) old && z) (sym (is.same set));
    })

pub adds_terms : (gates : List Gate) (o : Operand) (old mid new : List Term) (parts a b : Term) → IsOfTerm true gates o parts
    → IsOfTerm false gates (literal_of parts.first) a → IsOfTerm false gates (literal_of parts.second) b
    → mid ≡ old ++ a ∷ [] → new ≡ mid ++ b ∷ [] → AddsTerms gates o old new
adds_terms gates o old mid new parts a b is ia ib ea eb =
    let one = adds_term gates (literal_of parts.first) old mid a ia ea in
    let two = adds_term gates (literal_of parts.second) mid new b ib eb in
    record {
      below = λ h. two.below (one.below h);
      same = λ set.
          let n = none_at set (values_at set gates) old in
          two.same set ∙ ap (λ z. z && value_at gates (literal_of parts.second) set) (one.same set)
          ∙ and_joined n (value_at gates (literal_of parts.first) set) (value_at gates (literal_of parts.second) set)
          ∙ ap (λ z. n && z) (sym (is.same set));
    }

pub part_below : (n : ℕ) (parts : Term) → AreBelow n (term_operands parts)
    → IsBelow n (literal_of parts.first) × IsBelow n (literal_of parts.second)
part_below n parts b = (
  b.each (literal_of parts.first) (one_first (literal_of parts.first) (literal_of parts.second ∷ [])),
  b.each (literal_of parts.second)
      (one_rest (literal_of parts.first) (literal_of parts.second ∷ []) (literal_of parts.second) (one_first (literal_of parts.second) [])),
)

pub terms_none : (gates : List Gate) → AreTermsOf gates [] []
terms_none gates = record {
  below = record { each = λ t m. absurd (none_of t m) };
  same = λ set. refl;
}
  where
    none_of : (t : Term) → IsOneOf [] t → ⊥
    none_of t m = one_none t m

pub terms_next : (gates : List Gate) (ls : List Literal) (i : ℕ) (d : Literal) (old new : List Term) → i < length ls
    → AreTermsOf gates (literal_operands (take i ls)) old → AddsTerms gates (literal_of (get_or ls i d)) old new
    → AreTermsOf gates (literal_operands (take (i + 1) ls)) new
terms_next gates ls i d old new h a b = record {
  below = b.below a.below;
  same = λ set.
      let v = values_at set gates in
      let l = get_or ls i d in
      b.same set
      ∙ ap₂ (λ x y. x && y) (a.same set) (sym (and_always (operand_at set v (literal_of l))))
      ∙ sym (joint_append set v (literal_operands (take i ls)) (literal_of l ∷ []))
      ∙ ap (λ z. joint_at true set v z)
      (sym (ap (map literal_of) (take_more ls i d h) ∙ map-append literal_of (take i ls) (l ∷ [])));
}

-- ---- the vote of terms
-- one of two implies the other
pub implied_so : (rises falls w u : Bool) → ((rises ≡ false) × (falls ≡ true)) ⊎ (rises ≡ true)
    → (rises ≡ true → u ≡ true → w ≡ true) → (falls ≡ true → w ≡ true → u ≡ true)
    → signed rises u ≡ true → signed rises w ≡ true
implied_so true falls w u e f h k = f refl k
implied_so false falls true u (inl p) f h k = absurd (true≢false (sym k ∙ ap not (h p.1 refl)))
implied_so false falls false u (inl p) f h k = refl
implied_so false falls w u (inr e) f h k = absurd (true≢false (sym e))

pub vote_of : (gates : List Gate) (os : List Operand) (l : Literal) (ts : List Term) (v : Vote) → AreTermsOf gates os ts
    → IsVoteBy l ts v → IsBelow (length gates) (literal_of l) → IsVoteOf gates os v
vote_of gates os l ts v t by below = record {
  test = subst (λ (z : Literal). IsBelow (length gates) (literal_of z)) (sym by.test) below;
  with = by.sides.with_below (length gates) t.below;
  without = by.sides.without_below (length gates) t.below;
  same = λ set.
      let values = values_at set gates in
      ap (λ (z : Literal). cond (operand_at set values (literal_of z))
      (joint_at true set values (literal_operands v.sides.with.items))
      (joint_at true set values (literal_operands v.sides.without.items))) by.test
      ∙ sym (by.sides.same set values) ∙ t.same set;
  implied = by.implied;
}

-- where a vote is found by a literal of a term
pub vote_found : (gates : List Gate) (os : List Operand) (l : Literal) (ts : List Term) (r : Result (Option Vote) Memory)
    → AreTermsOf gates os ts → IsBelow (length gates) (literal_of l)
    → IfOk r (λ found. IfSome found (λ v. IsVoteBy l ts v)) → IfOk r (λ found. IfSome found (λ v. IsVoteOf gates os v))
vote_found gates os l ts r t below h =
    ok_map r (λ found k. if_some found (λ v by. vote_of gates os l ts v t by below) k) h

-- ---- two operands
two_below : (n : ℕ) (a b : Operand) → IsBelow n a → IsBelow n b → AreBelow n (a ∷ b ∷ [])
two_below n a b h k = below_more n (a ∷ []) b (below_more n [] a (none_below n) h) k

pub both_never : (gates : List Gate) (a b : Operand) → IsBelow (length gates) a → IsBelow (length gates) b
    → AreNeverAll (a ∷ b ∷ []) → AddsGates (a ∷ b ∷ []) gates gates (Ok c.Never)
both_never gates a b h k n =
    adds_none gates (a ∷ b ∷ []) c.Never (all_of_never gates (a ∷ b ∷ []) (two_below (length gates) a b h k) n)

pub both_enough : (n : ℕ) (a b : Operand) (ls : List Literal) → IsBelow n a → IsBelow n b
    → AreEnough (a ∷ b ∷ []) (literal_operands ls) → AreBelow n (literal_operands ls)
both_enough n a b ls h k e = enough_below n (a ∷ b ∷ []) (literal_operands ls) e (two_below n a b h k)

pub both_made : (old new : List Gate) (a b : Operand) (ls : List Literal) (r : Result code.Operand Unshared)
    → IsBelow (length old) a → IsBelow (length old) b → AreEnough (a ∷ b ∷ []) (literal_operands ls)
    → AddsGates (literal_operands ls) old new r → AddsGates (a ∷ b ∷ []) old new r
both_made old new a b ls (Err x) h k e m = record { grows = m.grows; made = tt }
both_made old new a b ls (Ok o) h k e m = record {
  grows = m.grows;
  made = all_of_enough e (all_below_kept (a ∷ b ∷ []) m.grows (two_below (length old) a b h k)) m.made;
}

-- ---- one with a literal, or the other
or_of_none : (a b c : Bool) → a ≡ (not b && (not c && true)) → not a ≡ (b || c)
or_of_none a true c e = ap not e
or_of_none a false true e = ap not e
or_of_none a false false e = ap not e

pub either_made : (old mid new : List Gate) (x a b : Operand) (both neither r : code.Operand)
    → IsBelow (length old) x → IsBelow (length old) a → IsBelow (length old) b
    → AddsGates (x ∷ a ∷ []) old mid (Ok both)
    → AddsGates (opposite (operand_of both) ∷ opposite b ∷ []) mid new (Ok neither)
    → operand_of r ≡ opposite (operand_of neither) → AddsEither x a b old new (Ok r)
either_made old mid new x a b both neither r hx ha hb m n e =
    let grown = grows_on m.grows n.grows in
    record {
      grows = grown;
      below = subst (λ (z : Operand). IsBelow (length new) z) (sym e)
          (opposite_below (length new) (operand_of neither) n.made.below);
      same = λ set.
          let v = values_at set new in
          let none : value_at new (operand_of neither) set
          ≡ (not (value_at new (operand_of both) set) && (not (value_at new b set) && true)) =
          n.made.same set
          ∙ ap₂ (λ y z. y && (z && true)) (turned set v (operand_of both)) (turned set v b) in
          let all : value_at new (operand_of both) set ≡ (value_at new x set && value_at new a set) =
          (all_of_kept n.grows m.made).same set ∙ ap (λ z. value_at new x set && z) (and_always (value_at new a set)) in
          ap (λ (z : Operand). value_at new z set) e
          ∙ turned set v (operand_of neither)
          ∙ or_of_none (value_at new (operand_of neither) set) (value_at new (operand_of both) set) (value_at new b set) none
          ∙ ap (λ z. z || value_at new b set) all;
    }

-- ---- the vote is decided
-- where b implies a, x and a or b is a where x is true and b where it is not; and the same of opposites
vote_law : (s x p q : Bool) → (signed s q ≡ true → signed s p ≡ true)
    → signed s ((x && signed s p) || signed s q) ≡ cond x p q
vote_law true true true q h = refl
vote_law true true false true h = absurd (true≢false (sym (h refl)))
vote_law true true false false h = refl
vote_law true false p q h = refl
vote_law false true true true h = refl
vote_law false true true false h = absurd (true≢false (sym (h refl)))
vote_law false true false q h = refl
vote_law false false p true h = refl
vote_law false false p false h = refl

pub vote_decided : (old new : List Gate) (v : Vote) (with without larger smaller : Operand) (either r : code.Operand)
    → larger ≡ with_sign v.rises with → smaller ≡ with_sign v.rises without
    → AddsEither (literal_of v.test) larger smaller old new (Ok either) → operand_of r ≡ with_sign v.rises (operand_of either)
    → DecidesVote v with without old new (Ok r)
vote_decided old new v with without larger smaller either r el es m e = record {
  grows = m.grows;
  below = subst (λ (z : Operand). IsBelow (length new) z) (sym e) (sign_below (length new) v.rises (operand_of either) m.below);
  same = λ set h.
      let s = v.rises in
      let x = value_at new (literal_of v.test) set in
      let larger_is : value_at new larger set ≡ signed s (value_at new with set) =
      ap (λ (z : Operand). value_at new z set) el ∙ signed_value set new s with in
      let smaller_is : value_at new smaller set ≡ signed s (value_at new without set) =
      ap (λ (z : Operand). value_at new z set) es ∙ signed_value set new s without in
      ap (λ (z : Operand). value_at new z set) e ∙ signed_value set new s (operand_of either)
      ∙ ap (λ z. signed s z) (m.same set ∙ ap₂ (λ y z. (x && y) || z) larger_is smaller_is)
      ∙ vote_law s x (value_at new with set) (value_at new without set) h;
}

-- the operand of a vote, where its sides have theirs
vote_made : (old one two new : List Gate) (os : List Operand) (v : Vote) (p q r : code.Operand) → IsVoteOf old os v
    → AreBelow (length old) os → AddsGates (literal_operands v.sides.with.items) old one (Ok p)
    → AddsGates (literal_operands v.sides.without.items) one two (Ok q)
    → DecidesVote v (operand_of p) (operand_of q) two new (Ok r) → AddsGates os old new (Ok r)
vote_made old one two new os v p q r is below w u d =
    let grown = grows_on w.grows (grows_on u.grows d.grows) in
    let with = literal_operands v.sides.with.items in
    let without = literal_operands v.sides.without.items in
    let all_with = all_of_kept (grows_on u.grows d.grows) w.made in
    let all_without = all_of_kept d.grows u.made in
    record {
      grows = grown;
      made = record {
        below = d.below;
        operands = all_below_kept os grown below;
        same = λ set.
            let values = values_at set new in
            let x = literal_of v.test in
            d.same set
            (λ h. ap (λ z. signed v.rises z) (all_with.same set)
            ∙ is.implied set values (ap (λ z. signed v.rises z) (sym (all_without.same set)) ∙ h))
            ∙ ap₂ (λ y z. cond (value_at new x set) y z)
            (all_with.same set ∙ all_kept set with grown is.with)
            (all_without.same set ∙ all_kept set without grown is.without)
            ∙ ap (λ z. cond z (joint_at true set (values_at set old) with) (joint_at true set (values_at set old) without))
            (value_kept set x grown is.test)
            ∙ is.same set ∙ sym (all_kept set os grown below);
      };
    }

-- the same of what the code names otherwise
pub voted_made : (old start one two new : List Gate) (os : List Operand) (v : Vote) (with without : List Literal)
    (p q r : code.Operand) → IsVoteOf old os v → AreBelow (length old) os → start ≡ old → with ≡ v.sides.with.items
    → without ≡ v.sides.without.items → AddsGates (literal_operands with) start one (Ok p)
    → AddsGates (literal_operands without) one two (Ok q) → DecidesVote v (operand_of p) (operand_of q) two new (Ok r)
    → AddsGates os old new (Ok r)
voted_made old start one two new os v with without p q r is below s w u a b d =
    vote_made old one two new os v p q r is below
    (subst (λ (z : List Gate). AddsGates (literal_operands v.sides.with.items) z one (Ok p)) s
    (subst (λ (z : List Literal). AddsGates (literal_operands z) start one (Ok p)) w a))
    (subst (λ (z : List Literal). AddsGates (literal_operands z) one two (Ok q)) u b) d
