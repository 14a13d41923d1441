-- Terms, and the sides of a vote.
use Rattle.std.proofs.Common.{◌≡◌, ⊎_elim, ℕ, ◌+◌, ◌<◌, take, get_or, Bool, true, false, not, ◌&&◌, cond, List, [], ◌∷◌, ◌++◌, length, refl, sym, ap, ap₂, ◌∙◌, subst}
use Rattle.std.proofs.lemmas.Bool.{and_parts}
use Rattle.std.proofs.lemmas.List.{take_more, map-append}
use Rattle.ar_base.specs.Lists.{IsOneOf}
use Rattle.ar_base.proofs.Standing.{one_first, one_rest, one_left}
use Rattle.ar_base.proofs.Items.{one_last, last_cases}
use Rattle.eq_core.specs.Gates.{Operand, opposite}
use Rattle.eq_core.specs.Ordered.{AreBelow}
use Rattle.eq_core.specs.Values.{operand_at, joint_at}
use Rattle.eq_core.specs.ValuesInside.{IsBelow}
use Rattle.eq_core.proofs.Telling.{turned, opposite_below, below_more, none_below}
use Rattle.gate_sharing.specs.declared.literals.Literal.{Literal}
use Rattle.gate_sharing.specs.declared.terms.Term.{Term}
use Rattle.gate_sharing.specs.Literals.{literal_of, literal_operands, AreEnough}
use Rattle.gate_sharing.specs.Votes.{term_operands, none_at, AreTermsBelow, IsBesideIn, AreSides}
use Rattle.gate_sharing.proofs.Alls.{joint_append}

pub and_always : (b : Bool) → (b && true) ≡ b
and_always true = refl
and_always false = refl

and_three : (a b c : Bool) → (a && (b && c)) ≡ ((a && b) && c)
and_three true b c = refl
and_three false b c = refl

and_turned : (a b : Bool) → (a && b) ≡ (b && a)
and_turned true true = refl
and_turned true false = refl
and_turned false true = refl
and_turned false false = refl

-- ---- one more term
pub none_more : (set : List ℕ) (values : List Bool) (ts : List Term) (t : Term)
    → none_at set values (ts ++ t ∷ []) ≡ (none_at set values ts && not (joint_at true set values (term_operands t)))
none_more set values [] t = and_always (not (joint_at true set values (term_operands t)))
none_more set values (u ∷ ts) t =
    let b = not (joint_at true set values (term_operands u)) in
    ap (λ z. b && z) (none_more set values ts t)
    ∙ and_three b (none_at set values ts) (not (joint_at true set values (term_operands t)))

terms_before : (n : ℕ) (ts : List Term) (t : Term) → AreTermsBelow n (ts ++ t ∷ []) → AreTermsBelow n ts
terms_before n ts t b = record { each = λ u m. b.each u (one_left ts (t ∷ []) u m) }

term_last : (n : ℕ) (ts : List Term) (t : Term) → AreTermsBelow n (ts ++ t ∷ []) → AreBelow n (term_operands t)
term_last n ts t b = b.each t (one_last ts t)

pub terms_more_below : (n : ℕ) (ts : List Term) (t : Term) → AreTermsBelow n ts → AreBelow n (term_operands t)
    → AreTermsBelow n (ts ++ t ∷ [])
terms_more_below n ts t b h = record {
  each = λ u m. ⊎_elim (λ k. b.each u k)
      (λ e. subst (λ (z : Term). AreBelow n (term_operands z)) e h) (last_cases ts t u m);
}

-- ---- what stands beside a literal
beside_value : (set : List ℕ) (values : List Bool) (t : Term) (o other : Operand) → IsBesideIn t o other
    → joint_at true set values (term_operands t) ≡ (operand_at set values o && operand_at set values other)
beside_value set values t o other b =
    let x = operand_at set values o in
    let y = operand_at set values other in
    ⊎_elim
    (λ e. ap (λ z. joint_at true set values z) e ∙ ap (λ z. x && z) (and_always y))
    (λ e. ap (λ z. joint_at true set values z) e ∙ ap (λ z. y && z) (and_always x) ∙ and_turned y x)
    b.is

beside_below : (n : ℕ) (t : Term) (o other : Operand) → IsBesideIn t o other → AreBelow n (term_operands t) → IsBelow n other
beside_below n t o other b h =
    ⊎_elim
    (λ e. h.each other (subst (λ (z : List Operand). IsOneOf z other) (sym e) (one_rest o (other ∷ []) other (one_first other []))))
    (λ e. h.each other (subst (λ (z : List Operand). IsOneOf z other) (sym e) (one_first other (o ∷ []))))
    b.is

-- ---- the sides, term by term
same_sides : (b : Bool) → true ≡ cond b true true
same_sides true = refl
same_sides false = refl

pub sides_none : (test : Operand) → AreSides test [] [] []
sides_none test = record {
  same = λ set values. same_sides (operand_at set values test);
  with_below = λ n h. none_below n;
  without_below = λ n h. none_below n;
}

with_so : (x w u o : Bool) → (cond x w u && not (x && o)) ≡ cond x (w && not o) u
with_so true w u o = refl
with_so false w u o = and_always u

without_so : (x w u o : Bool) → (cond x w u && not (not x && o)) ≡ cond x w (u && not o)
without_so true w u o = and_always w
without_so false w u o = refl

-- one literal more, the opposite of the other
more_value : (set : List ℕ) (values : List Bool) (ls : List Literal) (l : Literal) (other : Operand)
    → literal_of l ≡ opposite other
    → joint_at true set values (literal_operands (ls ++ l ∷ []))
    ≡ (joint_at true set values (literal_operands ls) && not (operand_at set values other))
more_value set values ls l other e =
    ap (λ z. joint_at true set values z) (map-append literal_of ls (l ∷ []))
    ∙ joint_append set values (literal_operands ls) (literal_of l ∷ [])
    ∙ ap (λ z. joint_at true set values (literal_operands ls) && z)
    (and_always (operand_at set values (literal_of l)) ∙ ap (λ z. operand_at set values z) e ∙ turned set values other)

more_below : (n : ℕ) (ls : List Literal) (l : Literal) (other : Operand) → literal_of l ≡ opposite other
    → AreBelow n (literal_operands ls) → IsBelow n other → AreBelow n (literal_operands (ls ++ l ∷ []))
more_below n ls l other e b h =
    subst (λ (z : List Operand). AreBelow n z) (sym (map-append literal_of ls (l ∷ [])))
    (below_more n (literal_operands ls) (literal_of l) b
    (subst (λ (z : Operand). IsBelow n z) (sym e) (opposite_below n other h)))

module _ (test : Operand) (ts : List Term) (with without : List Literal) (s : AreSides test ts with without) (t : Term)
    (other : Operand) (l : Literal) (e : literal_of l ≡ opposite other) where
  sides_with : IsBesideIn t test other → AreSides test (ts ++ t ∷ []) (with ++ l ∷ []) without
  sides_with b = record {
    same = λ set values.
        let x = operand_at set values test in
        let w = joint_at true set values (literal_operands with) in
        let u = joint_at true set values (literal_operands without) in
        let o = operand_at set values other in
        none_more set values ts t
        ∙ ap₂ (λ y z. y && not z) (s.same set values) (beside_value set values t test other b)
        ∙ with_so x w u o
        ∙ ap (λ z. cond x z u) (sym (more_value set values with l other e));
    with_below = λ n h. more_below n with l other e (s.with_below n (terms_before n ts t h))
        (beside_below n t test other b (term_last n ts t h));
    without_below = λ n h. s.without_below n (terms_before n ts t h);
  }

  sides_without : IsBesideIn t (opposite test) other → AreSides test (ts ++ t ∷ []) with (without ++ l ∷ [])
  sides_without b = record {
    same = λ set values.
        let x = operand_at set values test in
        let w = joint_at true set values (literal_operands with) in
        let u = joint_at true set values (literal_operands without) in
        let o = operand_at set values other in
        none_more set values ts t
        ∙ ap₂ (λ y z. y && not z) (s.same set values)
        (beside_value set values t (opposite test) other b ∙ ap (λ z. z && o) (turned set values test))
        ∙ without_so x w u o
        ∙ ap (λ z. cond x w z) (sym (more_value set values without l other e));
    with_below = λ n h. s.with_below n (terms_before n ts t h);
    without_below = λ n h. more_below n without l other e (s.without_below n (terms_before n ts t h))
        (beside_below n t (opposite test) other b (term_last n ts t h));
  }

-- the next term
module _ (test : Operand) (ts : List Term) (i : ℕ) (d : Term) (h : i < length ts) (with without : List Literal)
    (s : AreSides test (take i ts) with without) (other : Operand) (l : Literal) (e : literal_of l ≡ opposite other)
    (new pushed kept : List Literal) (is : new ≡ pushed) where
  pub next_with : IsBesideIn (get_or ts i d) test other → pushed ≡ with ++ l ∷ [] → kept ≡ without
      → AreSides test (take (i + 1) ts) new kept
  next_with b m k =
      subst (λ (z : List Literal). AreSides test (take (i + 1) ts) z kept) (sym (is ∙ m))
      (subst (λ (z : List Literal). AreSides test (take (i + 1) ts) (with ++ l ∷ []) z) (sym k)
      (subst (λ (z : List Term). AreSides test z (with ++ l ∷ []) without) (sym (take_more ts i d h))
      (sides_with test (take i ts) with without s (get_or ts i d) other l e b)))

  pub next_without : (o : Operand) → o ≡ opposite test → IsBesideIn (get_or ts i d) o other → pushed ≡ without ++ l ∷ []
      → kept ≡ with → AreSides test (take (i + 1) ts) kept new
  next_without o t b m k =
      subst (λ (z : List Literal). AreSides test (take (i + 1) ts) kept z) (sym (is ∙ m))
      (subst (λ (z : List Literal). AreSides test (take (i + 1) ts) z (without ++ l ∷ [])) (sym k)
      (subst (λ (z : List Term). AreSides test z with (without ++ l ∷ [])) (sym (take_more ts i d h))
      (sides_without test (take i ts) with without s (get_or ts i d) other l e
      (subst (λ (z : Operand). IsBesideIn (get_or ts i d) z other) t b))))

-- ---- literals that are among others
pub among_so : (these those few more : List Literal) → AreEnough (literal_operands these) (literal_operands few)
    → AreEnough (literal_operands (these ++ those)) (literal_operands more) → few ≡ more
    → (set : List ℕ) (values : List Bool) → joint_at true set values (literal_operands these) ≡ true
    → joint_at true set values (literal_operands those) ≡ true
among_so these those few more a b e set values h =
    let both : joint_at true set values (literal_operands these ++ literal_operands those) ≡ true =
    ap (λ z. joint_at true set values z) (sym (map-append literal_of these those))
    ∙ sym (b.same set values) ∙ ap (λ z. joint_at true set values (literal_operands z)) (sym e) ∙ a.same set values ∙ h in
    (and_parts (joint_at true set values (literal_operands these)) (joint_at true set values (literal_operands those))
    (sym (joint_append set values (literal_operands these) (literal_operands those)) ∙ both)).1
