-- A term goes where the groups' order has its value.
use Rattle.std.proofs.Common.{◌≡◌, ℕ, zero, suc, ◌<◌, ◌≤◌, Bool, true, false, not, if◌then◌else◌, List, [], ◌∷◌, ◌++◌, map, length, get_or, set, take, drop, Vec, Global, refl, sym, ap, ◌∙◌, subst, arith}
use Rattle.std.specs.List.{AllWithin}
use Rattle.std.proofs.lemmas.List.{map-append}
use Rattle.std.proofs.lemmas.List.Sums.{fold-append}
use Rattle.domains.specs.declared.Value.TheVariants.{Truth}
use Rattle.domains.specs.Same.{is_same}
use Rattle.domains.specs.Values.{is_before}
use Rattle.domains.specs.declared.Value.{Value}
use Rattle.domains.proofs.Order.{same-from_neither, not_before}
use Rattle.domains.proofs.Same.{same_is, same_self}
use Rattle.eq_build.specs.Entries.{Entry, Term, Group, with_term, with_terms, apart, each_for, joint_terms}
use Rattle.eq_core.specs.Gates.{Operand}
use Rattle.eq_core.specs.declared.joints.Operand as sign
use Rattle.eq_build.specs.Views.{operands_in, terms_in, group_of}
use Rattle.eq_build.specs.declared.groups.Group as flat

-- a value that comes before another is not the same
pub before_differs : (v w : Value) → is_before v w ≡ true → is_same v w ≡ false
before_differs v w h = go (is_same v w) refl
  where
    go : (b : Bool) → is_same v w ≡ b → b ≡ false
    go true e = absurd (not_before v w h (same_is v w e))
    go false e = refl

-- nor is one that comes after it
pub after_differs : (v w : Value) → is_before w v ≡ true → is_same v w ≡ false
after_differs v w h = go (is_same v w) refl
  where
    go : (b : Bool) → is_same v w ≡ b → b ≡ false
    go true e = absurd (not_before w v h (sym (same_is v w e)))
    go false e = refl

-- values of which neither comes before the other are the same
pub neither_same : (v w : Value) → is_before v w ≡ false → is_before w v ≡ false → is_same v w ≡ true
neither_same v w h k = subst (λ z. is_same v z ≡ true) (same-from_neither v w h k) (same_self v)

picked : {A : Type 0} (b c : Bool) (x y z : A) → b ≡ true → (if b then x else (if c then y else z)) ≡ x
picked true c x y z e = refl
picked false c x y z e = cc

passed : {A : Type 0} (b c : Bool) (x y z : A) → b ≡ false → c ≡ true → (if b then x else (if c then y else z)) ≡ y
passed true c x y z e f = cc
passed false true x y z e f = refl
passed false false x y z e f = cc

put : {A : Type 0} (b c : Bool) (x y z : A) → b ≡ false → c ≡ false → (if b then x else (if c then y else z)) ≡ z
put true c x y z e f = cc
put false true x y z e f = cc
put false false x y z e f = refl

-- a group that comes before the term's stays where it is
term_passes : (t : Term) (p : Group) (ps : List Group) → is_before p.value t.value ≡ true
    → with_term t (p ∷ ps) ≡ p ∷ with_term t ps
term_passes t p ps h =
    passed (is_same p.value t.value) (is_before p.value t.value) _ _ _ (before_differs p.value t.value h) h

-- so many groups come before the term's
abbrev pub Lower : Term → List flat.Group → ℕ → Type 0
Lower t ps k = AllWithin (λ (p : flat.Group). is_before p.value t.value ≡ true) ps 0 k

lower_rest : (t : Term) (p : flat.Group) (ps : List flat.Group) (k : ℕ) → Lower t (p ∷ ps) (suc k) → Lower t ps k
lower_rest t p ps k a = λ j d l h. a (suc j) d (omega arith) (omega (arith, h))

lower_first : (t : Term) (p : flat.Group) (ps : List flat.Group) (k : ℕ) → Lower t (p ∷ ps) (suc k)
    → is_before p.value t.value ≡ true
lower_first t p ps k a = a zero p (omega arith) (omega arith)

-- the term goes last in the group of its value
pub put_same : (t : Term) (ps : List flat.Group) (k : ℕ) (q : flat.Group) → k < length ps → Lower t ps k
    → ((d : flat.Group) → is_same (get_or ps k d).value t.value ≡ true)
    → ((d : flat.Group) → group_of q
    ≡ record { value = (get_or ps k d).value; terms = (group_of (get_or ps k d)).terms ++ t.operands ∷ [] })
    → map group_of (set ps k q) ≡ with_term t (map group_of ps)
put_same t [] k q l a s e = absurd (omega (arith, l))
put_same t (p ∷ ps) zero q l a s e =
    ap (λ z. z ∷ map group_of ps) (e p)
    ∙ sym (picked (is_same p.value t.value) (is_before p.value t.value) _ _ _ (s p))
put_same t (p ∷ ps) (suc k) q l a s e =
    ap (λ z. group_of p ∷ z) (put_same t ps k q (omega (arith, l)) (lower_rest t p ps k a) s e)
    ∙ sym (term_passes t (group_of p) (map group_of ps) (lower_first t p ps k a))

-- the term makes a new group
pub put_new : (t : Term) (ps : List flat.Group) (k : ℕ) (q : flat.Group) → k ≤ length ps → Lower t ps k
    → (k < length ps → (d : flat.Group) → is_before t.value (get_or ps k d).value ≡ true)
    → (k < length ps → (d : flat.Group) → is_before (get_or ps k d).value t.value ≡ false)
    → group_of q ≡ record { value = t.value; terms = t.operands ∷ [] }
    → map group_of (take k ps ++ q ∷ drop k ps) ≡ with_term t (map group_of ps)
put_new t [] zero q l a s n e = ap (λ z. z ∷ []) e
put_new t [] (suc k) q l a s n e = absurd (omega (arith, l))
put_new t (p ∷ ps) zero q l a s n e =
    ap (λ z. z ∷ map group_of (p ∷ ps)) e
    ∙ sym (put (is_same p.value t.value) (is_before p.value t.value) _ _ _
    (after_differs p.value t.value (s (omega arith) p)) (n (omega arith) p))
put_new t (p ∷ ps) (suc k) q l a s n e =
    ap (λ z. group_of p ∷ z)
    (put_new t ps k q (omega (arith, l)) (lower_rest t p ps k a) (λ h. s (omega (arith, h)))
    (λ h. n (omega (arith, h))) e)
    ∙ sym (term_passes t (group_of p) (map group_of ps) (lower_first t p ps k a))

-- a group with one more term
pub one_pushed : (p : flat.Group) (ts : Vec (Vec sign.Operand Global) Global) (term : Vec sign.Operand Global)
    (os : List sign.Operand) → ts.items ≡ p.terms.items ++ term ∷ [] → term.items ≡ os
    → group_of (record { value = p.value; terms = ts })
    ≡ record { value = p.value; terms = (group_of p).terms ++ operands_in os ∷ [] }
one_pushed p ts term os e f =
    ap (λ (z : List (List Operand)). record { value = p.value; terms = z })
    (ap terms_in e ∙ map-append (λ (t : Vec sign.Operand Global). operands_in t.items) p.terms.items (term ∷ [])
    ∙ ap (λ z. (group_of p).terms ++ operands_in z ∷ []) f)

-- a group of one term
pub one_alone : (v : Value) (ts : Vec (Vec sign.Operand Global) Global) (term : Vec sign.Operand Global)
    (os : List sign.Operand) → ts.items ≡ [] ++ term ∷ [] → term.items ≡ os
    → group_of (record { value = v; terms = ts }) ≡ record { value = v; terms = operands_in os ∷ [] }
one_alone v ts term os e f =
    ap (λ (z : List (List Operand)). record { value = v; terms = z })
    (ap terms_in e ∙ ap (λ z. operands_in z ∷ []) f)

-- the groups of a conjunction or a disjunction
pub joint_groups : (both b : Bool) (ess : List (List Entry)) (os : List Operand) (some all : List Group) → b ≡ both
    → some ≡ with_terms (apart (Truth (not b)) (each_for (Truth (not b)) ess)) [] → os ≡ each_for (Truth b) ess
    → all ≡ with_term (record { value = Truth b; operands = os }) some → all ≡ with_terms (joint_terms both ess) []
joint_groups both b ess os some all i e f k =
    let last : List Operand → Term = λ z. record { value = Truth b; operands = z } in
    let front = apart (Truth (not b)) (each_for (Truth (not b)) ess) in
    k ∙ ap (λ z. with_term (last z) some) f ∙ ap (λ z. with_term (last (each_for (Truth b) ess)) z) e
    ∙ sym (fold-append (λ qs t. with_term t qs) [] front (last (each_for (Truth b) ess) ∷ []))
    ∙ ap (λ z. with_terms (joint_terms z ess) []) i

-- a group whose terms are the same
pub same_group : (p : flat.Group) (ts : Vec (Vec sign.Operand Global) Global) → ts.items ≡ p.terms.items
    → group_of (record { value = p.value; terms = ts }) ≡ group_of p
same_group p ts e = ap (λ z. let g : Group = record { value = p.value; terms = terms_in z } in g) e
