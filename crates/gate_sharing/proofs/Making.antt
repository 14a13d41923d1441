-- A new gate has the value of the literals that it is made for.
use Rattle.std.proofs.Common.{◌≡◌, ℕ, ◌≤◌, Bool, true, false, not, ◌&&◌, ◌||◌, List, [], ◌∷◌, ◌++◌, map, length, Ok, refl, sym, ap, ap₂, ◌∙◌, subst, arith, length-append}
use Rattle.std.proofs.lemmas.List.{length-map, map-append}
use denote.Enum.Bare.{sameb}
use Rattle.ar_base.specs.Lists.{Stands}
use Rattle.ar_base.specs.NumbersInside.{GateId}
use Rattle.ar_base.proofs.Standing.{stands_next, stands_map}
use Rattle.eq_core.specs.contracts.joints.Joint.{the_type}
use Rattle.eq_core.specs.declared.joints.Joint.{Joint}
use Rattle.eq_core.specs.declared.joints.Joint.TheVariants.{And, Or}
use Rattle.eq_core.specs.declared.joints.Operand.TheVariants as code
use Rattle.eq_core.specs.declared.joints.Gate as flat
use Rattle.eq_core.specs.Gates as g
use Rattle.eq_core.specs.Gates.{GateIs, Gate, opposite}
use Rattle.eq_core.specs.Ordered.{AreBelow, AreOrdered, NamesEarlier, IsInPlace}
use Rattle.eq_core.specs.Values.{signed, operand_at, joint_at, values_at, value_at}
use Rattle.eq_core.specs.ValuesInside.{IsBelow, GainsGates}
use Rattle.eq_core.specs.Views.{all_needed, operand_of, gate_of}
use Rattle.eq_core.proofs.Telling.{gate_value, place_below, turned}
use Rattle.eq_core.proofs.Ordering.{ordered_more}
use Rattle.gate_sharing.specs.declared.literals.Literal.{Literal}
use Rattle.gate_sharing.specs.declared.literals.Literal.TheVariants as l
use Rattle.gate_sharing.specs.Literals.{literal_of, literal_operands}
use Rattle.gate_sharing.specs.Sharing.{IsAllOf, AddsGates}
use Rattle.gate_sharing.specs.Images.{with_sign}
use Rattle.gate_sharing.proofs.Alls.{one_unmapped}
use Rattle.gate_sharing.proofs.Sharings.{all_below_kept}

-- or is the opposite of and over opposites
and_not : (a b : Bool) → not (not a || b) ≡ (a && not b)
and_not true b = refl
and_not false b = refl

pub morgan : {A : Type 0} (f : A → g.Operand) (both : Bool) (set : List ℕ) (values : List Bool) (xs : List A)
    → signed both (joint_at both set values (map (λ (x : A). with_sign both (f x)) xs))
    ≡ joint_at true set values (map f xs)
morgan f true set values xs = refl
morgan f false set values [] = refl
morgan f false set values (x ∷ xs) =
    let rest = joint_at false set values (map (λ x. with_sign false (f x)) xs) in
    ap (λ b. not (b || rest)) (turned set values (f x)) ∙ and_not (operand_at set values (f x)) rest
    ∙ ap (λ b. operand_at set values (f x) && b) (morgan f false set values xs)

or_not : (a b : Bool) → (not a && not b) ≡ not (a || b)
or_not true b = refl
or_not false b = refl

pub morgan_back : {A : Type 0} (f : A → g.Operand) (both : Bool) (set : List ℕ) (values : List Bool) (xs : List A)
    → joint_at true set values (map (λ (x : A). with_sign both (f x)) xs)
    ≡ signed both (joint_at both set values (map f xs))
morgan_back f true set values xs = refl
morgan_back f false set values [] = refl
morgan_back f false set values (x ∷ xs) =
    ap₂ (λ a b. a && b) (turned set values (f x)) (morgan_back f false set values xs)
    ∙ or_not (operand_at set values (f x)) (joint_at false set values (map f xs))

-- a literal is an event or an earlier gate, with whichever sign
earlier_signed : (n : ℕ) (both : Bool) (x : Literal) → IsBelow n (literal_of x) → NamesEarlier n (with_sign both (literal_of x))
earlier_signed n true (l.Event e s) h = tt
earlier_signed n false (l.Event e s) h = tt
earlier_signed n true (l.Gate k s) h = h
earlier_signed n false (l.Gate k s) h = h

below_of_earlier : (n : ℕ) (o : g.Operand) → NamesEarlier n o → IsBelow n o
below_of_earlier n g.Always h = tt
below_of_earlier n g.Never h = tt
below_of_earlier n (g.EventIs e s) h = tt
below_of_earlier n (GateIs k s) h = h

-- the gate of these literals
abbrev pub gate_for : Bool → List Literal → Gate
gate_for both ls = record { both = both; operands = map (λ (x : Literal). with_sign both (literal_of x)) ls }

pub in_place : (n : ℕ) (both : Bool) (ls : List Literal) → 2 ≤ length ls → AreBelow n (literal_operands ls)
    → IsInPlace n (gate_for both ls)
in_place n both ls two below = record {
  two = let e = length-map ls (λ (x : Literal). with_sign both (literal_of x)) in omega (arith, e);
  earlier = λ o m.
      let r = one_unmapped (λ (x : Literal). with_sign both (literal_of x)) ls o m in
      subst (λ (z : g.Operand). NamesEarlier n z) r.2 (earlier_signed n both r.0 (below.each (literal_of r.0)
      (record { place = r.1.place; stands = stands_map_of r.1.place r.0 r.1.stands })));
}
  where
    stands_map_of : (k : ℕ) (x : Literal) → Stands ls k x → Stands (literal_operands ls) k (literal_of x)
    stands_map_of k x s = stands_map literal_of ls k x s

pub gates_ordered : (old : List Gate) (both : Bool) (ls : List Literal) → AreOrdered old → 2 ≤ length ls
    → AreBelow (length old) (literal_operands ls) → AreOrdered (old ++ gate_for both ls ∷ [])
gates_ordered old both ls a two below = ordered_more old (gate_for both ls) a (in_place (length old) both ls two below)

plain_sign : (set : List ℕ) (gates : List Gate) (n : ℕ) (both : Bool)
    → value_at gates (GateIs n both) set ≡ signed both (value_at gates (GateIs n true) set)
plain_sign set gates n true = refl
plain_sign set gates n false = refl

pub gate_made : (old : List Gate) (both : Bool) (ls : List Literal) → 2 ≤ length ls
    → AreBelow (length old) (literal_operands ls)
    → IsAllOf (old ++ gate_for both ls ∷ []) (GateIs (length old) both) (literal_operands ls)
gate_made old both ls two below =
    let new = old ++ gate_for both ls ∷ [] in
    record {
      below = let e = length-append old (gate_for both ls ∷ []) in omega (arith, e);
      operands = all_below_kept (literal_operands ls) grown below;
      same = λ set.
          plain_sign set new (length old) both
          ∙ ap (λ b. signed both b) (gate_value set new (length old) (gate_for both ls)
          (stands_next old (gate_for both ls) []) (place_below (in_place (length old) both ls two below)))
          ∙ morgan literal_of both set (values_at set new) ls;
    }
  where
    grown : GainsGates old (old ++ gate_for both ls ∷ [])
    grown = record { more = gate_for both ls ∷ []; is = refl }

-- what the code made
signed_joint : (j : Joint) → sameb the_type j And ≡ all_needed j
signed_joint And = refl
signed_joint Or = refl

as_made : (gates new : List flat.Gate) (j : Joint) (ls : List Literal) (made : flat.Gate) → made.joint ≡ j
    → map operand_of made.operands.items ≡ map (λ (x : Literal). with_sign (all_needed j) (literal_of x)) ls
    → new ≡ gates ++ made ∷ [] → map gate_of new ≡ map gate_of gates ++ gate_for (all_needed j) ls ∷ []
as_made gates new j ls made is holds e =
    ap (map gate_of) e ∙ map-append gate_of gates (made ∷ [])
    ∙ ap₂ (λ (b : Bool) (os : List g.Operand). map gate_of gates ++ record { both = b; operands = os } ∷ [])
    (ap all_needed is) holds

pub code_ordered : (gates new : List flat.Gate) (j : Joint) (ls : List Literal) (made : flat.Gate) → made.joint ≡ j
    → map operand_of made.operands.items ≡ map (λ (x : Literal). with_sign (all_needed j) (literal_of x)) ls
    → new ≡ gates ++ made ∷ [] → AreOrdered (map gate_of gates) → 2 ≤ length ls
    → AreBelow (length gates) (literal_operands ls) → AreOrdered (map gate_of new)
code_ordered gates new j ls made is holds e a two below =
    subst AreOrdered (sym (as_made gates new j ls made is holds e))
    (gates_ordered (map gate_of gates) (all_needed j) ls a two
    (subst (λ n. AreBelow n (literal_operands ls)) (sym (length-map gates gate_of)) below))

pub code_adds : (gates new : List flat.Gate) (j : Joint) (ls : List Literal) (made : flat.Gate) (number : GateId) (sign : Bool)
    → made.joint ≡ j
    → map operand_of made.operands.items ≡ map (λ (x : Literal). with_sign (all_needed j) (literal_of x)) ls
    → new ≡ gates ++ made ∷ [] → number.n ≡ length gates → sign ≡ sameb the_type j And → 2 ≤ length ls
    → AreBelow (length gates) (literal_operands ls)
    → AddsGates (literal_operands ls) (map gate_of gates) (map gate_of new) (Ok (code.Gate number sign))
code_adds gates new j ls made number sign is holds e at s two below =
    let long = length-map gates gate_of in
    let all = gate_made (map gate_of gates) (all_needed j) ls two
    (subst (λ n. AreBelow n (literal_operands ls)) (sym long) below) in
    let same : GateIs (length (map gate_of gates)) (all_needed j) ≡ GateIs number.n sign =
    ap₂ (λ (n : ℕ) (b : Bool). GateIs n b) (long ∙ sym at) (sym (s ∙ signed_joint j)) in
    record {
      grows = record { more = gate_for (all_needed j) ls ∷ []; is = as_made gates new j ls made is holds e };
      made = subst (λ (z : List Gate). IsAllOf z (GateIs number.n sign) (literal_operands ls))
          (sym (as_made gates new j ls made is holds e))
          (subst (λ (o : g.Operand). IsAllOf (map gate_of gates ++ gate_for (all_needed j) ls ∷ []) o (literal_operands ls)) same all);
    }
