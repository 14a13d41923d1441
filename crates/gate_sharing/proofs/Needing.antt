-- The literals that a gate needs, one by one.
use Rattle.std.proofs.Common.{◌≡◌, ℕ, ◌+◌, ◌<◌, Bool, List, [], ◌∷◌, ◌++◌, map, take, get_or, length, sym, ap, ◌∙◌, subst}
use Rattle.std.proofs.lemmas.List.{take_more, map-append}
use Rattle.ar_base.specs.Lists.{IsOneOf}
use Rattle.ar_base.proofs.Standing.{one_here, stands_get}
use Rattle.eq_core.specs.Gates as g
use Rattle.eq_core.specs.Ordered.{AreBelow}
use Rattle.eq_core.specs.ValuesInside.{IsBelow}
use Rattle.eq_core.specs.Views.{operand_of}
use Rattle.eq_core.specs.declared.joints.Operand.{Operand}
use Rattle.eq_core.specs.declared.joints.Operand.TheVariants.{Always, Never}
use Rattle.gate_sharing.specs.declared.literals.Literal.{Literal}
use Rattle.gate_sharing.specs.Literals.{literal_of, literal_operands, AreEnough, AreNeverAll}
use Rattle.gate_sharing.specs.Images.{with_sign, image, needed_for}
use Rattle.gate_sharing.proofs.Alls.{one_mapped, never_one, enough_passes, enough_keeps}

pub item_below : (n : ℕ) (items : List Operand) (i : ℕ) → i < length items → AreBelow n (map operand_of items)
    → IsBelow n (operand_of (get_or items i Always))
item_below n items i h b =
    let x = get_or items i Always in
    b.each (operand_of x) (one_mapped operand_of items x (one_here items i x (stands_get items i Always h)))

module _ (both : Bool) (images : List g.Operand) (items : List Operand) (i : ℕ) (h : i < length items) (o : Operand)
    (e : operand_of o ≡ with_sign both (image images (operand_of (get_or items i Always)))) where
  pub never_found : o ≡ Never → AreNeverAll (needed_for both images (map operand_of items))
  never_found n =
      let x = get_or items i Always in
      let f : g.Operand → g.Operand = λ (p : g.Operand). with_sign both (image images p) in
      let is : f (operand_of x) ≡ g.Never = sym e ∙ ap operand_of n in
      never_one (needed_for both images (map operand_of items))
      (subst (λ (z : g.Operand). IsOneOf (needed_for both images (map operand_of items)) z) is
      (one_mapped f (map operand_of items) (operand_of x)
      (one_mapped operand_of items x (one_here items i x (stands_get items i Always h)))))

  one_further : needed_for both images (map operand_of (take (i + 1) items))
      ≡ needed_for both images (map operand_of (take i items)) ++ operand_of o ∷ []
  one_further =
      let x = get_or items i Always in
      let f : g.Operand → g.Operand = λ (p : g.Operand). with_sign both (image images p) in
      ap (λ (z : List Operand). needed_for both images (map operand_of z)) (take_more items i Always h)
      ∙ ap (λ (z : List g.Operand). map f z) (map-append operand_of (take i items) (x ∷ []))
      ∙ map-append f (map operand_of (take i items)) (operand_of x ∷ [])
      ∙ ap (λ (p : g.Operand). needed_for both images (map operand_of (take i items)) ++ p ∷ []) (sym e)

  module _ (ls : List Literal) (a : AreEnough (needed_for both images (map operand_of (take i items))) (literal_operands ls)) where
    pub one_passed : o ≡ Always
        → AreEnough (needed_for both images (map operand_of (take (i + 1) items))) (literal_operands ls)
    one_passed n =
        subst (λ (z : List g.Operand). AreEnough z (literal_operands ls))
        (sym (one_further ∙ ap (λ (p : g.Operand). needed_for both images (map operand_of (take i items)) ++ p ∷ [])
        (ap operand_of n)))
        (enough_passes (needed_for both images (map operand_of (take i items))) (literal_operands ls) a)

    pub one_kept : (l : Literal) (new : List Literal) → operand_of o ≡ literal_of l → new ≡ ls ++ l ∷ []
        → AreEnough (needed_for both images (map operand_of (take (i + 1) items))) (literal_operands new)
    one_kept l new n m =
        subst (λ (z : List g.Operand). AreEnough z (literal_operands new))
        (sym (one_further ∙ ap (λ (p : g.Operand). needed_for both images (map operand_of (take i items)) ++ p ∷ []) n))
        (subst (λ (z : List g.Operand). AreEnough (needed_for both images (map operand_of (take i items)) ++ literal_of l ∷ []) z)
        (sym (ap (map literal_of) m ∙ map-append literal_of ls (l ∷ [])))
        (enough_keeps (needed_for both images (map operand_of (take i items))) (literal_operands ls) (literal_of l) a))

-- ---- literals of operands, one by one
module _ (items : List Operand) (i : ℕ) (h : i < length items) where
  pub operand_never : get_or items i Always ≡ Never → AreNeverAll (map operand_of items)
  operand_never e =
      let x = get_or items i Always in
      never_one (map operand_of items)
      (subst (λ (z : g.Operand). IsOneOf (map operand_of items) z) (ap operand_of e)
      (one_mapped operand_of items x (one_here items i x (stands_get items i Always h))))

  operands_further : map operand_of (take (i + 1) items)
      ≡ map operand_of (take i items) ++ operand_of (get_or items i Always) ∷ []
  operands_further =
      ap (map operand_of) (take_more items i Always h) ∙ map-append operand_of (take i items) (get_or items i Always ∷ [])

  module _ (ls : List Literal) (a : AreEnough (map operand_of (take i items)) (literal_operands ls)) where
    pub operand_passed : get_or items i Always ≡ Always
        → AreEnough (map operand_of (take (i + 1) items)) (literal_operands ls)
    operand_passed e =
        subst (λ (z : List g.Operand). AreEnough z (literal_operands ls))
        (sym (operands_further ∙ ap (λ (p : g.Operand). map operand_of (take i items) ++ p ∷ []) (ap operand_of e)))
        (enough_passes (map operand_of (take i items)) (literal_operands ls) a)

    pub operand_kept : (l : Literal) (new : List Literal) → operand_of (get_or items i Always) ≡ literal_of l
        → new ≡ ls ++ l ∷ [] → AreEnough (map operand_of (take (i + 1) items)) (literal_operands new)
    operand_kept l new e m =
        subst (λ (z : List g.Operand). AreEnough z (literal_operands new))
        (sym (operands_further ∙ ap (λ (p : g.Operand). map operand_of (take i items) ++ p ∷ []) e))
        (subst (λ (z : List g.Operand). AreEnough (map operand_of (take i items) ++ literal_of l ∷ []) z)
        (sym (ap (map literal_of) m ∙ map-append literal_of ls (l ∷ [])))
        (enough_keeps (map operand_of (take i items)) (literal_operands ls) (literal_of l) a))
