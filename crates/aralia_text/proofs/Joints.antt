-- How an operand is joined to those before.
use Rattle.std.proofs.Common.{◌≡◌, ℕ, Bool, true, false, true≢false, List, [], ◌++◌, codes, drop, refl, sym, ap, ◌∙◌}
use Rattle.std.proofs.lemmas.List.{append_cancel_left}
use Rattle.aralia_text.specs.Texts.{joint_text}
use Rattle.aralia_text.specs.Fronts.{IsAny, BeginAlike, begins_with, IsRead, part, IsStuck, IsStuckIn, IsSoughtJoint}
use Rattle.aralia_text.proofs.Stuck.{alike_first, Inside, stuck_behind, stuck_here}

module _ (rest : List ℕ) where
  pub no_space : (n : ℕ) → IsStuckIn (codes " ") rest n → IsStuck IsSoughtJoint joint_text IsAny rest n
  no_space n k =
      stuck_here (λ u. Unit {0}) (λ u. codes " ") IsAny IsSoughtJoint joint_text IsAny rest n
      (λ u is. record { b = true; more = codes "& "; sought = tt; is = refl })
      (λ both back other is any alike e. by both back other e) k
    where
      by : (both : Bool) (back other : List ℕ) → other ≡ joint_text both ++ back
          → Inside {A = Unit {0}} (λ u. Unit {0}) (λ u. codes " ") IsAny IsSoughtJoint joint_text IsAny other
      by true back other e = record { a = tt; back = codes "& " ++ back; sought = tt; ends = tt; is = e }
      by false back other e = record { a = tt; back = codes "| " ++ back; sought = tt; ends = tt; is = e }

  module _ (behind : List ℕ) (begun : rest ≡ codes " " ++ behind) where
    pub and_stuck : begins_with 38 behind ≡ true → (n : ℕ) → IsStuckIn (codes "& ") behind n
        → IsStuck IsSoughtJoint joint_text IsAny rest n
    and_stuck here n k =
        stuck_behind (λ u. Unit {0}) (λ u. codes "& ") IsAny IsSoughtJoint joint_text IsAny rest (codes " ") behind n begun
        (part true (codes "& ") tt refl)
        (λ u is. record { b = true; more = []; sought = tt; is = refl })
        (λ both back other is any alike e. by both back other alike e) k
      where
        by : (both : Bool) (back other : List ℕ) → BeginAlike behind other
            → codes " " ++ other ≡ joint_text both ++ back
            → Inside {A = Unit {0}} (λ u. Unit {0}) (λ u. codes "& ") IsAny IsSoughtJoint joint_text IsAny other
        by true back other alike e = record {
          a = tt;
          back = back;
          sought = tt;
          ends = tt;
          is = append_cancel_left (codes " ") other (codes "& " ++ back) e;
        }
        by false back other alike e =
            let text : other ≡ codes "| " ++ back = append_cancel_left (codes " ") other (codes "| " ++ back) e in
            absurd (true≢false (sym (alike_first 38 behind other alike ∙ here) ∙ ap (begins_with 38) text))

    pub or_stuck : begins_with 38 behind ≡ false → (n : ℕ) → IsStuckIn (codes "| ") behind n
        → IsStuck IsSoughtJoint joint_text IsAny rest n
    or_stuck not_here n k =
        stuck_behind (λ u. Unit {0}) (λ u. codes "| ") IsAny IsSoughtJoint joint_text IsAny rest (codes " ") behind n begun
        (part false (codes "| ") tt refl)
        (λ u is. record { b = false; more = []; sought = tt; is = refl })
        (λ both back other is any alike e. by both back other alike e) k
      where
        by : (both : Bool) (back other : List ℕ) → BeginAlike behind other
            → codes " " ++ other ≡ joint_text both ++ back
            → Inside {A = Unit {0}} (λ u. Unit {0}) (λ u. codes "| ") IsAny IsSoughtJoint joint_text IsAny other
        by false back other alike e = record {
          a = tt;
          back = back;
          sought = tt;
          ends = tt;
          is = append_cancel_left (codes " ") other (codes "| " ++ back) e;
        }
        by true back other alike e =
            let text : other ≡ codes "& " ++ back = append_cancel_left (codes " ") other (codes "& " ++ back) e in
            absurd (true≢false (sym (ap (begins_with 38) text) ∙ alike_first 38 behind other alike ∙ not_here))

    pub and_read : (left : List ℕ) → behind ≡ codes "& " ++ left → IsRead IsSoughtJoint joint_text IsAny rest true left
    and_read left e = record {
      sought = tt;
      joined = begun ∙ ap (λ (z : List ℕ). codes " " ++ z) e;
      only = λ both back other is any alike f. by both back other f;
    }
      where
        by : (both : Bool) (back other : List ℕ) → joint_text true ++ other ≡ joint_text both ++ back
            → (both ≡ true) × (back ≡ other)
        by true back other f = (refl, append_cancel_left (codes " & ") back other (sym f))
        by false back other f = absurd (true≢false (ap (λ (z : List ℕ). begins_with 38 (drop 1 z)) f))

    pub or_read : (left : List ℕ) → behind ≡ codes "| " ++ left → IsRead IsSoughtJoint joint_text IsAny rest false left
    or_read left e = record {
      sought = tt;
      joined = begun ∙ ap (λ (z : List ℕ). codes " " ++ z) e;
      only = λ both back other is any alike f. by both back other f;
    }
      where
        by : (both : Bool) (back other : List ℕ) → joint_text false ++ other ≡ joint_text both ++ back
            → (both ≡ false) × (back ≡ other)
        by false back other f = (refl, append_cancel_left (codes " | ") back other (sym f))
        by true back other f = absurd (true≢false (sym (ap (λ (z : List ℕ). begins_with 38 (drop 1 z)) f)))
