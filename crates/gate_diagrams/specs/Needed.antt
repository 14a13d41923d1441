-- Families of operands over the firable sets, the operands in the cone of one, and the families that drawing an operand
-- may store.
use Rattle.std.specs.Prelude.{◌≡◌, ◌<◌, ◌≤◌, ◌⊎◌, ℕ, Bool, true, List, length, take}
use Rattle.std.specs.List.{filter}
use Rattle.ar_base.specs.Lists.{Stands, IsOneOf}
use Rattle.zdd_nodes.specs.Families.{Family}
use Rattle.zdd_nodes.specs.Sections.{IsCounted, IsHalf}
use Rattle.eq_core.specs.Gates.{Operand, Always, Never, EventIs, GateIs, Gate, Table}
use Rattle.eq_core.specs.Values.{values_at, joint_at, value_at}
use Rattle.eq_core.specs.Cones.{InGateCone}

-- the sets at which the operand is true
unfoldable pub family_at : Family → List Gate → Operand → Family
family_at all gates o = filter (value_at gates o) all

-- the sets at which all of the operands are true, or one of them
unfoldable pub joint_family : Family → List Gate → Bool → List Operand → Family
joint_family all gates both os = filter (λ s. joint_at both s (values_at s gates) os) all

-- the operand without its sign
abbrev pub plain : Operand → Operand
plain Always = Always
plain Never = Never
plain (EventIs e sign) = EventIs e true
plain (GateIs g sign) = GateIs g true

-- p is the operand, or an operand of a gate of its cone
pub data IsOperandInCone (gates : List Gate) (o : Operand) : Operand → Type 0 where
  itself : {p : Operand} → p ≡ o → IsOperandInCone gates o p
  of_gate : {g : ℕ} {gate : Gate} {p : Operand} → InGateCone gates o g → Stands gates g gate → IsOneOf gate.operands p
      → IsOperandInCone gates o p

-- where `all` are the firable sets, h is a counted section of: them; the family of a named operand with or without its
-- sign; that of a gate of the cone; that of the first so many of its operands, met or joined as the gate says; or it is
-- a half of the operand's own family
pub data IsNeeded (all : Family) (gates : List Gate) (o : Operand) (h : Family) : Type 0 where
  of_firable : IsCounted all h → IsNeeded all gates o h
  of_signed : (p : Operand) → IsOperandInCone gates o p → IsCounted (family_at all gates p) h → IsNeeded all gates o h
  of_plain : (p : Operand) → IsOperandInCone gates o p → IsCounted (family_at all gates (plain p)) h
      → IsNeeded all gates o h
  of_whole : (g : ℕ) → InGateCone gates o g → IsCounted (family_at all gates (GateIs g true)) h → IsNeeded all gates o h
  of_first : (g : ℕ) (gate : Gate) (k : ℕ) → InGateCone gates o g → Stands gates g gate → 0 < k → k ≤ length
      gate.operands → IsCounted (joint_family all gates gate.both (take k gate.operands)) h → IsNeeded all gates o h
  of_half : IsHalf (family_at all gates o) h → IsNeeded all gates o h

-- h is needed for the table's conflict operand or for its top operand
abbrev pub IsNeededByBoth : Family → Table → Family → Type 0
IsNeededByBoth all table h = IsNeeded all table.gates table.conflict h ⊎ IsNeeded all table.gates table.top h
