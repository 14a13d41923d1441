-- Stores that were extended.
use Rattle.std.proofs.Common.{◌≡◌, ℕ}
use Rattle.zdd_nodes.specs.Families.{Family}
use Rattle.zdd_nodes.specs.Nodes.{Stored, family, IsFamilyNumber, Grows}
use Rattle.zdd_nodes.proofs.Growing as g
use Rattle.diagram_steps.specs.Putting.{Extends}

pub extends_none : (s : Stored) → Extends s s
extends_none s = g.Grows-none (λ h. Unit {0}) s

pub extends_then : (s t u : Stored) → Extends s t → Extends t u → Extends s u
extends_then s t u a b = g.Grows-then (λ h. Unit {0}) s t u a b

pub extends_by : (P : Family → Type 0) (s t : Stored) → Grows P s t → Extends s t
extends_by P s t a = g.Grows-weaker P (λ h. Unit {0}) s t (λ h p. tt) a

pub kept : (s t : Stored) (n : ℕ) → Extends s t → IsFamilyNumber s n → family t n ≡ family s n
kept s t n a h = g.kept (λ h. Unit {0}) s t n a h

pub still : (s t : Stored) (n : ℕ) → Extends s t → IsFamilyNumber s n → IsFamilyNumber t n
still s t n a h = g.still (λ h. Unit {0}) s t n a h
