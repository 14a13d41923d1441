-- How a store grows over several calls.
use Rattle.std.proofs.Common.{◌≡◌, ℕ, ◌≤◌, [], ◌++◌, length, Result, Ok, Err, refl, sym, ap, ◌∙◌, subst, arith, length-append, append_assoc, append-nil}
use Rattle.std.proofs.lemmas.List.Elements.{All-append, All-weaker, All-nil}
use Rattle.zdd_nodes.specs.Families.{Family}
use Rattle.zdd_nodes.specs.Sections.{IsCounted}
use Rattle.zdd_nodes.specs.SectionsInside.{IsMade}
use Rattle.zdd_nodes.proofs.Sections.{IsCounted-self}
use Rattle.zdd_nodes.specs.Nodes.{NodeId, Stored, at, family, IsFamilyNumber, Grows, IsFullFor, Draws}
use Rattle.zdd_nodes.specs.declared.NodeFault.{NodeFault}
use Rattle.zdd_nodes.specs.declared.NodeFault.TheVariants.{Full}
use Rattle.zdd_nodes.proofs.Lists.{at-append}

pub Grows-none : (P : Family → Type 0) (v : Stored) → Grows P v v
Grows-none P v = record { limit = refl; added = []; families = sym (append-nil v.families); all = All-nil P }

pub Grows-then : (P : Family → Type 0) (s t u : Stored) → Grows P s t → Grows P t u → Grows P s u
Grows-then P s t u a b = record {
  limit = b.limit ∙ a.limit;
  added = a.added ++ b.added;
  families = b.families ∙ ap (λ x. x ++ b.added) a.families ∙ append_assoc s.families a.added b.added;
  all = All-append P a.added b.added a.all b.all;
}

pub Grows-weaker : (P Q : Family → Type 0) (s t : Stored) → ((h : Family) → P h → Q h) → Grows P s t → Grows Q s t
Grows-weaker P Q s t w a = record {
  limit = a.limit;
  added = a.added;
  families = a.families;
  all = All-weaker P Q w a.added a.all;
}

-- a number keeps its family
pub kept : (P : Family → Type 0) (s t : Stored) (n : ℕ) → Grows P s t → IsFamilyNumber s n → family t n ≡ family s n
kept P s t n a h = ap (λ x. at x n) a.families ∙ at-append s.families a.added n h

pub longer : (P : Family → Type 0) (s t : Stored) → Grows P s t → length s.families ≤ length t.families
longer P s t a = omega (arith, ap length a.families, length-append s.families a.added)

pub still : (P : Family → Type 0) (s t : Stored) (n : ℕ) → Grows P s t → IsFamilyNumber s n → IsFamilyNumber t n
still P s t n a h = omega (arith, h, longer P s t a)

pub full_weaker : (P Q : Family → Type 0) (s : Stored) → ((h : Family) → P h → Q h) → IsFullFor P s → IsFullFor Q s
full_weaker P Q s w f = record {
  family = f.family;
  allowed = w f.family f.allowed;
  missing = f.missing;
  different = f.different;
  full = f.full;
}

pub Draws-stays : (P : Family → Type 0) (made : Family) (v : Stored) (n : NodeId) → IsFamilyNumber v n.n → family v n.n ≡ made
    → Draws P made v v (Ok n)
Draws-stays P made v n h e = record { grows = Grows-none P v; ok = (h, e); full = λ x. cc }

pub Draws-full : (P : Family → Type 0) (made : Family) (v : Stored) → IsFullFor P v → Draws P made v v (Err Full)
Draws-full P made v f = record { grows = Grows-none P v; ok = tt; full = λ _. f }

pub Draws-weaker : (P Q : Family → Type 0) (made : Family) (s t : Stored) (r : Result NodeId NodeFault)
    → ((h : Family) → P h → Q h) → Draws P made s t r → Draws Q made s t r
Draws-weaker P Q made s t r w d = record
    { grows = Grows-weaker P Q s t w d.grows; ok = d.ok; full = λ e. full_weaker P Q t w (d.full e) }

-- a later step of a call
pub Draws-after : (Q : Family → Type 0) (made : Family) (s t u : Stored) (r : Result NodeId NodeFault) → Grows Q s t
    → Draws Q made t u r → Draws Q made s u r
Draws-after Q made s t u r a d = record { grows = Grows-then Q s t u a d.grows; ok = d.ok; full = d.full }

-- a call is refused where a step of it is
pub Draws-refused : (P : Family → Type 0) (made made2 : Family) (s t : Stored) (e : NodeFault)
    → Draws P made s t (Err e) → Draws P made2 s t (Err e)
Draws-refused P made made2 s t e d = record { grows = d.grows; ok = tt; full = d.full }

pub counted_made : (made h : Family) → IsMade made h → IsCounted made h
counted_made made h m = subst (λ x. IsCounted x h) m.0 (IsCounted-self h m.1 m.2)
