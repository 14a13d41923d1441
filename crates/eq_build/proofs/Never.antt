-- A term that holds Never changes nothing.
use Rattle.std.proofs.Common.{◌≡◌, Bool, true, false, if◌then◌else◌, List, [], ◌∷◌, ◌++◌, refl, sym, ap, ◌∙◌, subst}
use Rattle.eq_core.specs.Gates.{Operand, Always, Never, EventIs, GateIs, Gate, Made, joined, all_of, any_of}
use Rattle.eq_build.specs.Entries.{OperandRow, all_of_each, one_of_alls}
use Rattle.eq_build.specs.Laws.{holds_never, without_never}

-- all operands with Never among them are Never, and make no gate
all_never : (g : List Gate) (kept os : List Operand) → holds_never os ≡ true
    → joined true g kept os ≡ record { operand = Never; gates = g }
all_never g kept [] e = cc
all_never g kept (Always ∷ os) e = all_never g kept os e
all_never g kept (Never ∷ os) e = refl
all_never g kept (EventIs n sign ∷ os) e = all_never g (kept ++ EventIs n sign ∷ []) os e
all_never g kept (GateIs n sign ∷ os) e = all_never g (kept ++ GateIs n sign ∷ []) os e

-- lists that differ in operands Never alone join alike
record Alike (os ps : List Operand) : Type 0 where
  pub same : (g : List Gate) (kept : List Operand) → joined false g kept os ≡ joined false g kept ps

alike_never : (os ps : List Operand) → Alike os ps → Alike (Never ∷ os) ps
alike_never os ps a = record { same = λ g kept. a.same g kept }

alike_both : (o : Operand) (os ps : List Operand) → Alike os ps → Alike (o ∷ os) (o ∷ ps)
alike_both Always os ps a = record { same = λ g kept. refl }
alike_both Never os ps a = record { same = λ g kept. a.same g kept }
alike_both (EventIs n sign) os ps a = record { same = λ g kept. a.same g (kept ++ EventIs n sign ∷ []) }
alike_both (GateIs n sign) os ps a = record { same = λ g kept. a.same g (kept ++ GateIs n sign ∷ []) }

-- the rows have the same gates, and their operands join alike
record AreAlike (r s : OperandRow) : Type 0 where
  pub gates : r.gates ≡ s.gates
  pub operands : Alike r.operands s.operands

rows_alike : (g : List Gate) (oss : List (List Operand))
    → AreAlike (all_of_each g oss) (all_of_each g (without_never oss))
rows_alike g [] = record { gates = refl; operands = record { same = λ h kept. refl } }
rows_alike g (os ∷ oss) = go (holds_never os) refl (rows_alike g oss) (λ h. rows_alike h oss)
  where
    go : (b : Bool) → holds_never os ≡ b → AreAlike (all_of_each g oss) (all_of_each g (without_never oss))
        → ((h : List Gate) → AreAlike (all_of_each h oss) (all_of_each h (without_never oss)))
        → AreAlike (all_of_each g (os ∷ oss)) (all_of_each g (if b then without_never oss else os ∷ without_never oss))
    go true e r s =
        let same = sym (all_never g [] os e) in
        subst (λ (m : Made). AreAlike
        (record { operands = m.operand ∷ (all_of_each m.gates oss).operands; gates = (all_of_each m.gates oss).gates })
        (all_of_each g (without_never oss))) same
        (record { gates = r.gates; operands = alike_never _ _ r.operands })
    go false e r s =
        let m = all_of g os in
        let t = s m.gates in
        record { gates = t.gates; operands = alike_both m.operand _ _ t.operands }

-- one of the terms is one of those without Never
pub one_alike : (g : List Gate) (oss : List (List Operand)) → one_of_alls g oss ≡ one_of_alls g (without_never oss)
one_alike g oss =
    let a = rows_alike g oss in
    let r = all_of_each g oss in
    let s = all_of_each g (without_never oss) in
    let both = a.operands in
    both.same r.gates [] ∙ ap (λ z. any_of z s.operands) a.gates
