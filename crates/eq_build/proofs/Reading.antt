-- The operand that is read for a value.
use Rattle.std.proofs.Common.{◌≡◌, ℕ, zero, suc, ◌<◌, ◌≤◌, List, [], ◌∷◌, Vec, Global, arith, if◌then◌else◌, length, get_or, drop, drop-cons, refl, sym, ap, ◌∙◌}
use Rattle.domains.proofs.Same.{same_self}
use Rattle.domains.specs.declared.Value.{Value}
use Rattle.eq_core.specs.Views.{operand_of}
use Rattle.eq_build.specs.Entries.{operand_for}
use Rattle.eq_build.specs.Views.{entries_in, row_at}
use Rattle.eq_build.specs.declared.entries.Entry.{Entry}

-- an entry with the value is read first
first_read : (x : Entry) (xs : List Entry) → operand_of x.operand ≡ operand_for (entries_in (x ∷ xs)) x.value
first_read x xs = ap (λ b. if b then operand_of x.operand else operand_for (entries_in xs) x.value)
    (sym (same_self x.value))

pub read_here : (xs : List Entry) (i : ℕ) (d : Entry) (v : Value) → i < length xs → (get_or xs i d).value ≡ v
    → operand_of (get_or xs i d).operand ≡ operand_for (entries_in (drop i xs)) v
read_here xs i d v l e =
    let x = get_or xs i d in
    first_read x _ ∙ ap (λ z. operand_for (entries_in z) x.value) (sym (drop-cons xs i d l))
    ∙ ap (λ z. operand_for (entries_in (drop i xs)) z) e

-- the row at a place within is read
pub row_here : (rows : List (Vec Entry Global)) (n : ℕ) (d : Vec Entry Global) → n < length rows
    → entries_in (get_or rows n d).items ≡ row_at rows n
row_here [] n d l = absurd (omega (arith, l))
row_here (r ∷ rows) zero d l = refl
row_here (r ∷ rows) (suc n) d l = row_here rows n d (omega (arith, l))

-- from the end on nothing is read
pub row_past : (rows : List (Vec Entry Global)) (n : ℕ) → length rows ≤ n → row_at rows n ≡ []
row_past [] n l = refl
row_past (r ∷ rows) zero l = absurd (omega (arith, l))
row_past (r ∷ rows) (suc n) l = row_past rows n (omega (arith, l))
