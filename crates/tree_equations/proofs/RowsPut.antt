-- Rows that are put in the places of others.
use Rattle.std.proofs.Common.{◌≡◌, ℕ, zero, suc, ◌+◌, ◌<◌, ◌≤◌, Bool, true, false, if◌then◌else◌, nat_eq, List, [], ◌∷◌, ◌++◌, length, take, set, get_or, refl, sym, ap, ◌∙◌, arith}
use Rattle.std.proofs.lemmas.Bool.Decides.{nat_tests}
use Rattle.std.proofs.lemmas.List.{take_more, map-append, length_push, length-map, length-take-le}
use Rattle.ar_base.specs.Lists.{Stands}
use Rattle.eq_build.specs.Entries as e
use Rattle.eq_build.specs.Views.{lists_in, row_at}
use Rattle.eq_build.specs.Steps.{Reading, updated}
use Rattle.tree_equations.specs.Answers.{Entries, row_in}

-- one row put
pub put_one : Reading → ℕ → List e.Entry → Reading
put_one read n row x = if nat_eq n x then row else read x

row_same : (rows : List Entries) (n : ℕ) (row : Entries) → n < length rows → row_at (set rows n row) n ≡ row_in row
row_same [] n row l = absurd (omega (arith, l))
row_same (r ∷ rows) zero row l = refl
row_same (r ∷ rows) (suc n) row l = row_same rows n row (omega (arith, l))

row_other : (rows : List Entries) (n : ℕ) (row : Entries) (x : ℕ) → (n ≡ x → ⊥)
    → row_at (set rows n row) x ≡ row_at rows x
row_other [] n row x d = refl
row_other (r ∷ rows) zero row zero d = absurd (d refl)
row_other (r ∷ rows) zero row (suc x) d = refl
row_other (r ∷ rows) (suc n) row zero d = refl
row_other (r ∷ rows) (suc n) row (suc x) d = row_other rows n row x (λ e. d (omega (arith, e)))

pub row_set : (rows : List Entries) (n : ℕ) (row : Entries) (x : ℕ) → n < length rows
    → row_at (set rows n row) x ≡ (if nat_eq n x then row_in row else row_at rows x)
row_set rows n row x l = by (nat_eq n x) refl
  where
    by : (b : Bool) → nat_eq n x ≡ b → row_at (set rows n row) x ≡ (if b then row_in row else row_at rows x)
    by true t =
        let i : n ≡ x = grind (arith, nat_tests) in
        ap (λ (k : ℕ). row_at (set rows n row) k) (sym i) ∙ row_same rows n row l
    by false t = row_other rows n row x (differs n x t)
      where
        differs : (n x : ℕ) → nat_eq n x ≡ false → n ≡ x → ⊥
        differs n x h = grind (arith, nat_tests)

-- the last of the rows is put first
pub updated_last : (read : Reading) (ns : List ℕ) (rows : List (List e.Entry)) (n : ℕ) (row : List e.Entry) (x : ℕ)
    → length ns ≡ length rows
    → updated read (ns ++ n ∷ []) (rows ++ row ∷ []) x ≡ updated (λ y. if nat_eq n y then row else read y) ns rows x
updated_last read [] [] n row x l = refl
updated_last read [] (r ∷ rows) n row x l = absurd (omega (arith, l))
updated_last read (m ∷ ns) [] n row x l = absurd (omega (arith, l))
updated_last read (m ∷ ns) (r ∷ rows) n row x l =
    ap (λ z. if nat_eq m x then r else z) (updated_last read ns rows n row x (omega (arith, l)))

-- readings that agree agree where they are updated alike
pub updated_agree : (read other : Reading) (ns : List ℕ) (rows : List (List e.Entry)) (x : ℕ) → read x ≡ other x
    → updated read ns rows x ≡ updated other ns rows x
updated_agree read other [] rows x h = h
updated_agree read other (n ∷ ns) [] x h = h
updated_agree read other (n ∷ ns) (r ∷ rows) x h =
    ap (λ z. if nat_eq n x then r else z) (updated_agree read other ns rows x h)

-- one row less is to be put
pub put_step : (rows new : List Entries) (numbers : List ℕ) (left all : List Entries) (row : Entries) (n : ℕ) (x : ℕ)
    → all ≡ left ++ row ∷ [] → length all ≤ length numbers → n ≡ get_or numbers (length left) n → n < length rows
    → new ≡ set rows n row
    → updated (row_at rows) (take (length all) numbers) (lists_in all) x
    ≡ updated (row_at new) (take (length left) numbers) (lists_in left) x
put_step rows new numbers left all row n x split l at under is =
    ap (λ (z : List Entries). updated (row_at rows) (take (length z) numbers) (lists_in z) x) split
    ∙ ap (λ (z : List ℕ). updated (row_at rows) z (lists_in (left ++ row ∷ [])) x) front
    ∙ ap (λ (z : List (List e.Entry)). updated (row_at rows) (take (length left) numbers ++ n ∷ []) z x)
    (map-append row_in left (row ∷ []))
    ∙ updated_last (row_at rows) (take (length left) numbers) (lists_in left) n (row_in row) x even
    ∙ updated_agree (λ y. if nat_eq n y then row_in row else row_at rows y) (row_at new) (take (length left) numbers)
    (lists_in left) x (sym (ap (λ (z : List Entries). row_at z x) is ∙ row_set rows n row x under))
  where
    long : length (left ++ row ∷ []) ≡ length left + 1
    long = length_push left row

    front : take (length (left ++ row ∷ [])) numbers ≡ take (length left) numbers ++ n ∷ []
    front = ap (λ (k : ℕ). take k numbers) long
        ∙ take_more numbers (length left) n (omega (arith, ap length split, long, l))
        ∙ ap (λ (z : ℕ). take (length left) numbers ++ z ∷ []) (sym at)

    even : length (take (length left) numbers) ≡ length (lists_in left)
    even = length-take-le (length left) numbers (omega (arith, ap length split, long, l)) ∙ sym (length-map left row_in)

-- nothing is left to be put
pub put_done : (rows : List Entries) (numbers : List ℕ) (left : List Entries) (x : ℕ) → left ≡ []
    → updated (row_at rows) (take (length left) numbers) (lists_in left) x ≡ row_at rows x
put_done rows numbers left x e =
    ap (λ (z : List Entries). updated (row_at rows) (take (length z) numbers) (lists_in z) x) e

-- rows that are there already change nothing
pub put_same : (read : Reading) (ns : List ℕ) (new : List Entries)
    → ((j n : ℕ) (r : Entries) → Stands new j r → Stands ns j n → read n ≡ row_in r) → (x : ℕ)
    → read x ≡ updated read ns (lists_in new) x
put_same read [] new h x = refl
put_same read (n ∷ ns) [] h x = refl
put_same read (n ∷ ns) (r ∷ new) h x =
    by (nat_eq n x) refl (put_same read ns new (λ j m q st su. h (suc j) m q st su) x)
  where
    by : (b : Bool) → nat_eq n x ≡ b → read x ≡ updated read ns (lists_in new) x
        → read x ≡ (if b then row_in r else updated read ns (lists_in new) x)
    by true t rest =
        let i : n ≡ x = grind (arith, nat_tests) in ap read (sym i) ∙ h 0 n r refl refl
    by false t rest = rest
