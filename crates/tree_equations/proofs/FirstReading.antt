-- What the variables read before the rounds.
use Rattle.std.proofs.Common.{◌≡◌, ℕ, zero, suc, ◌+◌, ◌<◌, ◌≤◌, Bool, true, false, if◌then◌else◌, nat_eq, List, [], ◌∷◌, ◌++◌, length, take, set, get_or, map, refl, sym, ap, ◌∙◌, subst, arith}
use Rattle.std.proofs.lemmas.Bool.Decides.{nat_tests}
use Rattle.std.proofs.lemmas.List.{take_more, map-append, length_push, length-map, length-take-le}
use Rattle.std.proofs.lemmas.Bool.{eqb-true}
use Rattle.ar_base.specs.Lists.{Stands}
use Rattle.domains.specs.declared.Value.{Value}
use Rattle.ar_firing.specs.Forest as firing
use Rattle.eq_build.specs.Entries as e
use Rattle.eq_build.specs.Entries.{only}
use Rattle.eq_build.specs.Views.{lists_in, row_at}
use Rattle.gts_core.specs.View.{variables_from}
use Rattle.gts_core.specs.declared.system.Variable.{Variable}
use Rattle.mode_trees.specs.declared.forests.ModeTree.{ModeTree}
use Rattle.eq_build.specs.Steps.{Reading, first_reading, modes_at, in_order}
use Rattle.tree_equations.specs.Answers.{Entries, row_in, trees_in, tree_in, init_of}
use Rattle.tree_equations.proofs.RowsPut.{row_set}

-- the first reading, with these rows where no tree has the variable
abbrev pub modes_or : ℕ → List firing.ModeTree → List (List e.Entry) → List e.Entry → List e.Entry
modes_or n [] ess d = d
modes_or n (t ∷ ts) [] d = d
modes_or n (t ∷ ts) (es ∷ ess) d = if nat_eq t.variable n then in_order es else modes_or n ts ess d

-- the first reading, with a row where no tree has the variable
abbrev pub reading_or : List firing.ModeTree → List (List e.Entry) → Reading → ℕ → List Variable → Reading
reading_or trees rows read n [] x = read x
reading_or trees rows read n (y ∷ ys) x =
    if nat_eq n x then (if y.is_state then modes_or n trees rows (read x) else read x)
    else reading_or trees rows read (n + 1) ys x

-- no tree has the variable
abbrev pub bare : ℕ → List Variable → Reading
bare n ys = first_reading [] [] n (variables_from n ys)

modes_from : (n : ℕ) (trees : List firing.ModeTree) (rows : List (List e.Entry)) (init : Value)
    → modes_at n trees rows init ≡ modes_or n trees rows (only init)
modes_from n [] rows init = refl
modes_from n (t ∷ ts) [] init = refl
modes_from n (t ∷ ts) (es ∷ ess) init =
    ap (λ z. if nat_eq t.variable n then in_order es else z) (modes_from n ts ess init)

-- where both take the one branch
both : {A : Type 0} (b : Bool) (x y : A) → (b ≡ true → x ≡ y) → (if b then x else y) ≡ y
both true x y h = h refl
both false x y h = refl

branch : {A : Type 0} (b : Bool) (x y v w : A) → (b ≡ true → x ≡ v) → (b ≡ false → y ≡ w)
    → (if b then x else y) ≡ (if b then v else w)
branch true x y v w h k = h refl
branch false x y v w h k = k refl

-- the first reading is that of no tree, with the trees
pub first_from : (trees : List firing.ModeTree) (rows : List (List e.Entry)) (n : ℕ) (ys : List Variable) (x : ℕ)
    (read : Reading) → read x ≡ bare n ys x
    → first_reading trees rows n (variables_from n ys) x ≡ reading_or trees rows read n ys x
first_from trees rows n [] x read h = sym h
first_from trees rows n (y ∷ ys) x read h =
    branch (nat_eq n x) _ _ _ _
    (λ at. state (nat_eq n x) y.is_state at h)
    (λ not. first_from trees rows (n + 1) ys x read (h ∙ ap (λ b. if b then here else there) not))
  where
    here : List e.Entry
    here = if y.is_state then only y.value else []

    there : List e.Entry
    there = first_reading [] [] (n + 1) (variables_from (n + 1) ys) x

    state : (b c : Bool) → b ≡ true → read x ≡ (if b then (if c then only y.value else []) else there)
        → (if c then modes_at n trees rows y.value else []) ≡ (if c then modes_or n trees rows (read x) else read x)
    state b true at k = modes_from n trees rows y.value
        ∙ ap (λ z. modes_or n trees rows z) (sym (k ∙ ap (λ z. if z then only y.value else there) at))
    state b false at k = sym (k ∙ ap (λ z. if z then [] else there) at)

or_last : (n : ℕ) (ts : List firing.ModeTree) (ess : List (List e.Entry)) (t : firing.ModeTree) (es d : List e.Entry)
    → length ts ≡ length ess
    → modes_or n (ts ++ t ∷ []) (ess ++ es ∷ []) d ≡ modes_or n ts ess (if nat_eq t.variable n then in_order es else d)
or_last n [] [] t es d l = refl
or_last n [] (f ∷ fs) t es d l = absurd (omega (arith, l))
or_last n (u ∷ us) [] t es d l = absurd (omega (arith, l))
or_last n (u ∷ us) (f ∷ fs) t es d l =
    ap (λ z. if nat_eq u.variable n then in_order f else z) (or_last n us fs t es d (omega (arith, l)))

not_number : (n x : ℕ) → nat_eq n x ≡ false → n ≡ x → ⊥
not_number n x h = grind (arith, nat_tests)

first_number : (n x : ℕ) → nat_eq n x ≡ true → n + 0 ≡ x
first_number n x h = let w = eqb-true n x h in omega (arith, w)

-- the variable at the place is a state variable
abbrev pub IsStateAt : ℕ → List Variable → ℕ → Type 0
IsStateAt n ys x = (v : Variable) × (k : ℕ) × (n + k ≡ x) × Stands ys k v × (v.is_state ≡ true)

-- one tree less, whose row is put where its variable is a state variable
pub reading_last : (ts : List firing.ModeTree) (ess : List (List e.Entry)) (t : firing.ModeTree) (es : List e.Entry)
    (read next : Reading) (n : ℕ) (ys : List Variable) (x : ℕ) → length ts ≡ length ess
    → (IsStateAt n ys x → next x ≡ (if nat_eq t.variable x then in_order es else read x))
    → ((IsStateAt n ys x → ⊥) → next x ≡ read x)
    → reading_or (ts ++ t ∷ []) (ess ++ es ∷ []) read n ys x ≡ reading_or ts ess next n ys x
reading_last ts ess t es read next n [] x l h k = sym (k (λ w. none w))
  where
    none : IsStateAt n [] x → ⊥
    none w = absurd (cc (w.3))
reading_last ts ess t es read next n (y ∷ ys) x l h k =
    branch (nat_eq n x) _ _ _ _ (λ at. state at y.is_state refl)
    (λ not. reading_last ts ess t es read next (n + 1) ys x l (λ w. h (later w))
    (λ never. k (λ w. never (earlier not w))))
  where
    later : IsStateAt (n + 1) ys x → IsStateAt n (y ∷ ys) x
    later w = (w.0, suc w.1, omega (arith, w.2), w.3, w.4)

    earlier : nat_eq n x ≡ false → IsStateAt n (y ∷ ys) x → IsStateAt (n + 1) ys x
    earlier not w = by w.0 w.1 w.2 w.3 w.4
      where
        by : (v : Variable) (i : ℕ) → n + i ≡ x → Stands (y ∷ ys) i v → v.is_state ≡ true → IsStateAt (n + 1) ys x
        by v zero i st is = absurd (not_number n x not (omega (arith, i)))
        by v (suc j) i st is = (v, j, omega (arith, i), st, is)

    state : nat_eq n x ≡ true → (c : Bool) → y.is_state ≡ c
        → (if c then modes_or n (ts ++ t ∷ []) (ess ++ es ∷ []) (read x) else read x)
        ≡ (if c then modes_or n ts ess (next x) else next x)
    state at true is =
        or_last n ts ess t es (read x) l
        ∙ ap (λ z. modes_or n ts ess z)
        (ap (λ z. if nat_eq t.variable z then in_order es else read x) (eqb-true n x at)
        ∙ sym (h (y, 0, first_number n x at, refl, is)))
    state at false is = sym (k (λ w. never w.0 w.1 w.2 w.3 w.4))
      where
        never : (v : Variable) (i : ℕ) → n + i ≡ x → Stands (y ∷ ys) i v → v.is_state ≡ true → ⊥
        never v zero i st st2 = absurd (cc (st, is, st2))
        never v (suc j) i st st2 = let w = eqb-true n x at in absurd (omega (arith, w, i))

-- no tree is left
pub reading_none : (read : Reading) (n : ℕ) (ys : List Variable) (x : ℕ) → reading_or [] [] read n ys x ≡ read x
reading_none read n [] x = refl
reading_none read n (y ∷ ys) x = both_same (nat_eq n x) y.is_state _ _ (reading_none read (n + 1) ys x)
  where
    both_same : (b c : Bool) (v w : List e.Entry) → w ≡ v → (if b then (if c then v else v) else w) ≡ v
    both_same true true v w h = refl
    both_same true false v w h = refl
    both_same false c v w h = h

-- the row at a place of a list, empty where there is none
nth : List (List e.Entry) → ℕ → List e.Entry
nth [] k = []
nth (r ∷ rows) zero = r
nth (r ∷ rows) (suc k) = nth rows k

row_nth : (rows : List Entries) (x : ℕ) → row_at rows x ≡ nth (lists_in rows) x
unfolding nth
row_nth [] x = refl
row_nth (r ∷ rows) zero = refl
row_nth (r ∷ rows) (suc x) = row_nth rows x

bare_at : (n : ℕ) (ys : List Variable) (x k : ℕ) → n + k ≡ x → bare n ys x ≡ nth (map init_of ys) k
unfolding nth
bare_at n [] x k e = refl
bare_at n (y ∷ ys) x zero e =
    ap (λ b. if b then init_of y else first_reading [] [] (n + 1) (variables_from (n + 1) ys) x) (at n x e)
  where
    at : (n x : ℕ) → n + 0 ≡ x → nat_eq n x ≡ true
    at n x e = grind (arith, nat_tests)
bare_at n (y ∷ ys) x (suc k) e =
    ap (λ b. if b then init_of y else first_reading [] [] (n + 1) (variables_from (n + 1) ys) x) (not n x k e)
    ∙ bare_at (n + 1) ys x k (omega (arith, e))
  where
    not : (n x k : ℕ) → n + suc k ≡ x → nat_eq n x ≡ false
    not n x k e = grind (arith, nat_tests)

-- the rows of all variables
pub init_all : (rows : List Entries) (variables : List Variable) → lists_in rows ≡ map init_of variables
    → (length rows ≡ length variables) × ((x : ℕ) → row_at rows x ≡ bare 0 variables x)
init_all rows variables e = (
  sym (length-map rows row_in) ∙ ap length e ∙ length-map variables init_of,
  λ x. row_nth rows x ∙ ap (λ z. nth z x) e ∙ sym (bare_at 0 variables x x (omega arith)),
)

-- one row more
pub init_more : (rows new : List Entries) (variables : List Variable) (i : ℕ) (x : Variable) (row : Entries)
    → i < length variables → x ≡ get_or variables i x → row_in row ≡ init_of x → new ≡ rows ++ row ∷ []
    → lists_in rows ≡ map init_of (take i variables) → lists_in new ≡ map init_of (take (i + 1) variables)
init_more rows new variables i x row l at is e h =
    ap lists_in e ∙ map-append row_in rows (row ∷ []) ∙ ap (λ z. z ++ row_in row ∷ []) h
    ∙ ap (λ z. map init_of (take i variables) ++ z ∷ []) (is ∙ ap init_of at)
    ∙ sym (map-append init_of (take i variables) (get_or variables i x ∷ []))
    ∙ ap (map init_of) (sym (take_more variables i x l))

-- the rows are put as they are to be for one tree
pub record IsPlaced (variables : List Variable) (number : ℕ) (es : List e.Entry) (rows new : List Entries) : Type
    0 where
  pub state : (x : ℕ) → IsStateAt 0 variables x
      → row_at new x ≡ (if nat_eq number x then in_order es else row_at rows x)
  pub other : (x : ℕ) → (IsStateAt 0 variables x → ⊥) → row_at new x ≡ row_at rows x

pub placed_put : (variables : List Variable) (v : Variable) (number : ℕ) (es : List e.Entry) (rows new : List Entries)
    (row : Entries) → Stands variables number v → v.is_state ≡ true → number < length rows → row_in row ≡ in_order es
    → new ≡ set rows number row → IsPlaced variables number es rows new
placed_put variables v number es rows new row st is under order e = record {
  state = λ x w. ap (λ z. row_at z x) e ∙ row_set rows number row x under
      ∙ ap (λ z. if nat_eq number x then z else row_at rows x) order;
  other = λ x never. ap (λ z. row_at z x) e ∙ row_set rows number row x under ∙ by x never (nat_eq number x) refl;
}
  where
    by : (x : ℕ) → (IsStateAt 0 variables x → ⊥) → (b : Bool) → nat_eq number x ≡ b
        → (if b then row_in row else row_at rows x) ≡ row_at rows x
    by x never true t = absurd (never (v, number, zero_more number x (eqb-true number x t), st, is))
      where
        zero_more : (n x : ℕ) → n ≡ x → 0 + n ≡ x
        zero_more n x e = omega (arith, e)
    by x never false t = refl

pub placed_skip : (variables : List Variable) (number : ℕ) (es : List e.Entry) (rows : List Entries)
    → ((v : Variable) → Stands variables number v → v.is_state ≡ true → ⊥) → IsPlaced variables number es rows rows
placed_skip variables number es rows none = record {
  state = λ x w. by x w (nat_eq number x) refl;
  other = λ x never. refl;
}
  where
    by : (x : ℕ) → IsStateAt 0 variables x → (b : Bool) → nat_eq number x ≡ b
        → row_at rows x ≡ (if b then in_order es else row_at rows x)
    by x w true t = absurd (none w.0 (subst (λ (k : ℕ). Stands variables k w.0) (at number x w.1 w.2 t) w.3) w.4)
      where
        at : (n x k : ℕ) → 0 + k ≡ x → nat_eq n x ≡ true → k ≡ n
        at n x k e h = let s = eqb-true n x h in omega (arith, e, s)
    by x w false t = refl

-- one tree less
pub first_step : (variables : List Variable) (trees : List ModeTree) (all left : List Entries) (es : Entries)
    (tree : ModeTree) (rows new : List Entries) → all ≡ left ++ es ∷ [] → length all ≤ length trees
    → tree ≡ get_or trees (length left) tree → IsPlaced variables tree.variable.n (row_in es) rows new → (x : ℕ)
    → reading_or (trees_in (take (length all) trees)) (lists_in all) (row_at rows) 0 variables x
    ≡ reading_or (trees_in (take (length left) trees)) (lists_in left) (row_at new) 0 variables x
first_step variables trees all left es tree rows new split l at p x =
    ap (λ (z : List Entries). reading_or (trees_in (take (length z) trees)) (lists_in z) (row_at rows) 0 variables x)
    split
    ∙ ap (λ (z : List ModeTree). reading_or (trees_in z) (lists_in (left ++ es ∷ [])) (row_at rows) 0 variables x) front
    ∙ ap (λ (z : List firing.ModeTree). reading_or z (lists_in (left ++ es ∷ [])) (row_at rows) 0 variables x)
    (map-append tree_in (take (length left) trees) (tree ∷ []))
    ∙ ap (λ (z : List (List e.Entry)). reading_or (trees_in (take (length left) trees) ++ tree_in tree ∷ []) z
    (row_at rows) 0 variables x) (map-append row_in left (es ∷ []))
    ∙ reading_last (trees_in (take (length left) trees)) (lists_in left) (tree_in tree) (row_in es) (row_at rows)
    (row_at new) 0 variables x even (p.state x) (p.other x)
  where
    long : length (left ++ es ∷ []) ≡ length left + 1
    long = length_push left es

    front : take (length (left ++ es ∷ [])) trees ≡ take (length left) trees ++ tree ∷ []
    front = ap (λ (k : ℕ). take k trees) long
        ∙ take_more trees (length left) tree (omega (arith, ap length split, long, l))
        ∙ ap (λ (z : ModeTree). take (length left) trees ++ z ∷ []) (sym at)

    even : length (trees_in (take (length left) trees)) ≡ length (lists_in left)
    even = length-map (take (length left) trees) tree_in
        ∙ length-take-le (length left) trees (omega (arith, ap length split, long, l)) ∙ sym (length-map left row_in)

-- all trees were looked at
pub first_done : (variables : List Variable) (trees : List ModeTree) (all : List Entries) (rows : List Entries) (x : ℕ)
    → all ≡ []
    → reading_or (trees_in (take (length all) trees)) (lists_in all) (row_at rows) 0 variables x ≡ row_at rows x
first_done variables trees all rows x e =
    ap (λ (z : List Entries). reading_or (trees_in (take (length z) trees)) (lists_in z) (row_at rows) 0 variables x) e
    ∙ reading_none (row_at rows) 0 variables x
