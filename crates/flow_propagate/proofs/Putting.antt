-- Values that are put into tables.
use Rattle.std.proofs.Common.{◌≡◌, ℕ, zero, suc, ◌+◌, ◌<◌, ◌⊎◌, inl, inr, Bool, true, false, List, [], ◌∷◌, ◌++◌, length, take, get_or, set, Contains, Vec, Global, refl, sym, ap, ◌∙◌, subst, arith, length-set}
use Rattle.std.proofs.lemmas.List.{take_more}
use Rattle.std.proofs.lemmas.List.Elements.{Contains-push, Contains-append_left, Contains-push_cases}
use Rattle.ar_base.specs.Lists.{Stands, IsOneOf}
use Rattle.domains.specs.Domains as domains
use Rattle.domains.specs.declared.Domain.{Domain}
use Rattle.domains.specs.declared.Value.{Value}
use Rattle.gts_core.specs.Sound.{IsSound}
use Rattle.gts_core.specs.declared.system.Variable.{Variable}
use Rattle.gts_core.specs.declared.system.Assign.{Assign}
use Rattle.gts_core.specs.declared.system.GtsParts.{GtsParts}
use Rattle.typed_expr.specs.Rows.{Rows, known_row_at}
use Rattle.flow_propagate.specs.Table.{TableHolds, PutsValue, PutsAll}

module _ (new : Vec Value Global) where
  set_grows : (rows : Rows) (t : ℕ) → ((w : Value) → Contains (known_row_at rows t) w → Contains new.items w)
      → (n : ℕ) (w : Value) → TableHolds rows n w → TableHolds (set rows t new) n w
  set_grows [] zero h n w k = k
  set_grows [] (suc t) h n w k = k
  set_grows (r ∷ rows) zero h zero w k = h w k
  set_grows (r ∷ rows) zero h (suc n) w k = k
  set_grows (r ∷ rows) (suc t) h zero w k = k
  set_grows (r ∷ rows) (suc t) h (suc n) w k = set_grows rows t h n w k

  set_only : (Q : Value → Type 0) (rows : Rows) (t : ℕ)
      → ((w : Value) → Contains new.items w → Contains (known_row_at rows t) w ⊎ Q w) → (n : ℕ) (w : Value)
      → TableHolds (set rows t new) n w → TableHolds rows n w ⊎ ((n ≡ t) × Q w)
  set_only Q [] zero h n w k = inl k
  set_only Q [] (suc t) h n w k = inl k
  set_only Q (r ∷ rows) zero h zero w k = elim (h w k) [ inl a ↦ inl a | inr q ↦ inr (refl, q) ]
  set_only Q (r ∷ rows) zero h (suc n) w k = inl k
  set_only Q (r ∷ rows) (suc t) h zero w k = inl k
  set_only Q (r ∷ rows) (suc t) h (suc n) w k =
      elim (set_only Q rows t h n w k) [ inl a ↦ inl a | inr q ↦ inr (ap suc q.0, q.1) ]

  set_there : (rows : Rows) (t : ℕ) (w : Value) → t < length rows → Contains new.items w → TableHolds (set rows t new) t w
  set_there [] zero w h k = absurd (omega arith)
  set_there [] (suc t) w h k = absurd (omega arith)
  set_there (r ∷ rows) zero w h k = k
  set_there (r ∷ rows) (suc t) w h k = set_there rows t w (omega arith) k

pub row_here : (rows : Rows) (t : ℕ) (row : Vec Value Global) → t < length rows → row ≡ get_or rows t row
    → known_row_at rows t ≡ row.items
row_here [] zero row h e = absurd (omega arith)
row_here [] (suc t) row h e = absurd (omega arith)
row_here (r ∷ rows) zero row h e = ap (λ (z : Vec Value Global). z.items) (sym e)
row_here (r ∷ rows) (suc t) row h e = row_here rows t row (omega arith) e

-- a new value
pub puts_new : (d : Domain) (t : ℕ) (v : Value) (rows : Rows) (row new : Vec Value Global) → t < length rows
    → row ≡ get_or rows t row → new.items ≡ row.items ++ v ∷ [] → domains.Holds d v → (TableHolds rows t v → ⊥)
    → PutsValue d t v rows (set rows t new) true
puts_new d t v rows row new h is e k lacks =
    let here : known_row_at rows t ≡ row.items = row_here rows t row h is in record {
      long = length-set rows t new;
      grows = set_grows new rows t (λ w c. subst (λ (z : List Value). Contains z w) (sym e)
          (Contains-append_left row.items (v ∷ []) w (subst (λ (z : List Value). Contains z w) here c)));
      only = λ n w c. elim (set_only new (λ (w : Value). (w ≡ v) × domains.Holds d w) rows t
          (λ w c. elim (Contains-push_cases row.items v w (subst (λ (z : List Value). Contains z w) e c)) [
            | inl a ↦ inl (subst (λ (z : List Value). Contains z w) (sym here) a)
            | inr i ↦ inr (sym i, subst (λ (z : Value). domains.Holds d z) i k)
          ]) n w c) [ inl a ↦ inl a | inr q ↦ inr (q.0, q.1.0, q.1.1) ];
      still = λ i. cc;
      there = λ i. here_now;
      gains = λ i. record { value = v; allowed = k; was_not = lacks; is = here_now };
    }
  where
    here_now : TableHolds (set rows t new) t v
    here_now = set_there new rows t v h (subst (λ (z : List Value). Contains z v) (sym e) (Contains-push row.items v))

-- nothing is put
pub puts_nothing : (d : Domain) (t : ℕ) (v : Value) (rows : Rows) → (domains.Holds d v → TableHolds rows t v)
    → PutsValue d t v rows rows false
puts_nothing d t v rows h = record {
  long = refl;
  grows = λ n w c. c;
  only = λ n w c. inl c;
  still = λ i. refl;
  there = h;
  gains = λ i. absurd (cc i);
}

pub row_holds : (rows : Rows) (t : ℕ) (row : Vec Value Global) (v : Value) → t < length rows → row ≡ get_or rows t row
    → Contains row.items v → TableHolds rows t v
row_holds rows t row v h is c = subst (λ (z : List Value). Contains z v) (sym (row_here rows t row h is)) c

-- one value more
pub puts_more : (d : Domain) (t : ℕ) (vs : List Value) (i : ℕ) (v : Value) (old mid new : Rows) (b c e : Bool)
    → i < length vs → v ≡ get_or vs i v → PutsAll d t (take i vs) old mid b → PutsValue d t v mid new c
    → (e ≡ false → (b ≡ false) × (c ≡ false)) → (e ≡ true → (b ≡ true) ⊎ (c ≡ true))
    → PutsAll d t (take (i + 1) vs) old new e
puts_more d t vs i v old mid new b c e h is a p k one =
    let more : take (i + 1) vs ≡ take i vs ++ v ∷ [] =
    take_more vs i v h ∙ ap (λ (z : Value). take i vs ++ z ∷ []) (sym is) in
    let P : List Value → Type 0 = λ z. PutsAll d t z old new e in
    subst P (sym more) (record {
      long = p.long ∙ a.long;
      grows = λ n w x. p.grows n w (a.grows n w x);
      only = λ n w x. elim (p.only n w x) [
        | inl y ↦ (elim (a.only n w y) [
          | inl z ↦ inl z
          | inr z ↦ inr (z.0, Contains-append_left (take i vs) (v ∷ []) w z.1, z.2)
        ])
        | inr y ↦ inr (
          y.0,
          subst (λ (u : Value). Contains (take i vs ++ v ∷ []) u) (sym y.1)
              (Contains-push (take i vs) v),
          y.2,
        )
      ];
      still = λ f. p.still (k f).1 ∙ a.still (k f).0;
      there = λ w x m. elim (Contains-push_cases (take i vs) v w x) [
        | inl y ↦ p.grows t w (a.there w y m)
        | inr y ↦ subst (λ (u : Value). TableHolds new t u) y (p.there (subst (λ (u : Value). domains.Holds d u) (sym y) m))
      ];
      gains = λ f. elim (one f) [
        | inl x ↦ (let g = a.gains x in record { value = g.value; allowed = g.allowed; was_not = g.was_not; is = p.grows t g.value g.is })
        | inr x ↦ (let g = p.gains x in record { value = g.value; allowed = g.allowed; was_not = λ w. g.was_not (a.grows t g.value w); is = g.is })
      ];
    })

pub puts_start : (d : Domain) (t : ℕ) (rows : Rows) → PutsAll d t [] rows rows false
puts_start d t rows = record {
  long = refl;
  grows = λ n w x. x;
  only = λ n w x. inl x;
  still = λ i. refl;
  there = λ w x m. absurd (none w x);
  gains = λ i. absurd (cc i);
}
  where
    none : (w : Value) → Contains [] w → ⊥
    none w x = omega (arith, x.1)

-- the variable of an assertion
pub record Aims (p : GtsParts) (a : Assign) : Type 0 where
  pub variable : Variable
  pub stands : Stands p.variables.items a.target.n variable
  pub domain : domains.IsDomain variable.domain

pub aims : (p : GtsParts) (a : Assign) → IsSound p → IsOneOf p.assigns.items a → Aims p a
aims p a s i = let r = s.assertions a i in record { variable = r.variable; stands = r.stands; domain = (s.variables a.target.n r.variable r.stands).domain }

-- what is read at a place stands there
pub reads_there : {A : Type 0} (xs : List A) (i : ℕ) (x y : A) → Stands xs i x → y ≡ get_or xs i y → x ≡ y
reads_there [] zero x y st is = cc
reads_there [] (suc i) x y st is = cc
reads_there (z ∷ xs) zero x y st is = let j : z ≡ x = cc in sym j ∙ sym is
reads_there (z ∷ xs) (suc i) x y st is = reads_there xs i x y st is
