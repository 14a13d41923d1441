-- Rows that are gathered variable by variable, and a range number by number.
use Rattle.std.proofs.Common.{◌≡◌, ◌<◌, ◌+◌, ℕ, inl, inr, List, [], ◌∷◌, ◌++◌, map, take, take_all, get_or, length, Vec, Global, refl, sym, ap, ◌∙◌, subst, arith}
use Rattle.std.specs.List.{range_with_len}
use Rattle.std.proofs.lemmas.List.{length_push, take_more}
use Rattle.std.proofs.lemmas.List.FromFn.{length-map-range_with_len, take-map-range_with_len, get_or-map-range_with_len}
use Rattle.ar_base.specs.Lists.{Stands}
use Rattle.ar_base.proofs.Standing.{stands_one, stands_within, stands_split, only_item}
use Rattle.domains.specs.Domains.{values_of}
use Rattle.domains.specs.declared.Value.{Value}
use Rattle.typed_expr.specs.Rows.{Rows}
use Rattle.gts_core.specs.declared.system.Variable.{Variable}
use Rattle.gts_core.specs.declared.system.GtsParts.{GtsParts}
use Rattle.gts_core.specs.Rows.{AreDomains}

-- one variable more
pub domains_start : (p : GtsParts) (rows : Rows) → rows ≡ [] → AreDomains p 0 rows
domains_start p rows e = subst (λ (z : Rows). AreDomains p 0 z) (sym e)
    (record { long = refl; row = λ n x r h. absurd (omega arith) })

pub domains_more : (p : GtsParts) (n : ℕ) (rows new : Rows) (x : Variable) (r : Vec Value Global)
    → Stands p.variables.items n x → AreDomains p n rows → r.items ≡ values_of x.domain → new ≡ rows ++ r ∷ []
    → AreDomains p (n + 1) new
domains_more p n rows new x r st a is e = subst (λ (z : Rows). AreDomains p (n + 1) z) (sym e) (record {
  long = length_push rows r ∙ ap (λ (k : ℕ). k + 1) a.long;
  row = λ m y q h s t. elim (stands_split rows (r ∷ []) m q t) [
    | inl k ↦ (let w = stands_within rows m q k in a.row m y q (omega (arith, a.long)) s k)
    | inr k ↦ last m y q h s k.0 k.1 k.2
  ];
})
  where
    last : (m : ℕ) (y : Variable) (q : Vec Value Global) → m < n + 1 → Stands p.variables.items m y → (k : ℕ)
        → m ≡ length rows + k → Stands (r ∷ []) k q → q.items ≡ values_of y.domain
    last m y q h s k i t =
        let at : m ≡ n = omega (arith, a.long) in
        let one : y ≡ x = stands_one p.variables.items n y x (subst (λ (z : ℕ). Stands p.variables.items z y) at s)
        st in
        ap (λ (z : Vec Value Global). z.items) (sym (only_item r q (record { place = k; stands = t }))) ∙ is
        ∙ ap (λ (z : Variable). values_of z.domain) (sym one)

-- one number more of a range
pub range_pushed : (f : ℕ → Value) (k : ℕ) (found new : List Value) (v : Value) → found ≡ map f (range_with_len 0 k)
    → v ≡ f k → new ≡ found ++ v ∷ [] → new ≡ map f (range_with_len 0 (k + 1))
range_pushed f k found new v i j e =
    let xs : List Value = map f (range_with_len 0 (k + 1)) in
    let long : length xs ≡ k + 1 = length-map-range_with_len f 0 (k + 1) in
    let all : take (k + 1) xs ≡ xs = take_all (k + 1) xs (omega arith) in
    let split : take (k + 1) xs ≡ take k xs ++ get_or xs k v ∷ [] = take_more xs k v (omega arith) in
    let front : take k xs ≡ map f (range_with_len 0 k) = take-map-range_with_len f 0 (k + 1) k (omega arith) in
    let last : get_or xs k v ≡ f k = get_or-map-range_with_len f 0 (k + 1) k k v (omega arith) (omega arith) in
    e ∙ ap (λ (z : List Value). z ++ v ∷ []) (i ∙ sym front) ∙ ap (λ (z : Value). take k xs ++ z ∷ []) (j ∙ sym last)
    ∙ sym split ∙ all
