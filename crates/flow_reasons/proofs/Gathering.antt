-- Lists that are gathered in order.
use Rattle.std.proofs.Common.{◌≡◌, ◌↔◌, ◌<◌, ◌≤◌, ◌+◌, inl, inr, ℕ, List, [], ◌∷◌, ◌++◌, length, get_or, take, Result, Ok, Err, IfOk, Vec, Global, sym, subst, arith}
use Rattle.std.proofs.lemmas.List.{take_more, take_all}
use Rattle.ar_base.specs.declared.faults.Memory.{Memory}
use Rattle.ar_base.specs.Lists.{Stands, IsOneOf}
use Rattle.ar_base.specs.Numbers.{VarId}
use Rattle.ar_base.specs.Sets.{Ascends}
use Rattle.ar_base.proofs.Standing.{at_most, stands_one, one_none}
use Rattle.ar_base.proofs.Sets.{ascends_push}
use Rattle.domains.specs.declared.Value.{Value}
use Rattle.gts_core.specs.declared.system.Assign.{Assign}
use Rattle.gts_core.specs.declared.system.GtsParts.{GtsParts}
use Rattle.flow_reasons.specs.declared.fact_marks.Mark.{Mark}
use Rattle.flow_reasons.specs.Bringing.{Brings, BringsAt, AreBringing, BringAll}
use Rattle.flow_reasons.proofs.Placing.{pushed_cases, pushed_old, pushed_last, ascends_none, before_next}

module _ (p : GtsParts) (values : List Value) (marks : List Mark) where
  pub bring_none : (xs : List ℕ) → AreBringing p values marks (take 0 xs) []
  bring_none xs = record {
    ascends = ascends_none;
    each = λ n. (λ o. absurd (one_none n o), λ q. absurd (one_none n q.0));
  }

  module _ (xs found : List ℕ) (i : ℕ) (a : Assign) (h : Ascends xs) (l : i < length xs)
      (st : Stands p.assigns.items (get_or xs i 0) a)
      (are : AreBringing p values marks (take i xs) found) where
    next : ℕ
    next = get_or xs i 0

    abbrev more : take (i + 1) xs ≡ take i xs ++ get_or xs i 0 ∷ []
    more = take_more xs i 0 l

    pub bring_taken : Brings values marks a → AreBringing p values marks (take (i + 1) xs) (found ++ get_or xs i 0 ∷ [])
    bring_taken b = record {
      ascends = ascends_push found (get_or xs i 0) are.ascends (λ n o. before_next xs i h l n ((are.each n).0 o).0);
      each = λ n. subst (λ (z : List ℕ). IsOneOf (found ++ get_or xs i 0 ∷ []) n
          ↔ (IsOneOf z n × BringsAt p values marks n)) (sym more) (
            λ o. elim (pushed_cases found (get_or xs i 0) n o) [
              | inl k ↦ (let r = (are.each n).0 k in (pushed_old (take i xs) (get_or xs i 0) n r.0, r.1))
              | inr e ↦ (
                subst (λ z. IsOneOf (take i xs ++ get_or xs i 0 ∷ []) z) e (pushed_last (take i xs) (get_or xs i 0)),
                subst (λ z. BringsAt p values marks z) e (record { assign = a; stands = st; brings = b }),
              )
            ],
            λ q. elim (pushed_cases (take i xs) (get_or xs i 0) n q.0) [
              | inl k ↦ pushed_old found (get_or xs i 0) n ((are.each n).1 (k, q.1))
              | inr e ↦ subst (λ z. IsOneOf (found ++ get_or xs i 0 ∷ []) z) e (pushed_last found (get_or xs i 0))
            ],
          );
    }

    pub bring_left : (Brings values marks a → ⊥) → AreBringing p values marks (take (i + 1) xs) found
    bring_left b = record {
      ascends = are.ascends;
      each = λ n. subst (λ (z : List ℕ). IsOneOf found n ↔ (IsOneOf z n × BringsAt p values marks n)) (sym more) (
        λ o. (let r = (are.each n).0 o in (pushed_old (take i xs) (get_or xs i 0) n r.0, r.1)),
        λ q. elim (pushed_cases (take i xs) (get_or xs i 0) n q.0) [
          | inl k ↦ (are.each n).1 (k, q.1)
          | inr e ↦ (let r : BringsAt p values marks n = q.1 in
              let s : Stands p.assigns.items n a = subst (λ z. Stands p.assigns.items z a) e st in
              absurd (b (subst (λ (z : Assign). Brings values marks z)
              (stands_one p.assigns.items n r.assign a r.stands s) r.brings)))
        ],
      );
    }

  pub bring_done : (xs found : List ℕ) (i : ℕ) → length xs ≤ i → AreBringing p values marks (take i xs) found
      → AreBringing p values marks xs found
  bring_done xs found i l h = subst (λ (z : List ℕ). AreBringing p values marks z found) (take_all i xs l) h

  -- those among all that may bring something are all that do
  pub bring_all : (xs found : List ℕ) → ((n : ℕ) → BringsAt p values marks n → IsOneOf xs n)
      → AreBringing p values marks xs found
      → BringAll p values marks found
  bring_all xs found covers are = record
      { ascends = are.ascends; each = λ n. (λ o. ((are.each n).0 o).1, λ b. (are.each n).1 (covers n b, b)) }

-- numbers below a count
pub below_none : (n : ℕ) → IsOneOf [] n ↔ (n < 0)
below_none n = (λ o. absurd (one_none n o), λ l. absurd (omega (arith, l)))

pub below_next : (xs ys : List ℕ) (i n : ℕ) → ys ≡ xs ++ i ∷ [] → (IsOneOf xs n ↔ (n < i)) → IsOneOf ys n ↔ (n < i + 1)
below_next xs ys i n e h = subst (λ (z : List ℕ). IsOneOf z n ↔ (n < i + 1)) (sym e) (
  λ o. elim (pushed_cases xs i n o) [ inl k ↦ (let l = h.0 k in omega (arith, l)) | inr e ↦ omega (arith, e) ],
  λ l. elim (at_most n i l) [
    | inl k ↦ pushed_old xs i n (h.1 k)
    | inr e ↦ subst (λ z. IsOneOf (xs ++ i ∷ []) z) (sym e) (pushed_last xs i)
  ],
)

pub found_as : (P Q : Vec ℕ Global → Type 0) (r : Result (Vec ℕ Global) Memory) → ((v : Vec ℕ Global) → P v → Q v)
    → IfOk r P → IfOk r Q
found_as P Q (Ok v) f h = f v h
found_as P Q (Err e) f h = tt

pub variables_as : (P Q : Vec VarId Global → Type 0) (r : Result (Vec VarId Global) Memory)
    → ((v : Vec VarId Global) → P v → Q v) → IfOk r P → IfOk r Q
variables_as P Q (Ok v) f h = f v h
variables_as P Q (Err e) f h = tt
