-- Classes from rows of bits.
use Rattle.std.proofs.Common.{◌≡◌, ℕ, zero, suc, ◌+◌, ◌<◌, ◌⊎◌, inl, inr, List, [], ◌∷◌, ◌++◌, Vec, Global, length, take, get_or, refl, sym, subst, arith, ◌↔◌, Bool, true, false, true≢false, IsTrue, if◌then◌else◌}
use Rattle.std.proofs.lemmas.Option.{slice_get-get_or}
use Rattle.ar_base.specs.Sets.{Ascends}
use Rattle.ar_base.specs.Lists.{Stands, IsOneOf}
use Rattle.ar_base.proofs.Standing.{stands_split, stands_left, stands_none, stands_within, one_split, one_left, one_right, one_first}
use Rattle.ar_base.proofs.Sets.{ascends_push}
use Rattle.flow_blocks.specs.Blocks.{Depends, directly, through, Together, same, each_other, IsClass}
use Rattle.flow_blocks.specs.Bits.{HasBit, AreAllDependences}
use Rattle.flow_blocks.specs.Table.{IsSelection}
use Rattle.flow_blocks.proofs.UseLemmas.{stands_take, below_take, one_of_more, next_one, one_of_next}

module _ {uses : List (ℕ × ℕ)} where
  pub depends_on : {a b c : ℕ} → Depends uses a b → Depends uses b c → Depends uses a c
  depends_on (directly one) d = through one d
  depends_on (through one rest) d = through one (depends_on rest d)

  pub together_back : {a b : ℕ} → Together uses a b → Together uses b a
  together_back same = same
  together_back (each_other f g) = each_other g f

  pub together_on : {a b c : ℕ} → Together uses a b → Together uses b c → Together uses a c
  together_on same q = q
  together_on (each_other f g) same = each_other f g
  together_on (each_other f g) (each_other h i) = each_other (depends_on f h) (depends_on i g)

-- what stands in a list with one item
pub only_one : (a n : ℕ) → IsOneOf (a ∷ []) n → n ≡ a
only_one a n one = by one.place one.stands
  where
    by : (k : ℕ) → Stands (a ∷ []) k n → n ≡ a
    by zero p = cc
    by (suc k) p = absurd (stands_none k n p)

module _ (count : ℕ) (uses : List (ℕ × ℕ)) (rows : List (Vec ℕ Global)) (least : ℕ)
    (all : AreAllDependences count uses rows) (below : least < count)
    (lone : (n : ℕ) → n < least → Together uses least n → ⊥) where
  -- a number that does not depend on itself is a class of its own
  pub class_alone : (HasBit rows least least → ⊥) → IsClass count uses (least ∷ [])
  class_alone not_own = record {
    one = least;
    is_member = record { place = 0; stands = refl };
    below = λ n one. subst (λ (k : ℕ). k < count) (sym (only_one least n one)) below;
    only = λ n one. subst (λ (k : ℕ). Together uses least k) (sym (only_one least n one)) same;
    all = λ n lt t. alone n t;
    ascending = record { ascends = λ j k m n lt p q. no_later j k n lt q };
  }
    where
      alone : (n : ℕ) → Together uses least n → IsOneOf (least ∷ []) n
      alone n same = record { place = 0; stands = refl }
      alone n (each_other f g) = absurd (not_own (all.complete least least below (depends_on f g)))

      no_later : (j k n : ℕ) {m : ℕ} → j < k → Stands (least ∷ []) k n → m < n
      no_later j zero n lt q = absurd (omega arith)
      no_later j (suc k) n lt q = absurd (stands_none k n q)

-- one candidate more is looked at
module _ (rows : List (Vec ℕ Global)) (least : ℕ) (candidates : List ℕ) (k : ℕ) (lt : k < length candidates)
    (up : Ascends candidates) (members new : List ℕ)
    (s : IsSelection rows least (take k candidates) members) where
  abbrev number : ℕ
  number = get_or candidates k 0

  -- the members found so far are less
  under : least < number → (n : ℕ) → IsOneOf members n → n < number
  under low n one = elim (s.only n one) [
    | inl e ↦ omega (arith, e, low)
    | inr more ↦ up.ascends more.0.place k n number (below_take candidates k more.0.place n more.0.stands)
        (stands_take candidates k more.0.place n more.0.stands) (slice_get-get_or candidates k 0 lt)
  ]

  pub selection_on : (is_member : Bool)
      → (IsTrue is_member ↔ ((least < number) × HasBit rows least number × HasBit rows number least))
      → new ≡ (if is_member then members ++ number ∷ [] else members)
      → IsSelection rows least (take (k + 1) candidates) new
  selection_on true says is =
      let both = says.0 refl in
      subst (λ (l : List ℕ). IsSelection rows least (take (k + 1) candidates) l) (sym is) (record {
        first = stands_left members (number ∷ []) 0 least s.first;
        only = λ n one. elim (one_split members (number ∷ []) n one) [
          | inl old ↦ elim (s.only n old) [
            | inl e ↦ inl e
            | inr more ↦ inr (one_of_more candidates k n more.0, more.1, more.2, more.3)
          ]
          | inr last ↦ let e : n ≡ number = only_one number n last in
              inr (subst (λ (m : ℕ). IsOneOf (take (k + 1) candidates) m × (least < m) × HasBit rows least m
              × HasBit rows m least) (sym e) (next_one candidates k 0 lt, both.0, both.1, both.2))
        ];
        all = λ n one low f g. elim (one_of_next candidates k 0 n lt one) [
          | inl old ↦ one_left members (number ∷ []) n (s.all n old low f g)
          | inr e ↦ subst (λ (m : ℕ). IsOneOf (members ++ number ∷ []) m) (sym e)
              (one_right members (number ∷ []) number (one_first number []))
        ];
        ascending = ascends_push members number s.ascending (under both.0);
      })
  selection_on false says is =
      subst (λ (l : List ℕ). IsSelection rows least (take (k + 1) candidates) l) (sym is) (record {
        first = s.first;
        only = λ n one. elim (s.only n one)
            [ inl e ↦ inl e | inr more ↦ inr (one_of_more candidates k n more.0, more.1, more.2, more.3) ];
        all = λ n one low f g. elim (one_of_next candidates k 0 n lt one) [
          | inl old ↦ s.all n old low f g
          | inr e ↦ absurd (true≢false (sym
              (says.1 (subst (λ (m : ℕ). (least < m) × HasBit rows least m × HasBit rows m least) e (low, f, g)))))
        ];
        ascending = s.ascending;
      })
