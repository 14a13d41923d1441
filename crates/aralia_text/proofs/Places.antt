-- The place at which a text goes wrong.
use Rattle.std.proofs.Common.{◌≡◌, ℕ, ◌+◌, ◌-◌, ◌≤◌, ◌<◌, ◌⊎◌, inl, inr, List, [], ◌∷◌, ◌++◌, length, take, drop, refl, sym, ap, ◌∙◌, subst, append_assoc, append-nil, arith}
use Rattle.std.proofs.lemmas.List.{length-append, take-append-drop, take_at, take-take}
use Rattle.ar_base.specs.declared.places.Place.{Place}
use Rattle.ar_base.proofs.Standing.{stands_none}
use Rattle.ar_lexer.specs.Tokens.{place_after}
use Rattle.eq_core.specs.Gates.{Table, Always}
use Rattle.aralia_text.specs.Texts.{equations_text}
use Rattle.aralia_text.specs.Readings.{IsTextOf, BeginsTable, IsFirstWrong, IsWrongPlace}
use Rattle.aralia_text.specs.Fronts.{IsEnd, BeginAlike, AreBegun, none, part, HasTableText, IsOnlyTable, IsNoTable}
use Rattle.aralia_text.proofs.Stuck.{not_stuck}

module _ (events : List (List ℕ)) where
  written : (text : List ℕ) (table : Table) → IsTextOf events text table → HasTableText events table
  written text table is = record {
    ordered = is.ordered;
    gates = is.gates;
    conflict = is.conflict;
    top = is.top;
    is_text = refl;
  }

  text_of : (text : List ℕ) (table : Table) → HasTableText events table → text ≡ equations_text events table
      → IsTextOf events text table
  text_of text table is e = record {
    ordered = is.ordered;
    gates = is.gates;
    conflict = is.conflict;
    top = is.top;
    is_text = e;
  }

  -- the table with no gates
  abbrev no_gates : Table
  no_gates = record { gates = []; conflict = Always; top = Always }

  no_gates_written : HasTableText events no_gates
  no_gates_written = record {
    ordered = record { gates = record { each = λ n gate s. absurd (stands_none n gate s) }; conflict = tt; top = tt };
    gates = λ n gate s. absurd (stands_none n gate s);
    conflict = tt;
    top = tt;
    is_text = refl;
  }

  module _ (text : List ℕ) where
    pub table_text : (table : Table) → IsOnlyTable events text table → IsTextOf events text table
    table_text table r = text_of text table r.sought (r.joined ∙ append-nil (equations_text events table))

    pub only_table : (table other : Table) → IsOnlyTable events text table → IsTextOf events text other → other ≡ table
    only_table table other r is =
        (r.only other [] [] (written text other is) refl tt
        (sym r.joined ∙ is.is_text ∙ sym (append-nil (equations_text events other)))).0

    module _ (n : ℕ) (k : IsNoTable events text n) where
      pub no_table : (table : Table) → IsTextOf events text table → ⊥
      no_table table is = not_stuck (HasTableText events) (equations_text events) IsEnd text n k table []
          (written text table is) refl (is.is_text ∙ sym (append-nil (equations_text events table)))

      whole_len : length text ≡ length k.front + n
      whole_len = ap length k.joined ∙ length-append k.front k.left ∙ ap (λ (z : ℕ). length k.front + z) k.count

      pub left_within : n ≤ length text
      left_within = let w = whole_len in omega (arith, w)

      front_len : length k.front ≡ length text - n
      front_len = let w = whole_len in omega (arith, w)

      front_is : take (length text - n) text ≡ k.front
      front_is = ap (take (length text - n)) k.joined ∙ take_at k.front k.left (length text - n) front_len

      begins : AreBegun (HasTableText events) (equations_text events) k.front → BeginsTable events k.front
      begins (none e) = (
        no_gates,
        equations_text events no_gates,
        text_of (k.front ++ equations_text events no_gates)
            no_gates no_gates_written (ap (λ (z : List ℕ). z ++ equations_text events no_gates) e),
      )
      begins (part table more is e) = (table, more, text_of (k.front ++ more) table is (sym e))

      not_further : (left : List ℕ) → k.left ≡ left → length text - n < length text
          → BeginsTable events (take (length text - n + 1) text) → ⊥
      not_further [] i inside b =
          let none_left : n ≡ 0 = sym k.count ∙ ap length i in
          omega (arith, none_left, inside)
      not_further (c ∷ more) i inside b =
          let text_is : text ≡ (k.front ++ c ∷ []) ++ more =
          k.joined ∙ ap (λ (z : List ℕ). k.front ++ z) i ∙ sym (append_assoc k.front (c ∷ []) more) in
          let size : length (k.front ++ c ∷ []) ≡ length text - n + 1 =
          length-append k.front (c ∷ []) ∙ ap (λ (z : ℕ). z + 1) front_len in
          let taken : take (length text - n + 1) text ≡ k.front ++ c ∷ [] =
          ap (take (length text - n + 1)) text_is
          ∙ take_at (k.front ++ c ∷ []) more (length text - n + 1) size in
          let whole : k.front ++ (c ∷ b.1) ≡ equations_text events b.0 ++ [] =
          sym (append_assoc k.front (c ∷ []) b.1) ∙ ap (λ (z : List ℕ). z ++ b.1) (sym taken) ∙ b.2.is_text
          ∙ sym (append-nil (equations_text events b.0)) in
          k.wrong b.0 [] (c ∷ b.1) (written (take (length text - n + 1) text ++ b.1) b.0 b.2) refl
          (subst (λ (z : List ℕ). BeginAlike z (c ∷ b.1)) (sym i) refl) whole

      pub first_wrong : IsFirstWrong events text (length text - n)
      first_wrong = record {
        within = omega arith;
        begins = subst (BeginsTable events) (sym front_is) (begins k.begun);
        wrong = not_further k.left refl;
        open_end = λ e table is. no_table table is;
      }

      pub wrong_place : (place : Place) → place ≡ place_after (take (length text - n) text)
          → IsWrongPlace events text place
      wrong_place place e = record { at = length text - n; first = first_wrong; place_is = e }

    -- a first part of a first part
    fewer : (j m : ℕ) → j ≤ m → BeginsTable events (take m text) → BeginsTable events (take j text)
    fewer j m within b =
        let taken : take j (take m text) ≡ take j text = take-take j m text within in
        let parts : take m text ++ b.1 ≡ take j text ++ (drop j (take m text) ++ b.1) =
        ap (λ (z : List ℕ). z ++ b.1) (sym (take-append-drop j (take m text))
        ∙ ap (λ (z : List ℕ). z ++ drop j (take m text)) taken)
        ∙ append_assoc (take j text) (drop j (take m text)) b.1 in
        (b.0, drop j (take m text) ++ b.1, subst (λ (z : List ℕ). IsTextOf events z b.0) parts b.2)

    not_before : (k m : ℕ) → IsFirstWrong events text k → IsFirstWrong events text m → k < m → ⊥
    not_before k m one two h =
        let within = two.within in
        one.wrong (omega (arith, h, within)) (fewer (k + 1) m (omega (arith, h)) two.begins)

    pub one_first_wrong : (k m : ℕ) → IsFirstWrong events text k → IsFirstWrong events text m → k ≡ m
    one_first_wrong k m one two = by (three_ways k m)
      where
        three_ways : (k m : ℕ) → (k ≡ m) ⊎ ((k < m) ⊎ (m < k))
        three_ways k m = grind arith

        by : (k ≡ m) ⊎ ((k < m) ⊎ (m < k)) → k ≡ m
        by (inl e) = e
        by (inr (inl h)) = absurd (not_before k m one two h)
        by (inr (inr h)) = absurd (not_before m k two one h)
