-- When the last line of a check is `yes`.
use Rattle.std.proofs.Common.{◌≡◌, ◌≤◌, ltb-false, ℕ, zero, suc, Option, Some, None, Bool, true, false, ◌&&◌, List, [], ◌∷◌, ◌++◌, codes, length, reverse, refl, sym, ◌∙◌, ap, subst, arith, append_assoc}
use Rattle.std.proofs.lemmas.List.{reverse-append, append_cancel_right, length-map}
use Rattle.std.proofs.lemmas.Bool.{and_parts}
use Rattle.ar_base.specs.Lists.{Stands, IsOneOf}
use Rattle.ar_base.proofs.Standing.{stands_none, stands_within, stands_some, one_none}
use Rattle.domains.specs.declared.Value.{Value}
use Rattle.typed_expr.specs.declared.expr.Expr.{Expr}
use Rattle.ar_meaning.specs.Systems.{System}
use Rattle.ar_meaning.specs.Runs.{Label}
use Rattle.ar_meaning.specs.TraceText.{Naming}
use Rattle.ar_firing.specs.CutsInside.{UpTo}
use Rattle.firable_families.specs.Firable.{AndUpTo}
use Rattle.firable_families.proofs.Few.{and_up_to}
use Rattle.job_inputs.specs.CutLists.{CutLine}
use Rattle.cut_check.specs.Verdicts.{Said, IsGood, Fails, Holds, events_of, IsSaid, IsMissing}
use Rattle.cut_check.specs.VerdictsInside.{IsRight, AreTheCuts}
use Rattle.cut_check.proofs.LawLemmas.{said_once, right_cuts, cuts_right}
use Rattle.cut_text.specs.Texts.{order_end}
use Rattle.cut_text.proofs.UpToOrder.{has_it, is_small}
use Rattle.check_text.specs.Texts.{IsCheckText, is_above, kept_line, within_order, lines_in, all_good, is_good, is_none, last_line, said_lines, missing_lines}
use Rattle.check_text.specs.TextsInside.{EndsYes}

-- a text does not end with both
not_both : (order : Option ℕ) (a b : List ℕ) → a ++ last_line order false ≡ b ++ last_line order true → ⊥
not_both order a b e =
    let k : (a ++ codes "no") ++ order_end order ≡ (b ++ codes "yes") ++ order_end order
    = append_assoc a (codes "no") (order_end order) ∙ e ∙ sym (append_assoc b (codes "yes") (order_end order)) in
    let d = append_cancel_right (a ++ codes "no") (b ++ codes "yes") (order_end order) k in
    let f = sym (reverse-append a (codes "no")) ∙ ap reverse d ∙ reverse-append b (codes "yes") in
    let g : ◌≡◌ {A = List ℕ} (111 ∷ (110 ∷ reverse a)) (115 ∷ (101 ∷ (121 ∷ reverse b))) = f in
    let z : ◌≡◌ {A = ℕ} 111 115 = cc in absurd (omega (arith, z))

ends_told : (order : Option ℕ) (text front : List ℕ) (b : Bool) → text ≡ front ++ last_line order b → EndsYes order text
    → b ≡ true
ends_told order text front true e y = refl
ends_told order text front false e y = absurd (not_both order front y.front (sym e ∙ y.is))

good_is : (said : Said) → is_good said ≡ true → said ≡ IsGood
good_is IsGood e = refl
good_is Fails e = absurd (cc e)
good_is (Holds k) e = absurd (cc e)

good_at : (all : List Said) → all_good all ≡ true → (n : ℕ) (said : Said) → Stands all n said → said ≡ IsGood
good_at [] e n said s = cc
good_at (a ∷ all) e zero said s = let i : said ≡ a = cc in i ∙ good_is a (and_parts (is_good a) (all_good all) e).0
good_at (a ∷ all) e (suc n) said s = good_at all (and_parts (is_good a) (all_good all) e).1 n said s

all_are_good : (all : List Said) → ((n : ℕ) (said : Said) → Stands all n said → said ≡ IsGood) → all_good all ≡ true
all_are_good [] h = refl
all_are_good (a ∷ all) h = ap (λ (z : Said). is_good z && all_good all) (h zero a refl)
    ∙ all_are_good all (λ n said s. h (suc n) said s)

none_is : {A : Type 0} (xs : List A) → is_none xs ≡ true → xs ≡ []
none_is [] e = refl
none_is (x ∷ xs) e = absurd (cc e)

-- the lines that are checked have at most as many events as are asked for
short_line : (k n : ℕ) → is_above (Some k) n ≡ false → n ≤ k
short_line k n e = let l = ltb-false k n e in omega (arith, l)

small_line : (order : Option ℕ) (ls : List Label) → is_above order (length ls) ≡ false → UpTo order (events_of ls)
small_line None ls e = tt
small_line (Some k) ls e =
    let few = short_line k (length ls) e in
    let long = length-map ls (λ (l : Label). l.event) in
    record { list = events_of ls; within = record { each = λ x o. o }; few = omega (arith, few, long) }

first_small : (order : Option ℕ) (c : CutLine) (cs : List CutLine) (b : Bool) → is_above order (length c.labels) ≡ b
    → ((n : ℕ) (ls : List Label) → Stands (lines_in cs) n ls → UpTo order (events_of ls))
    → (n : ℕ) (ls : List Label) → Stands (lines_in (kept_line b c cs)) n ls → UpTo order (events_of ls)
first_small order c cs true e more n ls s = more n ls s
first_small order c cs false e more zero ls s =
    let same : c.labels ≡ ls = cc in
    small_line order ls (ap (λ (z : List Label). is_above order (length z)) (sym same) ∙ e)
first_small order c cs false e more (suc n) ls s = more n ls s

within_small : (order : Option ℕ) (cuts : List CutLine) (n : ℕ) (ls : List Label)
    → Stands (lines_in (within_order order cuts)) n ls → UpTo order (events_of ls)
within_small order [] n ls s = absurd (stands_none n ls s)
within_small order (c ∷ cs) n ls s =
    first_small order c (within_order order cs) (is_above order (length c.labels)) refl (within_small order cs) n ls s

module _ {V : Type 0} (order : Option ℕ) (names : Naming) (sys : System V) (dropped : List ℕ) (observer : Expr V)
    (wanted : Value) (cuts : List CutLine) (text : List ℕ)
    (t : IsCheckText order names sys dropped observer wanted cuts text) where
  abbrev right_word : Bool
  right_word = all_good t.said && is_none t.missing

  abbrev lines : List (List Label)
  lines = lines_in (within_order order cuts)

  abbrev front_text : List ℕ
  front_text = said_lines order (within_order order cuts) cuts t.said ++ missing_lines names sys t.lines

  right_list : right_word ≡ true → IsRight order sys dropped observer wanted lines
  right_list e =
      let b = and_parts (all_good t.said) (is_none t.missing) e in
      record {
        good = λ n ls s.
            let said = stands_some t.said n (let w = stands_within lines n ls s in omega (arith, w, t.are_said.long)) in
            subst (λ (z : Said). IsSaid sys dropped observer wanted lines n z)
            (good_at t.said b.0 n said.0 said.1) (t.are_said.each n said.0 said.1);
        whole = λ set small m.
            let o = t.are_missing.whole set (and_up_to order (IsMissing sys dropped observer wanted lines) set m small) in
            one_none o.0 (subst (λ (z : List (List ℕ)). IsOneOf z o.0) (none_is t.missing b.1) o.1);
      }

  none_missing : IsRight order sys dropped observer wanted lines → (missing : List (List ℕ))
      → ((k : ℕ) (s : List ℕ) → Stands missing k s → AndUpTo order (IsMissing sys dropped observer wanted lines) s)
      → is_none missing ≡ true
  none_missing right [] h = refl
  none_missing right (s ∷ more) h =
      let m = h zero s refl in
      absurd (right.whole s (is_small order (IsMissing sys dropped observer wanted lines) s m)
      (has_it order (IsMissing sys dropped observer wanted lines) s m))

  word_right : IsRight order sys dropped observer wanted lines → right_word ≡ true
  word_right right =
      let all : all_good t.said ≡ true = all_are_good t.said (λ n said s.
      let ls = stands_some lines n (let w = stands_within t.said n said s in omega (arith, w, t.are_said.long)) in
      said_once sys dropped observer wanted lines n said IsGood (t.are_said.each n said s)
      (right.good n ls.0 ls.1)) in
      ap (λ (b : Bool). b && is_none t.missing) all
      ∙ none_missing right t.missing (λ k s st. t.are_missing.sound k s st)

  pub yes_told : EndsYes order text → AreTheCuts order sys dropped observer wanted lines
  yes_told y =
      right_cuts sys dropped observer wanted lines order (within_small order cuts)
      (right_list (ends_told order text front_text right_word
      (t.is_text ∙ sym (append_assoc (said_lines order (within_order order cuts) cuts t.said)
      (missing_lines names sys t.lines) (last_line order right_word))) y))

  pub told_yes : AreTheCuts order sys dropped observer wanted lines → EndsYes order text
  told_yes c =
      let e = word_right (cuts_right sys dropped observer wanted lines order c) in
      record {
        front = front_text;
        is = t.is_text ∙ sym (append_assoc (said_lines order (within_order order cuts) cuts t.said)
            (missing_lines names sys t.lines) (last_line order right_word))
            ∙ ap (λ (b : Bool). front_text ++ last_line order b) e;
      }
