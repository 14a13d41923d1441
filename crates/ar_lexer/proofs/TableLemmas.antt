-- Places in a table.
use Rattle.std.proofs.lemmas.List.{length-map, get_or-map}
use Rattle.std.proofs.Common.{◌≡◌, ℕ, ◌<◌, ◌≤◌, List, [], Some, None, Bool, map, true, false, length, get_or, sym, ap, ◌∙◌, arith, subst, rules}
use Rattle.std.specs.Str.{bytes_eq}
use Rattle.std.specs.List.{position_or_len}
use Rattle.std.proofs.lemmas.List.Sums.{position_or_len_is}
use Rattle.ar_lexer.specs.Spelling.{place_in}

-- the first entry that is the text
pub place_in_is : (table : List (List ℕ)) (text : List ℕ) (i : ℕ) → i < length table
    → ((k : ℕ) → k < i → bytes_eq (get_or table k []) text ≡ false) → bytes_eq (get_or table i []) text ≡ true
    → place_in table text ≡ Some i
place_in_is table text i within before at =
    let first : position_or_len (λ entry. bytes_eq entry text) table ≡ i =
    position_or_len_is (λ entry. bytes_eq entry text) table i [] (omega (arith, within)) before (λ _. at) in
    rw first (search (rules, within))

pub place_in_none : (table : List (List ℕ)) (text : List ℕ)
    → ((k : ℕ) → k < length table → bytes_eq (get_or table k []) text ≡ false) → place_in table text ≡ None
place_in_none table text before =
    let first : position_or_len (λ entry. bytes_eq entry text) table ≡ length table =
    position_or_len_is (λ entry. bytes_eq entry text) table (length table) [] (omega arith) before
    (λ h. absurd (omega (arith, h))) in
    rw first (search rules)

-- what a comparison with an entry of a table of references says
pub entry_at : {X : Type 0} (f : X → List ℕ) (table : List X) (i : ℕ) (d : X) (text bytes : List ℕ) (b : Bool)
    → i < length table → bytes ≡ f (get_or table i d) → b ≡ bytes_eq bytes text
    → bytes_eq (get_or (map f table) i []) text ≡ b
entry_at f table i d text bytes b within same equal =
    ap (λ s. bytes_eq s text) (get_or-map f table i d [] within ∙ sym same) ∙ sym equal

pub length_mapped : {X : Type 0} (f : X → List ℕ) (table : List X) (i : ℕ) → i < length table → i < length (map f table)
length_mapped f table i within = subst (λ n. i < n) (sym (length-map table f)) within

pub length_unmapped : {X : Type 0} (f : X → List ℕ) (table : List X) (i k : ℕ) → length table ≤ i
    → k < length (map f table) → k < i
length_unmapped f table i k over within = let e = length-map table f in omega (arith, over, within, e)
