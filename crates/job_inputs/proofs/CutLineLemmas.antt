-- What a line of a list says.
use Rattle.std.proofs.Common.{◌≡◌, ◌-◌, ◌<◌, ◌&&◌, ℕ, true, false, List, [], ◌∷◌, ◌++◌, map, take, drop, length, codes, nat_eq, Option, Some, None, refl, sym, ◌∙◌, ap, arith}
use Rattle.std.specs.List.{starts_with, prefix_len, suffix_len, list_all}
use Rattle.std.specs.Option.{MatchOption}
use denote.Bor.{Bor}
use Rattle.job_inputs.specs.CutLines.{IsPassed, skipped, counts, IsCutLine, trimmed, trimmed_line, texts_in, is_label, is_comma}
use Rattle.job_inputs.specs.CutReads.{commas_left}
use Rattle.job_inputs.specs.Lines.{ScriptLine, Skipped, line_said, is_space_or_tab, pieces}
use Rattle.job_inputs.specs.Reads.{IsLineSaid, bytes_left}
use Rattle.job_inputs.specs.declared.lines.Line as code
use Rattle.job_inputs.specs.declared.lines.Line.TheVariants as lines

-- what is not said to be skipped
pub not_skipped : (r : code.Line) (said : ScriptLine) → IsLineSaid r said → (r ≡ lines.Skipped → ⊥) → said ≡ Skipped → ⊥
not_skipped lines.Skipped said h n e = n refl
not_skipped (lines.Fires label) said h n e = let z = sym h ∙ e in cc
not_skipped lines.GoesBack said h n e = let z = sym h ∙ e in cc
not_skipped lines.Shows said h n e = let z = sym h ∙ e in cc
not_skipped lines.ListsEnabled said h n e = let z = sym h ∙ e in cc
not_skipped lines.NoCommand said h n e = let z = sym h ∙ e in cc

-- a line that is not skipped by a script, and does not begin with `count`
pub not_passed : (line text : List ℕ) → text ≡ trimmed_line line → (line_said line ≡ Skipped → ⊥)
    → starts_with nat_eq text (codes "count") ≡ false → IsPassed line → ⊥
not_passed line text e n f (skipped s) = n s
not_passed line text e n f (counts s) = let z = sym f ∙ ap (λ t. starts_with nat_eq t (codes "count")) e ∙ s in cc

-- the text without the blanks at both ends, as the code takes it
pub trimmed_as : (text rest : List ℕ) (blanks len : ℕ) → blanks ≡ prefix_len is_space_or_tab text
    → rest ≡ drop blanks text
    → len ≡ length rest - suffix_len is_space_or_tab rest → take len rest ≡ trimmed text
trimmed_as text rest blanks len e f g =
    let i : rest ≡ drop (prefix_len is_space_or_tab text) text = f ∙ ap (λ n. drop n text) e in
    ap (λ n. take n rest) g ∙ ap (λ r. take (length r - suffix_len is_space_or_tab r) r) i

-- braces at both ends

brace_last : (xs ys : List ℕ) (a b : ℕ) → xs ++ a ∷ [] ≡ ys ++ b ∷ [] → (a ≡ b) × (xs ≡ ys)
brace_last [] [] a b e = let i : a ≡ b = cc in (i, refl)
brace_last [] (y ∷ []) a b e = let z : ◌≡◌ {A = List ℕ} [] (b ∷ []) = cc in absurd (cc z)
brace_last [] (y ∷ w ∷ ys) a b e = let z : ◌≡◌ {A = List ℕ} [] (w ∷ (ys ++ b ∷ [])) = cc in absurd (cc z)
brace_last (x ∷ []) [] a b e = let z : ◌≡◌ {A = List ℕ} (a ∷ []) [] = cc in absurd (cc z)
brace_last (x ∷ w ∷ xs) [] a b e = let z : ◌≡◌ {A = List ℕ} (w ∷ (xs ++ a ∷ [])) [] = cc in absurd (cc z)
brace_last (x ∷ xs) (y ∷ ys) a b e =
    let i : x ≡ y = cc in
    let j : xs ++ a ∷ [] ≡ ys ++ b ∷ [] = cc in
    let more = brace_last xs ys a b j in
    (more.0, ap (λ z. z ∷ xs) i ∙ ap (λ zs. y ∷ zs) more.1)

-- what stands between two braces is one
pub one_between : (inner other : List ℕ) → codes "{" ++ (inner ++ codes "}") ≡ codes "{" ++ (other ++ codes "}")
    → inner ≡ other
one_between inner other e =
    let j : inner ++ 125 ∷ [] ≡ other ++ 125 ∷ [] = cc in
    (brace_last inner other 125 125 j).1

pub braces_there : (text rest inner : List ℕ) (a b : ℕ) → text ≡ a ∷ rest → rest ≡ inner ++ b ∷ [] → a ≡ 123 → b ≡ 125
    → text ≡ codes "{" ++ (inner ++ codes "}")
braces_there text rest inner a b e f i j =
    e ∙ ap (λ z. a ∷ z) f ∙ ap (λ z. z ∷ (inner ++ b ∷ [])) i ∙ ap (λ z. 123 ∷ (inner ++ z ∷ [])) j

pub first_brace : (text rest inner : List ℕ) (a : ℕ) → text ≡ a ∷ rest → (a ≡ 123 → ⊥)
    → text ≡ codes "{" ++ (inner ++ codes "}") → ⊥
first_brace text rest inner a e n f = let z : a ∷ rest ≡ 123 ∷ (inner ++ 125 ∷ []) = sym e ∙ f in n (cc z)

pub last_brace : (text rest front inner : List ℕ) (a b : ℕ) → text ≡ a ∷ rest → rest ≡ front ++ b ∷ [] → (b ≡ 125 → ⊥)
    → text ≡ codes "{" ++ (inner ++ codes "}") → ⊥
last_brace text rest front inner a b e g n f =
    let z : a ∷ rest ≡ 123 ∷ (inner ++ 125 ∷ []) = sym e ∙ f in
    let j : rest ≡ inner ++ 125 ∷ [] = cc in
    n (brace_last front inner b 125 (sym g ∙ j)).0

pub no_brace : (text inner : List ℕ) → text ≡ [] → text ≡ codes "{" ++ (inner ++ codes "}") → ⊥
no_brace text inner e f = let z : ◌≡◌ {A = List ℕ} [] (123 ∷ (inner ++ 125 ∷ [])) = sym e ∙ f in cc

pub one_brace : (text rest inner : List ℕ) (a : ℕ) → text ≡ a ∷ rest → rest ≡ []
    → text ≡ codes "{" ++ (inner ++ codes "}") → ⊥
one_brace text rest [] a e g f = let z : ◌≡◌ {A = List ℕ} (a ∷ []) (123 ∷ (125 ∷ [])) = ap (λ r. a ∷ r) (sym g) ∙ sym e ∙ f in let w : ◌≡◌ {A = List ℕ} [] (125 ∷ []) = cc in cc
one_brace text rest (b ∷ inner) a e g f =
    let z : ◌≡◌ {A = List ℕ} (a ∷ []) (123 ∷ (b ∷ (inner ++ 125 ∷ []))) = ap (λ r. a ∷ r) (sym g) ∙ sym e ∙ f in
    let w : ◌≡◌ {A = List ℕ} [] (b ∷ (inner ++ 125 ∷ [])) = cc in cc

-- whether the line has the form

pub is_cut : (line text inner : List ℕ) → text ≡ trimmed_line line → text ≡ codes "{" ++ (inner ++ codes "}")
    → list_all is_label (texts_in inner) ≡ true
    → IsCutLine line (texts_in inner)
is_cut line text inner e b h = record { inner = inner; braces = sym e ∙ b; texts = refl; are_labels = h }

pub no_labels : (line text inner : List ℕ) → text ≡ trimmed_line line → text ≡ codes "{" ++ (inner ++ codes "}")
    → list_all is_label (texts_in inner) ≡ false
    → (texts : List (List ℕ)) → IsCutLine line texts → ⊥
no_labels line text inner e b h texts c =
    let same : inner ≡ c.inner = one_between inner c.inner (sym b ∙ e ∙ c.braces) in
    let z : false ≡ true = sym h ∙ ap (λ i. list_all is_label (texts_in i)) same ∙ ap (list_all is_label) (sym c.texts) ∙ c.are_labels in cc

pub no_braces : (line text : List ℕ) → text ≡ trimmed_line line
    → ((inner : List ℕ) → text ≡ codes "{" ++ (inner ++ codes "}") → ⊥)
    → (texts : List (List ℕ)) → IsCutLine line texts → ⊥
no_braces line text e n texts c = n c.inner (e ∙ c.braces)

-- pieces between commas

pub comma_first : (rest o : Option (Bor (List ℕ))) (bytes : Bor (List ℕ)) (piece : List ℕ) → rest ≡ Some bytes
    → MatchOption o (pieces is_comma bytes.now ≡ piece ∷ [])
    (λ more. (pieces is_comma bytes.now ≡ piece ∷ pieces is_comma more.now) × (length more.now < length bytes.now))
    → commas_left rest ≡ piece ∷ commas_left o
comma_first rest None bytes piece e h = ap commas_left e ∙ h
comma_first rest (Some more) bytes piece e h = ap commas_left e ∙ h.0

pub comma_less : (rest o : Option (Bor (List ℕ))) (bytes : Bor (List ℕ)) (piece : List ℕ) → rest ≡ Some bytes
    → MatchOption o (pieces is_comma bytes.now ≡ piece ∷ [])
    (λ more. (pieces is_comma bytes.now ≡ piece ∷ pieces is_comma more.now) × (length more.now < length bytes.now))
    → bytes_left o < bytes_left rest
comma_less rest None bytes piece e h = omega (arith, ap bytes_left e)
comma_less rest (Some more) bytes piece e h = omega (arith, ap bytes_left e, h.1)

-- labels piece by piece
pub labels_next : (all left rest : List (List ℕ)) (piece text : List ℕ) → left ≡ piece ∷ rest → text ≡ trimmed piece
    → list_all is_label (map trimmed all) ≡ list_all is_label (map trimmed left) → is_label text ≡ true
    → list_all is_label (map trimmed all) ≡ list_all is_label (map trimmed rest)
labels_next all left rest piece text e f h k =
    h ∙ ap (λ z. list_all is_label (map trimmed z)) e
    ∙ ap (λ b. b && list_all is_label (map trimmed rest)) (ap is_label (sym f) ∙ k)

pub labels_stop : (all left rest : List (List ℕ)) (piece text : List ℕ) → left ≡ piece ∷ rest → text ≡ trimmed piece
    → list_all is_label (map trimmed all) ≡ list_all is_label (map trimmed left) → is_label text ≡ false
    → list_all is_label (map trimmed all) ≡ false
labels_stop all left rest piece text e f h k =
    h ∙ ap (λ z. list_all is_label (map trimmed z)) e
    ∙ ap (λ b. b && list_all is_label (map trimmed rest)) (ap is_label (sym f) ∙ k)

-- a line is a cut in one way
pub one_cut : (line : List ℕ) (texts others : List (List ℕ)) → IsCutLine line texts → IsCutLine line others
    → others ≡ texts
one_cut line texts others c d =
    let same : d.inner ≡ c.inner = one_between d.inner c.inner (sym d.braces ∙ c.braces) in
    d.texts ∙ ap texts_in same ∙ sym c.texts
