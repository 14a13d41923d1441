-- The names that are read from a path so far.
use Rattle.std.proofs.Common.{◌≡◌, ◌<◌, ℕ, List, [], ◌∷◌, ◌++◌, Option, Some, None, length, refl, sym, ◌∙◌, ap, subst, arith, append_assoc}
use Rattle.std.proofs.lemmas.List.{append-nil, map-append}
use Rattle.std.specs.Option.{MatchOption}
use denote.Bor.{Bor}
use Rattle.ar_base.specs.Lists.{Stands, HasNo, Along}
use Rattle.ar_base.specs.Lists as l
use Rattle.ar_base.specs.Numbers.{NameId}
use Rattle.hierarchy.specs.Units.{numbers}
use Rattle.job_inputs.specs.Labels.{Spells, is_dot}
use Rattle.job_inputs.specs.Lines.{pieces}
use Rattle.job_inputs.specs.Reads.{pieces_left, bytes_left}

-- the pieces before those that are left are the texts of these names
pub record IsSpelled (table all left : List (List ℕ)) (names : List ℕ) : Type 0 where
  pub done : List (List ℕ)
  pub split : all ≡ done ++ left
  pub spells : Along (λ piece x. Stands table x piece) done names

along_more : (table : List (List ℕ)) {ps : List (List ℕ)} {xs : List ℕ} (p : List ℕ) (x : ℕ)
    → Along (λ piece x. Stands table x piece) ps xs → Stands table x p
    → Along (λ piece x. Stands table x piece) (ps ++ p ∷ []) (xs ++ x ∷ [])
along_more table p x l.none s = l.one_and s l.none
along_more table p x (l.one_and r rs) s = l.one_and r (along_more table p x rs s)

-- a piece that is no name's text
along_not : (table : List (List ℕ)) (ps rest : List (List ℕ)) (p : List ℕ) {xs : List ℕ}
    → HasNo table (λ (t : List ℕ). t ≡ p) → Along (λ piece x. Stands table x piece) (ps ++ p ∷ rest) xs → ⊥
along_not table [] rest p h (l.one_and {b = x} r rs) = h.has_not x p r refl
along_not table (q ∷ ps) rest p h (l.one_and r rs) = along_not table ps rest p h rs

pub spelled_none : (table all : List (List ℕ)) (names : List ℕ) → names ≡ [] → IsSpelled table all all names
spelled_none table all names e = record {
  done = [];
  split = refl;
  spells = subst (λ (xs : List ℕ). Along (λ piece x. Stands table x piece) [] xs) (sym e) l.none;
}

pub spelled_more : {table : List (List ℕ)} (all left rest : List (List ℕ)) (piece : List ℕ) (old new : List NameId)
    (name : NameId) → left ≡ piece ∷ rest
    → new ≡ old ++ name ∷ [] → Stands table name.n piece → IsSpelled table all left (numbers old)
    → IsSpelled table all rest (numbers new)
spelled_more {table = table} all left rest piece old new name e i s r = record {
  done = r.done ++ piece ∷ [];
  split = r.split ∙ ap (λ z. r.done ++ z) e ∙ sym (append_assoc r.done (piece ∷ []) rest);
  spells = subst (λ (xs : List ℕ). Along (λ p x. Stands table x p) (r.done ++ piece ∷ []) xs)
      (sym (ap numbers i ∙ map-append (λ (x : NameId). x.n) old (name ∷ [])))
      (along_more table piece name.n r.spells s);
}

pub spelled_all : {table : List (List ℕ)} (text : List ℕ) (left : List (List ℕ)) (names : List ℕ) → left ≡ []
    → IsSpelled table (pieces is_dot text) left names → Spells table text names
spelled_all {table = table} text left names e r =
    subst (λ (ps : List (List ℕ)). Along (λ p x. Stands table x p) ps names)
    (sym (r.split ∙ ap (λ z. r.done ++ z) e ∙ append-nil r.done)) r.spells

pub spelled_not : {table : List (List ℕ)} (text : List ℕ) (left rest : List (List ℕ)) (piece : List ℕ) (names : List ℕ)
    → left ≡ piece ∷ rest
    → HasNo table (λ (t : List ℕ). t ≡ piece) → IsSpelled table (pieces is_dot text) left names → (xs : List ℕ)
    → Spells table text xs → ⊥
spelled_not {table = table} text left rest piece names e none r xs s =
    along_not table r.done rest piece none
    (subst (λ (ps : List (List ℕ)). Along (λ p x. Stands table x p) ps xs) (r.split ∙ ap (λ z. r.done ++ z) e) s)

-- what is left behind the first piece
pub left_piece : (rest o : Option (Bor (List ℕ))) (bytes : Bor (List ℕ)) (piece : List ℕ) → rest ≡ Some bytes
    → MatchOption o (pieces is_dot bytes.now ≡ piece ∷ [])
    (λ more. (pieces is_dot bytes.now ≡ piece ∷ pieces is_dot more.now) × (length more.now < length bytes.now))
    → pieces_left rest ≡ piece ∷ pieces_left o
left_piece rest None bytes piece e h = ap pieces_left e ∙ h
left_piece rest (Some more) bytes piece e h = ap pieces_left e ∙ h.0

pub left_fewer : (rest o : Option (Bor (List ℕ))) (bytes : Bor (List ℕ)) (piece : List ℕ) → rest ≡ Some bytes
    → MatchOption o (pieces is_dot bytes.now ≡ piece ∷ [])
    (λ more. (pieces is_dot bytes.now ≡ piece ∷ pieces is_dot more.now) × (length more.now < length bytes.now))
    → bytes_left o < bytes_left rest
left_fewer rest None bytes piece e h = omega (arith, ap bytes_left e)
left_fewer rest (Some more) bytes piece e h = omega (arith, ap bytes_left e, h.1)
