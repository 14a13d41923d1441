-- The numbers of families, one more.
use Rattle.std.proofs.Common.{◌≡◌, inl, inr, ℕ, ◌+◌, ◌<◌, List, [], ◌∷◌, ◌++◌, length, take, get_or, ap, ◌∙◌, subst}
use Rattle.std.proofs.lemmas.List.{take_more, map-append}
use Rattle.ar_base.specs.Lists.{IsOneOf}
use Rattle.ar_base.proofs.Standing.{one_split, only_item, stands_get, stands_map}
use Rattle.zdd_nodes.specs.Nodes.{NodeId}
use Rattle.zdd_nodes.specs.Bounds.{node_numbers}

-- the numbers of the entries with one more
pub numbers_push : (xs : List NodeId) (x : NodeId) → node_numbers (xs ++ x ∷ []) ≡ node_numbers xs ++ x.n ∷ []
numbers_push xs x = map-append (λ (n : NodeId). n.n) xs (x ∷ [])

pub numbers_more : (xs : List NodeId) (k : ℕ) (d : NodeId) → k < length xs
    → node_numbers (take (k + 1) xs) ≡ node_numbers (take k xs) ++ (get_or xs k d).n ∷ []
numbers_more xs k d l = ap node_numbers (take_more xs k d l) ∙ numbers_push (take k xs) (get_or xs k d)

pub number_stands : (xs : List NodeId) (k : ℕ) (d : NodeId) → k < length xs
    → IsOneOf (node_numbers xs) (get_or xs k d).n
number_stands xs k d l = record {
  place = k;
  stands = stands_map (λ (n : NodeId). n.n) xs k (get_or xs k d) (stands_get xs k d l);
}

-- a fact of all entries, one more
pub all_more : (P : ℕ → Type 0) (xs : List NodeId) (k : ℕ) (d : NodeId) → k < length xs
    → ((e : ℕ) → IsOneOf (node_numbers (take k xs)) e → P e) → P (get_or xs k d).n
    → (e : ℕ) → IsOneOf (node_numbers (take (k + 1) xs)) e → P e
all_more P xs k d l before this e i =
    elim (one_split (node_numbers (take k xs)) ((get_or xs k d).n ∷ []) e
    (subst (λ z. IsOneOf z e) (numbers_more xs k d l) i)) [
      | inl b ↦ before e b
      | inr h ↦ subst P (only_item (get_or xs k d).n e h) this
    ]
