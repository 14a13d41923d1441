-- Lines in pieces.
use Rattle.std.proofs.Common.{◌≡◌, ℕ, List, [], ◌∷◌, ◌++◌, append_assoc, sym, ◌∙◌, ap}
use Rattle.ar_base.specs.Texts.{line}

-- a piece before the rest of its line
pub line_after : (a t rest : List ℕ) → rest ≡ line t → a ++ rest ≡ line (a ++ t)
line_after a t rest e = ap (λ (z : List ℕ). a ++ z) e ∙ sym (append_assoc a t (10 ∷ []))
