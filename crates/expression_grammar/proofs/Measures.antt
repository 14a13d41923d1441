-- The measure of a call within the cycles of calls: how much room is left, and the rank of the function at that room.
use Rattle.std.proofs.Common.{◌≡◌, ◌≢◌, ℕ, ◌+◌, ◌*◌, ◌-◌, ◌<◌, arith}
use Rattle.ar_lexer.specs.declared.token.TokenKind.TheVariants.{Sign, Reserved, End}

-- a call of a lower rank with as much room
pub falls : (r s up n t : ℕ) → r + up + 1 ≡ s → 8 * n + s ≡ t → 8 * n + r < t
falls r s up n t p e = omega arith

-- a call with less room, of any rank up to seven above
pub falls_inside : (r s up n t : ℕ) → r + up ≡ s + 7 → n ≢ 0 → 8 * n + s ≡ t → 8 * (n - 1) + r < t
falls_inside r s up n t p some e = omega (arith, some)

-- calls of a rank one or two lower, where the rank is not a number
pub one_below : (r n t : ℕ) → 8 * n + (r + 1) ≡ t → 8 * n + r < t
one_below r n t e = omega arith

pub two_below : (r n t : ℕ) → 8 * n + (r + 2) ≡ t → 8 * n + r < t
two_below r n t e = omega arith

pub next_below : (r n t : ℕ) → 8 * n + (r + 2) ≡ t → 8 * n + (r + 1) < t
next_below r n t e = omega arith

-- the tokens between which a text stands are no end
pub word_some : (w : ℕ) → Reserved w ≢ End
word_some w = λ e. absurd (cc)

pub sign_some : (s : ℕ) → Sign s ≢ End
sign_some s = λ e. absurd (cc)
