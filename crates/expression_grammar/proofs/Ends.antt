-- The last token of a list.
use Rattle.std.proofs.Common.{◌≡◌, ℕ, suc, ◌-◌, ◌+◌, [], ◌∷◌, ◌++◌, length, get_or, refl, ap, ◌∙◌, arith}
use Rattle.std.proofs.lemmas.List.{length-append}
use Rattle.expression_grammar.specs.declared.lexeme.Lexeme.{Lexeme}
use Rattle.expression_grammar.specs.Words.{Tokens, end_of_tokens}

-- the last of the tokens before `rest` ends them
pub end_of_last : (ts rest : Tokens) (t d : Lexeme)
    → (get_or ((t ∷ ts) ++ rest) (length ts) d).span.to ≡ end_of_tokens t.span.to ts
end_of_last [] rest t d = refl
end_of_last (u ∷ ts) rest t d = end_of_last ts rest u d

pub last_end : (d t : Lexeme) (ts start rest : Tokens) (n : ℕ) → start ≡ (t ∷ ts) ++ rest
    → n ≡ length start - length rest - 1 → (get_or start n d).span.to ≡ end_of_tokens t.span.to ts
last_end d t ts start rest n e k =
    let s : length start ≡ suc (length (ts ++ rest)) = ap length e in
    let j : length (ts ++ rest) ≡ length ts + length rest = length-append ts rest in
    let m : n ≡ length ts = omega (arith, s, j, k) in
    ap (λ (s : Tokens). (get_or s n d).span.to) e ∙ ap (λ (m : ℕ). (get_or ((t ∷ ts) ++ rest) m d).span.to) m
    ∙ end_of_last ts rest t d
