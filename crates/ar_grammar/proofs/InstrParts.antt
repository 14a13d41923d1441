-- What the texts of instructions are, part by part.
use Rattle.std.proofs.Common.{◌≡◌, ◌≢◌, ℕ, zero, suc, ◌-◌, Bool, true, false, List, [], ◌++◌, refl, ap, ◌∙◌, subst}
use Rattle.std.proofs.Math.Numerals.{sub-one}
use Rattle.ar_lexer.specs.declared.token.TokenKind.{TokenKind}
use Rattle.ar_lexer.specs.declared.token.TokenKind.TheVariants.{Sign}
use Rattle.ar_syntax.specs.declared.instructions.Instr.{Instr}
use Rattle.expression_grammar.specs.Words.{Form, Tokens, kind_or, ◌▸◌, between}
use Rattle.ar_grammar.specs.Instructions.{simple, group, conditional, ReadsInstr}
use Rattle.ar_grammar.specs.InstructionsInside.{ReadsSimple, ReadsGroup, ReadsConditional}
use Rattle.expression_grammar.specs.Results.{is_sign}
use Rattle.expression_grammar.proofs.Finding.{kind_join, then_kind}
use Rattle.expression_grammar.proofs.ExpressionForms.{sign_from}

-- a kind that is no sign of this number
pub not_sign : (n : ℕ) (k : TokenKind) → k ≢ Sign n → is_sign n k ≡ false
not_sign n k h = by_test (is_sign n k) refl
  where
    by_test : (b : Bool) → is_sign n k ≡ b → b ≡ false
    by_test true e = absurd (h (sign_from n k e))
    by_test false e = refl

pub pushed_all : {X : Type 0} {empty items more : List X} → items ≡ empty ++ more → empty ≡ [] → items ≡ more
pushed_all {more = more} e z = e ∙ ap (λ (xs : List _). xs ++ more) z

pub between_kind : {opens closes next : TokenKind} {ts : Tokens} {A B : Form} → (between opens closes A ▸ B) next ts
    → kind_or next ts ≡ opens
between_kind {next = next} h = ap (kind_or next) h.split ∙ kind_join h.front h.back next ∙ then_kind h.first

-- the first token of a simple instruction
pub conditional_in : (n : ℕ) (i : Instr) (next : TokenKind) (ts : Tokens) → n ≢ 0 → ReadsConditional (n - 1) i next ts
    → ReadsInstr n i next ts
conditional_in zero i next ts some h = absurd (some refl)
conditional_in (suc n) i next ts some h =
    conditional (subst (λ (m : ℕ). ReadsConditional m i next ts) (sub-one (suc n)) h)

pub group_in : (n : ℕ) (i : Instr) (next : TokenKind) (ts : Tokens) → n ≢ 0 → ReadsGroup (n - 1) i next ts
    → ReadsInstr n i next ts
group_in zero i next ts some h = absurd (some refl)
group_in (suc n) i next ts some h = group (subst (λ (m : ℕ). ReadsGroup m i next ts) (sub-one (suc n)) h)

pub simple_in : (n : ℕ) (i : Instr) (next : TokenKind) (ts : Tokens) → n ≢ 0 → ReadsSimple (n - 1) i next ts
    → ReadsInstr n i next ts
simple_in zero i next ts some h = absurd (some refl)
simple_in (suc n) i next ts some h = simple (subst (λ (m : ℕ). ReadsSimple m i next ts) (sub-one (suc n)) h)

-- Simple instructions

-- ( ":=" Expr | ":=:" Path ) ";"
-- Choices and groups

-- no instruction begins with the bracket that ends a group
