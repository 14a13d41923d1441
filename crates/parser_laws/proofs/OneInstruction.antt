-- Instructions that begin alike are one.
use Rattle.std.proofs.Common.{◌≡◌, ℕ, zero, suc, Bool, true, false, ◌||◌, ◌++◌, Box, refl, sym, ap, ◌∙◌}
use Rattle.std.specs.Prelude.{Option, Some, None, ◌==◌}
use Rattle.std.specs.declared.alloc.Global.{Global}
use Rattle.ar_lexer.specs.declared.token.TokenKind.{TokenKind}
use Rattle.ar_lexer.specs.declared.token.TokenKind.TheVariants.{Name, Whole, Real, Sign, Reserved, End}
use Rattle.ar_lexer.specs.declared.signs.TheConstants.{OPEN_BRACE, CLOSE_BRACE, SEMICOLON, ASSIGN, TIE}
use Rattle.ar_lexer.specs.declared.words.TheConstants.{IF, MAIN, OWNER, SKIP}
use Rattle.ar_syntax.specs.declared.paths.Path.{Path}
use Rattle.ar_syntax.specs.declared.expressions.RawExpr.{RawExpr}
use Rattle.ar_syntax.specs.declared.instructions.Instr.{Instr}
use Rattle.expression_grammar.specs.Words.{Form, Tokens, kind_or, token, ◌▸◌, between}
use Rattle.expression_grammar.specs.Paths.{ReadsPath}
use Rattle.expression_grammar.specs.Expressions.{Node, ReadsExpr}
use Rattle.ar_grammar.specs.Instructions.{ReadsElse, ReadsIfOf, ReadsGroupOf, ReadsSimpleOf, assign, tie, skip, ReadsInstrOf, simple, group, conditional, ReadsInstr}
use Rattle.expression_grammar.specs.Results.{first_token_kind, anything, is_sign, is_word}
use Rattle.ar_grammar.specs.Results.{ends_group, begins_instr}
use Rattle.expression_grammar.proofs.Finding.{fails, then_kind}
use Rattle.expression_grammar.proofs.ExpressionForms.{sign_from, word_from}
use Rattle.parser_laws.proofs.Firsts.{instr_first}
use Rattle.parser_laws.specs.Expressions.{SamePath, SameExpr, SameOption, SameSteps, SameStepsToDepth, SameInstr}
use Rattle.parser_laws.specs.Expressions as same
use Rattle.parser_laws.proofs.Agreeing.{Agree, First, other, first_token, first_front, not_both, meet, agree_map, agree_all, agree_apart, agree_token, agree_then, agree_next, agree_each}
use Rattle.parser_laws.proofs.OnePath.{agree_path, first_path}
use Rattle.parser_laws.proofs.OneExpression.{agree_between, agree_expr}

-- Texts of this form that begin alike are one, with the same parts.
pub record OneStep (Is : Instr → Form) : Type 0 where
  pub agree : (d : ℕ) (i j : Instr) → Agree anything (Is i) (Is j) (SameSteps (SameStepsToDepth d) i j)

agree_step : {Is : Instr → Form} → OneStep Is → (d : ℕ) (i j : Instr)
    → Agree anything (Is i) (Is j) (SameStepsToDepth d i j)
agree_step o zero i j = agree_map (o.agree 0 i j) (λ r. tt)
agree_step o (suc d) i j = o.agree d i j

-- Steps of one path

abbrev begins_simple : TokenKind → Bool
begins_simple Name = true
begins_simple (Reserved w) = (w == OWNER) || (w == MAIN) || (w == SKIP)
begins_simple (Whole n) = false
begins_simple Real = false
begins_simple (Sign n) = false
begins_simple End = false

module _ (n : ℕ) where
  simple_first : (i : Instr) → First (ReadsSimpleOf (ReadsExpr n) i) anything begins_simple
  simple_first i = record { holds = λ next ts h s. by_case next ts h }
    where
      by_case : (next : TokenKind) (ts : Tokens) → ReadsSimpleOf (ReadsExpr n) i next ts
          → begins_simple (kind_or next ts) ≡ true
      by_case next ts (assign p e u h) =
          (first_front {ends = anything} (first_path begins_simple refl refl refl p)).holds next ts h refl
      by_case next ts (tie p q u h) = (first_front {ends = anything} (first_path begins_simple refl refl refl p)).holds
          next ts h refl
      by_case next ts (skip u h) = ap begins_simple (then_kind h)

  assign_tie : (p q r : Path) (e : RawExpr)
      → Agree anything (ReadsPath p ▸ between (Sign ASSIGN) (Sign SEMICOLON) (Node (ReadsExpr n) e))
      (ReadsPath q ▸ between (Sign TIE) (Sign SEMICOLON) (ReadsPath r)) ⊥
  assign_tie p q r e = agree_map (agree_then (agree_path p q) (first_front (first_token refl))
      (first_front (first_token refl))
      (agree_apart {R = ⊥} {test = is_sign ASSIGN} {test' = is_sign TIE} (first_front (first_token refl))
      (first_front (first_token refl)) (λ k x y. fails (is_sign ASSIGN) x (sign_from TIE k y) refl))) (λ r. r.1)

  skip_path : {B C : Form} (p : Path) → Agree anything (token (Reserved SKIP) ▸ B) (ReadsPath p ▸ C) ⊥
  skip_path p = agree_apart {test = is_word SKIP} {test' = other (is_word SKIP)} (first_front (first_token refl))
      (first_front (first_path (other (is_word SKIP)) refl refl refl p))
      (λ k x y. fails (other (is_word SKIP)) y (word_from SKIP k x) refl)

  simple_case : (d : ℕ) (i j : Instr) (a b rest rest' : Tokens) → ReadsSimpleOf (ReadsExpr n) i (first_token_kind rest) a
      → ReadsSimpleOf (ReadsExpr n) j (first_token_kind rest') b → a ++ rest ≡ b ++ rest'
      → SameSteps (SameStepsToDepth d) i j × (a ≡ b)
  simple_case d i j a b rest rest' (assign p e u h) (assign q g u' k) s =
      let r = (agree_then {ends' = anything} (agree_path p q) (first_front (first_token refl))
      (first_front (first_token refl)) (agree_between (agree_expr n e g) refl)).holds a b rest rest' h k s refl
      refl in
      (same.assign p q e g u u' r.0.0 r.0.1, r.1)
  simple_case d i j a b rest rest' (assign p e u h) (tie q r u' k) s =
      absurd ((assign_tie p q r e).holds a b rest rest' h k s refl refl).0
  simple_case d i j a b rest rest' (assign p e u h) (skip u' k) s =
      absurd ((skip_path p).holds b a rest' rest k h (sym s) refl refl).0
  simple_case d i j a b rest rest' (tie p q u h) (assign p' e u' k) s =
      absurd ((assign_tie p' p q e).holds b a rest' rest k h (sym s) refl refl).0
  simple_case d i j a b rest rest' (tie p q u h) (tie p' q' u' k) s =
      let r = (agree_then {ends' = anything} (agree_path p p') (first_front (first_token refl))
      (first_front (first_token refl)) (agree_between (agree_path q q') refl)).holds a b rest rest' h k s refl
      refl in
      (same.tie p q p' q' u u' r.0.0 r.0.1, r.1)
  simple_case d i j a b rest rest' (tie p q u h) (skip u' k) s =
      absurd ((skip_path p).holds b a rest' rest k h (sym s) refl refl).0
  simple_case d i j a b rest rest' (skip u h) (assign p e u' k) s =
      absurd ((skip_path p).holds a b rest rest' h k s refl refl).0
  simple_case d i j a b rest rest' (skip u h) (tie p q u' k) s =
      absurd ((skip_path p).holds a b rest rest' h k s refl refl).0
  simple_case d i j a b rest rest' (skip u h) (skip u' k) s = (
    same.equal (u ∙ sym u'),
    ((agree_next {ends' = anything} agree_token agree_token).holds a b rest rest' h k s refl
        refl).1,
  )

-- Groups and conditionals

module _ (n : ℕ) {Inner : Instr → Form} (o : OneStep Inner) where
  agree_else : (d : ℕ) (x y : Option (Box Instr Global))
      → Agree anything (ReadsElse Inner x) (ReadsElse Inner y)
      (SameOption (λ a b. SameStepsToDepth d a.value b.value) x y)
  agree_else d None None = record { holds = λ a b rest rest' h k e s s'. (tt, h.empty ∙ sym k.empty) }
  agree_else d None (Some y) = record {
    holds = λ a b rest rest' h k e s s'. absurd
        (h.other (sym (ap (kind_or (first_token_kind rest)) h.empty) ∙ meet a b rest rest' e ∙ then_kind k));
  }
  agree_else d (Some x) None = record {
    holds = λ a b rest rest' h k e s s'. absurd
        (k.other (sym (ap (kind_or (first_token_kind rest')) k.empty) ∙ meet b a rest' rest (sym e) ∙ then_kind h));
  }
  agree_else d (Some x) (Some y) = agree_map (agree_next agree_token (agree_step o d x.value y.value)) (λ r. r.1)

  agree_if : (d : ℕ) (i j : Instr) → Agree anything (ReadsIfOf (ReadsExpr n) Inner i) (ReadsIfOf (ReadsExpr n) Inner j)
      (SameSteps (SameStepsToDepth d) i j)
  agree_if d i j = record {
    holds = λ a b rest rest' h k e s s'.
        let r = (agree_next {ends' = anything} (agree_between (agree_expr n h.test k.test) refl)
        (agree_next (agree_step o d h.yes.value k.yes.value) (agree_else d h.no k.no))).holds a b rest rest'
        h.reads k.reads e refl refl in
        (same.conditional h.test k.test h.yes k.yes h.no k.no h.is k.is r.0.0 r.0.1.0 r.0.1.1, r.1);
  }

  agree_group : ((i : Instr) → First (Inner i) anything begins_instr) → (d : ℕ) (i j : Instr)
      → Agree anything (ReadsGroupOf Inner i) (ReadsGroupOf Inner j) (SameSteps (SameStepsToDepth d) i j)
  agree_group first d i j = record {
    holds = λ a b rest rest' h k e s s'.
        let r = (agree_between {ends' = anything}
        (agree_each {ends' = ends_group} (agree_step o d) (λ x. record { holds = λ next ts g s. refl })
        (λ x. record {
          holds = λ next ts g s. not_both (begins_instr (kind_or next ts)) (ends_group (kind_or next ts))
              (λ p q. fails begins_instr p (sign_from CLOSE_BRACE (kind_or next ts) q) refl) ((first x).holds next ts g s);
        })
        (λ k s. refl) h.instrs.items k.instrs.items) refl).holds a b rest rest' h.reads k.reads e refl refl in
        (same.group h.instrs k.instrs h.is k.is r.0, r.1);
  }

  group_first : (i : Instr) → First (ReadsGroupOf Inner i) anything (is_sign OPEN_BRACE)
  group_first i = record { holds = λ next ts h s. ap (is_sign OPEN_BRACE) (then_kind h.reads) }

  if_first : (i : Instr) → First (ReadsIfOf (ReadsExpr n) Inner i) anything (is_word IF)
  if_first i = record {
    holds = λ next ts h s.
        (first_front {ends = anything} {test = is_word IF} (first_front (first_token refl))).holds next ts h.reads refl;
  }

  step_case : ((i : Instr) → First (Inner i) anything begins_instr) → (d : ℕ) (i j : Instr) (a b rest rest' : Tokens)
      → ReadsInstrOf (ReadsExpr n) Inner i (first_token_kind rest) a → ReadsInstrOf (ReadsExpr n) Inner j (first_token_kind rest') b
      → a ++ rest ≡ b ++ rest' → SameSteps (SameStepsToDepth d) i j × (a ≡ b)
  step_case first d i j a b rest rest' (simple h) (simple k) e = simple_case n d i j a b rest rest' h k e
  step_case first d i j a b rest rest' (simple h) (group k) e =
      (agree_apart (simple_first n i) (group_first j)
      (λ k x y. fails begins_simple x (sign_from OPEN_BRACE k y) refl)).holds a b rest rest' h k e refl refl
  step_case first d i j a b rest rest' (simple h) (conditional k) e =
      (agree_apart (simple_first n i) (if_first j) (λ k x y. fails begins_simple x (word_from IF k y) refl)).holds a b
      rest rest' h k e refl refl
  step_case first d i j a b rest rest' (group h) (simple k) e =
      (agree_apart (group_first i) (simple_first n j)
      (λ k x y. fails begins_simple y (sign_from OPEN_BRACE k x) refl)).holds a b rest rest' h k e refl refl
  step_case first d i j a b rest rest' (group h) (group k) e =
      (agree_group first d i j).holds a b rest rest' h k e refl refl
  step_case first d i j a b rest rest' (group h) (conditional k) e =
      (agree_apart (group_first i) (if_first j) (λ k x y. fails (is_sign OPEN_BRACE) x (word_from IF k y) refl)).holds a
      b rest rest' h k e refl refl
  step_case first d i j a b rest rest' (conditional h) (simple k) e =
      (agree_apart (if_first i) (simple_first n j) (λ k x y. fails begins_simple y (word_from IF k x) refl)).holds a b
      rest rest' h k e refl refl
  step_case first d i j a b rest rest' (conditional h) (group k) e =
      (agree_apart (if_first i) (group_first j) (λ k x y. fails (is_sign OPEN_BRACE) y (word_from IF k x) refl)).holds a
      b rest rest' h k e refl refl
  step_case first d i j a b rest rest' (conditional h) (conditional k) e =
      (agree_if d i j).holds a b rest rest' h k e refl refl

-- Instructions

steps : (n : ℕ) → OneStep (ReadsInstr n)
steps zero = record { agree = λ d i j. record { holds = λ a b rest rest' h k e s s'. elim h [ ] } }
steps (suc n) = record {
  agree = λ d i j. record {
    holds = λ a b rest rest' h k e s s'. step_case n (steps n)
        (λ i. record { holds = λ next ts g s. instr_first n i next ts g }) d i j a b rest rest' h k e;
  };
}

pub agree_instr : (n : ℕ) (i j : Instr) → Agree anything (ReadsInstr n i) (ReadsInstr n j) (SameInstr i j)
agree_instr n i j = agree_all (λ d. agree_step (steps n) d i j)
