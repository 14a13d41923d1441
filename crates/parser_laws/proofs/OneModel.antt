-- Each text has one tree at most.
use Rattle.std.proofs.Common.{◌≡◌, ℕ, inl, inr, Bool, true, List, [], ◌∷◌, ◌++◌, refl, sym, ap, ◌∙◌, subst}
use Rattle.std.specs.Prelude.{ℤ, neg_ℤ}
use Rattle.ar_base.specs.Lists.{Along, one_and}
use Rattle.ar_base.specs.declared.places.Place.{Place}
use Rattle.ar_lexer.specs.declared.token.TokenKind.{TokenKind}
use Rattle.ar_lexer.specs.declared.token.TokenKind.TheVariants.{Name, Whole, Real, Sign, Reserved, End}
use Rattle.ar_lexer.specs.declared.signs.TheConstants.{OPEN_BRACE, OPEN_BRACKET, SEMICOLON, MINUS}
use Rattle.ar_lexer.specs.declared.words.TheConstants.{BLOCK, CLASS, DOMAIN}
use Rattle.ar_syntax.specs.declared.members.Unit.{Unit as UnitTree}
use Rattle.ar_syntax.specs.declared.items.DomainBody.{DomainBody}
use Rattle.ar_syntax.specs.declared.items.DomainBody.TheVariants as domain
use Rattle.ar_syntax.specs.declared.items.DomainDecl.{DomainDecl}
use Rattle.ar_syntax.specs.declared.items.Item.{Item}
use Rattle.ar_syntax.specs.declared.items.Item.TheVariants as item
use Rattle.ar_base.specs.Numbers.{NameId}
use Rattle.expression_grammar.specs.Words.{Form, Tokens, kind_or, token, nothing, ◌▸◌, ◌∣◌}
use Rattle.ar_parser.specs.Models.{text_of, IsNumbered, name, other, AreNamesNumbered}
use Rattle.ar_grammar.specs.Items.{ReadsWhole, ReadsBound, whole, negated, ReadsDomainBody, ReadsDomain, ReadsItem, ReadsItems}
use Rattle.expression_grammar.specs.Results.{first_token_kind, anything, is_sign, is_word}
use Rattle.ar_grammar.specs.Results.{ends_item, is_end}
use Rattle.expression_grammar.proofs.Finding.{fails, token_kind, then_kind}
use Rattle.expression_grammar.proofs.ExpressionForms.{sign_from, word_from}
use Rattle.ar_parser.proofs.NameLemmas.{one_lexing, one_interned}
use Rattle.parser_laws.specs.Models.{SameDomain, SameDeclared, SameItem, SameModel, HasOneTree}
use Rattle.parser_laws.specs.Models as same
use Rattle.parser_laws.proofs.Agreeing.{Agree, First, first_token, first_front, first_nothing, first_each, first_weaker, not_both, meet, agree_map, agree_ended, agree_apart, agree_token, agree_nothing, agree_then, agree_next, agree_closed, agree_each}
use Rattle.parser_laws.proofs.Agreeing as agreeing
use Rattle.parser_laws.proofs.OnePath.{agree_placed, agree_names}
use Rattle.parser_laws.proofs.OneExpression.{agree_between}
use Rattle.parser_laws.proofs.OneBody.{agree_unit, one_body}

-- Domains

whole_in : (n m : ℤ) → Whole n ≡ Whole m → n ≡ m
whole_in n m e = cc

agree_whole : {ends : TokenKind → Bool} (x y : ℤ) → Agree ends (ReadsWhole x) (ReadsWhole y) (x ≡ y)
agree_whole x y = record {
  holds = λ a b rest rest' h k e s s'.
      let r = (agree_token {ends = anything}).holds a b rest rest' h.reads k.reads e refl refl in (whole_in x y r.0, r.1);
}

agree_bound : (x y : ℤ) → Agree anything (ReadsBound x) (ReadsBound y) (x ≡ y)
agree_bound x y = record { holds = λ a b rest rest' h k e s s'. by_case a b rest rest' h k e }
  where
    by_case : (a b rest rest' : Tokens) → ReadsBound x (first_token_kind rest) a → ReadsBound y (first_token_kind rest') b
        → a ++ rest ≡ b ++ rest' → (x ≡ y) × (a ≡ b)
    by_case a b rest rest' (whole h) (whole k) e =
        (agree_whole {ends = anything} x y).holds a b rest rest' h k e refl refl
    by_case a b rest rest' (whole h) (negated m u k) e =
        fails (is_sign MINUS) (ap (is_sign MINUS) (meet a b rest rest' e ∙ then_kind k)) (token_kind h.reads) refl
    by_case a b rest rest' (negated m u h) (whole k) e =
        fails (is_sign MINUS) (ap (is_sign MINUS) (sym (meet a b rest rest' e) ∙ then_kind h)) (token_kind k.reads) refl
    by_case a b rest rest' (negated m u h) (negated l u' k) e =
        let r = (agree_next (agree_token {ends = anything}) (agree_whole {ends = anything} m l)).holds a b rest rest' h k e refl refl in (u ∙ ap neg_ℤ r.0.1 ∙ sym u', r.1)

same_range : (x y x' y' : ℤ) → x ≡ x' → y ≡ y' → domain.Range x y ≡ domain.Range x' y'
same_range x y x' y' p q = ap (λ (z : ℤ). domain.Range z y) p ∙ ap (λ (z : ℤ). domain.Range x' z) q

agree_domain_body : (x y : DomainBody) → Agree anything (ReadsDomainBody x) (ReadsDomainBody y) (SameDomain x y)
agree_domain_body (domain.Symbols v) (domain.Symbols w) =
    agree_map (agree_between (agree_names v.items w.items) refl) (λ r. same.symbols v w refl refl r)
agree_domain_body (domain.Symbols v) (domain.Range x y) =
    agree_apart {test = is_sign OPEN_BRACE} {test' = is_sign OPEN_BRACKET} (first_front (first_token refl))
    (first_front (first_front (first_token refl)))
    (λ k p q. fails (is_sign OPEN_BRACE) p (sign_from OPEN_BRACKET k q) refl)
agree_domain_body (domain.Range x y) (domain.Symbols w) =
    agree_apart {test = is_sign OPEN_BRACKET} {test' = is_sign OPEN_BRACE}
    (first_front (first_front (first_token refl))) (first_front (first_token refl))
    (λ k p q. fails (is_sign OPEN_BRACKET) p (sign_from OPEN_BRACE k q) refl)
agree_domain_body (domain.Range x y) (domain.Range x' y') =
    agree_map (agree_next (agree_between (agree_bound x x') refl) (agree_closed (agree_bound y y') refl refl))
    (λ r. same.range (same_range x y x' y' r.0 r.1.0))

-- [ ";" ]
agree_mark : Agree ends_item (nothing ∣ token (Sign SEMICOLON)) (nothing ∣ token (Sign SEMICOLON)) (Unit {0})
agree_mark = record { holds = λ a b rest rest' h k e s s'. (tt, by_case a b rest rest' h k e s s') }
  where
    by_case : (a b rest rest' : Tokens) → (nothing ∣ token (Sign SEMICOLON)) (first_token_kind rest) a
        → (nothing ∣ token (Sign SEMICOLON)) (first_token_kind rest') b → a ++ rest ≡ b ++ rest'
        → ends_item (first_token_kind rest) ≡ true → ends_item (first_token_kind rest') ≡ true → a ≡ b
    by_case a b rest rest' (inl h) (inl k) e s s' = h ∙ sym k
    by_case a b rest rest' (inl h) (inr k) e s s' =
        fails ends_item s (sym (ap (kind_or (first_token_kind rest)) h) ∙ meet a b rest rest' e ∙ token_kind k) refl
    by_case a b rest rest' (inr h) (inl k) e s s' =
        fails ends_item s' (sym (ap (kind_or (first_token_kind rest')) k) ∙ sym (meet a b rest rest' e) ∙ token_kind h) refl
    by_case a b rest rest' (inr h) (inr k) e s s' =
        ((agree_token {ends = anything}).holds a b rest rest' h k e refl refl).1

agree_domain : (d c : DomainDecl) → Agree ends_item (ReadsDomain d) (ReadsDomain c) (SameDeclared d c)
agree_domain d c =
    agree_map (agree_next agree_token (agree_next (agree_placed (d.name, d.at) (c.name, c.at))
    (agree_next (agree_domain_body d.body c.body) agree_mark)))
    (λ r. record {
      name = ap (λ (x : NameId × Place). x.0) r.1.0;
      place = ap (λ (x : NameId × Place). x.1) r.1.0;
      body = r.1.1.0;
    })

-- Items

module _ (n : ℕ) where
  of_class : (u w : UnitTree) → Agree ends_item (ReadsItem n (item.Class u)) (ReadsItem n (item.Class w))
      (SameItem (item.Class u) (item.Class w))
  of_class u w = agree_map (agree_next agree_token (agree_ended (agree_unit (one_body n) u w) (λ k s. refl)))
      (λ r. same.classes u w refl refl r.1)

  of_block : (u w : UnitTree) → Agree ends_item (ReadsItem n (item.Block u)) (ReadsItem n (item.Block w))
      (SameItem (item.Block u) (item.Block w))
  of_block u w = agree_map (agree_next agree_token (agree_ended (agree_unit (one_body n) u w) (λ k s. refl)))
      (λ r. same.blocks u w refl refl r.1)

  begun : {A : Form} {ends : TokenKind → Bool} (w : ℕ) → is_word w (Reserved w) ≡ true
      → First (token (Reserved w) ▸ A) ends (is_word w)
  begun w e = first_front (first_token e)

  agree_item : (x y : Item) → Agree ends_item (ReadsItem n x) (ReadsItem n y) (SameItem x y)
  agree_item (item.Domain d) (item.Domain c) = agree_map (agree_domain d c) (λ r. same.domains d c refl refl r)
  agree_item (item.Domain d) (item.Class w) =
      agree_apart (begun DOMAIN refl) (begun CLASS refl) (λ k p q. fails (is_word DOMAIN) p (word_from CLASS k q) refl)
  agree_item (item.Domain d) (item.Block w) =
      agree_apart (begun DOMAIN refl) (begun BLOCK refl) (λ k p q. fails (is_word DOMAIN) p (word_from BLOCK k q) refl)
  agree_item (item.Class u) (item.Domain c) =
      agree_apart (begun CLASS refl) (begun DOMAIN refl) (λ k p q. fails (is_word DOMAIN) q (word_from CLASS k p) refl)
  agree_item (item.Class u) (item.Class w) = of_class u w
  agree_item (item.Class u) (item.Block w) =
      agree_apart (begun CLASS refl) (begun BLOCK refl) (λ k p q. fails (is_word CLASS) p (word_from BLOCK k q) refl)
  agree_item (item.Block u) (item.Domain c) =
      agree_apart (begun BLOCK refl) (begun DOMAIN refl) (λ k p q. fails (is_word DOMAIN) q (word_from BLOCK k p) refl)
  agree_item (item.Block u) (item.Class w) =
      agree_apart (begun BLOCK refl) (begun CLASS refl) (λ k p q. fails (is_word CLASS) q (word_from BLOCK k p) refl)
  agree_item (item.Block u) (item.Block w) = of_block u w

  item_by : (test : TokenKind → Bool) → test (Reserved DOMAIN) ≡ true → test (Reserved CLASS) ≡ true
      → test (Reserved BLOCK) ≡ true → (x : Item) → First (ReadsItem n x) anything test
  item_by test e f g (item.Domain d) = first_front (first_token e)
  item_by test e f g (item.Class u) = first_front (first_token f)
  item_by test e f g (item.Block u) = first_front (first_token g)

  end_item : (k : TokenKind) → is_end k ≡ true → ends_item k ≡ true
  end_item End h = refl
  end_item Name h = absurd (cc)
  end_item (Whole z) h = absurd (cc)
  end_item Real h = absurd (cc)
  end_item (Sign z) h = absurd (cc)
  end_item (Reserved z) h = absurd (cc)

  agree_items : (xs ys : List Item) → Agree is_end (ReadsItems n xs) (ReadsItems n ys) (Along SameItem xs ys)
  agree_items [] ys = record { holds = λ a b rest rest' h k e s s'. elim h [ ] }
  agree_items (x ∷ xs) [] = record { holds = λ a b rest rest' h k e s s'. elim k [ ] }
  agree_items (x ∷ xs) (y ∷ ys) =
      agree_map (agree_then (agree_item x y) (first_each (item_by ends_item refl refl refl) end_item xs)
      (first_each (item_by ends_item refl refl refl) end_item ys)
      (agree_each agree_item (item_by ends_item refl refl refl) (item_by (agreeing.other is_end) refl refl refl)
      end_item xs ys)) (λ r. one_and r.0 r.1)

-- Names

one_names : (bytes : List ℕ) (ls : Tokens) (old new new' : List (List ℕ)) → AreNamesNumbered bytes old ls new
    → AreNamesNumbered bytes old ls new' → new ≡ new'
one_names bytes [] old new new' h k = h ∙ sym k
one_names bytes (l ∷ ls) old new new' h k =
    one_names bytes ls h.0 new new' h.2
    (subst (λ (t : List (List ℕ)). AreNamesNumbered bytes t ls new') (sym (step h.0 k.0 h.1 k.1)) k.2)
  where
    step : (a b : List (List ℕ)) → IsNumbered bytes old l a → IsNumbered bytes old l b → a ≡ b
    step a b (name e i s) (name e' i' s') = one_interned old (text_of bytes l) a b i i'
    step a b (name e i s) (other d f z) = absurd (d e)
    step a b (other d f z) (name e i s) = absurd (d e)
    step a b (other d f z) (other d' f' z') = f ∙ sym f'

-- Readings

pub one_tree : (bytes : List ℕ) → HasOneTree bytes
one_tree bytes n x y h k =
    let ls : h.lexemes ≡ k.lexemes = one_lexing bytes h.lexemes k.lexemes x.names y.names x.end y.end h.are k.are in
    let whole_text : h.lexemes ++ [] ≡ k.lexemes ++ [] = ap (λ (t : Tokens). t ++ []) ls in
    record {
      items = ((agree_items n x.items.items y.items.items).holds h.lexemes k.lexemes [] [] h.items k.items whole_text
          refl refl).0;
      names = one_names bytes h.lexemes [] x.names y.names h.are.names_are
          (subst (λ (t : Tokens). AreNamesNumbered bytes [] t y.names) (sym ls) k.are.names_are);
      end = h.are.end_is ∙ sym k.are.end_is;
    }
