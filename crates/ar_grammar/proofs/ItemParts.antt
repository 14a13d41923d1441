-- What domains, items and models are, token by token.
use Rattle.std.proofs.Common.{◌≡◌, ◌≢◌, ℕ, ◌≤◌, ◌<◌, inl, inr, Bool, true, false, List, [], ◌∷◌, ◌++◌, Result, Ok, Err, IfErr, IsErrAnd, length, ◌+◌, suc, arith, refl, sym, ap, ◌∙◌, subst}
use Rattle.std.specs.Prelude.{ℤ, pos, ◌≤ℤ◌, ◌==◌}
use Rattle.std.specs.Bool.{OnTrue, OnFalse}
use Rattle.std.proofs.lemmas.List.{append-nil, length-append}
use Rattle.std.proofs.lemmas.Int.{to_z-of_z}
use mir.Syntax.{w64}
use mir.Val.{SFits, to_z, of_z}
use Rattle.ar_lexer.specs.declared.token.TokenKind.{TokenKind}
use Rattle.ar_lexer.specs.declared.token.TokenKind.TheVariants.{Name, Whole, Real, Sign, Reserved, End}
use Rattle.ar_lexer.specs.declared.signs.TheConstants.{OPEN_BRACE, CLOSE_BRACE, OPEN_BRACKET, CLOSE_BRACKET, COMMA, SEMICOLON, MINUS}
use Rattle.ar_lexer.specs.declared.words.TheConstants.{BLOCK, CLASS, DOMAIN}
use Rattle.ar_syntax.specs.declared.items.DomainBody.{DomainBody}
use Rattle.ar_syntax.specs.declared.items.DomainBody.TheVariants as domain
use Rattle.ar_syntax.specs.declared.items.DomainDecl.{DomainDecl}
use Rattle.ar_syntax.specs.declared.items.Item.{Item}
use Rattle.ar_syntax.specs.declared.items.Item.TheVariants as item
use Rattle.expression_grammar.specs.declared.lexeme.Refusal.{Refusal}
use Rattle.expression_grammar.specs.declared.lexeme.Refusal.TheVariants.{Syntax, Depth, Memory}
use Rattle.expression_grammar.specs.Words.{Form, Tokens, kind_or, token, deep, nothing, ◌▸◌, ◌∣◌, each, many, between, ReadsSome}
use Rattle.expression_grammar.specs.Texts.{maybe, names_tokens}
use Rattle.ar_grammar.specs.Texts.{whole_tokens, bound_tokens, domain_tokens, item_tokens, model_tokens}
use Rattle.ar_grammar.specs.Parts.{unit_of, domain_body_tokens}
use Rattle.ar_grammar.specs.Items.{ReadsWhole, ReadsBound, whole, negated, ReadsDomainBody, ReadsDomain, ReadsItem, ReadsItems}
use Rattle.expression_grammar.specs.Results.{first_token_kind, Spans, Plain, Arrives, FindsRefusal, BeginsForm, Refuses, Eats, is_sign, is_word}
use Rattle.ar_grammar.specs.Results.{AreUnsigned, Gets, IsRefusedAs, begins_item, ends_item, is_end}
use Rattle.expression_grammar.proofs.Finding.{Follows, apart, fails, token_kind, then_kind, follows_many, spans_then, spans_map, spans_token, spans_at, finds_given, finds_token, finds_nothing, finds_at, eats_kind}
use Rattle.ar_grammar.proofs.Finding.{spans_nothing}
use Rattle.expression_grammar.proofs.ExpressionForms.{then_map, then_assoc, then_unassoc, then_some, token_some}
use Rattle.ar_grammar.proofs.InstrParts.{between_kind}
use Rattle.expression_grammar.proofs.TextParts.{token_as}
use Rattle.expression_grammar.proofs.Standing.{Turns, turns_token, turns_then, turns_each, some_token, begins_token, begins_no_more, begins_then, begins_map}
use Rattle.ar_grammar.proofs.NameForms.{turns_placed}
use Rattle.ar_grammar.proofs.MemberParts.{turns_names}
use Rattle.ar_grammar.proofs.BodyTexts.{turns_a_unit}
use Rattle.ar_grammar.proofs.Places.{syntax_there, syntax_behind, depth_there}

-- Numbers without signs

pub unsigned_behind : (front rest : Tokens) → AreUnsigned (front ++ rest) → AreUnsigned rest
unsigned_behind [] rest u = u
unsigned_behind (t ∷ front) rest u = unsigned_behind front rest u.1

pub unsigned_at : {old old' : Tokens} → old ≡ old' → AreUnsigned old → AreUnsigned old'
unsigned_at e u = subst AreUnsigned e u

-- what is left behind a text
pub unsigned_past : {A : Form} {old new : Tokens} → Spans A old new → AreUnsigned old → AreUnsigned new
unsigned_past {new = new} s u = unsigned_behind s.front new (unsigned_at s.split u)

pub no_sign_of : (z : ℤ) {old new : Tokens} → Eats (Whole z) old new → AreUnsigned old → pos 0 ≤ℤ z
no_sign_of z e u = (unsigned_at e.split u).0 z e.of_kind

-- Bounds

pub whole_as : (z : ℤ) (next : TokenKind) (ts : Tokens) → whole_tokens next ts → kind_or next ts ≡ Whole z
    → token (Whole z) next ts
whole_as z next ts h k = token_as h.reads k

pub bound_minus : (next : TokenKind) (ts : Tokens) → bound_tokens next ts → kind_or next ts ≡ Sign MINUS
    → (token (Sign MINUS) ▸ whole_tokens) next ts
bound_minus next ts (inl h) k = apart (is_sign MINUS) k (token_kind h.reads) refl refl
bound_minus next ts (inr h) k = h

pub bound_whole : (next : TokenKind) (ts : Tokens) → bound_tokens next ts → kind_or next ts ≢ Sign MINUS
    → whole_tokens next ts
bound_whole next ts (inl h) k = h
bound_whole next ts (inr h) k = absurd (k (then_kind h))

turns_whole : (z : ℤ) → Turns (ReadsWhole z) whole_tokens
turns_whole z = λ next next' ts h. record { z = z; no_sign = h.no_sign; reads = turns_token next next' ts h.reads }

pub turns_bound : (z : ℤ) → Turns (ReadsBound z) bound_tokens
turns_bound z = λ next next' ts h. by_case next next' ts h
  where
    by_case : (next next' : TokenKind) (ts : Tokens) → ReadsBound z next ts → bound_tokens next' ts
    by_case next next' ts (whole h) = inl (turns_whole z next next' ts h)
    by_case next next' ts (negated n e h) = inr (turns_then turns_token (turns_whole n) next next' ts h)

pub some_whole : BeginsForm whole_tokens []
some_whole = record {
  more = some_token (Whole (pos 0)) ∷ [];
  form = λ next. record {
    z = pos 0;
    no_sign = omega arith;
    reads = record { one = some_token (Whole (pos 0)); alone = refl; of_kind = refl };
  };
}

pub some_bound : BeginsForm bound_tokens []
some_bound = begins_map some_whole (λ next ts h. inl h)

-- Domains

-- "[" Bound "," Bound "]", token by token
abbrev pub range_text : Form
range_text = token (Sign OPEN_BRACKET) ▸ bound_tokens ▸ token (Sign COMMA) ▸ bound_tokens ▸ token (Sign CLOSE_BRACKET)

pub domain_symbols : (next : TokenKind) (ts : Tokens) → domain_body_tokens next ts → kind_or next ts ≡ Sign OPEN_BRACE
    → between (Sign OPEN_BRACE) (Sign CLOSE_BRACE) names_tokens next ts
domain_symbols next ts (inl h) k = h
domain_symbols next ts (inr h) k = apart (is_sign OPEN_BRACE) k (between_kind h) refl refl

pub domain_range : (next : TokenKind) (ts : Tokens) → domain_body_tokens next ts → kind_or next ts ≢ Sign OPEN_BRACE
    → range_text next ts
domain_range next ts (inl h) k = absurd (k (then_kind h))
domain_range next ts (inr h) k = then_map (then_assoc h) (λ next ts j. j) (λ next ts j. then_assoc j)

pub range_domain : (next : TokenKind) (ts : Tokens) → range_text next ts → domain_body_tokens next ts
range_domain next ts h = inr (then_unassoc (then_map h (λ next ts j. j) (λ next ts j. then_unassoc j)))

pub turns_domain_body : (b : DomainBody) → Turns (ReadsDomainBody b) domain_body_tokens
turns_domain_body (domain.Symbols names) =
    λ next next' ts h. inl (turns_then turns_token (turns_then (turns_names names.items) turns_token) next next' ts h)
turns_domain_body (domain.Range low high) =
    λ next next' ts h. inr (turns_then (turns_then turns_token (turns_then (turns_bound low) turns_token))
    (turns_then (turns_bound high) turns_token) next next' ts h)

pub some_domain_body : BeginsForm domain_body_tokens []
some_domain_body = begins_map (begins_then (begins_token (Sign OPEN_BRACE))
    (begins_then (begins_then (begins_token Name) begins_no_more) (begins_token (Sign CLOSE_BRACE))))
    (λ next ts h. inl h)

turns_semicolon : Turns (nothing ∣ token (Sign SEMICOLON)) (maybe (token (Sign SEMICOLON)))
turns_semicolon = λ next next' ts h. by_case next next' ts h
  where
    by_case : (next next' : TokenKind) (ts : Tokens) → (nothing ∣ token (Sign SEMICOLON)) next ts
        → maybe (token (Sign SEMICOLON)) next' ts
    by_case next next' ts (inl h) = inl h
    by_case next next' ts (inr h) = inr (turns_token next next' ts h)

pub turns_domain : (d : DomainDecl) → Turns (ReadsDomain d) domain_tokens
turns_domain d = turns_then turns_token
    (turns_then (turns_placed (d.name, d.at)) (turns_then (turns_domain_body d.body) turns_semicolon))

pub semicolon_found : (b : Bool) {old new : Tokens} → OnTrue b (Eats (Sign SEMICOLON) old new) → OnFalse b (new ≡ old)
    → Spans (nothing ∣ token (Sign SEMICOLON)) old new
semicolon_found true e f = spans_map (spans_token e) (λ next ts h. inr h)
semicolon_found false e f = spans_at (nothing ∣ token (Sign SEMICOLON)) (spans_map spans_nothing (λ next ts h. inl h)) f

semicolon_there : (next k : TokenKind) (ts : Tokens) → maybe (token (Sign SEMICOLON)) next ts → ends_item next ≡ true
    → kind_or next ts ≡ k → k ≡ Sign SEMICOLON → token (Sign SEMICOLON) next ts
semicolon_there next k ts (inl z) s e q = fails ends_item s (sym (ap (kind_or next) z) ∙ e ∙ q) refl
semicolon_there next k ts (inr h) s e q = h

semicolon_not : (next k : TokenKind) (ts : Tokens) → maybe (token (Sign SEMICOLON)) next ts → kind_or next ts ≡ k
    → k ≢ Sign SEMICOLON → nothing next ts
semicolon_not next k ts (inl z) e q = z
semicolon_not next k ts (inr h) e q = absurd (q (sym e ∙ token_kind h))

pub semicolon_only : (left : ℕ) (b : Bool) {old new : Tokens} → OnTrue b (Eats (Sign SEMICOLON) old new)
    → OnFalse b (new ≡ old) → OnFalse b (first_token_kind old ≢ Sign SEMICOLON)
    → FindsRefusal {A = Unit {0}} (λ n. maybe (token (Sign SEMICOLON))) ends_item left (Ok tt) old new
semicolon_only left true {old = old} e f other =
    finds_given (finds_token e) (λ n next ts h s k. (semicolon_there next (first_token_kind old) ts h s k (eats_kind e), refl))
semicolon_only left false {old = old} e f other =
    finds_at (finds_given (finds_nothing tt) (λ n next ts h s k. (semicolon_not next (first_token_kind old) ts h k other, s))) f

-- Items

pub item_domain : (n : ℕ) (next : TokenKind) (ts : Tokens) → item_tokens deep n next ts
    → kind_or next ts ≡ Reserved DOMAIN → domain_tokens next ts
item_domain n next ts (inl h) k = h
item_domain n next ts (inr (inl h)) k = apart (is_word CLASS) (then_kind h) k refl refl
item_domain n next ts (inr (inr h)) k = apart (is_word BLOCK) (then_kind h) k refl refl

pub item_class : (n : ℕ) (next : TokenKind) (ts : Tokens) → item_tokens deep n next ts → kind_or next ts ≡ Reserved
    CLASS → (token (Reserved CLASS) ▸ unit_of n) next ts
item_class n next ts (inl h) k = apart (is_word DOMAIN) (then_kind h) k refl refl
item_class n next ts (inr (inl h)) k = h
item_class n next ts (inr (inr h)) k = apart (is_word BLOCK) (then_kind h) k refl refl

pub item_block : (n : ℕ) (next : TokenKind) (ts : Tokens) → item_tokens deep n next ts → kind_or next ts ≢ Reserved
    DOMAIN → kind_or next ts ≢ Reserved CLASS → (token (Reserved BLOCK) ▸ unit_of n) next ts
item_block n next ts (inl h) a b = absurd (a (then_kind h))
item_block n next ts (inr (inl h)) a b = absurd (b (then_kind h))
item_block n next ts (inr (inr h)) a b = h

item_test : (test : TokenKind → Bool) → test (Reserved DOMAIN) ≡ true → test (Reserved CLASS) ≡ true
    → test (Reserved BLOCK) ≡ true → (n : ℕ) (next : TokenKind) (ts : Tokens) → item_tokens deep n next ts
    → test (kind_or next ts) ≡ true
item_test test d c b n next ts (inl h) = ap test (then_kind h) ∙ d
item_test test d c b n next ts (inr (inl h)) = ap test (then_kind h) ∙ c
item_test test d c b n next ts (inr (inr h)) = ap test (then_kind h) ∙ b

pub item_begins : (n : ℕ) (next : TokenKind) (ts : Tokens) → item_tokens deep n next ts
    → begins_item (kind_or next ts) ≡ true
item_begins = item_test begins_item refl refl refl

pub item_open : (k : TokenKind) → begins_item k ≡ true → is_end k ≡ false
item_open End h = let x : false ≡ true = h in absurd (cc)
item_open Name h = refl
item_open (Whole n) h = refl
item_open Real h = refl
item_open (Sign s) h = refl
item_open (Reserved w) h = refl

end_item : (k : TokenKind) → is_end k ≡ true → ends_item k ≡ true
end_item End h = refl
end_item Name h = refl
end_item (Whole n) h = refl
end_item Real h = refl
end_item (Sign s) h = let x : false ≡ true = h in absurd (cc)
end_item (Reserved w) h = refl

pub items_follow : Follows (λ n. many (item_tokens deep n)) ends_item is_end
items_follow = follows_many (λ n next ts h. item_test ends_item refl refl refl n next ts h) end_item

pub turns_item : (n m : ℕ) → n ≤ m → (x : Item) → Turns (ReadsItem n x) (item_tokens deep m)
turns_item n m l (item.Domain d) = λ next next' ts h. inl (turns_domain d next next' ts h)
turns_item n m l (item.Class u) = λ next next' ts h. inr
    (inl (turns_then turns_token (turns_a_unit n m l u) next next' ts h))
turns_item n m l (item.Block u) = λ next next' ts h. inr
    (inr (turns_then turns_token (turns_a_unit n m l u) next next' ts h))

pub turns_items : (n m : ℕ) → n ≤ m → (xs : List Item) → Turns (ReadsItems n xs) (model_tokens deep m)
turns_items n m l [] = λ next next' ts h. elim h [ ]
turns_items n m l (x ∷ xs) = turns_then (turns_item n m l x) (turns_each (turns_item n m l) xs)

pub items_made : (n : ℕ) (x : Item) (more items : List Item) {old mid new : Tokens} → Spans (ReadsItem n x) old mid
    → Spans (each (ReadsItem n) more) mid new → items ≡ x ∷ more → Spans (ReadsItems n items) old new
items_made n x more items {old = old} {new = new} a b e =
    subst (λ (xs : List Item). Spans (ReadsItems n xs) old new) (sym e) (spans_then a b)

-- Whole models

-- where a whole text is asked for, each of its trees is one of its texts
whole_items : (n : ℕ) (old : Tokens) → ReadsSome (ReadsItems n) End old → model_tokens deep n End old
whole_items n old (xs, h) = turns_items n n (omega arith) xs End End old h

gets_as : (A : Type 0) (left n : ℕ) (x e : Refusal) → x ≡ e → Gets {A = A} left n (Err e) → Gets {A = A} left n (Err x)
gets_as A left n x e h a = subst (λ (f : Refusal). Gets {A = A} left n (Err f)) (sym h) a

gets_fault : (A B : Type 0) (left n : ℕ) (x e : Refusal) (new : Tokens) → x ≡ e → Arrives {A = B} left n (Err e) new []
    → Gets {A = A} left n (Err x)
gets_fault A B left n x Syntax new h a = elim a [ ]
gets_fault A B left n x Depth new h a = gets_as A left n x Depth h a
gets_fault A B left n x Memory new h a = gets_as A left n x Memory h tt

pub model_fails : {A B : Type 0} {left : ℕ} (r : Result A Refusal) (e : Refusal) {old new : Tokens}
    → IsErrAnd r (λ x. x ≡ e) → Plain old → FindsRefusal {A = B} (model_tokens deep) is_end left (Err e) old new → (n : ℕ)
    → ReadsSome (ReadsItems n) End old → Gets left n r
model_fails (Ok x) e k p f n h = elim k [ ]
model_fails {A} {B} {left} (Err x) e {old} {new} k p f n h =
    gets_fault A B left n x e new k (f.only p n new old [] refl (whole_items n old h)
    (sym f.passed ∙ sym (append-nil old)) refl)

pub model_over : {A : Type 0} {left : ℕ} {y : A} {old new : Tokens} → Plain old
    → FindsRefusal (model_tokens deep) is_end left (Ok y) old new → (new ≡ [] → ⊥) → (n : ℕ) → ReadsSome (ReadsItems n) End old
    → ⊥
model_over {old = old} {new = new} p f more n h =
    more (f.only p n new old [] refl (whole_items n old h) (sym f.passed ∙ sym (append-nil old)) refl)

pub model_found : (A : Form) {old new : Tokens} → Spans A old new → new ≡ [] → A End old
model_found A {old} {new} s e = subst (λ (ts : Tokens). A End ts)
    (sym (s.split ∙ ap (λ (t : Tokens). s.front ++ t) e ∙ append-nil s.front))
    (subst (λ (k : TokenKind). A k s.front) (ap first_token_kind e) s.form)

refused_as : (left : ℕ) (x e : Refusal) (old new : Tokens) → x ≡ e → IsRefusedAs left e old new
    → IsRefusedAs left x old new
refused_as left x e old new h a = subst (λ (f : Refusal). IsRefusedAs left f old new) (sym h) a

pub model_refuses : {A B : Type 0} {left : ℕ} (r : Result A Refusal) (e : Refusal) {old new : Tokens}
    → IsErrAnd r (λ x. x ≡ e) → Plain old → FindsRefusal {A = B} (model_tokens deep) is_end left (Err e) old new
    → Refuses (model_tokens deep) left e old new → IfErr r (λ x. IsRefusedAs left x old new)
model_refuses (Ok x) e k p f s = tt
model_refuses {left = left} (Err x) Syntax {old} {new} k p f s = let t = s (λ q. absurd (cc)) in refused_as left x Syntax old new k (t.front, t.passed, syntax_there p f t)
model_refuses {left = left} (Err x) Depth {old} {new} k p f s = let t = s (λ q. absurd (cc)) in refused_as left x Depth old new k (t.front, t.passed, depth_there p f t)
model_refuses {left = left} (Err x) Memory {old} {new} k p f s = refused_as left x Memory old new k tt

pub model_behind : {A : Type 0} {left : ℕ} {y : A} {old new : Tokens} (xs : List Item) → Plain old
    → FindsRefusal (model_tokens deep) is_end left (Ok y) old new → Spans (ReadsItems left xs) old new → (new ≡ [] → ⊥)
    → IsRefusedAs left Syntax old new
model_behind {left = left} {new = new} xs p f s some = (
  s.front,
  s.split,
  syntax_behind s.front s.split p f
      (turns_items left left (omega arith) xs (first_token_kind new) End s.front s.form) some,
)

-- Sizes

item_some : (n : ℕ) (x : Item) (next : TokenKind) (ts : Tokens) → ReadsItem n x next ts → ts ≡ [] → ⊥
item_some n (item.Domain d) next ts h = then_some h (token_some (Reserved DOMAIN))
item_some n (item.Class u) next ts h = then_some h (token_some (Reserved CLASS))
item_some n (item.Block u) next ts h = then_some h (token_some (Reserved BLOCK))

shorter : (front old new : Tokens) → old ≡ front ++ new → (front ≡ [] → ⊥) → length new < length old
shorter [] old new e some = absurd (some refl)
shorter (t ∷ front) old new e some =
    let n : length old ≡ suc (length front + length new) = ap length e ∙ ap suc (length-append front new) in
    omega (arith, n)

pub item_shorter : (n : ℕ) (x : Item) {old new : Tokens} → Spans (ReadsItem n x) old new → length new < length old
item_shorter n x {old} {new} s = shorter s.front old new s.split (item_some n x (first_token_kind new) s.front s.form)

-- Numbers

pub again : (P : ℤ → Type 0) (z : ℤ) → SFits w64 z → P z → P (to_z w64 (of_z w64 z))
again P z f p = subst P (sym (to_z-of_z w64 z f)) p

pub range_again : (low high : ℤ) {old new : Tokens} → SFits w64 low → SFits w64 high
    → Spans (between (Sign OPEN_BRACKET) (Sign COMMA) (ReadsBound low) ▸ ReadsBound high ▸ token (Sign CLOSE_BRACKET))
    old new
    →
    Spans (between (Sign OPEN_BRACKET) (Sign COMMA) (ReadsBound (to_z w64 (of_z w64 low))) ▸ ReadsBound
    (to_z w64 (of_z w64 high)) ▸ token (Sign CLOSE_BRACKET)) old new
range_again low high {old} {new} f g s =
    again (λ z. Spans (between (Sign OPEN_BRACKET) (Sign COMMA) (ReadsBound z) ▸ ReadsBound (to_z w64 (of_z w64 high))
    ▸ token
    (Sign CLOSE_BRACKET)) old new) low f
    (again (λ z. Spans (between (Sign OPEN_BRACKET) (Sign COMMA) (ReadsBound low) ▸ ReadsBound z
    ▸ token (Sign CLOSE_BRACKET))
    old new) high g s)

-- Empty lists

pub empty_list : (ts : Tokens) → (length ts == 0) ≡ true → ts ≡ []
empty_list [] h = refl
empty_list (t ∷ ts) h = let e : length (t ∷ ts) ≡ 0 = grind arith in absurd (omega (arith, e))

pub some_list : (ts : Tokens) → (length ts == 0) ≡ false → ts ≡ [] → ⊥
some_list [] h e = let x : true ≡ false = h in absurd (cc)
some_list (t ∷ ts) h e = absurd (cc)
