-- The source of a text that the stages pass: no two names have one text, and nothing of it is listed twice.
use Rattle.std.proofs.Common.{◌≡◌, ◌+◌, ◌-◌, ◌<◌, ◌≤◌, ◌==◌, ◌||◌, ℕ, zero, suc, Bool, true, false, List, [], ◌∷◌, ◌++◌, map, length, take, drop, Option, Ok, unwrap_or, refl, sym, ◌∙◌, ap, subst, arith, inl, inr, append_assoc}
use Rattle.std.specs.List.{AllByRecursion, flat_map}
use Rattle.std.proofs.lemmas.Bool.{eqb-true}
use Rattle.std.proofs.lemmas.List.{take_at}
use Rattle.std.proofs.Math.Seq.{drop-append_seam}
use Rattle.ar_base.specs.Counts.{limit_of}
use Rattle.ar_base.specs.Lists.{Stands, IsOneOf, AreDifferent, Along}
use Rattle.ar_base.specs.Numbers.{NameId}
use Rattle.ar_base.specs.Stages.{passes, kept, fits}
use Rattle.ar_base.specs.Texts.{Interns, known, added, text_at}
use Rattle.ar_base.specs.declared.counts.Count.TheVariants.{Ways as TheWays}
use Rattle.ar_base.specs.declared.places.Place.{Place}
use Rattle.ar_base.proofs.Items.{last_one, last_cases}
use Rattle.ar_base.proofs.Standing.{stands_one, stands_some, stands_none, stands_map, stands_map_back, different_more, one_here, one_none, one_split, one_cases, one_first, one_rest, along_back}
use Rattle.ar_lexer.specs.Spelling.{AllPass, is_word_byte, IsWord, IsTextOfKind}
use Rattle.ar_lexer.specs.Tokens.{IsToken, joined_pieces, AreCut, end_of_text}
use Rattle.ar_lexer.specs.declared.token.Token.{Token}
use Rattle.ar_lexer.specs.declared.token.TokenKind.{TokenKind}
use Rattle.ar_lexer.specs.declared.token.TokenKind.TheVariants.{Name}
use Rattle.ar_lexer.proofs.RunLemmas.{letter_of_word}
use Rattle.ar_meaning.specs.FactsInside.{AreKeyed}
use Rattle.ar_meaning.specs.Systems.{Event, Net}
use Rattle.ar_parser.specs.Models.{token_of, text_of, IsNumbered, name, other, AreNamesNumbered, Reads}
use Rattle.expression_grammar.specs.Words.{Tokens}
use Rattle.parser_laws.specs.Keeps.{TreesKeep, ItemKeeps, DomainKeeps, IsNameIn}
use Rattle.ar_syntax.specs.declared.items.DomainBody.{DomainBody}
use Rattle.ar_syntax.specs.declared.items.DomainBody.TheVariants as body
use Rattle.ar_syntax.specs.declared.items.Item.{Item}
use Rattle.ar_syntax.specs.declared.items.Item.TheVariants as item
use Rattle.ar_syntax.specs.declared.items.Model.{Model}
use Rattle.class_table.specs.Declaring.{symbols_in, symbols_of, FirstUses}
use Rattle.class_table.specs.Declaring.FirstUses.{none as no_uses, known as used, first}
use Rattle.gts_flatten.specs.Elaborating.{Elaborated, Flattens, has, most_ways_counted}
use Rattle.hierarchy.specs.Listing.{Unfolded, AreUnits, variables, events, observers}
use Rattle.hierarchy.specs.Models.{RootedModel, IsRootedIn}
use Rattle.hierarchy.specs.ModelsInside.{KeepsTextRules}
use Rattle.hierarchy.specs.Paths.{name_text}
use Rattle.hierarchy.specs.Units.{UnitPath, Thing}
use Rattle.hierarchy.specs.Walks.{is_variable, is_event, is_observer}
use Rattle.instantiate.specs.Unfolding.{Instantiates}
use Rattle.job_inputs.specs.Reads.{has_mark}
use Rattle.source_meaning.specs.Systems.{Declarations, AreOf, HasDeclarations, IsVariable}
use Rattle.source_meaning.proofs.Different.{things_different}
use Rattle.source_laws.proofs.Passing.{bound_of}
use Rattle.sync_expand.specs.Counting.{greatest, most_ways}
use Rattle.unit_walks.specs.Unfolding.{whole}
use Rattle.job_laws.specs.Named.{NamesOnce}
use Rattle.job_stages.specs.Elaborates.{Elaborates, rooted, reads}
use Rattle.job_stages.specs.Elaborates as e
use Rattle.job_laws.specs.Definite.{IsDefinite}

-- Names

-- a byte of a word is no `#`
byte_unmarked : (b : ℕ) → is_word_byte b ≡ true → (b == 35) ≡ false
byte_unmarked b h = go (b == 35) refl
  where
    go : (c : Bool) → (b == 35) ≡ c → (b == 35) ≡ false
    go true i =
        let z : is_word_byte 35 ≡ true = subst (λ (n : ℕ). is_word_byte n ≡ true) (eqb-true b 35 i) h in
        let k : false ≡ true = z in cc
    go false i = i

bytes_unmarked : (bs : List ℕ) → AllPass is_word_byte bs → has_mark bs ≡ false
bytes_unmarked [] h = refl
bytes_unmarked (b ∷ bs) h = go (b == 35) (byte_unmarked b h.0) (bytes_unmarked bs h.1)
  where
    go : (c : Bool) → c ≡ false → has_mark bs ≡ false → (c || has_mark bs) ≡ false
    go true i k = cc
    go false i k = k

word_unmarked : (text : List ℕ) → IsWord text → has_mark text ≡ false
word_unmarked [] h = absurd h
word_unmarked (b ∷ bs) h = bytes_unmarked (b ∷ bs) (letter_of_word b h.0, h.1)

-- the text of the token, where it is a name, is a word
abbrev IsNamed : List ℕ → Token → Type 0
IsNamed bytes t = t.kind ≡ Name → IsWord (take (t.span.to - t.span.from) (drop t.span.from bytes))

piece_text : (bytes before p after : List ℕ) (from to : ℕ) → bytes ≡ before ++ (p ++ after) → from ≡ length before
    → to ≡ length before + length p → take (to - from) (drop from bytes) ≡ p
piece_text bytes before p after from to i f t =
    let n : to - from ≡ length p = omega (arith, f, t) in
    ap (λ (k : ℕ). take k (drop from bytes)) n
    ∙ ap (λ (k : ℕ). take (length p) (drop k bytes)) f
    ∙ ap (λ (bs : List ℕ). take (length p) (drop (length before) bs)) i
    ∙ ap (take (length p)) (drop-append_seam before (p ++ after))
    ∙ take_at p after (length p) refl

name_word : (bytes before p after : List ℕ) (t : Token) → bytes ≡ before ++ (p ++ after) → IsToken before p after t
    → IsNamed bytes t
name_word bytes before p after t i h k =
    let of_name : IsTextOfKind Name p = subst (λ (kind : TokenKind). IsTextOfKind kind p) k h.of_kind.of_kind in
    subst IsWord (sym (piece_text bytes before p after t.span.from t.span.to i h.from h.to)) of_name.0

cut_words : (bytes before : List ℕ) (ps : List (List ℕ)) (rest : List ℕ) (ts : List Token)
    → bytes ≡ before ++ joined_pieces ps rest → AreCut before ps rest ts → AllByRecursion (IsNamed bytes) ts
cut_words bytes before [] rest ts i h = subst (AllByRecursion (IsNamed bytes)) (sym h) tt
cut_words bytes before (p ∷ ps) rest ts i (inl h) =
    cut_words bytes (before ++ p) ps rest ts (i ∙ sym (append_assoc before p (joined_pieces ps rest))) h.1
cut_words bytes before (p ∷ ps) rest ts i (inr h) =
    let more = cut_words bytes (before ++ p) ps rest h.1 (i ∙ sym (append_assoc before p (joined_pieces ps rest)))
    h.4 in
    subst (AllByRecursion (IsNamed bytes)) (sym h.2) (name_word bytes before p (joined_pieces ps rest) h.0 i h.3, more)

-- a table of different words
record AreWords (names : List (List ℕ)) : Type 0 where
  different : AreDifferent names
  words : (n : ℕ) (t : List ℕ) → Stands names n t → IsWord t

interned_words : (old new : List (List ℕ)) (text : List ℕ) → IsWord text → AreWords old → Interns old text new
    → AreWords new
interned_words old new text w a (known i) = a
interned_words old new text w a (added lacks) = record {
  different = different_more old text a.different lacks;
  words =
      λ n t s.
      elim (last_cases old text t (one_here (old ++ text ∷ []) n t s)) [
        | inl o ↦ a.words o.place t o.stands
        | inr i ↦ subst IsWord i w
      ];
}

numbered_words : (bytes : List ℕ) (old : List (List ℕ)) (ls : Tokens) (new : List (List ℕ))
    → AreNamesNumbered bytes old ls new
    → AllByRecursion (IsNamed bytes) (map token_of ls) → AreWords old → AreWords new
numbered_words bytes old [] new h all a = subst AreWords (sym h) a
numbered_words bytes old (l ∷ ls) new h all a = numbered_words bytes h.0 ls new h.2 all.1 (one h.0 h.1)
  where
    one : (mid : List (List ℕ)) → IsNumbered bytes old l mid → AreWords mid
    one mid (name k interns stands) = interned_words old mid (text_of bytes l) (all.0 k) a interns
    one mid (other k same number) = subst AreWords (sym same) a

read_words : (bytes : List ℕ) (model : Model) → Reads bytes model → AreWords model.names
read_words bytes model r =
    let ts = r.are.tokens in
    let same = last_one (map token_of r.lexemes) ts.found (end_of_text bytes) (end_of_text bytes) ts.all in
    let all = cut_words bytes [] ts.pieces [] ts.found ts.whole ts.cut in
    numbered_words bytes [] r.lexemes model.names r.are.names_are
    (subst (AllByRecursion (IsNamed bytes)) (sym same.0) all)
    (record {
      different = record { one = λ m n a h k. absurd (stands_none m a h) };
      words =
          λ n t s. absurd (stands_none n t s);
    })

-- Symbols

uses_different : (old xs new : List ℕ) → AreDifferent old → FirstUses old xs new → AreDifferent new
uses_different old xs new d no_uses = d
uses_different old xs new d (used {xs = more} i h) = uses_different old more new d h
uses_different old xs new d (first {xs = more} {x = x} lacks h) =
    uses_different (old ++ x ∷ []) more new (different_more old x d lacks) h

-- what is used first is one of those that are used
uses_from : (P : ℕ → Type 0) (old xs new : List ℕ) → ((n : ℕ) → IsOneOf old n → P n) → ((n : ℕ) → IsOneOf xs n → P n)
    → FirstUses old xs new → (n : ℕ) → IsOneOf new n → P n
uses_from P old xs new a b no_uses n o = a n o
uses_from P old xs new a b (used {xs = more} {x = x} i h) n o =
    uses_from P old more new a (λ k j. b k (one_rest x more k j)) h n o
uses_from P old xs new a b (first {xs = more} {x = x} lacks h) n o =
    uses_from P (old ++ x ∷ []) more new
    (λ k j. elim (last_cases old x k j) [ inl p ↦ a k p | inr i ↦ subst P i (b x (one_first x more)) ])
    (λ k j. b k (one_rest x more k j)) h n o

-- the symbols that an item declares are in the table of names
module _ (count room : ℕ) where
  all_in : (ids : List (NameId × Place)) → AllByRecursion (λ (x : NameId × Place). IsNameIn count x.0) ids → (n : ℕ)
      → IsOneOf (map (λ (x : NameId × Place). x.0.n) ids) n → n < count
  all_in [] a n o = absurd (one_none n o)
  all_in (x ∷ ids) a n o = elim (one_cases x.0.n (map (λ (y : NameId × Place). y.0.n) ids) n o) [
    | inl i ↦ subst (λ (z : ℕ). z < count) i a.0
    | inr j ↦ all_in ids a.1 n j
  ]

  body_in : (b : DomainBody) → DomainKeeps count room b → (n : ℕ) → IsOneOf (symbols_in b) n → n < count
  body_in (body.Symbols ids) k n o = all_in ids.items k.1 n o
  body_in (body.Range low high) k n o = absurd (one_none n o)

  item_in : (i : Item) → ItemKeeps count room i → (n : ℕ) → IsOneOf (symbols_of i) n → n < count
  item_in (item.Domain d) k n o = body_in d.body k.1 n o
  item_in (item.Class u) k n o = absurd (one_none n o)
  item_in (item.Block u) k n o = absurd (one_none n o)

  items_in : (items : List Item) → AllByRecursion (ItemKeeps count room) items → (n : ℕ)
      → IsOneOf (flat_map symbols_of items) n → n < count
  items_in [] k n o = absurd (one_none n o)
  items_in (i ∷ items) k n o = elim (one_split (symbols_of i) (flat_map symbols_of items) n o) [
    | inl p ↦ item_in i k.0 n p
    | inr p ↦ items_in items k.1 n p
  ]

-- a name of the table is the text that stands there
name_stands : (names : List (List ℕ)) (n : ℕ) → n < length names → Stands names n (text_at names n)
name_stands names n l =
    let s = stands_some names n l in
    let i : text_at names n ≡ s.0 = ap (λ (o : Option (List ℕ)). unwrap_or o []) s.1 in
    subst (λ (z : List ℕ). Stands names n z) (sym i) s.1

-- symbols that are different numbers below the length of a table of different texts have different texts
names_different : (names : List (List ℕ)) (symbols : List ℕ) → AreDifferent names → AreDifferent symbols
    → ((n : ℕ) → IsOneOf symbols n → n < length names) → AreDifferent (map (text_at names) symbols)
names_different names symbols d u inside = record {
  one = λ i j t p q.
      let a = stands_map_back (text_at names) symbols i t p in
      let b = stands_map_back (text_at names) symbols j t q in
      let here = name_stands names a.0 (inside a.0 (one_here symbols i a.0 a.1)) in
      let there = name_stands names b.0 (inside b.0 (one_here symbols j b.0 b.1)) in
      let same : b.0 ≡ a.0 =
      d.one b.0 a.0 t (subst (λ (z : List ℕ). Stands names b.0 z) b.2 there)
      (subst (λ (z : List ℕ). Stands names a.0 z) a.2 here) in
      u.one i j a.0 a.1 (subst (λ (z : ℕ). Stands symbols j z) same b.1);
}

-- Ways

-- none of these numbers is more than the greatest
within_greatest : (xs : List ℕ) (n x : ℕ) → Stands xs n x → x ≤ greatest xs
within_greatest [] n x s = absurd (stands_none n x s)
within_greatest (y ∷ ys) zero x s = let i : y ≡ x = stands_one (y ∷ ys) 0 y x refl s in omega (arith, i)
within_greatest (y ∷ ys) (suc n) x s = let l = within_greatest ys n x s in omega (arith, l)

-- no event has more ways than the one that has the most
ways_within : (es : List (Event Thing)) (n : ℕ) (event : Event Thing) → Stands es n event
    → length event.ways ≤ most_ways (map (λ (v : Event Thing). v.ways) es)
ways_within es n event s =
    within_greatest (map length (map (λ (v : Event Thing). v.ways) es)) n (length event.ways)
    (stands_map length (map (λ (v : Event Thing). v.ways) es) n event.ways
    (stands_map (λ (v : Event Thing). v.ways) es n event s))

-- Variables

-- no two variables of declarations have one key
net_keyed : (m : RootedModel) (units : List UnitPath) (net : Net Thing) → AreDifferent (variables m units)
    → Along (IsVariable m units) (variables m units) net.variables → AreKeyed net
net_keyed m units net different along = record {
  one = λ i j x y p q same.
      let a = along_back (variables m units) net.variables along i x p in
      let b = along_back (variables m units) net.variables along j y q in
      let k : b.0 ≡ a.0 = sym b.2.key ∙ sym same ∙ a.2.key in
      different.one i j a.0 a.1 (subst (λ (t : Thing). Stands (variables m units) j t) k b.1);
}

-- The source

-- what the stages behind the declarations pass on
pub record IsFlattened (d : Declarations) (x : Elaborated) : Type 0 where
  pub same : x.declarations ≡ d
  pub has : HasDeclarations d x.system
  pub few : most_ways_counted x ≤ limit_of TheWays

pub flattened_of : (d : Declarations) (x : Elaborated) → Flattens d (Ok x) → IsFlattened d x
flattened_of d x (passes a (kept k) (passes y (has i h) (passes z (fits l) (passes w (fits m) (fits n))))) =
    record { same = i; has = h; few = l }

-- what unfolding passes on
pub record IsUnfolded (m : RootedModel) (t : Unfolded) : Type 0 where
  pub same : t.model ≡ m
  pub units : AreUnits m t.units

pub unfolded_of : (m : RootedModel) (t : Unfolded) → Instantiates m (Ok t) → IsUnfolded m t
unfolded_of m t (passes a (whole u s l) (passes b (passes c (fits f) (passes d (fits g) (fits h))) (kept k))) =
    record { same = refl; units = u }

module _ (bytes : List ℕ) (main : Option (List ℕ)) (model : Model) (is_read : Reads bytes model)
    (keeps : TreesKeep bytes)
    (m : RootedModel) (is_rooted : IsRootedIn model main m) (is_kept : KeepsTextRules m) (units : List UnitPath)
    (are_units : AreUnits m units) (d : Declarations) (of : AreOf m units d) (x : Elaborated)
    (flat : IsFlattened d x) where
  words : AreWords m.names
  words = subst AreWords (sym is_rooted.names) (read_words bytes model is_read)

  symbols : AreDifferent (map (name_text m) m.declared.symbols)
  symbols =
      let from = uses_from (λ n. n < length model.names) [] (flat_map symbols_of model.items.items) m.declared.symbols
      (λ n o. absurd (one_none n o)) (items_in (length model.names) (length bytes) model.items.items
      (keeps model is_read).1)
      is_rooted.declared.symbols in
      names_different m.names m.declared.symbols words.different
      (uses_different [] (flat_map symbols_of model.items.items) m.declared.symbols
      (record { one = λ i j a h k. absurd (stands_none i a h) }) is_rooted.declared.symbols)
      (λ n o. subst (λ (z : List (List ℕ)). n < length z) (sym is_rooted.names) (from n o))

  -- the model and the units of the source are these
  abbrev At : (RootedModel → List UnitPath → Type 0) → Type 0
  At P = P x.declarations.model x.declarations.units

  at_source : (P : RootedModel → List UnitPath → Type 0) → P m units → At P
  at_source P h =
      let i = ap (λ (z : Declarations). z.model) flat.same ∙ of.model in
      let j = ap (λ (z : Declarations). z.units) flat.same ∙ of.units_are in
      subst (λ z. P z x.declarations.units) (sym i) (subst (λ z. P m z) (sym j) h)

  names : NamesOnce x
  names = record {
    names = at_source (λ n us. AreDifferent n.names) words.different;
    unmarked =
        at_source (λ n us. (k : ℕ) (t : List ℕ) → Stands n.names k t → has_mark t ≡ false)
        (λ k t s. word_unmarked t (words.words k t s));
    events = at_source (λ n us. AreDifferent (events n us)) (things_different m is_event units is_kept are_units);
    observers = at_source (λ n us. AreDifferent (observers n us))
        (things_different m is_observer units is_kept are_units);
    symbols = at_source (λ n us. AreDifferent (map (name_text n) n.declared.symbols)) symbols;
    few = λ n event s.
        let l = ways_within x.system.events n event s in
        let k = flat.few in
        omega (arith, l, k);
  }

  keyed : AreKeyed x.system.net
  keyed =
      subst AreKeyed (sym flat.has.net)
      (net_keyed m units d.net (things_different m is_variable units is_kept are_units) of.variables)

  definite : IsDefinite x
  definite = record { names = names; keyed = keyed }

-- the source of a text is definite
pub text_definite : (main : Option (List ℕ)) (text : List ℕ) (x : Elaborated) → TreesKeep text
    → Elaborates main text (Ok x)
    → IsDefinite x
text_definite main text x keeps (passes model (reads r)
    (e.passes (passes m (rooted is k) (passes t u (passes d b f))))) =
    let unfolded = unfolded_of m t u in
    let of = subst (λ (z : RootedModel). AreOf z t.units d) unfolded.same (bound_of t d b) in
    definite text main model r keeps m is (record { model = model; main = main; rooted = is; kept = k }) t.units
    unfolded.units d of x
    (flattened_of d x f)
