-- Items that are taken apart one after the other.
use Rattle.std.proofs.Common.{◌≡◌, ℕ, ◌+◌, List, [], ◌∷◌, ◌++◌, map, length, flat_map, refl, sym, ◌∙◌, ap, subst, arith, append_assoc, length-append}
use Rattle.std.proofs.lemmas.List.{append-nil}
use Rattle.ar_base.specs.Lists.{Along, none as along_none, one_and as along_and}
use Rattle.ar_base.specs.Numbers.{NameId, BodyId}
use Rattle.ar_base.proofs.Standing.{along_length}
use Rattle.ar_syntax.specs.declared.items.Item.{Item}
use Rattle.ar_syntax.specs.declared.items.Item.TheVariants as item
use Rattle.ar_syntax.specs.declared.items.DomainDecl.{DomainDecl}
use Rattle.ar_syntax.specs.declared.members.Unit.{Unit as UnitTree}
use Rattle.class_table.specs.Declaring.{TextBody, NamedType, DomainType, ClassType, FirstUses, none as uses_none, Lays_items, symbols_of, symbols_in}
use Rattle.class_table.specs.Declaring.Lays_items.{none, domain, class, block}
use Rattle.class_table.specs.TablesInside.{IsBodyOf, IsTypeOf, IsNamedType}
use Rattle.class_table.specs.TablesInside.IsTypeOf.{class as class_type}
use Rattle.class_table.specs.Symbols.{AreNumberedSymbols, UsesMore, names_of_symbols}
use Rattle.class_table.specs.Laying.{LaysUnit, AreParts}
use Rattle.class_table.specs.declared.symbols.Symbols.{Symbols}
use Rattle.class_table.specs.declared.declaring.Declared.{Declared as Parts}
use Rattle.class_table.specs.declared.tables.Body.{Body}
use Rattle.class_table.specs.declared.tables.TypeBody.{TypeBody}
use Rattle.class_table.specs.declared.tables.TypeBody.TheVariants as types
use Rattle.class_table.proofs.Taken.{map_join}
use Rattle.class_table.proofs.Laid.{along_append}
use Rattle.class_table.proofs.Numbered.{uses_append, types_later}

-- items laid after others
pub items_append : (n m : ℕ) (xs ys : List Item) (bs cs : List TextBody) (ts us : List (ℕ × NamedType)) (ks js : List ℕ)
    → m ≡ n + length bs → Lays_items n xs bs ts ks → Lays_items m ys cs us js
    → Lays_items n (xs ++ ys) (bs ++ cs) (ts ++ us) (ks ++ js)
items_append n m xs ys bs cs ts us ks js e none k = let i : m ≡ n = omega (arith, e) in subst (λ (z : ℕ). Lays_items z ys cs us js) i k
items_append n m xs ys bs cs ts us ks js e (domain {items = is} {ts = tt'} h) k =
    domain (items_append n m is ys bs cs tt' us ks js e h k)
items_append n m xs ys bs cs ts us ks js e
    (class {u = u} {own = own} {items = is} {bs = ds} {cs = es} {ts = ts'} {ms = ms'} l h) k =
    let r : TextBody = record { name = u.name; at = u.at; own = own } in
    let i : m ≡ (n + 1 + length ds) + length es = let a = length-append ds es in omega (arith, e, a) in
    let rest = items_append (n + 1 + length ds) m is ys es cs ts' us ks js i h k in
    subst (λ (zs : List TextBody). Lays_items n (item.Class u ∷ (is ++ ys)) zs ((u.name.n, ClassType n) ∷ (ts' ++ us))
    (ks ++ js)) (sym (append_assoc (r ∷ ds) es cs)) (class l rest)
items_append n m xs ys bs cs ts us ks js e
    (block {u = u} {own = own} {items = is} {bs = ds} {cs = es} {ts = ts'} {ms = ms'} l h) k =
    let r : TextBody = record { name = u.name; at = u.at; own = own } in
    let i : m ≡ (n + 1 + length ds) + length es = let a = length-append ds es in omega (arith, e, a) in
    let rest = items_append (n + 1 + length ds) m is ys es cs ts' us ms' js i h k in
    subst (λ (zs : List TextBody). Lays_items n (item.Block u ∷ (is ++ ys)) zs (ts' ++ us) (n ∷ (ms' ++ js)))
    (sym (append_assoc (r ∷ ds) es cs)) (block l rest)

-- the uses of one item more
flat_next : (xs : List Item) (y : Item) → flat_map symbols_of (xs ++ y ∷ []) ≡ flat_map symbols_of xs ++ symbols_of y
flat_next [] y = append-nil (symbols_of y)
flat_next (x ∷ xs) y = ap (λ (zs : List ℕ). symbols_of x ++ zs) (flat_next xs y)
    ∙ sym (append_assoc (symbols_of x) (flat_map symbols_of xs) (symbols_of y))

-- what is taken apart so far
pub record PartsSoFar (items : List Item) (bodies : List Body) (kinds : List (NameId × TypeBody)) (symbols : Symbols)
    (blocks : List BodyId) : Type 0 where
  pub texts : List TextBody
  pub named : List (ℕ × NamedType)
  pub as_text : Along IsBodyOf bodies texts
  pub as_types : Along (IsNamedType (names_of_symbols symbols)) kinds named
  pub uses : FirstUses [] (flat_map symbols_of items) (names_of_symbols symbols)
  pub lays : Lays_items 0 items texts named (map (λ (b : BodyId). b.n) blocks)
  pub numbered : AreNumberedSymbols symbols

pub parts_start : (bodies : List Body) (kinds : List (NameId × TypeBody)) (s : Symbols) (blocks : List BodyId)
    → bodies ≡ [] → kinds ≡ [] → names_of_symbols s ≡ [] → blocks ≡ [] → AreNumberedSymbols s → PartsSoFar [] bodies kinds s blocks
parts_start bodies kinds s blocks e f g h n = record {
  texts = [];
  named = [];
  as_text = subst (λ (xs : List Body). Along IsBodyOf xs []) (sym e) along_none;
  as_types = subst (λ (xs : List (NameId × TypeBody)). Along (IsNamedType (names_of_symbols s)) xs []) (sym f) along_none;
  uses = subst (FirstUses [] []) (sym g) uses_none;
  lays = subst (λ (xs : List BodyId). Lays_items 0 [] [] [] (map (λ (b : BodyId). b.n) xs)) (sym h) none;
  numbered = n;
}

pub domain_next : (items : List Item) (bodies : List Body) (ts ts' : List (NameId × TypeBody)) (s s' : Symbols)
    (blocks : List BodyId) (d : DomainDecl) (t : TypeBody) → ts' ≡ ts ++ (d.name, t) ∷ []
    → PartsSoFar items bodies ts s blocks
    → UsesMore (symbols_in d.body) s s' × IsTypeOf (names_of_symbols s') (DomainType d.body) t
    → PartsSoFar (items ++ item.Domain d ∷ []) bodies ts' s' blocks
domain_next items bodies ts ts' s s' blocks d t e h g = record {
  texts = h.texts;
  named = h.named ++ (d.name.n, DomainType d.body) ∷ [];
  as_text = h.as_text;
  as_types = subst (λ (xs : List (NameId × TypeBody)). Along (IsNamedType (names_of_symbols s')) xs
      (h.named ++ (d.name.n, DomainType d.body) ∷ [])) (sym e)
      (along_append ts h.named ((d.name, t) ∷ []) ((d.name.n, DomainType d.body) ∷ [])
      (types_later _ _ _ g.0.uses_of ts h.named h.as_types)
      (along_and (record { name = refl; is_type = g.1 }) along_none));
  uses = subst (λ (xs : List ℕ). FirstUses [] xs (names_of_symbols s')) (sym (flat_next items (item.Domain d)))
      (uses_append [] (names_of_symbols s) (names_of_symbols s') (flat_map symbols_of items) (symbols_in d.body) h.uses g.0.uses_of);
  lays = subst (λ (bs : List TextBody). Lays_items 0 (items ++ item.Domain d ∷ []) bs
      (h.named ++ (d.name.n, DomainType d.body) ∷ []) (map (λ (b : BodyId). b.n) blocks)) (append-nil h.texts)
      (subst (λ (ks : List ℕ). Lays_items 0 (items ++ item.Domain d ∷ []) (h.texts ++ [])
      (h.named ++ (d.name.n, DomainType d.body) ∷ []) ks) (append-nil (map (λ (b : BodyId). b.n) blocks))
      (items_append 0 (length h.texts) items (item.Domain d ∷ []) h.texts [] h.named
      ((d.name.n, DomainType d.body) ∷ []) (map (λ (b : BodyId). b.n) blocks) [] (omega arith) h.lays
      (domain none)));
  numbered = g.0.numbered;
}

-- the uses of an item without symbols
uses_same : (items : List Item) (i : Item) (s : List ℕ) → symbols_of i ≡ [] → FirstUses [] (flat_map symbols_of items) s
    → FirstUses [] (flat_map symbols_of (items ++ i ∷ [])) s
uses_same items i s e h = subst (λ (xs : List ℕ). FirstUses [] xs s)
    (sym (flat_next items i ∙ (ap (λ (ys : List ℕ). flat_map symbols_of items ++ ys) e
    ∙ append-nil (flat_map symbols_of items)))) h

module _ (items : List Item) (old new : List Body) (ts : List (NameId × TypeBody)) (s : Symbols) (blocks : List BodyId)
    (u : UnitTree) (id : BodyId) (number : id.n ≡ length old) (h : PartsSoFar items old ts s blocks)
    (l : LaysUnit u old new) where
  at_next : length old ≡ 0 + length h.texts
  at_next = let e = along_length old h.texts h.as_text in omega arith

  new_text : Along IsBodyOf new (h.texts ++ record { name = u.name; at = u.at; own = l.own } ∷ l.inner)
  new_text = subst (λ (bs : List Body). Along IsBodyOf bs
      (h.texts ++ record { name = u.name; at = u.at; own = l.own } ∷ l.inner)) (sym l.joined)
      (along_append old h.texts l.bodies _ h.as_text l.as_text)

  pub class_next : (ts' : List (NameId × TypeBody)) → ts' ≡ ts ++ (u.name, types.Class id) ∷ []
      → PartsSoFar (items ++ item.Class u ∷ []) new ts' s blocks
  class_next ts' e = record {
    texts = h.texts ++ record { name = u.name; at = u.at; own = l.own } ∷ l.inner;
    named = h.named ++ (u.name.n, ClassType (length old)) ∷ [];
    as_text = new_text;
    as_types = subst (λ (xs : List (NameId × TypeBody)). Along (IsNamedType (names_of_symbols s)) xs
        (h.named ++ (u.name.n, ClassType (length old)) ∷ [])) (sym e)
        (along_append ts h.named ((u.name, types.Class id) ∷ []) ((u.name.n, ClassType (length old)) ∷ []) h.as_types
        (along_and (record { name = refl; is_type = class_type number }) along_none));
    uses = uses_same items (item.Class u) (names_of_symbols s) refl h.uses;
    lays = subst (λ (bs : List TextBody). Lays_items 0 (items ++ item.Class u ∷ []) (h.texts ++ bs)
        (h.named ++ (u.name.n, ClassType (length old)) ∷ []) (map (λ (b : BodyId). b.n) blocks))
        (append-nil (record { name = u.name; at = u.at; own = l.own } ∷ l.inner))
        (subst (λ (ks : List ℕ). Lays_items 0 (items ++ item.Class u ∷ [])
        (h.texts ++ (record { name = u.name; at = u.at; own = l.own } ∷ l.inner ++ []))
        (h.named ++ (u.name.n, ClassType (length old)) ∷ []) ks) (append-nil (map (λ (b : BodyId). b.n) blocks))
        (items_append 0 (length old) items (item.Class u ∷ []) h.texts _ h.named _ (map (λ (b : BodyId). b.n) blocks) []
        at_next h.lays (class l.lays none)));
    numbered = h.numbered;
  }

  pub block_next : (blocks' : List BodyId) → blocks' ≡ blocks ++ id ∷ []
      → PartsSoFar (items ++ item.Block u ∷ []) new ts s blocks'
  block_next blocks' e = record {
    texts = h.texts ++ record { name = u.name; at = u.at; own = l.own } ∷ l.inner;
    named = h.named;
    as_text = new_text;
    as_types = h.as_types;
    uses = uses_same items (item.Block u) (names_of_symbols s) refl h.uses;
    lays = subst (λ (ks : List ℕ). Lays_items 0 (items ++ item.Block u ∷ [])
        (h.texts ++ record { name = u.name; at = u.at; own = l.own } ∷ l.inner) h.named ks) (sym same)
        (subst (λ (bs : List TextBody). Lays_items 0 (items ++ item.Block u ∷ []) (h.texts ++ bs) h.named
        (map (λ (b : BodyId). b.n) blocks ++ length old ∷ []))
        (append-nil (record { name = u.name; at = u.at; own = l.own } ∷ l.inner))
        (subst (λ (us : List (ℕ × NamedType)). Lays_items 0 (items ++ item.Block u ∷ [])
        (h.texts ++ (record { name = u.name; at = u.at; own = l.own } ∷ l.inner ++ [])) us
        (map (λ (b : BodyId). b.n) blocks ++ length old ∷ [])) (append-nil h.named)
        (items_append 0 (length old) items (item.Block u ∷ []) h.texts _ h.named [] (map (λ (b : BodyId). b.n) blocks)
        (length old ∷ []) at_next h.lays (block l.lays none))));
    numbered = h.numbered;
  }
    where
      same : map (λ (b : BodyId). b.n) blocks' ≡ map (λ (b : BodyId). b.n) blocks ++ length old ∷ []
      same = ap (map (λ (b : BodyId). b.n)) e
          ∙ (map_join (λ (b : BodyId). b.n) blocks (id ∷ [])
          ∙ ap (λ (n : ℕ). map (λ (b : BodyId). b.n) blocks ++ n ∷ []) number)

-- a loop over items: those that are done, and those that are left
pub record PartsOn (all rest : List Item) (len : ℕ) (bodies : List Body) (kinds : List (NameId × TypeBody))
    (symbols : Symbols) (blocks : List BodyId) : Type 0 where
  pub done : List Item
  pub joined : done ++ rest ≡ all
  pub count : len ≡ length rest
  pub so_far : PartsSoFar done bodies kinds symbols blocks

pub on_next : (all rest rest' : List Item) (len len' : ℕ) (bodies bodies' : List Body)
    (ts ts' : List (NameId × TypeBody)) (s s' : Symbols) (blocks blocks' : List BodyId) (i j : Item) → rest ≡ i ∷ rest'
    → len' + 1 ≡ len → i ≡ j
    → (h : PartsOn all rest len bodies ts s blocks) → PartsSoFar (h.done ++ j ∷ []) bodies' ts' s' blocks'
    → PartsOn all rest' len' bodies' ts' s' blocks'
on_next all rest rest' len len' bodies bodies' ts ts' s s' blocks blocks' i j e c f h k = record {
  done = h.done ++ j ∷ [];
  joined = append_assoc h.done (j ∷ []) rest'
      ∙ (ap (λ (x : Item). h.done ++ (x ∷ rest')) (sym f) ∙ (ap (λ (ms : List Item). h.done ++ ms) (sym e) ∙ h.joined));
  count = let a = ap (λ (ms : List Item). length ms) e in let b = h.count in omega (arith, a, b, c);
  so_far = k;
}

pub on_end : (all rest : List Item) (len : ℕ) (bodies : List Body) (ts : List (NameId × TypeBody)) (s : Symbols)
    (blocks : List BodyId) → len ≡ 0 → PartsOn all rest len bodies ts s blocks → PartsSoFar all bodies ts s blocks
on_end all rest len bodies ts s blocks e h = subst (λ (ms : List Item). PartsSoFar ms bodies ts s blocks) done h.so_far
  where
    empty : (ms : List Item) → 0 ≡ length ms → ms ≡ []
    empty [] f = refl
    empty (x ∷ xs) f = absurd (omega (arith, f))

    done : h.done ≡ all
    done = sym (append-nil h.done) ∙ (ap (λ (ms : List Item). h.done ++ ms) (sym (empty rest (sym e ∙ h.count)))
        ∙ h.joined)

pub parts_of : (items : List Item) (p : Parts) (s : Symbols) → s.list.items ≡ p.symbols.items
    → PartsSoFar items p.bodies.items p.types.items s p.blocks.items → AreParts items p
parts_of items p s e h = record {
  bodies = h.texts;
  types = h.named;
  as_text = h.as_text;
  as_types = subst (λ (xs : List NameId). Along (IsNamedType (map (λ (x : NameId). x.n) xs)) p.types.items h.named) e
      h.as_types;
  symbols = subst (λ (xs : List NameId). FirstUses [] (flat_map symbols_of items) (map (λ (x : NameId). x.n) xs)) e
      h.uses;
  lays = h.lays;
}
