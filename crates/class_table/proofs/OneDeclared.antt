-- A model declares one thing.
use Rattle.std.proofs.Common.{◌≡◌, ℕ, ◌+◌, List, [], ◌∷◌, ◌++◌, length, true≢false, refl, sym, ◌∙◌, ap, subst}
use Rattle.ar_base.proofs.Comparing.{id_from}
use Rattle.ar_syntax.specs.declared.items.Item.{Item}
use Rattle.ar_syntax.specs.declared.items.Model.{Model}
use Rattle.ar_syntax.specs.declared.members.Member.{Member, out-Member}
use Rattle.class_table.specs.Declaring.{MemberForm, TextBody, NamedType, DomainType, ClassType, Declared, Lays, Lays_one, FirstUses, Lays_items, IsDeclared}
use Rattle.class_table.specs.Declaring.Lays.{none as no_members, one_and}
use Rattle.class_table.specs.Declaring.Lays_one.{plain, block as one_block}
use Rattle.class_table.specs.Declaring.FirstUses.{none as no_uses, known, first}
use Rattle.class_table.specs.Declaring.Lays_items.{none as no_items, domain, class, block}
use Rattle.class_table.specs.declared.tables.Owned.{Owned}
use Rattle.class_table.specs.declared.tables.Owned.TheVariants.{Nested}

-- two lists of first uses are one
pub uses_one : (old xs new other : List ℕ) → FirstUses old xs new → FirstUses old xs other → new ≡ other
uses_one old xs new other no_uses no_uses = refl
uses_one old xs new other (known i h) (known j k) = uses_one old _ new other h k
uses_one old xs new other (known {x = x} i h) (first n k) = absurd (n.has_not i.place x i.stands refl)
uses_one old xs new other (first {x = x} n h) (known j k) = absurd (n.has_not j.place x j.stands refl)
uses_one old xs new other (first n h) (first m k) = uses_one _ _ new other h k

-- what members are kept as, with the bodies of the blocks among them
abbrev pub Laid : Type 0
Laid = List Owned × List TextBody

mutual
  pub lays_one : (n : ℕ) (ms : List Member) (os ps : List Owned) (bs cs : List TextBody) → Lays n ms os bs
      → Lays n ms ps cs → (os ≡ ps) × (bs ≡ cs)
  lays_one n ms os ps bs cs no_members no_members = (refl, refl)
  lays_one n ms os ps bs cs (one_and {m = m} {ms = more} {o = o} {os = os'} {bs = xs} {cs = ys} a h)
      (one_and {o = p} {os = ps'} {bs = us} {cs = vs} b k) =
      let here = one_one n m (out-Member m) o p xs us a b in
      let rest = lays_one (n + length xs) more os' ps' ys vs h
      (subst (λ (zs : List TextBody). Lays (n + length zs) more ps' vs) (sym here.1) k) in (
        ap (λ (z : Owned). z ∷ os') here.0
            ∙ ap (λ (zs : List Owned). p ∷ zs) rest.0,
        ap (λ (zs : List TextBody). zs ++ ys) here.1
            ∙ ap (λ (zs : List TextBody). us ++ zs) rest.1,
      )

  pub one_one : (n : ℕ) (m : Member) (f : MemberForm) (o p : Owned) (bs cs : List TextBody) → Lays_one n m f o bs
      → Lays_one n m f p cs → (o ≡ p) × (bs ≡ cs)
  one_one n m f o p bs cs (plain e) (plain i) = (refl, refl)
  one_one n m f o p bs cs (plain e) (one_block i k) = absurd (true≢false e)
  one_one n m f o p bs cs (one_block i k) (plain e) = absurd (true≢false e)
  one_one n m f o p bs cs (one_block {u = u} {id = a} {own = own} {bs = xs} i h)
      (one_block {id = b} {own = other} {bs = ys} j k) =
      let inner = lays_one (n + 1) u.members.items own other xs ys h k in (
        ap (λ (z : _). Nested u.name u.at z) (id_from a b (i ∙ sym j)),
        ap (λ (zs : List Owned). record { name = u.name; at = u.at; own = zs } ∷ xs) inner.0
            ∙ ap (λ (zs : List TextBody). record { name = u.name; at = u.at; own = other } ∷ zs) inner.1,
      )

-- what items declare
pub record AreSame (bs cs : List TextBody) (ts us : List (ℕ × NamedType)) (ms ns : List ℕ) : Type 0 where
  pub bodies : bs ≡ cs
  pub types : ts ≡ us
  pub blocks : ms ≡ ns

pub items_one : (n : ℕ) (items : List Item) (bs cs : List TextBody) (ts us : List (ℕ × NamedType)) (ms ns : List ℕ)
    → Lays_items n items bs ts ms → Lays_items n items cs us ns → AreSame bs cs ts us ms ns
items_one n items bs cs ts us ms ns no_items no_items = record { bodies = refl; types = refl; blocks = refl }
items_one n items bs cs ts us ms ns (domain {d = d} {items = more} {bs = xs} {ts = ts'} {ms = ms'} h)
    (domain {bs = ys} {ts = us'} {ms = ns'} k) =
    let s = items_one n more xs ys ts' us' ms' ns' h k in
    record {
      bodies = s.bodies;
      types = ap (λ (zs : List (ℕ × NamedType)). (d.name.n, DomainType d.body) ∷ zs) s.types;
      blocks = s.blocks;
    }
items_one n items bs cs ts us ms ns
    (class {u = u} {own = own} {items = more} {bs = xs} {cs = ys} {ts = ts'} {ms = ms'} a h)
    (class {own = other} {bs = zs} {cs = ws} {ts = us'} {ms = ns'} b k) =
    let here = lays_one (n + 1) u.members.items own other xs zs a b in
    let s = items_one (n + 1 + length xs) more ys ws ts' us' ms' ns' h
    (subst (λ (ls : List TextBody). Lays_items (n + 1 + length ls) more ws us' ns') (sym here.1) k) in
    record {
      bodies = ap (λ (ls : List Owned). record { name = u.name; at = u.at; own = ls } ∷ xs ++ ys) here.0
          ∙ ap (λ (ls : List TextBody). record { name = u.name; at = u.at; own = other } ∷ ls ++ ys) here.1
          ∙ ap (λ (ls : List TextBody). record { name = u.name; at = u.at; own = other } ∷ zs ++ ls) s.bodies;
      types = ap (λ (ls : List (ℕ × NamedType)). (u.name.n, ClassType n) ∷ ls) s.types;
      blocks = s.blocks;
    }
items_one n items bs cs ts us ms ns
    (block {u = u} {own = own} {items = more} {bs = xs} {cs = ys} {ts = ts'} {ms = ms'} a h)
    (block {own = other} {bs = zs} {cs = ws} {ts = us'} {ms = ns'} b k) =
    let here = lays_one (n + 1) u.members.items own other xs zs a b in
    let s = items_one (n + 1 + length xs) more ys ws ts' us' ms' ns' h
    (subst (λ (ls : List TextBody). Lays_items (n + 1 + length ls) more ws us' ns') (sym here.1) k) in
    record {
      bodies = ap (λ (ls : List Owned). record { name = u.name; at = u.at; own = ls } ∷ xs ++ ys) here.0
          ∙ ap (λ (ls : List TextBody). record { name = u.name; at = u.at; own = other } ∷ ls ++ ys) here.1
          ∙ ap (λ (ls : List TextBody). record { name = u.name; at = u.at; own = other } ∷ zs ++ ls) s.bodies;
      types = s.types;
      blocks = ap (λ (ls : List ℕ). n ∷ ls) s.blocks;
    }

pub declared_from : (d e : Declared) → AreSame d.bodies e.bodies d.types e.types d.blocks e.blocks
    → d.symbols ≡ e.symbols → d ≡ e
declared_from d e s t =
    ap (λ (z : List TextBody). record { bodies = z; types = d.types; symbols = d.symbols; blocks = d.blocks }) s.bodies
    ∙ ap (λ (z : List (ℕ × NamedType)). record { bodies = e.bodies; types = z; symbols = d.symbols; blocks = d.blocks })
    s.types
    ∙ ap (λ (z : List ℕ). record { bodies = e.bodies; types = e.types; symbols = z; blocks = d.blocks }) t
    ∙ ap (λ (z : List ℕ). record { bodies = e.bodies; types = e.types; symbols = e.symbols; blocks = z }) s.blocks

pub declared_one : (model : Model) (d e : Declared) → IsDeclared model d → IsDeclared model e → d ≡ e
declared_one model d e h k =
    declared_from d e (items_one 0 model.items.items d.bodies e.bodies d.types e.types d.blocks e.blocks h.items
    k.items)
    (uses_one [] _ d.symbols e.symbols h.symbols k.symbols)
