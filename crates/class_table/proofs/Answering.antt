-- The answer of the stage.
use Rattle.std.proofs.Common.{◌≡◌, ℕ, ◌<◌, List, [], ◌∷◌, ◌++◌, map, Option, Some, None, Result, Ok, Err, IfNone, Vec, Global, refl, sym, ap, subst, arith}
use Rattle.ar_base.specs.Breach.{IsBroken, AreKept}
use Rattle.ar_base.specs.Lists.{IsOneOf, Along}
use Rattle.ar_base.specs.Numbers.{NameId, BodyId}
use Rattle.ar_base.specs.Stages.{Keeps, kept, broken}
use Rattle.ar_base.specs.StagesInside.{Meets, kept_rule, IsRefusal, rule_told}
use Rattle.ar_base.specs.declared.faults.RuleFault.{RuleFault}
use Rattle.ar_base.specs.declared.faults.RuleFault.TheVariants.{Rule, Limit, Memory}
use Rattle.ar_base.specs.declared.places.Place.{Place}
use Rattle.ar_base.proofs.Standing.{one_first, one_rest}
use Rattle.ar_base.proofs.Comparing.{not_before}
use Rattle.ar_syntax.specs.declared.items.Item.{Item}
use Rattle.ar_syntax.specs.declared.items.Model.{Model}
use Rattle.class_table.specs.Declaring.{Declared, IsDeclared}
use Rattle.class_table.specs.Tables.{IsMain}
use Rattle.class_table.specs.TablesInside.{IsBodyOf, IsNamedType, IsTableOfModel}
use Rattle.class_table.specs.Tabling.{Tabulates, table, breach}
use Rattle.class_table.specs.Rules.{BreaksItems, BreaksTypes, BreaksContainment, BreaksNames, BreaksTextRule, l1, l2, l3, l4, l5, text_rules}
use Rattle.class_table.specs.Earliest.{IsEarliest, nowhere, there}
use Rattle.class_table.specs.Testing.{TakesApart, parts, wrong, AreAsDeclared}
use Rattle.class_table.specs.Laying.{AreParts}
use Rattle.class_table.specs.Shown.{Shows, AreMembersListed}
use Rattle.class_table.specs.Kinds.{KnowsTypes}
use Rattle.class_table.specs.declared.types.TypeKinds.{TypeKinds}
use Rattle.class_table.specs.declared.tables.Body.{Body}
use Rattle.class_table.specs.declared.tables.TypeBody.{TypeBody}
use Rattle.class_table.specs.declared.declaring.Declared.{Declared as Parts}
use Rattle.class_table.specs.declared.tables.Classes.{Classes}
use Rattle.class_table.specs.Listing.{CanList}
use Rattle.class_table.specs.Ordering.{IsBodyOrder}
use Rattle.class_table.specs.Rows.{AreInnerBodies}
use Rattle.class_table.proofs.Acyclic.{is_complete}
use Rattle.class_table.proofs.Listed.{classes_named}
use Rattle.class_table.proofs.FirstPlaces.{earliest_same}
use Rattle.class_table.proofs.Broken.{each_of, each_of_none, none_kept, one_more_kept, broken_at, broken_of_more, is_l1, is_l2, is_l3, is_l4, is_l5}

-- what the parts declare
unfoldable pub declared_of : (items : List Item) (p : Parts) → AreParts items p → Declared
declared_of items p h = record {
  bodies = h.bodies;
  types = h.types;
  symbols = map (λ (x : NameId). x.n) p.symbols.items;
  blocks = map (λ (b : BodyId). b.n) p.blocks.items;
}

-- what a test of a rule answers
pub kept_ok : (r : ℕ) (f : Option Place) (x : Unit {0}) → Ok x ≡ kept_rule r f → f ≡ None
kept_ok r None x e = refl
kept_ok r (Some p) x e = cc

pub kept_err : (r : ℕ) (f : Option Place) (x : RuleFault) → Err x ≡ kept_rule r f
    → (p : Place) × (f ≡ Some p) × (x ≡ Rule r p)
kept_err r None x e = absurd (cc)
kept_err r (Some p) x e = (p, refl, cc)

module _ (model : Model) (main : Option (List ℕ)) (d : Declared) where
  -- the tests, by their rules
  pub tests1 : (f : Option Place) → IsEarliest (BreaksItems model.items.items) f
      → IsEarliest (BreaksTextRule model main d 1) f
  tests1 f h = earliest_same f (λ p b. l1 b) (is_l1 model main d) h

  pub tests2 : (f : Option Place) → IsEarliest (BreaksTypes d) f → IsEarliest (BreaksTextRule model main d 2) f
  tests2 f h = earliest_same f (λ p b. l2 b) (is_l2 model main d) h

  pub tests3 : (f : Option Place) → IsEarliest (BreaksContainment d) f → IsEarliest (BreaksTextRule model main d 3) f
  tests3 f h = earliest_same f (λ p b. l3 b) (is_l3 model main d) h

  pub tests4 : (f : Option Place) → IsEarliest (BreaksNames d) f → IsEarliest (BreaksTextRule model main d 4) f
  tests4 f h = earliest_same f (λ p b. l4 b) (is_l4 model main d) h

  -- a test that passes
  pub passes_test : (rules : List ℕ) (n : ℕ) (f : Option Place) → f ≡ None
      → AreKept rules (BreaksTextRule model main d) → IsEarliest (BreaksTextRule model main d n) f
      → AreKept (rules ++ n ∷ []) (BreaksTextRule model main d)
  passes_test rules n f e k h = one_more_kept (BreaksTextRule model main d) rules n k
      (subst (IsEarliest (BreaksTextRule model main d n)) e h)

  -- a test that refuses
  pub refuses_test : (before after : List ℕ) (n : ℕ) (f : Option Place) (x : RuleFault)
      → ((s : ℕ) → IsOneOf after s → n < s) → AreKept before (BreaksTextRule model main d)
      → IsEarliest (BreaksTextRule model main d n) f → (p : Place) × (f ≡ Some p) × (x ≡ Rule n p)
      → IsRefusal (Keeps (before ++ n ∷ after) (BreaksTextRule model main) d) (rule_told x)
  refuses_test before after n f x least k h w =
      subst (λ (y : RuleFault). IsRefusal (Keeps (before ++ n ∷ after) (BreaksTextRule model main) d) (rule_told y))
      (sym w.2) (broken (broken_at (BreaksTextRule model main d) before after n w.0 least k
      (subst (IsEarliest (BreaksTextRule model main d n)) w.1 h)))

  -- the test of rule L1
  pub first_kept : IsEarliest (BreaksItems model.items.items) None → AreKept (1 ∷ []) (BreaksTextRule model main d)
  first_kept h = passes_test [] 1 None refl (none_kept (BreaksTextRule model main d)) (tests1 None h)

  pub first_broken : (p : Place) → IsEarliest (BreaksItems model.items.items) (Some p)
      → IsBroken text_rules (BreaksTextRule model main d) 1 p
  first_broken p h =
      broken_at (BreaksTextRule model main d) [] (2 ∷ 3 ∷ 4 ∷ 5 ∷ []) 1 p
      (each_of (λ s. 1 < s) 2 _ (omega arith) (each_of (λ s. 1 < s) 3 _ (omega arith)
      (each_of (λ s. 1 < s) 4 _ (omega arith) (each_of (λ s. 1 < s) 5 _ (omega arith) (each_of_none (λ s. 1 < s))))))
      (none_kept (BreaksTextRule model main d)) (tests1 (Some p) h)

  -- the tests of rules L2 to L4
  pub refuses2 : (f : Option Place) (x : RuleFault) → AreKept (1 ∷ []) (BreaksTextRule model main d)
      → IsEarliest (BreaksTypes d) f → Err x ≡ kept_rule 2 f
      → IsRefusal (Keeps (1 ∷ 2 ∷ 3 ∷ []) (BreaksTextRule model main) d) (rule_told x)
  refuses2 f x k h e = refuses_test (1 ∷ []) (3 ∷ []) 2 f x
      (each_of (λ s. 2 < s) 3 [] (omega arith) (each_of_none (λ s. 2 < s))) k (tests2 f h) (kept_err 2 f x e)

  pub passes2 : (f : Option Place) (x : Unit {0}) → AreKept (1 ∷ []) (BreaksTextRule model main d)
      → IsEarliest (BreaksTypes d) f → Ok x ≡ kept_rule 2 f → AreKept (1 ∷ 2 ∷ []) (BreaksTextRule model main d)
  passes2 f x k h e = passes_test (1 ∷ []) 2 f (kept_ok 2 f x e) k (tests2 f h)

  pub refuses3 : (f : Option Place) (x : RuleFault) → AreKept (1 ∷ 2 ∷ []) (BreaksTextRule model main d)
      → IsEarliest (BreaksContainment d) f → Err x ≡ kept_rule 3 f
      → IsRefusal (Keeps (1 ∷ 2 ∷ 3 ∷ []) (BreaksTextRule model main) d) (rule_told x)
  refuses3 f x k h e = refuses_test (1 ∷ 2 ∷ []) [] 3 f x (each_of_none (λ s. 3 < s)) k (tests3 f h) (kept_err 3 f x e)

  pub passes3 : (f : Option Place) (x : Unit {0}) → AreKept (1 ∷ 2 ∷ []) (BreaksTextRule model main d)
      → IsEarliest (BreaksContainment d) f → Ok x ≡ kept_rule 3 f
      → AreKept (1 ∷ 2 ∷ 3 ∷ []) (BreaksTextRule model main d)
  passes3 f x k h e = passes_test (1 ∷ 2 ∷ []) 3 f (kept_ok 3 f x e) k (tests3 f h)

  pub refuses4 : (f : Option Place) (x : RuleFault) → AreKept (1 ∷ 2 ∷ 3 ∷ []) (BreaksTextRule model main d)
      → IsEarliest (BreaksNames d) f → Err x ≡ kept_rule 4 f
      → IsRefusal (Keeps (1 ∷ 2 ∷ 3 ∷ 4 ∷ []) (BreaksTextRule model main) d) (rule_told x)
  refuses4 f x k h e = refuses_test (1 ∷ 2 ∷ 3 ∷ []) [] 4 f x (each_of_none (λ s. 4 < s)) k (tests4 f h)
      (kept_err 4 f x e)

  pub passes4 : (f : Option Place) (x : Unit {0}) → AreKept (1 ∷ 2 ∷ 3 ∷ []) (BreaksTextRule model main d)
      → IsEarliest (BreaksNames d) f → Ok x ≡ kept_rule 4 f
      → AreKept (1 ∷ 2 ∷ 3 ∷ 4 ∷ []) (BreaksTextRule model main d)
  passes4 f x k h e = passes_test (1 ∷ 2 ∷ 3 ∷ []) 4 f (kept_ok 4 f x e) k (tests4 f h)

  -- the answer of the last of them, where the members are listed
  pub answers4 : (bodies : List Body) (f : Option Place) (r : Result (Unit {0}) RuleFault) → r ≡ kept_rule 4 f
      → AreKept (1 ∷ 2 ∷ 3 ∷ []) (BreaksTextRule model main d) → IsEarliest (BreaksNames d) f → AreMembersListed d bodies
      → Meets {X = Unit {0}} (Keeps (1 ∷ 2 ∷ 3 ∷ 4 ∷ []) (BreaksTextRule model main))
      (λ (e : Declared) (u : Unit {0}). AreMembersListed e bodies) d r
  answers4 bodies f r e k h l =
      subst (λ (z : Result (Unit {0}) RuleFault). Meets {X = Unit {0}}
      (Keeps (1 ∷ 2 ∷ 3 ∷ 4 ∷ []) (BreaksTextRule model main)) (λ (e : Declared) (u : Unit {0}). AreMembersListed e bodies) d z)
      (sym e) (by f h)
    where
      by : (f : Option Place) → IsEarliest (BreaksNames d) f → Meets {X = Unit {0}}
          (Keeps (1 ∷ 2 ∷ 3 ∷ 4 ∷ []) (BreaksTextRule model main)) (λ (e : Declared) (u : Unit {0}). AreMembersListed e bodies) d
          (kept_rule 4 f)
      by None h = (d, kept (passes4 None tt k h refl), l)
      by (Some p) h = refuses4 (Some p) (Rule 4 p) k h refl

  -- the tests that passed
  kept_all : (rules : List ℕ) (e : Declared) → Keeps rules (BreaksTextRule model main) d (Ok e)
      → AreKept rules (BreaksTextRule model main e)
  kept_all rules e (kept k) = k

  same_declared : (rules : List ℕ) (e : Declared) → Keeps rules (BreaksTextRule model main) d (Ok e) → e ≡ d
  same_declared rules e (kept k) = refl

  pub passed : {A : Type 0} (holds : Declared → List A → Type 0) (rules : List ℕ) (e : Declared) (xs : List A)
      → Keeps rules (BreaksTextRule model main) d (Ok e) → holds e xs
      → AreKept rules (BreaksTextRule model main d) × holds d xs
  passed holds rules e xs t h =
      subst (λ (f : Declared). AreKept rules (BreaksTextRule model main f) × holds f xs) (same_declared rules e t)
      (kept_all rules e t, h)

  pub passed_all : (bodies : List Body) (e : Declared)
      → Keeps (1 ∷ 2 ∷ 3 ∷ 4 ∷ []) (BreaksTextRule model main) d (Ok e) → AreMembersListed e bodies
      → AreKept (1 ∷ 2 ∷ 3 ∷ 4 ∷ []) (BreaksTextRule model main d) × AreMembersListed d bodies
  passed_all bodies e t l = passed (λ (f : Declared) (bs : List Body). AreMembersListed f bs) (1 ∷ 2 ∷ 3 ∷ 4 ∷ []) e bodies t l

  -- a refusal of earlier tests is one of later tests too
  later_answer : (rules : List ℕ) (n : ℕ) (a : Result Declared RuleFault) (x : RuleFault)
      → ((r : ℕ) → IsOneOf rules r → r < n) → a ≡ Err x → Keeps rules (BreaksTextRule model main) d a
      → Keeps (rules ++ n ∷ []) (BreaksTextRule model main) d (Err x)
  later_answer rules n a x below e (kept k) = absurd (cc)
  later_answer rules n a x below e (broken {r = r} {p = p} b) =
      subst (Keeps (rules ++ n ∷ []) (BreaksTextRule model main) d) e
      (broken (broken_of_more (BreaksTextRule model main d) rules n r p (below r b.is_one) b))

  later_refusal : (rules : List ℕ) (n : ℕ) (x : RuleFault) → ((r : ℕ) → IsOneOf rules r → r < n)
      → IsRefusal (Keeps rules (BreaksTextRule model main) d) (rule_told x)
      → IsRefusal (Keeps (rules ++ n ∷ []) (BreaksTextRule model main) d) (rule_told x)
  later_refusal rules n (Rule r p) below h = later_answer rules n (Err (Rule r p)) (Rule r p) below refl h
  later_refusal rules n (Limit c) below h = later_answer rules n (Err (Limit c)) (Limit c) below refl h
  later_refusal rules n Memory below h = tt

  pub refused_later : (x : RuleFault)
      → IsRefusal (Keeps (1 ∷ 2 ∷ 3 ∷ []) (BreaksTextRule model main) d) (rule_told x)
      → IsRefusal (Keeps (1 ∷ 2 ∷ 3 ∷ 4 ∷ []) (BreaksTextRule model main) d) (rule_told x)
  refused_later x = later_refusal (1 ∷ 2 ∷ 3 ∷ []) 4 x
      (each_of (λ r. r < 4) 1 _ (omega arith) (each_of (λ r. r < 4) 2 _ (omega arith)
      (each_of (λ r. r < 4) 3 _ (omega arith) (each_of_none (λ r. r < 4)))))

  -- and one of the table
  table_answer : (a : Result Declared RuleFault) (x : RuleFault) → IsDeclared model d → a ≡ Err x
      → Keeps text_rules (BreaksTextRule model main) d a → Tabulates main model (Err x)
  table_answer a x i e (kept k) = absurd (cc)
  table_answer a x i e (broken {r = r} {p = p} b) = subst (λ (y : RuleFault). Tabulates main model (Err y))
      (let s : Rule r p ≡ x = cc in s) (breach d i b)

  table_refusal : (x : RuleFault) → IsDeclared model d
      → IsRefusal (Keeps text_rules (BreaksTextRule model main) d) (rule_told x)
      → IsRefusal (Tabulates main model) (rule_told x)
  table_refusal (Rule r p) i h = table_answer (Err (Rule r p)) (Rule r p) i refl h
  table_refusal (Limit c) i h = table_answer (Err (Limit c)) (Limit c) i refl h
  table_refusal Memory i h = tt

  pub refused_table : (x : RuleFault) → IsDeclared model d
      → IsRefusal (Keeps (1 ∷ 2 ∷ 3 ∷ 4 ∷ []) (BreaksTextRule model main) d) (rule_told x)
      → IsRefusal (Tabulates main model) (rule_told x)
  refused_table x i h = table_refusal x i (later_refusal (1 ∷ 2 ∷ 3 ∷ 4 ∷ []) 5 x
      (each_of (λ r. r < 5) 1 _ (omega arith) (each_of (λ r. r < 5) 2 _ (omega arith)
      (each_of (λ r. r < 5) 3 _ (omega arith) (each_of (λ r. r < 5) 4 _ (omega arith) (each_of_none (λ r. r < 5)))))) h)

  -- members can be listed in an order
  pub can_list : (rows : List (Vec ℕ Global)) (order : List ℕ) → IsDeclared model d
      → AreKept (1 ∷ 2 ∷ 3 ∷ []) (BreaksTextRule model main d) → AreInnerBodies d rows → IsBodyOrder rows order → CanList d order
  can_list rows order i k inside o = record {
    complete = is_complete i (λ p b. k.kept 3 p (one_rest 1 _ 3 (one_rest 2 _ 3 (one_first 3 []))) (l3 b)) rows order
        inside o;
    classes = classes_named d (λ p b. k.kept 2 p (one_rest 1 _ 2 (one_first 2 (3 ∷ []))) (l2 b));
  }

  -- without a main block
  pub refuses5 : IsDeclared model d → AreKept (1 ∷ 2 ∷ 3 ∷ 4 ∷ []) (BreaksTextRule model main d)
      → ((b : ℕ) → IsMain model.names d main b → ⊥) → Tabulates main model (Err (Rule 5 model.end))
  refuses5 i k n = breach d i
      (broken_at (BreaksTextRule model main d) (1 ∷ 2 ∷ 3 ∷ 4 ∷ []) [] 5 model.end (each_of_none (λ s. 5 < s)) k
      (there (l5 (record { no_main = n; place = refl }))
      (λ q e b. let h = is_l5 model main d q b in not_before q model.end e h.place)))

  -- with one
  pub gives : (c : Classes) → AreKept (1 ∷ 2 ∷ 3 ∷ 4 ∷ []) (BreaksTextRule model main d)
      → IsTableOfModel model main d c → Tabulates main model (Ok c)
  gives c k t = table d t (passes_test (1 ∷ 2 ∷ 3 ∷ 4 ∷ []) 5 None refl k
      (nowhere (λ q b. let h = is_l5 model main d q b in h.no_main c.main.n t.is_main)))

module _ (model : Model) (p : Parts) (h : AreParts model.items.items p) where
  -- the parts declare what the model declares
  pub declares : IsDeclared model (declared_of model.items.items p h)
  unfolding declared_of
  declares = record { symbols = h.symbols; items = h.lays }

  pub types_parts : Along (IsNamedType (declared_of model.items.items p h).symbols) p.types.items
      (declared_of model.items.items p h).types
  unfolding declared_of
  types_parts = h.as_types

  pub bodies_parts : Along IsBodyOf p.bodies.items (declared_of model.items.items p h).bodies
  unfolding declared_of
  bodies_parts = h.as_text

  pub shows_parts : (k : TypeKinds) → KnowsTypes (declared_of model.items.items p h) k
      → Shows (declared_of model.items.items p h) p.bodies.items k
  shows_parts k n = record { as_text = bodies_parts; known = n }

  pub blocks_parts : map (λ (b : BodyId). b.n) p.blocks.items ≡ (declared_of model.items.items p h).blocks
  unfolding declared_of
  blocks_parts = refl

  pub keeps_parts : AreAsDeclared model (declared_of model.items.items p h) p.bodies.items p.types.items
  keeps_parts = record { declared = declares; as_text = bodies_parts; as_types = types_parts }

  -- the table
  pub table_of : (main : Option (List ℕ)) (c : Classes) → c.names ≡ model.names → c.types.items ≡ p.types.items
      → c.symbols.items ≡ p.symbols.items → AreMembersListed (declared_of model.items.items p h) c.bodies.items
      → IsMain model.names (declared_of model.items.items p h) main c.main.n
      → IsTableOfModel model main (declared_of model.items.items p h) c
  unfolding declared_of
  table_of main c n t s l m = record {
    declared = declares;
    names = n;
    holds = record {
      bodies = l.as_text;
      types = subst (λ (ts : List (NameId × TypeBody)). Along (IsNamedType (map (λ (x : NameId). x.n) p.symbols.items))
          ts h.types) (sym t) h.as_types;
      symbols = ap (map (λ (x : NameId). x.n)) s;
    };
    is_main = m;
    members = l.members;
  }

module _ (items : List Item) where
  -- the items taken apart
  apart_refused : (p : Parts) (f : Option Place) (x : RuleFault) → AreParts items p → IsEarliest (BreaksItems items) f
      → (q : Place) × (f ≡ Some q) × (x ≡ Rule 1 q) → IsRefusal (TakesApart items) (rule_told x)
  apart_refused p f x a h w = subst (λ (y : RuleFault). IsRefusal (TakesApart items) (rule_told y)) (sym w.2)
      (wrong {p = p} a (subst (IsEarliest (BreaksItems items)) w.1 h))

  pub refuses1 : (p : Parts) (f : Option Place) (x : RuleFault) → AreParts items p → IsEarliest (BreaksItems items) f
      → Err x ≡ kept_rule 1 f → IsRefusal (TakesApart items) (rule_told x)
  refuses1 p f x a h e = apart_refused p f x a h (kept_err 1 f x e)

  pub passes1 : (p : Parts) (f : Option Place) (x : Unit {0}) → AreParts items p → IsEarliest (BreaksItems items) f
      → Ok x ≡ kept_rule 1 f → Meets {X = Parts} TakesApart (λ q answer. answer ≡ q) items (Ok p)
  passes1 p f x a h e = (p, parts a (subst (IsEarliest (BreaksItems items)) (kept_ok 1 f x e) h), refl)

  apart_parts : (p : Parts) → TakesApart items (Ok p) → AreParts items p
  apart_parts p (parts a h) = a

  apart_kept : (p : Parts) → TakesApart items (Ok p) → IsEarliest (BreaksItems items) None
  apart_kept p (parts a h) = h

  pub given_parts : (p : Parts) → Meets {X = Parts} TakesApart (λ q answer. answer ≡ q) items (Ok p)
      → AreParts items p
  given_parts p h = subst (AreParts items) (sym h.2) (apart_parts h.0 h.1)

  pub given_kept : (p : Parts) → Meets {X = Parts} TakesApart (λ q answer. answer ≡ q) items (Ok p)
      → IsEarliest (BreaksItems items) None
  given_kept p h = apart_kept h.0 h.1

module _ (model : Model) (main : Option (List ℕ)) where
  -- items that are refused
  apart_answer : (a : Result Parts RuleFault) (x : RuleFault) → a ≡ Err x → TakesApart model.items.items a
      → Tabulates main model (Err x)
  apart_answer a x e (parts h k) = absurd (cc)
  apart_answer a x e (wrong {p = p} {at = at} h k) = subst (λ (y : RuleFault). Tabulates main model (Err y))
      (let s : Rule 1 at ≡ x = cc in s)
      (breach (declared_of model.items.items p h) (declares model p h)
      (first_broken model main (declared_of model.items.items p h) at k))

  pub refused_apart : (x : RuleFault) → IsRefusal (TakesApart model.items.items) (rule_told x)
      → IsRefusal (Tabulates main model) (rule_told x)
  refused_apart (Rule r p) h = apart_answer (Err (Rule r p)) (Rule r p) refl h
  refused_apart (Limit c) h = apart_answer (Err (Limit c)) (Limit c) refl h
  refused_apart Memory h = tt

-- bodies and types as declared, with the kinds of the types
pub shows_kept : (model : Model) (d : Declared) (bodies : List Body) (types : List (NameId × TypeBody))
    → AreAsDeclared model d bodies types → (k : TypeKinds) → KnowsTypes d k → Shows d bodies k
shows_kept model d bodies types h k n = record { as_text = h.as_text; known = n }

-- an answer by its equation
pub meets_err : {A B X : Type 0} (stage : A → Result B RuleFault → Type 0) (stands : B → X → Type 0) (a : A)
    (r : Result X RuleFault) (x : RuleFault) → r ≡ Err x → IsRefusal (stage a) (rule_told x) → Meets stage stands a r
meets_err {X = X} stage stands a r x e t = subst (λ (z : Result X RuleFault). Meets stage stands a z) (sym e) t

pub meets_ok : (model : Model) (main : Option (List ℕ)) (c : Classes) → Tabulates main model (Ok c)
    → Meets {X = Classes} (Tabulates main) (λ c answer. answer ≡ c) model (Ok c)
meets_ok model main c t = (c, t, refl)

-- the main block that is missing
pub lacks : {P : Type 0} (o : Option BodyId) → o ≡ None → IfNone o P → P
lacks None e h = h
lacks (Some b) e h = absurd (cc)
