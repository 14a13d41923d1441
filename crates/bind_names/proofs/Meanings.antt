-- What the lists of bound forms mean, with numbers for things.
use Rattle.std.proofs.Common.{◌≡◌, ℕ, suc, ◌+◌, List, [], ◌∷◌, map, refl, sym, subst, arith}
use Rattle.ar_base.specs.Lists.{Stands, Along, none, one_and}
use Rattle.typed_expr.specs.declared.expr.Expr.{Expr}
use Rattle.ar_meaning.specs.Systems as s
use Rattle.ar_meaning.specs.Expand.{EventDeclaration}
use Rattle.ar_meaning.specs.ExpandImage.{Declared_renames}
use Rattle.ar_meaning.specs.Image.{Variable_renames, Expr_renames}
use Rattle.gts_core.specs.Bound.{declared_from}
use Rattle.gts_core.specs.View.{numbered, variables_from}
use Rattle.gts_core.specs.declared.bound.DeclaredEvent.{DeclaredEvent}
use Rattle.gts_core.specs.declared.system.Observer.{Observer}
use Rattle.gts_core.specs.declared.system.Variable.{Variable}
use Rattle.hierarchy.specs.Models.{RootedModel}
use Rattle.hierarchy.specs.Units.{UnitPath, Thing}
use Rattle.hierarchy.specs.Listing.{variables, events}
use Rattle.hierarchy.specs.declared.tree.Tree.{Tree}
use Rattle.source_meaning.specs.Systems.{IsVariable, IsEvent, IsObserver}
use Rattle.bind_names.specs.Bound.{IsBoundEvent}
use Rattle.bind_names.specs.ListBound.{IsBoundVariable, IsBoundObserver}

-- Lists item by item

pub along_each : {A B : Type 0} {R S : A → B → Type 0} {xs : List A} {ys : List B} → ((a : A) (b : B) → R a b → S a b)
    → Along R xs ys → Along S xs ys
along_each f none = none
along_each f (one_and {a = a} {b = b} h hs) = one_and (f a b h) (along_each f hs)

pub along_same : {A B C : Type 0} {R : A → B → Type 0} (f : A → C) (g : B → C) {xs : List A} {ys : List B}
    → ((a : A) (b : B) → R a b → g b ≡ f a) → Along R xs ys → map g ys ≡ map f xs
along_same f g e none = refl
along_same f g e (one_and {a = a} {b = b} {xs = xs} {ys = ys} h hs) =
    let head = e a b h in
    let tail = along_same f g {xs = xs} {ys = ys} e hs in
    cc

-- these items stand in the list from place n on
pub record StandFrom {A : Type 0} (all : List A) (n : ℕ) (xs : List A) : Type 0 where
  pub stand : (k : ℕ) (a : A) → Stands xs k a → Stands all (n + k) a

module _ {A : Type 0} (all : List A) where
  pub stand_whole : StandFrom all 0 all
  stand_whole = record {
    stand = λ k a p. let e : 0 + k ≡ k = omega arith in subst (λ (j : ℕ). Stands all j a) (sym e) p;
  }

  stand_first : (n : ℕ) (x : A) (xs : List A) → StandFrom all n (x ∷ xs) → Stands all n x
  stand_first n x xs f = let e : n + 0 ≡ n = omega arith in subst (λ (j : ℕ). Stands all j x) e (f.stand 0 x refl)

  stand_rest : (n : ℕ) (x : A) (xs : List A) → StandFrom all n (x ∷ xs) → StandFrom all (n + 1) xs
  stand_rest n x xs f = record {
    stand = λ k a p.
        let e : n + suc k ≡ (n + 1) + k = omega arith in
        subst (λ (j : ℕ). Stands all j a) e (f.stand (suc k) a p);
  }

module _ (m : RootedModel) (units : List UnitPath) where
  -- the number stands for the variable, and for the event
  abbrev variable_number : Thing → ℕ → Type 0
  variable_number t n = Stands (variables m units) n t

  abbrev event_number : Thing → ℕ → Type 0
  event_number t n = Stands (events m units) n t

  -- Variables

  -- what variables mean, where they are numbered from n on
  pub record MeantVariables (n : ℕ) (ts : List Thing) (xs : List Variable) : Type 0 where
    pub meanings : List (s.Variable Thing)
    pub are : Along (IsVariable m units) ts meanings
    pub numbers : Along (Variable_renames variable_number) meanings (variables_from n xs)

  pub meant_variables : (n : ℕ) (ts : List Thing) (xs : List Variable) → StandFrom (variables m units) n ts
      → Along (IsBoundVariable m units) ts xs → MeantVariables n ts xs
  meant_variables n [] [] f none = record { meanings = []; are = none; numbers = none }
  meant_variables n [] (x ∷ xs) f h = elim h [ ]
  meant_variables n (t ∷ ts) [] f h = elim h [ ]
  meant_variables n (t ∷ ts) (x ∷ xs) f (one_and h hs) =
      let k = meant_variables (n + 1) ts xs (stand_rest (variables m units) n t ts f) hs in
      let key : variable_number h.meaning.key n =
      subst (λ (z : Thing). variable_number z n) (sym h.is.key) (stand_first (variables m units) n t ts f) in
      record {
        meanings = h.meaning ∷ k.meanings;
        are = one_and h.is k.are;
        numbers = one_and (record { key = key; unit = h.unit; domain = h.domain; is_state = h.state; value = h.value })
            k.numbers;
      }

  module _ (tree : Tree) where
    -- Events

    -- what events mean, where they are numbered from n on
    pub record MeantEvents (n : ℕ) (ts : List Thing) (es : List DeclaredEvent) : Type 0 where
      pub meanings : List (EventDeclaration (s.Transition Thing) Thing)
      pub are : Along (IsEvent m units) ts meanings
      pub numbers : Along (Declared_renames variable_number event_number) meanings (declared_from n es)

    pub meant_events : (n : ℕ) (ts : List Thing) (es : List DeclaredEvent) → StandFrom (events m units) n ts
        → Along (IsBoundEvent m units tree) ts es → MeantEvents n ts es
    meant_events n [] [] f none = record { meanings = []; are = none; numbers = none }
    meant_events n [] (e ∷ es) f h = elim h [ ]
    meant_events n (t ∷ ts) [] f h = elim h [ ]
    meant_events n (t ∷ ts) (e ∷ es) f (one_and h hs) =
        let k = meant_events (n + 1) ts es (stand_rest (events m units) n t ts f) hs in
        let key : event_number h.meaning.key n =
        subst (λ (z : Thing). event_number z n) (sym h.is.key) (stand_first (events m units) n t ts f) in
        record {
          meanings = h.meaning ∷ k.meanings;
          are = one_and h.is k.are;
          numbers = one_and (record { key = key; unit = h.unit; hidden = h.hidden; members = h.members }) k.numbers;
        }

    -- Observers

    -- what observers mean
    pub record MeantObservers (ts : List Thing) (os : List Observer) : Type 0 where
      pub meanings : List (Expr Thing)
      pub are : Along (IsObserver m) ts meanings
      pub numbers : Along (λ (e : Expr Thing) (o : Observer). Expr_renames variable_number e (numbered o.value))
          meanings os

    pub meant_observers : (ts : List Thing) (os : List Observer) → Along (IsBoundObserver m units tree) ts os
        → MeantObservers ts os
    meant_observers [] [] none = record { meanings = []; are = none; numbers = none }
    meant_observers [] (o ∷ os) h = elim h [ ]
    meant_observers (t ∷ ts) [] h = elim h [ ]
    meant_observers (t ∷ ts) (o ∷ os) (one_and h hs) =
        let k = meant_observers ts os hs in
        record { meanings = h.meaning ∷ k.meanings; are = one_and h.is k.are; numbers = one_and h.numbers k.numbers }
