-- A flat system is an image, and so is a copy of it.
use Rattle.std.proofs.Common.{◌≡◌, ℕ, Bool, List, sym, ◌∙◌, subst}
use Rattle.ar_base.specs.Lists.{Stands, Along}
use Rattle.ar_base.proofs.Standing.{stands_one}
use Rattle.typed_expr.specs.PairsInside.{turned_pairs}
use Rattle.ar_meaning.specs.Systems.{Variable, Transition, Net, System}
use Rattle.ar_meaning.specs.FactsInside.{AreKeyed, AreNumberedVariables}
use Rattle.ar_meaning.specs.Expand.{EventDeclaration, Member}
use Rattle.ar_meaning.specs.ExpandImage.{Part_renames, transitions, synchronise, Declared_renames}
use Rattle.ar_meaning.specs.ExpandImageInside.{Member_renames}
use Rattle.ar_meaning.specs.ImageInside.{IsNetImage, IsImage}
use Rattle.ar_meaning.specs.TraceText.{Naming}
use Rattle.ar_meaning.specs.FlatOf.{IsNumber, IsFlatOf}
use Rattle.ar_meaning.specs.FlatOfInside.{AreFlatOf, NameAlike}
use Rattle.ar_meaning.proofs.ImageTurned.{net_turned, image_turned}
use Rattle.ar_meaning.proofs.ImageFlows.{partner}
use Rattle.ar_meaning.proofs.ImageJoined.{along_joined, assign_joined, variable_joined, transition_joined, event_joined, observer_joined}

pub flat_image : {V : Type 0} (things : List V) (sys : System V) (flat : System ℕ) → IsFlatOf things sys flat
    → IsImage (IsNumber things) sys flat
flat_image things sys flat f = record {
  net = record {
    variables = f.variables;
    assertions = f.assertions;
    one = λ x m n r s. f.different.one m n x r s;
    one_back = λ x y n r s. stands_one things n x y r s;
  };
  events = f.events;
  observers = f.observers;
}

pub flat_back : {V : Type 0} (things : List V) (sys : System V) (flat : System ℕ) → IsFlatOf things sys flat
    → IsImage (turned_pairs (IsNumber things)) flat sys
flat_back things sys flat f = image_turned (IsNumber things) (flat_image things sys flat f)

pub names_back : (a b : Naming) → NameAlike a b → NameAlike b a
names_back a b h = record {
  variables = λ n. sym (h.variables n);
  events = λ n. sym (h.events n);
  observers = λ n. sym (h.observers n);
  symbols = λ n. sym (h.symbols n);
  places = λ n. sym (h.places n);
}

-- where no two variables here have one key, no two there have
pub keyed_there : {V W : Type 0} (same : V → W → Type 0) (here : Net V) (there : Net W) → IsNetImage same here there
    → AreKeyed here → AreKeyed there
keyed_there same here there image k =
    let back = net_turned same image in
    record {
      one = λ m n x y s r i.
          let p = partner back.variables m x s in
          let q = partner back.variables n y r in
          k.one m n p.item q.item p.stands q.stands
          (image.one_back p.item.key q.item.key y.key (subst (λ z. same p.item.key z) i p.related.key) q.related.key);
    }

-- where each key stands at its variable's place, each number is that of its variable
pub numbers_there : {V : Type 0} (things : List V) (sys : System V) (flat : System ℕ) → IsFlatOf things sys flat
    → ((n : ℕ) (x : Variable V) → Stands sys.net.variables n x → Stands things n x.key) → AreNumberedVariables flat.net
numbers_there things sys flat f k = record {
  key = λ n y s.
      let p = partner (flat_back things sys flat f).net.variables n y s in
      f.different.one y.key n p.item.key p.related.key (k n p.item p.stands);
}

pub numbers_back : {V : Type 0} (things : List V) (sys : System V) (flat : System ℕ) → IsFlatOf things sys flat
    → AreNumberedVariables flat.net → (n : ℕ) (x : Variable V) → Stands sys.net.variables n x → Stands things n x.key
numbers_back things sys flat f k n x s =
    let p = partner f.variables n x s in
    subst (λ m. Stands things m x.key) (k.key n p.item p.stands) p.related.key

-- the number in a copy
module _ {A : Type 0} (things : List A) where
  pub by_copy : (x : A) (m n : ℕ) → IsNumber things x m → m ≡ n → IsNumber things x n
  by_copy x m n s e = subst (λ z. Stands things z x) e s

pub copied_system : {V : Type 0} (things : List V) (sys : System V) (flat other : System ℕ) → IsFlatOf things sys flat
    → IsImage (λ m n. m ≡ n) flat other → IsFlatOf things sys other
copied_system things sys flat other f k =
    let second : ℕ → ℕ → Type 0 = λ m n. m ≡ n in
    record {
      different = f.different;
      variables =
          along_joined
          (variable_joined (IsNumber things) second (IsNumber things) (by_copy things)) f.variables k.net.variables;
      assertions =
          along_joined
          (assign_joined (IsNumber things) second (IsNumber things) (by_copy things)) f.assertions k.net.assertions;
      events =
          along_joined (event_joined (IsNumber things) second (IsNumber things) (by_copy things)) f.events k.events;
      observers =
          along_joined
          (observer_joined (IsNumber things) second (IsNumber things) (by_copy things)) f.observers k.observers;
    }

module _ {V E : Type 0} (things : List V) (keys : List E) where
  part_copied : (p : Bool × E) (q r : Bool × ℕ) → Part_renames (IsNumber keys) p q → Part_renames (λ m n. m ≡ n) q r
      → Part_renames (IsNumber keys) p r
  part_copied p q r a b = record { must = a.must ∙ b.must; key = by_copy keys p.1 q.1 r.1 a.key b.key }

  member_copied : (a : Member (Transition V) E) (b c : Member (Transition ℕ) ℕ)
      → Member_renames (IsNumber things) (IsNumber keys) a b → Member_renames (λ m n. m ≡ n) (λ m n. m ≡ n) b c
      → Member_renames (IsNumber things) (IsNumber keys) a c
  member_copied a b c (transitions {d = d} {e = e} p) (transitions {e = f} q) =
      transitions (transition_joined (IsNumber things) (λ m n. m ≡ n) (IsNumber things) (by_copy things) d e f p q)
  member_copied a b c (synchronise p) (synchronise q) = synchronise (along_joined part_copied p q)

  declared_copied : (d : EventDeclaration (Transition V) E) (e f : EventDeclaration (Transition ℕ) ℕ)
      → Declared_renames (IsNumber things) (IsNumber keys) d e → Declared_renames (λ m n. m ≡ n) (λ m n. m ≡ n) e f
      → Declared_renames (IsNumber things) (IsNumber keys) d f
  declared_copied d e f p q = record {
    key = by_copy keys d.key e.key f.key p.key q.key;
    unit = p.unit ∙ q.unit;
    hidden = p.hidden ∙ q.hidden;
    members = along_joined member_copied p.members q.members;
  }

  pub copied_events : (ds : List (EventDeclaration (Transition V) E)) (es fs : List (EventDeclaration (Transition ℕ) ℕ))
      → AreFlatOf things keys ds es → Along (Declared_renames (λ m n. m ≡ n) (λ m n. m ≡ n)) es fs
      → AreFlatOf things keys ds fs
  copied_events ds es fs f k = record { different = f.different; events = along_joined declared_copied f.events k }
