-- Variables by numbers.
use Rattle.std.proofs.Common.{◌≡◌, ℕ, ◌+◌, ◌<◌, ◌≤◌, false, List, [], ◌∷◌, ◌++◌, take, length, Option, Some, option_map, unwrap_or, refl, sym, ◌∙◌, ap, subst, arith}
use Rattle.ar_base.specs.Lists.{Stands, Along}
use Rattle.ar_base.specs.Lists as l
use Rattle.ar_base.proofs.Standing.{along_on, along_length, stands_one, stands_within}
use Rattle.ar_base.specs.NumbersInside.{UnitId}
use Rattle.domains.specs.Domains.{Holds, values_of}
use Rattle.domains.specs.declared.Value.{Value}
use Rattle.domains.specs.declared.Value.TheVariants.{Truth}
use Rattle.gts_core.specs.Readings.{valuation_at}
use Rattle.domains.specs.SameInside.{IsSameDomain}
use Rattle.gts_core.specs.declared.system.Variable.{Variable}
use Rattle.gts_core.proofs.SameDomains.{domain_there, value_there, value_back, same_values}
use Rattle.class_table.specs.Members.{NamedMember, MemberKind}
use Rattle.hierarchy.specs.Models.{RootedModel}
use Rattle.hierarchy.specs.Units.{UnitPath, Thing}
use Rattle.hierarchy.specs.Listing.{variables}
use Rattle.hierarchy.specs.Paths.{thing_path}
use Rattle.hierarchy.specs.Tie.{IsTreeOf, IsVariableNode}
use Rattle.hierarchy.specs.declared.tree.Tree.{Tree}
use Rattle.hierarchy.specs.declared.tree.VarNode.{VarNode}
use Rattle.bind_names.specs.Values.{IsValue}
use Rattle.bind_names.proofs.ValuesRight.{along_next, along_end}
use Rattle.bind_names.specs.ListBound.{IsBoundVariable, IsSoundVariable, AreBoundVariables}
use Rattle.bind_names.proofs.DomainsKept.{domain_kept, domain_symbols}

-- the variable has what its node has
pub record IsOfNode (d : VarNode) (x : Variable) : Type 0 where
  pub unit : x.unit ≡ d.node.unit
  pub domain : IsSameDomain d.domain x.domain
  pub state : x.is_state ≡ d.is_state

module _ (m : RootedModel) (units : List UnitPath) (t : Thing) (d : VarNode) (is : IsVariableNode m units t d) (x : Variable) (of : IsOfNode d x) where
  -- it is the variable of the thing
  pub bound_variable : IsValue m t x.value → x.path ≡ thing_path m t → IsBoundVariable m units t x
  bound_variable value path = record {
    meaning = record {
      key = t;
      unit = d.node.unit.n;
      domain = values_of d.domain;
      is_state = d.is_state;
      value = x.value;
    };
    is = record {
      key = refl;
      unit = is.node.unit;
      type = is.type;
      settings = is.settings;
      is = ap (λ (o : Option NamedMember). option_map (λ (z : NamedMember). z.kind) o) is.node.is
          ∙ ap (λ (z : MemberKind). Some z) is.is;
      domain = d.domain;
      has_domain = is.domain;
      values = refl;
      state = is.state;
      value = value.value;
    };
    unit = ap (λ (u : UnitId). u.n) (sym of.unit);
    domain = same_values of.domain;
    state = sym of.state;
    value = refl;
    path = path;
  }

  -- and sound over the tree
  pub sound_variable : (tree : Tree) → IsTreeOf m units tree → Holds d.domain x.value → IsSoundVariable tree d x
  sound_variable tree tied held = record {
    unit = subst (λ (u : UnitId). u.n < length tree.units.items) (sym of.unit) inside;
    domain = of.domain;
    state = of.state;
    is_domain = domain_there of.domain (domain_kept tied.table.kept is.domain x.value held);
    symbols = λ v h. domain_symbols m.declared tree tied.table.table.holds is.domain v (value_back of.domain v h);
    value = value_there of.domain x.value held;
  }
    where
      inside : d.node.unit.n < length tree.units.items
      inside = let w = along_on units tree.units.items tied.units_are d.node.unit.n t.unit is.node.unit in stands_within tree.units.items d.node.unit.n w.0 w.1

-- the variables of the first n nodes
pub record AreFirst (m : RootedModel) (units : List UnitPath) (tree : Tree) (n : ℕ) (xs : List Variable) : Type 0 where
  pub are : Along (IsBoundVariable m units) (take n (variables m units)) xs
  pub sound : Along (IsSoundVariable tree) (take n tree.variables.items) xs

module _ (m : RootedModel) (units : List UnitPath) (tree : Tree) (tied : IsTreeOf m units tree) where
  pub first_none : (xs : List Variable) → xs ≡ [] → AreFirst m units tree 0 xs
  first_none xs e = record {
    are = subst (λ (ys : List Variable). Along (IsBoundVariable m units) [] ys) (sym e) l.none;
    sound = subst (λ (ys : List Variable). Along (IsSoundVariable tree) [] ys) (sym e) l.none;
  }

  -- one variable more
  pub first_next : (n : ℕ) (t : Thing) (d : VarNode) (x : Variable) (xs ys : List Variable)
      → Stands (variables m units) n t → Stands tree.variables.items n d → AreFirst m units tree n xs
      → IsBoundVariable m units t x → IsSoundVariable tree d x → ys ≡ xs ++ x ∷ [] → AreFirst m units tree (n + 1) ys
  first_next n t d x xs ys s r h bound sound e = record {
    are = subst (λ (zs : List Variable). Along (IsBoundVariable m units) (take (n + 1) (variables m units)) zs) (sym e)
        (along_next (variables m units) n t xs x s bound h.are);
    sound = subst (λ (zs : List Variable). Along (IsSoundVariable tree) (take (n + 1) tree.variables.items) zs) (sym e)
        (along_next tree.variables.items n d xs x r sound h.sound);
  }

  -- all variables
  pub first_all : (n : ℕ) (xs : List Variable) → length tree.variables.items ≤ n → AreFirst m units tree n xs
      → AreBoundVariables m units tree xs
  first_all n xs past h = record {
    are = along_end (variables m units) n xs
        (omega (arith, past, along_length (variables m units) tree.variables.items tied.variables_are)) h.are;
    sound = along_end tree.variables.items n xs past h.sound;
  }

-- a value that stands in a list is the one that is looked up
pub value_found : (vs : List Value) (n : ℕ) (v : Value) → Stands vs n v → valuation_at vs n ≡ v
value_found vs n v s = ap (λ (o : Option Value). unwrap_or o (Truth false)) s

-- two lists that go along have their items at the same places in common
pub along_at : {A B : Type 0} {R : A → B → Type 0} (xs : List A) (ys : List B) → Along R xs ys → (n : ℕ) (a : A) (b : B)
    → Stands xs n a → Stands ys n b → R a b
along_at {R = R} xs ys along n a b s r = let w = along_on xs ys along n a s in subst (R a) (stands_one ys n w.0 b w.1 r) w.2
