-- What is typed or sound over the variables and symbols of a tree is so over bound forms of the tree.
use Rattle.std.proofs.Common.{◌≡◌, ℕ, zero, suc, Bool, List, length, slice_get, subst, refl, ◌∙◌, arith}
use Rattle.ar_base.specs.Lists.{Along, none, one_and}
use Rattle.ar_base.specs.Numbers.{VarId}
use Rattle.ar_base.proofs.Standing.{along_on, along_length}
use Rattle.domains.specs.declared.Value.{Value}
use Rattle.domains.specs.declared.Value.TheVariants as value
use Rattle.typed_expr.specs.Kinds.{HasKind}
use Rattle.typed_expr.specs.declared.expr.Expr.{Expr, out-Expr}
use Rattle.typed_expr.specs.declared.expr.ValueKind.{ValueKind}
use Rattle.typed_expr.specs.declared.expr.ValueKind.TheVariants as kind
use Rattle.gts_core.specs.Sound.{kind_of_domain, kind_of_found, variable_kind_at, IsNamedValue, IsTyped, IsVariableOf}
use Rattle.gts_core.specs.declared.bound.Act.{Act}
use Rattle.gts_core.specs.declared.bound.Act.TheOpen.{Act-F}
use Rattle.gts_core.specs.declared.system.GtsParts.{GtsParts}
use Rattle.gts_core.specs.declared.system.Variable.{Variable}
use Rattle.gts_core.proofs.SameDomains.{domain_kind}
use Rattle.hierarchy.specs.declared.tree.Tree.{Tree}
use Rattle.hierarchy.specs.declared.tree.VarNode.{VarNode}
use Rattle.source_meaning.specs.SoundBound.{IsSoundAct}
use Rattle.source_meaning.specs.SoundBound as sound
use Rattle.bind_names.specs.Typed.{kind_of_node, kind_of_number, IsSymbolIn, IsTypedIn, IsSoundIn}
use Rattle.bind_names.specs.Typed as typed
use Rattle.bind_names.specs.ListBound.{IsSoundVariable}

-- the kinds of variables are those of the tree's nodes
found_kind : {tree : Tree} {ds : List VarNode} {xs : List Variable} → Along (IsSoundVariable tree) ds xs → (n : ℕ)
    → kind_of_node (slice_get ds n) ≡ kind_of_found (slice_get xs n)
found_kind none n = refl
found_kind (one_and h hs) zero = domain_kind h.domain
found_kind (one_and h hs) (suc n) = found_kind hs n

-- these parts have the variables and the symbols of the tree, and its units
pub record HasParts (tree : Tree) (p : GtsParts) : Type 0 where
  pub symbols : length p.symbols.items ≡ length tree.classes.symbols.items
  pub units : length p.units.items ≡ length tree.units.items
  pub variables : Along (IsSoundVariable tree) tree.variables.items p.variables.items

module _ (tree : Tree) (p : GtsParts) (has : HasParts tree p) where
  named : (v : Value) → IsSymbolIn tree v → IsNamedValue p v
  named (value.Truth b) h = tt
  named (value.Whole n) h = tt
  named (value.Symbol k) h = let e = has.symbols in omega (arith, h, e)

  -- each variable has the kind of its node
  same_kinds : kind_of_number tree ≡ variable_kind_at p
  same_kinds = λ i x. found_kind has.variables x.n i

  pub typed_there : (e : Expr VarId) (k : ValueKind) → IsTypedIn tree e k → IsTyped p e k
  typed_there e k t = record {
    typed = subst (λ (f : VarId → ValueKind). HasKind f (out-Expr VarId e) k) same_kinds t.typed;
    variables = λ x m.
        let b = t.variables x m in
        let l = along_length tree.variables.items p.variables.items has.variables in
        omega (arith, b, l);
    symbols = λ v h. named v (t.symbols v h);
  }

  pub sound_there : {to_state : Bool} {x : Act-F Act} → IsSoundIn tree to_state x → IsSoundAct p to_state x
  sound_there typed.skip = sound.skip
  sound_there (typed.set {x = x} {e = e} d s is_sort t) =
      let w = along_on tree.variables.items p.variables.items has.variables x.n d s in
      sound.set w.0 w.1 (w.2.state ∙ is_sort)
      (typed_there e (kind_of_domain w.0.domain)
      (subst (λ (k : ValueKind). IsTypedIn tree e k) (domain_kind w.2.domain) t))
  sound_there (typed.conditional {test = test} t first second) =
      sound.conditional (typed_there test kind.Truth t) (sound_there first) (sound_there second)
  sound_there (typed.all each) = sound.all (λ a o. sound_there (each a o))

  -- a variable of the bound forms
  pub variable_sound : (d : VarNode) (x : Variable) → IsSoundVariable tree d x → IsVariableOf p x
  variable_sound d x h = record {
    unit = (let u = h.unit in let e = has.units in omega (arith, u, e));
    domain = h.is_domain;
    names = λ v i. named v (h.symbols v i);
    value = h.value;
  }
