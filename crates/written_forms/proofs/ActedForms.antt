-- What written instructions become, form by form.
use Rattle.std.proofs.Common.{◌≡◌, ℕ, ◌+◌, ◌<◌, List, [], ◌∷◌, ◌++◌, take, length, get_or, Some, None, Vec, Box, Global, sym, ap, ◌∙◌, subst}
use Rattle.ar_base.specs.Numbers.{VarId}
use Rattle.ar_base.specs.declared.places.Place.{Place}
use Rattle.ar_syntax.specs.declared.expressions.RawExpr.{RawExpr}
use Rattle.ar_syntax.specs.declared.instructions.Instr.{Instr, out-Instr}
use Rattle.ar_syntax.specs.declared.instructions.Instr.TheOpen as instr
use Rattle.ar_syntax.specs.declared.paths.Path.{Path}
use Rattle.typed_expr.specs.declared.expr.Expr.{Expr}
use Rattle.gts_core.specs.declared.bound.Act.{Act, Skip, Set, out-Act, roll-Act, out-roll-Act}
use Rattle.gts_core.specs.declared.bound.Act.TheOpen as act
use Rattle.gts_core.specs.declared.bound.Act.TheViews.{All, outs-All}
use Rattle.class_table.proofs.Taken.{take_item}
use Rattle.written_forms.specs.declared.naming.Leaf.{Leaf}
use Rattle.written_forms.specs.Parts.{InstrForm}
use Rattle.written_forms.specs.Acting.{ActsAs, All_act, IsConditional}
use Rattle.written_forms.specs.Acting as acts

pub opened_skip : out-Act Skip ≡ act.Skip
unfolding roll-Act out-Act denote.Hole.Carrier.roll
opened_skip = out-roll-Act act.Skip

pub opened_set : (x : VarId) (e : Expr VarId) (p : Place) → out-Act (Set x e p) ≡ act.Set x e p
unfolding roll-Act out-Act denote.Hole.Carrier.roll
opened_set x e p = out-roll-Act (act.Set x e p)

module _ (leaves : Path → Leaf) where
  pub moved : (i : Instr) (l : InstrForm) (a : Act) → out-Instr i ≡ l → ActsAs leaves l a → ActsAs leaves (out-Instr i) a
  moved i l a e h = subst (λ (z : InstrForm). ActsAs leaves z a) (sym e) h

  pub skip_acted : (i : Instr) → out-Instr i ≡ instr.Skip → ActsAs leaves (out-Instr i) Skip
  skip_acted i e = moved i instr.Skip Skip e (acts.skip opened_skip)

  pub if_acted : (i : Instr) (r : RawExpr) (x : Box Instr Global) (b a : Act) → out-Instr i ≡ instr.If r x None
      → ActsAs leaves (out-Instr x.value) b → IsConditional leaves r b Skip a → ActsAs leaves (out-Instr i) a
  if_acted i r x b a q k c = moved i (instr.If r x None) a q
      (acts.conditional c.bound c.here c.there c.becomes c.is
      (subst (λ (z : Act). ActsAs leaves (out-Instr x.value) z) (sym c.is_first) k)
      (acts.no_branch (ap out-Act c.is_second ∙ opened_skip)))

  pub if_else_acted : (i : Instr) (r : RawExpr) (x y : Box Instr Global) (b d a : Act)
      → out-Instr i ≡ instr.If r x (Some y)
      → ActsAs leaves (out-Instr x.value) b → ActsAs leaves (out-Instr y.value) d → IsConditional leaves r b d a
      → ActsAs leaves (out-Instr i) a
  if_else_acted i r x y b d a q k m c = moved i (instr.If r x (Some y)) a q
      (acts.conditional c.bound c.here c.there c.becomes c.is
      (subst (λ (z : Act). ActsAs leaves (out-Instr x.value) z) (sym c.is_first) k)
      (acts.branch (subst (λ (z : Act). ActsAs leaves (out-Instr y.value) z) (sym c.is_second) m)))

  pub all_acted : (i : Instr) (is : Vec Instr Global) (v : Vec Act Global) → out-Instr i ≡ instr.All is
      → All_act leaves is.items v.items → ActsAs leaves (out-Instr i) (All v)
  all_acted i is v q h = moved i (instr.All is) (All v) q (acts.all v (outs-All v) h)

  all_more : (i : Instr) (a : Act) {is : List Instr} {v : List Act} → All_act leaves is v
      → ActsAs leaves (out-Instr i) a → All_act leaves (is ++ i ∷ []) (v ++ a ∷ [])
  all_more i a acts.none h = acts.one_and h acts.none
  all_more i a (acts.one_and k ks) h = acts.one_and k (all_more i a ks h)

  pub all_next : (is : List Instr) (n : ℕ) (i : Instr) (a : Act) (v w : List Act) → n < length is → i ≡ get_or is n i
      → All_act leaves (take n is) v → ActsAs leaves (out-Instr i) a
      → w ≡ v ++ a ∷ [] → All_act leaves (take (n + 1) is) w
  all_next is n i a v w h e k c j =
      subst (λ (z : List Act). All_act leaves (take (n + 1) is) z) (sym j)
      (subst (λ (z : List Instr). All_act leaves z (v ++ a ∷ [])) (sym (take_item is n i h e)) (all_more i a k c))

  pub all_start : (v : List Act) → v ≡ [] → All_act leaves [] v
  all_start v j = subst (λ (z : List Act). All_act leaves [] z) (sym j) acts.none
