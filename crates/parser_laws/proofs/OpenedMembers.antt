-- Instructions, members and items that agree have forms that agree.
use Rattle.std.proofs.Common.{◌≡◌, ℕ, zero, suc, Box, Global, refl, sym, subst}
use Rattle.std.specs.Prelude.{Option, Some, None}
use Rattle.ar_syntax.specs.declared.expressions.RawExpr.{RawExpr}
use Rattle.ar_syntax.specs.declared.instructions.Instr.{Instr, out-Instr}
use Rattle.ar_syntax.specs.declared.instructions.Instr.TheOpen as instr
use Rattle.ar_syntax.specs.declared.items.DomainBody.{DomainBody}
use Rattle.ar_syntax.specs.declared.items.DomainBody.TheVariants as domain
use Rattle.ar_syntax.specs.declared.items.Item.{Item}
use Rattle.ar_syntax.specs.declared.items.Item.TheVariants as item
use Rattle.ar_syntax.specs.declared.items.Model.{Model}
use Rattle.ar_syntax.specs.declared.members.Member.TheOpen.{Member-F}
use Rattle.ar_syntax.specs.declared.members.Member.{Member, out-Member}
use Rattle.ar_syntax.specs.declared.members.Member.TheOpen as member
use Rattle.ar_syntax.specs.declared.members.Part.{Part}
use Rattle.ar_syntax.specs.declared.members.Setting.{Setting}
use Rattle.ar_syntax.specs.declared.members.Unit.{Unit as UnitTree}
use Rattle.ar_syntax.proofs.Opened as opened
use Rattle.parser_laws.specs.Expressions.{SameExpr, SameOption, SameSteps, SameStepsToDepth, SameInstr}
use Rattle.parser_laws.specs.Expressions as agree
use Rattle.parser_laws.specs.Members.{SameSetting, SamePart, SameUnitBy, SameMemberBy, SameMemberToDepth, SameMember}
use Rattle.parser_laws.specs.Members as agree_member
use Rattle.parser_laws.specs.Models.{SameDomain, symbols, range, SameItem, domains, classes, blocks, SameModel}
use Rattle.parser_laws.specs.Opened.{OpenedInstr, SameStepBy, SameStep, SameKindBy, SameKind}
use Rattle.parser_laws.specs.Opened.{SameBody, SameItemForm, SameModelForm}
use Rattle.parser_laws.proofs.Agreeing.{along_map}
use Rattle.parser_laws.proofs.OpenedForms.{along_self, along_all, path_self, expr_self}

-- Instructions

same_expr : (e : RawExpr) → SameExpr e e
same_expr e d = expr_self d e

step_self : (d : ℕ) (i : Instr) → SameStepsToDepth d i i
step_self zero i = tt
step_self (suc d) i = agree.equal refl

module _ (Same : Instr → Instr → Type 0) (self : (i : Instr) → Same i i) where
  branch_self : (o : Option (Box Instr Global)) → SameOption (λ a b. Same a.value b.value) o o
  branch_self None = tt
  branch_self (Some x) = self x.value

  instr_self : (i : OpenedInstr) → SameStepBy Same i i
  instr_self instr.Skip = tt
  instr_self (instr.Assign p e) = (path_self p, same_expr e)
  instr_self (instr.Tie p q) = (path_self p, path_self q)
  instr_self (instr.If e x o) = (same_expr e, self x.value, branch_self o)
  instr_self (instr.All v) = along_self self v.items

  both_steps : (i j x y : OpenedInstr) → i ≡ x → j ≡ y → SameStepBy Same x y → SameStepBy Same i j
  both_steps i j x y p q s =
      subst (λ (z : OpenedInstr). SameStepBy Same z j) (sym p)
      (subst (λ (z : OpenedInstr). SameStepBy Same x z) (sym q) s)

  steps_forms : (i j : Instr) → SameSteps Same i j → SameStepBy Same (out-Instr i) (out-Instr j)
  steps_forms i j (agree.equal e) =
      subst (λ (h : Instr). SameStepBy Same (out-Instr i) (out-Instr h)) e (instr_self (out-Instr i))
  steps_forms i j (agree.assign p q e f u w s t) =
      both_steps _ _ _ _ (opened.instr-assign i p e u) (opened.instr-assign j q f w) (s, t)
  steps_forms i j (agree.tie p q p' q' u w s t) =
      both_steps _ _ _ _ (opened.instr-tie i p q u) (opened.instr-tie j p' q' w) (s, t)
  steps_forms i j (agree.conditional e f x y o o' u w s t r) =
      both_steps _ _ _ _ (opened.instr-if i e x o u) (opened.instr-if j f y o' w) (s, t, r)
  steps_forms i j (agree.group v w p q s) = both_steps _ _ _ _ (opened.instr-group i v p) (opened.instr-group j w q) s

branches_all : (o u : Option (Box Instr Global)) → ((d : ℕ)
    → SameOption (λ a b. SameStepsToDepth d a.value b.value) o u) → SameOption (λ a b. SameInstr a.value b.value) o u
branches_all None None h = tt
branches_all None (Some y) h = h 0
branches_all (Some x) None h = h 0
branches_all (Some x) (Some y) h = h

-- forms that are alike to each depth
steps_all : (i j : OpenedInstr) → ((d : ℕ) → SameStepBy (SameStepsToDepth d) i j) → SameStep i j
steps_all instr.Skip instr.Skip h = tt
steps_all (instr.Assign p e) (instr.Assign q f) h = h 0
steps_all (instr.Tie p q) (instr.Tie r s) h = h 0
steps_all (instr.If e x o) (instr.If f y u) h = ((h 0).0, λ d. (h d).1, branches_all o u (λ d. (h d).2))
steps_all (instr.All v) (instr.All w) h = along_all SameStepsToDepth v.items w.items h
steps_all _ _ h = h 0

pub instr_opened : (i j : Instr) → SameInstr i j → SameStep (out-Instr i) (out-Instr j)
instr_opened i j s =
    steps_all (out-Instr i) (out-Instr j) (λ d. steps_forms (SameStepsToDepth d) (step_self d) i j (s (suc d)))

-- Members

same_instr : (i : Instr) → SameInstr i i
same_instr i d = step_self d i

setting_self : (s : Setting) → SameSetting s s
setting_self s = record { target = refl; place = refl; value = same_expr s.value }

part_self : (p : Part) → SamePart p p
part_self p = record { must = refl; event = path_self p.event }

member_self : (d : ℕ) (m : Member) → SameMemberToDepth d m m
member_self zero m = tt
member_self (suc d) m = agree_member.equal refl

module _ (Same : Member → Member → Type 0) (self : (m : Member) → Same m m) where
  unit_self : (u : UnitTree) → SameUnitBy Same u u
  unit_self u = record { name = refl; place = refl; members = along_self self u.members.items }

  kind_self : (m : Member-F Member UnitTree) → SameKindBy Same m m
  kind_self (member.Extends n a) = (refl, refl)
  kind_self (member.Declare t v s) = (refl, refl, along_self setting_self s.items)
  kind_self (member.Block u) = unit_self u
  kind_self (member.Clones p n a) = (path_self p, refl, refl)
  kind_self (member.Embeds p n a) = (path_self p, refl, refl)
  kind_self (member.Parameter t n a e) = (refl, refl, refl, same_expr e)
  kind_self (member.Kept n a s) = (refl, refl, refl)
  kind_self (member.Event n a s) = (refl, refl, refl)
  kind_self (member.Observer t n a e) = (refl, refl, refl, same_expr e)
  kind_self (member.Hide p) = path_self p
  kind_self (member.Local n a e i) = (refl, refl, same_expr e, same_instr i)
  kind_self (member.Sync n a v) = (refl, refl, along_self part_self v.items)
  kind_self (member.Assert i) = same_instr i

  both_kinds : (m n x y : Member-F Member UnitTree) → m ≡ x → n ≡ y → SameKindBy Same x y → SameKindBy Same m n
  both_kinds m n x y p q s =
      subst (λ (z : Member-F Member UnitTree). SameKindBy Same z n) (sym p)
      (subst (λ (z : Member-F Member UnitTree). SameKindBy Same x z) (sym q) s)

  members_forms : (m n : Member) → SameMemberBy Same m n → SameKindBy Same (out-Member m) (out-Member n)
  members_forms m n (agree_member.equal e) =
      subst (λ (h : Member). SameKindBy Same (out-Member m) (out-Member h)) e (kind_self (out-Member m))
  members_forms m n (agree_member.declared t v w s r p q h k) =
      both_kinds _ _ _ _ (opened.member-declare m t v s p) (opened.member-declare n t w r q) (refl, h, k)
  members_forms m n (agree_member.block u w p q s) =
      both_kinds _ _ _ _ (opened.member-block m u p) (opened.member-block n w q) s
  members_forms m n (agree_member.clones p q x a u w s) =
      both_kinds _ _ _ _ (opened.member-clones m p x a u) (opened.member-clones n q x a w) (s, refl, refl)
  members_forms m n (agree_member.embeds p q x a u w s) =
      both_kinds _ _ _ _ (opened.member-embeds m p x a u) (opened.member-embeds n q x a w) (s, refl, refl)
  members_forms m n (agree_member.parameter t x a e f u w s) =
      both_kinds _ _ _ _ (opened.member-parameter m t x a e u)
      (opened.member-parameter n t x a f w) (refl, refl, refl, s)
  members_forms m n (agree_member.observer t x a e f u w s) =
      both_kinds _ _ _ _ (opened.member-observer m t x a e u)
      (opened.member-observer n t x a f w) (refl, refl, refl, s)
  members_forms m n (agree_member.hidden p q u w s) =
      both_kinds _ _ _ _ (opened.member-hide m p u) (opened.member-hide n q w) s
  members_forms m n (agree_member.local x a e f i j u w s t) =
      both_kinds _ _ _ _ (opened.member-local m x a e i u) (opened.member-local n x a f j w) (refl, refl, s, t)
  members_forms m n (agree_member.sync x a v w p q s) =
      both_kinds _ _ _ _ (opened.member-sync m x a v p) (opened.member-sync n x a w q) (refl, refl, s)
  members_forms m n (agree_member.assertion i j u w s) =
      both_kinds _ _ _ _ (opened.member-assert m i u) (opened.member-assert n j w) s

-- forms that are alike to each depth
kinds_all : (m n : Member-F Member UnitTree) → ((d : ℕ) → SameKindBy (SameMemberToDepth d) m n) → SameKind m n
kinds_all (member.Extends x a) (member.Extends y b) h = h 0
kinds_all (member.Declare t v s) (member.Declare u w r) h = h 0
kinds_all (member.Block u) (member.Block w) h = record {
  name = (h 0).name;
  place = (h 0).place;
  members = along_all SameMemberToDepth u.members.items w.members.items (λ d. (h d).members);
}
kinds_all (member.Clones p x a) (member.Clones q y b) h = h 0
kinds_all (member.Embeds p x a) (member.Embeds q y b) h = h 0
kinds_all (member.Parameter t x a e) (member.Parameter u y b f) h = h 0
kinds_all (member.Kept x a s) (member.Kept y b r) h = h 0
kinds_all (member.Event x a s) (member.Event y b r) h = h 0
kinds_all (member.Observer t x a e) (member.Observer u y b f) h = h 0
kinds_all (member.Hide p) (member.Hide q) h = h 0
kinds_all (member.Local x a e i) (member.Local y b f j) h = h 0
kinds_all (member.Sync x a v) (member.Sync y b w) h = h 0
kinds_all (member.Assert i) (member.Assert j) h = h 0
kinds_all _ _ h = h 0

pub member_opened : (m n : Member) → SameMember m n → SameKind (out-Member m) (out-Member n)
member_opened m n s =
    kinds_all (out-Member m) (out-Member n) (λ d. members_forms (SameMemberToDepth d) (member_self d) m n (s (suc d)))

-- Items

body_self : (b : DomainBody) → SameBody b b
body_self (domain.Symbols v) = refl
body_self (domain.Range a b) = (refl, refl)

body_opened : (x y : DomainBody) → SameDomain x y → SameBody x y
body_opened x y (symbols v w p q s) =
    subst (λ (z : DomainBody). SameBody z y) (sym p)
    (subst (λ (z : DomainBody). SameBody (domain.Symbols v) z) (sym q) s)
body_opened x y (range e) = subst (λ (z : DomainBody). SameBody x z) e (body_self x)

both_items : (x y z w : Item) → x ≡ z → y ≡ w → SameItemForm z w → SameItemForm x y
both_items x y z w p q s =
    subst (λ (u : Item). SameItemForm u y) (sym p) (subst (λ (u : Item). SameItemForm z u) (sym q) s)

pub item_opened : (x y : Item) → SameItem x y → SameItemForm x y
item_opened x y (domains d c p q s) =
    both_items x y (item.Domain d) (item.Domain c) p q (s.name, s.place, body_opened d.body c.body s.body)
item_opened x y (classes u w p q s) = both_items x y (item.Class u) (item.Class w) p q s
item_opened x y (blocks u w p q s) = both_items x y (item.Block u) (item.Block w) p q s

pub model_opened : (m n : Model) → SameModel m n → SameModelForm m n
model_opened m n s = (along_map item_opened s.items, s.names, s.end)
