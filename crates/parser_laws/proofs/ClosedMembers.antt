-- Instructions, members and items whose forms agree, agree.
use Rattle.std.proofs.Common.{◌≡◌, ℕ, zero, suc, Box, Vec, Global, refl, sym, ap, ◌∙◌}
use Rattle.std.specs.Prelude.{Option, Some, None}
use Rattle.ar_base.specs.Numbers.{NameId}
use Rattle.ar_base.specs.declared.places.Place.{Place}
use Rattle.ar_base.specs.declared.places.Span.{Span}
use Rattle.ar_syntax.specs.declared.paths.Path.{Path}
use Rattle.ar_syntax.specs.declared.expressions.RawExpr.{RawExpr}
use Rattle.ar_syntax.specs.declared.instructions.Instr.{Instr, out-Instr, roll-Instr, roll-out-Instr}
use Rattle.ar_syntax.specs.declared.instructions.Instr.TheOpen as open_instr
use Rattle.ar_syntax.specs.declared.instructions.Instr.TheVariants as instr
use Rattle.ar_syntax.specs.declared.items.DomainBody.{DomainBody}
use Rattle.ar_syntax.specs.declared.items.DomainBody.TheVariants as domain
use Rattle.ar_syntax.specs.declared.items.Item.{Item}
use Rattle.ar_syntax.specs.declared.items.Item.TheVariants as item
use Rattle.ar_syntax.specs.declared.items.Model.{Model}
use Rattle.ar_syntax.specs.declared.members.Member.TheOpen.{Member-F}
use Rattle.ar_syntax.specs.declared.members.Member.{Member, out-Member, roll-Member, roll-out-Member}
use Rattle.ar_syntax.specs.declared.members.Member.TheOpen as open_member
use Rattle.ar_syntax.specs.declared.members.Member.TheVariants as member
use Rattle.ar_syntax.specs.declared.members.Part.{Part}
use Rattle.ar_syntax.specs.declared.members.Setting.{Setting}
use Rattle.ar_syntax.specs.declared.members.TypeName.{TypeName}
use Rattle.ar_syntax.specs.declared.members.Unit.{Unit as UnitTree}
use Rattle.parser_laws.specs.Expressions.{SameOption, SameSteps, SameStepsToDepth, SameInstr}
use Rattle.parser_laws.specs.Expressions as agree
use Rattle.parser_laws.specs.Members.{SameMemberBy, SameMemberToDepth, SameMember}
use Rattle.parser_laws.specs.Members as agree_member
use Rattle.parser_laws.specs.Models.{SameDomain, symbols, range, SameItem, domains, classes, blocks, SameModel}
use Rattle.parser_laws.specs.Opened.{OpenedInstr, SameStep, SameKind, SameBody, SameItemForm, SameModelForm}
use Rattle.parser_laws.proofs.Agreeing.{along_map}

-- Instructions

step_rolled : (i : Instr) (x : OpenedInstr) → out-Instr i ≡ x → i ≡ roll-Instr x
step_rolled i x e = sym (roll-out-Instr i) ∙ ap roll-Instr e

step-skip : (i : Instr) → out-Instr i ≡ open_instr.Skip → i ≡ instr.Skip
unfolding roll-Instr denote.Hole.Carrier.roll
step-skip i h = step_rolled i (open_instr.Skip) h

step-assign : (i : Instr) (p : Path) (e : RawExpr) → out-Instr i ≡ open_instr.Assign p e → i ≡ instr.Assign p e
unfolding roll-Instr denote.Hole.Carrier.roll
step-assign i p e h = step_rolled i (open_instr.Assign p e) h

step-tie : (i : Instr) (p q : Path) → out-Instr i ≡ open_instr.Tie p q → i ≡ instr.Tie p q
unfolding roll-Instr denote.Hole.Carrier.roll
step-tie i p q h = step_rolled i (open_instr.Tie p q) h

step-if : (i : Instr) (e : RawExpr) (x : Box Instr Global) (other : Option (Box Instr Global))
    → out-Instr i ≡ open_instr.If e x other
    → i ≡ instr.If e x other
step-if i e x other h = step_rolled i (open_instr.If e x other) h ∙ instr.rolls-If e x other

step-all : (i : Instr) (is : Vec Instr Global) → out-Instr i ≡ open_instr.All is → i ≡ instr.All is
step-all i is h = step_rolled i (open_instr.All is) h ∙ instr.rolls-All is

module _ (d : ℕ) where
  branches_of : (o u : Option (Box Instr Global)) → SameOption (λ a b. SameInstr a.value b.value) o u
      → SameOption (λ a b. SameStepsToDepth d a.value b.value) o u
  branches_of None None h = tt
  branches_of None (Some y) h = h
  branches_of (Some x) None h = h
  branches_of (Some x) (Some y) h = h d

  steps_of : (i j : Instr) (x y : OpenedInstr) → out-Instr i ≡ x → out-Instr j ≡ y → SameStep x y
      → SameSteps (SameStepsToDepth d) i j
  steps_of i j open_instr.Skip open_instr.Skip p q s = agree.equal (step-skip i p ∙ sym (step-skip j q))
  steps_of i j (open_instr.Assign x e) (open_instr.Assign y f) p q s =
      agree.assign x y e f (step-assign i x e p) (step-assign j y f q) s.0 s.1
  steps_of i j (open_instr.Tie x y) (open_instr.Tie z u) p q s =
      agree.tie x y z u (step-tie i x y p) (step-tie j z u q) s.0 s.1
  steps_of i j (open_instr.If e x o) (open_instr.If f y u) p q s =
      agree.conditional e f x y o u (step-if i e x o p) (step-if j f y u q) s.0 (s.1 d) (branches_of o u s.2)
  steps_of i j (open_instr.All v) (open_instr.All w) p q s =
      agree.group v w (step-all i v p) (step-all j w q) (along_map (λ x y h. h d) s)
  steps_of i j _ _ p q s = absurd s

pub instr_closed : (i j : Instr) → SameStep (out-Instr i) (out-Instr j) → SameInstr i j
instr_closed i j s zero = tt
instr_closed i j s (suc d) = steps_of d i j (out-Instr i) (out-Instr j) refl refl s

-- Members

member_rolled : (m : Member) (x : Member-F Member UnitTree) → out-Member m ≡ x → m ≡ roll-Member x
member_rolled m x e = sym (roll-out-Member m) ∙ ap roll-Member e

kind-extends : (m : Member) (name : NameId) (at : Place) → out-Member m ≡ open_member.Extends name at
    → m ≡ member.Extends name at
unfolding roll-Member denote.Hole.Carrier.roll
kind-extends m name at h = member_rolled m (open_member.Extends name at) h

kind-declare : (m : Member) (type : TypeName) (ids : Vec (NameId × Place) Global) (settings : Vec Setting Global)
    → out-Member m ≡ open_member.Declare type ids settings
    → m ≡ member.Declare type ids settings
unfolding roll-Member denote.Hole.Carrier.roll
kind-declare m type ids settings h = member_rolled m (open_member.Declare type ids settings) h

kind-block : (m : Member) (u : UnitTree) → out-Member m ≡ open_member.Block u → m ≡ member.Block u
kind-block m u h = member_rolled m (open_member.Block u) h ∙ member.rolls-Block u

kind-clones : (m : Member) (p : Path) (name : NameId) (at : Place) → out-Member m ≡ open_member.Clones p name at
    → m ≡ member.Clones p name at
unfolding roll-Member denote.Hole.Carrier.roll
kind-clones m p name at h = member_rolled m (open_member.Clones p name at) h

kind-embeds : (m : Member) (p : Path) (name : NameId) (at : Place) → out-Member m ≡ open_member.Embeds p name at
    → m ≡ member.Embeds p name at
unfolding roll-Member denote.Hole.Carrier.roll
kind-embeds m p name at h = member_rolled m (open_member.Embeds p name at) h

kind-parameter : (m : Member) (type : TypeName) (name : NameId) (at : Place) (value : RawExpr)
    → out-Member m ≡ open_member.Parameter type name at value
    → m ≡ member.Parameter type name at value
unfolding roll-Member denote.Hole.Carrier.roll
kind-parameter m type name at value h = member_rolled m (open_member.Parameter type name at value) h

kind-kept : (m : Member) (name : NameId) (at : Place) (span : Span) → out-Member m ≡ open_member.Kept name at span
    → m ≡ member.Kept name at span
unfolding roll-Member denote.Hole.Carrier.roll
kind-kept m name at span h = member_rolled m (open_member.Kept name at span) h

kind-event : (m : Member) (name : NameId) (at : Place) (attribute : Option Span)
    → out-Member m ≡ open_member.Event name at attribute
    → m ≡ member.Event name at attribute
unfolding roll-Member denote.Hole.Carrier.roll
kind-event m name at attribute h = member_rolled m (open_member.Event name at attribute) h

kind-observer : (m : Member) (type : TypeName) (name : NameId) (at : Place) (value : RawExpr)
    → out-Member m ≡ open_member.Observer type name at value
    → m ≡ member.Observer type name at value
unfolding roll-Member denote.Hole.Carrier.roll
kind-observer m type name at value h = member_rolled m (open_member.Observer type name at value) h

kind-hide : (m : Member) (p : Path) → out-Member m ≡ open_member.Hide p → m ≡ member.Hide p
unfolding roll-Member denote.Hole.Carrier.roll
kind-hide m p h = member_rolled m (open_member.Hide p) h

kind-local : (m : Member) (name : NameId) (at : Place) (guard : RawExpr) (action : Instr)
    → out-Member m ≡ open_member.Local name at guard action
    → m ≡ member.Local name at guard action
unfolding roll-Member denote.Hole.Carrier.roll
kind-local m name at guard action h = member_rolled m (open_member.Local name at guard action) h

kind-sync : (m : Member) (name : NameId) (at : Place) (parts : Vec Part Global)
    → out-Member m ≡ open_member.Sync name at parts
    → m ≡ member.Sync name at parts
unfolding roll-Member denote.Hole.Carrier.roll
kind-sync m name at parts h = member_rolled m (open_member.Sync name at parts) h

kind-assert : (m : Member) (i : Instr) → out-Member m ≡ open_member.Assert i → m ≡ member.Assert i
unfolding roll-Member denote.Hole.Carrier.roll
kind-assert m i h = member_rolled m (open_member.Assert i) h

module _ (d : ℕ) where
  kinds_of : (m n : Member) (x y : Member-F Member UnitTree) → out-Member m ≡ x → out-Member n ≡ y → SameKind x y
      → SameMemberBy (SameMemberToDepth d) m n
  kinds_of m n (open_member.Extends x a) (open_member.Extends y b) p q s =
      agree_member.equal (kind-extends m x a p ∙ ap (λ (z : NameId). member.Extends z a) s.0
      ∙ ap (member.Extends y) s.1 ∙ sym (kind-extends n y b q))
  kinds_of m n (open_member.Declare t v s) (open_member.Declare u w r) p q h =
      agree_member.declared t v w s r (kind-declare m t v s p) (kind-declare n u w r q
      ∙ ap (λ (z : TypeName). member.Declare z w r) (sym h.0)) h.1 h.2
  kinds_of m n (open_member.Block u) (open_member.Block w) p q s =
      agree_member.block u w (kind-block m u p) (kind-block n w q)
      (record { name = s.name; place = s.place; members = along_map (λ x y h. h d) s.members })
  kinds_of m n (open_member.Clones x y a) (open_member.Clones z u b) p q s =
      agree_member.clones x z y a (kind-clones m x y a p) (kind-clones n z u b q
      ∙ ap (λ (k : NameId). member.Clones z k b) (sym s.1) ∙ ap (member.Clones z y) (sym s.2)) s.0
  kinds_of m n (open_member.Embeds x y a) (open_member.Embeds z u b) p q s =
      agree_member.embeds x z y a (kind-embeds m x y a p) (kind-embeds n z u b q
      ∙ ap (λ (k : NameId). member.Embeds z k b) (sym s.1) ∙ ap (member.Embeds z y) (sym s.2)) s.0
  kinds_of m n (open_member.Parameter t x a e) (open_member.Parameter u y b f) p q s =
      agree_member.parameter t x a e f (kind-parameter m t x a e p) (kind-parameter n u y b f q
      ∙ ap (λ (k : TypeName). member.Parameter k y b f) (sym s.0)
      ∙ ap (λ (k : NameId). member.Parameter t k b f) (sym s.1)
      ∙ ap (λ (k : Place). member.Parameter t x k f) (sym s.2)) s.3
  kinds_of m n (open_member.Kept x a r) (open_member.Kept y b t) p q s =
      agree_member.equal (kind-kept m x a r p ∙ ap (λ (k : NameId). member.Kept k a r) s.0
      ∙ ap (λ (k : Place). member.Kept y k r) s.1 ∙ ap (member.Kept y b) s.2 ∙ sym (kind-kept n y b t q))
  kinds_of m n (open_member.Event x a r) (open_member.Event y b t) p q s =
      agree_member.equal (kind-event m x a r p ∙ ap (λ (k : NameId). member.Event k a r) s.0
      ∙ ap (λ (k : Place). member.Event y k r) s.1 ∙ ap (member.Event y b) s.2 ∙ sym (kind-event n y b t q))
  kinds_of m n (open_member.Observer t x a e) (open_member.Observer u y b f) p q s =
      agree_member.observer t x a e f (kind-observer m t x a e p) (kind-observer n u y b f q
      ∙ ap (λ (k : TypeName). member.Observer k y b f) (sym s.0)
      ∙ ap (λ (k : NameId). member.Observer t k b f) (sym s.1)
      ∙ ap (λ (k : Place). member.Observer t x k f) (sym s.2)) s.3
  kinds_of m n (open_member.Hide x) (open_member.Hide y) p q s =
      agree_member.hidden x y (kind-hide m x p) (kind-hide n y q) s
  kinds_of m n (open_member.Local x a e i) (open_member.Local y b f j) p q s =
      agree_member.local x a e f i j (kind-local m x a e i p) (kind-local n y b f j q
      ∙ ap (λ (k : NameId). member.Local k b f j) (sym s.0)
      ∙ ap (λ (k : Place). member.Local x k f j) (sym s.1)) s.2 s.3
  kinds_of m n (open_member.Sync x a v) (open_member.Sync y b w) p q s =
      agree_member.sync x a v w (kind-sync m x a v p) (kind-sync n y b w q
      ∙ ap (λ (k : NameId). member.Sync k b w) (sym s.0) ∙ ap (λ (k : Place). member.Sync x k w) (sym s.1)) s.2
  kinds_of m n (open_member.Assert i) (open_member.Assert j) p q s =
      agree_member.assertion i j (kind-assert m i p) (kind-assert n j q) s
  kinds_of m n _ _ p q s = absurd s

pub member_closed : (m n : Member) → SameKind (out-Member m) (out-Member n) → SameMember m n
member_closed m n s zero = tt
member_closed m n s (suc d) = kinds_of d m n (out-Member m) (out-Member n) refl refl s

-- Items

body_closed : (x y : DomainBody) → SameBody x y → SameDomain x y
body_closed (domain.Symbols v) (domain.Symbols w) s = symbols v w refl refl s
body_closed (domain.Range a b) (domain.Range c d) s = range (ap (λ k. domain.Range k b) s.0 ∙ ap (domain.Range c) s.1)
body_closed _ _ s = absurd s

pub item_closed : (x y : Item) → SameItemForm x y → SameItem x y
item_closed (item.Domain d) (item.Domain c) s = domains d c refl refl (record {
  name = s.0;
  place = s.1;
  body = body_closed d.body c.body s.2;
})
item_closed (item.Class u) (item.Class w) s = classes u w refl refl s
item_closed (item.Block u) (item.Block w) s = blocks u w refl refl s
item_closed _ _ s = absurd s

pub model_closed : (m n : Model) → SameModelForm m n → SameModel m n
model_closed m n s = record { items = along_map item_closed s.0; names = s.1; end = s.2 }
