use Rattle.std.proofs.Common.{◌≡◌, ℕ, ◌<◌, List, length, get_or, IsTrue, ◌↔◌, nat_eq, ap, ◌∙◌, eqb-true, eq-eqb, arith}
use Rattle.ar_base.specs.Numbers.{BodyId}
use Rattle.ar_base.proofs.Standing.{stands_one, stands_within}
use Rattle.class_table.specs.Main.{IsNamedBlock}
use Rattle.class_table.specs.declared.tables.Body.{Body}
use Rattle.class_table.proofs.Taken.{item_stands}
use Rattle.class_table.proofs.main_block.is_named.Goals as goal

tells : (bodies : List Body) (block : BodyId) (name : ℕ) (b : Body) → block.n < length bodies
    → b ≡ get_or bodies block.n b → IsTrue (nat_eq b.name.n name) ↔ IsNamedBlock bodies name block
tells bodies block name b l e =
    let s = item_stands bodies block.n b l e in (
      λ h. record { body = b; stands = s; has_name = eqb-true _ _ h },
      λ h. eq-eqb _ _
          (ap (λ (x : Body). x.name.n) (stands_one bodies block.n b h.body s h.stands) ∙ h.has_name),
    )

pub returns-in-Some : goal.returns-in-Some
returns-in-Some c = tells c.args.bodies.now c.args.block c.args.name.n c.in-Some.body.now c.in-Some.ensures.lookup.3.0
    c.in-Some.ensures.lookup.1

pub returns-in-None : goal.returns-in-None
returns-in-None c = (λ h. cc, λ n. let w = stands_within c.args.bodies.now c.args.block.n n.body n.stands in let l = c.in-None.ensures.lookup.3 in absurd (omega arith))
