-- Declared events that stand by their numbers.
use Rattle.std.proofs.Common.{ℕ, List, sym, ◌∙◌, subst}
use Rattle.ar_base.specs.Lists.{Stands, IsOneOf}
use Rattle.ar_meaning.specs.Expand.{EventDeclaration}
use Rattle.ar_meaning.specs.ExpandInside.{AreKeyedEvents}
use Rattle.sync_expand.specs.Expanding.{AreByNumber}

pub keyed_of : {L : Type 0} (ds : List (EventDeclaration L ℕ)) → AreByNumber ds → AreKeyedEvents ds
keyed_of ds b = record { one = λ m n d e s r i. sym (b.numbered m d s) ∙ (i ∙ b.numbered n e r) }

pub stands_by : {L : Type 0} (ds : List (EventDeclaration L ℕ)) → AreByNumber ds → (d : EventDeclaration L ℕ) → IsOneOf
    ds d → Stands ds d.key d
stands_by ds b d i = subst (λ (n : ℕ). Stands ds n d) (sym (b.numbered i.place d i.stands)) i.stands
