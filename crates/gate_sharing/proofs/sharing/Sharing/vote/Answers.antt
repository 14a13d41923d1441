use Rattle.std.proofs.Common.{List, slice_get, length, IfOk, IfSome, sym, ap, ◌∙◌, subst}
use Rattle.ar_base.specs.Lists.{Stands}
use Rattle.ar_base.proofs.Standing.{one_here}
use Rattle.gate_sharing.specs.declared.terms.Term.{Term}
use Rattle.gate_sharing.specs.Literals.{literal_operands}
use Rattle.gate_sharing.specs.Votes.{AreTermsOf, IsVoteBy}
use Rattle.gate_sharing.proofs.Voting.{vote_of, vote_found, part_below}
use Rattle.gate_sharing.proofs.sharing.Sharing.vote.Goals as goal

pub returns-in-Some-2 : goal.returns-in-Some-2
returns-in-Some-2 c =
    let n = length c.args.self.now in
    let os = literal_operands c.args.literals.now in
    let ts = c.in-Some.terms.items in
    let first = c.in-Some-copied.first in
    let terms : AreTermsOf c.args.self.now os ts =
    subst (λ z. IfSome z (λ found. AreTermsOf c.args.self.now os found.items)) c.in-Some.is c.in_ok-terms.ensures in
    let stands : Stands ts 0 first =
    ap (λ (z : List Term). slice_get z 0) (sym c.deref.ensures.value) ∙ sym c.first.ensures.value ∙ sym c.copied.ensures ∙ c.in-Some-copied.is in
    vote_of c.args.self.now os c.plain.result ts c.in-Some-2.vote terms
    (subst (λ (z : List Term). IsVoteBy c.plain.result z c.in-Some-2.vote) c.deref-2.ensures.value
    (subst (λ z. IfSome z (λ vote. IsVoteBy c.plain.result c.deref-2.result.now vote)) c.in-Some-2.is c.in_ok-vote.ensures))
    (c.plain.ensures n (part_below n first (terms.below.each first (one_here ts 0 first stands))).1)

pub returns : goal.returns
returns c =
    let n = length c.args.self.now in
    let os = literal_operands c.args.literals.now in
    let ts = c.in-Some.terms.items in
    let first = c.in-Some-copied.first in
    let terms : AreTermsOf c.args.self.now os ts =
    subst (λ z. IfSome z (λ found. AreTermsOf c.args.self.now os found.items)) c.in-Some.is c.in_ok-terms.ensures in
    let stands : Stands ts 0 first =
    ap (λ (z : List Term). slice_get z 0) (sym c.deref.ensures.value) ∙ sym c.first.ensures.value ∙ sym c.copied.ensures ∙ c.in-Some-copied.is in
    vote_found c.args.self.now os c.plain-2.result ts c.vote_by-2.result terms
    (c.plain-2.ensures n (part_below n first (terms.below.each first (one_here ts 0 first stands))).0)
    (subst (λ (z : List Term). IfOk c.vote_by-2.result (λ found. IfSome found (λ vote. IsVoteBy c.plain-2.result z vote)))
    c.deref-3.ensures.value c.vote_by-2.ensures)
