use Rattle.std.proofs.Common.{◌≡◌, ℕ, List, Result, IfOk, ap, subst, sym, ◌∙◌}
use Rattle.ledger_terms.specs.declared.active_row.ActiveRow.{ActiveRow}
use Rattle.canton_model.specs.Reading.{Reading}
use Rattle.acs_commit.specs.Shared.{shared_ids}
use Rattle.framed_form.specs.FramedReading.{framed_reading}
use Rattle.node_core.specs.Participant.{Participant}
use Rattle.commitment_text.specs.Asked.{AreActiveAt, NamedNode}
use Rattle.commitment_text.specs.Commitments.{ids_shared}
use Rattle.commitment_text.specs.Knowledge.{knowledge_of}
use Rattle.commitment_text.proofs.asked_node.AskedNode.ids_shared.Goals as goal

-- the ids of the rows that a participant has at a place are those of what it knows there
of_rows : {E : Type 0} (reading : Reading) (with_number other : ℕ) (node named : Participant) (place : ℕ) (rows : List ActiveRow)
    (result : Result (List (List ℕ)) E) → with_number ≡ other → node ≡ named → rows ≡ (knowledge_of node).active_at place
    → IfOk result (λ ids. ids ≡ shared_ids reading with_number rows) → IfOk result (λ ids. ids ≡ ids_shared reading other (knowledge_of named) place)
of_rows reading with_number other node named place rows result number same is told =
    subst (λ (xs : List ActiveRow). IfOk result (λ ids. ids ≡ shared_ids reading other xs))
    (is ∙ ap (λ (n : Participant). (knowledge_of n).active_at place) same)
    (subst (λ (n : ℕ). IfOk result (λ ids. ids ≡ shared_ids reading n rows)) number told)

pub returns-in-Some : goal.returns-in-Some
returns-in-Some c =
    let reading = framed_reading c.args.setup.now.topology c.args.setup.now.checked in
    let node = c.self.inside.node.now in
    let number = ap (λ (n : NamedNode). n.number) c.other.view_is in
    let same = ap (λ (n : NamedNode). n.node) c.self.view_is in
    let is = c.in-Some.ensures node (subst (AreActiveAt node) (sym c.as_slice.ensures.value) c.self.invariant) in
    of_rows reading c.other.inside.number c.args.other.now.number node c.args.self.now.node c.args.place _ _ number same is c.shared_ids.ensures

pub returns : goal.returns
returns c =
    let reading = framed_reading c.args.setup.now.topology c.args.setup.now.checked in
    let node = c.self.inside.node.now in
    let number = ap (λ (n : NamedNode). n.number) c.other.view_is in
    let same = ap (λ (n : NamedNode). n.node) c.self.view_is in
    of_rows reading c.other.inside.number c.args.other.now.number node c.args.self.now.node c.args.place _ _ number same c.in_ok-rows.ensures
    c.shared_ids-2.ensures
