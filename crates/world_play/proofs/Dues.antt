-- To each request that is due, and which a participant has read, it owes a response from its base on.
use Rattle.std.proofs.Common.{◌≡◌, ℕ, zero, suc, ◌<◌, true, false, List, [], ◌∷◌, take, refl, sym, ap, ◌∙◌, inl, inr, arith}
use Rattle.std.specs.Prelude.{slice_get}
use Rattle.std.proofs.lemmas.Bool.{both_ways, cases_lt, not-true}
use Rattle.ledger_model.specs.Terms.{ParticipantId}
use Rattle.canton_model.specs.Inbox.{Item, inbox}
use Rattle.canton_model.specs.Log.{Params, request_at, request_in}
use Rattle.canton_model.specs.Reading.{Reading}
use Rattle.world_model.specs.Messages.{Entry}
use Rattle.world_model.specs.Machine.{Machine}
use Rattle.world_model.specs.Node.{is_decided_now, owes_at}
use Rattle.world_model.specs.Settled.{is_asked_in, is_undecided}
use Rattle.world_model.specs.Turns.{caught_up}
use Rattle.world_model.proofs.NodeFacts.{owes_is}
use Rattle.world_model.proofs.TurnFacts.{caught, undecided_same}
use Rattle.seq_log.specs.Sequenced.{Sequenced}
use Rattle.node_core.specs.OverLog.{inbox_over, state_over}
use Rattle.node_core.specs.Participant.{Participant as NodeValue, owes_there, reading_of}
use Rattle.node_core.proofs.OverLog.{decided_below, owes_same}
use Rattle.world_play.specs.Reading.{has_read}
use Rattle.world_play.specs.Parts.{IsParticipant}
use Rattle.world_play.proofs.Moved.{from_machine}
use Rattle.world_play.proofs.Turns.{inbox_all}

taken : (xs : List Entry) (n i : ℕ) → i < n → slice_get (take n xs) i ≡ slice_get xs i
taken xs zero i lt = absurd (omega (arith, lt))
taken [] (suc n) i lt = refl
taken (x ∷ xs) (suc n) zero lt = refl
taken (x ∷ xs) (suc n) (suc i) lt = taken xs n i (omega (arith, lt))

module _ (m : Machine) (p : ParticipantId) (node : NodeValue) (s : Sequenced) (given : IsParticipant m p node s) (k : ℕ) (read : k < given.read)
    (asked : is_asked_in m.reading p (request_at s.list k) ≡ true) (undecided : is_undecided m.params s.list k ≡ true) where
  -- it owes one by what it has read, and by all of the log
  owes_before : owes_at (reading_of node) node.me (inbox_over s.list node) k ≡ true
  owes_before =
      from_machine m p node given.is (λ (r : Reading) (q : Params) (i : ParticipantId). owes_at r i (inbox_over s.list node) k ≡ true)
      (ap (λ (items : List Item). owes_at m.reading p items k) (given.has).items
      ∙ (owes_is m.reading p (take given.read s.list) k
      ∙ (ap (λ o. is_asked_in m.reading p (request_in o)) (taken s.list given.read k read) ∙ asked)))

  abbrev all : List Item
  all = inbox (reading_of node) node.me s.list

  owes_all : owes_at (reading_of node) node.me all k ≡ true
  owes_all =
      from_machine m p node given.is (λ (r : Reading) (q : Params) (i : ParticipantId). owes_at r i (inbox r i s.list) k ≡ true)
      (owes_is m.reading p s.list k ∙ asked)

  undecided_all : is_decided_now (node.topology).params all k ≡ false
  undecided_all =
      let own = state_over s.list node in
      let has = caught m 0 p s.list (given.behind).genuine given.read own given.within given.has in
      from_machine m p node given.is (λ (r : Reading) (q : Params) (i : ParticipantId). is_decided_now q (inbox r i s.list) k ≡ false)
      (ap (λ (items : List Item). is_decided_now m.params items k) (sym has.items)
      ∙ not-true _ (undecided_same m 0 p s.list (given.behind).genuine (caught_up m.reading p s.list own) has k asked ∙ undecided))

  pub owes_due : owes_there node k ≡ true
  owes_due =
      elim (cases_lt k node.base) [
        | inl below ↦
            let reader = has_read node s.list in
            absurd (both_ways _ undecided_all (decided_below all reader (inbox_all m p node s given reader refl) k below owes_all))
        | inr far ↦ owes_same (inbox_over s.list node) node given.inbox k far ∙ owes_before
      ]
