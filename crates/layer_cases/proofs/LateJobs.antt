-- A participant that claims jobs and puts them back, and then reads an entry.
use Rattle.std.proofs.Common.{◌≡◌, ℕ, ◌+◌, ◌<◌, true, List, [], ◌∷◌, ◌++◌, take, length, option_map, Option, Some, None, Result, refl, sym, ap, ◌∙◌, subst}
use Rattle.std.specs.Prelude.{Ok, Err, IfOk, IfSome, IfNone, OnOk, OnErr, slice_get}
use Rattle.ledger_model.specs.Terms.{ParticipantId}
use Rattle.canton_model.specs.Inbox.{Item, inbox, item_after, notice_at, notice_in}
use Rattle.world_model.specs.Messages.{Entry}
use Rattle.world_model.specs.Machine.{Machine}
use Rattle.world_model.specs.Node.{NodeState, claim, put_back, read_entry}
use Rattle.world_model.specs.Lawful.{NodeHas}
use Rattle.world_model.proofs.Grown.{slice_get_left}
use Rattle.world_model.proofs.Steps.{has_claim, has_put_back}
use Rattle.validate_job.specs.Job.{Job}
use Rattle.validate_job.specs.Owed.{owed_on_each}
use Rattle.seq_log.specs.Sequenced.{Sequenced}
use Rattle.node_core.specs.OverLog.{HasInbox, inbox_over}
use Rattle.node_core.specs.Participant.{Participant as NodeValue, items_of, next_place, owed_there, owes_there, params_of, reading_of, whole_state, with_state}
use Rattle.node_core.proofs.OverLog.{claimed_one, cursor_is, put_back_one}
use Rattle.node_core.proofs.Alike.{owed_stays}
use Rattle.node_core.proofs.LogEnds.{before_last}
use Rattle.world_play.specs.Reading.{Reads}
use Rattle.world_play.specs.Parts.{IsParticipant}
use Rattle.world_play.proofs.Jobs.{claim_open, claim_owes}
use Rattle.world_play.proofs.Readers.{begins, can_read, stands}
use Rattle.world_play.proofs.Turns.{node_with}

-- after a call that changes its duties alone
with_duties : (m : Machine) (p : ParticipantId) (s : Sequenced) (node after : NodeValue) (state : NodeState) → after ≡ with_state node state
    → state.items ≡ items_of node → (HasInbox (inbox_over s.list node) node → HasInbox (inbox_over s.list node) (with_state node state))
    → ((read : List Entry) (whole : List Item) → length (items_of node) ≡ length whole → NodeHas m p read (whole_state node whole)
    → NodeHas m p read (whole_state (with_state node state) whole))
    → IsParticipant m p node s → IsParticipant m p after s
with_duties m p s node after state is items keeps has g =
    let whole = inbox_over s.list node in
    let same : inbox_over s.list (with_state node state) ≡ whole =
    ap (λ (its : List Item). inbox (reading_of node) node.me (take (length its) s.list)) items in
    subst (λ (x : NodeValue). IsParticipant m p x s) (sym is)
    (record {
      is_reading = g.is_reading;
      is_for = g.is_for;
      behind = g.behind;
      is = node_with m p node state g.is;
      read = g.read;
      within = g.within;
      has = subst (λ (its : List Item). NodeHas m p (take g.read s.list) (whole_state (with_state node state) its)) (sym same)
          (has (take g.read s.list) whole (cursor_is whole node g.inbox) g.has);
      inbox = subst (λ (its : List Item). HasInbox its (with_state node state)) (sym same) (keeps g.inbox);
    })

pub put_back_stands : (m : Machine) (p : ParticipantId) (s : Sequenced) (node after : NodeValue) (k : ℕ) → after ≡ with_state node (put_back node.state k)
    → IsParticipant m p node s → IsParticipant m p after s
put_back_stands m p s node after k is =
    with_duties m p s node after (put_back node.state k) is refl (λ i. put_back_one (inbox_over s.list node) node i k)
    (λ read whole long h. has_put_back m p read (whole_state node whole) k h)

-- what is claimed next
module _ (node : NodeValue) (k : ℕ) (next : next_place node ≡ Some k) where
  next_owes : owes_there node k ≡ true
  next_owes = claim_owes (reading_of node) (params_of node) node.me node.state k next

  next_read : k < length (items_of node)
  next_read = (claim_open (reading_of node) (params_of node) node.me node.state k next).1

module _ {E : Type 0} (node after : NodeValue) where
  pub claim_stands : (r : Result (Option Job) E) → IfOk r (λ o. option_map (λ (job : Job). job.given.place) o ≡ next_place node)
      → IfOk r (λ o. IfNone o (after ≡ node))
      → IfOk r (λ o. IfSome o (λ job. after ≡ with_state node (claim node.state job.given.place)))
      → OnErr r (after ≡ node)
      → (m : Machine) (p : ParticipantId) (s : Sequenced) → IsParticipant m p node s → IsParticipant m p after s
  claim_stands (Err e) place none some err m p s = subst (λ (x : NodeValue). IsParticipant m p x s) (sym err)
  claim_stands (Ok None) place none some err m p s = subst (λ (x : NodeValue). IsParticipant m p x s) (sym none)
  claim_stands (Ok (Some job)) place none some err m p s =
      let k = job.given.place in
      with_duties m p s node after (claim node.state k) some refl (λ i. claimed_one (inbox_over s.list node) node i k)
      (λ read whole long h. has_claim m p read (whole_state node whole) k h (subst (λ (n : ℕ). k < n) long (next_read node k (sym place))))

  pub claim_read : (r : Result (Option Job) E) → IfOk r (λ o. option_map (λ (job : Job). job.given.place) o ≡ next_place node)
      → IfOk r (λ o. IfSome o (λ job. after ≡ with_state node (claim node.state job.given.place)))
      → IfOk r (λ o. IfSome o (λ job. job.given.place < length (items_of after)))
  claim_read (Err e) place some = tt
  claim_read (Ok None) place some = tt
  claim_read (Ok (Some job)) place some =
      subst (λ (x : NodeValue). job.given.place < length (items_of x)) (sym some) (next_read node job.given.place (sym place))

  pub claim_owed : (r : Result (Option Job) E) → IfOk r (λ o. option_map (λ (job : Job). job.given.place) o ≡ next_place node)
      → IfOk r (λ o. IfSome o (λ job. after ≡ with_state node (claim node.state job.given.place)))
      → IfOk r (λ o. IfSome o (λ job. owes_there after job.given.place ≡ true))
  claim_owed (Err e) place some = tt
  claim_owed (Ok None) place some = tt
  claim_owed (Ok (Some job)) place some =
      subst (λ (x : NodeValue). owes_there x job.given.place ≡ true) (sym some) (next_owes node job.given.place (sym place))

  pub claim_verdicts : (r : Result (Option Job) E)
      → IfOk r (λ o. IfSome o (λ job. owed_on_each job.given.input job.given.views ≡ owed_there node job.given.place))
      → IfOk r (λ o. IfSome o (λ job. after ≡ with_state node (claim node.state job.given.place)))
      → IfOk r (λ o. IfSome o (λ job. owed_on_each job.given.input job.given.views ≡ owed_there after job.given.place))
  claim_verdicts (Err e) owed some = tt
  claim_verdicts (Ok None) owed some = tt
  claim_verdicts (Ok (Some job)) owed some =
      subst (λ (x : NodeValue). owed_on_each job.given.input job.given.views ≡ owed_there x job.given.place) (sym some) owed

-- an entry that it reads
module _ (node : NodeValue) (log : List Entry) (reads : Reads node log) (k : ℕ) (at : k ≡ length (items_of node)) (list : List Entry) (lt : k < length log)
    (is : list ≡ take (k + 1) log) (after : NodeValue)
    (step : (before : List Entry) (e : Entry) → list ≡ before ++ e ∷ [] → after ≡ with_state node (read_entry (reading_of node) node.me node.state before e)) where
  abbrev before : List Entry
  before = take (length (items_of node)) list

  next : (e : Entry) × (slice_get log k ≡ Some e) × (slice_get (take (k + 1) log) k ≡ Some e)
  next = stands k log lt

  stepped : after ≡ with_state node (read_entry (reading_of node) node.me node.state before next.0)
  stepped =
      step before next.0
      (before_last list (length (items_of node)) next.0 (can_read node log reads node (begins node log reads) k at list lt is).cursor
      (ap (slice_get list) (sym at) ∙ (ap (λ (xs : List Entry). slice_get xs k) is ∙ next.2)))

  pub owed_as_before : (j : ℕ) → j < length (items_of node) → owed_there after j ≡ owed_there node j
  owed_as_before j within =
      subst (λ (x : NodeValue). owed_there x j ≡ owed_there node j) (sym stepped) (owed_stays node before next.0 j within)

  pub received_as_before : (j : ℕ) → j < length (items_of node) → notice_at (items_of after) j ≡ notice_at (items_of node) j
  received_as_before j within =
      subst (λ (x : NodeValue). notice_at (items_of x) j ≡ notice_at (items_of node) j) (sym stepped)
      (ap notice_in (slice_get_left (items_of node) (item_after (reading_of node) node.me before next.0 ∷ []) j within))

-- it reads it, or wants memory and is as before
module _ {X Y : Type 0} (A B : Type 0) where
  pub read_or_same : (r : Result X Y) → OnOk r A → OnErr r B → (P : Type 0) → (A → P) → (B → P) → P
  read_or_same (Ok x) a b P f g = f a
  read_or_same (Err y) a b P f g = g b
