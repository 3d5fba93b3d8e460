-- What a participant that isn't paused answers, after it has read all of the log.
use Rattle.std.proofs.Common.{◌≡◌, ◌<◌, ℕ, List, Option, Some, None, length, refl, sym, ap, ◌∙◌, subst, le_refl}
use Rattle.std.proofs.lemmas.List.{take_all}
use Rattle.ledger_terms.specs.declared.known.Known.{Known}
use Rattle.ledger_terms.specs.declared.submission.Submission.{Submission}
use Rattle.ledger_model.specs.Terms.{ParticipantId}
use Rattle.canton_model.specs.Inbox.{Item, inbox}
use Rattle.canton_model.specs.Reading.{Reading}
use Rattle.interpret.specs.NamedParties.{parties_in_contracts}
use Rattle.lang_eval.specs.Named.{AreKnown}
use Rattle.sealed_form.specs.Within.{is_hosted}
use Rattle.world_model.specs.Messages.{Request, RequestMessage}
use Rattle.world_model.specs.Machine.{Machine}
use Rattle.world_model.specs.Locks.{SequencerBehind}
use Rattle.world_model.specs.Plain.{AnswersWanted, HandedIn}
use Rattle.world_model.specs.Rounds.{read_at, wanted_at}
use Rattle.world_model.specs.Rounds as w
use Rattle.world_model.specs.Sequencing.{append_fault}
use Rattle.prepare_request.specs.declared.submit_fault.SubmitFault.{SubmitFault}
use Rattle.seq_log.specs.Sequenced.{Sequenced}
use Rattle.node_core.specs.OverLog.{HasInbox}
use Rattle.node_core.specs.Participant.{Participant as NodeValue, reading_of}
use Rattle.node_core.specs.Preparing.{offered_by}
use Rattle.node_core.specs.declared.submit_result.SubmitResult.{SubmitResult}
use Rattle.node_core.specs.declared.submit_result.SubmitResult.TheVariants.{Refused}
use Rattle.node_core.proofs.OfferedNames.{offers_named}
use Rattle.node_core.proofs.OverLog.{offered_is}
use Rattle.world_play.specs.Answering.{AnswersAwake, CanAnswer}
use Rattle.node_core.specs.Machines.{offered_in, wanted_request, why_of}
use Rattle.world_play.specs.Reading.{has_read}
use Rattle.world_play.specs.Results.{result_of}
use Rattle.world_play.specs.Parts.{GoesOn, IsParticipant}
use Rattle.world_play.specs.Submitting.{CanPrepare}
use Rattle.world_play.proofs.OwnFaults.{IsOwn}
use Rattle.world_play.proofs.Sends.{over_more}
use Rattle.world_play.proofs.Turns.{all_read, inbox_all, reads_of}

module _ (node : NodeValue) (s : Sequenced) (after : NodeValue) (is : after ≡ has_read node s.list) where
  -- the inbox of the whole log
  abbrev pub whole : List Item
  whole = inbox (reading_of node) node.me s.list

  pub whole_inbox : (m : Machine) (p : ParticipantId) → IsParticipant m p node s → HasInbox whole after
  whole_inbox m p given = inbox_all m p node s given after is

  pub offers_of : (m : Machine) (p : ParticipantId) → IsParticipant m p node s → offered_in after.topology after.packages after.me whole ≡ offered_by after
  offers_of m p given =
      ap (λ (x : NodeValue). offered_in x.topology x.packages x.me whole) is
      ∙ (sym (offered_is whole (has_read node s.list) (inbox_all m p node s given (has_read node s.list) refl)) ∙ ap offered_by (sym is))

  -- it may prepare
  pub may_prepare : (m : Machine) (what : Submission) → CanAnswer m node what s → CanPrepare after what
  may_prepare m what given =
      subst (λ (x : NodeValue). CanPrepare x what) (sym is)
      (record {
        own = sym ((given.is).is).me;
        valid = (given.can).valid;
        within = record {
          is_host = subst (λ (i : ℕ). i < length (node.topology).hosts) (sym ((given.is).is).me) given.is_host;
          named_by_packages = (given.can).named_by_packages;
          named_by_known = subst (λ (known : List Known). AreKnown (is_hosted node.topology) (parties_in_contracts known))
              (sym (offered_is whole (has_read node s.list) (inbox_all m what.participant node s given.is (has_read node s.list) refl)))
              (offers_named node.topology node.packages s.list node.me (reads_of m what.participant node s given.is).genuine);
          named_by_input = (given.can).named_by_input;
        };
      })

  module _ (m : Machine) (what : Submission) (now : ℕ) (given : IsParticipant m what.participant node s) where
    items_are : whole ≡ read_at m s.list what (length s.list)
    items_are =
        ap (λ (r : Reading). inbox r node.me s.list) (given.is).reading
        ∙ (ap (λ (i : ParticipantId). inbox m.reading i s.list) (given.is).me
        ∙ ap (inbox m.reading what.participant) (sym (take_all (length s.list) s.list (le_refl (length s.list)))))

    -- what it wants is what the machine wants
    pub wanted_is : wanted_at m now s.list what (length s.list) ≡ wanted_request after.topology after.packages what whole now
    wanted_is =
        ap (λ (f : Submission → List Item → ℕ → Option Request). f what (read_at m s.list what (length s.list)) now) (given.is).prepares
        ∙ (ap (λ (items : List Item). wanted_request node.topology node.packages what items now) (sym items_are)
        ∙ ap (λ (x : NodeValue). wanted_request x.topology x.packages what whole now) (sym is))

    pub why_is : why_of node.topology node.packages what (read_at m s.list what (length s.list)) now
        ≡ why_of after.topology after.packages what whole now
    why_is =
        ap (λ (items : List Item). why_of node.topology node.packages what items now) (sym items_are)
        ∙ ap (λ (x : NodeValue). why_of x.topology x.packages what whole now) (sym is)

    -- what it answers where it wants a request, and where it wants none
    pub sends : (request : Request) (answer : SubmitResult) (s' : Sequenced)
        → wanted_request after.topology after.packages what whole now ≡ Some request
        → HandedIn now s.list request (append_fault m s.list (RequestMessage request)) (result_of answer) s'.list
        → AnswersAwake m node.topology node.packages now s.list what answer s'.list
    sends request answer s' wanted h =
        subst
        (λ (o : Option Request). AnswersWanted m (why_of node.topology node.packages what (read_at m s.list what (length s.list)) now) now s.list o
        (result_of answer) s'.list) (sym (wanted_is ∙ wanted)) h

    pub refuses : (fault : SubmitFault) (n : ℕ) → IsOwn fault → wanted_request after.topology after.packages what whole now ≡ None
        → why_of after.topology after.packages what whole now ≡ fault → n ≡ length s.list
        → AnswersAwake m node.topology node.packages now s.list what (Refused fault n) s.list
    refuses fault n own none why long =
        subst
        (λ (o : Option Request). AnswersWanted m (why_of node.topology node.packages what (read_at m s.list what (length s.list)) now) now s.list o
        (result_of (Refused fault n)) s.list) (sym (wanted_is ∙ none)) (
          ap (λ (f : w.SubmitFault SubmitFault). w.Refused f n) own
              ∙ (ap (λ (f : SubmitFault). w.Refused (w.Unwanted f) n) (sym (why_is ∙ why))
              ∙ ap (λ (k : ℕ). w.Refused (w.Unwanted (why_of node.topology node.packages what (read_at m s.list what (length s.list)) now)) k) long),
          refl,
        )

  -- it stays a participant while the log goes on
  module _ (m : Machine) (p : ParticipantId) (given : IsParticipant m p node s) where
    pub stays_one : (s' : Sequenced) → GoesOn s s' → SequencerBehind m s'.list → IsParticipant m p after s'
    stays_one s' on behind =
        let read = all_read m p node s given after is in over_more m p after after s s' read on behind read.is read.inbox read.has
