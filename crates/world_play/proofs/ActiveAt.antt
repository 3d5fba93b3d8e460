-- What submissions are answered, by the active contracts of their participants.
use Rattle.std.proofs.Common.{◌≡◌, ◌≢◌, ◌≤◌, ℕ, List, [], take, map, length, Some, Result, Ok, Err, sym, ap, ◌∙◌, arith, length-take}
use Rattle.ledger_terms.specs.declared.active_row.ActiveRow.{ActiveRow}
use Rattle.ledger_terms.specs.declared.known.Known.{Known}
use Rattle.ledger_terms.specs.declared.submission.Submission.{Submission}
use Rattle.ledger_terms.specs.declared.topology.Topology.{Topology}
use Rattle.lang_eval.specs.Found.{Packages}
use Rattle.canton_model.specs.Inbox.{Item, node_active}
use Rattle.framed_form.specs.FramedReading.{framed_reading}
use Rattle.world_model.specs.Messages.{Entry, Request}
use Rattle.world_model.specs.Machine.{Machine}
use Rattle.world_model.specs.Rounds.{AnswerHolds, Results, Round, SubmitResult, Sent, Refused, Paused, Unwanted, Duplicate, LogFull, read_at, read_of}
use Rattle.world_model.specs.Rounds.{wanted_at}
use Rattle.world_model.proofs.NodeFacts.{inbox_length}
use Rattle.prepare_request.specs.Causes.{HasCause, IsRequestOf}
use Rattle.prepare_request.specs.Machine.{fault_in}
use Rattle.prepare_request.specs.Prepared.{prepared}
use Rattle.prepare_request.specs.declared.submit_fault.SubmitFault.{SubmitFault}
use Rattle.prepare_request.specs.declared.submit_fault.SubmitFault.TheVariants.{Memory}
use Rattle.prepare_request.proofs.Wanted.{prepared_if_wanted}
use Rattle.node_core.specs.Machines.{machine_of, offered_in, why_of}
use Rattle.world_play.specs.ActiveAt.{IsAnsweredBy, Wants, active_at}

module _ (topology : Topology) (packages : Packages) where
  of_fault : (answer : Result Request SubmitFault) (fault : SubmitFault) → fault_in answer ≡ fault → fault ≢ Memory → answer ≡ Err fault
  of_fault (Ok q) fault h some = absurd (some (sym h))
  of_fault (Err f) fault h some = ap ill h
    where
      ill : SubmitFault → Result Request SubmitFault
      ill f = Err f

  module _ (capacity now : ℕ) (log : List Entry) (what : Submission) (n : ℕ) (le : n ≤ length log) where
    abbrev m : Machine
    m = machine_of topology packages capacity

    abbrev items : List Item
    items = read_at m log what n

    abbrev known : List Known
    known = active_at topology packages log what.participant n

    abbrev answer : List Known → Result Request SubmitFault
    answer ks = prepared topology packages what.participant ks what now

    pub offers : offered_in topology packages what.participant items ≡ known
    offers =
        let long : length items ≡ length (take n log) = inbox_length (framed_reading topology packages) what.participant [] (take n log) in
        let all : length items ≡ n = omega (arith, le, long, length-take n log) in
        ap (λ (k : ℕ). map (λ (a : ActiveRow). a.known) (node_active (framed_reading topology packages) what.participant items k)) all

    pub wants : ((t : Topology) (ps : Packages) (me : ℕ) (ks : List Known) (w : Submission) (time : ℕ) (q : Request) → prepared t ps me ks w time ≡ Ok q
        → IsRequestOf t ps me ks w time q) → (request : Request) → wanted_at m now log what n ≡ Some request
        → Wants topology packages now log what n request
    wants law request wanted =
        law topology packages what.participant known what now request
        (ap answer (sym offers) ∙ prepared_if_wanted topology packages (offered_in topology packages) what items now request wanted)

    has_cause : ((t : Topology) (ps : Packages) (me : ℕ) (ks : List Known) (w : Submission) (time : ℕ) (f : SubmitFault)
        → prepared t ps me ks w time ≡ Err f → HasCause t ps me ks w time f) → (fault : SubmitFault)
        → why_of topology packages what items now ≡ fault → fault ≢ Memory → HasCause topology packages what.participant known what now fault
    has_cause law fault why some =
        law topology packages what.participant known what now fault
        (ap answer (sym offers) ∙ of_fault (answer (offered_in topology packages what.participant items)) fault why some)

-- each answer
module _ (wanted_law : (t : Topology) (ps : Packages) (me : ℕ) (ks : List Known) (w : Submission) (time : ℕ) (q : Request)
    → prepared t ps me ks w time ≡ Ok q → IsRequestOf t ps me ks w time q)
    (cause_law : (t : Topology) (ps : Packages) (me : ℕ) (ks : List Known) (w : Submission) (time : ℕ) (f : SubmitFault)
    → prepared t ps me ks w time ≡ Err f → HasCause t ps me ks w time f)
    (topology : Topology) (packages : Packages) (capacity now : ℕ) (round : Round) (raws : List Request) (log : List Entry) (end : ℕ)
    (earlier : Results SubmitFault) (what : Submission) where
  pub answered_by : (result : SubmitResult SubmitFault)
      → AnswerHolds (machine_of topology packages capacity) (why_of topology packages) now round raws log end earlier what result
      → read_of result ≤ length log → IsAnsweredBy topology packages now log what result
  answered_by (Sent place n) h le = (h.request, h.there, wants topology packages capacity now log what n le wanted_law h.request h.wanted)
  answered_by (Refused Paused n) h le = tt
  answered_by (Refused (Unwanted fault) n) h le = λ some.
      has_cause topology packages capacity now log what n le cause_law fault h.1 some
  answered_by (Refused (Duplicate place) n) h le =
      (h.request, wants topology packages capacity now log what n le wanted_law h.request h.wanted, h.first, h.there, h.sender, h.command)
  answered_by (Refused (LogFull amount need) n) h le =
      (h.request, wants topology packages capacity now log what n le wanted_law h.request h.wanted, h.needs)
