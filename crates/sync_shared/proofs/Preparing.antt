-- What a participant behind its lock answers to a submission.
use Rattle.std.proofs.Common.{◌≡◌, ◌≢◌, ℕ, ◌<◌, true, false, List, length, Option, Some, None, Result, refl, sym, ap, ◌∙◌, subst}
use Rattle.std.specs.Prelude.{Ok, Err, IfOk, IfErr, MatchResult}
use Rattle.ledger_terms.specs.Answers.{Follows}
use Rattle.ledger_terms.specs.Topologies.{IsValid}
use Rattle.ledger_terms.specs.declared.known.Known.{Known}
use Rattle.ledger_terms.specs.declared.submission.Submission.{Submission}
use Rattle.ledger_terms.specs.declared.topology.Topology.{Topology}
use Rattle.ledger_model.specs.Terms.{ParticipantId}
use Rattle.lang_eval.specs.Found.{Packages}
use Rattle.lang_eval.specs.Named.{AreKnown, parties_in_packages}
use Rattle.canton_model.specs.Inbox.{Item, inbox}
use Rattle.canton_model.specs.Reading.{Reading}
use Rattle.sealed_form.specs.Within.{is_hosted}
use Rattle.world_model.specs.Messages.{Entry, Request}
use Rattle.world_model.specs.Machine.{Machine}
use Rattle.world_model.specs.Lawful.{NodeHas}
use Rattle.world_model.specs.Rounds as r
use Rattle.world_model.specs.Rounds.{Why}
use Rattle.prepare_request.specs.Causes.{HasCause}
use Rattle.prepare_request.specs.Machine.{prepare_over, why_over}
use Rattle.prepare_request.specs.Prepared.{prepared}
use Rattle.prepare_request.specs.Within.{IsWithin, parties_in_what}
use Rattle.prepare_request.specs.declared.submit_fault.SubmitFault.{SubmitFault}
use Rattle.prepare_request.specs.declared.submit_fault.SubmitFault.TheVariants.{Paused, NotHosted, Command, Split, Duplicate, LogFull, Memory}
use Rattle.node_core.specs.Participant.{HasRead, IsPrunedTo, Participant as NodeValue, reading_of, whole_state}
use Rattle.node_core.specs.Preparing.{offered_by, prepare_answer}
use Rattle.node_core.specs.Answers.{IsOf}
use Rattle.node_core.specs.Bases.{Bases}
use Rattle.node_core.proofs.Alike.{offers_known}
use Rattle.node_core.proofs.OverLog.{offered_is}
use Rattle.node_core.specs.Machines.{offered_in, wanted_request, why_of}
use Rattle.sync_shared.specs.Answers.{fault_of}
use Rattle.sync_shared.specs.Behind.{IsNodeBehind}
use Rattle.sync_shared.proofs.Nodes.{own_inbox}

-- a fault that has a cause is that of a submission that wants no request
module _ (topology : Topology) (packages : Packages) (me : ℕ) (known : List Known) (what : Submission) (now : ℕ) where
  pub is_unwanted : (fault : SubmitFault) → HasCause topology packages me known what now fault → fault_of fault ≡ Some (r.Unwanted fault)
  is_unwanted (NotHosted party) c = refl
  is_unwanted (Command fault) c = refl
  is_unwanted (Split fault) c = refl
  is_unwanted Paused c = absurd c
  is_unwanted (Duplicate place) c = absurd c
  is_unwanted (LogFull reserved need) c = absurd c
  is_unwanted Memory c = absurd c

  pub is_no_pause : (fault : SubmitFault) → HasCause topology packages me known what now fault → fault ≢ Paused
  is_no_pause fault c e = subst (HasCause topology packages me known what now) e c

module _ (topology : Topology) (packages : Packages) (m : Machine) (why : Why SubmitFault) (bases : Bases) (p : ParticipantId) (list : List Entry)
    (node : NodeValue) (b : IsNodeBehind topology packages m why bases p list node) (what : Submission) (now : ℕ) (mine : what.participant ≡ p) where
  pub own : what.participant ≡ node.me
  own = mine ∙ sym (b.is).me

  pub is_valid : IsValid node.topology
  is_valid = subst IsValid (sym b.own_topology) (b.set_up).valid

  abbrev pub read : List Item
  read = inbox m.reading p list

  is_of : IsOf m node
  is_of = record { reading = sym (b.is).reading; params = sym (b.is).params }

  has_own : HasRead m list node
  has_own =
      let same = own_inbox topology packages m why bases p list node b list in
      record {
        node = subst (λ (items : List Item). NodeHas m node.me list (whole_state node items)) same
            (subst (λ (i : ParticipantId). NodeHas m i list (whole_state node read)) (sym (b.is).me) (b.behind).has);
        pruned = subst (λ (items : List Item). IsPrunedTo items node) same (b.inbox).pruned;
      }

  -- what it offers is what it would with its whole inbox
  pub offers_this : offered_in node.topology node.packages node.me read ≡ offered_by node
  offers_this = sym (offered_is read node b.inbox)

  pub is_within : AreKnown (is_hosted topology) (parties_in_what what.what) → IsWithin node.topology node.packages node.me (offered_by node) what
  is_within named =
      record {
        is_host = subst (λ (i : ParticipantId). i < length (node.topology).hosts) (sym (b.is).me)
            (subst (λ (t : Topology). p < length t.hosts) (sym b.own_topology) b.is_host);
        named_by_packages = subst (λ (t : Topology). AreKnown (is_hosted t) (parties_in_packages node.packages)) (sym b.own_topology)
            (subst (λ (k : Packages). AreKnown (is_hosted topology) (parties_in_packages k)) (sym b.own_packages) (b.set_up).named);
        named_by_known = offers_known m node list has_own is_of (b.behind).genuine;
        named_by_input = subst (λ (t : Topology). AreKnown (is_hosted t) (parties_in_what what.what)) (sym b.own_topology) named;
      }

  by_machine : (answer : Option Request) → wanted_request node.topology node.packages what read now ≡ answer → m.prepare what read now ≡ answer
  by_machine answer e = ap (λ (f : Submission → List Item → ℕ → Option Request). f what read now) (b.is).prepares ∙ e

  by_why : (fault : SubmitFault) → why_of node.topology node.packages what read now ≡ fault → why what read now ≡ fault
  by_why fault e =
      ap (λ (f : Why SubmitFault). f what read now) (b.set_up).why_is
      ∙ (ap (λ (t : Topology). why_of t packages what read now) (sym b.own_topology)
      ∙ (ap (λ (k : Packages). why_of node.topology k what read now) (sym b.own_packages) ∙ e))

  pub is_framed : {X : Type 0} (answer : Result Request X) → IfOk answer (λ q. (reading_of node).is_framed q ≡ true) → IfOk answer (λ q. m.reading.is_framed q ≡ true)
  is_framed (Ok q) h = subst (λ (r : Reading). r.is_framed q ≡ true) (b.is).reading h
  is_framed (Err fault) h = h

  pub is_mine : {X : Type 0} (answer : Result Request X) → IfOk answer (λ q. q.sender ≡ node.me) → IfOk answer (λ q. q.sender ≡ p)
  is_mine (Ok q) h = h ∙ (b.is).me
  is_mine (Err fault) h = h

  abbrev Tells : Result Request SubmitFault → Type 0
  Tells answer =
      MatchResult answer (λ q. prepare_over node.topology node.packages (offered_in node.topology node.packages) what read now ≡ Some q)
      (λ fault. fault ≢ Memory → fault ≢ Paused
      → (prepare_over node.topology node.packages (offered_in node.topology node.packages) what read now ≡ None)
      × (why_over node.topology node.packages (offered_in node.topology node.packages) what read now ≡ fault))

  pub is_wanted : (answer : Result Request SubmitFault) → Tells answer → IfOk answer (λ q. m.prepare what read now ≡ Some q)
  is_wanted (Ok q) h = by_machine (Some q) h
  is_wanted (Err fault) h = tt

  pub no_request : ((t : Topology) (k : Packages) (me : ℕ) (known : List Known) (w : Submission) (n : ℕ) (fault : SubmitFault)
      → prepared t k me known w n ≡ Err fault → HasCause t k me known w n fault)
      → (node.state).is_paused ≡ false → (answer : Result Request SubmitFault) → Follows Memory answer (prepare_answer node what now) → Tells answer
      → IfErr answer (λ fault. fault ≢ Memory → (m.prepare what read now ≡ None) × (why what read now ≡ fault) × (fault_of fault ≡ Some (r.Unwanted fault)))
  no_request law awake (Ok q) exact tells = tt
  no_request law awake (Err fault) exact tells = λ some.
      let whole : prepare_answer node what now ≡ Err fault = exact some in
      let answer : prepared node.topology node.packages node.me (offered_by node) what now ≡ Err fault = rw awake at whole in
      let cause = law node.topology node.packages node.me (offered_by node) what now fault answer in
      let told = tells some (is_no_pause node.topology node.packages node.me (offered_by node) what now fault cause) in (
        by_machine None told.0,
        by_why fault told.1,
        is_unwanted node.topology node.packages node.me (offered_by node) what now fault cause,
      )
