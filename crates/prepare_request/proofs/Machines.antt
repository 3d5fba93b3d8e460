-- What is prepared makes a machine.
use Rattle.std.proofs.Common.{◌≡◌, ◌≢◌, ℕ, Bool, true, ◌&&◌, if◌then◌else◌, length, List, Option, Some, None, Result, Ok, Err, MatchResult, refl, sym, ap, ◌∙◌, subst}
use Rattle.std.specs.Prelude.{nat_lt}
use Rattle.std.proofs.lemmas.Bool.{and_from, lt-ltb}
use Rattle.ledger_terms.specs.declared.known.Known.{Known}
use Rattle.ledger_terms.specs.declared.submission.Submission.{Submission}
use Rattle.ledger_terms.specs.declared.topology.Topology.{Topology}
use Rattle.ledger_terms.specs.declared.tx.Tx.{Tx}
use Rattle.canton_model.specs.Inbox.{Item, inbox}
use Rattle.canton_model.specs.declared.request.Request.{Request}
use Rattle.world_model.specs.Machine.{IsMachine}
use Rattle.lang_eval.specs.Found.{Packages}
use Rattle.sealed_form.specs.SealedForm.{CanBeSealed}
use Rattle.sealed_form.proofs.Decided.{can_decides}
use Rattle.framed_form.specs.Framed.{is_framed}
use Rattle.framed_form.specs.FramedReading.{framed_reading}
use Rattle.framed_form.proofs.Lawful.{lawful}
use Rattle.prepare_request.specs.Machine.{Offered, can_seal, if_framed, is_within, fault_in, machine_over, prepare_over, why_over}
use Rattle.prepare_request.specs.Prepared.{prepared, wanted_tx, whole_for}
use Rattle.prepare_request.specs.Within.{IsWithin}
use Rattle.prepare_request.specs.declared.submit_fault.SubmitFault.{SubmitFault}
use Rattle.prepare_request.specs.declared.submit_fault.SubmitFault.TheVariants.{Memory}
use Rattle.prepare_request.proofs.Wanted.{framed_if_wanted, never, prepared_if_wanted}
use Rattle.prepare_request.proofs.Wants.{steps}

module _ (topology : Topology) (packages : Packages) where
  pub machine : (capacity : ℕ) (offered : Offered) → IsMachine (machine_over topology packages capacity offered)
  machine capacity offered =
      record {
        is_reading = lawful topology packages;
        prepares = λ what log now request genuine e.
            (let items = inbox (framed_reading topology packages) what.participant log in
            let is = prepared_if_wanted topology packages offered what items now request e in
            let s = steps topology packages what.participant (offered what.participant items) what now request is in
            record {
              is_framed = framed_if_wanted topology packages offered what items now request e;
              sender = ap (λ (r : Request). r.sender) s.request_is;
              command = ap (λ (r : Request). r.command) s.request_is;
            });
      }

  -- a submission within the topology is within it by the test
  within_tests : (me : ℕ) (known : List Known) (what : Submission) → what.participant ≡ me → IsWithin topology packages me known what
      → is_within topology packages what ≡ true
  within_tests me known what same w =
      all_three
      (ap (λ p. nat_lt p (length topology.hosts)) same ∙ lt-ltb me (length topology.hosts) w.is_host) w.named_by_packages w.named_by_input
    where
      all_three : {a b c : Bool} → a ≡ true → b ≡ true → c ≡ true → (a && (b && c)) ≡ true
      all_three e f g = rw (e, f, g) refl

  module _ (me : ℕ) (known : List Known) (what : Submission) (now : ℕ) (within : IsWithin topology packages me known what)
      (offered : Offered) (items : List Item) (own : what.participant ≡ me) (offers : offered me items ≡ known) where
    abbrev wanted : Result Tx SubmitFault
    wanted = wanted_tx topology packages me known what now

    abbrev given : Result Tx SubmitFault → Result Request SubmitFault → Option Request
    given w answer = if (is_within topology packages what && can_seal topology packages me w) then if_framed topology answer else None

    asked : prepare_over topology packages offered what items now ≡ given wanted (prepared topology packages me known what now)
    asked =
        ap (λ p. if (is_within topology packages what && can_seal topology packages p (wanted_tx topology packages p (offered p items) what now))
        then if_framed topology (prepared topology packages p (offered p items) what now) else None) own
        ∙ ap (λ k. if (is_within topology packages what && can_seal topology packages me (wanted_tx topology packages me k what now))
        then if_framed topology (prepared topology packages me k what now) else None) offers

    pub gives : (tx : Tx) (request : Request) → wanted_tx topology packages me known what now ≡ Ok tx → CanBeSealed topology packages me (whole_for topology me tx)
        → prepared topology packages me known what now ≡ Ok request → is_framed topology request ≡ true
        → prepare_over topology packages offered what items now ≡ Some request
    gives tx request is_tx can e framed =
        let seals : can_seal topology packages me wanted ≡ true = ap (can_seal topology packages me) is_tx ∙ (can_decides topology packages me (whole_for topology me tx)).1 can in
        asked
        ∙ (ap (λ (b : Bool). if b then if_framed topology (prepared topology packages me known what now) else None)
        (and_from (is_within topology packages what) (can_seal topology packages me wanted) (within_tests me known what own within) seals)
        ∙ (ap (if_framed topology) e ∙ (λ i. if framed i then Some request else None)))

    pub says : (fault : SubmitFault) → prepared topology packages me known what now ≡ Err fault
        → why_over topology packages offered what items now ≡ fault
    says fault e =
        ap (λ p. fault_in (prepared topology packages p (offered p items) what now)) own
        ∙ (ap (λ k. fault_in (prepared topology packages me k what now)) offers ∙ ap fault_in e)

    pub gives_none : (fault : SubmitFault) → prepared topology packages me known what now ≡ Err fault
        → prepare_over topology packages offered what items now ≡ None
    gives_none fault e = asked ∙ (ap (given wanted) e ∙ never topology packages (is_within topology packages what && can_seal topology packages me wanted))

    -- what a refusal says of the machine
    pub refuses : (result : Result Request SubmitFault) (fault : SubmitFault) → result ≡ Err fault
        → (fault ≢ Memory → prepared topology packages me known what now ≡ Err fault)
        → MatchResult result (λ request. prepare_over topology packages offered what items now ≡ Some request)
        (λ f. f ≢ Memory → (prepare_over topology packages offered what items now ≡ None) × (why_over topology packages offered what items now ≡ f))
    refuses result fault is exact =
        subst
        (λ (r : Result Request SubmitFault). MatchResult r (λ request. prepare_over topology packages offered what items now ≡ Some request)
        (λ f. f ≢ Memory → (prepare_over topology packages offered what items now ≡ None) × (why_over topology packages offered what items now ≡ f)))
        (sym is) (λ some. (gives_none fault (exact some), says fault (exact some)))
