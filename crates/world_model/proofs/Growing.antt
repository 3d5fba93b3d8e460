-- What a result says over a beginning of a log it says over the log, and a decision stays.
use Rattle.std.proofs.Common.{◌≡◌, ℕ, ◌≤◌, Bool, true, false, List, ◌++◌, take, length, Option, Some, None, sym, ap, ◌∙◌, inl, inr, arith}
use Rattle.std.specs.Prelude.{Contains}
use Rattle.std.specs.List.{list_any}
use Rattle.std.proofs.lemmas.List.{take-append-le, map-append}
use Rattle.ledger_terms.specs.declared.submission.Submission.{Submission}
use Rattle.world_model.specs.Messages.{Entry, Request, Decision}
use Rattle.canton_model.specs.Timeline.{Decided, outcome_from, outcome_of, moment_of, timeline_of, verdict_on, is_past, or_else}
use Rattle.canton_model.specs.Inbox.{Item, inbox}
use Rattle.canton_model.specs.Genuine.{is_request_of}
use Rattle.canton_model.proofs.Decided.{verdict_on_append}
use Rattle.world_model.specs.Machine.{Machine}
use Rattle.world_model.specs.Sequencing.{reserved}
use Rattle.world_model.specs.Rounds.{Round, SubmitFault, Paused, Unwanted, Duplicate, LogFull, SubmitResult, Sent, Refused, Results, Why, read_of}
use Rattle.world_model.specs.Rounds.{read_at, wanted_at, AnswerHolds, RefusalHolds, ResultHolds}
use Rattle.world_model.proofs.Grown.{request_grown, request_within}

-- decisions
decided_is : (o : Option Decision) (past : Bool) (d : Decision) → outcome_from o past ≡ Decided d → o ≡ Some d
decided_is (Some e) past d h = let same : e ≡ d = cc in ap Some same
decided_is None true d h = cc
decided_is None false d h = cc

first_of : (o later : Option Decision) (d : Decision) → o ≡ Some d → or_else o later ≡ Some d
first_of o later d e = ap (λ (x : Option Decision). or_else x later) e

pub outcome_stays : (log more : List Entry) (k before after : ℕ) (d : Decision) → outcome_of (timeline_of log) k before ≡ Decided d
    → outcome_of (timeline_of (log ++ more)) k after ≡ Decided d
outcome_stays log more k before after d h =
    let there = decided_is (verdict_on k (timeline_of log)) (is_past before (timeline_of log)) d h in
    let still : verdict_on k (timeline_of (log ++ more)) ≡ Some d =
    ap (verdict_on k) (map-append moment_of log more)
    ∙ (verdict_on_append k (timeline_of log) (timeline_of more) ∙ first_of (verdict_on k (timeline_of log)) (verdict_on k (timeline_of more)) d there) in
    ap (λ (o : Option Decision). outcome_from o (is_past after (timeline_of (log ++ more)))) still

-- results
module _ {F : Type 0} (m : Machine) (why : Why F) (now : ℕ) (round : Round) (raws : List Request) (list more : List Entry) (end end' : ℕ)
    (inside : end ≤ length list)
    (later : end ≤ end') (earlier earlier' : Results F) (what : Submission) where
  front : (n : ℕ) → n ≤ end → take n (list ++ more) ≡ take n list
  front n le = take-append-le n list more (omega (arith, le, inside))

  read_same : (n : ℕ) → n ≤ end → read_at m (list ++ more) what n ≡ read_at m list what n
  read_same n le = ap (inbox m.reading what.participant) (front n le)

  wanted_same : (n : ℕ) → n ≤ end → wanted_at m now (list ++ more) what n ≡ wanted_at m now list what n
  wanted_same n le = ap (λ (items : List Item). m.prepare what items now) (read_same n le)

  module _ (wider : (x : Submission × SubmitResult F) → Contains earlier x → Contains earlier' x) where
    refusal_grown : (fault : SubmitFault F) (n : ℕ) → n ≤ end → RefusalHolds m why now round raws list end earlier what fault n
        → RefusalHolds m why now round raws (list ++ more) end' earlier' what fault n
    refusal_grown Paused n le h = h
    refusal_grown (Unwanted fault) n le h = (wanted_same n le ∙ h.0, ap (λ (items : List Item). why what items now) (read_same n le) ∙ h.1)
    refusal_grown (Duplicate place) n le h =
        record {
          request = h.request;
          wanted = wanted_same n le ∙ h.wanted;
          first = h.first;
          there = request_grown list more place (request_within list place h.first h.there) ∙ h.there;
          known = elim h.known [ inl sent ↦ inl (sent.0, sent.1, wider _ sent.2) | inr raw ↦ inr raw ];
          sender = h.sender;
          command = h.command;
        }
    refusal_grown (LogFull amount need) n le h =
        let most = h.at_most in
        record {
          request = h.request;
          wanted = wanted_same n le ∙ h.wanted;
          needs = h.needs;
          some = h.some;
          at_least = h.at_least;
          at_most = omega arith;
          amount_is = h.amount_is ∙ ap reserved (sym (front h.some h.at_most));
          full = h.full;
          fresh = ap (list_any (λ (x : Entry). is_request_of (h.request).sender (h.request).command x.message)) (front h.some h.at_most) ∙ h.fresh;
        }

    answer_grown : (result : SubmitResult F) → read_of result ≤ end → AnswerHolds m why now round raws list end earlier what result
        → AnswerHolds m why now round raws (list ++ more) end' earlier' what result
    answer_grown (Refused fault n) le h = refusal_grown fault n le h
    answer_grown (Sent place n) le h =
        let below = h.in_part in
        record {
          request = h.request;
          there = request_grown list more place (omega (arith, inside)) ∙ h.there;
          wanted = wanted_same n le ∙ h.wanted;
          read_before = h.read_before;
          in_part = omega arith;
        }

    pub result_grown : (start : ℕ) (result : SubmitResult F)
        → ((before : Submission) (place n : ℕ) → Contains earlier' (before, Sent place n) → before.participant ≡ what.participant
        → Contains earlier (before, Sent place n)) → ResultHolds m why now round raws list start end earlier what result
        → ResultHolds m why now round raws (list ++ more) start end' earlier' what result
    result_grown start result own h =
        let le = h.within in
        record {
          answer = answer_grown result h.within h.answer;
          within = omega arith;
          read = λ awake.
              let r = h.read awake in
              record { after_start = r.after_start; after_sent = λ before place n c same. r.after_sent before place n (own before place n c same) same };
          paused = h.paused;
        }
