-- What holds of every genuine log, from the laws of the protocol.
use Rattle.std.proofs.Common.{◌≡◌, ℕ, suc, ◌<◌, false, List, take, length, refl, inl, inr}
use Rattle.ledger_model.specs.Terms.{Act, ParticipantId, id_of}
use Rattle.canton_model.specs.Log.{Params, decision_time_of}
use Rattle.world_model.specs.Messages.{Entry}
use Rattle.canton_model.specs.Timeline.{timeline_of, outcome_of}
use Rattle.canton_model.specs.Reading.{Reading}
use Rattle.canton_model.specs.Inbox.{inbox, is_locked_in_inbox, status_in_inbox}
use Rattle.canton_model.specs.Ledger.{status_in}
use Rattle.canton_model.specs.Genuine.{Genuine, IsReading, NoCollision}
use Rattle.ledger_model.proofs.Lists.{in_from_Contains}
use Rattle.canton_model.proofs.HostLaw.{locked_in_log, status_of_guard, status_of_host}
use Rattle.canton_model.proofs.InboxGrows.{node_log_of_inbox, withheld_of_inbox}
use Rattle.canton_model.proofs.FromGenuine.{consistent_of_log}
use Rattle.canton_model.proofs.ActiveSets.{active_sets}
use Rattle.canton_model.proofs.Approved.{conforms_and_authorised, sound_of, opens_of}
use Rattle.canton_model.proofs.Outcomes.{local_cause_holds, cause_holds}
use Rattle.world_model.specs.Headline.{IsOpenedTo, IsToldOf, OneLedger, Headline}

module _ (reading : Reading) (params : Params) (log : List Entry) (is : IsReading reading) (genuine : Genuine reading params log) where
  module _ (distinct : NoCollision reading log) where
    status : (p : ParticipantId) (k : ℕ) (a : Act) → k < length log → IsOpenedTo reading log a → IsToldOf reading log p k a
        → is_locked_in_inbox reading params (inbox reading p (take (suc k) log)) k (id_of a.action) ≡ false
        → status_in_inbox reading (inbox reading p (take (suc k) log)) k (id_of a.action) ≡ status_in reading log k (id_of a.action)
    status p k a lt o (inl signs) free =
        status_of_guard reading params log is genuine distinct p o.participant o.place a (in_from_Contains _ a o.opened) o.authentic signs k lt free
    status p k a lt o (inr hosts) free =
        status_of_host reading params log is genuine distinct p o.participant o.place a (in_from_Contains _ a o.opened) o.authentic hosts.0 k hosts.1 lt free

    one_ledger : OneLedger reading params log
    one_ledger =
        record {
          consistent = consistent_of_log reading params log is genuine distinct;
          whole = λ k request ok at. let s = sound_of reading params log is genuine distinct k request ok at in (s.transaction, s.is_whole);
          conform = λ k commit ok e. (conforms_and_authorised reading params log is genuine distinct k commit ok e).0;
          authorised = λ k commit ok e. (conforms_and_authorised reading params log is genuine distinct k commit ok e).1;
          projected = λ p n within. node_log_of_inbox reading params log p n genuine.timely (opens_of reading params log is genuine distinct p) within;
          active = λ p n within. active_sets reading params log is genuine distinct p n within;
          caused = λ j. cause_holds reading params log is genuine distinct j (outcome_of (timeline_of log) j (decision_time_of params log j)) refl;
          status = status;
        }

  pub headline : Headline reading params log
  headline =
      record {
        caused = λ j. local_cause_holds reading params log is genuine j (outcome_of (timeline_of log) j (decision_time_of params log j)) refl;
        locked = λ p k c h. locked_in_log reading params log genuine.timely p k c h;
        withheld = λ p n k within lt. withheld_of_inbox reading params log p n genuine.timely within k lt;
        one_ledger = one_ledger;
      }
