-- The moments between the parts of one event: what a thread holds there stays true of every longer list, so whatever other
-- threads do between, the log stays genuine and what lies behind each lock stays so.
use Rattle.std.proofs.Common.{◌≡◌, ℕ, suc, ◌<◌, true, List, [], ◌++◌, length, Option, sym, ap, ◌∙◌, subst, arith}
use Rattle.std.proofs.lemmas.List.{length-append, take-append-le}
use Rattle.ledger_terms.specs.declared.submission.Submission.{Submission}
use Rattle.ledger_model.specs.Terms.{ParticipantId}
use Rattle.canton_model.specs.Log.{Params}
use Rattle.world_model.specs.Messages.{Entry, RequestMessage, ResponseMessage, VerdictMessage, Request, Response, Verdict}
use Rattle.canton_model.specs.Reading.{Reading}
use Rattle.canton_model.specs.Inbox.{Item, notice_in, items_after, inbox}
use Rattle.canton_model.specs.Checks.{verdicts_owed}
use Rattle.world_model.specs.Machine.{Machine, GenuineLog, IsMachine, confirms_some_view}
use Rattle.world_model.specs.Sequencing.{sequenced}
use Rattle.world_model.specs.Fits.{IsOwed, IsDecision}
use Rattle.world_model.specs.Node.{NodeState, owes_at, owed_at, response_at, finish}
use Rattle.world_model.specs.Lawful.{NodeHas}
use Rattle.world_model.specs.Locks.{Prepared, NodeBehind, Claimed}
use Rattle.canton_model.proofs.LongerLogs.{scan_grown}
use Rattle.world_model.proofs.Grown.{slice_get_left, owed_stands}
use Rattle.world_model.proofs.Appended.{sequenced_keeps}
use Rattle.world_model.proofs.NodeFacts.{inbox_length, inbox_append}
use Rattle.world_model.proofs.Steps.{has_finish}

-- what is owed by the items up to the place
module _ (reading : Reading) (params : Params) (p : ParticipantId) (items more : List Item) (k : ℕ) (lt : k < length items) where
  pub owed_stays : owed_at reading params p (items ++ more) k ≡ owed_at reading params p items k
  owed_stays = ap (λ (its : List Item). verdicts_owed reading params p its k) (take-append-le (suc k) items more (omega (arith, lt)))

  pub owes_stays : owes_at reading p (items ++ more) k ≡ owes_at reading p items k
  owes_stays = ap (λ (o : Option Item). confirms_some_view (notice_in o)) (slice_get_left items more k lt)

pub reply_lands : (m : Machine) (now : ℕ) (list more : List Entry) (r : Response) → IsOwed m.reading m.params list r → GenuineLog m (list ++ more)
    → GenuineLog m (sequenced m now (list ++ more) (ResponseMessage r))
reply_lands m now list more r owed g = sequenced_keeps m now (list ++ more) (ResponseMessage r) g (owed_stands m.reading m.params list more r owed)

pub verdict_lands : (m : Machine) (now : ℕ) (list more : List Entry) (v : Verdict) → IsDecision m.params list v → GenuineLog m (list ++ more)
    → GenuineLog m (sequenced m now (list ++ more) (VerdictMessage v))
verdict_lands m now list more v decided g =
    sequenced_keeps m now (list ++ more) (VerdictMessage v) g (scan_grown m.params list more v.request v.decision decided)

pub request_lands : (m : Machine) (now then' : ℕ) (list log : List Entry) (what : Submission) (q : Request) → IsMachine m
    → Prepared m then' list what q → GenuineLog m log → GenuineLog m (sequenced m now log (RequestMessage q))
request_lands m now then' list log what q machine h g =
    sequenced_keeps m now log (RequestMessage q) g tt

-- a job that was claimed over a shorter list
module _ (m : Machine) (p : ParticipantId) (list more : List Entry) (k : ℕ) (c : Claimed m p list k) where
  abbrev short : List Item
  short = inbox m.reading p list

  abbrev rest : List Item
  rest = items_after m.reading p list more

  within : k < length short
  within = let l = inbox_length m.reading p [] list in let lt = c.is_read in omega arith

  pub same_verdicts : owed_at m.reading m.params p (inbox m.reading p (list ++ more)) k ≡ owed_at m.reading m.params p (inbox m.reading p list) k
  same_verdicts =
      ap (λ (items : List Item). owed_at m.reading m.params p items k) (inbox_append m.reading p [] list more)
      ∙ owed_stays m.reading m.params p short rest k within

  pub job_lands : (node : NodeState) → NodeBehind m p (list ++ more) node
      → NodeBehind m p (list ++ more) (finish node (response_at m.reading m.params p short k))
  job_lands node b =
      let items : node.items ≡ short ++ rest = (b.has).items ∙ inbox_append m.reading p [] list more in
      let long = length-append short rest in
      let total = ap length items in
      let w = within in
      let owes : owes_at m.reading p node.items k ≡ true =
      ap (λ (its : List Item). owes_at m.reading p its k) items ∙ (owes_stays m.reading m.params p short rest k within ∙ c.owes) in
      let same : response_at m.reading m.params p short k ≡ response_at m.reading m.params p node.items k =
      sym (ap (λ (its : List Item). response_at m.reading m.params p its k) items ∙ ap (λ vs. record { from = p; request = k; verdicts = vs })
      (owed_stays m.reading m.params p short rest k within)) in
      record {
        genuine = b.genuine;
        has = subst (λ (r : Response). NodeHas m p (list ++ more) (finish node r)) (sym same) (has_finish m p (list ++ more) node k b.has (omega arith) owes);
      }
