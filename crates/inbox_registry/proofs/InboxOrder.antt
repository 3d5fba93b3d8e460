-- An inbox is in order: its times rise, and each verdict stands behind its request.
use Rattle.std.proofs.Common.{◌≡◌, ℕ, zero, suc, ◌<◌, ◌≤◌, Bool, true, false, List, [], ◌∷◌, ◌++◌, length, take, Option, Some, None, refl, subst, arith}
use Rattle.std.specs.Prelude.{if◌then◌else◌}
use Rattle.ledger_model.specs.Terms.{ParticipantId}
use Rattle.canton_model.specs.Log.{request_at, FollowsTime, TimesFrom}
use Rattle.canton_model.specs.declared.entry.Entry.{Entry}
use Rattle.canton_model.specs.declared.message.Message.{Message}
use Rattle.canton_model.specs.declared.message.Message.TheVariants.{Request as RequestMessage, Response as ResponseMessage, Verdict as VerdictMessage, Tick}
use Rattle.canton_model.specs.declared.request.Request.{Request}
use Rattle.canton_model.specs.Reading.{Reading, is_recipient}
use Rattle.canton_model.specs.Inbox.{Received, Told, Nothing, notice_of, received, verdict_content, content_of, items_after, inbox, verdict_in}
use Rattle.inbox_registry.specs.Order.{AllLater, Rise, IsBelow, VerdictsBehind, IsInOrder}
use Rattle.inbox_registry.proofs.Grown.{one_longer}

follows : (m : Message) (before time : ℕ) → FollowsTime m before time → before < time
follows (RequestMessage q) before time h = omega (arith, h)
follows (ResponseMessage q) before time h = omega (arith, h)
follows (VerdictMessage v) before time h = omega (arith, h)
follows Tick before time h = h

request_within : (log : List Entry) (m : ℕ) (q : Request) → request_at log m ≡ Some q → m < length log
request_within [] m q e = absurd (cc)
request_within (entry ∷ log) zero q e = omega arith
request_within (entry ∷ log) (suc m) q e = let h = request_within log m q e in omega (arith, h)

times_taken : (n before : ℕ) (log : List Entry) → TimesFrom before log → TimesFrom before (take n log)
times_taken zero before log h = tt
times_taken (suc n) before [] h = tt
times_taken (suc n) before (entry ∷ log) h = (h.0, times_taken n entry.time log h.1)

module _ (reading : Reading) (p : ParticipantId) where
  none_received : (n : ℕ) (q : Request) → IsBelow n (verdict_in (received reading p q))
  none_received n q = by (is_recipient reading p q)
    where
      by : (b : Bool) → IsBelow n (verdict_in (if b then Received (notice_of reading p q) else Nothing))
      by true = tt
      by false = tt

  content_below : (before : List Entry) (m : Message) → IsBelow (length before) (verdict_in (content_of reading p before m))
  content_below before (RequestMessage q) = none_received (length before) q
  content_below before (ResponseMessage q) = tt
  content_below before Tick = tt
  content_below before (VerdictMessage v) = by (request_at before v.request) refl
    where
      told : (b : Bool) → v.request < length before → IsBelow (length before) (verdict_in (if b then Told v else Nothing))
      told true lt = lt
      told false lt = tt

      by : (o : Option Request) → request_at before v.request ≡ o → IsBelow (length before) (verdict_in (verdict_content reading p v o))
      by None e = tt
      by (Some q) e = told (is_recipient reading p q) (request_within before v.request q e)

  pub behind_after : (before rest : List Entry) → VerdictsBehind (length before) (items_after reading p before rest)
  behind_after before [] = tt
  behind_after before (entry ∷ rest) = (
    content_below before entry.message,
    subst (λ (k : ℕ). VerdictsBehind k (items_after reading p (before ++ entry ∷ []) rest)) (one_longer before entry) (behind_after (before ++ entry ∷ []) rest),
  )

  all_later : (t b : ℕ) (before rest : List Entry) → t ≤ b → TimesFrom b rest → AllLater t (items_after reading p before rest)
  all_later t b before [] le h = tt
  all_later t b before (entry ∷ rest) le h =
      let lt = follows entry.message b entry.time h.0 in
      (omega (arith, lt, le), all_later t entry.time (before ++ entry ∷ []) rest (omega (arith, lt, le)) h.1)

  rise_after : (b : ℕ) (before rest : List Entry) → TimesFrom b rest → Rise (items_after reading p before rest)
  rise_after b before [] h = tt
  rise_after b before (entry ∷ rest) h =
      (all_later entry.time entry.time (before ++ entry ∷ []) rest (omega arith) h.1, rise_after entry.time (before ++ entry ∷ []) rest h.1)

  pub inbox_in_order : (n : ℕ) (log : List Entry) → TimesFrom 0 log → IsInOrder (inbox reading p (take n log))
  inbox_in_order n log h = record { rise = rise_after 0 [] (take n log) (times_taken n 0 log h); behind = behind_after [] (take n log) }
