-- A log that is read again.
use Rattle.std.proofs.Common.{◌≡◌, ℕ, zero, suc, ◌+◌, ◌<◌, ◌≤◌, ◌^◌, true, List, [], ◌∷◌, ◌++◌, take, length, Some, refl, sym, ap, ◌∙◌, subst, arith}
use Rattle.std.specs.Prelude.{slice_get, slice_index_or}
use Rattle.std.proofs.lemmas.List.{length-take-le, take_all}
use Rattle.std.proofs.lemmas.Option.{none-some, same_Some}
use Rattle.ledger_terms.specs.declared.topology.Topology.{Topology}
use Rattle.lang_eval.specs.Found.{Packages}
use Rattle.ledger_model.specs.Terms.{ParticipantId}
use Rattle.canton_model.specs.Log.{FollowsTime, TimesFrom, request_in, request_of, time_at_end}
use Rattle.canton_model.specs.Reading.{Reading}
use Rattle.canton_model.specs.Genuine.{Genuine}
use Rattle.canton_model.specs.Inbox.{Item, inbox, items_after, last_time}
use Rattle.canton_model.proofs.Fits.{is_framed_at}
use Rattle.world_model.specs.Messages.{Entry, Message, RequestMessage, ResponseMessage, VerdictMessage, Tick, Request}
use Rattle.world_model.proofs.NodeFacts.{inbox_length}
use Rattle.framed_form.specs.FramedReading.{framed_reading}
use Rattle.node_inbox.specs.Entries.{item_from}
use Rattle.node_inbox.specs.InboxState.{InboxState, begun, reading_of, with_item}
use Rattle.node_inbox.proofs.Grows.{inbox_reads}
use Rattle.page_data.specs.Courses.{MayRead, each_knowledge, inbox_over}
use Rattle.page_data.specs.Knowledge.{knowledge_of}
use Rattle.page_data.specs.declared.knowledge.Knowledge.{Knowledge}

-- the last item's time is the last entry's
last_of : (reading : Reading) (p : ParticipantId) (before log : List Entry) → last_time (items_after reading p before log) ≡ time_at_end log
last_of reading p before [] = refl
last_of reading p before (x ∷ []) = refl
last_of reading p before (x ∷ y ∷ log) = last_of reading p (before ++ x ∷ []) (y ∷ log)

later : (message : Message) (before time : ℕ) → FollowsTime message before time → before < time
later Tick before time h = h
later (RequestMessage q) before time h = omega (arith, h)
later (ResponseMessage r) before time h = omega (arith, h)
later (VerdictMessage v) before time h = omega (arith, h)

-- the time at the end of entries behind one of this time
abbrev ends : ℕ → List Entry → ℕ
ends before [] = before
ends before (x ∷ xs) = ends x.time xs

ends_are : (xs : List Entry) → time_at_end xs ≡ ends 0 xs
ends_are [] = refl
ends_are (x ∷ []) = refl
ends_are (x ∷ y ∷ xs) = ends_are (y ∷ xs)

follows : (before : ℕ) (xs : List Entry) (k : ℕ) (e : Entry) → TimesFrom before xs → slice_get xs k ≡ Some e → FollowsTime e.message (ends before (take k xs)) e.time
follows before [] k e h is = absurd (none-some e is)
follows before (x ∷ xs) zero e h is = subst (λ (y : Entry). FollowsTime y.message before y.time) (same_Some x e is) h.0
follows before (x ∷ xs) (suc k) e h is = follows x.time xs k e h.1 is

-- what is indexed stands there
pub got : {X : Type 0} (xs : List X) (i : ℕ) (x : X) → i < length xs → x ≡ slice_index_or xs i x → slice_get xs i ≡ Some x
got [] i x lt is = absurd (omega (arith, lt))
got (y ∷ xs) zero x lt is = ap Some (sym is)
got (y ∷ xs) (suc i) x lt is = got xs i x (omega (arith, lt)) is

take_one : {X : Type 0} (xs : List X) (k : ℕ) (x : X) → slice_get xs k ≡ Some x → take (suc k) xs ≡ take k xs ++ x ∷ []
take_one [] k x e = absurd (none-some x e)
take_one (y ∷ xs) zero x e = ap (λ z. z ∷ []) (same_Some y x e)
take_one (y ∷ xs) (suc k) x e = ap (λ zs. y ∷ zs) (take_one xs k x e)

-- so many entries were read, and what is known before the first and after each was gathered
pub record HasRead (topology : Topology) (packages : Packages) (me : ParticipantId) (log : List Entry) (at : ℕ) (now : InboxState) (gathered : List Knowledge) : Type 0 where
  pub within : at ≤ length log
  pub inbox : now ≡ inbox_over topology packages me (take at log)
  pub states : gathered ≡ each_knowledge topology packages me log at

module _ (topology : Topology) (packages : Packages) (me : ParticipantId) (log : List Entry) (at : ℕ) (entry : Entry) (lt : at < length log)
    (is : slice_get log at ≡ Some entry) where
  one_more : take (suc at) log ≡ take at log ++ entry ∷ []
  one_more = take_one log at entry is

  framed_here : Genuine (framed_reading topology packages) topology.params log → (q : Request) → entry.message ≡ RequestMessage q
      → (framed_reading topology packages).is_framed q ≡ true
  framed_here genuine q message =
      is_framed_at (framed_reading topology packages) topology.params log genuine at q (ap request_in is ∙ ap request_of message)

  rises_here : Genuine (framed_reading topology packages) topology.params log → last_time (inbox (framed_reading topology packages) me (take at log)) < entry.time
  rises_here genuine =
      let last = last_of (framed_reading topology packages) me [] (take at log) ∙ ends_are (take at log) in
      let next = later entry.message (ends 0 (take at log)) entry.time (follows 0 log at entry (genuine.timely).times is) in
      omega (arith, last, next)

  pub may_read : Genuine (framed_reading topology packages) topology.params log → length log < 2 ^ 63 → (now : InboxState)
      → now ≡ inbox_over topology packages me (take at log) → MayRead now entry
  may_read genuine few now same =
      let long = inbox_length (framed_reading topology packages) me [] (take at log) in
      let short = length-take-le at log (omega (arith, lt)) in
      subst (λ (i : InboxState). MayRead i entry) (sym same)
      (record { few = omega (arith, long, short, few, lt); rises = rises_here genuine; framed = framed_here genuine })

  pub reads_one : (old new : InboxState) → old ≡ inbox_over topology packages me (take at log)
      → new ≡ with_item old (item_from (reading_of old) old.me old.items entry) → new ≡ inbox_over topology packages me (take (suc at) log)
  reads_one old new same e =
      e
      ∙ (ap (λ (i : InboxState). with_item i (item_from (reading_of i) i.me i.items entry)) same
      ∙ (ap (λ (items : List Item). record (begun topology packages me) { items = items })
      (inbox_reads (framed_reading topology packages) me (inbox (framed_reading topology packages) me (take at log)) (take at log) entry refl)
      ∙ ap (inbox_over topology packages me) (sym one_more)))

  pub reads_on : (old new : InboxState) (states : List Knowledge) (known : Knowledge) → HasRead topology packages me log at old states
      → new ≡ with_item old (item_from (reading_of old) old.me old.items entry) → known ≡ knowledge_of new
      → HasRead topology packages me log (at + 1) new (states ++ known ∷ [])
  reads_on old new states known so_far e k =
      let same = reads_one old new so_far.inbox e in
      let on : suc at ≡ at + 1 = omega arith in
      subst (λ (n : ℕ). HasRead topology packages me log n new (states ++ known ∷ [])) on
      (record {
        within = omega (arith, lt);
        inbox = same;
        states = (λ i. so_far.states i ++ (k ∙ ap knowledge_of same) i ∷ []);
      })

-- the whole log was read
pub reads_all : (topology : Topology) (packages : Packages) (me : ParticipantId) (log : List Entry) (at : ℕ) (now : InboxState) (states : List Knowledge)
    → HasRead topology packages me log at now states → length log ≤ at
    → (now ≡ inbox_over topology packages me log) × (states ≡ each_knowledge topology packages me log (length log))
reads_all topology packages me log at now states so_far end =
    let within = so_far.within in
    let all : at ≡ length log = omega (arith, within, end) in
    (so_far.inbox ∙ ap (inbox_over topology packages me) (take_all at log end), so_far.states ∙ ap (each_knowledge topology packages me log) all)

-- nothing was read
pub reads_none : (topology : Topology) (packages : Packages) (me : ParticipantId) (log : List Entry) (states : List Knowledge) (now : InboxState)
    → now ≡ inbox_over topology packages me [] → states ≡ knowledge_of now ∷ [] → HasRead topology packages me log 0 now states
reads_none topology packages me log states now same e =
    record { within = omega arith; inbox = same; states = e ∙ ap (λ (i : InboxState). knowledge_of i ∷ []) same }
