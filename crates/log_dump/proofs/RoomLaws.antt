-- A genuine log whose requests have room has a spelling.
use Rattle.std.proofs.Common.{◌≡◌, ℕ, zero, suc, ◌<◌, ◌≤◌, ◌^◌, Bool, not, List, [], ◌∷◌, filter, map, take, drop, length, Option, Some, refl, sym, ap, ◌∙◌, subst, inl, inr, arith}
use Rattle.std.specs.Prelude.{slice_get, option_map}
use Rattle.std.specs.List.{AllByRecursion}
use Rattle.std.proofs.lemmas.Bool.{cases_Bool}
use Rattle.std.proofs.lemmas.Option.{none-some}
use Rattle.std.proofs.lemmas.List.Elements.{recursion_from_All, All-from_recursion}
use Rattle.std.proofs.lemmas.List.Kept.{IsStrictlyIncreasing-filter}
use Rattle.ledger_model.specs.Terms.{ParticipantId, Path}
use Rattle.ledger_model.proofs.Lists.{In, contains_from_In}
use Rattle.canton_model.specs.Log.{Params, request_in, request_of, request_at}
use Rattle.canton_model.specs.Mediation.{has_responded, scan}
use Rattle.canton_model.specs.Reading.{Reading, is_recipient, paths_confirmed}
use Rattle.canton_model.specs.Inbox.{Item, Notice, item_after, inbox, content_of, received, notice_by, notice_in, notice_at}
use Rattle.canton_model.specs.Checks.{verdict_on_offer, verdicts_on, verdicts_owed}
use Rattle.canton_model.specs.Ledger.{FitsIfVerdict, VerdictFits}
use Rattle.canton_model.specs.Genuine.{Genuine, IsReading, FitsIfResponse, ResponseFits}
use Rattle.canton_model.proofs.Fits.{framed_of}
use Rattle.canton_model.proofs.Mediated.{rejection, timeout}
use Rattle.world_model.specs.Messages.{Entry, Message, RequestMessage, ResponseMessage, VerdictMessage, Tick, Request, Response, ViewVerdict, Decision, Approved, Rejected, TimedOut}
use Rattle.world_model.proofs.Grown.{scan_request_there}
use Rattle.world_model.proofs.NodeFacts.{item_at}
use Rattle.world_model.proofs.Steps.{entry_of_request}
use Rattle.message_bytes.specs.Spellable.{AreSpellable, IsSpellableViewVerdict, IsSpellableDecision, IsSpellableResponse, IsSpellableSet}
use Rattle.log_dump.specs.Spellable.{IsSpellableMessage, IsSpellableEntry, IsSpellableLog}
use Rattle.log_dump.specs.Room.{HasRoom}

-- ---- lists

few_filtered : {X : Type 0} (test : X → Bool) (xs : List X) → length (filter test xs) ≤ length xs
few_filtered test [] = omega arith
few_filtered test (x ∷ xs) =
    let ih = few_filtered test xs in
    elim (cases_Bool (test x)) [ inl b ↦ rw b (omega (arith, ih)) | inr b ↦ rw b (omega (arith, ih)) ]

few_mapped : {X Y : Type 0} (f : X → Y) (xs : List X) → length (map f xs) ≡ length xs
few_mapped f [] = refl
few_mapped f (x ∷ xs) = ap suc (few_mapped f xs)

-- what holds of what is made of each holds of all that is made
each_made : {X Y : Type 0} (P : Y → Type 0) (f : X → Y) (xs : List X) → ((x : X) → In x xs → P (f x)) → AllByRecursion P (map f xs)
each_made P f [] h = tt
each_made P f (x ∷ xs) h = (h x (inl refl), each_made P f xs (λ y i. h y (inr i)))

one_of : {X : Type 0} (P : X → Type 0) (xs : List X) → AllByRecursion P xs → (x : X) → In x xs → P x
one_of P [] h x i = absurd i
one_of P (y ∷ ys) h x (inl same) = subst P same h.0
one_of P (y ∷ ys) h x (inr i) = one_of P ys h.1 x i

-- what stands in a part of a list stands in the list
in_drop : {X : Type 0} (n : ℕ) (xs : List X) (x : X) → In x (drop n xs) → In x xs
in_drop zero xs x i = i
in_drop (suc n) [] x i = i
in_drop (suc n) (y ∷ xs) x i = inr (in_drop n xs x i)

in_take : {X : Type 0} (n : ℕ) (xs : List X) (x : X) → In x (take n xs) → In x xs
in_take zero xs x i = absurd i
in_take (suc n) [] x i = i
in_take (suc n) (y ∷ xs) x (inl e) = inl e
in_take (suc n) (y ∷ xs) x (inr i) = inr (in_take n xs x i)

place_in : {X : Type 0} (xs : List X) (x : X) → In x xs → (k : ℕ) × (slice_get xs k ≡ Some x)
place_in [] x i = absurd i
place_in (y ∷ xs) x (inl e) = (0, ap Some e)
place_in (y ∷ xs) x (inr i) = let r = place_in xs x i in (suc r.0, r.1)

request_front : (n : ℕ) (log : List Entry) (j : ℕ) (q : Request) → request_at (take n log) j ≡ Some q → request_at log j ≡ Some q
request_front zero log j q e = absurd (none-some q e)
request_front (suc n) [] j q e = e
request_front (suc n) (x ∷ log) zero q e = e
request_front (suc n) (x ∷ log) (suc j) q e = request_front n log j q e

-- ---- a genuine log

module _ (reading : Reading) (params : Params) (log : List Entry) (is : IsReading reading) (genuine : Genuine reading params log)
    (room : (k : ℕ) (request : Request) → request_at log k ≡ Some request → HasRoom reading request) where
  verdicts_have_room : (p : ParticipantId) (items : List Item) (k : ℕ) (q : Request) → HasRoom reading q
      → AreSpellable (verdicts_on reading params p items k (notice_by (received reading p q)))
  verdicts_have_room p items k q has =
      let verdict : Path → ViewVerdict = λ path.
      record { view = path; verdict = verdict_on_offer reading params p items k q.sender path (reading.offered p q) } in
      let long = few_mapped verdict (paths_confirmed reading p q) in
      let most = has.few p in
      elim (cases_Bool (is_recipient reading p q)) [
        | inl here ↦ rw here (record {
          few = omega (arith, long, most);
          each = All-from_recursion IsSpellableViewVerdict (map verdict (paths_confirmed reading p q))
              (each_made IsSpellableViewVerdict verdict (paths_confirmed reading p q)
              (λ path i. has.short p path (contains_from_In (paths_confirmed reading p q) path i)));
        })
        | inr away ↦ rw away (record { few = omega arith; each = All-from_recursion IsSpellableViewVerdict [] tt })
      ]

  owed_has_room : (p : ParticipantId) (xs : List Entry) (k : ℕ) (q : Request) → request_at xs k ≡ Some q → HasRoom reading q
      → AreSpellable (verdicts_owed reading params p (inbox reading p xs) k)
  owed_has_room p xs k q at has =
      let there = entry_of_request (slice_get xs k) q at in
      let told : notice_at (inbox reading p xs) k ≡ notice_by (received reading p q) =
      ap notice_in (item_at reading p k [] xs)
      ∙ (ap (λ (o : Option Entry). notice_in (option_map (item_after reading p (take k xs)) o)) there.1
      ∙ ap (λ (m : Message). notice_by (content_of reading p (take k xs) m)) there.2) in
      subst (λ (o : Option Notice). AreSpellable (verdicts_on reading params p (inbox reading p xs) k o)) (sym told)
      (verdicts_have_room p (inbox reading p xs) k q has)

  request_kept : (xs : List Entry) (j : ℕ) (q : Request) → request_at xs j ≡ Some q → request_at (take (suc j) xs) j ≡ Some q
  request_kept [] j q e = e
  request_kept (x ∷ xs) zero q e = e
  request_kept (x ∷ xs) (suc j) q e = request_kept xs j q e

  response_spellable : (k time : ℕ) (r : Response) → ResponseFits reading params log k time r → IsSpellableResponse r
  response_spellable k time r fit =
      subst AreSpellable (sym fit.owed)
      (owed_has_room r.from (take (suc r.request) log) r.request fit.request (request_kept log r.request fit.request fit.there)
      (room r.request fit.request fit.there))

  response_there : (entry : Entry) (r : Response) → In entry log → entry.message ≡ ResponseMessage r → IsSpellableResponse r
  response_there entry r i is =
      let at = place_in log entry i in
      let fit : ResponseFits reading params log at.0 entry.time r = subst (FitsIfResponse reading params log at.0 entry.time) is (genuine.responses at.0 entry at.1) in
      response_spellable at.0 entry.time r fit

  decision_spellable : (k j : ℕ) (d : Decision) → scan params (take k log) j ≡ Some d → IsSpellableDecision d
  decision_spellable k j Approved e = tt
  decision_spellable k j (Rejected from view reason) e =
      let there = scan_request_there params (take k log) j (Rejected from view reason) e in
      let h = rejection params (take k log) j there.0 from view reason there.1 e in
      let rejects = h.4 in
      let inside = in_take k log h.0 (in_drop (suc j) (take k log) h.0 h.2) in
      let spelled = response_there h.0 h.1 inside h.3 in
      one_of IsSpellableViewVerdict (h.1).verdicts (recursion_from_All IsSpellableViewVerdict (h.1).verdicts spelled.each) _ rejects.listed
  decision_spellable k j (TimedOut missing) e =
      let there = scan_request_there params (take k log) j (TimedOut missing) e in
      let late = timeout params (take k log) j there.0 missing there.1 e in
      let q = there.0 in
      let has = room j q (request_front k log j q there.1) in
      let entries = take late.at (drop (suc j) (take k log)) in
      let test : ParticipantId → Bool = λ p. not (has_responded j entries p) in
      let fewer = few_filtered test q.confirming in
      let most = (has.spellable).confirming in
      subst IsSpellableSet (sym late.exact)
      let framed = framed_of reading params log genuine is j q (request_front k log j q there.1) in
      (record { few = omega (arith, fewer, most); ascend = IsStrictlyIncreasing-filter test q.confirming framed.confirming_order })

  message_spellable : (k time : ℕ) (m : Message) → (entry : Entry) → slice_get log k ≡ Some entry → entry.message ≡ m → IsSpellableMessage m
  message_spellable k time Tick entry at is = tt
  message_spellable k time (RequestMessage q) entry at is =
      let there : request_at log k ≡ Some q = ap request_in at ∙ ap request_of is in
      (room k q there).spellable
  message_spellable k time (ResponseMessage r) entry at is =
      let fit : ResponseFits reading params log k entry.time r = subst (FitsIfResponse reading params log k entry.time) is (genuine.responses k entry at) in
      response_spellable k entry.time r fit
  message_spellable k time (VerdictMessage v) entry at is =
      let fit : VerdictFits params log k entry.time v = subst (FitsIfVerdict params log k entry.time) is ((genuine.timely).verdicts k entry at) in
      decision_spellable k v.request v.decision fit.decided

  each_entry : (xs : List Entry) → ((i : ℕ) (e : Entry) → slice_get xs i ≡ Some e → IsSpellableEntry e) → AllByRecursion IsSpellableEntry xs
  each_entry [] h = tt
  each_entry (x ∷ xs) h = (h 0 x refl, each_entry xs (λ i e at. h (suc i) e at))

  pub spelled : length log < 2 ^ 32 → IsSpellableLog log
  spelled few =
      record {
        few = few;
        each = All-from_recursion IsSpellableEntry log (each_entry log (λ k e at. message_spellable k e.time e.message e at refl));
      }

pub spellable_genuine : (reading : Reading) (params : Params) (log : List Entry) → IsReading reading → Genuine reading params log → length log < 2 ^ 32
    → ((k : ℕ) (request : Request) → request_at log k ≡ Some request → HasRoom reading request) → IsSpellableLog log
spellable_genuine reading params log is genuine few room = spelled reading params log is genuine room few
