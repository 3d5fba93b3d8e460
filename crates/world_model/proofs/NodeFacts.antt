-- What a participant's inbox tells, over the entries that it has read.
use Rattle.std.proofs.Common.{◌≡◌, ℕ, zero, suc, ◌+◌, ◌<◌, ◌≤◌, Bool, true, false, List, [], ◌∷◌, ◌++◌, take, length, option_map, Option, Some, None}
use Rattle.std.proofs.Common.{refl, sym, ap, ◌∙◌, inl, inr, arith, append_assoc, append-nil}
use Rattle.std.specs.Prelude.{slice_get, Contains}
use Rattle.std.proofs.lemmas.Bool.{cases_Bool, cases_order, or_right}
use Rattle.std.proofs.lemmas.Option.{none-some, same_Some}
use Rattle.ledger_model.specs.Terms.{ParticipantId, Path}
use Rattle.canton_model.specs.Log.{Params, request_of, request_in, request_at}
use Rattle.world_model.specs.Messages.{Entry, Message, RequestMessage, ResponseMessage, VerdictMessage, Tick, Request, Verdict}
use Rattle.canton_model.specs.Reading.{Reading, is_recipient, is_some_path, paths_seen, paths_confirmed}
use Rattle.canton_model.specs.Inbox.{Item, Notice, received, notice_by, notice_in, notice_at, verdict_content, content_of, item_after, items_after, inbox}
use Rattle.canton_model.specs.Checks.{verdicts_owed}
use Rattle.canton_model.specs.Genuine.{IsReading, FramedFacts}
use Rattle.ledger_model.proofs.Lists.{In, from_any, in_any, in_from_Contains, contains_from_In}
use Rattle.canton_model.proofs.Fits.{framed_of}
use Rattle.world_model.specs.Machine.{Machine, GenuineLog, confirms_some_view, is_asked}
use Rattle.world_model.specs.Fits.{IsOwed}
use Rattle.world_model.specs.Places.{first_from}
use Rattle.world_model.specs.Node.{owes_at, owed_at, response_at}
use Rattle.world_model.specs.Settled.{is_asked_in}

-- the first k items are those of the first k entries
pub inbox_take : (reading : Reading) (p : ParticipantId) (k : ℕ) (before xs : List Entry)
    → take k (items_after reading p before xs) ≡ items_after reading p before (take k xs)
inbox_take reading p zero before xs = refl
inbox_take reading p (suc k) before [] = refl
inbox_take reading p (suc k) before (x ∷ xs) = ap (λ (items : List Item). item_after reading p before x ∷ items) (inbox_take reading p k (before ++ x ∷ []) xs)

pub item_at : (reading : Reading) (p : ParticipantId) (k : ℕ) (before xs : List Entry)
    → slice_get (items_after reading p before xs) k ≡ option_map (item_after reading p (before ++ take k xs)) (slice_get xs k)
item_at reading p k before [] = refl
item_at reading p zero before (x ∷ xs) = rw append-nil refl
item_at reading p (suc k) before (x ∷ xs) = rw append_assoc at (item_at reading p k (before ++ x ∷ []) xs)

pub inbox_length : (reading : Reading) (p : ParticipantId) (before xs : List Entry) → length (items_after reading p before xs) ≡ length xs
inbox_length reading p before [] = refl
inbox_length reading p before (x ∷ xs) = ap suc (inbox_length reading p (before ++ x ∷ []) xs)

-- an inbox of a longer list begins with that of the shorter one
pub inbox_append : (reading : Reading) (p : ParticipantId) (before xs ys : List Entry)
    → items_after reading p before (xs ++ ys) ≡ items_after reading p before xs ++ items_after reading p (before ++ xs) ys
inbox_append reading p before [] ys = rw append-nil refl
inbox_append reading p before (x ∷ xs) ys =
    ap (λ (items : List Item). item_after reading p before x ∷ items) (inbox_append reading p (before ++ x ∷ []) xs ys)
    ∙ ap (λ (b : List Entry). item_after reading p before x ∷ (items_after reading p (before ++ x ∷ []) xs ++ items_after reading p b ys))
    (append_assoc before (x ∷ []) xs)

-- what is learnt at a place is what is learnt of the request there
notice_of_request : (reading : Reading) (p : ParticipantId) → Option Request → Option Notice
notice_of_request reading p None = None
notice_of_request reading p (Some q) = notice_by (received reading p q)

told_shows : (reading : Reading) (p : ParticipantId) (v : Verdict) (o : Option Request) → notice_by (verdict_content reading p v o) ≡ None
told_shows reading p v None = refl
told_shows reading p v (Some q) = elim (cases_Bool (is_recipient reading p q)) [ inl b ↦ rw b refl | inr b ↦ rw b refl ]

content_shows : (reading : Reading) (p : ParticipantId) (before : List Entry) (message : Message)
    → notice_by (content_of reading p before message) ≡ notice_of_request reading p (request_of message)
unfolding notice_of_request
content_shows reading p before (RequestMessage q) = refl
content_shows reading p before (ResponseMessage r) = refl
content_shows reading p before (VerdictMessage v) = told_shows reading p v (request_at before v.request)
content_shows reading p before Tick = refl

entry_shows : (reading : Reading) (p : ParticipantId) (before : List Entry) (o : Option Entry)
    → notice_in (option_map (item_after reading p before) o) ≡ notice_of_request reading p (request_in o)
unfolding notice_of_request
entry_shows reading p before None = refl
entry_shows reading p before (Some e) = content_shows reading p before e.message

notice_is : (reading : Reading) (p : ParticipantId) (log : List Entry) (k : ℕ)
    → notice_at (inbox reading p log) k ≡ notice_of_request reading p (request_at log k)
notice_is reading p log k = ap notice_in (item_at reading p k [] log) ∙ entry_shows reading p (take k log) (slice_get log k)

asked_is : (reading : Reading) (p : ParticipantId) (o : Option Request) → confirms_some_view (notice_of_request reading p o) ≡ is_asked_in reading p o
unfolding notice_of_request
asked_is reading p None = refl
asked_is reading p (Some q) = refl

pub owes_is : (reading : Reading) (p : ParticipantId) (log : List Entry) (k : ℕ)
    → owes_at reading p (inbox reading p log) k ≡ is_asked_in reading p (request_at log k)
owes_is reading p log k = ap confirms_some_view (notice_is reading p log k) ∙ asked_is reading p (request_at log k)

pub asked_request : (reading : Reading) (p : ParticipantId) (o : Option Request) → is_asked_in reading p o ≡ true
    → (q : Request) × (o ≡ Some q) × (is_asked reading p q ≡ true)
asked_request reading p None h = cc
asked_request reading p (Some q) h = (q, refl, h)

-- who owes verdicts to a framed request is confirming there
asked_path : (reading : Reading) (p : ParticipantId) (q : Request) → is_asked reading p q ≡ true → (path : Path) × In path (paths_confirmed reading p q)
asked_path reading p q h =
    elim (cases_Bool (is_recipient reading p q)) [
      | inr away ↦ let no : false ≡ true = rw away at h in cc
      | inl here ↦
          let some' : is_some_path (paths_confirmed reading p q) ≡ true = rw here at h in
          let w = from_any (λ (path : Path). true) (paths_confirmed reading p q) some' in (w.0, w.1)
    ]

-- and a recipient
pub asked_receives : (reading : Reading) (p : ParticipantId) (q : Request) → is_asked reading p q ≡ true → is_recipient reading p q ≡ true
asked_receives reading p q h =
    elim (cases_Bool (is_recipient reading p q)) [
      | inl here ↦ here
      | inr away ↦ let no : false ≡ true = rw away at h in cc
    ]

pub asked_confirms : (reading : Reading) (p : ParticipantId) (q : Request) → FramedFacts reading q → is_asked reading p q ≡ true → Contains q.confirming p
asked_confirms reading p q framed h = let w = asked_path reading p q h in framed.asked p w.0 (contains_from_In _ w.0 w.1)

-- and who is confirming there owes verdicts to it
pub confirming_asked : (reading : Reading) (p : ParticipantId) (q : Request) → FramedFacts reading q → Contains q.confirming p → is_asked reading p q ≡ true
confirming_asked reading p q framed h =
    let a = framed.answers p h in
    let seen = framed.sees p a.0 a.1 in
    let here : is_recipient reading p q ≡ true = or_right _ _ (in_any (λ (path : Path). true) (paths_seen reading p q) a.0 (in_from_Contains _ a.0 seen) refl) in
    rw here (in_any (λ (path : Path). true) (paths_confirmed reading p q) a.0 (in_from_Contains _ a.0 a.1) refl)

-- what is owed at a place is told by the entries up to it
pub owed_is : (reading : Reading) (params : Params) (p : ParticipantId) (log : List Entry) (k : ℕ)
    → owed_at reading params p (inbox reading p log) k ≡ verdicts_owed reading params p (inbox reading p (take (suc k) log)) k
owed_is reading params p log k = ap (λ (items : List Item). verdicts_owed reading params p items k) (inbox_take reading p (suc k) [] log)

-- the response to a place where it owes verdicts is owed
pub response_owed : (m : Machine) (p : ParticipantId) (log : List Entry) (k : ℕ) → IsReading m.reading → GenuineLog m log
    → owes_at m.reading p (inbox m.reading p log) k ≡ true → IsOwed m.reading m.params log (response_at m.reading m.params p (inbox m.reading p log) k)
response_owed m p log k is g h =
    let r = asked_request m.reading p (request_at log k) (sym (owes_is m.reading p log k) ∙ h) in
    record {
      request = r.0;
      there = r.1;
      confirming = asked_confirms m.reading p r.0 (framed_of m.reading m.params log g is k r.0 r.1) r.2;
      owed = owed_is m.reading m.params p log k;
    }

-- the first place that passes
pub record IsFirst (test : ℕ → Bool) (start count k : ℕ) : Type 0 where
  pub from : start ≤ k
  pub below : k < start + count
  pub passes : test k ≡ true
  pub none : (i : ℕ) → start ≤ i → i < k → test i ≡ false

pub first_from_is : (test : ℕ → Bool) (start count k : ℕ) → first_from test start count ≡ Some k → IsFirst test start count k
first_from_is test start zero k e = absurd (none-some k e)
first_from_is test start (suc count) k e =
    elim (cases_Bool (test start)) [
      | inl b ↦
          let same : start ≡ k = same_Some start k (rw b at e) in
          record { from = omega arith; below = omega arith; passes = ap test (sym same) ∙ b; none = λ i le lt. absurd (omega arith) }
      | inr b ↦
          let r = first_from_is test (suc start) count k (rw b at e) in
          let f = r.from in
          let l = r.below in
          record {
            from = omega arith;
            below = omega arith;
            passes = r.passes;
            none = λ i le lt. elim (cases_order i start) [
              | inl here ↦ ap test here ∙ b
              | inr o ↦ elim o [ inl before ↦ absurd (omega arith) | inr after ↦ r.none i (omega arith) lt ]
            ];
          }
    ]

pub first_from_none : (test : ℕ → Bool) (start count : ℕ) → first_from test start count ≡ None → (i : ℕ) → start ≤ i → i < start + count → test i ≡ false
first_from_none test start zero e i le lt = absurd (omega arith)
first_from_none test start (suc count) e i le lt =
    elim (cases_Bool (test start)) [
      | inl b ↦ let no : Some start ≡ None = rw b at e in absurd (none-some start (sym no))
      | inr b ↦ elim (cases_order i start) [
        | inl here ↦ ap test here ∙ b
        | inr o ↦ elim o [ inl before ↦ absurd (omega arith) | inr after ↦ first_from_none test (suc start) count (rw b at e) i (omega arith) (omega arith) ]
      ]
    ]
