-- A participant that is pruned to its base, beside the whole inbox, and the last entry of a genuine list to it.
use Rattle.std.proofs.Common.{◌≡◌, ℕ, zero, suc, ◌+◌, ◌≤◌, Bool, true, List, [], ◌∷◌, ◌++◌, drop, length, take, Option, Some, refl, sym, ap, ◌∙◌, subst, inl, inr, arith, append-nil, take-append-drop}
use Rattle.std.specs.Prelude.{if◌then◌else◌, is_some, slice_get}
use Rattle.std.proofs.lemmas.Bool.{cases_Bool, cases_lt}
use Rattle.std.proofs.lemmas.List.{take-append-le, take_all}
use Rattle.std.proofs.lemmas.Option.{same_Some}
use Rattle.ledger_model.specs.Terms.{ParticipantId}
use Rattle.canton_model.specs.Genuine.{Genuine}
use Rattle.canton_model.specs.declared.verdict.Verdict.{Verdict}
use Rattle.canton_model.specs.Inbox.{Content, Item, Notice, Nothing, Told, inbox, item_after, last_time, notice_at, received, verdict_in}
use Rattle.canton_model.specs.Log.{Params}
use Rattle.canton_model.specs.Reading.{Reading}
use Rattle.canton_model.proofs.InboxGrows.{items_push}
use Rattle.world_model.specs.Messages.{Entry, Message, RequestMessage, ResponseMessage, Tick, VerdictMessage}
use Rattle.world_model.proofs.NodeFacts.{inbox_length}
use Rattle.world_model.proofs.Steps.{length_take}
use Rattle.pruned_inbox.specs.Alike.{AnswersAlike}
use Rattle.pruned_inbox.specs.Base.{IsBase}
use Rattle.pruned_inbox.specs.Forgotten.{silent_front}
use Rattle.pruned_inbox.specs.Orderly.{IsOrderly}
use Rattle.pruned_inbox.specs.Start.{IsStart, Start}
use Rattle.pruned_inbox.proofs.Later.{kept_later, later_verdict}
use Rattle.pruned_inbox.proofs.Restarted.{front_alike, front_more}
use Rattle.node_inbox.specs.Entries.{content_from, item_from}
use Rattle.node_inbox.proofs.Grows.{inbox_reads}
use Rattle.node_core.specs.Participant.{IsPrunedTo, Participant, items_of, params_of, reading_of}
use Rattle.node_core.proofs.LogEnds.{before_last, front_of}

-- ---- lists

pub end_of : {X : Type 0} (xs : List X) (y : X) → slice_get (xs ++ y ∷ []) (length xs) ≡ Some y
end_of [] y = refl
end_of (x ∷ xs) y = end_of xs y

behind_same : {X : Type 0} (xs : List X) (x y : X) → xs ++ x ∷ [] ≡ xs ++ y ∷ [] → x ≡ y
behind_same xs x y e = same_Some x y (sym (end_of xs x) ∙ (ap (λ (zs : List _). slice_get zs (length xs)) e ∙ end_of xs y))

pub last_behind : (xs : List Item) (y : Item) (ys : List Item) → last_time (xs ++ y ∷ ys) ≡ last_time (y ∷ ys)
last_behind [] y ys = refl
last_behind (x ∷ []) y ys = refl
last_behind (x ∷ z ∷ xs) y ys = last_behind (z ∷ xs) y ys

silent_last : (b t : ℕ) → last_time (silent_front (suc b) t) ≡ t
silent_last zero t = omega arith
silent_last (suc b) t = silent_last b t

-- the time of the last item is that of the whole inbox
pub same_last : (b : ℕ) (whole : List Item) → b ≤ length whole
    → last_time (silent_front b (last_time (take b whole)) ++ drop b whole) ≡ last_time whole
same_last b whole within = by b refl (drop b whole) refl
  where
    all : take b whole ++ drop b whole ≡ whole
    all = take-append-drop b whole

    by : (n : ℕ) → b ≡ n → (rest : List Item) → drop b whole ≡ rest → last_time (silent_front n (last_time (take b whole)) ++ rest) ≡ last_time whole
    by zero e rest is = ap last_time (sym is ∙ ap (λ (n : ℕ). drop n whole) e)
    by (suc n) e [] is =
        ap last_time (append-nil (silent_front (suc n) (last_time (take b whole))))
        ∙ (silent_last n (last_time (take b whole))
        ∙ ap last_time (sym (append-nil (take b whole)) ∙ (ap (λ (xs : List Item). take b whole ++ xs) (sym is) ∙ all)))
    by (suc n) e (y ∷ ys) is =
        last_behind (silent_front (suc n) (last_time (take b whole))) y ys
        ∙ (sym (last_behind (take b whole) y ys)
        ∙ ap last_time (ap (λ (xs : List Item). take b whole ++ xs) (sym is) ∙ all))

-- ---- beside the whole inbox

module _ (whole : List Item) (p : Participant) (is : IsPrunedTo whole p) where
  pub kept_is : items_of p ≡ silent_front p.base (last_time (take p.base whole)) ++ drop p.base whole
  kept_is = is.kept ∙ ap (λ (t : ℕ). silent_front p.base t ++ drop p.base whole) is.time

  pub pruned_alike : AnswersAlike (reading_of p) (params_of p) p.me whole (items_of p) p.base p.start
  pruned_alike =
      subst (λ (items : List Item). AnswersAlike (reading_of p) (params_of p) p.me whole items p.base p.start) (sym kept_is)
      (front_alike (reading_of p) (params_of p) p.me p.base whole is.orderly is.is_base p.start is.starts)

  pub pruned_last : last_time (items_of p) ≡ last_time whole
  pruned_last = ap last_time kept_is ∙ same_last p.base whole (is.is_base).within

-- ---- one entry more

module _ (reading : Reading) (params : Params) (me : ParticipantId) (b : ℕ) (start : Start) (list : List Entry) (n : ℕ) (entry : Entry)
    (genuine : Genuine reading params list) (cursor : length list ≡ n + 1) (there : slice_get list n ≡ Some entry)
    (is_base : IsBase params (inbox reading me (take n list)) b) (starts : IsStart reading (inbox reading me (take n list)) b start) where
  abbrev whole : List Item
  whole = inbox reading me (take n list)

  abbrev all : List Item
  all = inbox reading me list

  abbrev item : Item
  item = item_from reading me whole entry

  grown : whole ++ item ∷ [] ≡ all
  grown = inbox_reads reading me whole (take n list) entry refl ∙ ap (inbox reading me) (sym (before_last list n entry cursor there))

  long : length whole ≡ n
  long = inbox_length reading me [] (take n list) ∙ length_take n list (omega (arith, cursor))

  pub record StaysPruned : Type 0 where
    pub orderly : IsOrderly params all
    pub based : IsBase params all b
    pub started : IsStart reading all b start

  pub stays_pruned : StaysPruned
  stays_pruned =
      let later = kept_later reading params me list b n (length list) start genuine (omega (arith, cursor)) (omega arith) is_base starts in
      let same : inbox reading me (take (length list) list) ≡ all = ap (inbox reading me) (take_all (length list) list (omega arith)) in
      record {
        orderly = subst (IsOrderly params) same later.orderly;
        based = subst (λ (items : List Item). IsBase params items b) same later.based;
        started = subst (λ (items : List Item). IsStart reading items b start) same later.started;
      }

  -- a verdict that it is told is on a request that it keeps
  far : (v : Verdict) → entry.message ≡ VerdictMessage v → is_some (notice_at whole v.request) ≡ true → b ≤ v.request
  far v is told =
      let here : slice_get all n ≡ Some item =
      subst (λ (k : ℕ). slice_get all k ≡ Some item) long (subst (λ (items : List Item). slice_get items (length whole) ≡ Some item) grown (end_of whole item)) in
      let brings : verdict_in item.content ≡ Some v =
      ap (λ (m : Message). verdict_in (content_from (received reading me) whole m)) is ∙ ap (λ (t : Bool). verdict_in (if t then Told v else Nothing)) told in
      let within = is_base.within in
      later_verdict params all b n item v stays_pruned.orderly stays_pruned.based (omega (arith, within, long)) here brings

  module _ (kept : List Item) (alike : AnswersAlike reading params me whole kept b start) where
    content_same : (m : Message) → entry.message ≡ m → content_from (received reading me) kept m ≡ content_from (received reading me) whole m
    content_same (RequestMessage q) e = refl
    content_same (ResponseMessage r) e = refl
    content_same Tick e = refl
    content_same (VerdictMessage v) e =
        elim (cases_Bool (is_some (notice_at whole v.request))) [
          | inl told ↦ ap (λ (o : Option Notice). if is_some o then Told v else Nothing) (alike.noticed v.request (far v e told))
          | inr none ↦ elim (cases_lt v.request b) [
            | inl below ↦
                ap (λ (o : Option Notice). if is_some o then Told v else Nothing) (alike.unnoticed v.request below)
                ∙ sym (ap (λ (t : Bool). if t then Told v else Nothing) none)
            | inr above ↦ ap (λ (o : Option Notice). if is_some o then Told v else Nothing) (alike.noticed v.request above)
          ]
        ]

    -- the entry is to it what it is to who has the whole inbox
    item_same : item_from reading me kept entry ≡ item
    item_same = ap (λ (c : Content). record { time = entry.time; content = c }) (content_same entry.message refl)

    pub item_is : (before : List Entry) (e : Entry) → list ≡ before ++ e ∷ [] → item_from reading me kept entry ≡ item_after reading me before e
    item_is before e parts =
        let front : take n list ≡ before = ap (take n) parts ∙ front_of before e n (sym (ap length parts) ∙ cursor) in
        item_same
        ∙ behind_same whole item (item_after reading me before e)
        (grown ∙ (ap (inbox reading me) parts
        ∙ (items_push reading me [] before e ∙ ap (λ (xs : List Entry). inbox reading me xs ++ item_after reading me before e ∷ []) (sym front))))

    pub time_stays : last_time (take b all) ≡ last_time (take b whole)
    time_stays =
        let within = is_base.within in
        ap last_time (ap (take b) (sym grown) ∙ take-append-le b whole (item ∷ []) within)

    pub kept_grown : (t : ℕ) → kept ≡ silent_front b t ++ drop b whole → kept ++ item_from reading me kept entry ∷ [] ≡ silent_front b t ++ drop b all
    kept_grown t is =
        ap (λ (x : Item). kept ++ x ∷ []) item_same
        ∙ (ap (λ (xs : List Item). xs ++ item ∷ []) is
        ∙ (sym (front_more b t whole (item ∷ []) is_base.within)
        ∙ ap (λ (items : List Item). silent_front b t ++ drop b items) grown))
