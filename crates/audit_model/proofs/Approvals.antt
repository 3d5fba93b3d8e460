-- One more entry approves a request exactly where it is a verdict that does.
use Rattle.std.proofs.Common.{◌≡◌, ℕ, zero, suc, ◌+◌, ◌<◌, Bool, true, false, ◌&&◌, List, [], ◌∷◌, ◌++◌, Option, Some, None, take, length, refl, sym, ap, ◌∙◌, subst, inl, inr, arith, le_refl, nat_eq}
use Rattle.std.specs.Prelude.{slice_get, is_some, if◌then◌else◌}
use Rattle.std.proofs.lemmas.Bool.{ne_eqb, eq-eqb}
use Rattle.std.proofs.lemmas.Option.{slice_get_within}
use Rattle.std.proofs.lemmas.List.{take_all, length-append}
use Rattle.canton_model.specs.Log.{Params, request_at, verdict_of}
use Rattle.world_model.specs.Messages.{Entry, Message, RequestMessage, ResponseMessage, VerdictMessage, Tick, Request, Verdict, Decision}
use Rattle.canton_model.specs.Timeline.{or_else, decision_on, verdict_on, timeline_of, is_approval}
use Rattle.canton_model.specs.Mediation.{scan}
use Rattle.canton_model.specs.Reading.{Reading}
use Rattle.canton_model.specs.Ledger.{VerdictFits, FitsIfVerdict}
use Rattle.canton_model.specs.Genuine.{Genuine, EntryFits}
use Rattle.world_model.specs.Machine.{Machine}
use Rattle.world_model.proofs.Grown.{request_grown, scan_request_there, request_within}
use Rattle.world_model.proofs.Steps.{verdicts_below}
use Rattle.audit_model.specs.Standard.{Standard}
use Rattle.audit_model.specs.Cases.{ShowsNone}
use Rattle.audit_model.specs.Judged.{IsProper, is_approved, approved_below, approved_in, is_approving, is_approving_verdict}
use Rattle.audit_model.proofs.Deciding.{number_decided}
use Rattle.audit_model.proofs.Fitting.{fits_from_none}

abbrev one_if : Bool → ℕ
one_if b = if b then 1 else 0

-- the first verdict in a list with one entry more
or_else_none : (o : Option Decision) → or_else o None ≡ o
or_else_none None = refl
or_else_none (Some d) = refl

or_else_more : (a b c : Option Decision) → or_else a (or_else b c) ≡ or_else (or_else a b) c
or_else_more None b c = refl
or_else_more (Some d) b c = refl

verdict_push : (k : ℕ) (xs : List Entry) (e : Entry)
    → verdict_on k (timeline_of (xs ++ e ∷ [])) ≡ or_else (verdict_on k (timeline_of xs)) (decision_on k (verdict_of e.message))
verdict_push k [] e = or_else_none (decision_on k (verdict_of e.message))
verdict_push k (x ∷ xs) e =
    ap (or_else (decision_on k (verdict_of x.message))) (verdict_push k xs e)
    ∙ or_else_more (decision_on k (verdict_of x.message)) (verdict_on k (timeline_of xs)) (decision_on k (verdict_of e.message))

-- sums
sum_same : (xs ys : List Entry) (n : ℕ) → ((k : ℕ) → k < n → is_approved ys k ≡ is_approved xs k) → approved_below ys n ≡ approved_below xs n
sum_same xs ys zero same = refl
sum_same xs ys (suc n) same =
    ap (λ (b : Bool). one_if b + approved_below ys n) (same n (omega arith))
    ∙ ap (λ (m : ℕ). one_if (is_approved xs n) + m) (sum_same xs ys n (λ k lt. same k (omega (arith, lt))))

sum_one : (xs ys : List Entry) (b : Bool) (j n : ℕ) → j < n → ((k : ℕ) → k < n → ¬ (k ≡ j) → is_approved ys k ≡ is_approved xs k)
    → is_approved xs j ≡ false → is_approved ys j ≡ b → approved_below ys n ≡ approved_below xs n + one_if b
sum_one xs ys b j zero lt same before after = absurd (omega (arith, lt))
sum_one xs ys b j (suc n) lt same before after =
    elim (number_decided n j) [
      | inl here ↦
          let old : is_approved xs n ≡ false = rw here before in
          let new : is_approved ys n ≡ b = rw here after in
          let rest = sum_same xs ys n (λ k l. same k (omega (arith, l)) (λ e. omega (arith, l, e, here))) in
          let left : approved_below ys (suc n) ≡ one_if b + approved_below xs n =
          ap (λ (c : Bool). one_if c + approved_below ys n) new ∙ ap (λ (m : ℕ). one_if b + m) rest in
          let right : approved_below xs (suc n) ≡ 0 + approved_below xs n = ap (λ (c : Bool). one_if c + approved_below xs n) old in
          omega (arith, left, right)
      | inr other ↦
          let below : j < n = omega (arith, lt, other) in
          let rest = sum_one xs ys b j n below (λ k l. same k (omega (arith, l))) before after in
          let first = ap one_if (same n (omega arith) other) in
          let left : approved_below ys (suc n) ≡ one_if (is_approved ys n) + approved_below ys n = refl in
          let right : approved_below xs (suc n) ≡ one_if (is_approved xs n) + approved_below xs n = refl in
          omega (arith, left, right, first, rest)
    ]

module _ (reading : Reading) (params : Params) (log : List Entry) (e : Entry) (g : Genuine reading params log) where
  abbrev more : List Entry
  more = log ++ e ∷ []

  abbrev machine : Machine
  machine = record { reading = reading; params = params; capacity = 0; hosts = 0; prepare = λ w i n. None }

  all : take (length log) log ≡ log
  all = take_all (length log) log (le_refl (length log))

  -- no verdict names the end
  unnamed : (j : ℕ) (xs : List Entry)
      → ((i : ℕ) (x : Entry) (v : Verdict) → slice_get xs i ≡ Some x → x.message ≡ VerdictMessage v → nat_eq v.request j ≡ false)
      → verdict_on j (timeline_of xs) ≡ None
  unnamed j [] h = refl
  unnamed j (x ∷ xs) h = rw (by_message x.message refl) (unnamed j xs (λ i y v at is. h (suc i) y v at is))
    where
      by_message : (m : Message) → x.message ≡ m → decision_on j (verdict_of m) ≡ None
      by_message (RequestMessage q) s = refl
      by_message (ResponseMessage q) s = refl
      by_message Tick s = refl
      by_message (VerdictMessage v) s = rw (h 0 x v refl s) refl

  end_unnamed : verdict_on (length log) (timeline_of log) ≡ None
  end_unnamed =
      unnamed (length log) log (λ i x v at is.
      let below : v.request < i = verdicts_below machine log g i x v at is in
      let within = slice_get_within log i x at in
      ne_eqb v.request (length log) (λ same. omega (arith, below, within, same)))

  long : length more ≡ suc (length log)
  long = let l = length-append log (e ∷ []) in let one : length (e ∷ []) ≡ 1 = refl in omega arith

  approved_is : (k : ℕ) → verdict_on k (timeline_of more) ≡ verdict_on k (timeline_of log) → k < length log → is_approved more k ≡ is_approved log k
  approved_is k same lt =
      ap (λ (o : Option Request). is_some o && is_approval (verdict_on k (timeline_of more))) (request_grown log (e ∷ []) k lt)
      ∙ ap (λ (d : Option Decision). is_some (request_at log k) && is_approval d) same

  and_false : (b : Bool) → (b && false) ≡ false
  and_false true = refl
  and_false false = refl

  -- what stands at the end isn't approved
  end_if : decision_on (length log) (verdict_of e.message) ≡ None → is_approved more (length log) ≡ false
  end_if none =
      ap (λ (d : Option Decision). is_some (request_at more (length log)) && is_approval d)
      (verdict_push (length log) log e ∙ (ap (λ (d : Option Decision). or_else d (decision_on (length log) (verdict_of e.message))) end_unnamed ∙ none))
      ∙ and_false (is_some (request_at more (length log)))

  whole : (b : Bool) → is_approved more (length log) ≡ false → approved_below more (length log) ≡ approved_below log (length log) + one_if b
      → approved_in more ≡ approved_in log + one_if b
  whole b last sum =
      ap (approved_below more) long
      ∙ (ap (λ (c : Bool). one_if c + approved_below more (length log)) last ∙ (let s = sum in omega (arith, s)))

  unchanged : ((k : ℕ) → decision_on k (verdict_of e.message) ≡ None) → approved_in more ≡ approved_in log + 0
  unchanged none =
      whole false (end_if (none (length log)))
      (sum_same log more (length log) (λ k lt.
      approved_is k (verdict_push k log e
      ∙ (ap (or_else (verdict_on k (timeline_of log))) (none k) ∙ or_else_none (verdict_on k (timeline_of log)))) lt)
      ∙ omega arith)

  one_more : (v : Verdict) → verdict_of e.message ≡ Some v → VerdictFits params log (length log) e.time v
      → approved_in more ≡ approved_in log + one_if (is_approval (Some v.decision))
  one_more v is fit =
      let j = v.request in
      let decided : scan params log j ≡ Some v.decision = rw all at fit.decided in
      let first : verdict_on j (timeline_of log) ≡ None = rw all at fit.first in
      let there = scan_request_there params log j v.decision decided in
      let lt : j < length log = request_within log j there.0 there.1 in
      let elsewhere : (k : ℕ) → ¬ (k ≡ j) → decision_on k (verdict_of e.message) ≡ None = λ k other.
      ap (decision_on k) is ∙ ap (λ (b : Bool). if b then Some v.decision else None) (ne_eqb j k (λ same. other (sym same))) in
      let here : decision_on j (verdict_of e.message) ≡ Some v.decision =
      ap (decision_on j) is ∙ ap (λ (b : Bool). if b then Some v.decision else None) (eq-eqb j j refl) in
      let before : is_approved log j ≡ false =
      ap (λ (d : Option Decision). is_some (request_at log j) && is_approval d) first ∙ and_false (is_some (request_at log j)) in
      let after : is_approved more j ≡ is_approval (Some v.decision) =
      ap (λ (d : Option Decision). is_some (request_at more j) && is_approval d)
      (verdict_push j log e ∙ (ap (λ (d : Option Decision). or_else d (decision_on j (verdict_of e.message))) first ∙ here))
      ∙ ap (λ (o : Option Request). is_some o && is_approval (Some v.decision)) (request_grown log (e ∷ []) j lt ∙ there.1) in
      whole (is_approval (Some v.decision)) (end_if (elsewhere (length log) (λ same. omega (arith, lt, same))))
      (sum_one log more (is_approval (Some v.decision)) j (length log) lt (λ k l other.
      approved_is k (verdict_push k log e
      ∙ (ap (or_else (verdict_on k (timeline_of log))) (elsewhere k other) ∙ or_else_none (verdict_on k (timeline_of log)))) l) before after)

pub approved_next : (s : Standard) (log : List Entry) (e : Entry) → IsProper s log → ShowsNone s log e
    → approved_in (log ++ e ∷ []) ≡ approved_in log + (if is_approving e then 1 else 0)
approved_next s log e p none = by_message e.message refl (fits_from_none s log e none)
  where
    counts : (m : Message) → e.message ≡ m
        → approved_in log + one_if (is_approving_verdict (verdict_of m)) ≡ approved_in log + one_if (is_approving_verdict (verdict_of e.message))
    counts m is = ap (λ (x : Message). approved_in log + one_if (is_approving_verdict (verdict_of x))) (sym is)

    same : (m : Message) → e.message ≡ m → ((k : ℕ) → decision_on k (verdict_of m) ≡ None) → is_approving_verdict (verdict_of m) ≡ false
        → approved_in (log ++ e ∷ []) ≡ approved_in log + (if is_approving_verdict (verdict_of e.message) then 1 else 0)
    same m is none not_one =
        unchanged s.reading s.params log e p.genuine (λ k. ap (λ (x : Message). decision_on k (verdict_of x)) is ∙ none k)
        ∙ (ap (λ (b : Bool). approved_in log + one_if b) (sym not_one) ∙ counts m is)

    by_message : (m : Message) → e.message ≡ m → EntryFits s.reading s.params log e
        → approved_in (log ++ e ∷ []) ≡ approved_in log + (if is_approving_verdict (verdict_of e.message) then 1 else 0)
    by_message (RequestMessage q) is fit = same (RequestMessage q) is (λ k. refl) refl
    by_message (ResponseMessage r) is fit = same (ResponseMessage r) is (λ k. refl) refl
    by_message Tick is fit = same Tick is (λ k. refl) refl
    by_message (VerdictMessage v) is fit =
        one_more s.reading s.params log e p.genuine v (ap verdict_of is)
        (subst (FitsIfVerdict s.params log (length log) e.time) is fit.verdict)
        ∙ counts (VerdictMessage v) is
