-- One round more, and where that leaves the bases of participants.
use Rattle.std.proofs.Common.{◌≡◌, ℕ, zero, suc, ◌*◌, ◌≤◌, Bool, true, false, List, [], ◌∷◌, ◌++◌, Option, Some, None, length, take, option_map, refl, sym, ap, ◌∙◌, subst, inl, inr, arith, length-take-le}
use Rattle.std.specs.Prelude.{◌||◌, if◌then◌else◌, is_some}
use Rattle.std.specs.List.{list_any}
use Rattle.std.proofs.lemmas.Bool.{cases_lt}
use Rattle.std.proofs.Math.Seq.{take-append_seam}
use Rattle.std.proofs.lemmas.List.{take_all}
use Rattle.ledger_model.specs.Terms.{ParticipantId}
use Rattle.canton_model.specs.Genuine.{Genuine}
use Rattle.canton_model.specs.Inbox.{Item, clean, inbox, item_after, items_after}
use Rattle.canton_model.specs.Log.{Params}
use Rattle.canton_model.specs.Reading.{Reading}
use Rattle.canton_model.specs.Timeline.{or_else}
use Rattle.pruned_inbox.specs.Base.{IsBase, base}
use Rattle.pruned_inbox.proofs.Cleaned.{base_at_most_clean, base_is_base}
use Rattle.pruned_inbox.proofs.Later.{base_stays}
use Rattle.pruned_inbox.proofs.OfLog.{inbox_is_orderly}
use Rattle.world_model.specs.Messages.{Entry}
use Rattle.world_model.specs.Places.{has_place}
use Rattle.run_model.specs.Restarts.{RoundBegin, base_or_first, base_over, begins_of, last_end, last_restart, pruned_to, restart_at}

-- ---- bases of what was read

front_of : (reading : Reading) (p : ParticipantId) (before log : List Entry) (n : ℕ)
    → items_after reading p before (take n log) ≡ take n (items_after reading p before log)
front_of reading p before log zero = refl
front_of reading p before [] (suc n) = refl
front_of reading p before (entry ∷ log) (suc n) =
    ap (λ (items : List Item). item_after reading p before entry ∷ items) (front_of reading p (before ++ entry ∷ []) log n)

-- a base of the first items is one of all
stays : (params : Params) (items : List Item) (n b : ℕ) → IsBase params (take n items) b → IsBase params items b
stays params items n b is =
    elim (cases_lt n (length items)) [
      | inl short ↦
          base_stays params items n b (let w = is.within in let long = length-take-le n items (omega (arith, short)) in omega (arith, w, long)) (omega (arith, short)) is
      | inr long ↦ subst (λ (xs : List Item). IsBase params xs b) (take_all n items long) is
    ]

-- ---- begins

-- one round more begins where the one before ended
pub one_begin_more : (at : ℕ) (restarts : List (List ParticipantId)) (ends : List ℕ) (one : List ParticipantId) (end second_end : ℕ)
    → length ends ≡ 2 * length restarts
    → begins_of at (restarts ++ one ∷ []) (ends ++ end ∷ second_end ∷ [])
    ≡ begins_of at restarts ends ++ record { at = last_end at ends; restarts = one } ∷ []
one_begin_more at [] [] one end second_end h = refl
one_begin_more at [] (x ∷ ends) one end second_end h = absurd (omega (arith, h))
one_begin_more at (r ∷ restarts) [] one end second_end h = absurd (omega (arith, h))
one_begin_more at (r ∷ restarts) (x ∷ []) one end second_end h = absurd (omega (arith, h))
one_begin_more at (r ∷ restarts) (x ∷ y ∷ ends) one end second_end h =
    ap (λ (begins : List RoundBegin). record { at = at; restarts = r } ∷ begins)
    (one_begin_more y restarts ends one end second_end (omega (arith, h)))

-- ---- the last restart

or_none : {X : Type 0} (o : Option X) → or_else o None ≡ o
or_none None = refl
or_none (Some x) = refl

or_or : {X : Type 0} (a b c : Option X) → or_else (or_else a b) c ≡ or_else a (or_else b c)
or_or None b c = refl
or_or (Some x) b c = refl

-- a later round counts before the others
pub last_more : (p : ParticipantId) (begins : List RoundBegin) (one : RoundBegin)
    → last_restart p (begins ++ one ∷ []) ≡ or_else (restart_at p one) (last_restart p begins)
last_more p [] one = sym (or_none (restart_at p one))
last_more p (first ∷ begins) one =
    ap (λ (o : Option ℕ). or_else o (restart_at p first)) (last_more p begins one)
    ∙ or_or (restart_at p one) (last_restart p begins) (restart_at p first)

-- ---- who restarted

-- a participant restarted exactly where one of the rounds says so
pub restarted_is : (p : ParticipantId) (at : ℕ) (restarts : List (List ParticipantId)) (ends : List ℕ) → length ends ≡ 2 * length restarts
    → is_some (last_restart p (begins_of at restarts ends)) ≡ list_any (λ (names : List ParticipantId). has_place names p) restarts
restarted_is p at [] ends h = refl
restarted_is p at (r ∷ restarts) [] h = absurd (omega (arith, h))
restarted_is p at (r ∷ restarts) (x ∷ []) h = absurd (omega (arith, h))
restarted_is p at (r ∷ restarts) (x ∷ y ∷ ends) h =
    some_of (last_restart p (begins_of y restarts ends)) (has_place r p) (list_any (λ (names : List ParticipantId). has_place names p) restarts)
    (restarted_is p y restarts ends (omega (arith, h)))
  where
    some_of : (later : Option ℕ) (here others : Bool) → is_some later ≡ others
        → is_some (or_else later (if here then Some at else None)) ≡ (here || others)
    some_of None true others same = refl
    some_of None false others same = same
    some_of (Some e) true others same = refl
    some_of (Some e) false others same = same

-- ---- where bases are

module _ (reading : Reading) (params : Params) (log : List Entry) (p : ParticipantId) where
  -- who doesn't restart keeps its base
  pub base_is_kept : (begins : List RoundBegin) (one : RoundBegin) → has_place one.restarts p ≡ false
      → pruned_to reading params log (begins ++ one ∷ []) p ≡ pruned_to reading params log begins p
  base_is_kept begins one stays =
      ap (option_map (base_over reading params log p))
      (last_more p begins one
      ∙ ap (λ (b : Bool). or_else (if b then Some one.at else None) (last_restart p begins)) stays)

  -- who restarts has its base there
  pub base_is_moved : (begins : List RoundBegin) (one : RoundBegin) → has_place one.restarts p ≡ true
      → pruned_to reading params log (begins ++ one ∷ []) p ≡ Some (base params (inbox reading p (take one.at log)))
  base_is_moved begins one restarts =
      ap (option_map (base_over reading params log p))
      (last_more p begins one
      ∙ ap (λ (b : Bool). or_else (if b then Some one.at else None) (last_restart p begins)) restarts)

  -- so one round more moves the bases of those that restart in it alone
  base_moves : (begins : List RoundBegin) (one : RoundBegin) → base_or_first (pruned_to reading params log (begins ++ one ∷ []) p)
      ≡ (if has_place one.restarts p then base_over reading params log p one.at else base_or_first (pruned_to reading params log begins p))
  base_moves begins one =
      ap (λ (o : Option ℕ). base_or_first (option_map (base_over reading params log p) o)) (last_more p begins one)
      ∙ by (has_place one.restarts p) (last_restart p begins)
    where
      by : (restarts : Bool) (o : Option ℕ)
          → base_or_first (option_map (base_over reading params log p) (or_else (if restarts then Some one.at else None) o))
          ≡ (if restarts then base_over reading params log p one.at else base_or_first (option_map (base_over reading params log p) o))
      by true o = refl
      by false o = refl

  -- it is never past the clean place
  within_clean : Genuine reading params log → (end : ℕ) → base_over reading params log p end ≤ clean params (inbox reading p log)
  within_clean genuine end =
      let all = inbox reading p log in
      let b = base_over reading params log p end in
      let front : IsBase params (take end all) b =
      subst (λ (items : List Item). IsBase params items b) (front_of reading p [] log end) (base_is_base params (inbox reading p (take end log))) in
      base_at_most_clean params b all (inbox_is_orderly reading params p log genuine.timely) (stays params all end b front)

  pub pruned_within : Genuine reading params log → (begins : List RoundBegin) (b : ℕ) → pruned_to reading params log begins p ≡ Some b
      → b ≤ clean params (inbox reading p log)
  pruned_within genuine begins b is = over (last_restart p begins) is
    where
      over : (o : Option ℕ) → option_map (base_over reading params log p) o ≡ Some b → b ≤ clean params (inbox reading p log)
      over None h = absurd cc
      over (Some end) h = let same : base_over reading params log p end ≡ b = cc in subst (λ (n : ℕ). n ≤ clean params (inbox reading p log)) same (within_clean genuine end)

-- Where a log ends when a round begins, its bases are those of that log, whatever comes behind it. All others stay.
pub base_moves_at_end : (reading : Reading) (params : Params) (log more : List Entry) (p : ParticipantId) (begins : List RoundBegin)
    (restarts : List ParticipantId)
    → base_or_first (pruned_to reading params (log ++ more) (begins ++ record { at = length log; restarts = restarts } ∷ []) p)
    ≡ (if has_place restarts p then base params (inbox reading p log) else base_or_first (pruned_to reading params (log ++ more) begins p))
base_moves_at_end reading params log more p begins restarts =
    base_moves reading params (log ++ more) p begins (record { at = length log; restarts = restarts })
    ∙ ap
    (λ (seen : List Entry).
    if has_place restarts p then base params (inbox reading p seen) else base_or_first (pruned_to reading params (log ++ more) begins p))
    (take-append_seam log more)
