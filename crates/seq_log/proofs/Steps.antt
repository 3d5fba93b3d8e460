-- What a message that isn't refused does to a log and to what is kept.
use Rattle.std.proofs.Common.{◌≡◌, ℕ, ◌+◌, ◌≤◌, ◌^◌, Bool, List, [], ◌∷◌, ◌++◌, length, None, refl, sym, ap, ◌∙◌, subst, inl, inr, arith}
use Rattle.std.specs.Prelude.{nat_lt}
use Rattle.std.proofs.lemmas.Bool.{cases_Bool, ltb-false}
use Rattle.std.proofs.lemmas.Option.{none-some}
use Rattle.canton_model.specs.Log.{FollowsTime, Params}
use Rattle.canton_model.specs.Timeline.{or_else}
use Rattle.world_model.specs.Messages.{Entry, Message, Request, RequestMessage, ResponseMessage, VerdictMessage, Tick}
use Rattle.world_model.specs.Machine.{Machine}
use Rattle.world_model.specs.Fits.{MayStand}
use Rattle.world_model.specs.Locks.{SequencerBehind}
use Rattle.world_model.specs.Sequencing.{append_fault, entry_after, first_from, if_already, is_same, last_time, reserved, need_of}
use Rattle.world_model.proofs.Appended.{behind_form, no_fault, appended_keeps, appended_within}
use Rattle.log_row.specs.LogPrefix.{LogPrefix, extended}
use Rattle.framed_form.specs.Framed.{is_framed}
use Rattle.seq_log.specs.Faults.{fault_in, if_full, next_time, request_fault}
use Rattle.seq_log.specs.Sequenced.{Sequenced, IsFor}
use Rattle.seq_log.specs.Slips.{Holds}
use Rattle.seq_log.proofs.Sums.{time_is}
use Rattle.seq_log.proofs.Slips.{holds_more}

-- the fault of a machine is told by its times, its capacity and what is framed there
pub fault_of_machine : (m : Machine) (list : List Entry) (message : Message)
    → append_fault m list message ≡ fault_in (m.reading).is_framed m.capacity m.params list message
fault_of_machine m list (RequestMessage q) = refl
fault_of_machine m list (ResponseMessage r) = refl
fault_of_machine m list (VerdictMessage v) = refl
fault_of_machine m list Tick = refl

framed_alike : (f g : Request → Bool) (capacity : ℕ) (params : Params) (list : List Entry) (message : Message) → ((q : Request) → f q ≡ g q)
    → fault_in f capacity params list message ≡ fault_in g capacity params list message
framed_alike f g capacity params list (RequestMessage q) same =
    ap (λ (b : Bool). or_else (if_already (first_from (is_same (RequestMessage q)) 0 list)) (request_fault b capacity (reserved list) (2 + length q.confirming)))
    (same q)
framed_alike f g capacity params list (ResponseMessage r) same = refl
framed_alike f g capacity params list (VerdictMessage v) same = refl
framed_alike f g capacity params list Tick same = refl

pub fault_is : (m : Machine) (s : Sequenced) (message : Message) → IsFor m s
    → append_fault m s.list message ≡ fault_in (is_framed s.topology) s.capacity (s.topology).params s.list message
fault_is m s message is =
    fault_of_machine m s.list message
    ∙ (framed_alike (m.reading).is_framed (is_framed s.topology) m.capacity m.params s.list message is.framed
    ∙ (ap (λ (p : Params). fault_in (is_framed s.topology) m.capacity p s.list message) is.params
    ∙ ap (λ (n : ℕ). fault_in (is_framed s.topology) n (s.topology).params s.list message) is.capacity))

-- it doesn't stand there
pub is_new : (framed : Request → Bool) (capacity : ℕ) (params : Params) (list : List Entry) (message : Message)
    → fault_in framed capacity params list message ≡ None → first_from (is_same message) 0 list ≡ None
is_new framed capacity params list message none = (no_fault (first_from (is_same message) 0 list) _ none).0

not_full : (capacity before need : ℕ) → if_full capacity before need ≡ None → before + need ≤ capacity
not_full capacity before need h =
    elim (cases_Bool (nat_lt capacity (before + need))) [
      | inl b ↦ let past = rw b at h in absurd (none-some _ (sym past))
      | inr b ↦ ltb-false _ _ b
    ]

-- and there is room for it
pub has_room : (framed : Request → Bool) (capacity : ℕ) (params : Params) (list : List Entry) (message : Message) → reserved list ≤ capacity
    → fault_in framed capacity params list message ≡ None → reserved list + need_of message ≤ capacity
has_room framed capacity params list (RequestMessage q) le none =
    not_full capacity (reserved list) (2 + length q.confirming)
    (behind_form (framed q) _ None (λ same. cc) (no_fault (first_from (is_same (RequestMessage q)) 0 list) _ none).1)
has_room framed capacity params list (ResponseMessage r) le none = omega arith
has_room framed capacity params list (VerdictMessage v) le none = omega arith
has_room framed capacity params list Tick le none = omega arith

pub time_within : (now : ℕ) (message : Message) (last long : ℕ) → now ≤ 10 ^ 16 → last ≤ 10 ^ 16 + long → next_time now message last ≤ 10 ^ 16 + (long + 1)
time_within now (RequestMessage q) last long le h = omega arith
time_within now (ResponseMessage r) last long le h = omega arith
time_within now (VerdictMessage v) last long le h = omega arith
time_within now Tick last long le h = omega arith

-- the next entry's time follows the last one's
pub follows_next : (now : ℕ) (message : Message) (last time : ℕ) → time ≡ next_time now message last → FollowsTime message last time
follows_next now (RequestMessage q) last time is = is
follows_next now (ResponseMessage r) last time is = is
follows_next now (VerdictMessage v) last time is = is
follows_next now Tick last time is = omega (arith, is)

pub holds_after : (before after : LogPrefix) (slips new : List LogPrefix) (e : Entry) → Holds before slips → after ≡ extended before e
    → new ≡ slips ++ after ∷ [] → Holds after new
holds_after before after slips new e h is items =
    subst (λ (l : List LogPrefix). Holds after l) (sym items) (subst (λ (t : LogPrefix). Holds t (slips ++ t ∷ [])) (sym is) (holds_more before slips e h))

-- the entry is that of the world model
pub entry_is : (now time last : ℕ) (list : List Entry) (message : Message) → time ≡ next_time now message last → last ≡ last_time list
    → (record { time = time; message = message }) ≡ entry_after now list message
entry_is now time last list message t l = ap (λ (n : ℕ). entry_at n) (t ∙ ap (next_time now message) l ∙ sym (time_is now message list))
  where
    entry_at : ℕ → Entry
    entry_at n = record { time = n; message = message }

pub behind_after : (m : Machine) (now : ℕ) (s : Sequenced) (message : Message) (new : List Entry) → IsFor m s → SequencerBehind m s.list
    → MayStand m s.list message → fault_in (is_framed s.topology) s.capacity (s.topology).params s.list message ≡ None → new ≡ s.list ++ entry_after now s.list message ∷ []
    → SequencerBehind m new
behind_after m now s message new is behind may none more =
    let free = fault_is m s message is ∙ none in
    subst (λ (l : List Entry). SequencerBehind m l) (sym more) (record {
      genuine = appended_keeps m now s.list message behind.genuine may free;
      within_capacity = appended_within m now s.list message behind.within_capacity free;
    })
