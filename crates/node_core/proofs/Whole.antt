-- Who has forgotten nothing.
use Rattle.std.proofs.Common.{◌≡◌, ℕ, suc, ◌+◌, false, List, ◌++◌, drop, length, take, None, refl, sym, ap, ◌∙◌, subst, arith}
use Rattle.canton_model.specs.Genuine.{Genuine}
use Rattle.canton_model.specs.Log.{Params}
use Rattle.canton_model.specs.Reading.{Reading}
use Rattle.canton_model.specs.Inbox.{Item, inbox, last_time}
use Rattle.canton_model.proofs.LongerLogs.{genuine_take}
use Rattle.world_model.specs.Machine.{GenuineLog, Machine}
use Rattle.world_model.specs.Messages.{Entry}
use Rattle.world_model.specs.Lawful.{NodeHas}
use Rattle.world_model.specs.Node.{owed_at}
use Rattle.pruned_inbox.specs.Base.{IsBase}
use Rattle.pruned_inbox.specs.Forgotten.{silent_front}
use Rattle.pruned_inbox.specs.Start.{IsStart, Start, verdicts_kept}
use Rattle.pruned_inbox.proofs.OfLog.{inbox_is_orderly}
use Rattle.pruned_inbox.proofs.Pruned.{owed_at_first}
use Rattle.node_core.specs.Answers.{IsOf}
use Rattle.node_core.specs.Participant.{CanRead, HasForgottenNothing, HasRead, IsPrunedTo, Participant, items_of, owed_there, params_of, reading_of, whole_state}
use Rattle.node_core.specs.Preparing.{offered, offered_by, offered_kept}
use Rattle.node_core.specs.Views.{view_kept, view_of, view_over}

pub has_whole : (whole : List Item) (p : Participant) → p.base ≡ 0 → IsPrunedTo whole p → items_of p ≡ whole
has_whole whole p none is = is.kept ∙ ap (λ (b : ℕ). silent_front b p.base_time ++ drop b whole) none

-- it is pruned to the first place of its inbox
module _ (p : Participant) (read : List Entry) (forgot : HasForgottenNothing p) (genuine : Genuine (reading_of p) (params_of p) read)
    (items : items_of p ≡ inbox (reading_of p) p.me read) where
  abbrev whole : List Item
  whole = inbox (reading_of p) p.me read

  pub at_first : IsPrunedTo whole p
  at_first =
      let none = forgot.0 in
      let nothing = forgot.2 in
      record {
        orderly = inbox_is_orderly (reading_of p) (params_of p) p.me read genuine.timely;
        is_base = subst (IsBase (params_of p) whole) (sym none) (record { within = omega arith; decided = λ k lt received. absurd (omega (arith, lt)) });
        starts =
            subst (λ (b : ℕ). IsStart (reading_of p) whole b p.start) (sym none)
            (subst (IsStart (reading_of p) whole 0) (sym nothing) (record { active = refl; gone = λ c. refl; ascend = tt }));
        time = forgot.1 ∙ sym (ap (λ (b : ℕ). last_time (take b whole)) none);
        kept = items ∙ sym (ap (λ (b : ℕ). silent_front b p.base_time ++ drop b whole) none);
      }

pub has_begun : (m : Machine) (p : Participant) (read : List Entry) → IsOf m p → HasForgottenNothing p → GenuineLog m read → NodeHas m p.me read p.state
    → HasRead m read p
has_begun m p read is forgot genuine node =
    let items : items_of p ≡ inbox (reading_of p) p.me read = node.items ∙ ap (λ (r : Reading). inbox r p.me read) is.reading in
    let mine =
    subst (λ (ps : Params). Genuine (reading_of p) ps read) is.params (subst (λ (r : Reading). Genuine r m.params read) is.reading genuine) in
    record {
      node = subst (λ (xs : List Item). NodeHas m p.me read (whole_state p xs)) items node;
      pruned = at_first p read forgot mine items;
    }

pub reads_whole : (p : Participant) (list : List Entry) → HasForgottenNothing p → length list ≡ length (items_of p) + 1
    → Genuine (reading_of p) (params_of p) list → items_of p ≡ inbox (reading_of p) p.me (take (length (items_of p)) list) → CanRead p list
reads_whole p list forgot cursor genuine items =
    record {
      cursor = cursor;
      genuine = genuine;
      before = at_first p (take (length (items_of p)) list) forgot
          (genuine_take (reading_of p) (params_of p) list (length (items_of p)) genuine) items;
    }

pub owes_whole : (p : Participant) (k : ℕ) → HasForgottenNothing p → owed_there p k ≡ owed_at (reading_of p) (params_of p) p.me (items_of p) k
owes_whole p k forgot =
    ap (λ (start : Start). verdicts_kept (reading_of p) (params_of p) p.me start (take (suc k) (items_of p)) k) forgot.2
    ∙ owed_at_first (reading_of p) (params_of p) p.me (take (suc k) (items_of p)) k

pub offers_whole : (p : Participant) → HasForgottenNothing p → offered_by p ≡ offered (reading_of p) p.me (items_of p)
offers_whole p forgot = ap (λ (start : Start). offered_kept (reading_of p) p.me start (items_of p)) forgot.2

pub views_whole : (p : Participant) → HasForgottenNothing p → view_of false p ≡ view_over (reading_of p) (params_of p) p.me (items_of p)
views_whole p forgot = ap (λ (start : Start). view_kept (reading_of p) (params_of p) p.me None start (items_of p)) forgot.2
