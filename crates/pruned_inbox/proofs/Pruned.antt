-- Whoever keeps an inbox from a base on answers as who keeps all of it.
use Rattle.std.proofs.Common.{◌≡◌, ℕ, zero, suc, ◌≤◌, Bool, List, [], ◌∷◌, ◌++◌, take, length, map, Option, Some, None, refl, sym, ap, ◌∙◌, arith}
use Rattle.std.specs.Prelude.{slice_get}
use Rattle.std.proofs.Math.Path.{fun_ext}
use Rattle.ledger_terms.specs.declared.params.Params.{Params}
use Rattle.ledger_model.specs.Terms.{Hash, ParticipantId, Path}
use Rattle.ledger_model.specs.Opening.{OpenedView, Shown}
use Rattle.ledger_model.specs.declared.status.Status.{Status}
use Rattle.canton_model.specs.declared.view_verdict.ViewVerdict.{ViewVerdict}
use Rattle.canton_model.specs.declared.local_verdict.LocalVerdict.{LocalVerdict}
use Rattle.canton_model.specs.Reading.{Reading, Offer, Mismatch, Missing, Open}
use Rattle.canton_model.specs.Inbox.{Item, Notice, item_time, last_time, notice_at, status_in_inbox, is_locked_in_inbox, clean}
use Rattle.canton_model.specs.Checks.{verdict_on_found, verdict_on_offer, verdicts_on, verdicts_owed, view_at}
use Rattle.pruned_inbox.specs.Alike.{AnswersAlike}
use Rattle.pruned_inbox.specs.Base.{IsBase}
use Rattle.pruned_inbox.specs.Forgotten.{silent_item, forget}
use Rattle.pruned_inbox.specs.Orderly.{IsOrderly}
use Rattle.pruned_inbox.specs.Start.{Start, IsStart, no_start, status_kept, verdict_if_found, verdict_in_offer, verdicts_by, verdicts_kept}
use Rattle.pruned_inbox.proofs.Kept.{all_behind, forget_length, received_below, received_from, notice_below, notice_from, shown_below, shown_from, time_kept, decided_kept, outcome_kept}
use Rattle.pruned_inbox.proofs.Decisions.{decided_later}
use Rattle.pruned_inbox.proofs.Counted.{locked_same}
use Rattle.pruned_inbox.proofs.Starts.{status_same}
use Rattle.pruned_inbox.proofs.Actives.{active_same}
use Rattle.pruned_inbox.proofs.Cleaned.{clean_same, base_at_most_clean, last_kept, log_same, withheld_same}

module _ (reading : Reading) (params : Params) (p : ParticipantId) (items : List Item) where
  abbrev known : ℕ → Hash → Status
  known k = status_in_inbox reading items k

  abbrev held : ℕ → Hash → Bool
  held k = is_locked_in_inbox reading params items k

  found_is : (k : ℕ) (sender : ParticipantId) (shown : Shown) (o : Option OpenedView)
      → verdict_on_found reading params p items k sender shown o ≡ verdict_if_found reading params p sender (item_time (slice_get items k)) (known k) (held k) shown o
  found_is k sender shown None = refl
  found_is k sender shown (Some view) = refl

  offer_is : (k : ℕ) (sender : ParticipantId) (path : Path) (offer : Offer)
      → verdict_on_offer reading params p items k sender path offer ≡ verdict_in_offer reading params p sender (item_time (slice_get items k)) (known k) (held k) path offer
  offer_is k sender path Mismatch = refl
  offer_is k sender path Missing = refl
  offer_is k sender path (Open shown) = found_is k sender shown (view_at path shown.views)

  abbrev on_path : Path → LocalVerdict → ViewVerdict
  on_path path verdict = record { view = path; verdict = verdict }

  owed_is : (k : ℕ) (o : Option Notice)
      → verdicts_on reading params p items k o ≡ verdicts_by reading params p (item_time (slice_get items k)) (known k) (held k) o
  owed_is k None = refl
  owed_is k (Some notice) = ap (λ (f : Path → ViewVerdict). map f notice.confirmed) (fun_ext (λ path. ap (on_path path) (offer_is k notice.sender path notice.offer)))

  -- who has forgotten nothing owes what the protocol says
  pub owed_at_first : (k : ℕ) → verdicts_kept reading params p no_start items k ≡ verdicts_owed reading params p items k
  owed_at_first k = sym (owed_is k (notice_at items k))

module _ (reading : Reading) (params : Params) (p : ParticipantId) (b : ℕ) (items : List Item) (orderly : IsOrderly params items) (is_base : IsBase params items b) (start : Start) (starts : IsStart reading items b start) where
  abbrev kept : List Item
  kept = forget b items

  owed_same : (k : ℕ) → b ≤ k → verdicts_owed reading params p items k ≡ verdicts_kept reading params p start kept k
  owed_same k le =
      let statuses : status_in_inbox reading items k ≡ status_kept reading start kept k = fun_ext (λ c. status_same reading params b items orderly is_base start starts k c le) in
      let locks : is_locked_in_inbox reading params items k ≡ is_locked_in_inbox reading params kept k = fun_ext (λ c. locked_same reading params b items orderly is_base k c le) in
      owed_is reading params p items k (notice_at items k)
      ∙ (ap (λ (t : ℕ). verdicts_by reading params p t (status_in_inbox reading items k) (is_locked_in_inbox reading params items k) (notice_at items k)) (sym (time_kept b items k))
      ∙ (ap (λ (f : Hash → Status). verdicts_by reading params p (item_time (slice_get kept k)) f (is_locked_in_inbox reading params items k) (notice_at items k)) statuses
      ∙ (ap (λ (f : Hash → Bool). verdicts_by reading params p (item_time (slice_get kept k)) (status_kept reading start kept k) f (notice_at items k)) locks
      ∙ ap (verdicts_by reading params p (item_time (slice_get kept k)) (status_kept reading start kept k) (is_locked_in_inbox reading params kept k)) (sym (notice_from b items k le)))))

  pub answers_alike : AnswersAlike reading params p items kept b start
  answers_alike =
      record {
        cursor = forget_length b items;
        clean_place = clean_same params b items orderly is_base;
        time_there = ap (λ (n : ℕ). last_time (take n kept)) (clean_same params b items orderly is_base) ∙ last_kept b items (clean params items);
        base_is_clean = base_at_most_clean params b items orderly is_base;
        applied = log_same params b items orderly is_base;
        withheld_from = withheld_same params b items orderly is_base;
        noticed = λ k le. notice_from b items k le;
        unnoticed = λ k lt. notice_below b items k lt;
        shown = λ k le. shown_from b items k le;
        forgotten = λ k lt. shown_below b items k lt;
        received = λ k le. received_from b items k le;
        unreceived = λ k lt. received_below b items k lt;
        decided = λ m k le received. decided_kept params b items (all_behind params items orderly) m k le;
        decided_below = λ m k lt le received. decided_later params items m b k le (is_base.decided m lt received);
        outcome = λ m le received. outcome_kept params b items (all_behind params items orderly) m le;
        status = λ k c le. status_same reading params b items orderly is_base start starts k c le;
        locked = λ k c le. locked_same reading params b items orderly is_base k c le;
        owed = owed_same;
        active = λ n le. active_same reading params p b items orderly is_base start starts n le;
      }

-- ---- an inbox that is read on

pub forget_append : (b : ℕ) (items more : List Item) → b ≤ length items → forget b (items ++ more) ≡ forget b items ++ more
forget_append zero items more le = refl
forget_append (suc b) [] more le = absurd (omega (arith, le))
forget_append (suc b) (item ∷ rest) more le = ap (λ (xs : List Item). silent_item item ∷ xs) (forget_append b rest more (omega (arith, le)))
