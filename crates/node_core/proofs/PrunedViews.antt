-- What a participant knows that is pruned to its base, beside what it would know with the whole inbox.
use Rattle.std.proofs.Common.{◌≡◌, ℕ, Bool, true, false, List, [], ◌∷◌, None, Some, filter, refl, sym, ap, ◌∙◌, arith}
use Rattle.std.specs.Prelude.{if◌then◌else◌, nat_le}
use Rattle.std.proofs.lemmas.Bool.{le-leb}
use Rattle.canton_model.specs.Inbox.{Item, clean, node_active, node_log, withheld}
use Rattle.ledger_model.specs.declared.commit.Commit.{Commit}
use Rattle.pruned_inbox.specs.Alike.{AnswersAlike}
use Rattle.pruned_inbox.specs.Start.{active_kept}
use Rattle.node_core.specs.Participant.{IsPrunedTo, Participant, items_of, params_of, reading_of}
use Rattle.node_core.specs.Views.{base_if, view_from, view_of, view_over}
use Rattle.node_core.proofs.Pruned.{pruned_alike}

all_from_first : {X : Type 0} (place_of : X → ℕ) (xs : List X) → filter (λ (x : X). nat_le 0 (place_of x)) xs ≡ xs
all_from_first place_of [] = refl
all_from_first {X = X} place_of (x ∷ xs) =
    let rest = filter (λ (y : X). nat_le 0 (place_of y)) xs in
    ap (λ (passes : Bool). if passes then x ∷ rest else rest) (le-leb 0 (place_of x) (omega arith))
    ∙ ap (λ (more : List X). x ∷ more) (all_from_first place_of xs)

module _ (whole : List Item) (p : Participant) (is : IsPrunedTo whole p) where
  abbrev alike : AnswersAlike (reading_of p) (params_of p) p.me whole (items_of p) p.base p.start
  alike = pruned_alike whole p is

  pub active_same : active_kept (reading_of p) p.me p.start (items_of p) (clean (params_of p) (items_of p))
      ≡ node_active (reading_of p) p.me whole (clean (params_of p) whole)
  active_same =
      ap (active_kept (reading_of p) p.me p.start (items_of p)) alike.clean_place
      ∙ sym (alike.active (clean (params_of p) whole) alike.base_is_clean)

  -- where it is pruned to the first place nothing is left out
  withheld_first : p.base ≡ 0 → withheld (params_of p) (items_of p) ≡ withheld (params_of p) whole
  withheld_first first =
      alike.withheld_from
      ∙ (ap (λ (b : ℕ). filter (nat_le b) (withheld (params_of p) whole)) first
      ∙ all_from_first (λ (place : ℕ). place) (withheld (params_of p) whole))

  applied_first : p.base ≡ 0 → node_log (params_of p) (items_of p) ≡ node_log (params_of p) whole
  applied_first first =
      alike.applied
      ∙ (ap (λ (b : ℕ). filter (λ (part : Commit). nat_le b part.place) (node_log (params_of p) whole)) first
      ∙ all_from_first (λ (part : Commit). part.place) (node_log (params_of p) whole))

  pub knows_rest : (restarted : Bool) → (restarted ≡ false → p.base ≡ 0)
      → view_of restarted p ≡ view_from (base_if restarted p.base) (view_over (reading_of p) (params_of p) p.me whole)
  knows_rest true first =
      λ i.
      record {
        clean = alike.clean_place i;
        clean_time = alike.time_there i;
        pruned = Some p.base;
        withheld = alike.withheld_from i;
        commits = alike.applied i;
        active = active_same i;
      }
  knows_rest false first =
      λ i.
      record {
        clean = alike.clean_place i;
        clean_time = alike.time_there i;
        pruned = None;
        withheld = withheld_first (first refl) i;
        commits = applied_first (first refl) i;
        active = active_same i;
      }
