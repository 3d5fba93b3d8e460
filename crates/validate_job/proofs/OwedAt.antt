-- The verdicts of a job are those that a participant owes.
use Rattle.std.proofs.Common.{◌≡◌, ℕ, Bool, List, [], ◌∷◌, map, Option, Some, None, refl, sym, ap, ◌∙◌, inl, inr}
use Rattle.std.specs.Prelude.{All, Contains}
use Rattle.std.specs.Str.{bytes_eq}
use Rattle.std.proofs.lemmas.List.Elements.{All-cons, All-nil}
use Rattle.ledger_terms.specs.declared.params.Params.{Params}
use Rattle.ledger_model.specs.Opening.{OpenedView, Shown}
use Rattle.ledger_model.specs.Terms.{Hash, ParticipantId, Path}
use Rattle.ledger_model.specs.declared.status.Status.{Status}
use Rattle.pruned_inbox.specs.Start.{verdict_if_found, verdict_in_offer, verdicts_by}
use Rattle.ledger_model.proofs.Lists.{In, contains_from_In}
use Rattle.canton_model.specs.Checks.{view_at}
use Rattle.canton_model.specs.Inbox.{Notice}
use Rattle.canton_model.specs.Reading.{Offer, Mismatch, Missing, Reading}
use Rattle.canton_model.specs.Reading as reading
use Rattle.canton_model.specs.declared.local_verdict.LocalVerdict.{LocalVerdict}
use Rattle.canton_model.specs.declared.view_verdict.ViewVerdict.{ViewVerdict}
use Rattle.view_split.specs.Placed.{shown_by}
use Rattle.view_split.specs.declared.opened_tree.OpenedTree.{OpenedTree}
use Rattle.confirm_reply.specs.Opened.{CanBeChecked}
use Rattle.confirm_reply.specs.Verdict.{CanCheck, verdict_of}
use Rattle.confirm_reply.specs.declared.check_input.CheckInput.{CheckInput}
use Rattle.confirm_reply.specs.declared.shown.Shown.TheVariants.{Open}
use Rattle.confirm_reply.proofs.ByKnown.{by_known}
use Rattle.confirm_reply.proofs.Checked.{found_in}
use Rattle.validate_job.specs.Owed.{owed_on, owed_on_each}
use Rattle.validate_job.specs.OwedAt.{IsInputOf, without_requests}

-- ---- what requests show is no part of what verdicts hang on

module _ (rules : Reading) (params : Params) (p sender : ParticipantId) (time : ℕ) (known : Hash → Status) (held : Hash → Bool) where
  same_found : (shown : Shown) (found : Option OpenedView)
      → verdict_if_found (without_requests rules) params p sender time known held shown found ≡ verdict_if_found rules params p sender time known held shown found
  same_found shown None = refl
  same_found shown (Some view) = refl

  same_rules : (path : Path) (offer : Offer)
      → verdict_in_offer (without_requests rules) params p sender time known held path offer ≡ verdict_in_offer rules params p sender time known held path offer
  same_rules path Mismatch = refl
  same_rules path Missing = refl
  same_rules path (reading.Open shown) = same_found shown (view_at path shown.views)

-- ---- verdicts

module _ (rules : Reading) (known : Hash → Status) (held : Hash → Bool) (notice : Notice) (input : CheckInput) (fits : IsInputOf rules known held notice input) where
  abbrev params : Params
  params = input.setup.now.topology.params

  abbrev owed : Path → ViewVerdict
  owed path = record { view = path; verdict = verdict_in_offer rules params input.me notice.sender input.time known held path notice.offer }

  on_path : (path : Path) → In path notice.confirmed
      → verdict_of input path ≡ verdict_in_offer rules params input.me notice.sender input.time known held path notice.offer
  on_path path i =
      by_known input path known held notice.offer (fits.places path (contains_from_In notice.confirmed path i))
      ∙ (ap (λ (r : Reading). verdict_in_offer r params input.me input.sender input.time known held path notice.offer) (sym fits.rules)
      ∙ (same_rules rules params input.me input.sender input.time known held path notice.offer
      ∙ ap (λ (q : ParticipantId). verdict_in_offer rules params input.me q input.time known held path notice.offer) fits.sender))

  on_paths : (paths : List Path) → ((path : Path) → In path paths → In path notice.confirmed) → owed_on_each input paths ≡ map owed paths
  on_paths [] within = refl
  on_paths (path ∷ paths) within =
      let here = on_path path (within path (inl refl)) in
      let rest = on_paths paths (λ p i. within p (inr i)) in
      λ i. record { view = path; verdict = here i } ∷ rest i

  pub owed_is : owed_on_each input notice.confirmed ≡ verdicts_by rules params input.me input.time known held (Some notice)
  owed_is = on_paths notice.confirmed (λ path i. i)

-- ---- what can be checked

module _ (input : CheckInput)
    (each : (tree : OpenedTree) (view : OpenedView) → input.shown ≡ Open tree → Contains (shown_by tree).views view
    → CanBeChecked input.setup.now.checked (shown_by tree) view) where
  can_check : (path : Path) → CanCheck input path
  can_check path tree view is found =
      each tree view is (contains_from_In (shown_by tree).views view (found_in (λ (v : OpenedView). bytes_eq path v.path) (shown_by tree).views view found).1)

  pub can_check_each : (paths : List Path) → All (CanCheck input) paths
  can_check_each [] = All-nil (CanCheck input)
  can_check_each (path ∷ paths) = All-cons (CanCheck input) path paths (can_check path) (can_check_each paths)
