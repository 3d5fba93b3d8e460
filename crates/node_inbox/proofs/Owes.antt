-- What is owed to requests that are kept.
use Rattle.std.proofs.Common.{◌≡◌, ℕ, Bool, true, false, List, [], ◌∷◌, Some, None, refl, ap, ◌∙◌}
use Rattle.std.specs.Prelude.{not}
use Rattle.ledger_terms.specs.declared.topology.Topology.{Topology}
use Rattle.ledger_model.specs.Terms.{ParticipantId, Path}
use Rattle.canton_model.specs.Reading.{is_some_path}
use Rattle.lang_eval.specs.Found.{Packages}
use Rattle.pruned_inbox.specs.Start.{Start}
use Rattle.framed_form.specs.FramedReading.{framed_reading}
use Rattle.world_model.specs.Machine.{confirms_some_view}
use Rattle.world_model.specs.Node.{owes_at}
use Rattle.node_inbox.specs.Items.{model_items}
use Rattle.node_inbox.specs.Kept.{AreKept, kept_at}
use Rattle.node_inbox.specs.declared.kept_item.KeptItem.{KeptItem}
use Rattle.node_inbox.specs.declared.kept_item.KeptRequest.{KeptRequest}
use Rattle.node_inbox.proofs.Seen.{none_noticed, noticed}

none_of : (paths : List Path) (empty : Bool) → (empty ≡ true → paths ≡ []) → (paths ≡ [] → empty ≡ true) → is_some_path paths ≡ not empty
none_of [] true is back = refl
none_of [] false is back = let no = back refl in absurd cc
none_of (path ∷ paths) true is back = let no = is refl in absurd cc
none_of (path ∷ paths) false is back = refl

module _ (topology : Topology) (packages : Packages) (me : ParticipantId) (start : Start) (items : List KeptItem) (each : AreKept topology packages me start items) where
  pub owes_none : (k : ℕ) → kept_at items k ≡ None → owes_at (framed_reading topology packages) me (model_items items) k ≡ false
  owes_none k e = ap confirms_some_view (none_noticed topology packages me start items each k e)

  pub owes_is : (k : ℕ) (r : KeptRequest) → kept_at items k ≡ Some r
      → owes_at (framed_reading topology packages) me (model_items items) k ≡ is_some_path r.confirmed
  owes_is k r e = ap confirms_some_view (noticed topology packages me start items each k r e)

  pub owes_some : (k : ℕ) (r : KeptRequest) → kept_at items k ≡ Some r → (empty : Bool) → (empty ≡ true → r.confirmed ≡ []) → (r.confirmed ≡ [] → empty ≡ true)
      → owes_at (framed_reading topology packages) me (model_items items) k ≡ not empty
  owes_some k r e empty none back = owes_is k r e ∙ none_of r.confirmed empty none back
