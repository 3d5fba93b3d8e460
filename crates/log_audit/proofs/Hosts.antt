-- Who isn't there owes nothing.
use Rattle.std.proofs.Common.{◌≡◌, ℕ, suc, ◌≤◌, Bool, false, List, [], ◌∷◌, filter, map, take, length, Option, Some, None, refl, sym, ap, ◌∙◌, inl, inr}
use Rattle.std.specs.Prelude.{slice_get}
use Rattle.std.specs.List.{list_any}
use Rattle.std.proofs.lemmas.Bool.{cases_Bool, or_from}
use Rattle.std.proofs.lemmas.Option.{slice_get_past}
use Rattle.ledger_terms.specs.Forest.{preorder}
use Rattle.ledger_terms.specs.Hosting.{confirms_at, host_lists}
use Rattle.ledger_terms.specs.declared.host.Host.{Host}
use Rattle.ledger_terms.specs.declared.topology.Topology.{Topology}
use Rattle.lang_eval.specs.Found.{Packages}
use Rattle.ledger_model.specs.Terms.{Path}
use Rattle.canton_model.specs.Log.{request_at}
use Rattle.canton_model.specs.Reading.{Reading, Outlined, is_recipient, is_some_path, paths_confirmed, placed_outline}
use Rattle.canton_model.specs.Checks.{verdicts_owed}
use Rattle.canton_model.specs.Inbox.{inbox}
use Rattle.world_model.specs.Messages.{Entry, Request}
use Rattle.world_model.specs.Machine.{is_asked}
use Rattle.world_model.specs.Settled.{is_asked_in}
use Rattle.world_model.proofs.NodeFacts.{owes_is}
use Rattle.framed_form.specs.FramedReading.{framed_reading}
use Rattle.audit_model.proofs.Owing.{nothing_owed}

none_of : {X : Type 0} (test : X → Bool) (xs : List X) → ((x : X) → test x ≡ false) → list_any test xs ≡ false
none_of test [] h = refl
none_of test (x ∷ xs) h = or_from _ _ (h x) (none_of test xs h)

none_left : {X : Type 0} (test : X → Bool) (xs : List X) → ((x : X) → test x ≡ false) → filter test xs ≡ []
none_left test [] h = refl
none_left test (x ∷ xs) h = rw (h x) (none_left test xs h)

module _ (reading : Reading) (p : ℕ) (nobody : (name : List ℕ) → reading.confirms p name ≡ false) where
  confirms_none : (q : Request) → paths_confirmed reading p q ≡ []
  confirms_none q =
      ap (map (λ (view : Path × Outlined). view.0))
      (none_left (λ (view : Path × Outlined). list_any (reading.confirms p) (view.1).confirmers) (preorder (placed_outline reading q))
      (λ view. none_of (reading.confirms p) (view.1).confirmers nobody))

  unasked : (q : Request) → is_asked reading p q ≡ false
  unasked q =
      elim (cases_Bool (is_recipient reading p q)) [
        | inl here ↦ rw here (ap is_some_path (confirms_none q))
        | inr away ↦ rw away refl
      ]

  unasked_in : (o : Option Request) → is_asked_in reading p o ≡ false
  unasked_in None = refl
  unasked_in (Some q) = unasked q

pub beyond : (topology : Topology) (packages : Packages) (p place : ℕ) (log : List Entry) → length topology.hosts ≤ p
    → [] ≡ verdicts_owed (framed_reading topology packages) topology.params p (inbox (framed_reading topology packages) p (take (suc place) log)) place
beyond topology packages p place log past =
    let reading = framed_reading topology packages in
    let absent : slice_get topology.hosts p ≡ None = slice_get_past topology.hosts p past in
    let nobody : (name : List ℕ) → confirms_at topology.hosts p name ≡ false = λ name. ap (λ (o : Option Host). host_lists o name) absent in
    sym (nothing_owed reading topology.params p log place (owes_is reading p log place ∙ unasked_in reading p nobody (request_at log place)))
