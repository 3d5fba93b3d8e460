-- A kept request has what its check goes by.
use Rattle.std.proofs.Common.{◌≡◌, ◌<◌, ℕ, suc, Bool, true, List, [], ◌∷◌, length, map, take, Option, Some, None, refl, sym, ap, subst, ◌∙◌, inl, inr, arith}
use Rattle.std.specs.Borrow.{Bor}
use Rattle.std.specs.Prelude.{All, Contains, IsSome, slice_get}
use Rattle.std.specs.Str.{bytes_eq}
use Rattle.std.proofs.lemmas.Bool.{cases_Bool}
use Rattle.std.proofs.lemmas.Slice.Eq.{bytes_eq-Decides}
use Rattle.ledger_terms.specs.declared.act.Act.{Act}
use Rattle.ledger_terms.specs.declared.host.Host.{Host}
use Rattle.ledger_terms.specs.declared.topology.Topology.{Topology}
use Rattle.ledger_model.specs.Forest.{acts, trees_of}
use Rattle.ledger_model.specs.Opening.{OpenedView}
use Rattle.ledger_model.specs.Terms.{Hash, Path, id_of}
use Rattle.ledger_model.proofs.Lists.{In, in_from_Contains, in_map}
use Rattle.ledger_model.specs.declared.status.Status.{Status}
use Rattle.canton_model.specs.Inbox.{Item, is_locked_in_inbox, item_time, notice_at, notice_in}
use Rattle.canton_model.specs.Reading.{Reading, is_some_path}
use Rattle.canton_model.proofs.InboxFacts.{slice_get_take}
use Rattle.pruned_inbox.specs.Start.{Start, status_kept, verdicts_by}
use Rattle.world_model.specs.Node.{owes_at}
use Rattle.lang_eval.specs.Found.{Packages}
use Rattle.view_split.specs.Placed.{shown_by as shown_of_tree}
use Rattle.view_split.specs.declared.opened_tree.OpenedTree.{OpenedTree}
use Rattle.blind_tree.specs.Blind.{has_name as host_has_name, is_host_named}
use Rattle.blind_tree.specs.declared.shown_for.OpenedFor.TheVariants as opened
use Rattle.framed_form.specs.Framed.{IsFramed}
use Rattle.framed_form.specs.FramedForm.{offered}
use Rattle.framed_form.specs.FramedReading.{framed_reading}
use Rattle.framed_form.proofs.Decided.{framed_decides}
use Rattle.confirm_reply.specs.Facts.{AreKnown, fact_on}
use Rattle.confirm_reply.specs.LocalReading.{has_name as local_has_name, is_named_at, local_reading}
use Rattle.confirm_reply.specs.Offered.{IsGivenBy}
use Rattle.confirm_reply.specs.Opened.{CanBeChecked}
use Rattle.confirm_reply.specs.Verdict.{CanCheck}
use Rattle.confirm_reply.specs.declared.check_input.CheckInput.{CheckInput}
use Rattle.confirm_reply.specs.declared.id_facts.IdFacts.{IdFacts}
use Rattle.confirm_reply.specs.declared.setup.Setup.{Setup}
use Rattle.confirm_reply.specs.declared.shown.Shown.TheVariants.{Open as ShownOpen}
use Rattle.confirm_reply.proofs.Checkable.{in_from_get, tree_of_in}
use Rattle.confirm_reply.proofs.Checked.{core_in_place, found_in}
use Rattle.confirm_reply.proofs.KnownFacts.{are_known}
use Rattle.confirm_reply.proofs.Placed.{EachIn, StandsIn}
use Rattle.validate_job.specs.Owed.{owed_on_each}
use Rattle.validate_job.specs.OwedAt.{IsInputOf, without_requests}
use Rattle.validate_job.proofs.OwedAt.{can_check_each, owed_is}
use Rattle.node_inbox.specs.InboxState.{owed_kept}
use Rattle.node_inbox.specs.Items.{model_items, notice_of}
use Rattle.node_inbox.specs.JobInput.{input_of, shown_for}
use Rattle.node_inbox.specs.Kept.{AreKept, IsKept, kept_at}
use Rattle.node_inbox.specs.Offers.{as_offered, model_offer, opened_ids}
use Rattle.node_inbox.specs.declared.kept_item.KeptItem.{KeptItem}
use Rattle.node_inbox.specs.declared.kept_item.KeptRequest.{KeptRequest}
use Rattle.node_inbox.specs.declared.kept_offer.KeptOffer.{KeptOffer}
use Rattle.node_inbox.specs.declared.kept_offer.KeptOffer.TheVariants.{Mismatch, Missing, Open}
use Rattle.node_inbox.proofs.Checkable.{can_be_checked}
use Rattle.node_inbox.proofs.Owes.{owes_is}
use Rattle.node_inbox.proofs.Seen.{found_at, noticed}

-- ---- facts on contracts

fact_found : (facts : List IdFacts) (c : Hash) → In c (map (λ (fact : IdFacts). fact.id) facts) → IsSome (fact_on facts c)
fact_found [] c i = absurd i
fact_found (fact ∷ facts) c (inl same) = let here = (bytes_eq-Decides fact.id c).1 same in rw here refl
fact_found (fact ∷ facts) c (inr i) =
    elim (cases_Bool (bytes_eq fact.id c)) [
      | inl here ↦ rw here refl
      | inr other ↦ rw other (fact_found facts c i)
    ]

each_of : {A : Type 0} (P : A → Type 0) (xs : List A) → EachIn P xs → (x : A) → In x xs → P x
each_of P [] e x i = absurd i
each_of P (y ∷ ys) e x (inl same) = subst P same e.0
each_of P (y ∷ ys) e x (inr i) = each_of P ys e.1 x i

-- an action of a view's core is one of those that are opened
in_roots : (tree : OpenedTree) (view : OpenedView) → In view (shown_of_tree tree).views → (a : ℕ × Act) → In a view.core → In a.1 (acts (shown_of_tree tree).roots)
in_roots tree view there a i =
    let roots = (shown_of_tree tree).roots in
    let s = each_of (StandsIn (trees_of roots)) view.core (core_in_place tree view there) a i in
    (tree_of_in roots (a.1, s.0) (in_from_get (trees_of roots) a.0 (a.1, s.0) s.1)).act

-- ---- what is shown

given_as : (offer : KeptOffer) → IsGivenBy (model_offer offer) (shown_for offer)
given_as Mismatch = refl
given_as Missing = refl
given_as (Open tree) = refl

-- what is shown as open is offered
shown_open : (offer : KeptOffer) (tree : OpenedTree) → shown_for offer ≡ ShownOpen tree → offer ≡ Open tree
shown_open Mismatch tree e = absurd cc
shown_open Missing tree e = absurd cc
shown_open (Open other) tree e = cc

-- ---- whose checks these are

named_alike : (hosts : List Host) (p : ℕ) (name : List ℕ) → is_host_named hosts p name ≡ is_named_at hosts p name
named_alike hosts p name = by (slice_get hosts p)
  where
    by : (o : Option Host) → host_has_name o name ≡ local_has_name o name
    by None = refl
    by (Some host) = refl

same_rules : (topology : Topology) (packages : Packages) → without_requests (framed_reading topology packages) ≡ local_reading topology packages
same_rules topology packages = λ i. record (local_reading topology packages) { is_named = λ p name. named_alike topology.hosts p name i }

-- ---- the request at a place

some_path : (paths : List Path) → is_some_path paths ≡ true → 0 < length paths
some_path [] any = cc
some_path (path ∷ paths) any = omega arith

module _ (s : Bor Setup) (me : ℕ) (start : Start) (items : List KeptItem) (k : ℕ) (request : KeptRequest)
    (are : AreKept s.now.topology s.now.checked me start items)
    (at : kept_at items k ≡ Some request) where
  abbrev topology : Topology
  topology = s.now.topology

  abbrev packages : Packages
  packages = s.now.checked

  abbrev reading : Reading
  reading = framed_reading topology packages

  -- the inbox as it stood when the request was read
  abbrev then_read : List Item
  then_read = take (suc k) (model_items items)

  abbrev is_kept : IsKept topology packages me start then_read k request
  is_kept = found_at topology packages me start items are k request at

  framed : IsFramed topology (is_kept.came).request
  framed = (framed_decides topology (is_kept.came).request).0 (is_kept.came).is_framed

  at_end : slice_get then_read k ≡ slice_get (model_items items) k
  at_end = slice_get_take (suc k) (model_items items) k (omega arith)

  is_noticed : notice_at (model_items items) k ≡ Some (notice_of request)
  is_noticed = noticed topology packages me start items are k request at

  -- the participant owes verdicts, so it confirms some view
  pub some_views : owes_at reading me (model_items items) k ≡ true → 0 < length request.confirmed
  some_views owes = some_path request.confirmed (sym (owes_is topology packages me start items are k request at) ∙ owes)

  -- what is open was offered
  open_offered : (tree : OpenedTree) → request.offer ≡ Open tree → offered topology me (is_kept.came).request ≡ opened.Open tree
  open_offered tree is = sym (is_kept.came).offer_is ∙ ap as_offered is

  module _ (time : ℕ) (is_time : time ≡ item_time (slice_get (model_items items) k)) where
    abbrev made : CheckInput
    made = input_of s me time request

    core_known : (tree : OpenedTree) → request.offer ≡ Open tree → (view : OpenedView) → In view (shown_of_tree tree).views
        → (a : ℕ × Act) → Contains view.core a → IsSome (fact_on request.facts (id_of (a.1).action))
    core_known tree is view there a i =
        let ids : map (λ (fact : IdFacts). fact.id) request.facts ≡ opened_ids (Open tree) = is_kept.all_ids ∙ ap opened_ids is in
        fact_found request.facts (id_of (a.1).action)
        (subst (λ (ids : List Hash). In (id_of (a.1).action) ids) (sym ids)
        (in_map (λ (act : Act). id_of act.action) (acts (shown_of_tree tree).roots) a.1
        (in_roots tree view there a (in_from_Contains view.core a i))))

    abbrev known : Hash → Status
    known = status_kept reading start then_read k

    abbrev held : Hash → Bool
    held = is_locked_in_inbox reading topology.params then_read k

    known_at : (tree : OpenedTree) (view : OpenedView) → request.offer ≡ Open tree → In view (shown_of_tree tree).views
        → AreKnown reading me known held request.facts view.core
    known_at tree view is there =
        are_known reading me known held request.facts is_kept.facts view.core (λ a i roles hosted. core_known tree is view there a i)

    fits : IsInputOf reading known held (notice_of request) made
    fits =
        record {
          rules = same_rules topology packages;
          sender = refl;
          places = λ path there. record {
            given = given_as request.offer;
            facts = λ tree view shown found.
                let is = shown_open request.offer tree shown in
                let are = known_at tree view is (found_in (λ (v : OpenedView). bytes_eq path v.path) (shown_of_tree tree).views view found).1 in
                record { status = are.status; locked = are.locked };
          };
        }

    pub are_owed : (input : CheckInput) → input ≡ input_of s me time request
        → owed_on_each input request.confirmed ≡ owed_kept reading topology.params me start (model_items items) k
    are_owed input is =
        ap (λ (i : CheckInput). owed_on_each i request.confirmed) is
        ∙ owed_is reading known held (notice_of request) made fits
        ∙ ap (λ (t : ℕ). verdicts_by reading topology.params me t known held (Some (notice_of request))) (is_time ∙ ap item_time (sym at_end))
        ∙ ap (verdicts_by reading topology.params me (item_time (slice_get then_read k)) known held) (sym (ap notice_in at_end ∙ is_noticed))

    checkable : (tree : OpenedTree) (view : OpenedView) → made.shown ≡ ShownOpen tree → Contains (shown_of_tree tree).views view
        → CanBeChecked packages (shown_of_tree tree) view
    checkable tree view shown there =
        can_be_checked topology (is_kept.came).request me framed tree (open_offered tree (shown_open request.offer tree shown)) packages view there

    pub can_check : (input : CheckInput) → input ≡ input_of s me time request → All (CanCheck input) request.confirmed
    can_check input is = subst (λ (i : CheckInput). All (CanCheck i) request.confirmed) (sym is) (can_check_each made checkable request.confirmed)
