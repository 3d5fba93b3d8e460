-- The request that is made of views is the request of their transaction.
use Rattle.std.proofs.Common.{◌≡◌, ℕ, zero, suc, ◌+◌, ◌<◌, Bool, true, false, List, [], ◌∷◌, ◌++◌, map, filter, length, get_or, drop, Option, Some, None, refl, sym, ap, ◌∙◌, append_assoc, arith}
use Rattle.std.specs.Prelude.{Ok, slice_get}
use Rattle.std.specs.List.{range_with_len}
use Rattle.std.proofs.lemmas.List.{drop_more}
use Rattle.std.proofs.lemmas.Option.{get_or_from_slice_get}
use Rattle.sha2.specs.Sha256.{sha256}
use Rattle.ledger_terms.specs.Hosting.{confirms_at}
use Rattle.ledger_terms.specs.Topologies.{IsValid}
use Rattle.ledger_terms.specs.declared.action.Action.{Action}
use Rattle.ledger_terms.specs.declared.host.Host.{Host}
use Rattle.ledger_terms.specs.declared.topology.Topology.{Topology}
use Rattle.ledger_terms.specs.declared.tx.Tx.{Tx}
use Rattle.ledger_terms.specs.Forest.{Forest}
use Rattle.ledger_terms.proofs.Deciding.{bytes_decide}
use Rattle.ledger_model.specs.Opening.{Transaction}
use Rattle.ledger_model.specs.declared.roles.Roles.{Roles}
use Rattle.canton_model.specs.declared.envelope.Envelope.{Envelope}
use Rattle.canton_model.specs.declared.request.Request.{Request}
use Rattle.lang_eval.specs.Found.{Packages}
use Rattle.lang_eval.specs.Language.{roles_in}
use Rattle.lang_eval.proofs.Informed.{no_size}
use Rattle.interpret.specs.Language.{the_language}
use Rattle.view_split.specs.Faults.{views_of_tx}
use Rattle.view_split.specs.Split.{split}
use Rattle.view_split.specs.declared.split_view.SplitView.{SplitView}
use Rattle.view_split.specs.declared.views.Views.{Views}
use Rattle.blind_tree.specs.Blind.{blind_for, has_name, is_host_named, salts_of}
use Rattle.blind_tree.specs.InRange.{AreVertices, IsTree}
use Rattle.blind_tree.specs.Kept.{cut_tree, kept_tree}
use Rattle.blind_tree.specs.Recipients.{is_recipient}
use Rattle.blind_tree.specs.Spelling.{spell_tree}
use Rattle.blind_tree.specs.Vertices.{Vertices, NoVertices, BlindVertex, InnerVertex, AreNarrow, IsNarrow}
use Rattle.blind_tree.specs.declared.kept_tree.KeptTree.{KeptTree}
use Rattle.blind_tree.specs.declared.recipient.Recipient.TheVariants.{Mediator, Participant}
use Rattle.blind_tree.specs.declared.tree.Tree.{Tree}
use Rattle.blind_tree.proofs.KeptLaws.{cut_is_for}
use Rattle.sealed_form.specs.SealedForm.{confirming_by, envelope_for, roles_by, views_by}
use Rattle.sealed_form.specs.Submission.{whole_with_seed}
use Rattle.sealed_form.specs.Within.{participants_of}
use Rattle.sealed_form.proofs.Asked.{asked_by_views}
use Rattle.sealed_form.proofs.Blinded.{blinded_for, blinded_for_mediator}
use Rattle.sealed_form.proofs.Given.{made_of}
use Rattle.proto_model.specs.Made.{envelope_by, envelope_cut, request_by, request_of_tx}

-- ---- lists

-- one participant more
index_more : (a n : ℕ) → range_with_len a (suc n) ≡ range_with_len a n ++ (a + n) ∷ []
index_more a zero = let same : a ≡ a + 0 = omega arith in ap (λ (k : ℕ). k ∷ []) same
index_more a (suc n) =
    let moved : (a + 1) + n ≡ a + suc n = omega arith in
    ap (λ (ks : List ℕ). a ∷ ks) (index_more (a + 1) n ∙ ap (λ (k : ℕ). range_with_len (a + 1) n ++ k ∷ []) moved)

pub one_index_more : (n : ℕ) → range_with_len 0 (n + 1) ≡ range_with_len 0 n ++ n ∷ []
one_index_more n =
    let next : n + 1 ≡ suc n = omega arith in
    let last : 0 + n ≡ n = omega arith in
    ap (range_with_len 0) next ∙ (index_more 0 n ∙ ap (λ (k : ℕ). range_with_len 0 n ++ k ∷ []) last)

-- The next item goes from what is left to what was kept, where it passes; else it is left out.
module _ (test : ℕ → Bool) (xs : List ℕ) (i x : ℕ) (done whole : List ℕ) (within : i < length xs) (is : x ≡ get_or xs i x) where
  here : drop i xs ≡ x ∷ drop (i + 1) xs
  here = drop_more xs i x within ∙ ap (λ (y : ℕ). y ∷ drop (i + 1) xs) (sym is)

  pub kept_next : test x ≡ true → done ++ filter test (drop i xs) ≡ whole → (done ++ x ∷ []) ++ filter test (drop (i + 1) xs) ≡ whole
  kept_next passes sofar = append_assoc done (x ∷ []) (filter test (drop (i + 1) xs)) ∙ (rw (here, passes) at sofar)

  pub left_next : test x ≡ false → done ++ filter test (drop i xs) ≡ whole → done ++ filter test (drop (i + 1) xs) ≡ whole
  left_next fails sofar = rw (here, fails) at sofar

-- ---- what is made from the tree with every hash

-- what is cut of it for participants is their envelopes
envelopes_cut : (views : Views) (name : List ℕ) (hosts : List Host) (ps : List ℕ)
    → map (envelope_cut (kept_tree sha256 views name) name hosts) ps ≡ map (envelope_by hosts name views) ps
envelopes_cut views name hosts ps = λ i. map (λ (p : ℕ). record { to = p; bytes = spell_tree (cut_is_for sha256 views name hosts (Participant p) i) }) ps

module _ (topology : Topology) (sender : ℕ) (name command : List ℕ) (views : Views) where
  abbrev confirming_of : List ℕ → List ℕ
  confirming_of ps = confirming_by (confirms_at topology.hosts) ps views.roots

  abbrev recipients_of : List ℕ → List ℕ
  recipients_of ps = filter (is_recipient topology.hosts views.roots sender) ps

  abbrev made_with : (confirming mediator : List ℕ) → List Envelope → Request
  made_with confirming mediator envelopes = record { sender = sender; command = command; confirming = confirming; mediator = mediator; envelopes = envelopes }

  -- the request is that of the views
  pub request_made : (all ps confirming reached mediator : List ℕ) (kept : KeptTree) (envelopes : List Envelope)
      → all ≡ ps → confirming ≡ confirming_of all → reached ≡ recipients_of all → kept ≡ kept_tree sha256 views name
      → envelopes ≡ map (envelope_cut kept name topology.hosts) reached → mediator ≡ spell_tree (cut_tree kept name topology.hosts Mediator)
      → made_with confirming mediator envelopes ≡ request_by topology ps sender name command views
  request_made all ps confirming reached mediator kept envelopes all_is asks reaches keeps sends tells =
      let asked : confirming ≡ confirming_of ps = asks ∙ ap confirming_of all_is in
      let told : mediator ≡ spell_tree (blind_for sha256 views name topology.hosts Mediator) =
      tells ∙ ap spell_tree (ap (λ (k : KeptTree). cut_tree k name topology.hosts Mediator) keeps ∙ cut_is_for sha256 views name topology.hosts Mediator) in
      let to : reached ≡ recipients_of ps = reaches ∙ ap recipients_of all_is in
      let sent : envelopes ≡ map (envelope_by topology.hosts name views) (recipients_of ps) =
      sends ∙ ((λ i. map (envelope_cut (keeps i) name topology.hosts) (to i)) ∙ envelopes_cut views name topology.hosts (recipients_of ps)) in
      λ i. made_with (asked i) (told i) (sent i)

-- ---- trees that were read

narrow_vertices : (v : Vertices) → AreVertices v → AreNarrow v
narrow_vertices NoVertices h = tt
narrow_vertices (BlindVertex hash others) h = narrow_vertices others h.1
narrow_vertices (InnerVertex informees contents subviews others) h = (omega (arith, h.2), narrow_vertices subviews h.3, narrow_vertices others h.4)

pub narrow : (tree : Tree) → IsTree tree → IsNarrow tree.views
narrow tree h = (omega (arith, h.few), narrow_vertices tree.views h.vertices)

-- ---- the sender's name

-- the participant at an index has the name that the host there has
pub name_at : (hosts : List Host) (p : ℕ) (name : List ℕ) (d : Host) → is_host_named hosts p name ≡ true → (get_or hosts p d).name ≡ name
name_at hosts p name d h = by_host (slice_get hosts p) refl h
  where
    by_host : (o : Option Host) → slice_get hosts p ≡ o → has_name o name ≡ true → (get_or hosts p d).name ≡ name
    by_host None e k = absurd cc
    by_host (Some host) e k = ap (λ (h : Host). h.name) (get_or_from_slice_get hosts p host d e) ∙ (bytes_decide host.name name).0 k

-- ---- the request

module _ (topology : Topology) (packages : Packages) (valid : IsValid topology) (sender : ℕ) (name command : List ℕ)
    (sends : is_host_named topology.hosts sender name ≡ true) (tx : Tx) where
  abbrev t : Transaction
  t = (whole_with_seed name tx).transaction

  abbrev made : Views
  made = record { act_as = tx.act_as; ledger_time = tx.ledger_time; seed = tx.seed; roots = split (roles_in packages) tx.roots }

  same_roles : roles_in packages ≡ roles_by packages
  same_roles = λ i a. sym (no_size packages (the_language packages).is_creatable (the_language packages).is_exercisable a) i

  same_views : made.roots ≡ views_by packages t
  same_views = ap (λ (r : Action → Roles). split r t.roots) same_roles

  abbrev reached : Forest SplitView → List ℕ
  reached views = filter (is_recipient topology.hosts views sender) (participants_of topology)

  of_made : request_by topology (participants_of topology) sender name command made ≡ request_of_tx topology packages sender name command tx
  of_made = λ i.
      record {
        sender = sender;
        command = command;
        confirming = asked i;
        mediator = spell_tree (blinded_for_mediator topology packages valid sender name sends t tx.seed i);
        envelopes = sent i;
      }
    where
      asked : confirming_by (confirms_at topology.hosts) (participants_of topology) made.roots ≡ (request_of_tx topology packages sender name command tx).confirming
      asked =
          ap (λ (views : Forest SplitView). confirming_by (confirms_at topology.hosts) (participants_of topology) views) same_views
          ∙ asked_by_views (the_language packages) (confirms_at topology.hosts) (participants_of topology) tx.roots

      sent : (request_by topology (participants_of topology) sender name command made).envelopes ≡ (request_of_tx topology packages sender name command tx).envelopes
      sent =
          (λ i. map (λ (p : ℕ). record { to = p; bytes = spell_tree (blinded_for topology packages valid sender name sends t tx.seed p i) }) (reached made.roots))
          ∙ ap (λ (views : Forest SplitView). map (envelope_for topology packages sender name (salts_of sha256 tx.seed) t) (reached views)) same_views

  pub request_is : (views : Views) → views_of_tx packages tx ≡ Ok views
      → request_by topology (participants_of topology) sender name command views ≡ request_of_tx topology packages sender name command tx
  request_is views e =
      ap (request_by topology (participants_of topology) sender name command) (sym (made_of packages tx views e)) ∙ of_made
