-- Requests that are framed: what the sequencer asks of a request, whoever sent it.
use Rattle.std.specs.Prelude.{◌≡◌, ◌≢◌, ℕ, suc, ◌≤◌, ◌<◌, Bool, true, false, not, ◌&&◌, List, [], ◌∷◌, length, map}
use Rattle.std.specs.Prelude.{filter, Contains, All, nat_le, nat_lt, Option, Some, None}
use Rattle.std.specs.List.{list_all, list_any}
use Rattle.std.specs.Str.{bytes_eq}
use Rattle.ledger_terms.specs.Hosting.{confirms_at}
use Rattle.ledger_terms.specs.Parties.{is_subset}
use Rattle.ledger_terms.specs.declared.limits.TheConstants.{MOST_TREE_BYTES}
use Rattle.ledger_terms.specs.declared.topology.Topology.{Topology}
use Rattle.canton_model.specs.declared.envelope.Envelope.{Envelope}
use Rattle.canton_model.specs.declared.request.Request.{Request}
use Rattle.blind_tree.specs.Opening.{informee_tree_of}
use Rattle.blind_tree.specs.ShownViews.{contents_shown, is_plain}
use Rattle.blind_tree.specs.Vertices.{Vertices, NoVertices, BlindVertex, InnerVertex}
use Rattle.blind_tree.specs.declared.roles_tree.RolesTree.{RolesTree}
use Rattle.blind_tree.specs.declared.tree.Tree.{Tree}
use Rattle.blind_tree.specs.declared.view_roles.ViewRoles.{ViewRoles}
use Rattle.sealed_form.specs.SealedForm.{found, tree_in}
use Rattle.sealed_form.specs.Within.{is_hosted, participants_of}

-- A view has a confirmer, its confirmers are among its informees, and these are parties of the topology.
pub record IsConfirmed (topology : Topology) (view : ViewRoles) : Type 0 where
  pub some : view.confirmers ≢ []
  pub among : is_subset view.confirmers view.informees ≡ true
  pub known : (party : List ℕ) → Contains view.informees party → is_hosted topology party ≡ true

-- the participants that confirm for a confirmer of one of these views, in the order of the topology
abbrev pub asked_by : Topology → List ViewRoles → List ℕ
asked_by topology views =
    filter (λ p. list_any (λ (view : ViewRoles). list_any (confirms_at topology.hosts p) view.confirmers) views) (participants_of topology)

-- Each of the numbers is at least `low`, less than `high` and greater than those before it, and `low` is at most `high`.
abbrev pub RisesBetween : (low : ℕ) → List ℕ → (high : ℕ) → Type 0
RisesBetween low [] high = low ≤ high
RisesBetween low (n ∷ more) high = (low ≤ n) × RisesBetween (suc n) more high

-- each of these numbers is one that a byte can be
abbrev pub AreBytes : List ℕ → Type 0
AreBytes bytes = All (λ b. b < 256) bytes

-- the participant to which an envelope goes
abbrev pub recipient_of : Envelope → ℕ
recipient_of envelope = envelope.to

-- A request is framed where the mediator's bytes spell a tree that tells the informees and confirmers of at least one view, and neither requesters nor
-- contents; each view is confirmed, and asked are just those who confirm for one; the sender is a participant; envelopes go to participants in order,
-- at most one to each; and the mediator's and each envelope's are bytes within the limit.
pub record IsFramed (topology : Topology) (request : Request) : Type 0 where
  pub tree : Tree
  pub spells : tree_in request.mediator ≡ Some tree
  pub roles : RolesTree
  pub tells : found (informee_tree_of tree) ≡ Some roles
  pub requesters_hidden : is_plain tree.requesters ≡ false
  pub contents_hidden : contents_shown [] 0 tree.views ≡ []
  pub some_view : roles.views ≢ []
  pub views : (view : ViewRoles) → Contains roles.views view → IsConfirmed topology view
  pub confirming : request.confirming ≡ asked_by topology roles.views
  pub sender : request.sender < length topology.hosts
  pub envelopes : RisesBetween 0 (map recipient_of request.envelopes) (length topology.hosts)
  pub mediator_bytes : AreBytes request.mediator
  pub short_mediator : length request.mediator ≤ MOST_TREE_BYTES
  pub bytes : (envelope : Envelope) → Contains request.envelopes envelope → AreBytes envelope.bytes
  pub short : (envelope : Envelope) → Contains request.envelopes envelope → length envelope.bytes ≤ MOST_TREE_BYTES

-- ---- the test that decides it

-- the test of `IsConfirmed`: the view has a confirmer, its confirmers are among its informees, and these are parties of the topology
abbrev pub is_confirmed : Topology → ViewRoles → Bool
is_confirmed topology view =
    nat_lt 0 (length view.confirmers) && (is_subset view.confirmers view.informees && list_all (is_hosted topology) view.informees)

-- no vertex, at any depth, shows its contents
abbrev pub hides_contents : Vertices → Bool
hides_contents NoVertices = true
hides_contents (BlindVertex hash others) = hides_contents others
hides_contents (InnerVertex informees contents subviews others) = not (is_plain contents) && (hides_contents subviews && hides_contents others)

-- whether two lists have the same participants in the same order
abbrev pub same_participants : List ℕ → List ℕ → Bool
same_participants = bytes_eq

-- There is a view, each is confirmed, and just those who confirm for one are asked. False where no views could be read (None).
abbrev pub are_views_framed : Topology → (confirming : List ℕ) → Option RolesTree → Bool
are_views_framed topology confirming None = false
are_views_framed topology confirming (Some roles) =
    nat_lt 0 (length roles.views) && (list_all (is_confirmed topology) roles.views && same_participants confirming (asked_by topology roles.views))

-- The mediator's tree shows neither the requesters nor the contents of a view, and its views are framed. False where there is no tree.
abbrev pub is_tree_framed : Topology → (confirming : List ℕ) → Option Tree → Bool
is_tree_framed topology confirming None = false
is_tree_framed topology confirming (Some tree) =
    not (is_plain tree.requesters) && (hides_contents tree.views && are_views_framed topology confirming (found (informee_tree_of tree)))

-- the test of `AreBytes`: each of these numbers is below 256
abbrev pub are_bytes : List ℕ → Bool
are_bytes bytes = list_all (λ b. nat_lt b 256) bytes

-- these numbers are bytes, and at most as many as a tree may have, 4,194,304
abbrev pub is_short : List ℕ → Bool
is_short bytes = nat_le (length bytes) MOST_TREE_BYTES && are_bytes bytes

-- Each of these envelopes goes to one of so many participants, from number `next` on, each to a later one than the envelope before, and has bytes
-- within the limit.
abbrev pub are_envelopes_framed : (next hosts : ℕ) → List Envelope → Bool
are_envelopes_framed next hosts [] = true
are_envelopes_framed next hosts (envelope ∷ rest) =
    nat_le next envelope.to
    && (nat_lt envelope.to hosts && (is_short envelope.bytes && are_envelopes_framed (suc envelope.to) hosts rest))

-- The test of `IsFramed`: what the sequencer asks of a request, whoever sent it.
unfoldable pub is_framed : Topology → Request → Bool
is_framed topology request =
    nat_lt request.sender (length topology.hosts)
    && (is_short request.mediator
    && (are_envelopes_framed 0 (length topology.hosts) request.envelopes && is_tree_framed topology request.confirming (tree_in request.mediator)))
