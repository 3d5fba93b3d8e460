-- The sealed form of a request: a tree for each recipient and one for the mediator, as bytes.
use Rattle.std.specs.Prelude.{◌≡◌, ℕ, ◌≤◌, Bool, true, List, [], ◌∷◌, ◌++◌, length, map, filter, Contains, nat_eq, Option, Some, None}
use Rattle.std.specs.Prelude.{option_to_list, Result, Ok, Err, if◌then◌else◌}
use Rattle.sha2.specs.Sha256.{sha256}
use Rattle.ledger_terms.specs.declared.act.Act.{Act}
use Rattle.std.specs.List.{list_any}
use Rattle.ledger_terms.specs.Forest.{Forest, preorder}
use Rattle.ledger_terms.specs.Hosting.{confirms_at, hosts_at}
use Rattle.ledger_terms.specs.declared.topology.Topology.{Topology}
use Rattle.ledger_terms.specs.declared.action.Action.{Action}
use Rattle.ledger_terms.specs.declared.limits.TheConstants.{MOST_TREE_BYTES}
use Rattle.ledger_model.specs.Forest.{acts}
use Rattle.ledger_model.specs.Language.{roles_of}
use Rattle.ledger_model.specs.declared.roles.Roles.{Roles}
use Rattle.ledger_model.specs.Opening.{confirming_of, Transaction}
use Rattle.canton_model.specs.declared.envelope.Envelope.{Envelope}
use Rattle.canton_model.specs.declared.request.Request.{Request}
use Rattle.lang_eval.specs.Found.{Packages}
use Rattle.lang_eval.specs.Named.{AreKnown}
use Rattle.wire_form.specs.InRange.{IsHash}
use Rattle.wire_form.specs.declared.wire_fault.WireFault.{WireFault}
use Rattle.interpret.specs.Language.{the_language}
use Rattle.interpret.specs.NamedParties.{parties_in_forest}
use Rattle.view_split.specs.declared.split_view.SplitView.{SplitView}
use Rattle.view_split.specs.Split.{split}
use Rattle.sealed_form.specs.Within.{participants_of, is_hosted}
use Rattle.view_split.specs.declared.views.Views.{Views}
use Rattle.blind_tree.specs.Blind.{Salts, is_host_named, tree_to, tree_to_mediator}
use Rattle.blind_tree.specs.Reading.{read_all, tree_at}
use Rattle.blind_tree.specs.Recipients.{recipients_of}
use Rattle.blind_tree.specs.ShownViews.{AreInRange, IsSmall}
use Rattle.blind_tree.specs.Spelling.{spell_tree}
use Rattle.blind_tree.specs.declared.tree.Tree.{Tree}

-- ---- what a sender makes of a transaction

-- What a sender makes a request of: its name, the salts of the first two leaves of its trees, and its transaction. It is no whole that is read from
-- envelopes.
pub record Whole : Type 0 where
  pub sender : List ℕ
  pub salts : Salts
  pub transaction : Transaction

-- an action's roles by the rules of these packages
abbrev pub roles_by : Packages → Action → Roles
roles_by packages = roles_of (the_language packages)

-- the views of a transaction by the rules of these packages
abbrev pub views_by : Packages → Transaction → Forest SplitView
views_by packages t = split (roles_by packages) t.roots

-- A transaction with its views, as the code gives them where it is split, but with an empty seed: what is asked of it here (`AreInRange`, `IsSmall`)
-- doesn't depend on the seed.
abbrev pub split_as : Transaction → Forest SplitView → Views
split_as t views = record { act_as = t.requesters; ledger_time = t.ledger_time; seed = []; roots = views }

-- the tree of the transaction for participant p, where the sender has this number and this name
abbrev pub tree_for : Topology → Packages → (sender : ℕ) (name : List ℕ) → Salts → Transaction → ℕ → Tree
tree_for topology packages sender name salts t p =
    tree_to sha256 salts name t (views_by packages t) (hosts_at topology.hosts p) (nat_eq p sender)

-- the envelope to participant p: the bytes of its tree
abbrev pub envelope_for : Topology → Packages → (sender : ℕ) (name : List ℕ) → Salts → Transaction → ℕ → Envelope
envelope_for topology packages sender name salts t p = record { to = p; bytes = spell_tree (tree_for topology packages sender name salts t p) }

-- those of these participants that confirm for a confirmer of a view; `confirms` tells for which parties each confirms
abbrev pub confirming_by : (confirms : ℕ → List ℕ → Bool) → List ℕ → Forest SplitView → List ℕ
confirming_by confirms participants views =
    filter (λ p. list_any (λ (view : SplitView). list_any (confirms p) view.confirmers) (preorder views)) participants

-- The request of a transaction: the participants that confirm for a confirmer of a view are asked, and each recipient gets its tree, both in the order
-- of the topology.
abbrev pub request_of : Topology → Packages → (sender : ℕ) (name command : List ℕ) → Salts → Transaction → Request
request_of topology packages sender name command salts t =
    record {
      sender = sender;
      command = command;
      confirming = confirming_of (the_language packages) (confirms_at topology.hosts) (participants_of topology) t.roots;
      mediator = spell_tree (tree_to_mediator sha256 salts name t (views_by packages t));
      envelopes = map (envelope_for topology packages sender name salts t) (recipients_of topology.hosts (views_by packages t) sender);
    }

-- ---- what is read of a request

-- what was read, None where there was a fault
abbrev pub found : {A : Type 0} → Result A WireFault → Option A
found (Ok x) = Some x
found (Err fault) = None

-- the tree that bytes spell, None where they spell none
abbrev pub tree_in : List ℕ → Option Tree
tree_in bytes = found (read_all tree_at bytes)

-- the trees that any of these bytes spell, in order
abbrev pub trees_in : List (List ℕ) → List Tree
trees_in [] = []
trees_in (bytes ∷ more) = option_to_list (tree_in bytes) ++ trees_in more

-- the bytes of an envelope
abbrev pub bytes_of : Envelope → List ℕ
bytes_of envelope = envelope.bytes

-- the bytes of the first envelope to participant p, None where there is none
abbrev pub envelope_to : ℕ → List Envelope → Option (List ℕ)
envelope_to p [] = None
envelope_to p (envelope ∷ rest) = if nat_eq envelope.to p then Some envelope.bytes else envelope_to p rest

-- ---- sealed requests

-- What participant `sender` can seal: the whole's sender is its name, each action has roles, the informees and the parties that the actions name are
-- parties of the topology, it confirms for the requesters, and all that is in the trees is in the range of the formats and has room in them.
pub record CanBeSealed (topology : Topology) (packages : Packages) (sender : ℕ) (whole : Whole) : Type 0 where
  pub sender_is : is_host_named topology.hosts sender whole.sender ≡ true
  pub has_roles : (a : Act) → Contains (acts whole.transaction.roots) a → (the_language packages).has_roles a.action ≡ true
  pub informees : (a : Act) (party : List ℕ) → Contains (acts whole.transaction.roots) a → Contains (roles_by packages a.action).informees party
      → is_hosted topology party ≡ true
  pub named : AreKnown (is_hosted topology) (parties_in_forest (whole.transaction).roots)
  pub requesters : (party : List ℕ) → Contains whole.transaction.requesters party → confirms_at topology.hosts sender party ≡ true
  pub common_salt : IsHash (whole.salts).common
  pub requesters_salt : IsHash (whole.salts).requesters
  pub in_range : AreInRange whole.sender (split_as whole.transaction (views_by packages whole.transaction))
  pub small : IsSmall whole.sender (split_as whole.transaction (views_by packages whole.transaction))

-- A request is sealed where it is what a sender makes of a transaction that can be sealed, and its bytes are within the limit.
pub record IsSealedForm (topology : Topology) (packages : Packages) (request : Request) : Type 0 where
  pub whole : Whole
  pub can_be : CanBeSealed topology packages request.sender whole
  pub made : request ≡ request_of topology packages request.sender whole.sender request.command whole.salts whole.transaction
  pub short_mediator : length request.mediator ≤ MOST_TREE_BYTES
  pub short : (envelope : Envelope) → Contains request.envelopes envelope → length envelope.bytes ≤ MOST_TREE_BYTES
