-- Who gets a tree of a transaction.
use Rattle.std.specs.Prelude.{ℕ, Bool, List, length, filter, nat_eq, ◌||◌}
use Rattle.std.specs.List.{range_with_len}
use Rattle.ledger_terms.specs.Forest.{Forest}
use Rattle.ledger_terms.specs.Hosting.{hosts_at}
use Rattle.ledger_terms.specs.declared.host.Host.{Host}
use Rattle.view_split.specs.declared.split_view.SplitView.{SplitView}
use Rattle.blind_tree.specs.Blind.{has_sight}

-- participant p gets a tree: it is the sender, or it sees a view
abbrev pub is_recipient : List Host → Forest SplitView → (sender p : ℕ) → Bool
is_recipient hosts views sender p = nat_eq p sender || has_sight (hosts_at hosts p) views

-- the participants that are recipients, by their indices in the order of the topology
abbrev pub recipients_of : List Host → Forest SplitView → (sender : ℕ) → List ℕ
recipients_of hosts views sender = filter (is_recipient hosts views sender) (range_with_len 0 (length hosts))
