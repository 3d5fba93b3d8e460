-- Actions with their places, in order.
use Rattle.std.specs.Prelude.{ℕ, ◌%◌, ◌^◌, List, [], map, flat_map}
use Rattle.ledger_terms.specs.declared.act.Act.{Act}
use Rattle.ledger_terms.specs.Trees.{Actions}
use Rattle.ledger_terms.specs.Forest.{preorder, paths_from}
use Rattle.ledger_model.specs.Forest.{Commit}
use Rattle.ledger_model.specs.declared.commit.Commit.{Commit as CommitRoots}
use Rattle.consist.specs.declared.ledger_place.LedgerPlace.{LedgerPlace}

-- a path as the code keeps it, 16 bits of each step
abbrev pub kept_path : List ℕ → List ℕ
kept_path path = map (λ step. step % 2 ^ 16) path

-- the actions of a transaction in pre-order, each with its path
abbrev pub placed : Actions → List (List ℕ × Act)
placed roots = map (λ (x : List ℕ × Act). (kept_path x.0, x.1)) (preorder (paths_from [] 0 roots))

-- the actions of a commit in pre-order, each with its place in the ledger
abbrev pub placed_in_part : CommitRoots → List (LedgerPlace × Act)
placed_in_part part = map (λ (x : List ℕ × Act). (record { commit = part.place; path = x.0 }, x.1)) (placed part.roots)

-- the actions of a ledger, in commit order and then pre-order, each with its place
abbrev pub placed_in : List CommitRoots → List (LedgerPlace × Act)
placed_in parts = flat_map placed_in_part parts

-- the actions of a ledger's commits, in commit order and then pre-order, without their places
abbrev pub acts_of_parts : List CommitRoots → List Act
acts_of_parts parts = flat_map (λ (part : CommitRoots). preorder part.roots) parts

-- a commit without its requesters
abbrev pub part_of : Commit → CommitRoots
part_of commit = record { place = commit.place; roots = commit.roots }
