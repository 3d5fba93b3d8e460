-- Transactions within the limits, and what their views are then.
use Rattle.std.specs.Prelude.{◌≡◌, ℕ, ◌+◌, ◌≤◌, true, List, length, All}
use Rattle.ledger_terms.specs.Parties.{IsRising, is_subset}
use Rattle.ledger_terms.specs.Depth.{depth}
use Rattle.ledger_terms.specs.declared.act.Act.{Act}
use Rattle.ledger_terms.specs.Forest.{Forest, NoRoots, Root, size}
use Rattle.ledger_terms.specs.declared.action.Action.{Action}
use Rattle.ledger_model.specs.declared.roles.Roles.{Roles}
use Rattle.ledger_terms.specs.Names.{IsName}
use Rattle.ledger_terms.specs.declared.limits.TheConstants.{MOST_ACTIONS, MOST_ACTION_DEPTH, MOST_ACTION_BYTES, MOST_PARTIES}
use Rattle.wire_form.specs.InRange.{IsPartySet}
use Rattle.wire_form.specs.Spelling.{spell_action}
use Rattle.wire_form.specs.Spellable.{IsSpellableAction}
use Rattle.view_split.specs.declared.split_view.SplitView.{SplitView}

-- how many bytes these actions and all below them have, each with the bytes of its seed
abbrev pub acts_length : Forest Act → ℕ
acts_length NoRoots = 0
acts_length (Root act below others) = length act.seed + length (spell_action act.action) + acts_length below + acts_length others

-- each of these actions and of those below them has a spelling
abbrev pub AreSpellableActs : Forest Act → Type 0
AreSpellableActs NoRoots = Unit {0}
AreSpellableActs (Root act below others) = IsSpellableAction act.action × AreSpellableActs below × AreSpellableActs others

-- The actions of a transaction keep its limits: at most 64, 16 of them one below another, with at most 32,768 bytes.
pub record KeepLimits (roots : Forest Act) : Type 0 where
  pub few : size roots ≤ MOST_ACTIONS
  pub nested : depth roots ≤ MOST_ACTION_DEPTH
  pub short : acts_length roots ≤ MOST_ACTION_BYTES
  pub each : AreSpellableActs roots

-- at most 128 names, as the parties of a topology
pub record AreFew (parties : List (List ℕ)) : Type 0 where
  pub few : length parties ≤ MOST_PARTIES
  pub names : All IsName parties

-- an action's informees are a set of some of these parties, and its confirmers are some of them
pub record AreAmong (parties : List (List ℕ)) (roles : Roles) : Type 0 where
  pub informees : is_subset roles.informees parties ≡ true
  pub confirmers : is_subset roles.confirmers parties ≡ true
  pub ascend : IsRising roles.informees

-- the informees and confirmers of each of these actions, and of those below them, are among these parties (`AreAmong`); the first argument gives an
-- action's roles
abbrev pub AllAmong : (Action → Roles) → List (List ℕ) → Forest Act → Type 0
AllAmong roles parties NoRoots = Unit {0}
AllAmong roles parties (Root act below others) =
    AreAmong parties (roles act.action) × AllAmong roles parties below × AllAmong roles parties others

-- The informees and the confirmers of each view, at any depth, are sets of at most 128 parties. The proof of `split_views_are_within` goes by it.
abbrev pub HaveSets : Forest SplitView → Type 0
HaveSets NoRoots = Unit {0}
HaveSets (Root view subviews others) = (IsPartySet view.informees × IsPartySet view.confirmers) × HaveSets subviews × HaveSets others
