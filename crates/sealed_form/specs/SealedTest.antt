-- The test that decides whether a transaction can be sealed.
use Rattle.std.specs.Prelude.{ℕ, Bool, ◌&&◌, List}
use Rattle.std.specs.List.{list_all}
use Rattle.ledger_terms.specs.Hosting.{confirms_at}
use Rattle.ledger_terms.specs.declared.act.Act.{Act}
use Rattle.ledger_terms.specs.declared.topology.Topology.{Topology}
use Rattle.ledger_model.specs.Forest.{acts}
use Rattle.lang_eval.specs.Found.{Packages}
use Rattle.interpret.specs.Language.{the_language}
use Rattle.interpret.specs.NamedParties.{parties_in_forest}
use Rattle.blind_tree.specs.Blind.{is_host_named}
use Rattle.sealed_form.specs.RangeTests.{are_in_range, is_hash, is_small}
use Rattle.sealed_form.specs.SealedForm.{Whole, roles_by, split_as, views_by}
use Rattle.sealed_form.specs.Within.{is_hosted}

-- each of these actions has roles by the rules of these packages
abbrev pub have_roles : Packages → List Act → Bool
have_roles packages actions = list_all (λ (a : Act). (the_language packages).has_roles a.action) actions

-- each informee of each of these actions is a party of the topology
abbrev pub are_informees_hosted : Topology → Packages → List Act → Bool
are_informees_hosted topology packages actions = list_all (λ (a : Act). list_all (is_hosted topology) (roles_by packages a.action).informees) actions

-- The sender is a participant of the whole's name and confirms for the requesters, each action has roles, and its informees and the parties that it
-- names are parties of the topology.
abbrev pub are_parties_hosted : Topology → Packages → (sender : ℕ) → Whole → Bool
are_parties_hosted topology packages sender whole =
    is_host_named topology.hosts sender whole.sender
    && (have_roles packages (acts whole.transaction.roots)
    && (are_informees_hosted topology packages (acts whole.transaction.roots)
    && (list_all (is_hosted topology) (parties_in_forest whole.transaction.roots)
    && list_all (confirms_at topology.hosts sender) whole.transaction.requesters)))

-- what is in the transaction's trees is in the range of the formats and has room in them
abbrev pub is_spellable : Packages → Whole → Bool
is_spellable packages whole =
    is_hash whole.salts.common
    && (is_hash whole.salts.requesters
    && (are_in_range whole.sender (split_as whole.transaction (views_by packages whole.transaction))
    && is_small whole.sender (split_as whole.transaction (views_by packages whole.transaction))))

-- The test of `CanBeSealed`: whether a transaction can be sealed by this sender.
abbrev pub can_be_sealed : Topology → Packages → (sender : ℕ) → Whole → Bool
can_be_sealed topology packages sender whole = are_parties_hosted topology packages sender whole && is_spellable packages whole
