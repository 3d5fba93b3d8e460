-- The rules that a wanted transaction keeps.
use Rattle.std.specs.Prelude.{◌≡◌, ◌≤◌, true}
use Rattle.ledger_terms.specs.Depth.{depth}
use Rattle.ledger_terms.specs.Forest.{size}
use Rattle.ledger_terms.specs.Trees.{Actions}
use Rattle.ledger_terms.specs.declared.limits.TheConstants.{MOST_ACTIONS, MOST_ACTION_DEPTH, MOST_ACTION_BYTES}
use Rattle.ledger_model.specs.Language.{roles_of}
use Rattle.ledger_model.specs.Conformance.{Conforms}
use Rattle.ledger_model.specs.Authority.{is_forest_authorised}
use Rattle.lang_eval.specs.Found.{Packages}
use Rattle.lang_eval.specs.Parts.{PartyNames}
use Rattle.interpret.specs.Language.{the_language}
use Rattle.wire_form.specs.Encoded.{encoded_bytes}

-- These trees of actions conform, are authorised by these requesters, and keep the limits on actions, levels and encoded bytes.
pub record KeepsRules (packages : Packages) (act_as : PartyNames) (forest : Actions) : Type 0 where
  pub conforms : Conforms (the_language packages) forest
  pub authorised : is_forest_authorised (roles_of (the_language packages)) act_as forest ≡ true
  pub few : size forest ≤ MOST_ACTIONS
  pub shallow : depth forest ≤ MOST_ACTION_DEPTH
  pub small : encoded_bytes forest ≤ MOST_ACTION_BYTES
