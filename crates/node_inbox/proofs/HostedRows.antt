-- Contracts that are known to have a hosted stakeholder.
use Rattle.std.proofs.Common.{◌≡◌, Bool, true, false, cond, List, [], ◌∷◌, filter, find, Option, Some, None, refl, sym, ap, ◌∙◌, subst}
use Rattle.ledger_terms.specs.declared.active_row.ActiveRow.{ActiveRow}
use Rattle.ledger_terms.specs.declared.known.Known.{Known}
use Rattle.ledger_terms.proofs.SameInstances.{instance_decides}
use Rattle.ledger_model.specs.Terms.{ParticipantId}
use Rattle.canton_model.specs.Inbox.{is_stakeholder_hosted}
use Rattle.canton_model.specs.Reading.{Reading}
use Rattle.contract_store.specs.Active.{active_rows, knowns}
use Rattle.contract_store.specs.declared.row.StoreRow.{StoreRow}
use Rattle.node_inbox.specs.Hosts.{AreHosted, says_same}
use Rattle.node_inbox.specs.Listed.{is_offered}
use Rattle.node_inbox.specs.Offered.{offered}

module _ (reading : Reading) (p : ParticipantId) where
  -- one that is found among them has one
  found_is_hosted : (test : Known → Bool) (rows : List Known) (known : Known) → AreHosted reading p rows → find test rows ≡ Some known
      → is_stakeholder_hosted reading p known.instance ≡ true
  found_is_hosted test [] known hosted e = absurd (cc)
  found_is_hosted test (row ∷ rows) known hosted e = by (test row) e (found_is_hosted test rows known hosted.1)
    where
      by : (b : Bool) → cond b (Some row) (find test rows) ≡ Some known
          → (find test rows ≡ Some known → is_stakeholder_hosted reading p known.instance ≡ true) → is_stakeholder_hosted reading p known.instance ≡ true
      by true e rest = (let w : row ≡ known = cc in subst (λ (k : Known). is_stakeholder_hosted reading p k.instance ≡ true) w hosted.0)
      by false e rest = rest e

  -- and so has one that says the same
  pub same_is_hosted : (test : Known → Bool) (rows : List Known) (found : Option Known) (known : Known) → AreHosted reading p rows → found ≡ find test rows
      → says_same found known ≡ true → is_stakeholder_hosted reading p known.instance ≡ true
  same_is_hosted test rows None known hosted e same = absurd (cc)
  same_is_hosted test rows (Some found) known hosted e same =
      ap (is_stakeholder_hosted reading p) (sym ((instance_decides found.instance known.instance).0 same))
      ∙ found_is_hosted test rows found hosted (sym e)

  hosted_kept : (rows : List ActiveRow) → AreHosted reading p (knowns (filter (is_offered reading p) rows))
  hosted_kept [] = tt
  hosted_kept (row ∷ rows) = by (is_offered reading p row) refl (hosted_kept rows)
    where
      by : (b : Bool) → is_offered reading p row ≡ b → AreHosted reading p (knowns (filter (is_offered reading p) rows))
          → AreHosted reading p (knowns (cond b (row ∷ filter (is_offered reading p) rows) (filter (is_offered reading p) rows)))
      by true e rest = (e, rest)
      by false e rest = rest

  -- what is offered are such contracts
  pub offered_are_hosted : (rows : List StoreRow) → AreHosted reading p (knowns (offered reading p rows))
  offered_are_hosted rows = hosted_kept (active_rows rows)
