-- The contracts that an action may use.
use Rattle.std.specs.Prelude.{◌==◌, Bool, ◌&&◌, cond, List, Option, Some, None, find}
use Rattle.std.specs.List.{list_any}
use Rattle.std.specs.Cmp.Lexicographic.{pointwise}
use Rattle.ledger_terms.specs.declared.known.Known.{Known}
use Rattle.ledger_terms.specs.declared.template_name.TemplateName.{TemplateName}
use Rattle.ledger_terms.specs.contracts.template_name.TemplateNamePartialEq.TheImpl as template_eq
use Rattle.lang_eval.specs.Found.{Packages}
use Rattle.lang_eval.specs.Kinds.{has_kinds}
use Rattle.interpret.specs.Ids.{Hash}
use Rattle.interpret.specs.declared.progress.Progress.{Progress}

-- whether two hashes are the same
abbrev pub same_hash : Hash → Hash → Bool
same_hash = pointwise ◌==◌

-- the first contract with this id, or None
abbrev pub find_known : Hash → List Known → Option Known
find_known id known = find (λ k. same_hash k.id id) known

-- the first contract with this salt, by which labels are resolved; or None
abbrev pub find_salt : Hash → List Known → Option Known
find_salt salt known = find (λ k. same_hash k.salt salt) known

-- whether the id is among those that were consumed
abbrev pub is_consumed : Hash → List Hash → Bool
is_consumed id consumed = list_any (λ d. same_hash d id) consumed

-- the first of two contracts, where it is there, and else the second; so a known contract goes before a created one
abbrev pub first_found : Option Known → Option Known → Option Known
first_found (Some k) other = Some k
first_found None other = other

-- the contract, where it was found, is of this template and has fields of the template's kinds; else None
abbrev pub of_template : Packages → TemplateName → Option Known → Option Known
of_template packages template None = None
of_template packages template (Some k) = cond (template_eq.ghosts.eq k.instance.template template && has_kinds packages k.instance) (Some k) None

-- The contract of that id and template, with fields of its kinds, that the next action of a transaction may use: it is known or the transaction created
-- it, and the transaction hasn't consumed it. None where there is no such contract.
unfoldable pub usable : Packages → List Known → Progress → Hash → TemplateName → Option Known
usable packages known progress id template =
    cond (is_consumed id progress.consumed) None
    (first_found (of_template packages template (find_known id known)) (of_template packages template (find_known id progress.created)))
