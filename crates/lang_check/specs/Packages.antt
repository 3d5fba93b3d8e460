-- The first fault of packages, in the order in which they are walked.
use Rattle.std.specs.Prelude.{ℕ, ◌+◌, not, List, [], ◌∷◌, ◌++◌, map, Result, Ok, ⊤, codes}
use Rattle.ledger_terms.specs.Pointers.{at_member, at_item}
use Rattle.ledger_terms.specs.Packages.{TemplateForm, PackageForm}
use Rattle.lang_eval.specs.Found.{Packages}
use Rattle.lang_eval.specs.Builtin.{note_form, checked_packages}
use Rattle.lang_eval.specs.Typed.{package_names}
use Rattle.lang_check.specs.declared.check_fault.CheckFault.{CheckFault}
use Rattle.lang_check.specs.declared.check_kind.CheckKind.TheVariants.{DuplicateName}
use Rattle.lang_check.specs.Faults.{Place, ◌>>=◌, tried}
use Rattle.lang_check.specs.Statements.{is_among}
use Rattle.lang_check.specs.Declarations.{NameLists, names_from, templates_from}

-- the names of the templates, in order; the check tries that no two are the same
abbrev pub template_names : List TemplateForm → NameLists
template_names templates = map (λ (t : TemplateForm). t.name) templates

-- The check of the package at this place, after those before it: its name, then the names of its templates, then the templates. It ends with
-- nothing (`Ok tt`), or with the first fault.
unfoldable pub package_from : Place → Packages → PackageForm → Result ⊤ CheckFault
package_from at before p = do
  _ ← tried (not (is_among p.name (package_names before))) DuplicateName (at_member at (codes "name"))
  _ ← names_from (at_member at (codes "templates")) 0 [] (template_names p.templates)
  templates_from (at_member at (codes "templates")) 0 (before ++ p ∷ []) p.templates

-- the check of these packages (the last argument), which are the i-th, from 0, and further ones of the list, after those of `before`: nothing, or the
-- first fault
abbrev pub packages_from : ℕ → Packages → Packages → Result ⊤ CheckFault
packages_from i before [] = Ok tt
packages_from i before (p ∷ ps) = package_from (at_item [] i) before p >>= λ _. packages_from (i + 1) (before ++ p ∷ []) ps

-- the check of packages in order, after the built-in Note: nothing (`Ok tt`) where they are well typed, or the first fault
unfoldable pub walk : Packages → Result ⊤ CheckFault
walk packages = packages_from 0 (note_form ∷ []) packages

-- what `check` answers: the packages with what is built in, or the first fault
abbrev pub checked_or_fault : Packages → Result Packages CheckFault
checked_or_fault packages = walk packages >>= λ _. Ok (checked_packages packages)
