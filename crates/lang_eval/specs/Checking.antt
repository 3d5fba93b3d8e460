-- What is kept of packages that are well typed.
use Rattle.std.specs.Prelude.{◌≡◌, [], ◌∷◌}
use Rattle.lang_eval.specs.Found.{Packages}
use Rattle.lang_eval.specs.Builtin.{note_form, checked_packages}
use Rattle.lang_eval.specs.Typed.{ArePackages}

-- The packages are those that a script with well-typed packages runs with: the built-in Note and then these, with the choice Archive in each template.
abbrev pub AreChecked : Packages → Type 0
AreChecked packages = (given : Packages) × ArePackages (note_form ∷ []) given × (packages ≡ checked_packages given)
