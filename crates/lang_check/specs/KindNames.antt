-- The words of the kinds of faults.
use Rattle.std.specs.Prelude.{ℕ, List, codes}
use Rattle.lang_check.specs.declared.check_kind.CheckKind.{CheckKind}
use Rattle.lang_check.specs.declared.check_kind.CheckKind.TheVariants.{DuplicateName, UnknownName, UnknownTemplate, UnknownChoice}
use Rattle.lang_check.specs.declared.check_kind.CheckKind.TheVariants.{WrongKind, WrongCount, Reserved, Memory}

-- the word of a fault's kind, as a refusal spells it
abbrev pub kind_name : CheckKind → List ℕ
kind_name DuplicateName = codes "DuplicateName"
kind_name UnknownName = codes "UnknownName"
kind_name UnknownTemplate = codes "UnknownTemplate"
kind_name UnknownChoice = codes "UnknownChoice"
kind_name WrongKind = codes "WrongKind"
kind_name WrongCount = codes "WrongCount"
kind_name Reserved = codes "Reserved"
kind_name Memory = codes "Memory"
