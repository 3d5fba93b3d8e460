-- The kinds of values.
use Rattle.std.specs.Prelude.{ℕ, List, if◌then◌else◌, Option, Some, None, Result, ok_or, codes}
use Rattle.std.specs.Str.{bytes_eq}
use Rattle.serde_json.specs.Data.{Data}
use Rattle.serde_json.specs.Find.{as_str}
use Rattle.ledger_terms.specs.Answers.{◌>>=◌}
use Rattle.ledger_terms.specs.declared.kind.Kind.{Kind}
use Rattle.ledger_terms.specs.declared.kind.Kind.TheVariants as kind
use Rattle.json_walk.specs.Walk.{Place}
use Rattle.json_walk.specs.declared.walk_fault.WalkFault.{WalkFault}
use Rattle.json_walk.specs.declared.walk_fault.WalkFault.TheVariants.{Shape}

-- the kind of values that a word names, one of Unit, Int, Bool, Text, Party, Contract and Parties; None of any other word
unfoldable pub kind_named : List ℕ → Option Kind
kind_named s =
    if bytes_eq s (codes "Unit") then Some kind.Unit else (
    if bytes_eq s (codes "Int") then Some kind.Int else (
    if bytes_eq s (codes "Bool") then Some kind.Bool else (
    if bytes_eq s (codes "Text") then Some kind.Text else (
    if bytes_eq s (codes "Party") then Some kind.Party else (
    if bytes_eq s (codes "Contract") then Some kind.Contract else (
    if bytes_eq s (codes "Parties") then Some kind.Parties else None))))))

-- the kind that the value `d` at the place `at` names; Shape where it is no text or names none
unfoldable pub kind_of : Place → Data → Result Kind WalkFault
kind_of at d = do
  s ← ok_or (as_str d) (Shape at)
  ok_or (kind_named s) (Shape at)
