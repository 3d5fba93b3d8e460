-- Texts, and the names of templates.
use Rattle.std.specs.Prelude.{ℕ, ◌==◌, List, length, nat_lt, ◌&&◌, if◌then◌else◌, Option, Some, None, Result, Ok, ok_or, codes}
use Rattle.std.specs.List.{position_or_len, before_first, after_first}
use Rattle.serde_json.specs.Data.{Data}
use Rattle.serde_json.specs.Find.{as_str}
use Rattle.ledger_terms.specs.Names.{is_name}
use Rattle.ledger_terms.specs.Pointers.{at_member}
use Rattle.ledger_terms.specs.declared.template_name.TemplateName.{TemplateName}
use Rattle.ledger_terms.specs.Answers.{◌>>=◌, check}
use Rattle.json_walk.specs.Walk.{Place, within_limit, member_of}
use Rattle.json_walk.specs.declared.limits.TheConstants.{TEXT_BYTES}
use Rattle.json_walk.specs.declared.walk_fault.WalkFault.{WalkFault}
use Rattle.json_walk.specs.declared.walk_fault.WalkFault.TheVariants.{Shape}

-- the text `s`, as bytes, at the place `at`; the fault Limit where it has more bytes than a text may have
unfoldable pub text_of : Place → List ℕ → Result (List ℕ) WalkFault
text_of at s = do
  _ ← within_limit at TEXT_BYTES (length s)
  Ok s

-- what stands before and behind the first byte `mark` of a text; None where the text has no such byte
unfoldable pub parts_round : ℕ → List ℕ → Option (List ℕ × List ℕ)
parts_round mark s =
    if nat_lt (position_or_len (λ b. b == mark) s) (length s)
    then Some (before_first (λ b. b == mark) s, after_first (λ b. b == mark) s)
    else None

-- the name of a template that a value at a place spells: two names with a dot (byte 46) between them; else Shape
unfoldable pub template_of : Place → Data → Result TemplateName WalkFault
template_of at d = do
  s ← ok_or (as_str d) (Shape at)
  parts ← ok_or (parts_round 46 s) (Shape at)
  _ ← check (is_name parts.0 && is_name parts.1) (Shape at)
  Ok (record { «package» = parts.0; name = parts.1 })

-- the name of a template in the member `template` of the object `d` at the place `at`; Shape where that member is absent or no such name
unfoldable pub template_in : Place → Data → Result TemplateName WalkFault
template_in at d = do
  m ← member_of at (codes "template") d
  template_of (at_member at (codes "template")) m
