-- What the choice Flash of Note.Note does after what its children so far gave.
use Rattle.std.specs.Prelude.{List, [], ◌∷◌, Option, Some, None, Result, Ok, slice_get, codes}
use Rattle.ledger_terms.specs.declared.value.Value.{Value}
use Rattle.ledger_terms.specs.declared.value.Value.TheVariants.{Text as TextValue, Unit as UnitValue}
use Rattle.ledger_model.specs.declared.step.ChoiceCall.{ChoiceCall}
use Rattle.ledger_model.specs.declared.step.ChildResult.{ChildResult}
use Rattle.ledger_model.specs.declared.step.Step.{Step}
use Rattle.ledger_model.specs.declared.step.Step.TheVariants.{Create, Done}
use Rattle.lang_eval.specs.declared.eval_fault.EvalFault.{EvalFault}
use Rattle.lang_eval.specs.Builtin.{archive_name, note_template_name}
use Rattle.lang_eval.specs.Next.{exercise_step, id_in, value_seen}

-- the value of a field that was looked up; Unit where there is none, as of a name that isn't bound
abbrev pub value_or_unit : Option Value → Value
value_or_unit None = UnitValue
value_or_unit (Some v) = v

-- the fields of the note that Flash creates: the owner and the reader of the note with these fields, and the text `flash`
abbrev pub second_note : List Value → List Value
second_note fields =
    value_or_unit (slice_get fields 0) ∷ value_or_unit (slice_get fields 1) ∷ TextValue (codes "flash") ∷ []

-- What Flash does next in a call, after what its children so far gave: it creates the second note, then archives it, and then is done with Unit. Where
-- the first child gave no contract, as a Create never does, it is Assert.
abbrev pub flash_next : ChoiceCall → List ChildResult → Result Step EvalFault
flash_next call [] = Ok (Create note_template_name (second_note call.instance.fields))
flash_next call (note ∷ []) = exercise_step note_template_name archive_name (id_in (value_seen note)) (Ok [])
flash_next call (note ∷ archived ∷ more) = Ok (Done UnitValue)
