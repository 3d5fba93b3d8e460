-- What the rules of the program answer: a note whose text is `go` flashes.
use Rattle.std.specs.Prelude.{Bool, false, ◌&&◌, [], Option, Some, None, codes, cond, slice_get}
use Rattle.std.specs.Str.{bytes_eq}
use Rattle.ledger_terms.specs.contracts.template_name.TemplateNamePartialEq.TheImpl as template_eq
use Rattle.ledger_terms.specs.declared.command.Command.{Command}
use Rattle.ledger_terms.specs.declared.command.Command.TheVariants.{Exercise}
use Rattle.ledger_terms.specs.declared.contract_ref.ContractRef.TheVariants.{Id}
use Rattle.ledger_terms.specs.declared.instance.Instance.{Instance}
use Rattle.ledger_terms.specs.declared.known.Known.{Known}
use Rattle.ledger_terms.specs.declared.value.Value.{Value}
use Rattle.ledger_terms.specs.declared.value.Value.TheVariants.{Text}
use Rattle.lang_eval.specs.Builtin.{note_template_name}

-- whether the value of a field that was looked up is the text `go`; false where it is no text or isn't there
abbrev pub says_go : Option Value → Bool
says_go (Some (Text text)) = bytes_eq text (codes "go")
says_go other = false

-- whether an instance is a note whose text, the third field, is `go`
abbrev pub is_go : Instance → Bool
is_go instance = template_eq.ghosts.eq instance.template note_template_name && says_go (slice_get instance.fields 2)

-- the command that exercises Flash, without arguments, on a known contract
abbrev pub flash_of : Known → Command
flash_of known = Exercise (known.instance).template (Id known.id) (codes "Flash") []

-- what a rule of the program answers about a known contract: to flash a note whose text is `go`; None, and nothing is done, for any other
abbrev pub flash_on_go : Known → Option Command
flash_on_go known = cond (is_go known.instance) (Some (flash_of known)) None
