-- Whether a message is appended.
use Rattle.std.specs.Prelude.{Option, Some, None}
use Rattle.canton_model.specs.declared.message.Message.{Message}
use Rattle.framed_form.specs.Outlines.{IsOutlined}
use Rattle.seq_log.specs.declared.admission.Admission.{Admission}
use Rattle.seq_log.specs.declared.admission.Admission.TheVariants.{Taken, Refused}
use Rattle.seq_log.specs.declared.fault.AppendFault.{AppendFault}

-- the fault for which a message isn't appended, and None where it is
abbrev pub refusal_of : Admission → Option AppendFault
refusal_of (Taken outline) = None
refusal_of (Refused fault) = Some fault

-- Where the message is appended and is a request, what comes with it is what its mediator's bytes tell. Of a message that is refused it says nothing.
abbrev pub IsAdmitted : Message → Admission → Type 0
IsAdmitted message (Taken outline) = IsOutlined message outline
IsAdmitted message (Refused fault) = Unit {0}
