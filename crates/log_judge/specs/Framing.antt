-- What is told of a message's form.
use Rattle.std.specs.Prelude.{◌≡◌, true, false, Option, Some, None}
use Rattle.canton_model.specs.Reading.{Reading}
use Rattle.world_model.specs.Messages.{Message, RequestMessage, ResponseMessage, VerdictMessage, Tick, Request}
use Rattle.framed_form.specs.Outlines.{IsOutline}
use Rattle.framed_form.specs.declared.outline.Outline.{Outline}

-- The outline fits the request: it is None where the request isn't framed, and else what the mediator's bytes tell of the views.
abbrev pub IsFraming : Reading → Request → Option Outline → Type 0
IsFraming reading request None = reading.is_framed request ≡ false
IsFraming reading request (Some outline) = (reading.is_framed request ≡ true) × IsOutline request outline

-- The outline fits the message: of a request it is None where that isn't framed, and else what the mediator's bytes tell of the views. Of any other
-- message nothing is said.
abbrev pub IsFramingOf : Reading → Message → Option Outline → Type 0
IsFramingOf reading (RequestMessage request) outline = IsFraming reading request outline
IsFramingOf reading (ResponseMessage response) outline = Unit {0}
IsFramingOf reading (VerdictMessage verdict) outline = Unit {0}
IsFramingOf reading Tick outline = Unit {0}
