use Rattle.std.proofs.Common.{refl}
use Rattle.sealed_form.proofs.Envelopes.{envelope_read, envelope_shows, no_envelope}
use Rattle.sealed_form.proofs.laws.envelopes_show_the_contents_of_what_is_seen.Goals as goal

pub returns-clause-read : goal.returns-clause-read
returns-clause-read c topology packages request sealed p bytes there = rw (envelope_read topology packages request sealed p bytes there) refl

pub returns-clause-shown : goal.returns-clause-shown
returns-clause-shown c topology packages request sealed p bytes tree path there is = envelope_shows topology packages request sealed p bytes tree path there is

pub returns-clause-none : goal.returns-clause-none
returns-clause-none c topology packages request sealed p path none = no_envelope topology packages request sealed p path none
