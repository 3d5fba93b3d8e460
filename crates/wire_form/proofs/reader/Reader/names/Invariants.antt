use Rattle.std.proofs.Common.{◌≡◌, ◌-◌, []}
use Rattle.ledger_terms.specs.Parties.{stands_above}
use Rattle.wire_form.specs.Formats.{items_at}
use Rattle.wire_form.specs.Fields.{name_at}
use Rattle.wire_form.proofs.reader.Reader.names.Given as goal

-- what is still to come, behind what is there, is the whole
abbrev pub invariant-loop : goal.invariant-loop
invariant-loop l =
    items_at stands_above name_at (l.count - l.counter) l.names l.self ≡ items_at stands_above name_at l.count [] l.fn.self
