use Rattle.std.proofs.Common.{◌≡◌, ◌-◌, []}
use Rattle.wire_form.specs.Formats.{items_at, any_item}
use Rattle.wire_form.specs.Reading.{value_at}
use Rattle.wire_form.proofs.reader.Reader.more_values.Given as goal

-- what is still to come, behind what is there, is the whole
abbrev pub invariant-loop : goal.invariant-loop
invariant-loop l =
    items_at any_item value_at (l.count - l.counter) l.values l.self ≡ items_at any_item value_at l.count [] l.fn.self
