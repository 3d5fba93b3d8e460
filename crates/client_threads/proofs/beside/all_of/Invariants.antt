use Rattle.std.proofs.Common.{◌≡◌, ◌++◌, Ok, map}
use Rattle.client_threads.proofs.beside.all_of.Given as goal

-- those so far and what is left are all that was brought
abbrev pub invariant-brought : goal.invariant-brought
invariant-brought g l = map Ok l.all.items ++ l.one-iterator.rest.items ≡ l.fn.brought.items
