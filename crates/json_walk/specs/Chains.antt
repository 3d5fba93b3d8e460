-- Steps from a value up to the whole, as a JSON pointer.
use Rattle.std.specs.Prelude.{ℕ, List, []}
use Rattle.ledger_terms.specs.Pointers.{at_item, at_member}
use Rattle.json_walk.specs.declared.chain.Chain.{Chain}
use Rattle.json_walk.specs.declared.chain.Chain.TheVariants.{Root, Member', Item'}

-- The JSON pointer, as bytes, that the steps of a chain spell from the root down: each of a member's name or an item's index i, behind those of
-- `above`. That of the root is empty; the allocator and the argument p play no part.
abbrev pub pointer_text : Chain → List ℕ
pointer_text (Root alloc) = []
pointer_text (Member' p above name) = at_member (pointer_text above) name.now
pointer_text (Item' p above i) = at_item (pointer_text above) i
