-- The bases of participants, before and after.
use Rattle.std.proofs.Common.{◌≡◌, List, length, sym, ap, ◌∙◌, arith}
use Rattle.std.proofs.lemmas.Option.{slice_get_within}
use Rattle.node_core.specs.Bases.{AreBases, Bases, base_in, bases_of}
use Rattle.node_core.specs.Participant.{Participant}
use Rattle.world_play.proofs.Each.{item_of}

pub own_bases : (nodes : List Participant) → AreBases (bases_of nodes) nodes
own_bases nodes p node at = sym (ap base_in at)

-- as many that have the bases of these have whatever bases these have
pub same_bases : (before after : List Participant) → length after ≡ length before → AreBases (bases_of before) after → (bases : Bases)
    → AreBases bases before → AreBases bases after
same_bases before after long is bases was p node at =
    let within = slice_get_within after p node at in
    let x = item_of before p (omega (arith, within, long)) in
    is p node at ∙ (ap base_in x.1 ∙ was p x.0 x.1)
