-- The text of commitments: for each two participants how far both know the log, how many contracts each of them shares with the other
-- there, and whether they commit to the same ones; or that one of them has forgotten what was active there.
use Rattle.std.specs.Prelude.{ℕ, List, [], ◌∷◌, ◌++◌, codes, decimal, length, max, min, nat_lt, Option, None, Some, if◌then◌else◌}
use Rattle.std.specs.List.{flat_map}
use Rattle.ledger_terms.specs.Parties.{set_of}
use Rattle.ledger_terms.specs.declared.host.Host.{Host}
use Rattle.ledger_model.specs.Terms.{ParticipantId}
use Rattle.canton_model.specs.Reading.{Reading}
use Rattle.acs_commit.specs.Shared.{shared_ids}
use Rattle.acs_commit.specs.Trees.{first_difference}
use Rattle.commitment_text.specs.Counterparties.{Counterparty, counterparties_from}
use Rattle.commitment_text.specs.Knowledge.{Knowledge}

-- The ids of the contracts that are active at a place by what one participant knows, and of which the participant `other` hosts a stakeholder.
abbrev pub ids_shared : Reading → (other : ParticipantId) → Knowledge → (place : ℕ) → List (List ℕ)
ids_shared reading other knowledge place = shared_ids reading other (knowledge.active_at place)

-- The words for what comparing two participants found: `equal` where the roots of their trees of hashes are (None), or `differ` with the first bucket
-- in which they differ.
abbrev pub agreement_text : Option ℕ → List ℕ
agreement_text None = codes "equal"
agreement_text (Some bucket) = codes "differ " ++ decimal bucket

-- The words for whether two participants' sets of ids have one root: `equal`, or `differ` with the first bucket whose hashes differ. The arguments are
-- the ids that each of the two shares with the other.
abbrev pub agreement : (mine theirs : List (List ℕ)) → List ℕ
agreement mine theirs = agreement_text (first_difference (set_of mine) (set_of theirs))

-- how the line of two participants begins: `pair P Q at M`, their names and the place at which they are compared
abbrev pub place_text : (one other : List ℕ) → (place : ℕ) → List ℕ
place_text one other place = codes "pair " ++ one ++ codes " " ++ other ++ codes " at " ++ decimal place

-- The line of two participants, one of which has forgotten the place at which they are compared: `pair P Q pruned N`, where N is the base.
abbrev pub pruned_text : (one other : List ℕ) → (base : ℕ) → List ℕ
pruned_text one other base = codes "pair " ++ one ++ codes " " ++ other ++ codes " pruned " ++ decimal base ++ codes "\n"

-- The part of a line that tells how many contracts each of two participants shares with the other: ` count A B `.
abbrev pub counts_text : (mine theirs : ℕ) → List ℕ
counts_text mine theirs = codes " count " ++ decimal mine ++ codes " " ++ decimal theirs ++ codes " "

-- How the line of two participants ends: both counts, and in the words `told` whether they commit to the same contracts.
abbrev pub told_text : (mine theirs : ℕ) → (told : List ℕ) → List ℕ
told_text mine theirs told = counts_text mine theirs ++ told ++ codes "\n"

-- How the line of two participants ends, of the ids that each shares with the other: how many these are, and whether both commit to the same ones.
abbrev pub shared_text : (mine theirs : List (List ℕ)) → List ℕ
shared_text mine theirs = told_text (length mine) (length theirs) (agreement mine theirs)

-- the line of two participants that are compared at a place: `pair P Q at M count A B equal`, or `differ N` in place of `equal`
abbrev pub pair_at : Reading → (one other : Counterparty) → (place : ℕ) → List ℕ
pair_at reading one other place =
    place_text one.name other.name place
    ++ shared_text (ids_shared reading other.number one.knowledge place) (ids_shared reading one.number other.knowledge place)

-- the place at which two participants are compared: the lesser of their clean places
abbrev pub place_of : (one other : Counterparty) → ℕ
place_of one other = min (one.knowledge).clean (other.knowledge).clean

-- the greater of two participants' bases
abbrev pub base_of : (one other : Counterparty) → ℕ
base_of one other = max (one.knowledge).base (other.knowledge).base

-- The line of two participants that are compared at a place. `base` is the greater of both bases; where the place is below it, the line says instead
-- that one of them has forgotten what was active there.
abbrev pub pair_since : Reading → (one other : Counterparty) → (base place : ℕ) → List ℕ
pair_since reading one other base place =
    if nat_lt place base then pruned_text one.name other.name base else pair_at reading one other place

-- The line of two participants, compared at the lesser of their clean places. Where that is below the greater of their bases, the line tells that base.
abbrev pub pair_text : Reading → (one other : Counterparty) → List ℕ
pair_text reading one other = pair_since reading one other (base_of one other) (place_of one other)

-- the lines of each two of these participants, in their order
abbrev pub pairs_text : Reading → List Counterparty → List ℕ
pairs_text reading [] = []
pairs_text reading (one ∷ others) = flat_map (pair_text reading one) others ++ pairs_text reading others

-- The whole text of commitments, of participants with what they know, in order of the topology: a line of each two, and `end`.
abbrev pub commitments_of : Reading → List Host → List Knowledge → List ℕ
commitments_of reading hosts known = pairs_text reading (counterparties_from 0 hosts known) ++ codes "end\n"
