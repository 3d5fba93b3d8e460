-- Participants that are asked, one after another.
use Rattle.std.proofs.Common.{◌≡◌, ℕ, zero, suc, ◌+◌, ◌≤◌, sym, List, [], ◌∷◌, ◌++◌, length, drop, map, Option, Some, None, refl, ap, ◌∙◌, arith, append_assoc, append-nil}
use Rattle.std.proofs.lemmas.List.{drop_more, map_push}
use Rattle.std.proofs.lemmas.Option.{slice_get_within, get_or_from_slice_get}
use Rattle.std.proofs.Math.ListN.{drop_of_length-le}
use Rattle.std.specs.Prelude.{slice_get}
use Rattle.ledger_terms.specs.declared.host.Host.{Host}
use Rattle.node_core.specs.Participant.{Participant}
use Rattle.commitment_text.specs.Asked.{NamedNode, counterparty_at, counterparty_of}
use Rattle.commitment_text.specs.Counterparties.{Counterparty, counterparties_from}
use Rattle.commitment_text.specs.Knowledge.{knowledge_of}

none_known : (p : ℕ) (hosts : List Host) → counterparties_from p hosts [] ≡ []
none_known p [] = refl
none_known p (host ∷ hosts) = refl

past : (nodes : List Participant) (i : ℕ) → slice_get nodes i ≡ None → length nodes ≤ i
past [] i ended = omega arith
past (node ∷ nodes) zero ended = cc
past (node ∷ nodes) (suc i) ended = omega (arith, past nodes i ended)

-- the participant of one host, and those of the hosts that are left
next_of : (p : ℕ) (host : Host) (hosts : List Host) (nodes : List Participant) (i : ℕ) (at : Option Participant) → slice_get nodes i ≡ at
    → counterparty_at p host at ++ counterparties_from (p + 1) hosts (map knowledge_of (drop (i + 1) nodes))
    ≡ counterparties_from p (host ∷ hosts) (map knowledge_of (drop i nodes))
next_of p host hosts nodes i (Some node) there =
    let first : drop i nodes ≡ node ∷ drop (i + 1) nodes =
    drop_more nodes i node (slice_get_within nodes i node there)
    ∙ ap (λ (n : Participant). n ∷ drop (i + 1) nodes) (get_or_from_slice_get nodes i node node there) in
    rw first refl
next_of p host hosts nodes i None ended =
    let here : drop i nodes ≡ [] = drop_of_length-le nodes (past nodes i ended) in
    let next : drop (i + 1) nodes ≡ [] = let most = past nodes i ended in drop_of_length-le nodes (omega (arith, most)) in
    rw (here, next) (none_known (p + 1) hosts)

pub next_asked : (p : ℕ) (host : Host) (hosts : List Host) (nodes : List Participant) (i : ℕ) (done all whole : List Counterparty)
    → done ++ counterparties_from p (host ∷ hosts) (map knowledge_of (drop i nodes)) ≡ whole
    → all ≡ done ++ counterparty_at p host (slice_get nodes i)
    → all ++ counterparties_from (p + 1) hosts (map knowledge_of (drop (i + 1) nodes)) ≡ whole
next_asked p host hosts nodes i done all whole sofar more =
    let next = next_of p host hosts nodes i (slice_get nodes i) refl in
    ap (λ (xs : List Counterparty). xs ++ counterparties_from (p + 1) hosts (map knowledge_of (drop (i + 1) nodes))) more
    ∙ (append_assoc done (counterparty_at p host (slice_get nodes i)) (counterparties_from (p + 1) hosts (map knowledge_of (drop (i + 1) nodes)))
    ∙ (ap (λ (xs : List Counterparty). done ++ xs) next ∙ sofar))

-- one more is asked
pub one_asked : (p : ℕ) (host : Host) (node : Participant) (at : Option Participant) (asked more : List NamedNode) (named : NamedNode) → at ≡ Some node
    → more ≡ asked ++ named ∷ [] → named ≡ record { number = p; name = host.name; node = node }
    → map counterparty_of more ≡ map counterparty_of asked ++ counterparty_at p host at
one_asked p host node at asked more named there pushed is =
    rw (there, pushed, map_push counterparty_of asked named)
    (ap (λ (n : NamedNode). map counterparty_of asked ++ counterparty_of n ∷ []) is)

pub none_asked : (p : ℕ) (host : Host) (at : Option Participant) (asked : List NamedNode) → at ≡ None
    → map counterparty_of asked ≡ map counterparty_of asked ++ counterparty_at p host at
none_asked p host at asked ended = rw ended (sym (append-nil (map counterparty_of asked)))
