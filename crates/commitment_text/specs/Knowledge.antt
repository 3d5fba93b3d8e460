-- What participants know of active contracts.
use Rattle.std.specs.Prelude.{◌≡◌, ℕ, suc, zero, ◌≤◌, List, [], ◌∷◌}
use Rattle.ledger_terms.specs.declared.active_row.ActiveRow.{ActiveRow}
use Rattle.ledger_model.specs.Terms.{ParticipantId}
use Rattle.canton_model.specs.Inbox.{Item, clean, inbox, node_active}
use Rattle.canton_model.specs.Log.{Params}
use Rattle.canton_model.specs.Reading.{Reading}
use Rattle.canton_model.specs.declared.entry.Entry.{Entry}
use Rattle.pruned_inbox.specs.Start.{Start, active_kept}
use Rattle.node_core.specs.Participant.{Participant, items_of, params_of, reading_of}

-- what a participant knows of active contracts: its base, its clean place, and the contracts that are active at each place
pub record Knowledge : Type 0 where
  pub base : ℕ
  pub clean : ℕ
  pub active_at : (place : ℕ) → List ActiveRow

-- What participant p knows of active contracts over its whole inbox, beside its base. The text of commitments tells nothing of places below that.
abbrev pub knowledge_over : Reading → Params → ParticipantId → (base : ℕ) → List Item → Knowledge
knowledge_over reading params p base items =
    record { base = base; clean = clean params items; active_at = λ place. node_active reading p items place }

-- What participant p knows of active contracts over the items that it keeps, where its inbox left the start at its base.
abbrev pub knowledge_kept : Reading → Params → ParticipantId → (base : ℕ) → Start → List Item → Knowledge
knowledge_kept reading params p base start items =
    record { base = base; clean = clean params items; active_at = λ place. active_kept reading p start items place }

-- What a participant knows of active contracts over the inbox that it keeps.
abbrev pub knowledge_of : Participant → Knowledge
knowledge_of p = knowledge_kept (reading_of p) (params_of p) p.me p.base p.start (items_of p)

-- What `count` participants, the first of which has index p, know of active contracts over a whole log, each with its base.
abbrev pub knowledge_from : Reading → Params → List Entry → (bases : ParticipantId → ℕ) → ParticipantId → (count : ℕ) → List Knowledge
knowledge_from reading params log bases p zero = []
knowledge_from reading params log bases p (suc count) =
    knowledge_over reading params p (bases p) (inbox reading p log) ∷ knowledge_from reading params log bases (suc p) count

-- What each of all `hosts` participants knows of active contracts over a whole log, in order of the topology, each with its base.
abbrev pub each_knowledge : Reading → Params → List Entry → (bases : ParticipantId → ℕ) → (hosts : ℕ) → List Knowledge
each_knowledge reading params log bases hosts = knowledge_from reading params log bases 0 hosts

-- What two participants know is alike: they have one base and one clean place, and at each place from the base on the same active contracts.
pub record KnowsAlike (a b : Knowledge) : Type 0 where
  pub base : a.base ≡ b.base
  pub clean : a.clean ≡ b.clean
  pub active : (place : ℕ) → a.base ≤ place → a.active_at place ≡ b.active_at place

-- both lists have one length, and the knowledges at each index are alike
abbrev pub KnowAlike : List Knowledge → List Knowledge → Type 0
KnowAlike [] [] = Unit {0}
KnowAlike [] (b ∷ others) = ⊥
KnowAlike (a ∷ more) [] = ⊥
KnowAlike (a ∷ more) (b ∷ others) = KnowsAlike a b × KnowAlike more others
