-- What contracts see of an inbox.
use Rattle.std.specs.Prelude.{ℕ, suc, List, [], ◌∷◌, ◌++◌, take, unwrap_or, length}
use Rattle.ledger_terms.specs.declared.topology.Topology.{Topology}
use Rattle.ledger_model.specs.Terms.{ParticipantId}
use Rattle.canton_model.specs.Log.{Params}
use Rattle.canton_model.specs.Reading.{Reading}
use Rattle.canton_model.specs.Inbox.{Item, is_decided_in}
use Rattle.canton_model.specs.declared.view_verdict.ViewVerdict.{ViewVerdict}
use Rattle.world_model.specs.Places.{first_from}
use Rattle.pruned_inbox.specs.Forgotten.{silent_front}
use Rattle.pruned_inbox.specs.Start.{Start, no_start, verdicts_kept}
use Rattle.lang_eval.specs.Found.{Packages}
use Rattle.framed_form.specs.FramedReading.{framed_reading}

-- What contracts see of an inbox: the topology, the packages, the participant that it is of, its base with the time of the entry before that, in
-- microseconds, what the inbox left at its base, and its items. These are silent below the base, and from there on what was read.
pub record InboxState : Type 0 where
  pub topology : Topology
  pub packages : Packages
  pub me : ParticipantId
  pub base : ℕ
  pub base_time : ℕ
  pub start : Start
  pub items : List Item

-- How requests are read with the participants and the packages of an inbox.
abbrev pub reading_of : InboxState → Reading
reading_of state = framed_reading state.topology state.packages

-- The timeouts and the skew of an inbox, which are its topology's.
abbrev pub params_of : InboxState → Params
params_of state = state.topology.params

-- The inbox of participant `me` that begins at a base, with what was left there. Its only items are the silent ones below the base, the last of which
-- has the time `base_time`.
abbrev pub begun_at : Topology → Packages → ParticipantId → (base base_time : ℕ) → Start → InboxState
begun_at topology packages me base base_time start =
    record { topology = topology; packages = packages; me = me; base = base; base_time = base_time; start = start; items = silent_front base base_time }

-- The inbox of participant `me` that has read nothing and forgotten nothing.
abbrev pub begun : Topology → Packages → ParticipantId → InboxState
begun topology packages me = begun_at topology packages me 0 0 no_start

-- An inbox with one more item behind the others.
abbrev pub with_item : InboxState → Item → InboxState
with_item state item = record state { items = state.items ++ item ∷ [] }

-- The least place at which the request at `place` is decided, and the cursor where it is undecided at each. Where a verdict decides it, that is the
-- place behind the verdict.
abbrev pub decided_since : Params → List Item → ℕ → ℕ
decided_since params items place = unwrap_or (first_from (is_decided_in params items place) 0 (length items)) (length items)

-- The verdicts that participant p owes to the request at place k, by what it knew when it had read that entry. There is none where no request
-- was received there.
abbrev pub owed_kept : Reading → Params → ParticipantId → Start → List Item → ℕ → List ViewVerdict
owed_kept reading params p start items k = verdicts_kept reading params p start (take (suc k) items) k
