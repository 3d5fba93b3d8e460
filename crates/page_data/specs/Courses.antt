-- What a participant knows at each place of a log.
use Rattle.std.specs.Prelude.{◌≡◌, ◌<◌, ◌^◌, ℕ, zero, suc, true, take, length, List, [], ◌∷◌, ◌++◌}
use Rattle.ledger_terms.specs.declared.topology.Topology.{Topology}
use Rattle.ledger_model.specs.Terms.{ParticipantId}
use Rattle.pruned_inbox.specs.Start.{no_start}
use Rattle.lang_eval.specs.Found.{Packages}
use Rattle.canton_model.specs.Inbox.{inbox, last_time}
use Rattle.canton_model.specs.declared.entry.Entry.{Entry}
use Rattle.canton_model.specs.declared.message.Message.TheVariants.{Request as RequestMessage}
use Rattle.canton_model.specs.declared.request.Request.{Request}
use Rattle.framed_form.specs.FramedReading.{framed_reading}
use Rattle.node_inbox.specs.InboxState.{InboxState, reading_of}
use Rattle.page_data.specs.Knowledge.{knowledge_of}
use Rattle.page_data.specs.declared.knowledge.Knowledge.{Knowledge}

-- The inbox of participant `me`, which has read a whole log and forgotten nothing of it.
abbrev pub inbox_over : Topology → Packages → ParticipantId → List Entry → InboxState
inbox_over topology packages me log =
    record {
      topology = topology;
      packages = packages;
      me = me;
      base = 0;
      base_time = 0;
      start = no_start;
      items = inbox (framed_reading topology packages) me log;
    }

-- What participant `me`, which forgets nothing, knows at a place of a log: when it has read the entries below that.
abbrev pub knowledge_at : Topology → Packages → ParticipantId → List Entry → (place : ℕ) → Knowledge
knowledge_at topology packages me log place = knowledge_of (inbox_over topology packages me (take place log))

-- What participant `me`, which forgets nothing, knows at each place of a log, from 0 up to this one, in order.
abbrev pub each_knowledge : Topology → Packages → ParticipantId → List Entry → (place : ℕ) → List Knowledge
each_knowledge topology packages me log zero = knowledge_at topology packages me log zero ∷ []
each_knowledge topology packages me log (suc place) =
    each_knowledge topology packages me log place ++ knowledge_at topology packages me log (suc place) ∷ []

-- The inbox may read the entry next: fewer than 2^63 items were read, the entry is later than the last of them, or than 0 where none was read, and its
-- request, if it brings one, is framed.
pub record MayRead (inbox : InboxState) (entry : Entry) : Type 0 where
  pub few : length inbox.items < 2 ^ 63
  pub rises : last_time inbox.items < entry.time
  pub framed : (q : Request) → entry.message ≡ RequestMessage q → (reading_of inbox).is_framed q ≡ true
