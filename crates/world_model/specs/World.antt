-- A world and its events.
use Rattle.std.specs.Prelude.{ℕ, zero, suc, ◌+◌, Bool, List, [], ◌∷◌, Option, Some, None, length, take, slice_get, replicate, nat_eq, if◌then◌else◌}
use Rattle.ledger_terms.specs.declared.submission.Submission.{Submission}
use Rattle.ledger_model.specs.Terms.{ParticipantId}
use Rattle.world_model.specs.Messages.{Entry, Message, RequestMessage, ResponseMessage, VerdictMessage, Tick, Request, Response, Verdict}
use Rattle.world_model.specs.Machine.{Machine}
use Rattle.world_model.specs.Sequencing.{sequenced}
use Rattle.world_model.specs.Node.{NodeState, read_entry, next_claim, validate, outbox_head, sent, with_flag, new_node}
use Rattle.world_model.specs.Mediator.{MediatorState, next_verdict, take_verdict, read_by_mediator, new_mediator}

-- A synchroniser as the definitions know it: the log, the time, the mediator and the participants.
pub record World : Type 0 where
  pub log : List Entry
  -- the time, in microseconds
  pub now : ℕ
  pub mediator : MediatorState
  pub nodes : List NodeState  -- in topology order

-- What may happen in a world: one step of time, of a client, of a participant or of the mediator. `happens` tells what each does.
pub data Event : Type 0 where
  -- time moves on by so many microseconds, with a Tick; by 0 nothing happens
  Advance : (by : ℕ) → Event
  -- a participant prepares and hands in the request of a submission
  Submit : Submission → Event
  SubmitRaw : Request → Event  -- whoever made it
  -- the participant reads the next entry
  NodeRead : ParticipantId → Event
  -- the participant claims its next job and finishes it
  Validate : ParticipantId → Event
  -- the participant's next response is handed in
  Reply : ParticipantId → Event
  -- the next response is taken out of the outbox and not appended
  LoseReply : ParticipantId → Event
  -- the mediator reads the next entry
  MediatorRead : Event
  -- the mediator's next verdict is handed in
  GiveVerdict : Event
  -- the next verdict is taken and not appended
  LoseVerdict : Event
  -- the participant is paused (true) or goes on (false)
  Pause : ParticipantId → Bool → Event

-- the world with this log in place of its own
abbrev pub with_log : World → List Entry → World
with_log w log = record { log = log; now = w.now; mediator = w.mediator; nodes = w.nodes }

-- the list with y at place k in place of what stood there; the list as it was where it ends before k
abbrev pub set_at : {X : Type 0} → List X → ℕ → X → List X
set_at [] k y = []
set_at (x ∷ xs) zero y = y ∷ xs
set_at (x ∷ xs) (suc k) y = x ∷ set_at xs k y

-- the world with this state of participant p; the world as it was where there is no such participant
abbrev pub with_node : World → ParticipantId → NodeState → World
with_node w p node = record { log = w.log; now = w.now; mediator = w.mediator; nodes = set_at w.nodes p node }

-- the world with this state of the mediator
abbrev pub with_mediator : World → MediatorState → World
with_mediator w mediator = record { log = w.log; now = w.now; mediator = mediator; nodes = w.nodes }

-- the world after a message was handed in to its sequencer, which may refuse it
abbrev pub append_to : Machine → World → Message → World
append_to m w message = with_log w (sequenced m w.now w.log message)

-- the world after its time has moved on by so many microseconds, with a Tick in its log
abbrev pub advance : Machine → World → ℕ → World
advance m w by = append_to m (record { log = w.log; now = w.now + by; mediator = w.mediator; nodes = w.nodes }) Tick

-- the world after the request that a submission wants was handed in; the world as it was where it wants none
abbrev pub submit_wanted : Machine → World → Option Request → World
submit_wanted m w None = w
submit_wanted m w (Some request) = append_to m w (RequestMessage request)

-- The world after the submission `what` to the participant with the state `node`. Nothing is done where that is paused or no request is wanted.
abbrev pub submit : Machine → World → Submission → NodeState → World
submit m w what node = if node.is_paused then w else submit_wanted m w (m.prepare what node.items w.now)

-- participant p, with the state `node`, reads the next entry; nothing is done where there is none
abbrev pub node_reads : Machine → World → ParticipantId → NodeState → Option Entry → World
node_reads m w p node None = w
node_reads m w p node (Some entry) = with_node w p (read_entry m.reading p node (take (length node.items) w.log) entry)

-- participant p, with the state `node`, claims and finishes the job of place k; nothing is done where there is no job to claim (None)
abbrev pub validates : Machine → World → ParticipantId → NodeState → Option ℕ → World
validates m w p node None = w
validates m w p node (Some k) = with_node w p (validate m.reading m.params p node k)

-- participant p, with the state `node`, hands in a response and drops it from its outbox; nothing is done where none waits
abbrev pub replies : Machine → World → ParticipantId → NodeState → Option Response → World
replies m w p node None = w
replies m w p node (Some response) = append_to m (with_node w p (sent node response.request)) (ResponseMessage response)

-- participant p, with the state `node`, drops a response from its outbox without handing it in; nothing is done where none waits
abbrev pub loses_reply : World → ParticipantId → NodeState → Option Response → World
loses_reply w p node None = w
loses_reply w p node (Some response) = with_node w p (sent node response.request)

-- the world after a step of one participant, which `step` gives of the participant's state; the world as it was where there is no such participant
-- (None)
abbrev pub at_node : World → Option NodeState → (NodeState → World) → World
at_node w None step = w
at_node w (Some node) step = step node

-- the mediator reads the next entry; nothing is done where there is none
abbrev pub mediator_reads : Machine → World → Option Entry → World
mediator_reads m w None = w
mediator_reads m w (Some entry) = with_mediator w (read_by_mediator m.params w.mediator entry)

-- the mediator hands in a verdict and notes it as given; nothing is done where it has none to give
abbrev pub gives_verdict : Machine → World → Option Verdict → World
gives_verdict m w None = w
gives_verdict m w (Some verdict) = append_to m (with_mediator w (take_verdict w.mediator verdict.request)) (VerdictMessage verdict)

-- the mediator notes a verdict as given without handing it in; nothing is done where it has none to give
abbrev pub loses_verdict : World → Option Verdict → World
loses_verdict w None = w
loses_verdict w (Some verdict) = with_mediator w (take_verdict w.mediator verdict.request)

-- The world after one event. An event that can't do anything, as one of a participant that isn't there, leaves it as it was.
abbrev pub happens : Machine → World → Event → World
happens m w (Advance by) = if nat_eq by 0 then w else advance m w by
happens m w (Submit what) = at_node w (slice_get w.nodes what.participant) (λ node. submit m w what node)
happens m w (SubmitRaw request) = append_to m w (RequestMessage request)
happens m w (NodeRead p) = at_node w (slice_get w.nodes p) (λ node. node_reads m w p node (slice_get w.log (length node.items)))
happens m w (Validate p) = at_node w (slice_get w.nodes p) (λ node. validates m w p node (next_claim m.reading m.params p node))
happens m w (Reply p) = at_node w (slice_get w.nodes p) (λ node. replies m w p node (outbox_head m.params node))
happens m w (LoseReply p) = at_node w (slice_get w.nodes p) (λ node. loses_reply w p node (outbox_head m.params node))
happens m w MediatorRead = mediator_reads m w (slice_get w.log w.mediator.cursor)
happens m w GiveVerdict = gives_verdict m w (next_verdict w.mediator)
happens m w LoseVerdict = loses_verdict w (next_verdict w.mediator)
happens m w (Pause p paused) = at_node w (slice_get w.nodes p) (λ node. with_node w p (with_flag node paused))

-- the world after these events, one after another
abbrev pub played : Machine → World → List Event → World
played m w [] = w
played m w (event ∷ rest) = played m (happens m w event) rest

-- the world at its beginning: an empty log, the time 0, and a participant for each host that has read nothing
abbrev pub new_world : Machine → World
new_world m = record { log = []; now = 0; mediator = new_mediator; nodes = replicate m.hosts new_node }
