-- Each request of a played log is a raw one, or what a submission wanted over what its participant had read.
use Rattle.std.proofs.Common.{◌≡◌, ◌⊎◌, ℕ, ◌+◌, ◌≤◌, List, [], ◌∷◌, ◌++◌, take, length, Option, Some, None, refl, sym, ap, ◌∙◌, subst, inl, inr, arith}
use Rattle.std.proofs.Common.{le_refl, nat_eq, slice_get}
use Rattle.std.proofs.lemmas.Bool.{cases_Bool, cases_lt}
use Rattle.std.proofs.lemmas.Option.{none-some, same_Some}
use Rattle.std.proofs.lemmas.List.{length-append}
use Rattle.ledger_terms.specs.declared.submission.Submission.{Submission}
use Rattle.ledger_model.specs.Terms.{ParticipantId}
use Rattle.ledger_model.proofs.Lists.{In}
use Rattle.canton_model.specs.Log.{request_of, request_in, request_at}
use Rattle.canton_model.specs.Inbox.{Item, inbox}
use Rattle.world_model.specs.Messages.{Entry, Message, RequestMessage, ResponseMessage, VerdictMessage, Tick, Request, Response, Verdict}
use Rattle.world_model.specs.Machine.{Machine, IsMachine}
use Rattle.world_model.specs.Sequencing.{AppendFault, append_fault, unless_refused, entry_after, sequenced}
use Rattle.world_model.specs.Node.{NodeState, outbox_head, next_claim}
use Rattle.world_model.specs.Mediator.{next_verdict}
use Rattle.world_model.specs.World.{World, Event, Advance, Submit, SubmitRaw, NodeRead, Validate, Reply, LoseReply, MediatorRead, GiveVerdict}
use Rattle.world_model.specs.World.{LoseVerdict, Pause, submit, submit_wanted, node_reads, validates, replies, loses_reply, mediator_reads}
use Rattle.world_model.specs.World.{gives_verdict, loses_verdict, at_node, happens, played, new_world}
use Rattle.world_model.specs.Lawful.{Lawful}
use Rattle.world_model.proofs.Grown.{request_grown, request_within, slice_get_last, take_grown}
use Rattle.world_model.proofs.Steps.{happens_keeps, new_lawful}

module _ (m : Machine) (all : List Event) where
  abbrev Origin : List Entry → ℕ → Request → Type 0
  Origin log k q =
      In (SubmitRaw q) all
      ⊎ ((what : Submission) × (n now : ℕ) × In (Submit what) all × (n ≤ k)
      × (m.prepare what (inbox m.reading what.participant (take n log)) now ≡ Some q))

  abbrev Known : List Entry → Type 0
  Known log = (k : ℕ) (q : Request) → request_at log k ≡ Some q → Origin log k q

  grown : (log more : List Entry) (k : ℕ) (q : Request) → k ≤ length log → Origin log k q → Origin (log ++ more) k q
  grown log more k q le (inl raw) = inl raw
  grown log more k q le (inr s) =
      inr (
        s.0,
        s.1,
        s.2,
        s.3,
        s.4,
        subst (λ (read : List Entry). m.prepare s.0 (inbox m.reading (s.0).participant read) s.2 ≡ Some q)
            (sym (take_grown log more s.1 (let n = s.4 in omega (arith, le, n)))) s.5,
      )

  -- a message is handed in, whose request, where it has one, has its origin
  handed : (now : ℕ) (log : List Entry) (x : Message) → Known log → ((q : Request) → request_of x ≡ Some q → Origin log (length log) q)
      → Known (sequenced m now log x)
  handed now log x known own k q at = by_fault (append_fault m log x) at
    where
      by_fault : (o : Option AppendFault) → request_at (unless_refused o log (log ++ entry_after now log x ∷ [])) k ≡ Some q
          → Origin (unless_refused o log (log ++ entry_after now log x ∷ [])) k q
      by_fault (Some f) e = known k q e
      by_fault None e =
          let more = entry_after now log x ∷ [] in
          elim (cases_lt k (length log)) [
            | inl lt ↦ grown log more k q (omega (arith, lt)) (known k q (sym (request_grown log more k lt) ∙ e))
            | inr past ↦
                let inside = request_within (log ++ more) k q e in
                let long = length-append log more in
                let one : length more ≡ 1 = refl in
                let here : k ≡ length log = omega arith in
                let last : request_at (log ++ more) (length log) ≡ request_of x = ap request_in (slice_get_last log (entry_after now log x)) in
                let is : request_of x ≡ Some q = sym last ∙ (ap (request_at (log ++ more)) (sym here) ∙ e) in
                subst (λ (n : ℕ). Origin (log ++ more) n q) (sym here) (grown log more (length log) q (le_refl (length log)) (own q is))
          ]

  answered : (now : ℕ) (log : List Entry) (x : Message) → request_of x ≡ None → Known log → Known (sequenced m now log x)
  answered now log x none known = handed now log x known (λ q is. absurd (none-some q (sym none ∙ is)))

  module _ (w : World) (h : Lawful m w) (known : Known w.log) where
    wanted : (what : Submission) (node : NodeState) → In (Submit what) all → slice_get w.nodes what.participant ≡ Some node → (o : Option Request)
        → m.prepare what node.items w.now ≡ o → Known (submit_wanted m w o).log
    wanted what node there at None e = known
    wanted what node there at (Some q) e =
        let n = h.node what.participant node at in
        let read : m.prepare what (inbox m.reading what.participant (take n.0 w.log)) w.now ≡ Some q =
        subst (λ (items : List Item). m.prepare what items w.now ≡ Some q) (n.2).items e in
        handed w.now w.log (RequestMessage q) known (λ r is. inr (what, n.0, w.now, there, n.1, read ∙ is))

    submitted : (what : Submission) (node : NodeState) → In (Submit what) all → slice_get w.nodes what.participant ≡ Some node
        → Known (submit m w what node).log
    submitted what node there at =
        elim (cases_Bool node.is_paused) [ inl b ↦ rw b known | inr b ↦ rw b (wanted what node there at (m.prepare what node.items w.now) refl) ]

    reads : (p : ParticipantId) (node : NodeState) (o : Option Entry) → Known (node_reads m w p node o).log
    reads p node None = known
    reads p node (Some x) = known

    validated : (p : ParticipantId) (node : NodeState) (o : Option ℕ) → Known (validates m w p node o).log
    validated p node None = known
    validated p node (Some k) = known

    replied : (p : ParticipantId) (node : NodeState) (o : Option Response) → Known (replies m w p node o).log
    replied p node None = known
    replied p node (Some r) = answered w.now w.log (ResponseMessage r) refl known

    lost : (p : ParticipantId) (node : NodeState) (o : Option Response) → Known (loses_reply w p node o).log
    lost p node None = known
    lost p node (Some r) = known

    mediated : (o : Option Entry) → Known (mediator_reads m w o).log
    mediated None = known
    mediated (Some x) = known

    gave : (o : Option Verdict) → Known (gives_verdict m w o).log
    gave None = known
    gave (Some v) = answered w.now w.log (VerdictMessage v) refl known

    kept : (o : Option Verdict) → Known (loses_verdict w o).log
    kept None = known
    kept (Some v) = known

    at : (o : Option NodeState) (p : ParticipantId) (step : NodeState → World) → slice_get w.nodes p ≡ o
        → ((node : NodeState) → slice_get w.nodes p ≡ Some node → Known (step node).log) → Known (at_node w o step).log
    at None p step e f = known
    at (Some node) p step e f = f node e

    happened : (event : Event) → In event all → Known (happens m w event).log
    happened (Advance by) i = elim (cases_Bool (nat_eq by 0)) [ inl b ↦ rw b known | inr b ↦ rw b (answered (w.now + by) w.log Tick refl known) ]
    happened (Submit what) i = at (slice_get w.nodes what.participant) what.participant _ refl (λ node e. submitted what node i e)
    happened (SubmitRaw q) i =
        handed w.now w.log (RequestMessage q) known (λ r is. inl (subst (λ (x : Request). In (SubmitRaw x) all) (same_Some q r is) i))
    happened (NodeRead p) i = at (slice_get w.nodes p) p _ refl (λ node e. reads p node (slice_get w.log (length node.items)))
    happened (Validate p) i = at (slice_get w.nodes p) p _ refl (λ node e. validated p node (next_claim m.reading m.params p node))
    happened (Reply p) i = at (slice_get w.nodes p) p _ refl (λ node e. replied p node (outbox_head m.params node))
    happened (LoseReply p) i = at (slice_get w.nodes p) p _ refl (λ node e. lost p node (outbox_head m.params node))
    happened MediatorRead i = mediated (slice_get w.log (w.mediator).cursor)
    happened GiveVerdict i = gave (next_verdict w.mediator)
    happened LoseVerdict i = kept (next_verdict w.mediator)
    happened (Pause p b) i = at (slice_get w.nodes p) p _ refl (λ node e. known)

  module _ (machine : IsMachine m) where
    all_happened : (w : World) (events : List Event) → ((event : Event) → In event events → In event all) → Lawful m w → Known w.log
        → Known (played m w events).log
    all_happened w [] inside h known = known
    all_happened w (event ∷ rest) inside h known =
        all_happened (happens m w event) rest (λ e i. inside e (inr i)) (happens_keeps m machine w h event) (happened w h known event (inside event (inl refl)))

pub origins : (m : Machine) (events : List Event) → IsMachine m → Known m events (played m (new_world m) events).log
origins m events machine =
    all_happened m events machine (new_world m) events (λ e i. i) (new_lawful m) (λ k q at. absurd (none-some q at))
