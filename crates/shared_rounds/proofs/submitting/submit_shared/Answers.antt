use Rattle.std.proofs.Common.{◌≡◌, ◌<◌, ℕ, List, [], length, refl, sym, ◌∙◌, subst}
use Rattle.std.specs.Prelude.{All}
use Rattle.std.proofs.lemmas.List.Elements.{All-weaker}
use Rattle.ledger_terms.specs.declared.submission.Submission.{Submission}
use Rattle.ledger_model.specs.Terms.{ParticipantId}
use Rattle.prepare_request.specs.declared.submit_fault.SubmitFault.{SubmitFault}
use Rattle.lang_eval.specs.Named.{AreKnown}
use Rattle.sealed_form.specs.Within.{is_hosted}
use Rattle.prepare_request.specs.Within.{parties_in_what}
use Rattle.threads_model.specs.Merging.{Merging}
use Rattle.world_model.specs.Rounds as r
use Rattle.node_core.specs.Machines.{why_of}
use Rattle.world_play.specs.Results.{results_of}
use Rattle.world_play.specs.Submitting.{CanSubmit}
use Rattle.shared_rounds.specs.Joined.{AreAnswered}
use Rattle.shared_rounds.specs.Machine.{machine_in}
use Rattle.shared_rounds.specs.Queues.{queued}
use Rattle.shared_rounds.proofs.Based.{own_bases, same_bases}
use Rattle.shared_rounds.proofs.Joining.{goes_on, joined_of}
use Rattle.shared_rounds.proofs.submitting.submit_shared.Goals as goal

pub gather-requires-clause-set_up : goal.gather-requires-clause-set_up
gather-requires-clause-set_up g c κs within =
    record { machine_is = refl; why_is = refl; valid = c.requires.valid.0; named = c.requires.valid.1 }

pub gather-requires-clause-nodes : goal.gather-requires-clause-nodes
gather-requires-clause-nodes g c κs within = c.requires.nodes

pub gather-requires-clause-bases : goal.gather-requires-clause-bases
gather-requires-clause-bases g c κs within = own_bases c.args.world.nodes.items

pub gather-requires-clause-world : goal.gather-requires-clause-world
gather-requires-clause-world g c κs within = c.requires.world

pub gather-requires-clause-history : goal.gather-requires-clause-history
gather-requires-clause-history g c κs within = (refl, refl)

pub gather-requires-clause-named : goal.gather-requires-clause-named
gather-requires-clause-named g c κs within =
    let topology = c.args.setup.now.topology in
    let packages = c.args.setup.now.checked in
    let submits = c.args.submits.now in
    subst (All (λ (what : Submission). AreKnown (is_hosted topology) (parties_in_what what.what))) (sym c.as_slice.ensures)
    (All-weaker (CanSubmit topology packages) (λ (what : Submission). AreKnown (is_hosted topology) (parties_in_what what.what))
    (λ what can. can.named_by_input) submits c.requires.within)

pub in_order-requires-clause-there : goal.in_order-requires-clause-there
in_order-requires-clause-there g c =
    let queues = c.in_ok-world.field-0.queues in
    let count : queues.len ≡ length c.args.setup.now.topology.hosts = queues.ok.0 ∙ c.in_ok-world.ensures.answered.hosts in
    subst (All (λ (what : Submission). what.participant < queues.len)) (sym c.as_slice-2.ensures)
    (subst (λ (n : ℕ). All (λ (what : Submission). what.participant < n) c.args.submits.now) (sym count) c.requires.there)

pub returns-clause-on : goal.returns-clause-on
returns-clause-on g c =
    let told = c.in_ok-world.ensures in
    goes_on (machine_in c.args.setup.now c.args.world) c.args.world.sequencer c.in_ok-world.field-0.world.sequencer c.requires.world.1.nodes.is_for
    told.history.1 told.history.0 told.answered.begins

pub returns-clause-nodes : goal.returns-clause-nodes
returns-clause-nodes g c = c.in_ok-world.ensures.nodes

pub returns-clause-bases : goal.returns-clause-bases
returns-clause-bases g c =
    let told = c.in_ok-world.ensures in
    same_bases c.args.world.nodes.items c.in_ok-world.field-0.world.nodes.items (told.nodes.many ∙ sym c.requires.nodes.many) told.bases

pub returns-clause-world : goal.returns-clause-world
returns-clause-world g c = c.in_ok-world.ensures.world

pub returns-clause-joined : goal.returns-clause-joined
returns-clause-joined g c =
    let m = machine_in c.args.setup.now c.args.world in
    let why = why_of c.args.setup.now.topology c.args.setup.now.checked in
    let now = c.args.world.now in
    let paused = c.args.paused.now in
    let first = c.args.world.sequencer.list in
    let submits = c.args.submits.now in
    let log = c.in_ok-world.field-0.world.sequencer.list in
    let queues = c.in_ok-world.field-0.queues.items in
    let results = c.in_ok-results.results in
    joined_of m why now paused first submits log queues results
    (subst (λ (ws : List Submission). AreAnswered m why now paused first ws log queues) c.as_slice.ensures c.in_ok-world.ensures.answered)
    (subst (λ (ws : List Submission). (left : ParticipantId → r.Results SubmitFault) × Merging ws (queued ws queues) left (results_of ws results) [])
    c.as_slice-2.ensures c.in_ok-results.ensures.merged)
    c.requires.there
