use Rattle.std.proofs.Common.{List, sym, ap, subst}
use Rattle.node_core.specs.Bases.{AreBases}
use Rattle.node_core.specs.Participant.{Participant as NodeValue}
use Rattle.world_play.specs.declared.event.Event.{Event}
use Rattle.world_play.specs.Becoming.{Becomes}
use Rattle.world_play.specs.Events.{CanHappen, event_of}
use Rattle.world_play.proofs.Answered.{always, on_ok}
use Rattle.world_play.proofs.happening.happen.Goals as goal

pub returns-in-NodeRead-clause-ok : goal.returns-in-NodeRead-clause-ok
returns-in-NodeRead-clause-ok g c =
    on_ok c.move_at.result _ _ c.move_at.ensures.ok
    (λ ok m state is l.
    subst (λ (e : Event). Becomes m (event_of e) state c.args.world.now c.move_at.new.world) (sym c.in-NodeRead.is) (ok m state is l))

pub returns-in-Validate-clause-ok : goal.returns-in-Validate-clause-ok
returns-in-Validate-clause-ok g c =
    on_ok c.move_at-in-Validate.result _ _ c.move_at-in-Validate.ensures.ok
    (λ ok m state is l.
    subst (λ (e : Event). Becomes m (event_of e) state c.args.world.now c.move_at-in-Validate.new.world) (sym c.in-Validate.is) (ok m state is l))

pub returns-in-Reply-clause-ok : goal.returns-in-Reply-clause-ok
returns-in-Reply-clause-ok g c =
    on_ok c.move_at-in-Reply.result _ _ c.move_at-in-Reply.ensures.ok
    (λ ok m state is l.
    subst (λ (e : Event). Becomes m (event_of e) state c.args.world.now c.move_at-in-Reply.new.world) (sym c.in-Reply.is) (ok m state is l))

pub returns-in-LoseReply-clause-ok : goal.returns-in-LoseReply-clause-ok
returns-in-LoseReply-clause-ok g c =
    on_ok c.move_at-in-LoseReply.result _ _ c.move_at-in-LoseReply.ensures.ok
    (λ ok m state is l.
    subst (λ (e : Event). Becomes m (event_of e) state c.args.world.now c.move_at-in-LoseReply.new.world) (sym c.in-LoseReply.is) (ok m state is l))

pub returns-in-MediatorRead-clause-ok : goal.returns-in-MediatorRead-clause-ok
returns-in-MediatorRead-clause-ok g c =
    on_ok c.mediator_reads.result _ _ c.mediator_reads.ensures.ok
    (λ ok m state is l.
    subst (λ (e : Event). Becomes m (event_of e) state c.args.world.now c.mediator_reads.new.world) (sym c.in-MediatorRead.is) (ok m state is l))

pub returns-in-GiveVerdict-clause-ok : goal.returns-in-GiveVerdict-clause-ok
returns-in-GiveVerdict-clause-ok g c =
    on_ok c.verdict_comes.result _ _ c.verdict_comes.ensures.ok
    (λ ok m state is l.
    subst (λ (e : Event). Becomes m (event_of e) state c.args.world.now c.verdict_comes.new.world) (sym c.in-GiveVerdict.is) (ok m state is l))

pub returns-in-LoseVerdict-clause-ok : goal.returns-in-LoseVerdict-clause-ok
returns-in-LoseVerdict-clause-ok g c =
    on_ok c.verdict_is_lost.result _ _ c.verdict_is_lost.ensures.ok
    (λ ok m state is l.
    subst (λ (e : Event). Becomes m (event_of e) state c.args.world.now c.verdict_is_lost.new.world) (sym c.in-LoseVerdict.is) (ok m state is l))

pub returns-in-Pause-clause-ok : goal.returns-in-Pause-clause-ok
returns-in-Pause-clause-ok g c =
    on_ok c.move_at-in-Pause.result _ _ c.move_at-in-Pause.ensures.ok
    (λ ok m state is l.
    subst (λ (e : Event). Becomes m (event_of e) state c.args.world.now c.move_at-in-Pause.new.world) (sym c.in-Pause.is) (ok m state is l))

pub submit-requires-clause-within : goal.submit-requires-clause-within
submit-requires-clause-within g c =
    let w = c.requires.within in (w.0, w.1, w.2, subst (λ (e : Event). CanHappen w.0 w.1 e) c.in-Submit.is w.3)

pub returns-in-SubmitRaw-clause-ok : goal.returns-in-SubmitRaw-clause-ok
returns-in-SubmitRaw-clause-ok g c =
    on_ok c.raw_comes.result _ _ c.raw_comes.ensures.ok
    (λ ok m state is l.
    subst (λ (e : Event). Becomes m (event_of e) state c.args.world.now c.raw_comes.new.world) (sym c.in-SubmitRaw.is) (ok m state is l))

pub returns-in-MediatorRead-clause-bases : goal.returns-in-MediatorRead-clause-bases
returns-in-MediatorRead-clause-bases g c =
    always c.mediator_reads.result _
    (λ bases u. subst (λ (xs : List NodeValue). AreBases bases xs) (sym (ap (λ v. v.items) c.mediator_reads.ensures.nodes)) u)

pub returns-in-GiveVerdict-clause-bases : goal.returns-in-GiveVerdict-clause-bases
returns-in-GiveVerdict-clause-bases g c =
    always c.verdict_comes.result _
    (λ bases u. subst (λ (xs : List NodeValue). AreBases bases xs) (sym (ap (λ v. v.items) c.verdict_comes.ensures.nodes)) u)

pub returns-in-LoseVerdict-clause-bases : goal.returns-in-LoseVerdict-clause-bases
returns-in-LoseVerdict-clause-bases g c =
    always c.verdict_is_lost.result _
    (λ bases u. subst (λ (xs : List NodeValue). AreBases bases xs) (sym (ap (λ v. v.items) c.verdict_is_lost.ensures.nodes)) u)
