use Rattle.std.proofs.Common.{length, sym, ap, ◌∙◌, subst}
use Rattle.seq_log.specs.Sequenced.{Sequenced, IsFor}
use Rattle.world_model.specs.Settled.{append_each}
use Rattle.world_model.specs.Turns.{waiting_below}
use Rattle.world_play.specs.Parts.{IsParticipant, GoesOn}
use Rattle.world_play.proofs.Answered.{on_ok, always}
use Rattle.world_play.proofs.Turns.{reads_of, reader_is, validated_is, waiting_is, all_long, read_before}
use Rattle.world_play.proofs.turn.take_turn.Goals as goal

pub read_to_end-requires : goal.read_to_end-requires
read_to_end-requires g c = reads_of c.requires.0 c.requires.1 c.args.node.now c.args.sequencer.now c.requires.2

pub returns-in_err-read_to_end-clause-keeps : goal.returns-in_err-read_to_end-clause-keeps
returns-in_err-read_to_end-clause-keeps g c = λ m p given.
    subst (λ (q : Sequenced). IsParticipant m p c.read_to_end.new.node q) (sym c.read_to_end.ensures.same)
    (reader_is m p c.args.node.now c.args.sequencer.now given c.read_to_end.new.node c.read_to_end.ensures.some)

pub returns-in_err-validate_all-clause-keeps : goal.returns-in_err-validate_all-clause-keeps
returns-in_err-validate_all-clause-keeps g c = λ m p given.
    let read =
    subst (λ (q : Sequenced). IsParticipant m p c.read_to_end.new.node q) (sym c.read_to_end.ensures.same)
    (reader_is m p c.args.node.now c.args.sequencer.now given c.read_to_end.new.node c.read_to_end.ensures.some) in
    validated_is m p c.read_to_end.new.node c.validate_all.new.node c.read_to_end.new.sequencer read c.validate_all.ensures.same
    c.validate_all.ensures.items c.validate_all.ensures.inbox (λ xs whole. c.validate_all.ensures.has m p xs whole read.is)

pub returns-clause-keeps : goal.returns-clause-keeps
returns-clause-keeps g c = λ m p given.
    let read =
    subst (λ (q : Sequenced). IsParticipant m p c.read_to_end.new.node q) (sym c.read_to_end.ensures.same)
    (reader_is m p c.args.node.now c.args.sequencer.now given c.read_to_end.new.node c.read_to_end.ensures.some) in
    c.send_all.ensures.keeps m p
    (validated_is m p c.read_to_end.new.node c.validate_all.new.node c.read_to_end.new.sequencer read c.validate_all.ensures.same
    c.validate_all.ensures.items c.validate_all.ensures.inbox (λ xs whole. c.validate_all.ensures.has m p xs whole read.is))

pub returns-clause-sends : goal.returns-clause-sends
returns-clause-sends g c =
    on_ok c.send_all.result _ _ c.send_all.ensures.ok
    (λ ok m p now given.
    let after = c.validate_all.new.node in
    ok m now (subst (IsFor m) (sym c.read_to_end.ensures.same) given.is_for)
    ∙ (ap (λ (q : Sequenced). append_each m now q.list (waiting_below (after.topology).params after.state (length (after.state).items)))
    c.read_to_end.ensures.same
    ∙ ap (append_each m now (c.args.sequencer.now).list)
    (waiting_is m p c.args.node.now c.args.sequencer.now given c.read_to_end.new.node c.in_ok-read_to_end.ensures.ok after c.validate_all.ensures.same
    c.validate_all.ensures.items c.validate_all.ensures.inbox c.in_ok-validate_all.ensures.ok)))

pub returns-clause-has : goal.returns-clause-has
returns-clause-has g c =
    always c.send_all.result _
    (λ m p given.
    let read =
    subst (λ (q : Sequenced). IsParticipant m p c.read_to_end.new.node q) (sym c.read_to_end.ensures.same)
    (reader_is m p c.args.node.now c.args.sequencer.now given c.read_to_end.new.node c.read_to_end.ensures.some) in
    read_before m p c.send_all.new.node c.args.sequencer.now c.send_all.new.sequencer
    (subst (λ (q : Sequenced). GoesOn q c.send_all.new.sequencer) c.read_to_end.ensures.same c.send_all.ensures.on)
    (c.send_all.ensures.keeps m p
    (validated_is m p c.read_to_end.new.node c.validate_all.new.node c.read_to_end.new.sequencer read c.validate_all.ensures.same
    c.validate_all.ensures.items c.validate_all.ensures.inbox (λ xs whole. c.validate_all.ensures.has m p xs whole read.is)))
    (ap length c.send_all.ensures.items
    ∙ (ap length c.validate_all.ensures.items
    ∙ all_long m p c.args.node.now c.args.sequencer.now given c.read_to_end.new.node c.in_ok-read_to_end.ensures.ok)))
