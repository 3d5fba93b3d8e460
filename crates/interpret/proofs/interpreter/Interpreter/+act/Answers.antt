use Rattle.std.proofs.Common.{◌≡◌, ◌≢◌, ◌<◌, ◌-◌, ◌+◌, Ok, Err, refl, sym, ap, ◌∙◌, arith}
use Rattle.ledger_terms.specs.declared.action.Action.{Action}
use Rattle.interpret.specs.Act.{most_children}
use Rattle.interpret.specs.Asked.{source_of}
use Rattle.interpret.specs.declared.command_fault.CommandFault.TheVariants.{Memory}
use Rattle.interpret.proofs.Steps.{most_is, act_none, act_many, act_less, follow_none, follow_fault, follow_value, follow_refused, follow_child, act_there, end_shown, child_shown}
use Rattle.interpret.proofs.Exercises.{exercise_refused, exercise_done}
use Rattle.interpret.proofs.interpreter.Interpreter.+act.Goals as goal

pub act-returns-then-place-eq0 : goal.act-returns-then-place-eq0
act-returns-then-place-eq0 g t c =
    λ h. let fresh : c.too_deep.result ≢ Memory = λ m. h (ap Err m) in
    ap Err (c.too_deep.ensures fresh) ∙ sym (act_none _ _ _ _ _ _ _ _ c.if-place-eq0.true)

pub act-returns-then-progress-ge-MOST_ACTIONS : goal.act-returns-then-progress-ge-MOST_ACTIONS
act-returns-then-progress-ge-MOST_ACTIONS g t c =
    λ h. let fresh : c.too_many.result ≢ Memory = λ m. h (ap Err m) in
    ap Err (c.too_many.ensures fresh)
    ∙ sym (act_many c.args.place.now.left (c.args.place.now.left - 1) _ _ _ _ _ _ _ (omega arith) c.if-progress-ge-MOST_ACTIONS.true)

pub act-returns : goal.act-returns
act-returns g t c =
    λ h. c.act_in_room.ensures h ∙ sym (act_less c.args.place.now.left (c.args.place.now.left - 1) _ _ _ _ _ _ _ (omega arith) c.if-progress-ge-MOST_ACTIONS.false)

pub follow-returns-in-Ok-End : goal.follow-returns-in-Ok-End
follow-returns-in-Ok-End g t c =
    λ h. let room : 0 < most_children - c.loop-index.index = omega (arith, most_is) in
    sym (follow_value (source_of c.args.self.now.checked.now (g.K.KnownContracts.rows c.args.self.now.known.now) c.args.place.now.path c.args.asking) _ _ _ _ _ _ _ _ _ _ room
    (end_shown _ _ _ c.in-Ok-End.field-0-is (c.in-Ok-End.ensures (λ m. cc)))) ∙ c.loop-index.invariant

pub follow-returns-in-Err : goal.follow-returns-in-Err
follow-returns-in-Err g t c =
    λ h. let fresh : c.in-Err.fault ≢ Memory = λ m. h (ap Err m) in
    let room : 0 < most_children - c.loop-index.index = omega (arith, most_is) in
    sym (follow_fault (source_of c.args.self.now.checked.now (g.K.KnownContracts.rows c.args.self.now.known.now) c.args.place.now.path c.args.asking) _ _ _ _ _ _ _ _ _ _ room
    (c.in-Err.ensures (λ m. fresh cc))) ∙ c.loop-index.invariant

pub act_below-returns : goal.act_below-returns
act_below-returns g t c =
    λ h. act_there _ _ _ _ _ _ _ _ _ _ _ _ c.in_ok-below.ensures.left c.in_ok-below.ensures.path c.in_ok-below.ensures.seed (c.act.ensures h)

pub follow-returns-in-Err-act_below : goal.follow-returns-in-Err-act_below
follow-returns-in-Err-act_below g t c =
    λ h. let fresh : c.in-Err-act_below.fault ≢ Memory = λ m. h (ap Err m) in
    let room : 0 < most_children - c.loop-index.index = omega (arith, most_is) in
    sym (follow_refused (source_of c.args.self.now.checked.now (g.K.KnownContracts.rows c.args.self.now.known.now) c.args.place.now.path c.args.asking) _ _ _ _ _ _ _ _ _ _ _ _ _ room
    (child_shown _ _ _ c.in-Ok-Child.field-0-is (c.in-Ok-Child.ensures (λ m. cc))) refl refl (c.in-Err-act_below.ensures (λ m. fresh cc)))
    ∙ c.loop-index.invariant

pub follow-loop-index-preserved : goal.follow-loop-index-preserved
follow-loop-index-preserved g t c =
    let room : most_children - c.loop-index.index ≡ (most_children - (c.loop-index.index + 1)) + 1 = omega (arith, most_is) in
    sym (follow_child (source_of c.args.self.now.checked.now (g.K.KnownContracts.rows c.args.self.now.known.now) c.args.place.now.path c.args.asking) _ _ _ _ _ _ _ _ _ _ _ _ _ _ _ _ _ room
    (child_shown _ _ _ c.in-Ok-Child.field-0-is (c.in-Ok-Child.ensures (λ m. cc))) refl refl (c.in-Ok.ensures (λ m. cc))
    c.in_ok-keep_child.ensures.seen c.in_ok-keep_child.ensures.children)
    ∙ c.loop-index.invariant

pub follow-returns : goal.follow-returns
follow-returns g t c =
    let none : most_children - c.loop-index.index ≡ 0 = omega (arith, most_is) in
    λ h. let fresh : c.too_many.result ≢ Memory = λ m. h (ap Err m) in
    ap Err (c.too_many.ensures fresh)
    ∙ (sym (follow_none (source_of c.args.self.now.checked.now (g.K.KnownContracts.rows c.args.self.now.known.now) c.args.place.now.path c.args.asking) _ _ _ _ _ _ _ _ _ none) ∙ c.loop-index.invariant)

pub exercise-returns-in-Err-follow : goal.exercise-returns-in-Err-follow
exercise-returns-in-Err-follow g t c =
    λ h. let fresh : c.in-Err-follow.fault ≢ Memory = λ m. h (ap Err m) in
    sym (exercise_refused c.args.self.now.checked.now _ c.args.progress.now c.args.place.now.path c.args.place.now.seed c.args.by.now c.args.salt c.args.call
    c.in-Ok.actors c.in_ok-below.below _ _ _ _ (c.in-Ok.ensures (λ m. cc)) c.are_authorised.ensures c.if-not-are_authorised.false
    c.is_consuming_call-consuming.ensures c.in_ok-below.ensures.consumed c.in_ok-below.ensures.by c.new-children.ensures
    c.in-Err-follow.fault (c.in-Err-follow.ensures (λ m. fresh cc)))

pub exercise-returns : goal.exercise-returns
exercise-returns g t c =
    λ h. ap (λ (a : Action). Ok (record { root = record { seed = c.args.place.now.seed; action = a }; below = c.follow.new.children }, c.follow.new.progress))
    c.exercise_action-action.ensures
    ∙ sym (exercise_done c.args.self.now.checked.now _ c.args.progress.now c.args.place.now.path c.args.place.now.seed c.args.by.now c.args.salt c.args.call
    c.in-Ok.actors c.in_ok-below.below _ _ _ _ (c.in-Ok.ensures (λ m. cc)) c.are_authorised.ensures c.if-not-are_authorised.false
    c.is_consuming_call-consuming.ensures c.in_ok-below.ensures.consumed c.in_ok-below.ensures.by c.new-children.ensures
    (record { children = c.follow.new.children; result = c.in-Ok-follow.value; progress = c.follow.new.progress }) (c.in-Ok-follow.ensures (λ m. cc)))
