use Rattle.std.proofs.Common.{◌≡◌, length, IfOk, refl, sym, subst}
use Rattle.canton_model.specs.Genuine.{Genuine}
use Rattle.node_inbox.specs.InboxState.{InboxState, begun, params_of, reading_of}
use Rattle.page_data.specs.Courses.{each_knowledge, inbox_over}
use Rattle.page_data.specs.Knowledge.{store_rows}
use Rattle.page_data.specs.Owing.{owed_below}
use Rattle.page_data.specs.declared.course.Course.{Course}
use Rattle.page_data.proofs.reading.course_of.Goals as goal

pub read_course-requires-clause-begun : goal.read_course-requires-clause-begun
read_course-requires-clause-begun c =
    subst (λ (i : InboxState). i ≡ begun i.topology i.packages i.me) (sym c.new-inbox.ensures) refl

pub read_course-requires-clause-genuine : goal.read_course-requires-clause-genuine
read_course-requires-clause-genuine c =
    subst (λ (i : InboxState). Genuine (reading_of i) (params_of i) c.args.log.now) (sym c.new-inbox.ensures) c.requires.genuine

pub returns-clause-states : goal.returns-clause-states
returns-clause-states c =
    let log = c.args.log.now in
    subst (λ (i : InboxState). IfOk c.read_course.result (λ (course : Course). course.states ≡ each_knowledge i.topology i.packages i.me log (length log)))
    c.new-inbox.ensures c.read_course.ensures.states

pub returns-clause-contracts : goal.returns-clause-contracts
returns-clause-contracts c =
    let log = c.args.log.now in
    subst (λ (i : InboxState). IfOk c.read_course.result (λ (course : Course). course.contracts ≡ store_rows (inbox_over i.topology i.packages i.me log)))
    c.new-inbox.ensures c.read_course.ensures.contracts

pub returns-clause-owed : goal.returns-clause-owed
returns-clause-owed c =
    let log = c.args.log.now in
    subst (λ (i : InboxState). IfOk c.read_course.result
    (λ (course : Course). course.owed ≡ owed_below (inbox_over i.topology i.packages i.me log) (length log)))
    c.new-inbox.ensures c.read_course.ensures.owed
