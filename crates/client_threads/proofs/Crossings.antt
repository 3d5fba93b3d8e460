-- What threads may share, and hand over.
use denote.Param.{number}
use denote.Param.Send.{IsSend, IsSync, sendable, shr_sync}
use mathlib.Core.List.{List, [], ◌∷◌}
use Prim.Native.Nat.{ℕ}
use mir.Syntax.{Lifetime, w32}
use package.base.Fml.{Lft}
use denote.RattleType.{RattleType}
use denote.Plain.{UInt}
use denote.Slice.{ShrSlice}
use denote.Struct.Field.{shr_ref_field}
use denote.Struct.Tuple.{type_at, TupleAt}
use denote.Param.SendFields.{as_row_sync, declared_send, declared_sync}
use denote.Ref.{NamedLft, ShrRef}
use Rattle.std.proofs.Crossing.{crosses}
use Rattle.ledger_terms.proofs.expr.Expr.TheLaws.TheKnot.{sync-Expr}
use Rattle.ledger_terms.proofs.stmt.Stmt.TheLaws.TheKnot.{sync-Stmt}
use Rattle.ledger_terms.proofs.list.ListOf.TheSendSync as list
use Rattle.ledger_terms.proofs.name.Name.TheSendSync as name
use Rattle.ledger_terms.proofs.kind.Kind.TheSendSync as kind
use Rattle.ledger_terms.proofs.field_decl.FieldDecl.TheSendSync as field_decl
use Rattle.ledger_terms.proofs.text.Text.TheSendSync as text
use Rattle.ledger_terms.proofs.value.Value.TheSendSync as value
use Rattle.ledger_terms.proofs.hash.Hash.TheSendSync as hash
use Rattle.ledger_terms.proofs.party_set.PartySet.TheSendSync as party_set
use Rattle.ledger_terms.proofs.template_name.TemplateName.TheSendSync as template_name
use Rattle.ledger_terms.proofs.topology.Topology.TheSendSync as topology
use Rattle.ledger_terms.proofs.participant_id.ParticipantId.TheSendSync as participant_id
use Rattle.inbox_registry.proofs.registry.Registry.TheSendSync as registry
use Rattle.prepare_request.proofs.hosted_ids.HostedIds.TheSendSync as hosted_ids
use Rattle.node_inbox.proofs.approved_places.ApprovedPlaces.TheSendSync as approved_places
use Rattle.node_inbox.proofs.kept_active.KeptActive.TheSendSync as kept_active
use Rattle.node_core.proofs.duties.Duties.TheSendSync as duties
use Rattle.lang_eval.specs.contracts.checked.Checked as Checked
use Rattle.confirm_reply.specs.contracts.setup.Setup as Setup
use Rattle.node_inbox.specs.contracts.inbox.Inbox as Inbox
use Rattle.node_core.specs.contracts.node.Node as Node
use Rattle.ledger_terms.specs.contracts.choice.Choice as Choice
use Rattle.ledger_terms.specs.contracts.template.Template as Template
use Rattle.ledger_terms.specs.contracts.package.Package as Package
use Rattle.std.proofs.option.Option.TheSendSync as option
use Rattle.once_cell.proofs.race.once_bool.OnceBool.TheSendSync as once_bool
use Rattle.std.proofs.marker.PhantomData.TheSendSync as phantom
use Rattle.std.proofs.alloc.Global.TheSendSync as heap
use Rattle.std.specs.contracts.alloc.Global as Global
use Rattle.std.specs.declared.sync.ledger.Ledger as Ledger
use Rattle.ledger_terms.proofs.command.Command.TheSendSync as command
use Rattle.ledger_terms.proofs.draft_action.DraftAction.TheSendSync as draft_action
use Rattle.ledger_terms.proofs.seed_of.SeedOf.TheSendSync as seed_of
use Rattle.ledger_terms.proofs.tree.Branches.TheLaws.TheKnot.{sync-Branches}
use Rattle.ledger_terms.specs.contracts.what.What as What
use Rattle.ledger_terms.specs.contracts.submission.Submission as Submission
use Rattle.log_row.proofs.row.Slip.TheSendSync as slip
use Rattle.log_row.specs.declared.history.Row as Row
use Rattle.sync_shared.proofs.locked_log.LockedLog.TheSendSync as locked_log
use Rattle.sync_shared.proofs.locked_mediator.LockedMediator.TheSendSync as locked_mediator
use Rattle.sync_shared.proofs.round_rules.RoundRules.TheSendSync as round_rules
use Rattle.sync_shared.specs.contracts.locked_node.LockedNode as LockedNode
use Rattle.sync_shared.specs.contracts.node_lock.NodeLock as NodeLock
use Rattle.sync_shared.specs.contracts.locked_nodes.LockedNodes as LockedNodes
use Rattle.sync_shared.specs.contracts.shared.Shared as Shared
use Rattle.sync_shared.specs.declared.session.Session as Session
use Rattle.client_threads.specs.contracts.lane_work.LaneWork as LaneWork
use Rattle.client_threads.proofs.Captures.{ref_sync, slice_sync, ref_send}
use Rattle.client_threads.proofs.KeptCrossings.{kept_items_send, kept_items_sync}

ruleset of_terms = (sendable, crosses, list.the_sync, name.the_sync, kind.the_sync, kind.the_field_sync, field_decl.the_sync, field_decl.the_field_sync, text.the_sync, value.the_sync, value.the_field_sync, hash.the_sync, party_set.the_sync, template_name.the_sync, template_name.the_field_sync)

pub choice_sync : IsSync Choice.the_row
choice_sync = search (of_terms, sync-Expr, sync-Stmt) depth 40 fits 10000

pub template_sync : IsSync Template.the_row
template_sync = search (of_terms, sync-Expr, choice_sync) depth 40 fits 10000

pub package_sync : IsSync Package.the_row
package_sync = search (of_terms, template_sync) depth 40 fits 10000

pub checked_sync : IsSync Checked.the_row
checked_sync = search (of_terms, package_sync) depth 40 fits 10000

pub setup_sync : IsSync Setup.the_row
setup_sync = search (of_terms, topology.the_field_sync, checked_sync) depth 40 fits 10000

pub inbox_send : (κ : NamedLft) → IsSend (Inbox.the_row κ)
inbox_send κ =
    search (sendable, crosses, setup_sync, participant_id.the_send, kept_items_send, registry.the_send, hosted_ids.the_send, approved_places.the_field_send, kept_active.the_field_send) depth 40 fits 10000

pub inbox_sync : (κ : NamedLft) → IsSync (Inbox.the_row κ)
inbox_sync κ =
    search (sendable, crosses, setup_sync, participant_id.the_sync, kept_items_sync, registry.the_sync, hosted_ids.the_sync, approved_places.the_field_sync, kept_active.the_field_sync) depth 40 fits 10000

pub node_send : (κ : NamedLft) → IsSend (Node.the_row κ)
node_send κ = search (sendable, crosses, setup_sync, participant_id.the_send, inbox_send, duties.the_send) depth 40 fits 10000

pub node_sync : (κ : NamedLft) → IsSync (Node.the_row κ)
node_sync κ = search (sendable, crosses, setup_sync, participant_id.the_sync, inbox_sync, duties.the_sync) depth 40 fits 10000

pub what_sync : IsSync What.the_row
what_sync =
    search (sendable, crosses, option.the_field_sync, list.the_sync, command.the_sync, seed_of.the_sync, sync-Branches, draft_action.the_sync) depth 40 fits 10000

pub submission_sync : IsSync Submission.the_row
submission_sync =
    declared_sync Submission.the_type (
      participant_id.the_sync,
      (
        name.the_sync,
        (
          party_set.the_sync,
          (
            search (sendable, option.the_sync, option.the_field_sync, as_row_sync) depth 12,
            (what_sync, tt),
          ),
        ),
      ),
    )

pub locked_node_send : (κ : NamedLft) (T N : RattleType) (g : Session.Ghosts T.Denot) (h : Row.Ghosts T.Denot) (l : Ledger.Ghosts T.Denot)
    → IsSend (LockedNode.the_row κ T N g h l)
locked_node_send κ T N g h l =
    search (sendable, crosses, node_send, slip.the_send, option.the_field_send, phantom.the_field_send) depth 40 fits 10000

pub node_lock_sync : (κ : NamedLft) (T N : RattleType) (g : Session.Ghosts T.Denot) (h : Row.Ghosts T.Denot) (l : Ledger.Ghosts T.Denot)
    → IsSync (NodeLock.the_row κ T N g h l)
node_lock_sync κ T N g h l = search (sendable, crosses, locked_node_send, option.the_field_sync) depth 40 fits 10000

pub locked_nodes_sync : (κ : NamedLft) (T : RattleType) (g : Session.Ghosts T.Denot) (h : Row.Ghosts T.Denot) (l : Ledger.Ghosts T.Denot)
    → IsSync (LockedNodes.the_row κ T g h l)
locked_nodes_sync κ T g h l =
    declared_sync (LockedNodes.the_type κ T g h l) (
      node_lock_sync κ T (number 0) g h l,
      (
        node_lock_sync κ T (number 1) g h l,
        (
          node_lock_sync κ T (number 2) g h l,
          (
            node_lock_sync κ T (number 3) g h l,
            (
              node_lock_sync κ T (number 4) g h l,
              (
                node_lock_sync κ T (number 5) g h l,
                (
                  node_lock_sync κ T (number 6) g h l,
                  (
                    node_lock_sync κ T (number 7) g h l,
                    (search (sendable, crosses, node_sync, as_row_sync) depth 20, tt),
                  ),
                ),
              ),
            ),
          ),
        ),
      ),
    )

pub shared_sync : (κ : NamedLft) (T : RattleType) (g : Session.Ghosts T.Denot) (h : Row.Ghosts T.Denot) (l : Ledger.Ghosts T.Denot)
    → IsSync (Shared.the_row κ T g h l)
shared_sync κ T g h l =
    declared_sync (Shared.the_type κ T g h l) (
      round_rules.the_sync,
      (
        search (sendable, crosses, locked_log.the_send, as_row_sync),
        (search (sendable, crosses, locked_mediator.the_send, as_row_sync), (locked_nodes_sync κ T g h l, tt)),
      ),
    )

pub clients_sync : (ν : List ℕ) (a b c d : Lifetime) (α β γ δ : Lft) (κ : NamedLft) (T R : RattleType) (g : Session.Ghosts T.Denot)
    (h : Row.Ghosts T.Denot) (l : Ledger.Ghosts T.Denot) → IsSync R
    → IsSync (TupleAt ν (ShrRef a α R ∷ ShrRef b β Global.the_row ∷ ShrRef c γ (Shared.the_row κ T g h l) ∷ ShrSlice d δ Submission.the_row ∷ []))
clients_sync ν a b c d α β γ δ κ T R g h l r =
    declared_sync (type_at ν (ShrRef a α R ∷ ShrRef b β Global.the_row ∷ ShrRef c γ (Shared.the_row κ T g h l) ∷ ShrSlice d δ Submission.the_row ∷ [])) (
      ref_sync a α R r,
      (
        ref_sync b β Global.the_row heap.the_sync,
        (
          ref_sync c γ (Shared.the_row κ T g h l) (shared_sync κ T g h l),
          (slice_sync d δ Submission.the_row submission_sync, tt),
        ),
      ),
    )

pub lane_work_sync : (κ ν : NamedLft) (T R G : RattleType) (g : Session.Ghosts T.Denot) (h : Row.Ghosts T.Denot) (l : Ledger.Ghosts T.Denot)
    → IsSync R → IsSync G → IsSync (LaneWork.the_row κ ν T R G g h l)
lane_work_sync κ ν T R G g h l r q =
    declared_sync (LaneWork.the_type κ ν T R G g h l) (
      search (sendable, as_row_sync),
      (
        search (sendable, as_row_sync),
        (
          as_row_sync (shr_ref_field κ (Shared.the_row ν T g h l) tt) (shr_sync κ.mir κ.lft (Shared.the_row ν T g h l) (shared_sync ν T g h l)),
          (
            search (sendable, as_row_sync),
            (search (sendable, crosses, once_bool.the_sync, as_row_sync) depth 20, tt),
          ),
        ),
      ),
    )

pub lanes_send : (ν : List ℕ) (a b c d : Lifetime) (α β γ δ : Lft) (κ μ : NamedLft) (T R G : RattleType) (g : Session.Ghosts T.Denot)
    (h : Row.Ghosts T.Denot) (l : Ledger.Ghosts T.Denot) → IsSync R → IsSync G
    → IsSend (TupleAt ν (ShrRef a α R ∷ ShrRef b β (UInt w32) ∷ ShrRef c γ (UInt w32) ∷ ShrRef d δ (LaneWork.the_row κ μ T R G g h l) ∷ []))
lanes_send ν a b c d α β γ δ κ μ T R G g h l r q =
    declared_send (type_at ν (ShrRef a α R ∷ ShrRef b β (UInt w32) ∷ ShrRef c γ (UInt w32) ∷ ShrRef d δ (LaneWork.the_row κ μ T R G g h l) ∷ [])) (
      ref_send a α R r,
      (
        ref_send b β (UInt w32) (search sendable),
        (
          ref_send c γ (UInt w32) (search sendable),
          (ref_send d δ (LaneWork.the_row κ μ T R G g h l) (lane_work_sync κ μ T R G g h l r q), tt),
        ),
      ),
    )
