-- Natives may go to another thread, and be shared.
use denote.Param.Send.{IsSend, IsSync, sendable}
use Rattle.std.proofs.Crossing.{crosses}
use Rattle.ledger_terms.proofs.expr.Expr.TheLaws.TheKnot.{send-Expr, sync-Expr}
use Rattle.ledger_terms.proofs.stmt.Stmt.TheLaws.TheKnot.{send-Stmt, sync-Stmt}
use Rattle.ledger_terms.proofs.list.ListOf.TheSendSync as list
use Rattle.ledger_terms.proofs.name.Name.TheSendSync as name
use Rattle.ledger_terms.proofs.kind.Kind.TheSendSync as kind
use Rattle.ledger_terms.proofs.field_decl.FieldDecl.TheSendSync as field_decl
use Rattle.ledger_terms.proofs.text.Text.TheSendSync as text
use Rattle.ledger_terms.proofs.value.Value.TheSendSync as value
use Rattle.ledger_terms.proofs.hash.Hash.TheSendSync as hash
use Rattle.ledger_terms.proofs.party_set.PartySet.TheSendSync as party_set
use Rattle.ledger_terms.proofs.template_name.TemplateName.TheSendSync as template_name
use Rattle.ledger_terms.specs.contracts.choice.Choice as Choice
use Rattle.native_choice.specs.contracts.flash_native.FlashNative as FlashNative

ruleset of_terms_sent = (sendable, crosses, list.the_send, name.the_send, kind.the_send, kind.the_field_send, field_decl.the_send, field_decl.the_field_send, text.the_send, value.the_send, value.the_field_send, hash.the_send, party_set.the_send, template_name.the_send, template_name.the_field_send)

ruleset of_terms_shared = (sendable, crosses, list.the_sync, name.the_sync, kind.the_sync, kind.the_field_sync, field_decl.the_sync, field_decl.the_field_sync, text.the_sync, value.the_sync, value.the_field_sync, hash.the_sync, party_set.the_sync, template_name.the_sync, template_name.the_field_sync)

pub choice_send : IsSend Choice.the_row
choice_send = search (of_terms_sent, send-Expr, send-Stmt) depth 40 fits 10000

pub choice_sync : IsSync Choice.the_row
choice_sync = search (of_terms_shared, sync-Expr, sync-Stmt) depth 40 fits 10000

pub flash_native_send : IsSend FlashNative.the_row
flash_native_send = search (sendable, crosses, choice_send) depth 40 fits 10000

pub flash_native_sync : IsSync FlashNative.the_row
flash_native_sync = search (sendable, crosses, choice_sync) depth 40 fits 10000
