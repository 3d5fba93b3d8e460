use Rattle.std.proofs.Common.{sym, ap, ◌∙◌}
use Rattle.ledger_terms.specs.Hosting.{confirms_at}
use Rattle.framed_form.specs.FramedForm.{outline_of}
use Rattle.proto_model.specs.Notices.{confirmed_among}
use Rattle.proto_model.proofs.Noticed.{confirmed_is, recipient_is, seen_is}
use Rattle.proto_model.proofs.notice.read_notice.Goals as goal

pub returns-clause-none : goal.returns-clause-none
returns-clause-none c =
    λ packages.
    recipient_is c.args.topology.now packages c.args.me c.args.request.now c.in_ok-seen.seen (c.in_ok-seen.ensures (outline_of c.args.request.now) c.requires.views)
    c.is_recipient.result c.is_recipient.ensures ∙ c.if-is_recipient.false

pub returns-then-is_recipient-clause-some : goal.returns-then-is_recipient-clause-some
returns-then-is_recipient-clause-some c =
    λ packages.
    recipient_is c.args.topology.now packages c.args.me c.args.request.now c.in_ok-seen.seen (c.in_ok-seen.ensures (outline_of c.args.request.now) c.requires.views)
    c.is_recipient.result c.is_recipient.ensures ∙ c.if-is_recipient.true

pub returns-then-is_recipient-clause-notice : goal.returns-then-is_recipient-clause-notice
returns-then-is_recipient-clause-notice c =
    λ packages. record {
      root = c.requires.root;
      seen = c.in_ok-seen.ensures (outline_of c.args.request.now) c.requires.views ∙ sym (seen_is c.args.topology.now packages c.args.me c.args.request.now);
      confirmed = c.in_ok-confirmed.ensures
          ∙ (ap (confirmed_among (confirms_at c.args.topology.now.hosts c.args.me)) c.requires.views
          ∙ sym (confirmed_is c.args.topology.now packages c.args.me c.args.request.now));
      offered = c.in_ok-offered.ensures;
    }
