use Rattle.std.proofs.Common.{◌≡◌, true, option_map, Option}
use Rattle.lang_eval.specs.Found.{Packages}
use Rattle.framed_form.specs.Framed.{is_framed}
use Rattle.framed_form.specs.FramedReading.{framed_reading}
use Rattle.whole_request.specs.Completes.{transaction}
use Rattle.whole_request.specs.declared.whole_transaction.WholeTransaction.{WholeTransaction}
use Rattle.log_judge.proofs.Knowing.{if_ok_map}
use Rattle.log_audit.proofs.inboxes.InboxesParticipants.whole.Goals as goal

pub returns : goal.returns
returns c =
    let setup = c.args.self.now.setup.now in
    let q = c.args.request.now in
    if_ok_map c.whole_of.result
    (λ (o : Option WholeTransaction). (packages : Packages) → is_framed setup.topology q ≡ true
    → option_map transaction o ≡ (framed_reading setup.topology packages).whole q)
    (λ (o : Option WholeTransaction). is_framed setup.topology q ≡ true
    → option_map transaction o ≡ (framed_reading setup.topology setup.checked).whole q)
    c.whole_of.ensures (λ o h. h setup.checked)
