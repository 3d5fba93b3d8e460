use Rattle.std.proofs.Common.{sym}
use Rattle.commitment_text.proofs.Asking.{none_asked, one_asked}
use Rattle.commitment_text.proofs.whole.push_asked.Goals as goal

pub returns-in_ok-push : goal.returns-in_ok-push
returns-in_ok-push c =
    one_asked c.args.at c.args.host.now c.in-Some.node.now _ _ _ _ (sym c.in-Some.ensures) c.in_ok-push.ensures.items c.in_ok-new.ensures

pub returns-in_default : goal.returns-in_default
returns-in_default c = none_asked c.args.at c.args.host.now _ _ (sym c.in_default.ensures)
