use Rattle.canton_model.proofs.FoundViews.{found_at}
use Rattle.ledger_model.proofs.Lists.{in_from_Contains}
use Rattle.canton_model.proofs.laws.complete_envelopes_open_what_is_confirmed.Goals as goal

pub returns : goal.returns
returns c reading request p shown path framed is confirmed =
    let opened = (framed.placed p shown is).all_seen path (framed.sees p path confirmed) in
    found_at path shown.views opened.0 (in_from_Contains shown.views opened.0 opened.1) opened.2
