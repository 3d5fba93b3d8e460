use Rattle.node_core.proofs.Whole.{has_begun, has_whole, offers_whole, owes_whole, reads_whole, views_whole}
use Rattle.node_core.proofs.laws.participants_have_whole_inboxes.Goals as goal

pub returns : goal.returns
returns c = record { kept = has_whole; has = has_begun; can_read = reads_whole; owed = owes_whole; offered = offers_whole; views = views_whole }
