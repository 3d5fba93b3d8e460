use Rattle.node_inbox.proofs.AddedIds.{put_among}
use Rattle.node_inbox.proofs.added_ids.put_if.Goals as goal

pub returns-in_ok-insert : goal.returns-in_ok-insert
returns-in_ok-insert c = rw (c.if-wanted.true) (put_among c.args.changed.now c.insert.new.self c.args.id _ (c.in_ok-insert.ensures.updates).0)
