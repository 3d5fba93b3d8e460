use Rattle.node_inbox.proofs.inbox.Inbox.put_item.Goals as goal

pub tell_again-requires-clause-received : goal.tell_again-requires-clause-received
tell_again-requires-clause-received c = rw c.in-Verdict.is at c.requires.came

pub put_again-requires-clause-came : goal.put_again-requires-clause-came
put_again-requires-clause-came c = rw c.in-Request.is at c.requires.came

pub returns-in-Nothing-clause-ok : goal.returns-in-Nothing-clause-ok
returns-in-Nothing-clause-ok c = rw c.in-Nothing.is c.read_nothing.ensures.ok

pub returns-in-Verdict-clause-ok : goal.returns-in-Verdict-clause-ok
returns-in-Verdict-clause-ok c = rw c.in-Verdict.is c.tell_again.ensures.ok

pub returns-in-Request-clause-ok : goal.returns-in-Request-clause-ok
returns-in-Request-clause-ok c = rw c.in-Request.is c.put_again.ensures.ok
