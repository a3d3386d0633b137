use Rattle.conversation.proofs.file.open.Goals as goal

pub returns-clause-sent : goal.returns-clause-sent
returns-clause-sent g c = let sent = c.converse.ensures.sent in rw c.in_ok-bench.ensures at sent

pub returns-clause-left : goal.returns-clause-left
returns-clause-left g c = let left = c.converse.ensures.left in rw c.in_ok-bench.ensures at left
