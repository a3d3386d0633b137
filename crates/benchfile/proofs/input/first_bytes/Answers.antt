use Rattle.benchfile.proofs.Inputs.{taken, same_verdict}
use Rattle.benchfile.proofs.input.first_bytes.Goals as goal

pub returns-clause-bytes : goal.returns-clause-bytes
returns-clause-bytes g c = taken _ _ _ _ c.new-bytes.ensures.items (rw (c.take.ensures.limit, c.take.ensures.inner) at c.in_ok-read_to_end.ensures.bytes)

pub returns-clause-verdict : goal.returns-clause-verdict
returns-clause-verdict g c enough = same_verdict _ _ _ enough (taken _ _ _ _ c.new-bytes.ensures.items (rw (c.take.ensures.limit, c.take.ensures.inner) at c.in_ok-read_to_end.ensures.bytes))
