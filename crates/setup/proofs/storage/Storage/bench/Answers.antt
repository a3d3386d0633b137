use Rattle.std.proofs.Common.{◌∙◌}
use Rattle.bench.specs.Calls.{new_state}
use Rattle.setup.specs.Files.{cleared}
use Rattle.setup.proofs.storage.Storage.bench.Goals as goal

-- the memory that was loaded has the kinds and words of the file
pub returns : goal.returns
returns c = let loaded = c.in_ok-memory.ensures in c.fresh.ensures ∙ (λ i. new_state (loaded.kinds i) (loaded.words i) cleared c.args.file.start)
