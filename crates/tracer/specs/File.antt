-- What `trace` or `run` prints for what an input says as a bench file.
use Rattle.std.specs.Prelude.{ℕ, ◌/◌, List, replicate, Ok, Err, Result}
use Rattle.benchfile.specs.declared.refusals.Refusal.{Refusal}
use Rattle.benchfile.specs.Format.{Contents}
use Rattle.benchfile.specs.Refusals.{number_of}
use Rattle.layers.specs.Placed.{placed_kinds, placed_words}
use Rattle.machine.specs.Machine.{Arch}
use Rattle.memory.specs.declared.kind.Kind.{Kind}
use Rattle.memory.specs.declared.kind.Kind.TheVariants.{Open}
use Rattle.report.specs.Lines.{refused_of}
use Rattle.stores.specs.Layout.{kind_in_layout, word_in}
use Rattle.tracer.specs.Trace.{starts, trace_of, last_line_of}
use Rattle.tracer.specs.declared.file.Part.{Part}
use Rattle.tracer.specs.declared.file.Part.TheVariants.{Whole, LastLine}

-- the memory with the file's image at its base address: the kinds of its words
abbrev pub kinds_of : Contents → ℕ → Kind
kinds_of file = placed_kinds (file.base / 4) (kind_in_layout Open file.image)

-- the machine with its words, at its start, with all registers zero
abbrev pub machine_of : Contents → Arch
machine_of file = starts file.start (replicate 32 0) (placed_words (file.base / 4) (word_in file.image))

-- so much of the trace of a machine
abbrev pub part_of : Part → (ℕ → Kind) → ℕ → Arch → List ℕ
part_of Whole K limit a = trace_of K limit a
part_of LastLine K limit a = last_line_of K limit a

-- so much of the trace of a file up to its limit, or the refusal's number
abbrev pub shown : Part → Result Contents Refusal → List ℕ
shown part (Ok file) = part_of part (kinds_of file) file.limit (machine_of file)
shown part (Err refusal) = refused_of (number_of refusal)
