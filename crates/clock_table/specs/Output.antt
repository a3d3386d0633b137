-- What `clocks` prints for what an input says as a bench file.
use Rattle.std.specs.Prelude.{ℕ, ◌/◌, List, replicate, Ok, Err, Result}
use Rattle.benchfile.specs.declared.refusals.Refusal.{Refusal}
use Rattle.benchfile.specs.Format.{Contents}
use Rattle.benchfile.specs.Refusals.{number_of}
use Rattle.layers.specs.Placed.{placed_kinds, placed_words}
use Rattle.memory.specs.declared.kind.Kind.{Kind}
use Rattle.memory.specs.declared.kind.Kind.TheVariants.{Open}
use Rattle.registers.specs.declared.file.RegisterFile.{RegisterFile}
use Rattle.report.specs.Lines.{refused_of}
use Rattle.stores.specs.Layout.{kind_in_layout, word_in}
use Rattle.arch1.specs.Clock.{idle}
use Rattle.arch1.specs.Refinement.{Rig, rig}
use Rattle.clock_table.specs.Shown.{shown}

-- all registers are zero
abbrev pub cleared : RegisterFile
cleared = replicate 32 0

-- the kinds and the words of a memory with this image at its base address
abbrev pub kinds_at : ℕ → List ℕ → ℕ → Kind
kinds_at base image = placed_kinds (base / 4) (kind_in_layout Open image)

abbrev pub words_at : ℕ → List ℕ → ℕ → ℕ
words_at base image = placed_words (base / 4) (word_in image)

-- a core that starts there
abbrev pub start_at : ℕ → ℕ → List ℕ → Rig
start_at start base image = rig (idle cleared start) (words_at base image)

-- the first 64 clocks of the image at its base, or the refusal's number
abbrev pub printed : Result Contents Refusal → List ℕ
printed (Ok file) = shown (kinds_at file.base file.image) 64 file.limit (start_at file.start file.base file.image)
printed (Err refusal) = refused_of (number_of refusal)
