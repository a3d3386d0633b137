-- A bench file under options: the memory of a bench that it makes, and where that bench starts.
use Rattle.std.specs.Prelude.{ℕ, ◌/◌, ◌^◌, ◌<◌, List, replicate}
use Rattle.bench.specs.Law.{Start, start_of}
use Rattle.benchfile.specs.Format.{Contents}
use Rattle.benchfile.specs.declared.file.BenchFile.{BenchFile}
use Rattle.layers.specs.Joined.{joined_fits}
use Rattle.layers.specs.Placed.{placed_fits}
use Rattle.memory.specs.declared.kind.Kind.{Kind}
use Rattle.memory.specs.declared.kind.Kind.TheVariants.{Open}
use Rattle.registers.specs.declared.file.RegisterFile.{RegisterFile}
use Rattle.setup.specs.Map.{bank_from, bank_length, map_kinds, map_words}
use Rattle.setup.specs.declared.options.Options.{Options}
use Rattle.stores.specs.Bank.{bank_kind, bank_word}
use Rattle.stores.specs.ByteLaws.{byte_laws}
use Rattle.stores.specs.Cells.{cells_fit}
use Rattle.stores.specs.Layout.{kind_in_layout, word_in}
use Rattle.stores.specs.WordLaws.{word_laws}

-- what a file that was read says
abbrev pub contents_in : BenchFile → Contents
contents_in f = record { start = f.start; base = f.base; limit = f.limit; image = f.image.now }

-- the words of the bank, all zero
abbrev pub empty_bank : Options → List ℕ
empty_bank o = replicate (bank_length o.ram) 0

-- the kinds and the words of the image at its base, with the shield and the bank of the options
abbrev pub file_kinds : Options → Contents → ℕ → Kind
file_kinds o file = map_kinds o (file.base / 4) (kind_in_layout Open file.image) (bank_kind (empty_bank o))

abbrev pub file_words : Options → Contents → ℕ → ℕ
file_words o file = map_words o (file.base / 4) (word_in file.image) (bank_word (empty_bank o))

pub file_fits : (o : Options) (file : Contents) (k : ℕ) → file_words o file k < 2 ^ 32
file_fits o file = joined_fits (bank_from o.ram) _ _ (placed_fits (file.base / 4) _ (cells_fit byte_laws file.image)) (placed_fits (bank_from o.ram) _ (cells_fit word_laws (empty_bank o)))

-- all registers are zero
abbrev pub cleared : RegisterFile
cleared = replicate 32 0

-- where a bench of the file starts: all registers are zero, and PC is the file's start
abbrev pub start_in : Options → Contents → Start
start_in o file = start_of (file_kinds o file) (file_words o file) (file_fits o file) cleared file.start
