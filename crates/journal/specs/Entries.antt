-- The entry that is zero throughout, and what a pop is of a list of entries, newest first.
use Rattle.std.specs.Prelude.{List, [], ◌∷◌, Some, None, Option}
use Rattle.journal.specs.declared.entry.Entry.{Entry}

-- also stands for a place that a list does not have
abbrev pub empty : Entry
empty = record { address = 0; word = 0; clocks = 0; overwritten = None }

-- what a pop gives of this list, and what it leaves
abbrev pub popped : List Entry → Option Entry
popped [] = None
popped (e ∷ es) = Some e

abbrev pub remaining : List Entry → List Entry
remaining [] = []
remaining (e ∷ es) = es
