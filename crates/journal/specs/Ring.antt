-- A journal as the list of its entries, newest first.
use Rattle.std.specs.Prelude.{ℕ, zero, suc, ◌+◌, ◌%◌, List, [], ◌∷◌, slice_index_or}
use Rattle.journal.specs.declared.entry.Entry.{Entry}
use Rattle.journal.specs.declared.ring.Journal.TheInside.{Inside}
use Rattle.journal.specs.Entries.{empty}

-- the places 0 to 255 go round
abbrev pub place_before : ℕ → ℕ
place_before p = (p + 255) % 256

-- the entries at the n places before p, the nearest first
abbrev pub behind : List Entry → ℕ → ℕ → List Entry
behind es p zero = []
behind es p (suc n) = slice_index_or es (place_before p) empty ∷ behind es (place_before p) n

-- the entries of a journal, newest first
abbrev pub listed : Inside → List Entry
listed j = behind j.entries j.next j.held
