-- The lines of a program that does not start. Byte 10 ends each.
use Rattle.std.specs.Prelude.{ℕ, List, ◌++◌, codes}

-- how the program of this name is called
abbrev pub usage_of : List ℕ → List ℕ
usage_of program = codes "usage: " ++ (program ++ codes " FILE [--shield FROM TO] [--ram AT WORDS]\n")

-- the path of a file that cannot be read
abbrev pub unreadable_of : List ℕ → List ℕ
unreadable_of path = codes "cannot read " ++ (path ++ codes "\n")
