-- How texts begin and end.
use Rattle.std.specs.Prelude.{ℕ, ◌-◌, Bool, List, length, take, drop}
use Rattle.std.specs.Str.{bytes_eq}

-- the text begins with the other
abbrev pub begins : List ℕ → List ℕ → Bool
begins text start = bytes_eq (take (length start) text) start

-- the text ends with the other
abbrev pub ends : List ℕ → List ℕ → Bool
ends text end = bytes_eq (drop (length text - length end) text) end
