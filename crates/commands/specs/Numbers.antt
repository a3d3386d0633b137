-- Numbers, as commands and arguments write them.
use Rattle.std.specs.Prelude.{ℕ, ◌^◌, Bool, ◌&&◌, List, length, drop, Some, None, Option, codes, nat_lt, if◌then◌else◌}
use Rattle.std.specs.Char.{is_digit}
use Rattle.std.specs.List.{list_all}
use Rattle.std.specs.Str.Parse.{digits_value}
use Rattle.commands.specs.Texts.{begins}

-- digits of the base and nothing else, at least one; letters are digits in either case
abbrev pub is_numeral : ℕ → List ℕ → Bool
is_numeral base text = nat_lt 0 (length text) && list_all (λ c. is_digit c base) text

-- the number that a text writes in a base, if it is a numeral of at most 32 bits
unfoldable pub number_in : ℕ → List ℕ → Option ℕ
number_in base text = if is_numeral base text && nat_lt (digits_value base text) (2 ^ 32) then Some (digits_value base text) else None

-- decimal, or hexadecimal after a lower-case 0x
abbrev pub number_of : List ℕ → Option ℕ
number_of text = if begins text (codes "0x") then number_in 16 (drop 2 text) else number_in 10 text
