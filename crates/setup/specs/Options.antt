-- What arguments say as options: how they are read, and the table of what they can say.
use Rattle.std.specs.Prelude.{ℕ, ◌≤◌, ◌&&◌, List, [], ◌∷◌, ◌++◌, Some, None, Option, codes, nat_le, if◌then◌else◌}
use Rattle.std.specs.Option.{option_map, option_and_then}
use Rattle.std.specs.Str.{bytes_eq}
use Rattle.commands.specs.Numbers.{number_of}
use Rattle.commands.specs.Table.{Number}
use Rattle.setup.specs.declared.options.Options.{Options}
use Rattle.setup.specs.declared.options.Ram.{Ram as RamWords}
use Rattle.setup.specs.declared.options.Setting.{Setting}
use Rattle.setup.specs.declared.options.WordRange.{WordRange}
use Rattle.setup.specs.declared.options.Setting.TheVariants.{Shield, Ram}

-- `--shield FROM TO` or `--ram AT WORDS`, of at most 65,536 words, by its two numbers
abbrev pub setting_named : List ℕ → ℕ → ℕ → Option Setting
setting_named name first second =
    if bytes_eq name (codes "--shield") then Some (Shield (record { from = first; to = second }))
    else if bytes_eq name (codes "--ram") && nat_le second 65536 then Some (Ram (record { at = first; words = second }))
    else None

abbrev pub setting_of : List ℕ → List ℕ → List ℕ → Option Setting
setting_of name first second = option_and_then (λ a. option_and_then (setting_named name a) (number_of second)) (number_of first)

-- one option alone
abbrev pub alone : Setting → Options
alone (Shield s) = record { shield = Some s; ram = None }
alone (Ram r) = record { shield = None; ram = Some r }

-- two options, in either order, one of each kind
abbrev pub together : Setting → Setting → Option Options
together (Shield s) (Shield t) = None
together (Shield s) (Ram r) = Some (record { shield = Some s; ram = Some r })
together (Ram r) (Shield s) = Some (record { shield = Some s; ram = Some r })
together (Ram r) (Ram t) = None

-- an option, and the arguments after it
abbrev pub options_with : Setting → List (List ℕ) → Option Options
options_with one [] = Some (alone one)
options_with one (name ∷ first ∷ second ∷ []) = option_and_then (together one) (setting_of name first second)
options_with one _ = None

abbrev pub options_of : List (List ℕ) → Option Options
options_of [] = Some (record { shield = None; ram = None })
options_of (name ∷ first ∷ second ∷ others) = option_and_then (λ one. options_with one others) (setting_of name first second)
options_of _ = None

-- the path of a file, and options after it
pub record Told : Type 0 where
  pub file : List ℕ
  pub options : Options

abbrev pub arguments_of : List (List ℕ) → Option Told
arguments_of [] = None
arguments_of (file ∷ options) = option_map (λ o. record { file = file; options = o }) (options_of options)

-- three arguments set a shield, or a bank of at most 65,536 words
pub data Sets : List (List ℕ) → Setting → Type 0 where
  shield : {from to : List ℕ} {a b : ℕ} → Number from a → Number to b → Sets (codes "--shield" ∷ from ∷ to ∷ []) (Shield (record { from = a; to = b }))
  ram : {at words : List ℕ} {a n : ℕ} → Number at a → Number words n → n ≤ 65536 → Sets (codes "--ram" ∷ at ∷ words ∷ []) (Ram (record { at = a; words = n }))

-- arguments ask for no option, for one, or for both in either order
pub data Asks : List (List ℕ) → Options → Type 0 where
  neither : Asks [] (record { shield = None; ram = None })
  shield : {ws : List (List ℕ)} {s : WordRange} → Sets ws (Shield s) → Asks ws (record { shield = Some s; ram = None })
  ram : {ws : List (List ℕ)} {r : RamWords} → Sets ws (Ram r) → Asks ws (record { shield = None; ram = Some r })
  shield_first : {ws vs : List (List ℕ)} {s : WordRange} {r : RamWords} → Sets ws (Shield s) → Sets vs (Ram r) → Asks (ws ++ vs) (record { shield = Some s; ram = Some r })
  ram_first : {ws vs : List (List ℕ)} {s : WordRange} {r : RamWords} → Sets ws (Ram r) → Sets vs (Shield s) → Asks (ws ++ vs) (record { shield = Some s; ram = Some r })

-- arguments name a file and ask for options
pub data Names : List (List ℕ) → Told → Type 0 where
  named : {file : List ℕ} {options : List (List ℕ)} {o : Options} → Asks options o → Names (file ∷ options) (record { file = file; options = o })
