-- What arguments that were read say.
use Rattle.std.specs.Prelude.{Option}
use Rattle.std.specs.Option.{option_map}
use Rattle.setup.specs.Options.{Told}
use Rattle.setup.specs.declared.options.Arguments.{Arguments}

abbrev pub arguments_view : Option Arguments → Option Told
arguments_view r = option_map (λ a. record { file = a.file.now; options = a.options }) r
