use Rattle.std.proofs.Common.{◌≡◌, ◌<◌, ◌^◌, drop}
use Rattle.commands.specs.Numbers.{number_in}
use Rattle.commands.proofs.Digits.{number_after}
use Rattle.commands.proofs.numbers.digits.Given as goal

abbrev pub invariant-loop-character : goal.invariant-loop-character
invariant-loop-character l = (l.number < 2 ^ 32) × (number_in l.base l.text ≡ number_after l.base l.number (drop l.character-index l.text))
