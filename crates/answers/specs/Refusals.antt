-- How refusals are told, without a line's end.
use Rattle.std.specs.Prelude.{ℕ, List, ◌++◌, codes, decimal}
use Rattle.assembly.specs.Hexadecimal.{eight_digits}
use Rattle.machine.specs.Causes.{number_of}
use Rattle.machine.specs.declared.cause.Cause.{Cause}
use Rattle.machine.specs.declared.cause.Cause.TheVariants as cause
use Rattle.arch1.specs.Phases.{phase_number}
use Rattle.arch1.specs.declared.phase.CoreFault.{CoreFault}
use Rattle.bench.specs.Looks.{look_number}
use Rattle.bench.specs.Numbers.{stop_number}
use Rattle.bench.specs.declared.answers.RunFault.{RunFault}
use Rattle.bench.specs.declared.answers.Stop.{Stop}
use Rattle.bench.specs.declared.answers.Stop.TheVariants as stop
use Rattle.bench.specs.declared.look.LookFault.{LookFault}
use Rattle.bench.specs.declared.look.LookFault.TheVariants as look

-- the number of a refusal
abbrev pub refused : ℕ → List ℕ
refused number = codes "refused " ++ decimal number

-- the word number that a memory was given
abbrev pub word_number : ℕ → List ℕ
word_number word = codes " word " ++ decimal word

-- the same where the memory refused, and nothing where the core did
abbrev pub word_given : Cause → List ℕ
word_given cause.UnalignedPc = codes ""
word_given cause.NoInstruction = codes ""
word_given cause.UnalignedAddress = codes ""
word_given (cause.Memory fault) = word_number fault.word

-- a refused clock: its phase, the address of the instruction, and the word number if the memory refused
abbrev pub core_refusal : CoreFault → List ℕ
core_refusal f = refused (number_of f.cause) ++ (codes " phase " ++ (decimal (phase_number f.phase) ++ (codes " at " ++ (eight_digits f.address ++ word_given f.cause))))

-- a run that stopped, and how many steps were done before; one that did not begin has its number alone
abbrev pub stopped : ℕ → Stop → List ℕ
stopped done (stop.Core f) = core_refusal f ++ (codes " after " ++ (decimal done ++ codes " steps"))
stopped done stop.TooMany = refused (stop_number stop.TooMany)

abbrev pub run_refusal : RunFault → List ℕ
run_refusal f = stopped f.done f.stop

-- a refused look: of a byte with the word number
abbrev pub look_refusal : LookFault → List ℕ
look_refusal look.NoRegister = refused (look_number look.NoRegister)
look_refusal (look.Memory fault) = refused (look_number (look.Memory fault)) ++ word_number fault.word
