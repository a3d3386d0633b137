-- What a look shows.
use Rattle.std.specs.Prelude.{ℕ, ◌/◌, ◌%◌, cond, length, Ok, Err, Result, nat_lt}
use Rattle.arch1.specs.Phases.{phase_number}
use Rattle.memory.specs.Lanes.{lane}
use Rattle.memory.specs.Meaning.{read_of}
use Rattle.memory.specs.Refusals as memory
use Rattle.memory.specs.declared.fault.MemoryFault.{MemoryFault}
use Rattle.registers.specs.Registers.{value_of}
use Rattle.bench.specs.State.{State}
use Rattle.bench.specs.declared.look.Look.{Look}
use Rattle.bench.specs.declared.look.Look.TheVariants as look
use Rattle.bench.specs.declared.look.LookFault.{LookFault}
use Rattle.bench.specs.declared.look.LookFault.TheVariants.{NoRegister, Memory}

abbrev pub look_number : LookFault → ℕ
look_number NoRegister = 8
look_number (Memory f) = memory.number_of f.cause

-- lane i of a word that was read
abbrev pub lane_of : ℕ → Result ℕ MemoryFault → Result ℕ LookFault
lane_of i (Ok w) = Ok (lane i w)
lane_of i (Err f) = Err (Memory f)

abbrev pub byte_answer : ℕ → State → Result ℕ LookFault
byte_answer address s = lane_of (address % 4) (read_of (address / 4) (s.kinds (address / 4)) (s.words (address / 4)))

abbrev pub look_answer : Look → State → Result ℕ LookFault
look_answer (look.Register n) s = cond (nat_lt 31 n) (Err NoRegister) (Ok (value_of s.core.registers n))
look_answer (look.Byte address) s = byte_answer address s
look_answer look.Pc s = Ok s.core.pc
look_answer look.Tr s = Ok s.core.tr
look_answer look.Ir s = Ok s.core.ir
look_answer look.Dr s = Ok s.core.dr
look_answer look.Ar s = Ok s.core.ar
look_answer look.Flg s = Ok (cond s.core.flg 1 0)
look_answer look.Phase s = Ok (phase_number s.core.phase)
look_answer look.Clocks s = Ok s.clocks
look_answer look.Retired s = Ok s.retired
look_answer look.Journal s = Ok (length s.journal)
