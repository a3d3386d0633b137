-- What a clock of the core answers and leaves.
use Rattle.std.specs.Prelude.{ℕ, true, false, cond, Some, None, Ok, Err, Option, Result}
use Rattle.machine.specs.declared.cause.Cause.{Cause}
use Rattle.memory.specs.declared.kind.Kind.{Kind}
use Rattle.processor.specs.Accesses.{replied, words_after, suits}
use Rattle.processor.specs.Clocks.{Beat, on, retired, refused}
use Rattle.processor.specs.declared.access.Reply.{Reply}
use Rattle.registers.specs.declared.file.RegisterFile.{RegisterFile}
use Rattle.arch1.specs.Transfers.{Outcome, goes, retires, refuses, transfer, access_of}
use Rattle.arch1.specs.Datapath.{Datapath}
use Rattle.arch1.specs.declared.phase.Phase.{Phase}
use Rattle.arch1.specs.declared.phase.Phase.TheVariants.{T0, T1, T2, T3}
use Rattle.arch1.specs.declared.phase.Ticked.{Ticked}
use Rattle.arch1.specs.declared.phase.CoreFault.{CoreFault}

-- a core with these registers and this PC, none open
abbrev pub idle : RegisterFile → ℕ → Datapath
idle rs p = record { registers = rs; pc = p; tr = 0; ir = 0; dr = 0; ar = 0; flg = false; phase = T0 }

-- the address of the open instruction, or of the next one
abbrev pub address_by : Datapath → Phase → ℕ
address_by c T0 = c.pc
address_by c T1 = c.tr
address_by c T2 = c.tr
address_by c T3 = c.tr

abbrev pub address_of : Datapath → ℕ
address_of c = address_by c c.phase

-- a refused clock drops the open instruction
abbrev pub dropped : Datapath → Datapath
dropped c = idle c.registers (address_of c)

-- by the table alone: on a refusal nothing has changed yet
abbrev pub moved : Datapath → Outcome → Datapath
moved c (goes d) = d
moved c (retires d) = d
moved c (refuses e) = c

abbrev pub told : Outcome → Result Ticked Cause
told (goes d) = Ok (record { next = d.phase; retired = false })
told (retires d) = Ok (record { next = d.phase; retired = true })
told (refuses e) = Err e

-- with the refusal carried through
abbrev pub settled : Datapath → Outcome → Datapath
settled c (goes d) = d
settled c (retires d) = d
settled c (refuses e) = dropped c

abbrev pub answered : Datapath → Outcome → Result Ticked CoreFault
answered c (goes d) = Ok (record { next = d.phase; retired = false })
answered c (retires d) = Ok (record { next = d.phase; retired = true })
answered c (refuses e) = Err (record { phase = c.phase; address = address_of c; cause = e })

-- what an answer says of the instruction
abbrev pub beat_of : Result Ticked CoreFault → Beat
beat_of (Ok t) = cond t.retired retired on
beat_of (Err f) = refused f.cause f.address

-- a reply that is none to the access changes nothing, and says so
abbrev pub clock_answer : Datapath → Reply → Option (Result Ticked CoreFault)
clock_answer c r = cond (suits (access_of c) r) (Some (answered c (transfer c r))) None

abbrev pub clocked_core : Datapath → Reply → Datapath
clocked_core c r = cond (suits (access_of c) r) (settled c (transfer c r)) c

-- a clock over a memory of the kinds K and the words W
abbrev pub outcome_of : (ℕ → Kind) → (ℕ → ℕ) → Datapath → Outcome
outcome_of K W c = transfer c (replied K W (access_of c))

abbrev pub tick_answer : (ℕ → Kind) → (ℕ → ℕ) → Datapath → Result Ticked CoreFault
tick_answer K W c = answered c (outcome_of K W c)

abbrev pub ticked_core : (ℕ → Kind) → (ℕ → ℕ) → Datapath → Datapath
ticked_core K W c = settled c (outcome_of K W c)

abbrev pub ticked_words : (ℕ → Kind) → (ℕ → ℕ) → Datapath → ℕ → ℕ
ticked_words K W c = words_after K W (access_of c)
