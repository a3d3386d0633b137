-- What stands of a bench after n instructions, counted from the answers of its calls: the law between the bench and RV32I by whole instructions.
use Rattle.std.specs.Prelude.{◌≡◌, ℕ, zero, suc, ◌+◌, ◌-◌, ◌*◌, ◌/◌, ◌%◌, ◌^◌, ◌<◌, ◌≤◌, Bool, true, false, cond, nat_lt, min, length, Some, Ok, Err, Result}
use Rattle.alu.specs.Loads.{loaded_of}
use Rattle.alu.specs.declared.loads.Load.TheVariants.{ByteUnsigned}
use Rattle.arch1.specs.Owes.{Owes}
use Rattle.arch1.specs.Refinement.{NamesPhases}
use Rattle.arch1.specs.declared.phase.CoreFault.{CoreFault}
use Rattle.arch1.specs.declared.phase.Phase.TheVariants.{T0}
use Rattle.arch1.specs.declared.phase.Ticked.{Ticked}
use Rattle.machine.specs.Machine.{Arch, x, Step, went, cannot, stepped, fetched_word, Run, after, long}
use Rattle.memory.specs.Meaning.{read_of}
use Rattle.memory.specs.declared.fault.MemoryFault.{MemoryFault}
use Rattle.memory.specs.declared.interfaces.ReadMemory.{Ghosts}
use Rattle.memory.specs.declared.kind.Kind.{Kind}
use Rattle.registers.specs.declared.file.RegisterFile.{RegisterFile}
use Rattle.bench.specs.Calls.{open_clocks, new_state, tick_answer, ticked_state, step_answer, stepped_state, run_answer, ran_state, back_answer, back_state}
use Rattle.bench.specs.State.{State}
use Rattle.bench.specs.declared.answers.BackFault.{BackFault}
use Rattle.bench.specs.declared.answers.RunFault.{RunFault}
use Rattle.bench.specs.declared.answers.Stepped.{Stepped}
use Rattle.bench.specs.declared.answers.Stop.{Stop}
use Rattle.bench.specs.declared.answers.Stop.TheVariants as stop
use Rattle.bench.specs.declared.look.Look.{Look}
use Rattle.bench.specs.declared.look.Look.TheVariants as look
use Rattle.bench.specs.declared.look.LookFault.{LookFault}
use Rattle.bench.specs.declared.look.LookFault.TheVariants.{NoRegister, Memory}

-- what a new bench is made of: the kinds of the words, and PC, registers and words; a word has 32 bits
pub record Start : Type 0 where
  pub kinds : ℕ → Kind
  pub arch : Arch
  pub fits : (k : ℕ) → arch.words k < 2 ^ 32

abbrev pub start_of : (K : ℕ → Kind) (W : ℕ → ℕ) → ((k : ℕ) → W k < 2 ^ 32) → RegisterFile → ℕ → Start
start_of K W fits rs p = record { kinds = K; arch = record { pc = p; registers = rs; words = W }; fits = fits }

-- of a new bench over a memory with this meaning
abbrev pub start_over : {M : Type 0} → Ghosts M → M → RegisterFile → ℕ → Start
start_over m memory rs p = start_of (m.kinds memory) (m.words memory) (m.fits memory) rs p

-- a step tried next is refused exactly where the next instruction, at a, cannot be carried out, with its address and first cause;
-- else it answers the instruction's address, its word and its clocks
abbrev pub Next : (ℕ → Kind) → Arch → Step → Result Stepped CoreFault → Type 0
Next K a (went b k) (Ok x) = (x.address ≡ a.pc) × (fetched_word K a ≡ Ok x.word) × (x.clocks ≡ 3 + long k)
Next K a (went b k) (Err f) = ⊥
Next K a (cannot c) (Ok x) = ⊥
Next K a (cannot c) (Err f) = (f.address ≡ a.pc) × (f.cause ≡ c)

-- n instructions of RV32I stand from s, and the bench is in the state t
pub record Stands (s : Start) (n : ℕ) (t : State) : Type 0 where
  -- where the machine comes to in n steps, each carried out
  pub come : Run
  pub there : after s.kinds s.arch n ≡ Some come
  -- registers and all bytes are the machine's, and between instructions PC is too; of the open instruction the core has
  -- what the machine reads for it
  pub kinds : t.kinds ≡ s.kinds
  pub registers : t.core.registers ≡ come.arch.registers
  pub words : t.words ≡ come.arch.words
  pub pc : t.core.phase ≡ T0 → t.core.pc ≡ come.arch.pc
  pub owed : Owes s.kinds come.arch (open_clocks t) t.core
  -- three clocks for each, one more for each load and branch among them, and those of the open instruction
  pub clocks : t.clocks ≡ (3 * n + come.longs + open_clocks t) % 2 ^ 64
  pub retired : t.retired ≡ n % 2 ^ 64
  pub next : Next s.kinds come.arch (stepped s.kinds come.arch) (step_answer t)

-- the instructions that stand after an answer, of n before it
abbrev pub tick_count : ℕ → Result Ticked CoreFault → ℕ
tick_count n (Ok t) = cond t.retired (suc n) n
tick_count n (Err f) = n

abbrev pub step_count : ℕ → Result Stepped CoreFault → ℕ
step_count n (Ok x) = suc n
step_count n (Err f) = n

-- how many steps a run has done
abbrev pub steps_done : Result ℕ RunFault → ℕ
steps_done (Ok k) = k
steps_done (Err f) = f.done

abbrev pub run_count : ℕ → Result ℕ RunFault → ℕ
run_count n r = n + steps_done r

abbrev pub back_count : ℕ → Result ℕ BackFault → ℕ
back_count n (Ok k) = n - k
back_count n (Err f) = n

-- how many instructions an answer of back takes back
abbrev pub taken_back : Result ℕ BackFault → ℕ
taken_back (Ok k) = k
taken_back (Err f) = 0

-- some calls on a new bench of s left it in the state t, and by their answers n instructions stand
pub data Reached (s : Start) : ℕ → State → Type 0 where
  fresh : Reached s 0 (new_state s.kinds s.arch.words s.arch.registers s.arch.pc)
  ticked : (n : ℕ) (t : State) → Reached s n t → Reached s (tick_count n (tick_answer t)) (ticked_state t)
  did_step : (n : ℕ) (t : State) → Reached s n t → Reached s (step_count n (step_answer t)) (stepped_state t)
  did_run : (n m : ℕ) (t : State) → Reached s n t → Reached s (run_count n (run_answer m t)) (ran_state m t)
  went_back : (n : ℕ) (t : State) → Reached s n t → Reached s (back_count n (back_answer t)) (back_state t)

-- a call from t to u moves the instructions that stand by this count: whatever calls came before it, the law stands after it
pub record Kept (count : ℕ → ℕ) (t u : State) : Type 0 where
  pub reached : (s : Start) (n : ℕ) → Reached s n t → Reached s (count n) u
  pub stands : (s : Start) (n : ℕ) → Reached s n t → Stands s (count n) u

-- from t no more instructions than stand are taken back, so that the count does not stop short at 0
abbrev pub Stood : ℕ → State → Type 0
Stood k t = (s : Start) (n : ℕ) → Reached s n t → k ≤ n

-- whatever calls came before on a new bench, P holds of where the machine is after the instructions that stand, their count moved so
abbrev pub Brings : (ℕ → ℕ) → ((ℕ → Kind) → ℕ → Run → Type 0) → State → Type 0
Brings count P t = (s : Start) (n : ℕ) → Reached s n t → (come : Run) × (after s.kinds s.arch (count n) ≡ Some come) × P s.kinds (count n) come

-- how many instructions the journal holds, which can be taken back
abbrev pub depth : State → ℕ
depth t = length t.journal

-- how many after one more has retired, and after k more: the newest 256 at most
abbrev pub deeper : ℕ → ℕ
deeper d = min 256 (suc d)

abbrev pub deeper_by : ℕ → ℕ → ℕ
deeper_by zero d = d
deeper_by (suc k) d = deeper (deeper_by k d)

-- a clock of the instruction whose step is this: it leaves the instruction open, one clock further,
-- or it is the last of its clocks, of a step that can be carried out, and then none is open and the journal has one more
abbrev pub Advances : Step → State → State → Bool → Type 0
Advances st t u false = (open_clocks u ≡ suc (open_clocks t)) × (depth u ≡ depth t)
Advances (went b k) t u true = (suc (open_clocks t) ≡ 3 + long k) × (open_clocks u ≡ 0) × (depth u ≡ deeper (depth t))
Advances (cannot c) t u true = ⊥

-- a clock of the instruction at a: it is refused only if the step cannot be carried out, for the first cause, and then none is open
abbrev pub Ticks : Arch → Step → Result Ticked CoreFault → State → State → Type 0
Ticks a st (Ok x) t u = Advances st t u x.retired
Ticks a (went b k) (Err f) t u = ⊥
Ticks a (cannot c) (Err f) t u = (f.address ≡ a.pc) × (f.cause ≡ c) × (open_clocks u ≡ 0) × (depth u ≡ depth t)

-- a step leaves none open, and it can be taken back if it was made
abbrev pub Closes : Result Stepped CoreFault → State → State → Type 0
Closes (Ok x) t u = (open_clocks u ≡ 0) × (depth u ≡ deeper (depth t))
Closes (Err f) t u = (open_clocks u ≡ 0) × (depth u ≡ depth t)

-- a run of m steps that stopped before its last, where the next instruction is the one at a: that one cannot be carried out,
-- or m is above 1,000,000, and then no step was done and nothing has changed
abbrev pub Stops : ℕ → Arch → Step → ℕ → Stop → State → State → Type 0
Stops m a st done stop.TooMany t u = (1000000 < m) × (done ≡ 0) × (u ≡ t)
Stops m a (went b k) done (stop.Core f) t u = ⊥
Stops m a (cannot c) done (stop.Core f) t u = (m ≤ 1000000) × (done < m) × (f.address ≡ a.pc) × (f.cause ≡ c) × (open_clocks u ≡ 0)

-- after k steps none is open; after no step nothing has changed
abbrev pub Settles : ℕ → State → State → Type 0
Settles zero t u = u ≡ t
Settles (suc k) t u = open_clocks u ≡ 0

abbrev pub Ends : ℕ → Arch → Step → Result ℕ RunFault → State → State → Type 0
Ends m a st (Ok k) t u = (k ≡ m) × (m ≤ 1000000) × Settles k t u
Ends m a st (Err f) t u = Stops m a st f.done f.stop t u

-- a way back drops an open instruction, and else takes the newest of the journal; it declines, and changes nothing, only if none is open
-- and the journal is empty
abbrev pub GoesBack : Result ℕ BackFault → State → State → Type 0
GoesBack (Ok k) t u = (k ≡ cond (nat_lt 0 (open_clocks t)) 0 1) × (open_clocks u ≡ 0) × (depth u + k ≡ depth t)
GoesBack (Err f) t u = (open_clocks t ≡ 0) × (depth t ≡ 0) × (u ≡ t)

-- by the answer of each call
unfoldable pub TickKept : Result Ticked CoreFault → State → State → Type 0
TickKept r t u =
    Kept (λ n. tick_count n r) t u × NamesPhases r t.core u.core × Brings (λ n. n) (λ K n come. Ticks come.arch (stepped K come.arch) r t u) t

unfoldable pub StepKept : Result Stepped CoreFault → State → State → Type 0
StepKept r t u =
    Kept (λ n. step_count n r) t u × Brings (λ n. n) (λ K n come. Next K come.arch (stepped K come.arch) r × Closes r t u) t

unfoldable pub RunKept : ℕ → Result ℕ RunFault → State → State → Type 0
RunKept m r t u =
    Kept (λ n. run_count n r) t u
    × Brings (λ n. run_count n r) (λ K n come. Ends m come.arch (stepped K come.arch) r t u × (depth u ≡ deeper_by (steps_done r) (depth t))) t

unfoldable pub BackKept : Result ℕ BackFault → State → State → Type 0
BackKept r t u = Kept (λ n. back_count n r) t u × Stood (taken_back r) t × GoesBack r t u

-- a new bench of s
pub record Begins (s : Start) (t : State) : Type 0 where
  pub reached : Reached s 0 t
  pub stands : Stands s 0 t

-- a new bench over a memory with this meaning
unfoldable pub BeginsOver : {M : Type 0} → Ghosts M → M → RegisterFile → ℕ → State → Type 0
BeginsOver m memory rs p t = Begins (start_over m memory rs p) t

-- the byte that LBU would load from an address, of the word there
abbrev pub byte_loaded : ℕ → Result ℕ MemoryFault → Result ℕ LookFault
byte_loaded address (Ok word) = Ok (loaded_of ByteUnsigned word address)
byte_loaded address (Err f) = Err (Memory f)

-- the answer of a look is that of the machine where n instructions brought it to: a register, a byte, between instructions PC, and the counters;
-- and how many instructions can be taken back. Of what it shows of the open instruction nothing is said here
abbrev pub ShownBy : (ℕ → Kind) → Run → ℕ → State → Look → Result ℕ LookFault → Type 0
ShownBy K come n t (look.Register k) a = a ≡ cond (nat_lt 31 k) (Err NoRegister) (Ok (x come.arch k))
ShownBy K come n t (look.Byte address) a = a ≡ byte_loaded address (read_of (address / 4) (K (address / 4)) (come.arch.words (address / 4)))
ShownBy K come n t look.Pc a = t.core.phase ≡ T0 → a ≡ Ok come.arch.pc
ShownBy K come n t look.Clocks a = a ≡ Ok ((3 * n + come.longs + open_clocks t) % 2 ^ 64)
ShownBy K come n t look.Retired a = a ≡ Ok (n % 2 ^ 64)
ShownBy K come n t look.Journal a = a ≡ Ok (depth t)
ShownBy K come n t _ a = Unit {0}

-- whatever calls came before on a new bench, a look shows what the instructions that stand came to
unfoldable pub Shows : Look → Result ℕ LookFault → State → Type 0
Shows at a t = Brings (λ n. n) (λ K n come. ShownBy K come n t at a) t
