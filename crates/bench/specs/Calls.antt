-- What each call of a bench answers and leaves.
use Rattle.std.specs.Prelude.{ℕ, zero, suc, ◌+◌, ◌-◌, ◌%◌, ◌^◌, Bool, true, false, cond, List, [], ◌∷◌, take, Some, None, Ok, Err, Option, Result, nat_lt}
use Rattle.arch1.specs.Clock as core
use Rattle.arch1.specs.Datapath.{Datapath}
use Rattle.arch1.specs.Phases.{phase_number}
use Rattle.arch1.specs.declared.phase.CoreFault.{CoreFault}
use Rattle.arch1.specs.declared.phase.Ticked.{Ticked}
use Rattle.journal.specs.Entries.{popped, remaining}
use Rattle.journal.specs.declared.entry.Entry.{Entry}
use Rattle.memory.specs.declared.kind.Kind.{Kind}
use Rattle.registers.specs.declared.file.RegisterFile.{RegisterFile}
use Rattle.bench.specs.Entries.{entry_of, undone_registers, undone_words}
use Rattle.bench.specs.State.{State}
use Rattle.bench.specs.declared.answers.BackFault.{BackFault}
use Rattle.bench.specs.declared.answers.BackFault.TheVariants.{NothingToTakeBack}
use Rattle.bench.specs.declared.answers.RunFault.{RunFault}
use Rattle.bench.specs.declared.answers.Stepped.{Stepped}
use Rattle.bench.specs.declared.answers.Stop.TheVariants as stop

-- the counters count modulo 2 ^ 64
abbrev pub up : ℕ → ℕ → ℕ
up n k = (n + k) % 2 ^ 64

abbrev pub down : ℕ → ℕ → ℕ
down n k = (n + (2 ^ 64 - k)) % 2 ^ 64

-- how many clocks the open instruction has had
abbrev pub open_clocks : State → ℕ
open_clocks s = phase_number s.core.phase

abbrev pub new_state : (ℕ → Kind) → (ℕ → ℕ) → RegisterFile → ℕ → State
new_state K W rs p = record { core = core.idle rs p; journal = []; clocks = 0; retired = 0; kinds = K; words = W }

-- tick: the answer is the core's
abbrev pub tick_answer : State → Result Ticked CoreFault
tick_answer s = core.tick_answer s.kinds s.words s.core

abbrev pub ticked_core : State → Datapath
ticked_core s = core.ticked_core s.kinds s.words s.core

abbrev pub ticked_words : State → ℕ → ℕ
ticked_words s = core.ticked_words s.kinds s.words s.core

abbrev pub entry : State → Entry
entry s = entry_of s.kinds s.words s.core

-- a retired instruction goes into the journal, which keeps the newest 256
abbrev pub journal_by : State → Bool → List Entry
journal_by s true = take 256 (entry s ∷ s.journal)
journal_by s false = s.journal

abbrev pub retired_by : State → Bool → ℕ
retired_by s true = up s.retired 1
retired_by s false = s.retired

-- a refused clock takes the clocks of the instruction off again
abbrev pub ticked_by : State → Result Ticked CoreFault → State
ticked_by s (Ok t) = record {
  core = ticked_core s;
  journal = journal_by s t.retired;
  clocks = up s.clocks 1;
  retired = retired_by s t.retired;
  kinds = s.kinds;
  words = ticked_words s;
}
ticked_by s (Err f) = record {
  core = ticked_core s;
  journal = s.journal;
  clocks = down s.clocks (open_clocks s);
  retired = s.retired;
  kinds = s.kinds;
  words = ticked_words s;
}

abbrev pub ticked_state : State → State
ticked_state s = ticked_by s (tick_answer s)

-- the instruction that a clock retired, as the journal keeps it
abbrev pub advanced_by : State → Result Ticked CoreFault → Result (Option Entry) CoreFault
advanced_by s (Ok t) = Ok (cond t.retired (Some (entry s)) None)
advanced_by s (Err f) = Err f

abbrev pub advanced : State → Result (Option Entry) CoreFault
advanced s = advanced_by s (tick_answer s)

-- step: clocks up to the first that retires an instruction or is refused, at most k and one more
abbrev pub stepped_of : Entry → Stepped
stepped_of e = record { address = e.address; word = e.word; clocks = e.clocks }

abbrev pub last_answer : State → Result Ticked CoreFault → Result Stepped CoreFault
last_answer s (Ok t) = Ok (stepped_of (entry s))
last_answer s (Err f) = Err f

abbrev pub step_answer_on : State → Result Ticked CoreFault → Result Stepped CoreFault → Result Stepped CoreFault
step_answer_on s (Ok t) next = cond t.retired (Ok (stepped_of (entry s))) next
step_answer_on s (Err f) next = Err f

abbrev pub stepped_on : Result Ticked CoreFault → State → State → State
stepped_on (Ok t) s next = cond t.retired s next
stepped_on (Err f) s next = s

unfoldable pub step_answer_for : ℕ → State → Result Stepped CoreFault
step_answer_for zero s = last_answer s (tick_answer s)
step_answer_for (suc k) s = step_answer_on s (tick_answer s) (step_answer_for k (ticked_state s))

unfoldable pub stepped_for : ℕ → State → State
stepped_for zero s = ticked_state s
stepped_for (suc k) s = stepped_on (tick_answer s) (ticked_state s) (stepped_for k (ticked_state s))

abbrev pub step_answer : State → Result Stepped CoreFault
step_answer s = step_answer_for 3 s

abbrev pub stepped_state : State → State
stepped_state s = stepped_for 3 s

-- run: k steps after `done` others, up to the first that is refused
abbrev pub run_answer_on : ℕ → Result Stepped CoreFault → Result ℕ RunFault → Result ℕ RunFault
run_answer_on done (Ok x) next = next
run_answer_on done (Err f) next = Err (record { done = done; stop = stop.Core f })

abbrev pub ran_on : Result Stepped CoreFault → State → State → State
ran_on (Ok x) s next = next
ran_on (Err f) s next = s

unfoldable pub run_answer_for : ℕ → ℕ → State → Result ℕ RunFault
run_answer_for done zero s = Ok done
run_answer_for done (suc k) s = run_answer_on done (step_answer s) (run_answer_for (done + 1) k (stepped_state s))

unfoldable pub ran_for : ℕ → State → State
ran_for zero s = s
ran_for (suc k) s = ran_on (step_answer s) (stepped_state s) (ran_for k (stepped_state s))

-- at most 1,000,000 steps
abbrev pub run_answer : ℕ → State → Result ℕ RunFault
run_answer n s = cond (nat_lt 1000000 n) (Err (record { done = 0; stop = stop.TooMany })) (run_answer_for 0 n s)

abbrev pub ran_state : ℕ → State → State
ran_state n s = cond (nat_lt 1000000 n) s (ran_for n s)

-- back: an open instruction is dropped as by a refused clock
abbrev pub closed_state : State → State
closed_state s = record {
  core = core.dropped s.core;
  journal = s.journal;
  clocks = down s.clocks (open_clocks s);
  retired = s.retired;
  kinds = s.kinds;
  words = s.words;
}

-- an instruction is taken back: registers, bytes, PC and counters as before it
abbrev pub put_back : Entry → State → State
put_back e s = record {
  core = core.idle (undone_registers s.core.registers e.overwritten) e.address;
  journal = s.journal;
  clocks = down s.clocks e.clocks;
  retired = down s.retired 1;
  kinds = s.kinds;
  words = undone_words s.kinds s.words e.overwritten;
}

-- the newest of the journal, if it holds one
abbrev pub took_back : State → Option Entry → State
took_back s None = s
took_back s (Some e) = put_back e (record { core = s.core; journal = remaining s.journal; clocks = s.clocks; retired = s.retired; kinds = s.kinds; words = s.words })

abbrev pub took_answer : Option Entry → Result ℕ BackFault
took_answer None = Err NothingToTakeBack
took_answer (Some e) = Ok 1

abbrev pub back_state : State → State
back_state s = cond (nat_lt 0 (open_clocks s)) (closed_state s) (took_back s (popped s.journal))

abbrev pub back_answer : State → Result ℕ BackFault
back_answer s = cond (nat_lt 0 (open_clocks s)) (Ok 0) (took_answer (popped s.journal))
