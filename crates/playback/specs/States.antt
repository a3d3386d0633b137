-- What is shown of a bench between instructions: the registers, PC, both counters, and the bytes that have changed.
use Rattle.std.specs.Prelude.{ℕ, zero, suc, ◌+◌, ◌%◌, ◌^◌, cond, List, [], ◌++◌, Ok, Result, ◌==◌}
use Rattle.bench.specs.Looks.{look_answer, byte_answer}
use Rattle.bench.specs.State.{State}
use Rattle.bench.specs.declared.look.Look.{Look}
use Rattle.bench.specs.declared.look.Look.TheVariants as look
use Rattle.bench.specs.declared.look.LookFault.{LookFault}
use Rattle.playback_lines.specs.Lines.{call_of}
use Rattle.playback.specs.declared.states.Span.{Span}
use Rattle.session.specs.declared.call.Answer.TheVariants as answer
use Rattle.session.specs.declared.call.Call.TheVariants as call

-- a look, as a call of it and its answer
abbrev pub look_text : Look → State → List ℕ
look_text at t = call_of (call.Look at) (answer.Looked (look_answer at t))

-- the looks at so many registers, from number n on
abbrev pub registers_text : ℕ → ℕ → State → List ℕ
registers_text zero n t = []
registers_text (suc k) n t = look_text (look.Register n) t ++ registers_text k (n + 1) t

-- the look at a byte, if it answers another number than in the state f
abbrev pub changed_on : Result ℕ LookFault → Result ℕ LookFault → List ℕ → List ℕ
changed_on (Ok now) (Ok before) line = cond (now == before) [] line
changed_on _ _ line = []

abbrev pub changed_text : ℕ → State → State → List ℕ
changed_text address t f = changed_on (byte_answer address t) (byte_answer address f) (look_text (look.Byte address) t)

-- of so many bytes from an address on
abbrev pub changed_in : ℕ → ℕ → State → State → List ℕ
changed_in zero address t f = []
changed_in (suc k) address t f = changed_text address t f ++ changed_in k ((address + 1) % 2 ^ 32) t f

-- the whole, with the changed bytes of two spans
abbrev pub state_text : Span → Span → State → State → List ℕ
state_text image bank t f =
    registers_text 32 0 t
    ++ (look_text look.Pc t
    ++ (look_text look.Clocks t
    ++ (look_text look.Retired t
    ++ (changed_in image.length image.from t f
    ++ changed_in bank.length bank.from t f))))
