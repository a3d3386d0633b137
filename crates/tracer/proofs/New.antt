-- The trace of a new bench is that of the machine.
use Rattle.std.proofs.Common.{◌≡◌, ℕ, ◌^◌, ◌<◌, Bool, true, false, cond, ltb, List, ◌++◌, Err, refl, ap, ◌∙◌, arith}
use Rattle.memory.specs.declared.interfaces.ReadMemory.{Ghosts}
use Rattle.registers.specs.declared.file.RegisterFile.{RegisterFile}
use Rattle.bench.proofs.Sound.{sound_new}
use Rattle.bench.specs.Calls.{run_answer_for, ran_for, ran_state, new_state}
use Rattle.bench.specs.Law.{BeginsOver, start_over}
use Rattle.bench.specs.State.{State}
use Rattle.bench.specs.declared.answers.Stop.TheVariants as stop
use Rattle.trace_lines.specs.Lines.{stop_of}
use Rattle.tracer.proofs.Traces.{At, lines_are, stop_is, pc_after}
use Rattle.tracer.specs.Steps.{stop_after, text_for, run_text, PcFits}
use Rattle.tracer.specs.Trace.{starts, lines_from, stop_from, trace_of, last_line_of}

-- the law of a new bench says here over which memory it is: by it the lemmas below are found
module _ {M : Type 0} (m : Ghosts M) (memory : M) (rs : RegisterFile) (p limit : ℕ) (t : State)
    (law : BeginsOver m memory rs p t) (new : t ≡ new_state (m.kinds memory) (m.words memory) rs p) (fits : p < 2 ^ 32) where
  begins : At (start_over m memory rs p) 0 (record { arch = starts p rs (m.words memory); longs = 0 }) t
  begins = record { sound = rw new (sound_new (start_over m memory rs p)); closed = rw new refl; longs = omega arith; pc = fits }

  module _ (small : limit < 2 ^ 32) where
    stops : stop_after (run_answer_for 0 limit t) (ran_for limit t) ≡ stop_from (m.kinds memory) limit 0 0 (starts p rs (m.words memory))
    stops = stop_is (start_over m memory rs p) limit 0 0 _ t begins refl (omega (arith, small))

    pub traced : (text : List ℕ) → text ≡ text_for limit t → text ≡ trace_of (m.kinds memory) limit (starts p rs (m.words memory))
    traced text e =
        e ∙ ap (λ (l : List ℕ). l ++ stop_after (run_answer_for 0 limit t) (ran_for limit t)) (lines_are (start_over m memory rs p) limit 0 _ t begins)
        ∙ ap (λ (l : List ℕ). lines_from (m.kinds memory) limit (starts p rs (m.words memory)) ++ l) stops

    pub trace_pc : PcFits (ran_for limit t)
    trace_pc = record { fits = pc_after (start_over m memory rs p) limit 0 _ t begins (omega (arith, small)) }

    ran_by : (b : Bool) → stop_after (cond b (Err (record { done = 0; stop = stop.TooMany })) (run_answer_for 0 limit t)) (cond b t (ran_for limit t))
        ≡ cond b (stop_of 7 p 0 0) (stop_from (m.kinds memory) limit 0 0 (starts p rs (m.words memory)))
    ran_by true = ap (λ (u : State). stop_of 7 u.core.pc u.retired u.clocks) new
    ran_by false = stops

    pub ran : (text : List ℕ) → text ≡ run_text limit t → text ≡ last_line_of (m.kinds memory) limit (starts p rs (m.words memory))
    unfolding run_text last_line_of
    ran text e = e ∙ ran_by (ltb 1000000 limit)

    run_pc_by : (b : Bool) → PcFits (cond b t (ran_for limit t))
    run_pc_by true = record { fits = rw new fits }
    run_pc_by false = trace_pc

    pub run_pc : PcFits (ran_state limit t)
    run_pc = run_pc_by (ltb 1000000 limit)
