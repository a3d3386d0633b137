-- What every call of a bench keeps: the core with the machine, the counters, and a journal that takes the instructions back.
use Rattle.std.proofs.Common.{◌≡◌, ℕ, zero, suc, ◌+◌, ◌*◌, ◌/◌, ◌%◌, ◌^◌, ◌<◌, Bool, true, false, cond, eqb, List, [], ◌∷◌, take, Some, None, Ok, Err, Option, Result, refl, ap, ◌∙◌, subst, arith}
use Rattle.std.proofs.lemmas.List.{length-take}
use Rattle.isa.specs.declared.mnemonic.Class.{Class}
use Rattle.isa.specs.declared.mnemonic.Class.TheVariants as class
use Rattle.alu.specs.Stores as lanes
use Rattle.alu.specs.declared.loads.Load.{Load}
use Rattle.alu.specs.declared.stores.Store.{Store}
use Rattle.actions.specs.declared.action.Action.{Action}
use Rattle.actions.specs.declared.action.Action.TheVariants.{Comp, CompI, Lui, Auipc, Ld, St, Jal, Jalr, Br}
use Rattle.actions.specs.Actions.{action_of_word}
use Rattle.arch1.proofs.Clocks.{every_clock}
use Rattle.arch1.specs.Clock as core
use Rattle.arch1.specs.Clock.{beat_of}
use Rattle.arch1.specs.Datapath.{Datapath}
use Rattle.arch1.specs.Owes.{clocks_of_class, Owes, idle, fetched, decoded, loading, branching}
use Rattle.arch1.specs.Phases.{phase_number}
use Rattle.arch1.specs.declared.phase.CoreFault.{CoreFault}
use Rattle.arch1.specs.declared.phase.Phase.{Phase}
use Rattle.arch1.specs.declared.phase.Phase.TheVariants.{T0, T1, T2, T3}
use Rattle.arch1.specs.declared.phase.Ticked.{Ticked}
use Rattle.journal.specs.declared.entry.Entry.{Entry}
use Rattle.machine.specs.Machine as machine
use Rattle.machine.specs.Machine.{Arch, Step, went, cannot, stepped, carried, carried_word, Run, onward_by, onward, after, long}
use Rattle.machine.specs.declared.cause.Cause.{Cause}
use Rattle.memory.proofs.FourLanes.{each_lane}
use Rattle.memory.specs.Lanes.{merged}
use Rattle.memory.specs.declared.kind.Kind.{Kind}
use Rattle.processor.specs.Clocks.{Clocked, on, retired}
use Rattle.bench.proofs.Undo.{Fit, Undoes, Takes, IfRetired, entry_takes_back}
use Rattle.bench.specs.Calls.{up, down, open_clocks, new_state, tick_answer, ticked_state, ticked_by, entry, journal_by, retired_by}
use Rattle.bench.specs.Entries.{entry_of}
use Rattle.bench.specs.Law.{Start, depth, deeper}
use Rattle.bench.specs.State.{State}

-- the clocks of a class
clocks_long : (k : Class) → clocks_of_class k ≡ 3 + long k
clocks_long class.Comp = refl
clocks_long class.CompI = refl
clocks_long class.Lui = refl
clocks_long class.Auipc = refl
clocks_long class.Ld = refl
clocks_long class.St = refl
clocks_long class.Jal = refl
clocks_long class.Jalr = refl
clocks_long class.Br = refl

-- the phase counts the clocks of the open instruction
pub owes_phase : (K : ℕ → Kind) (a : Arch) (g : ℕ) (c : Datapath) → Owes K a g c → phase_number c.phase ≡ g
owes_phase K a g c (idle t i d r f) = refl
owes_phase K a g c (fetched i w r f e) = refl
owes_phase K a g c (decoded w d r f e) = refl
owes_phase K a g c (loading w v f l rd rs1 imm e y h) = refl
owes_phase K a g c (branching w d r cmp rs1 rs2 imm e y) = refl

pub phase_few : (p : Phase) → phase_number p < 4
phase_few T0 = omega arith
phase_few T1 = omega arith
phase_few T2 = omega arith
phase_few T3 = omega arith

-- words keep 32 bits
fit_stored : (W : ℕ → ℕ) (s : Store) (address v : ℕ) → Fit W → Fit (machine.stored_words W s address v)
fit_stored W s address v fit k = by_flag (eqb k (address / 4))
  where
    by_flag : (b : Bool) → cond b (merged (lanes.mask_of s address) (lanes.value_of s v address) (W k)) (W k) < 2 ^ 32
    by_flag true = (each_lane (lanes.mask_of s address) (lanes.value_of s v address) (W k)).0
    by_flag false = fit k

abbrev FitAfter : Step → Type 0
FitAfter (went b k) = Fit b.words
FitAfter (cannot c) = Unit {0}

module _ (K : ℕ → Kind) (a : Arch) (fit : Fit a.words) where
  fit_loads : (l : Load) (rd address : ℕ) (R : Result ℕ Cause) → FitAfter (machine.loads a l rd address R)
  fit_loads l rd address (Ok w) = fit
  fit_loads l rd address (Err c) = tt

  fit_stores : (s : Store) (address v : ℕ) (R : Result (Unit {0}) Cause) → FitAfter (machine.stores a s address v R)
  fit_stores s address v (Ok u) = fit_stored a.words s address v fit
  fit_stores s address v (Err c) = tt

  fit_carried : (y : Option Action) → FitAfter (carried K a y)
  fit_carried None = tt
  fit_carried (Some (Comp op rd rs1 rs2)) = fit
  fit_carried (Some (CompI op rd rs1 imm)) = fit
  fit_carried (Some (Lui rd imm)) = fit
  fit_carried (Some (Auipc rd imm)) = fit
  fit_carried (Some (Ld l rd rs1 imm)) = fit_loads l rd _ _
  fit_carried (Some (St s rs1 rs2 imm)) = fit_stores s _ _ _
  fit_carried (Some (Jal rd imm)) = fit
  fit_carried (Some (Jalr rd rs1 imm)) = fit
  fit_carried (Some (Br cmp rs1 rs2 imm)) = fit

  fit_word : (R : Result ℕ Cause) → FitAfter (carried_word K a R)
  fit_word (Ok w) = fit_carried (action_of_word w)
  fit_word (Err c) = tt

  fit_step : (b : Arch) (k : Class) → stepped K a ≡ went b k → Fit b.words
  fit_step b k e = subst FitAfter e (fit_word (machine.fetched_word K a))

module _ (s : Start) where
  -- each entry of the journal takes back the instruction that it is of
  abbrev pub Past : List Entry → ℕ → Run → Type 0
  Past [] n r = Unit {0}
  Past (e ∷ es) n r =
      (m : ℕ) × (q : Run) × (k : Class) × (n ≡ suc m) × (after s.kinds s.arch m ≡ Some q) × Fit q.arch.words × Undoes s.kinds q.arch e r.arch k
      × (r.longs ≡ q.longs + long k) × Past es m q

  past_take : (k : ℕ) (es : List Entry) (n : ℕ) (r : Run) → Past es n r → Past (take k es) n r
  past_take zero [] n r p = tt
  past_take (suc k) [] n r p = tt
  past_take zero (e ∷ es) n r p = tt
  past_take (suc k) (e ∷ es) n r p = (p.0, p.1, p.2, p.3, p.4, p.5, p.6, p.7, past_take k es p.0 p.1 p.8)

-- the bench in the state t, where n instructions came to r
pub data Sound (s : Start) (n : ℕ) (r : Run) : State → Type 0 where
  sound : (c : Datapath) (j : List Entry) (k q g : ℕ) → after s.kinds s.arch n ≡ Some r → Owes s.kinds r.arch g c →
      k ≡ (3 * n + r.longs + g) % 2 ^ 64 → q ≡ n % 2 ^ 64 → Past s j n r → Fit r.arch.words →
      Sound s n r (record { core = c; journal = j; clocks = k; retired = q; kinds = s.kinds; words = r.arch.words })

-- a new bench
pub sound_new : (s : Start) → Sound s 0 (record { arch = s.arch; longs = 0 }) (new_state s.kinds s.arch.words s.arch.registers s.arch.pc)
sound_new s = sound _ [] 0 0 0 refl (idle 0 0 0 0 false) refl refl tt s.fits

-- the state after a clock from t that answers x and leaves the core d and the words W
abbrev leaves : State → Result Ticked CoreFault → Datapath → (ℕ → ℕ) → State
leaves t (Ok x) d W = record { core = d; journal = journal_by t x.retired; clocks = up t.clocks 1; retired = retired_by t x.retired; kinds = t.kinds; words = W }
leaves t (Err f) d W = record { core = d; journal = t.journal; clocks = down t.clocks (open_clocks t); retired = t.retired; kinds = t.kinds; words = W }

leaves_ticked : (t : State) (x : Result Ticked CoreFault) → leaves t x (core.ticked_core t.kinds t.words t.core) (core.ticked_words t.kinds t.words t.core) ≡ ticked_by t x
leaves_ticked t (Ok x) = refl
leaves_ticked t (Err f) = refl

-- one instruction more, of a class, that came to b
abbrev pub with_one : Run → Arch → Class → Run
with_one r b k = record { arch = b; longs = r.longs + long k }

-- what a clock comes to, from t to u
abbrev pub TickBy : (s : Start) → ℕ → Run → State → State → Bool → Type 0
TickBy s n r t u true =
    (b : Arch) × (k : Class) × (stepped s.kinds r.arch ≡ went b k) × Undoes s.kinds r.arch (entry t) b k × Sound s (suc n) (with_one r b k) u × (open_clocks u ≡ 0)
    × (depth u ≡ deeper (depth t))
TickBy s n r t u false = Sound s n r u × (open_clocks u ≡ suc (open_clocks t)) × (depth u ≡ depth t)

abbrev pub TickOutcome : (s : Start) → ℕ → Run → State → State → Result Ticked CoreFault → Type 0
TickOutcome s n r t u (Ok x) = TickBy s n r t u x.retired
TickOutcome s n r t u (Err f) = (stepped s.kinds r.arch ≡ cannot f.cause) × (f.address ≡ r.arch.pc) × Sound s n r u × (open_clocks u ≡ 0) × (depth u ≡ depth t)

module _ (s : Start) (n : ℕ) (r : Run) (c : Datapath) (j : List Entry) (k q g : ℕ) (there : after s.kinds s.arch n ≡ Some r)
    (owes : Owes s.kinds r.arch g c) (clk : k ≡ (3 * n + r.longs + g) % 2 ^ 64) (ret : q ≡ n % 2 ^ 64) (past : Past s j n r) (fit : Fit r.arch.words) where
  by_flag : (b : Bool) (d : Datapath) (W : ℕ → ℕ) → Clocked (Owes s.kinds) clocks_of_class r.arch (stepped s.kinds r.arch) g (cond b retired on) d W →
      IfRetired (cond b retired on) (Takes s.kinds r.arch (entry_of s.kinds r.arch.words c) (stepped s.kinds r.arch)) →
      (let t : State = record { core = c; journal = j; clocks = k; retired = q; kinds = s.kinds; words = r.arch.words } in
      TickBy s n r t (record { core = d; journal = journal_by t b; clocks = up k 1; retired = retired_by t b; kinds = s.kinds; words = W }) b)
  by_flag true d W law undo =
      let e = entry_of s.kinds r.arch.words c in
      let cost = clocks_long law.by in
      let took : Undoes s.kinds r.arch e law.to law.by = rw law.step at undo in
      let more : (3 * suc n + (r.longs + long law.by) + 0) ≡ 3 * n + r.longs + g + 1 = omega (arith, law.clocks) in (
        law.to,
        law.by,
        law.step,
        took,
        rw law.stored
            (sound d (e ∷ take 255 j) (up k 1) (up q 1) 0 (ap (onward s.kinds) there ∙ ap (onward_by r) law.step) law.owes (omega arith) (omega arith)
            (n, r, law.by, refl, there, fit, took, refl, past_take s 255 j n r past) (fit_step s.kinds r.arch fit law.to law.by law.step)),
        owes_phase s.kinds law.to 0 d law.owes,
        length-take 256 (e ∷ j),
      )
  by_flag false d W law undo =
      let here = owes_phase s.kinds r.arch g c owes in
      let next = owes_phase s.kinds r.arch (suc g) d law.0 in (
        rw law.1 (sound d j (up k 1) q (suc g) there law.0 (omega arith) ret past fit),
        omega arith,
        refl,
      )

  by_answer : (x : Result Ticked CoreFault) (d : Datapath) (W : ℕ → ℕ) → Clocked (Owes s.kinds) clocks_of_class r.arch (stepped s.kinds r.arch) g (beat_of x) d W →
      IfRetired (beat_of x) (Takes s.kinds r.arch (entry_of s.kinds r.arch.words c) (stepped s.kinds r.arch)) →
      (let t : State = record { core = c; journal = j; clocks = k; retired = q; kinds = s.kinds; words = r.arch.words } in
      TickOutcome s n r t (leaves t x d W) x)
  by_answer (Ok x) d W law undo = by_flag x.retired d W law undo
  by_answer (Err f) d W law undo =
      let here = owes_phase s.kinds r.arch g c owes in
      let few = phase_few c.phase in (
        law.step,
        law.at,
        rw law.kept (sound d j (down k (phase_number c.phase)) q 0 there law.owes (omega arith) ret past fit),
        owes_phase s.kinds r.arch 0 d law.owes,
        refl,
      )

pub tick_law : (s : Start) (n : ℕ) (r : Run) (t : State) → Sound s n r t → TickOutcome s n r t (ticked_state t) (tick_answer t)
tick_law s n r t (sound c j k q g there owes clk ret past fit) =
    let t : State = record { core = c; journal = j; clocks = k; retired = q; kinds = s.kinds; words = r.arch.words } in
    rw (← leaves_ticked t (tick_answer t))
    (by_answer s n r c j k q g there owes clk ret past fit (tick_answer t) _ _ (every_clock s.kinds r.arch g c owes) (entry_takes_back s.kinds r.arch fit g c owes))
