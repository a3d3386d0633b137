-- Every clock of the core keeps what it owes to RV32I by whole instructions.
use Rattle.std.proofs.Common.{◌≡◌, ℕ, suc, ◌+◌, ◌/◌, Bool, true, false, cond, Some, None, Ok, Err, Option, Result, refl, ap, ◌∙◌, subst}
use Rattle.isa.specs.declared.mnemonic.Class.{Class}
use Rattle.isa.specs.declared.mnemonic.Class.TheVariants as class
use Rattle.alu.specs.Comparisons.{compared}
use Rattle.alu.specs.Stores as lanes
use Rattle.alu.specs.declared.comparisons.Comparison.{Comparison}
use Rattle.alu.specs.declared.loads.Load.{Load}
use Rattle.alu.specs.declared.stores.Store.{Store}
use Rattle.actions.specs.Actions.{action_of_word}
use Rattle.actions.specs.declared.action.Action.{Action}
use Rattle.actions.specs.declared.action.Action.TheVariants.{Comp, CompI, Lui, Auipc, Ld, St, Jal, Jalr, Br}
use Rattle.machine.specs.Machine as machine
use Rattle.machine.specs.Machine.{Arch, Step, went, cannot, wrap, x, aligned, caused, fetched_word, stepped, carried, carried_word}
use Rattle.machine.specs.declared.cause.Cause.{Cause}
use Rattle.machine.specs.declared.cause.Cause.TheVariants.{UnalignedPc, UnalignedAddress}
use Rattle.memory.specs.Meaning.{read_of, allowed, patched}
use Rattle.memory.specs.declared.fault.MemoryFault.{MemoryFault}
use Rattle.memory.specs.declared.kind.Kind.{Kind}
use Rattle.memory.specs.declared.kind.Kind.TheVariants as kind
use Rattle.processor.specs.Accesses.{replied, words_after, word_in, written_in}
use Rattle.processor.specs.Clocks.{Clocked, Retires, Refuses}
use Rattle.processor.specs.declared.access.Access.TheVariants as access
use Rattle.arch1.proofs.Patches.{mask_fits, closed, opened}
use Rattle.arch1.specs.Clock.{beat_of, answered, settled, outcome_of, tick_answer, ticked_core, ticked_words}
use Rattle.arch1.specs.Owes.{clocks_of_class, between, within, Owes, idle, fetched, decoded, loading, branching}
use Rattle.arch1.specs.Refinement.{Keeps, NamesPhases}
use Rattle.arch1.specs.Transfers.{Outcome, goes, retires, refuses, access_in, executes, finishes, fetches, loads, stores}
use Rattle.arch1.specs.Datapath.{Datapath}
use Rattle.arch1.specs.declared.phase.CoreFault.{CoreFault}
use Rattle.arch1.specs.declared.phase.Ticked.{Ticked}
use Rattle.arch1.specs.declared.phase.Phase.TheVariants.{T2, T3}

-- what the clock of c that comes to o leaves, with these words
abbrev Kept : (ℕ → Kind) → Arch → Step → ℕ → Datapath → Outcome → (ℕ → ℕ) → Type 0
Kept K a st g c o = Clocked (Owes K) clocks_of_class a st g (beat_of (answered c o)) (settled c o)

module _ (K : ℕ → Kind) (a : Arch) where
  -- a clock that is refused, and one that retires the instruction, leave nothing open
  refuses_at : {c : Cause} {t i d r : ℕ} {f : Bool} → Refuses (Owes K) clocks_of_class a (cannot c) c a.pc (between a t i d r f) a.words
  refuses_at = record { step = refl; at = refl; owes = idle _ _ _ _ _; kept = refl }

  retires_at : {b : Arch} {k : Class} {g t i d r : ℕ} {f : Bool} → suc g ≡ clocks_of_class k → Retires (Owes K) clocks_of_class a (went b k) g (between b t i d r f) b.words
  retires_at e = record { to = _; by = _; step = refl; owes = idle _ _ _ _ _; stored = refl; clocks = e }

  -- T0: the alignment of PC, then the word there
  at_word : (t i d r : ℕ) (f : Bool) → aligned a.pc 4 ≡ true → (R : Result ℕ MemoryFault) →
      read_of (a.pc / 4) (K (a.pc / 4)) (a.words (a.pc / 4)) ≡ R →
      Kept K a (carried_word K a (caused R)) 0 (between a t i d r f) (fetches (between a t i d r f) R) a.words
  at_word t i d r f e (Ok w) h =
      (fetched i w r f (ap (λ (b : Bool). cond b (machine.word_at K a a.pc) (Err UnalignedPc)) e ∙ ap caused h), refl)
  at_word t i d r f e (Err z) h = refuses_at

  at_t0 : (t i d r : ℕ) (f : Bool) (b : Bool) → aligned a.pc 4 ≡ b →
      (let c = between a t i d r f in
      let ask = cond b (access.Read (a.pc / 4)) access.Nothing in
      Kept K a (carried_word K a (cond b (machine.word_at K a a.pc) (Err UnalignedPc))) 0 c
      (cond b (fetches c (word_in (replied K a.words ask))) (refuses UnalignedPc)) (words_after K a.words ask))
  at_t0 t i d r f true e = at_word t i d r f e _ refl
  at_t0 t i d r f false e = refuses_at

  module _ (w d r : ℕ) (f : Bool) (e : fetched_word K a ≡ Ok w) where
    -- T2 of a load: the alignment of the address, then the word there
    at_loaded : (l : Load) (rd rs1 imm : ℕ) → action_of_word w ≡ Some (Ld l rd rs1 imm) →
        (let address = wrap (x a rs1 + imm) in
        aligned address (machine.load_size l) ≡ true → (R : Result ℕ MemoryFault) → read_of (address / 4) (K (address / 4)) (a.words (address / 4)) ≡ R →
        Kept K a (machine.loads a l rd address (caused R)) 2 (within a w d r f T2) (loads (within a w d r f T2) address R) a.words)
    at_loaded l rd rs1 imm y q (Ok v) h =
        let address = wrap (x a rs1 + imm) in
        (loading w v f l rd rs1 imm e y (ap (λ (b : Bool). cond b (machine.word_at K a address) (Err UnalignedAddress)) q ∙ ap caused h), refl)
    at_loaded l rd rs1 imm y q (Err z) h = refuses_at

    at_load : (l : Load) (rd rs1 imm : ℕ) → action_of_word w ≡ Some (Ld l rd rs1 imm) →
        (let address = wrap (x a rs1 + imm) in
        (b : Bool) → aligned address (machine.load_size l) ≡ b →
        (let ask = cond b (access.Read (address / 4)) access.Nothing in
        Kept K a (machine.loads a l rd address (cond b (machine.word_at K a address) (Err UnalignedAddress))) 2 (within a w d r f T2)
        (cond b (loads (within a w d r f T2) address (word_in (replied K a.words ask))) (refuses UnalignedAddress)) (words_after K a.words ask)))
    at_load l rd rs1 imm y true q = at_loaded l rd rs1 imm y q _ refl
    at_load l rd rs1 imm y false q = refuses_at

    -- T2 of a store: the alignment of the address, then whether the word is there and open
    at_written : (s : Store) (rs1 rs2 imm : ℕ) (kd : Kind) →
        (let address = wrap (x a rs1 + imm) in
        let v = lanes.value_of s (x a rs2) address in
        let mask = lanes.mask_of s address in
        K (address / 4) ≡ kd →
        Kept K a (machine.stores a s address (x a rs2) (caused (allowed (address / 4) kd))) 2 (within a w d r f T2)
        (stores (within a w d r f T2) address (allowed (address / 4) kd)) (patched K a.words (address / 4) v mask))
    at_written s rs1 rs2 imm kind.Absent q =
        record { step = refl; at = refl; owes = idle _ _ _ _ _; kept = closed K a.words _ _ _ kind.Absent q (λ w. refl) }
    at_written s rs1 rs2 imm kind.Fixed q =
        record { step = refl; at = refl; owes = idle _ _ _ _ _; kept = closed K a.words _ _ _ kind.Fixed q (λ w. refl) }
    at_written s rs1 rs2 imm kind.Open q =
        let address = wrap (x a rs1 + imm) in
        record {
          to = record { pc = machine.following a; registers = a.registers; words = machine.stored_words a.words s address (x a rs2) };
          by = class.St;
          step = refl;
          owes = idle _ _ _ _ _;
          stored = opened K a.words _ _ _ q (mask_fits s address);
          clocks = refl;
        }

    at_store : (s : Store) (rs1 rs2 imm : ℕ) →
        (let address = wrap (x a rs1 + imm) in
        let v = lanes.value_of s (x a rs2) address in
        let mask = lanes.mask_of s address in
        (b : Bool) →
        (let ask = cond b (access.Write (address / 4) v mask) access.Nothing in
        Kept K a (machine.stores a s address (x a rs2) (cond b (caused (allowed (address / 4) (K (address / 4)))) (Err UnalignedAddress))) 2 (within a w d r f T2)
        (cond b (stores (within a w d r f T2) address (written_in (replied K a.words ask))) (refuses UnalignedAddress)) (words_after K a.words ask)))
    at_store s rs1 rs2 imm true =
        let address = wrap (x a rs1 + imm) in
        rw (mask_fits s address) (at_written s rs1 rs2 imm (K (address / 4)) refl)
    at_store s rs1 rs2 imm false = refuses_at

    -- T2, by the class
    at_t2 : (y : Option Action) → action_of_word w ≡ y →
        (let c = within a w d r f T2 in
        Kept K a (carried K a y) 2 c (executes c (replied K a.words (access_in c y)) y) (words_after K a.words (access_in c y)))
    at_t2 None y = refuses_at
    at_t2 (Some (Comp op rd rs1 rs2)) y = retires_at refl
    at_t2 (Some (CompI op rd rs1 imm)) y = retires_at refl
    at_t2 (Some (Lui rd imm)) y = retires_at refl
    at_t2 (Some (Auipc rd imm)) y = retires_at refl
    at_t2 (Some (Ld l rd rs1 imm)) y = at_load l rd rs1 imm y _ refl
    at_t2 (Some (St s rs1 rs2 imm)) y = at_store s rs1 rs2 imm (aligned (wrap (x a rs1 + imm)) (machine.store_size s))
    at_t2 (Some (Jal rd imm)) y = retires_at refl
    at_t2 (Some (Jalr rd rs1 imm)) y = retires_at refl
    at_t2 (Some (Br cmp rs1 rs2 imm)) y = (branching w d r cmp rs1 rs2 imm e y, refl)

  -- T3 of a load and of a branch
  at_t3_load : (w v : ℕ) (f : Bool) (l : Load) (rd rs1 imm : ℕ) →
      Kept K a (machine.loads a l rd (wrap (x a rs1 + imm)) (Ok v)) 3 (within a w v (wrap (x a rs1 + imm)) f T3) (finishes (within a w v (wrap (x a rs1 + imm)) f T3) (Some (Ld l rd rs1 imm))) a.words
  at_t3_load w v f l rd rs1 imm = retires_at refl

  at_t3_branch : (w d r : ℕ) (cmp : Comparison) (rs1 rs2 imm : ℕ) →
      Kept K a (carried K a (Some (Br cmp rs1 rs2 imm))) 3 (within a w d r (compared cmp (x a rs1) (x a rs2)) T3) (finishes (within a w d r (compared cmp (x a rs1) (x a rs2)) T3) (Some (Br cmp rs1 rs2 imm))) a.words
  at_t3_branch w d r cmp rs1 rs2 imm = retires_at refl

-- every clock keeps what is owed
pub every_clock : (K : ℕ → Kind) (a : Arch) (g : ℕ) (c : Datapath) → Owes K a g c →
    Kept K a (stepped K a) g c (outcome_of K a.words c) (ticked_words K a.words c)
every_clock K a g c (idle t i d r f) = at_t0 K a t i d r f (aligned a.pc 4) refl
every_clock K a g c (fetched i w r f e) = (decoded w w r f e, refl)
every_clock K a g c (decoded w d r f e) = rw e (at_t2 K a w d r f e (action_of_word w) refl)
every_clock K a g c (loading w v f l rd rs1 imm e y h) = rw (e, y, h) (at_t3_load K a w v f l rd rs1 imm)
every_clock K a g c (branching w d r cmp rs1 rs2 imm e y) = rw (e, y) (at_t3_branch K a w d r cmp rs1 rs2 imm)

phases_of : (c : Datapath) (o : Outcome) → NamesPhases (answered c o) c (settled c o)
phases_of c (goes d) = refl
phases_of c (retires d) = refl
phases_of c (refuses e) = refl

pub phases_named : (K : ℕ → Kind) (W : ℕ → ℕ) (c : Datapath) → NamesPhases (tick_answer K W c) c (ticked_core K W c)
phases_named K W c = phases_of c (outcome_of K W c)

over : (K : ℕ → Kind) (W : ℕ → ℕ) (c : Datapath) → Keeps K W c (tick_answer K W c) (ticked_core K W c) (ticked_words K W c)
unfolding Keeps
over K W c = (
  λ a g e o.
      subst (λ (V : ℕ → ℕ). Clocked (Owes K) clocks_of_class a (stepped K a) g (beat_of (tick_answer K V c)) (ticked_core K V c) (ticked_words K V c)) e (every_clock K a g c o),
  phases_named K W c,
)

pub clock_keeps : (K : ℕ → Kind) (W : ℕ → ℕ) (c : Datapath) (r : Result Ticked CoreFault) (d : Datapath) (V : ℕ → ℕ) →
    r ≡ tick_answer K W c → d ≡ ticked_core K W c → V ≡ ticked_words K W c → Keeps K W c r d V
clock_keeps K W c r d V p q h = rw (p, q, h) (over K W c)
