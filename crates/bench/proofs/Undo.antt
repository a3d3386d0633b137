-- The entry of a retired instruction takes it back.
use Rattle.std.proofs.Common.{◌≡◌, ℕ, ◌+◌, ◌/◌, ◌^◌, ◌<◌, Bool, true, false, cond, eqb, ltb, List, get_or, set, Some, None, Ok, Err, Option, Result, sym, refl, ap, ◌∙◌, arith, set-set}
use mathlib.Core.Path.{fun_ext}
use lib.Seq.{set-get_or}
use Rattle.std.proofs.lemmas.Bool.{eqb-true}
use Rattle.isa.specs.declared.mnemonic.Class.{Class}
use Rattle.alu.specs.Comparisons.{compared}
use Rattle.alu.specs.Stores as lanes
use Rattle.alu.specs.declared.comparisons.Comparison.{Comparison}
use Rattle.alu.specs.declared.loads.Load.{Load}
use Rattle.alu.specs.declared.stores.Store.{Store}
use Rattle.actions.specs.Actions.{action_of_word}
use Rattle.actions.specs.declared.action.Action.{Action}
use Rattle.actions.specs.declared.action.Action.TheVariants.{Comp, CompI, Lui, Auipc, Ld, St, Jal, Jalr, Br}
use Rattle.machine.specs.Machine as machine
use Rattle.machine.specs.Machine.{Arch, Step, went, cannot, wrap, x, aligned, fetched_word, stepped, carried, long}
use Rattle.machine.specs.declared.cause.Cause.TheVariants.{UnalignedPc, UnalignedAddress}
use Rattle.memory.proofs.FourLanes.{each_lane}
use Rattle.memory.specs.Lanes.{lane, named, of_lanes, taken, merged}
use Rattle.memory.specs.Meaning.{read_of, allowed, patched}
use Rattle.memory.specs.declared.fault.MemoryFault.{MemoryFault}
use Rattle.memory.specs.declared.kind.Kind.{Kind}
use Rattle.memory.specs.declared.kind.Kind.TheVariants as kind
use Rattle.processor.specs.Accesses.{replied, word_in, written_in}
use Rattle.processor.specs.Clocks.{Beat, on, retired, refused as refusedBeat}
use Rattle.processor.specs.declared.access.Access.TheVariants as access
use Rattle.registers.specs.Registers.{writable, value_of, put_into}
use Rattle.arch1.proofs.Patches.{mask_fits, opened}
use Rattle.arch1.specs.Clock.{beat_of, answered, tick_answer}
use Rattle.arch1.specs.Datapath.{Datapath}
use Rattle.arch1.specs.Owes.{between, within, Owes, idle, fetched, decoded, loading, branching}
use Rattle.arch1.specs.Transfers.{access_in, executes, fetches, loads, stores, refuses}
use Rattle.arch1.specs.declared.phase.Phase.TheVariants.{T2, T3}
use Rattle.journal.specs.declared.entry.Entry.{Entry}
use Rattle.bench.specs.Entries.{entry_of, old_register, old_bytes_in, overwritten_through, overwritten_in_t2, overwritten_in_t3, undone_registers, undone_words}

-- every word has 32 bits
abbrev pub Fit : (ℕ → ℕ) → Type 0
Fit W = (k : ℕ) → W k < 2 ^ 32

-- a register that is put back
pub register_back : (rs : List ℕ) (n v : ℕ) → put_into (put_into rs n v) n (value_of rs n) ≡ rs
register_back rs n v = by_flag (writable n)
  where
    by_flag : (b : Bool) → cond b (set (cond b (set rs n v) rs) n (cond b (get_or rs n 0) 0)) (cond b (set rs n v) rs) ≡ rs
    by_flag true = set-set rs n v (get_or rs n 0) ∙ set-get_or rs n 0
    by_flag false = refl

-- lanes that are put back
lane_back : (mask v w i : ℕ) → i < 4 → taken mask w (merged mask v w) i ≡ lane i w
lane_back mask v w i h = by_flag (named i mask) refl
  where
    by_flag : (b : Bool) → named i mask ≡ b → cond b (lane i w) (lane i (merged mask v w)) ≡ lane i w
    by_flag true e = refl
    by_flag false e = (each_lane mask v w).1 i h ∙ ap (λ (b : Bool). cond b (lane i v) (lane i w)) e

whole : (w : ℕ) → w < 2 ^ 32 → of_lanes (lane 0 w) (lane 1 w) (lane 2 w) (lane 3 w) ≡ w
whole w h = omega arith

merge_back : (mask v w : ℕ) → w < 2 ^ 32 → merged mask w (merged mask v w) ≡ w
merge_back mask v w h =
    let l = lane_back mask v w in
    (λ i. of_lanes (l 0 (omega arith) i) (l 1 (omega arith) i) (l 2 (omega arith) i) (l 3 (omega arith) i)) ∙ whole w h

module _ (K : ℕ → Kind) (W : ℕ → ℕ) (k v mask : ℕ) (fit : Fit W) where
  -- the words after a store, with its lanes put back
  back_at : (j : ℕ) (b : Bool) → eqb j k ≡ b → cond b (merged mask (W k) (cond b (merged mask v (W j)) (W j))) (cond b (merged mask v (W j)) (W j)) ≡ W j
  back_at j true e =
      let same : k ≡ j = sym (eqb-true j k e) in
      ap (λ (i : ℕ). merged mask (W i) (merged mask v (W j))) same ∙ merge_back mask v (W j) (fit j)
  back_at j false e = refl

  pub words_back : K k ≡ kind.Open → ltb 15 mask ≡ false → patched K (λ j. cond (eqb j k) (merged mask v (W j)) (W j)) k (W k) mask ≡ W
  words_back e m = opened K (λ j. cond (eqb j k) (merged mask v (W j)) (W j)) k (W k) mask e m ∙ fun_ext (λ j. back_at j (eqb j k) refl)

-- e takes b, which an instruction of class k made of a, back to a
pub record Undoes (K : ℕ → Kind) (a : Arch) (e : Entry) (b : Arch) (k : Class) : Type 0 where
  pub address : e.address ≡ a.pc
  pub word : fetched_word K a ≡ Ok e.word
  pub clocks : e.clocks ≡ 3 + long k
  pub registers : undone_registers b.registers e.overwritten ≡ a.registers
  pub words : undone_words K b.words e.overwritten ≡ a.words

abbrev pub Takes : (ℕ → Kind) → Arch → Entry → Step → Type 0
Takes K a e (went b k) = Undoes K a e b k
Takes K a e (cannot c) = Unit {0}

abbrev pub IfRetired : Beat → Type 0 → Type 0
IfRetired on P = Unit {0}
IfRetired retired P = P
IfRetired (refusedBeat c address) P = Unit {0}

module _ (K : ℕ → Kind) (a : Arch) (fit : Fit a.words) where
  module _ (c : Datapath) (P : Type 0) where
    not_fetched : (R : Result ℕ MemoryFault) → IfRetired (beat_of (answered c (fetches c R))) P
    not_fetched (Ok w) = tt
    not_fetched (Err f) = tt

    not_t0 : (k : ℕ) (b : Bool) →
        IfRetired (beat_of (answered c (cond b (fetches c (word_in (replied K a.words (cond b (access.Read k) access.Nothing)))) (refuses UnalignedPc)))) P
    not_t0 k true = not_fetched (read_of k (K k) (a.words k))
    not_t0 k false = tt

    not_loaded : (address : ℕ) (R : Result ℕ MemoryFault) → IfRetired (beat_of (answered c (loads c address R))) P
    not_loaded address (Ok w) = tt
    not_loaded address (Err f) = tt

    not_load : (address k : ℕ) (b : Bool) →
        IfRetired (beat_of (answered c (cond b (loads c address (word_in (replied K a.words (cond b (access.Read k) access.Nothing)))) (refuses UnalignedAddress)))) P
    not_load address k true = not_loaded address (read_of k (K k) (a.words k))
    not_load address k false = tt

  -- an instruction that writes register rd
  wrote : (w rd v p n : ℕ) (k : Class) → fetched_word K a ≡ Ok w → n ≡ 3 + long k →
      Undoes K a (record { address = a.pc; word = w; clocks = n; overwritten = old_register (between a 0 0 0 0 false) rd }) (record { pc = p; registers = put_into a.registers rd v; words = a.words }) k
  wrote w rd v p n k e took = record { address = refl; word = e; clocks = took; registers = register_back a.registers rd v; words = refl }

  -- T2 of a store
  store_back : (w d r : ℕ) (f : Bool) → fetched_word K a ≡ Ok w → (s : Store) (rs1 rs2 imm : ℕ) (kd : Kind) →
      (let c = within a w d r f T2 in
      let address = wrap (x a rs1 + imm) in
      let k = address / 4 in
      let mask = lanes.mask_of s address in
      K k ≡ kd →
      IfRetired (beat_of (answered c (stores c address (allowed k kd))))
      (Takes K a (record { address = a.pc; word = w; clocks = 3; overwritten = old_bytes_in k mask (read_of k kd (a.words k)) }) (machine.stores a s address (x a rs2) (machine.caused (allowed k kd)))))
  store_back w d r f e s rs1 rs2 imm kind.Absent q = tt
  store_back w d r f e s rs1 rs2 imm kind.Fixed q = tt
  store_back w d r f e s rs1 rs2 imm kind.Open q =
      let address = wrap (x a rs1 + imm) in
      record {
        address = refl;
        word = e;
        clocks = refl;
        registers = refl;
        words = words_back K a.words (address / 4) (lanes.value_of s (x a rs2) address) (lanes.mask_of s address) fit q (mask_fits s address);
      }

  store_by : (w d r : ℕ) (f : Bool) → fetched_word K a ≡ Ok w → (s : Store) (rs1 rs2 imm : ℕ) (b : Bool) →
      (let c = within a w d r f T2 in
      let address = wrap (x a rs1 + imm) in
      let k = address / 4 in
      let v = lanes.value_of s (x a rs2) address in
      let mask = lanes.mask_of s address in
      IfRetired (beat_of (answered c (cond b (stores c address (written_in (replied K a.words (cond b (access.Write k v mask) access.Nothing)))) (refuses UnalignedAddress))))
      (Takes K a (record { address = a.pc; word = w; clocks = 3; overwritten = overwritten_through K a.words (cond b (access.Write k v mask) access.Nothing) })
      (machine.stores a s address (x a rs2) (cond b (machine.caused (allowed k (K k))) (Err UnalignedAddress)))))
  store_by w d r f e s rs1 rs2 imm true = rw (mask_fits s (wrap (x a rs1 + imm))) (store_back w d r f e s rs1 rs2 imm (K (wrap (x a rs1 + imm) / 4)) refl)
  store_by w d r f e s rs1 rs2 imm false = tt

  -- T2, by the class
  in_t2 : (w d r : ℕ) (f : Bool) → fetched_word K a ≡ Ok w → (y : Option Action) →
      (let c = within a w d r f T2 in
      IfRetired (beat_of (answered c (executes c (replied K a.words (access_in c y)) y)))
      (Takes K a (record { address = a.pc; word = w; clocks = 3; overwritten = overwritten_in_t2 K a.words c y }) (carried K a y)))
  in_t2 w d r f e None = tt
  in_t2 w d r f e (Some (Comp op rd rs1 rs2)) = wrote w rd _ _ _ _ e refl
  in_t2 w d r f e (Some (CompI op rd rs1 imm)) = wrote w rd _ _ _ _ e refl
  in_t2 w d r f e (Some (Lui rd imm)) = wrote w rd _ _ _ _ e refl
  in_t2 w d r f e (Some (Auipc rd imm)) = wrote w rd _ _ _ _ e refl
  in_t2 w d r f e (Some (Ld l rd rs1 imm)) =
      let address = wrap (x a rs1 + imm) in
      not_load (within a w d r f T2) _ address (address / 4) (aligned address (machine.load_size l))
  in_t2 w d r f e (Some (St s rs1 rs2 imm)) = store_by w d r f e s rs1 rs2 imm (aligned (wrap (x a rs1 + imm)) (machine.store_size s))
  in_t2 w d r f e (Some (Jal rd imm)) = wrote w rd _ _ _ _ e refl
  in_t2 w d r f e (Some (Jalr rd rs1 imm)) = wrote w rd _ _ _ _ e refl
  in_t2 w d r f e (Some (Br cmp rs1 rs2 imm)) = tt

  -- T3 of a load and of a branch
  in_t3_load : (w v : ℕ) (f : Bool) → fetched_word K a ≡ Ok w → (l : Load) (rd rs1 imm : ℕ) →
      (let c = within a w v (wrap (x a rs1 + imm)) f T3 in
      Takes K a (record { address = a.pc; word = w; clocks = 4; overwritten = overwritten_in_t3 c (Some (Ld l rd rs1 imm)) }) (machine.loads a l rd (wrap (x a rs1 + imm)) (Ok v)))
  in_t3_load w v f e l rd rs1 imm = wrote w rd _ _ _ _ e refl

  in_t3_branch : (w d r : ℕ) → fetched_word K a ≡ Ok w → (cmp : Comparison) (rs1 rs2 imm : ℕ) →
      (let c = within a w d r (compared cmp (x a rs1) (x a rs2)) T3 in
      Takes K a (record { address = a.pc; word = w; clocks = 4; overwritten = overwritten_in_t3 c (Some (Br cmp rs1 rs2 imm)) }) (carried K a (Some (Br cmp rs1 rs2 imm))))
  in_t3_branch w d r e cmp rs1 rs2 imm = record { address = refl; word = e; clocks = refl; registers = refl; words = refl }

  pub entry_takes_back : (g : ℕ) (c : Datapath) → Owes K a g c →
      IfRetired (beat_of (tick_answer K a.words c)) (Takes K a (entry_of K a.words c) (stepped K a))
  entry_takes_back g c (idle t i d r f) = not_t0 (between a t i d r f) _ (a.pc / 4) (aligned a.pc 4)
  entry_takes_back g c (fetched i w r f e) = tt
  entry_takes_back g c (decoded w d r f e) = rw e (in_t2 w d r f e (action_of_word w))
  entry_takes_back g c (loading w v f l rd rs1 imm e y h) = rw (e, y, h) (in_t3_load w v f e l rd rs1 imm)
  entry_takes_back g c (branching w d r cmp rs1 rs2 imm e y) = rw (e, y) (in_t3_branch w d r e cmp rs1 rs2 imm)
