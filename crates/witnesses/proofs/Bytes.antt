-- Stores and merges at numbers.
use Rattle.std.proofs.Common.{eqb, refl, arith}
use Rattle.alu.proofs.LaneBytes.{placed}
use Rattle.alu.specs.Stores.{Placed, ReadBack}
use Rattle.alu.specs.declared.stores.Store.TheVariants.{Byte}
use Rattle.memory.proofs.FourLanes.{each_lane}
use Rattle.memory.specs.Lanes.{EachLane}
use Rattle.witnesses.proofs.Apart.{apart}

pub byte_placed : Placed Byte 0x11223344 0x80019 0x4400 0b0010 × (Placed Byte 0x11223344 0x80019 0x44 0b0010 → ⊥) × (Placed Byte 0x11223344 0x80019 0x4400 0b0001 → ⊥)
byte_placed = (
  placed 0x11223344 0x80019 Byte 0x4400 0b0010 refl refl,
  λ p. apart (λ n. eqb n 0) 0 0x44 refl refl (p 1 (omega arith)),
  λ p. apart (λ n. eqb n 0x44) 0x44 0 refl refl (p 1 (omega arith)),
)

pub byte_back : ReadBack Byte 0x11223344 0x80019 0x4400 × (ReadBack Byte 0x11223344 0x80019 0x44 → ⊥)
byte_back = (refl, λ b. apart (λ n. eqb n 0) 0 0x44 refl refl b)

pub one_lane : EachLane 0b0010 0x11223344 0xAABBCCDD 0xAABB33DD × (EachLane 0b0010 0x11223344 0xAABBCCDD 0xAABBCCDD → ⊥) × (EachLane 0b0010 0x11223344 0xAABBCCDD 0x11223344 → ⊥)
one_lane = (
  each_lane 0b0010 0x11223344 0xAABBCCDD,
  λ e. apart (λ n. eqb n 0xCC) 0xCC 0x33 refl refl (e.1 1 (omega arith)),
  λ e. apart (λ n. eqb n 0x44) 0x44 0xDD refl refl (e.1 0 (omega arith)),
)
