-- The published data.
use Rattle.std.specs.Prelude.{ℕ, List, [], ◌∷◌, replicate}
use Rattle.isa.specs.declared.mnemonic.Mnemonic.{Mnemonic}
use Rattle.isa.specs.declared.mnemonic.Mnemonic.TheVariants as mnemonic

-- the published data that a load reads and a store writes, as words: bytes ff, 00, f0 and 0f; halves 00ff, ff00, 0ff0 and f00f;
-- words of the same; ten bytes ef, ten halves beef, ten words deadbeef
abbrev pub data_of : Mnemonic → List ℕ
data_of mnemonic.Lb = 0x0ff000ff ∷ []
data_of mnemonic.Lbu = 0x0ff000ff ∷ []
data_of mnemonic.Lh = 0xff0000ff ∷ 0xf00f0ff0 ∷ []
data_of mnemonic.Lhu = 0xff0000ff ∷ 0xf00f0ff0 ∷ []
data_of mnemonic.Lw = 0x00ff00ff ∷ 0xff00ff00 ∷ 0x0ff00ff0 ∷ 0xf00ff00f ∷ []
data_of mnemonic.Sb = 0xefefefef ∷ 0xefefefef ∷ 0x0000efef ∷ []
data_of mnemonic.Sh = replicate 5 0xbeefbeef
data_of mnemonic.Sw = replicate 10 0xdeadbeef
data_of _ = []
