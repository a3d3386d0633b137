use Rattle.std.proofs.Common.{ℕ, ◌∙◌, sym, subst, rules}
use Rattle.memory.specs.Lanes.{taken, EachLane}
use Rattle.memory.proofs.FourLanes.{each_lane}
use Rattle.memory.proofs.Made.{word_made}
use Rattle.memory.proofs.lanes.merge.Goals as goal

pub returns : goal.returns
returns c =
    let a = c.args in
    let value = c.from_le_bytes.ensures ∙ word_made _ _ (taken a.mask a.value a.old) (λ k r q h. search rules) c.from_fn.result c.from_fn.ensures.items.each in
    record {
      value = value;
      lanes = subst (λ (r : ℕ). EachLane a.mask a.value a.old r) (sym value) (each_lane a.mask a.value a.old);
    }
