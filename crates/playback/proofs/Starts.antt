-- A start is known by its kinds and its machine: that its words have 32 bits can be shown in one way alone.
use Rattle.std.proofs.Common.{◌≡◌, ℕ, ◌^◌, ◌<◌, IfOk, Result, subst}
use Rattle.std.specs.Coded.{le_prop, Π_prop}
use mathlib.Core.HLevel.{is_prop→PathP}
use Rattle.bench.specs.Law.{Start}

pub same_start : (s t : Start) → s.kinds ≡ t.kinds → s.arch ≡ t.arch → s ≡ t
same_start s t kinds arch = λ i. record {
  kinds = kinds i;
  arch = arch i;
  fits = is_prop→PathP (λ j. (k : ℕ) → (arch j).words k < 2 ^ 32) (λ j. Π_prop (λ k. le_prop)) s.fits t.fits i;
}

-- what is so of three starts is so of the one that they are
pub thrice : {A E : Type 0} (r : Result A E) (P : Start → Start → Start → A → Type 0) (start s z y : Start) → s ≡ start → z ≡ start → y ≡ start → IfOk r (P s z y) → IfOk r (P start start start)
thrice r P start s z y e f g h = subst (λ (t : Start). IfOk r (P t start start)) e (subst (λ (t : Start). IfOk r (P s t start)) f (subst (λ (t : Start). IfOk r (P s z t)) g h))
