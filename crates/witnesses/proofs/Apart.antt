-- Two values that a test tells apart are not the same.
use Rattle.std.proofs.Common.{◌≡◌, Bool, true, false, subst}
use Rattle.std.proofs.lemmas.Bool.{both_ways}

pub apart : {A : Type 0} (test : A → Bool) (a b : A) → test a ≡ true → test b ≡ false → a ≡ b → ⊥
apart test a b t f e = both_ways (test b) f (subst (λ x. test x ≡ true) e t)
