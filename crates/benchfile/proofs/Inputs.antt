-- What is taken of an input whose bytes are known.
-- Assumes nothing.
use Rattle.std.proofs.Common.{◌≡◌, ℕ, List, [], ◌++◌, take, Option, None, Some, IfSome, ap, ◌∙◌}
use Rattle.std.specs.Option.{option_map}
use Rattle.benchfile.specs.Format.{file_of}
use Rattle.benchfile.specs.Laws.{Decides}

pub taken : (n : ℕ) (known : Option (List ℕ)) (start got : List ℕ) → start ≡ [] → IfSome (option_map (take n) known) (λ xs. got ≡ start ++ xs) → IfSome known (λ bytes. got ≡ take n bytes)
taken n None start got empty h = tt
taken n (Some bytes) start got empty h = h ∙ ap (λ (x : List ℕ). x ++ take n bytes) empty

-- so many first bytes get the verdict of all, where so many decide it
pub same_verdict : (n : ℕ) (known : Option (List ℕ)) (got : List ℕ) → Decides n → IfSome known (λ bytes. got ≡ take n bytes) → IfSome known (λ bytes. file_of got ≡ file_of bytes)
same_verdict n None got enough h = tt
same_verdict n (Some bytes) got enough h = ap file_of h ∙ enough bytes
