-- Lists of calls and of answers.
use Rattle.std.proofs.Common.{◌≤◌, Ok, [], ◌∷◌, arith}
use Rattle.session.specs.Lists.{NeverShort}
use Rattle.session.specs.declared.call.Answer.TheVariants as answer
use Rattle.witnesses.specs.Benches.{made_in}

not_before : NeverShort 0 (answer.Back (Ok 1) ∷ answer.Stepped (Ok (made_in 3)) ∷ []) → ⊥
not_before s = let l : 1 ≤ 0 = s.0 in omega arith

pub short : NeverShort 0 (answer.Stepped (Ok (made_in 3)) ∷ answer.Back (Ok 1) ∷ []) × (NeverShort 0 (answer.Back (Ok 1) ∷ answer.Stepped (Ok (made_in 3)) ∷ []) → ⊥)
short = ((omega arith, (omega arith, tt)), not_before)
