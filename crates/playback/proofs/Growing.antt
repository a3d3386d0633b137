-- A text grows line by line.
use Rattle.std.proofs.Common.{◌≡◌, ℕ, List, [], ◌++◌, sym, ap, ◌∙◌, append_assoc, append-nil}

-- a line was added, with what follows it
on : (x y z rest : List ℕ) → x ≡ y ++ z → x ++ rest ≡ y ++ (z ++ rest)
on x y z rest e = ap (λ (n : List ℕ). n ++ rest) e ∙ append_assoc y z rest

-- a line was added, and the rest makes the whole
pub grown : (before line rest after whole : List ℕ) → after ≡ before ++ line → before ++ (line ++ rest) ≡ whole → after ++ rest ≡ whole
grown before line rest after whole e h = on after before line rest e ∙ h

-- nothing is left
pub ended : (before whole : List ℕ) → before ++ [] ≡ whole → before ≡ whole
ended before whole h = sym (append-nil before) ∙ h

-- six pieces, one after another
pub six : (a b c d e before r s t u v w : List ℕ) → a ≡ before ++ r → b ≡ a ++ s → c ≡ b ++ t → d ≡ c ++ u → e ≡ d ++ v →
    e ++ w ≡ before ++ (r ++ (s ++ (t ++ (u ++ (v ++ w)))))
six a b c d e before r s t u v w f g h k l =
    on e d v w l ∙ on d c u (v ++ w) k ∙ on c b t (u ++ (v ++ w)) h ∙ on b a s (t ++ (u ++ (v ++ w))) g ∙ on a before r (s ++ (t ++ (u ++ (v ++ w)))) f
