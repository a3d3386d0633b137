-- The lines of a script, one after another.
use Rattle.std.proofs.Common.{◌≡◌, ◌∙◌, refl, sym, ap, ℕ, zero, suc, ◌+◌, ◌<◌, ◌≤◌, List, [], ◌∷◌, ◌++◌, length, drop, position, Some, None, Option, Result, Ok, Err, arith}
use Rattle.std.specs.Prelude.{◌==◌, MatchOption}
use Rattle.std.specs.Option.{option_map_or}
use Rattle.std.proofs.lemmas.List.{append-nil, append_assoc, length-drop}
use Rattle.session.specs.declared.call.Call.{Call}
use Rattle.commands.specs.declared.command.Line.{Line}
use Rattle.commands.specs.Lines.{first_line, after_first_line, lines, lines_of_first}
use Rattle.commands.specs.Reading.{line_of}
use Rattle.script.specs.Script.{said, before, and_then, calls_of}

after_end : (text : List ℕ) (o : Option ℕ) → 0 < length text → length (option_map_or (λ end. drop (end + 1) text) o []) < length text
after_end text None some = some
after_end text (Some end) some = rw (length-drop (end + 1) text) (omega (arith, some))

-- what follows the first line is shorter than all
shorter : (text : List ℕ) → 0 < length text → length (after_first_line text) < length text
shorter text some = after_end text (position (λ byte. byte == 10) text) some

-- a larger number of lines adds none where there is room for all
enough : (m k : ℕ) (text : List ℕ) → length text ≤ m → length text ≤ k → lines_of_first m text ≡ lines_of_first k text
unfolding lines_of_first
enough zero zero text a b = refl
enough zero (suc k) [] a b = refl
enough zero (suc k) (c ∷ cs) a b = absurd (omega (arith, a))
enough (suc m) zero [] a b = refl
enough (suc m) zero (c ∷ cs) a b = absurd (omega (arith, b))
enough (suc m) (suc k) [] a b = refl
enough (suc m) (suc k) (c ∷ cs) a b =
    let less : length (after_first_line (c ∷ cs)) < length (c ∷ cs) = shorter (c ∷ cs) (omega arith) in
    ap (λ ls. first_line (c ∷ cs) ∷ ls) (enough m k (after_first_line (c ∷ cs)) (omega (arith, a, less)) (omega (arith, b, less)))

-- the first line is read, and then the others
next : (n : ℕ) (text : List ℕ) → 0 < length text → calls_of n (lines text) ≡ and_then (said n (line_of (first_line text))) (calls_of (n + 1) (lines (after_first_line text)))
unfolding lines_of_first
next n [] some = absurd (omega (arith, some))
next n (c ∷ cs) some =
    let less : length (after_first_line (c ∷ cs)) < length (c ∷ cs) = shorter (c ∷ cs) some in
    ap (λ ls. and_then (said n (line_of (first_line (c ∷ cs)))) (calls_of (n + 1) ls)) (enough (length cs) (length (after_first_line (c ∷ cs))) (after_first_line (c ∷ cs)) (omega (arith, less)) (omega arith))

none : (n : ℕ) → calls_of n (lines []) ≡ Ok []
unfolding lines_of_first
none n = refl

-- calls before calls
before-before : (cs ds : List Call) (r : Result (List Call) ℕ) → before cs (before ds r) ≡ before (cs ++ ds) r
before-before cs ds (Ok es) = ap Ok (sym (append_assoc cs ds es))
before-before cs ds (Err n) = refl

pub none_before : (r : Result (List Call) ℕ) → before [] r ≡ r
none_before (Ok cs) = refl
none_before (Err n) = refl

-- r is what a script gives, of which these calls were read, up to `text`: the first line of that is read as well
read : (r : Result (List Call) ℕ) (cs : List Call) (n : ℕ) (text first after : List ℕ) (l : Line) (o : Result (Option (List Call)) ℕ) → r ≡ before cs (calls_of n (lines text)) → 0 < length text → first ≡ first_line text → after ≡ after_first_line text → l ≡ line_of first → said n l ≡ o → r ≡ before cs (and_then o (calls_of (n + 1) (lines after)))
read r cs n text first after l o so_far some is_first is_after is_line says =
    so_far ∙ ap (before cs) (rw (is_after, sym says, is_line, is_first) (next n text some))

pub more_read : (r : Result (List Call) ℕ) (cs ds more : List Call) (n : ℕ) (text first after : List ℕ) (l : Line) → r ≡ before cs (calls_of n (lines text)) → 0 < length text → first ≡ first_line text → after ≡ after_first_line text → l ≡ line_of first → said n l ≡ Ok (Some more) → ds ≡ cs ++ more → r ≡ before ds (calls_of (n + 1) (lines after))
more_read r cs ds more n text first after l so_far some is_first is_after is_line says added =
    read r cs n text first after l (Ok (Some more)) so_far some is_first is_after is_line says
    ∙ before-before cs more (calls_of (n + 1) (lines after))
    ∙ ap (λ es. before es (calls_of (n + 1) (lines after))) (sym added)

pub quit_read : {B : Type 0} (r : Result (List Call) ℕ) (cs : List Call) (n : ℕ) (text first : List ℕ) (l : Line) (o : Option B) (Q : B → Type 0) → r ≡ before cs (calls_of n (lines text)) → 0 < length text → first ≡ first_line text → l ≡ line_of first → o ≡ None → MatchOption o (said n l ≡ Ok None) Q → r ≡ Ok cs
quit_read r cs n text first l None Q so_far some is_first is_line none says =
    read r cs n text first (after_first_line text) l (Ok None) so_far some is_first refl is_line says ∙ ap Ok (append-nil cs)
quit_read r cs n text first l (Some more) Q so_far some is_first is_line none says = cc

pub other_read : (r : Result (List Call) ℕ) (cs : List Call) (n m : ℕ) (text first : List ℕ) (l : Line) → r ≡ before cs (calls_of n (lines text)) → 0 < length text → first ≡ first_line text → l ≡ line_of first → said n l ≡ Err m → r ≡ Err m
other_read r cs n m text first l so_far some is_first is_line says =
    read r cs n text first (after_first_line text) l (Err m) so_far some is_first refl is_line says

-- there is no more
pub all_read : (r : Result (List Call) ℕ) (cs : List Call) (n : ℕ) (text : List ℕ) → r ≡ before cs (calls_of n (lines text)) → text ≡ [] → r ≡ Ok cs
all_read r cs n text so_far none_left = so_far ∙ ap (λ (t : List ℕ). before cs (calls_of n (lines t))) none_left ∙ ap (before cs) (none n) ∙ ap Ok (append-nil cs)

-- what is left gets shorter
pub less_left : (text after : List ℕ) → after ≡ after_first_line text → 0 < length text → length after < length text
less_left text after is_after some = rw is_after (shorter text some)

pub ruleset reading = (other_read, all_read)
