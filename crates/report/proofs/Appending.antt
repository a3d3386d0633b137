-- A listing grows at its end.
use Rattle.std.proofs.Common.{◌≡◌, ℕ, suc, ◌+◌, ◌*◌, ◌%◌, ◌^◌, ◌<◌, ◌≤◌, Bool, true, false, List, [], ◌∷◌, ◌++◌, length, get_or, take, is_ok, Ok, Err, codes, Result, sym, refl, ap, ◌∙◌, subst, append_assoc, append-nil, arith, length-take-le, MatchResult}
use mir.Val.{bool_byte}
use Rattle.std.proofs.lemmas.List.{take_more}
use Rattle.isa.specs.Reading.{Reads}
use Rattle.isa.specs.Refusals.{number_of}
use Rattle.isa.specs.declared.instruction.Instruction.{Instruction}
use Rattle.isa.specs.declared.refusal.Refusal.{Refusal}
use Rattle.assembly.specs.Assembly.{text_of}
use Rattle.report.specs.Lines.{line_of, reading_of, summary_of}
use Rattle.report.specs.Listing.{Listed, Adds, Lists}
use Rattle.report.specs.Listing.Listed.{nothing, instruction, none}

pub listed_same : {a b : ℕ} {us vs s t : List ℕ} {m n : ℕ} → a ≡ b → us ≡ vs → s ≡ t → m ≡ n → Listed a us s m → Listed b vs t n
listed_same {a} {b} {us} {vs} {s} {t} {m} {n} o w p q h =
    subst (λ (x : ℕ). Listed x vs t n) o (subst (λ (x : List ℕ). Listed a x t n) w (subst (λ (x : ℕ). Listed a us t x) q (subst (λ (x : List ℕ). Listed a us x m) p h)))

-- the listing of one word, of which the decoder answered r
listed_one : (address word : ℕ) (r : Result Instruction Refusal) → MatchResult r (λ i. Reads word i) (λ e. (number_of e ≡ 3) × ((i : Instruction) → Reads word i → ⊥)) → Listed address (word ∷ []) (line_of address word (reading_of r)) (bool_byte (is_ok r))
listed_one address word (Ok i) h = listed_same refl refl (append-nil _) refl (instruction i h nothing)
listed_one address word (Err e) h = listed_same refl refl (append-nil _) refl (none h.1 nothing)

next : (a k : ℕ) → (a + 4 * suc k) % 2 ^ 32 ≡ ((a + 4) % 2 ^ 32 + 4 * k) % 2 ^ 32
next a k = omega arith

-- one listing after another
listed_more : {address : ℕ} {words text : List ℕ} {count : ℕ} (more line : List ℕ) (n : ℕ) → address < 2 ^ 32 → Listed address words text count → Listed ((address + 4 * length words) % 2 ^ 32) more line n → Listed address (words ++ more) (text ++ line) (count + n)
listed_more more line n small (nothing {address = a}) h = listed_same (omega arith) refl refl (omega arith) h
listed_more more line n small (instruction {address = a} {word = w} {words = ws} {text = t} {count = m} i r l) h =
    listed_same refl refl (sym (append_assoc (line_of a w (text_of i)) t line)) (omega arith)
    (instruction i r (listed_more more line n (omega arith) l (listed_same (next a (length ws)) refl refl refl h)))
listed_more more line n small (none {address = a} {word = w} {words = ws} {text = t} {count = m} r l) h =
    listed_same refl refl (sym (append_assoc (line_of a w (codes "no instruction")) t line)) refl
    (none r (listed_more more line n (omega arith) l (listed_same (next a (length ws)) refl refl refl h)))

pub at_most_one : (b : Bool) → bool_byte b ≤ 1
at_most_one true = omega arith
at_most_one false = omega arith

pub no_words : (base : ℕ) (words text : List ℕ) → Adds base (take 0 words) text text 0
no_words base words text = record { lines = []; longer = sym (append-nil text); listed = nothing }

-- the line of word k of the words is added
pub one_more : (words : List ℕ) (base k address word n one : ℕ) (start before after : List ℕ) (r : Result Instruction Refusal) →
    MatchResult r (λ i. Reads word i) (λ e. (number_of e ≡ 3) × ((i : Instruction) → Reads word i → ⊥)) →
    base < 2 ^ 32 → k < length words → address ≡ (base + 4 * k) % 2 ^ 32 → word ≡ get_or words k 0 → after ≡ before ++ line_of address word (reading_of r) → one ≡ bool_byte (is_ok r) →
    Adds base (take k words) start before n → Adds base (take (k + 1) words) start after (n + one)
one_more words base k address word n one start before after r reads small within a w e count before_it =
    record {
      lines = before_it.lines ++ line_of address word (reading_of r);
      longer = e ∙ ap (λ (x : List ℕ). x ++ line_of address word (reading_of r)) before_it.longer ∙ append_assoc start before_it.lines _;
      listed = listed_same refl (sym (take_more words k 0 within)) refl (ap (λ (x : ℕ). n + x) (sym count))
          (listed_more (get_or words k 0 ∷ []) _ _ small before_it.listed
          (listed_same (a ∙ ap (λ (x : ℕ). (base + 4 * x) % 2 ^ 32) (sym (length-take-le k words (omega arith)))) (ap (λ (x : ℕ). x ∷ []) w) refl refl
          (listed_one address word r reads)));
    }

-- the lines of all words, and the line of the counts
pub lists : (base n : ℕ) (words start before after : List ℕ) → start ≡ [] → Adds base words start before n → after ≡ before ++ summary_of (length words) n → Lists base words after
lists base n words start before after empty adds e =
    record {
      lines = adds.lines;
      instructions = n;
      listed = adds.listed;
      whole = e ∙ ap (λ (x : List ℕ). x ++ summary_of (length words) n) (adds.longer ∙ ap (λ (x : List ℕ). x ++ adds.lines) empty);
    }
