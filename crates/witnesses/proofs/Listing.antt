-- Listings of no words, and of one; what is printed for a file.
use Rattle.std.proofs.Common.{◌≡◌, ℕ, eqb, Ok, Err, List, [], ◌∷◌, ◌++◌, length, get_or, refl, sym, ap, ◌∙◌, subst, arith, append-nil}
use Rattle.std.specs.Fmt.{digits}
use Rattle.std.specs.Prelude.{codes, pos}
use Rattle.benchfile.specs.declared.refusals.Refusal.TheVariants.{NotBenchFile}
use Rattle.isa.specs.Reading.{Reads}
use Rattle.report.specs.Lines.{summary_of}
use Rattle.report.specs.Listing.{Adds, Listed, Lists, nothing, instruction, none}
use Rattle.witnesses.proofs.Apart.{apart}
use Rattle.witnesses.proofs.Readings.{reads}
use Rattle.witnesses.specs.Files.{line}
use Rattle.witnesses.specs.Machines.{word}
use Rattle.witnesses.specs.Reading.{addi}
use Rattle.word_listing.specs.Output.{Answers}

abbrev first : List ℕ → ℕ
first [] = 0
first (w ∷ ws) = w

-- without words there are no lines, and none is counted
no_lines : (address : ℕ) (ws text : List ℕ) (n : ℕ) → Listed address ws text n → length ws ≡ 0 → text ≡ []
no_lines a ws text n nothing e = refl
no_lines a ws text n (instruction {words = vs} i r l) e = absurd (omega arith)
no_lines a ws text n (none {words = vs} r l) e = absurd (omega arith)

none_counted : (address : ℕ) (ws text : List ℕ) (n : ℕ) → Listed address ws text n → length ws ≡ 0 → n ≡ 0
none_counted a ws text n nothing e = refl
none_counted a ws text n (instruction {words = vs} i r l) e = absurd (omega arith)
none_counted a ws text n (none {words = vs} r l) e = absurd (omega arith)

-- a word that reads as an instruction is counted
counted : (address : ℕ) (ws text : List ℕ) (n : ℕ) → Listed address ws text n → first ws ≡ word → n ≡ 0 → ⊥
counted a ws text n nothing e z = apart (λ k. eqb k 0) 0 word refl refl e
counted a ws text n (instruction {count = k} i r l) e z = omega arith
counted a ws text n (none r l) e z = r (addi (pos 5)) (subst (λ w. Reads w (addi (pos 5))) (sym e) reads)

pub one_word : Listed 0 (word ∷ []) line 1 × (Listed 0 (word ∷ []) line 0 → ⊥)
one_word = (instruction (addi (pos 5)) reads nothing, λ l. counted 0 (word ∷ []) line 0 l refl refl)

pub no_word : Listed 0 [] [] 0 × (Listed 0 [] (codes "a") 0 → ⊥)
no_word = (nothing, λ l. apart (λ t. eqb (length t) 1) (codes "a") [] refl refl (no_lines 0 [] (codes "a") 0 l refl))

same_text : (before after : List ℕ) (n : ℕ) → Adds 0 [] before after n → after ≡ before
same_text before after n a = a.longer ∙ ap (λ l. before ++ l) (no_lines 0 [] a.lines n a.listed refl) ∙ append-nil before

pub added : Adds 0 [] (codes "a") (codes "a") 0 × (Adds 0 [] (codes "a") (codes "ab") 0 → ⊥) × (Adds 0 [] (codes "a") (codes "a") 1 → ⊥)
added = (
  record { lines = []; longer = refl; listed = nothing },
  λ a. apart (λ t. eqb (length t) 2) (codes "ab") (codes "a") refl refl (same_text (codes "a") (codes "ab") 0 a),
  λ a. apart (λ n. eqb n 1) 1 0 refl refl (none_counted 0 [] a.lines 1 a.listed refl),
)

-- the listing of no words is the line of the counts
only_counts : (bytes : List ℕ) → Lists 0 [] bytes → bytes ≡ summary_of 0 0
only_counts bytes l =
    l.whole
    ∙ ap (λ t. t ++ summary_of 0 l.instructions) (no_lines 0 [] l.lines l.instructions l.listed refl)
    ∙ ap (summary_of 0) (none_counted 0 [] l.lines l.instructions l.listed refl)

pub counts_listed : Lists 0 [] (summary_of 0 0) × (Lists 0 [] [] → ⊥) × (Lists 0 [] (summary_of 0 1) → ⊥)
unfolding digits
counts_listed = (
  record { lines = []; instructions = 0; listed = nothing; whole = refl },
  λ l. apart (λ t. eqb (length t) 0) [] (summary_of 0 0) refl refl (only_counts [] l),
  λ l. apart (λ t. eqb (get_or t 9 0) 49) (summary_of 0 1) (summary_of 0 0) refl refl (only_counts (summary_of 0 1) l),
)

pub refused_told : Answers (Err NotBenchFile) (codes "file 11\n") × (Answers (Err NotBenchFile) (codes "file 12\n") → ⊥)
unfolding digits
refused_told = (refl, λ e. apart (λ t. eqb (get_or t 6 0) 50) (codes "file 12\n") (codes "file 11\n") refl refl e)
