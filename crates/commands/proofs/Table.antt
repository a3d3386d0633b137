-- What is read of a line is what the table says.
use Rattle.std.proofs.Common.{◌≡◌, sym, ap, subst, refl, ℕ, true, ⊎_elim, List, [], ◌∷◌, ◌++◌, drop, Some, None, Option, Bool}
use Rattle.std.specs.Prelude.{codes}
use Rattle.std.specs.List.{find, AllByRecursion}
use Rattle.std.specs.Option.{option_map, option_map_or}
use Rattle.std.specs.Str.{bytes_eq}
use Rattle.std.proofs.lemmas.Slice.Eq.{bytes_eq-Decides}
use Rattle.bench.specs.declared.look.Look.{Look}
use Rattle.bench.specs.declared.look.Look.TheVariants as looks
use Rattle.commands.specs.Numbers.{number_in, number_of}
use Rattle.commands.specs.Reading.{register_of, run_of, looking_at, look_of, command_of, line_of}
use Rattle.commands.specs.Table as table
use Rattle.commands.specs.Table.{Names, Says, Tells, Reads}
use Rattle.commands.specs.Words.{name_of, word_of, looks_by_name, commands_by_word}
use Rattle.commands.specs.declared.command.Command.{Command}
use Rattle.commands.specs.declared.command.Line.{Line}
use Rattle.commands.specs.declared.command.Line.TheVariants as lines
use Rattle.commands.proofs.Numerals.{either, begins-is, number_in-Numeral, Numeral-number_in, number_of-Number, Number-number_of}

-- what holds of each element that passes a test holds of the one that a search finds
found : {A : Type 0} (test : A → Bool) (P : A → Type 0) (xs : List A) (x : A) → AllByRecursion (λ y. test y ≡ true → P y) xs → find test xs ≡ Some x → P x
found test P [] x all h = cc
found test P (y ∷ ys) x all h =
    ⊎_elim
    (λ (here : (test y ≡ true) × (Some y ≡ Some x)). let same : y ≡ x = cc in subst P same (all.0 here.0))
    (λ (later : find test ys ≡ Some x). found test P ys x all.1 later)
    (either (test y) (Some y) (find test ys) x h)

-- a value under a function came from one
pub mapped : {A B : Type 0} (f : A → B) (o : Option A) (y : B) → option_map f o ≡ Some y → (x : A) × (o ≡ Some x) × (f x ≡ y)
mapped f None y h = cc
mapped f (Some x) y h = (x, refl, cc)

-- a text that equals a word stands for what the word stands for
spelled : {A : Type 0} (R : List ℕ → A → Type 0) (word text : List ℕ) (x : A) → R word x → bytes_eq word text ≡ true → R text x
spelled R word text x h same = subst (λ (t : List ℕ). R t x) ((bytes_eq-Decides word text).0 same) h

look_of-Names : (text : List ℕ) (at : Look) → Names text at → look_of text ≡ Some at
look_of-Names text at (table.register {text = digits} {n = n} is) = ap (option_map register_of) (number_in-Numeral 10 digits n is)
look_of-Names text at (table.byte {text = digits} {n = n} is) = ap (option_map looks.Byte) (number_of-Number digits n is)
look_of-Names text at table.pc = refl
look_of-Names text at table.tr = refl
look_of-Names text at table.ir = refl
look_of-Names text at table.dr = refl
look_of-Names text at table.ar = refl
look_of-Names text at table.flg = refl
look_of-Names text at table.phase = refl
look_of-Names text at table.clocks = refl
look_of-Names text at table.retired = refl
look_of-Names text at table.journal = refl

line_of-Says : (text : List ℕ) (c : Command) → Says text c → line_of text ≡ lines.Command c
line_of-Says text c table.tick = refl
line_of-Says text c table.step = refl
line_of-Says text c (table.run {text = digits} {n = n} is) =
    ap (λ o. option_map_or lines.Command (option_map run_of o) lines.Other) (number_of-Number digits n is)
line_of-Says text c table.back = refl
line_of-Says text c (table.look {text = place} {at = at} is) =
    ap (λ o. option_map_or lines.Command (option_map looking_at o) lines.Other) (look_of-Names place at is)
line_of-Says text c table.show = refl
line_of-Says text c table.quit = refl

named : (text : List ℕ) (at : Look) → find (λ l. bytes_eq (name_of l) text) looks_by_name ≡ Some at → Names text at
named text at h =
    found (λ l. bytes_eq (name_of l) text) (Names text) looks_by_name at (
      spelled Names _ text _ table.pc,
      (
        spelled Names _ text _ table.tr,
        (
          spelled Names _ text _ table.ir,
          (
            spelled Names _ text _ table.dr,
            (
              spelled Names _ text _ table.ar,
              (
                spelled Names _ text _ table.flg,
                (
                  spelled Names _ text _ table.phase,
                  (
                    spelled Names _ text _ table.clocks,
                    (
                      spelled Names _ text _ table.retired,
                      (
                        spelled Names _ text _ table.journal,
                        tt,
                      ),
                    ),
                  ),
                ),
              ),
            ),
          ),
        ),
      ),
    )
    h

Names-look_of : (text : List ℕ) (at : Look) → look_of text ≡ Some at → Names text at
Names-look_of text at h =
    ⊎_elim
    (λ byte. let m = mapped looks.Byte (number_of (drop 5 text)) at byte.1 in
    subst (λ (t : List ℕ). Names t at) (sym (begins-is text (codes "byte ") byte.0))
    (subst (λ (l : Look). Names (codes "byte " ++ drop 5 text) l) m.2 (table.byte (Number-number_of (drop 5 text) m.0 m.1))))
    (λ others. ⊎_elim
    (λ register. let m = mapped register_of (number_in 10 (drop 1 text)) at register.1 in
    subst (λ (t : List ℕ). Names t at) (sym (begins-is text (codes "x") register.0))
    (subst (λ (l : Look). Names (codes "x" ++ drop 1 text) l) m.2 (table.register (Numeral-number_in 10 (drop 1 text) m.0 m.1))))
    (named text at)
    (either _ _ _ at others))
    (either _ _ _ at h)

worded : (text : List ℕ) (c : Command) → find (λ k. bytes_eq (word_of k) text) commands_by_word ≡ Some c → Says text c
worded text c h =
    found (λ k. bytes_eq (word_of k) text) (Says text) commands_by_word c (
      spelled Says _ text _ table.tick,
      (
        spelled Says _ text _ table.step,
        (
          spelled Says _ text _ table.back,
          (
            spelled Says _ text _ table.show,
            (
              spelled Says _ text _ table.quit,
              tt,
            ),
          ),
        ),
      ),
    )
    h

Says-command_of : (text : List ℕ) (c : Command) → command_of text ≡ Some c → Says text c
Says-command_of text c h =
    ⊎_elim
    (λ run. let m = mapped run_of (number_of (drop 4 text)) c run.1 in
    subst (λ (t : List ℕ). Says t c) (sym (begins-is text (codes "run ") run.0))
    (subst (λ (k : Command). Says (codes "run " ++ drop 4 text) k) m.2 (table.run (Number-number_of (drop 4 text) m.0 m.1))))
    (λ others. ⊎_elim
    (λ look. let m = mapped looking_at (look_of (drop 5 text)) c look.1 in
    subst (λ (t : List ℕ). Says t c) (sym (begins-is text (codes "look ") look.0))
    (subst (λ (k : Command). Says (codes "look " ++ drop 5 text) k) m.2 (table.look (Names-look_of (drop 5 text) m.0 m.1))))
    (worded text c)
    (either _ _ _ c others))
    (either _ _ _ c h)

tells : (text : List ℕ) (o : Option Command) → ((c : Command) → o ≡ Some c → Says text c) → Tells text (option_map_or lines.Command o lines.Other)
tells text None says = table.other
tells text (Some c) says = table.says (says c refl)

line_of-Tells : (text : List ℕ) → Tells text (line_of text)
line_of-Tells [] = table.empty refl
line_of-Tells (c ∷ cs) = tells (c ∷ cs) (command_of (c ∷ cs)) (Says-command_of (c ∷ cs))

none : (text : List ℕ) → text ≡ [] → line_of text ≡ lines.Empty
none text h = ap line_of h

pub reads : (text : List ℕ) (r : Line) → r ≡ line_of text → Reads text r
reads text r h = subst (Reads text) (sym h) (record { tells = line_of-Tells text; none = none text; only = line_of-Says text })
