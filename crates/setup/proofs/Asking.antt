-- What `options_of` and `arguments_of` find is what the table says of arguments.
use Rattle.std.proofs.Common.{◌≡◌, ◌∙◌, sym, ap, subst, refl, ℕ, ◌≤◌, true, ⊎_elim, List, [], ◌∷◌, ◌++◌, append-nil, Some, None, Option, arith}
use Rattle.std.specs.Prelude.{◌&&◌, codes, nat_le}
use Rattle.std.specs.Option.{option_map, option_and_then}
use Rattle.std.specs.Str.{bytes_eq}
use Rattle.std.proofs.lemmas.Bool.Decides.{nat_tests}
use Rattle.std.proofs.lemmas.Slice.Eq.{bytes_eq-Decides}
use Rattle.commands.specs.Numbers.{number_of}
use Rattle.commands.specs.Table.{Finds, Number}
use Rattle.commands.proofs.Numerals.{either, number_of-Number, Number-number_of}
use Rattle.commands.proofs.Table.{mapped}
use Rattle.setup.specs.Options as table
use Rattle.setup.specs.Options.{setting_named, setting_of, alone, together, options_with, options_of, arguments_of, Told, Sets, Asks, Names, named}
use Rattle.setup.specs.declared.options.Options.{Options}
use Rattle.setup.specs.declared.options.Ram.{Ram as Words}
use Rattle.setup.specs.declared.options.Setting.{Setting}
use Rattle.setup.specs.declared.options.Setting.TheVariants.{Shield, Ram}
use Rattle.setup.specs.declared.options.WordRange.{WordRange}

-- a value behind a step that may give none came from one before it
stepped : {A B : Type 0} (f : A → Option B) (o : Option A) (y : B) → option_and_then f o ≡ Some y → (x : A) × (o ≡ Some x) × (f x ≡ Some y)
stepped f None y h = cc
stepped f (Some x) y h = (x, refl, h)

-- three arguments, by the setting that they are read as
named-Sets : (name first second : List ℕ) (a b : ℕ) (s : Setting) → Number first a → Number second b → setting_named name a b ≡ Some s → Sets (name ∷ first ∷ second ∷ []) s
named-Sets name first second a b s from to h =
    let spelled : (word : List ℕ) (t : Setting) → Sets (word ∷ first ∷ second ∷ []) t → bytes_eq name word ≡ true → Some t ≡ Some s → Sets (name ∷ first ∷ second ∷ []) s
    = λ word t sets same is. let whole : t ≡ s = cc in
    subst (Sets (name ∷ first ∷ second ∷ [])) whole (subst (λ n. Sets (n ∷ first ∷ second ∷ []) t) (sym ((bytes_eq-Decides name word).0 same)) sets) in
    ⊎_elim
    (λ shield. spelled (codes "--shield") _ (table.shield from to) shield.0 shield.1)
    (λ others. ⊎_elim
    (λ (ram : ((bytes_eq name (codes "--ram") && nat_le b 65536) ≡ true) × (Some (Ram (record { at = a; words = b })) ≡ Some s)).
    spelled (codes "--ram") _ (table.ram from to (grind (arith, nat_tests, ram.0))) (grind (arith, nat_tests, ram.0)) ram.1)
    (λ (none : None ≡ Some s). cc)
    (either _ _ _ s others))
    (either _ _ _ s h)

setting_of-Sets : (name first second : List ℕ) (s : Setting) → setting_of name first second ≡ Some s → Sets (name ∷ first ∷ second ∷ []) s
setting_of-Sets name first second s h =
    let a = stepped _ (number_of first) s h in
    let b = stepped _ (number_of second) s a.2 in
    named-Sets name first second a.0 b.0 s (Number-number_of first a.0 a.1) (Number-number_of second b.0 b.1) b.2

-- no option, and both
abbrev plain : Options
plain = record { shield = None; ram = None }

abbrev both : WordRange → Words → Options
both s r = record { shield = Some s; ram = Some r }

alone-Asks : (ws : List (List ℕ)) (one : Setting) (o : Options) → Sets ws one → Some (alone one) ≡ Some o → Asks ws o
alone-Asks ws (Shield s) o sets h = let same : alone (Shield s) ≡ o = cc in subst (Asks ws) same (table.shield sets)
alone-Asks ws (Ram r) o sets h = let same : alone (Ram r) ≡ o = cc in subst (Asks ws) same (table.ram sets)

together-Asks : (ws vs : List (List ℕ)) (one other : Setting) (o : Options) → Sets ws one → Sets vs other → together one other ≡ Some o → Asks (ws ++ vs) o
together-Asks ws vs (Shield s) (Shield t) o first second h = cc
together-Asks ws vs (Shield s) (Ram r) o first second h = let same : both s r ≡ o = cc in subst (Asks (ws ++ vs)) same (table.shield_first first second)
together-Asks ws vs (Ram r) (Shield s) o first second h = let same : both s r ≡ o = cc in subst (Asks (ws ++ vs)) same (table.ram_first first second)
together-Asks ws vs (Ram r) (Ram t) o first second h = cc

options_with-Asks : (a b c : List ℕ) (one : Setting) (others : List (List ℕ)) (o : Options) → Sets (a ∷ b ∷ c ∷ []) one → options_with one others ≡ Some o → Asks (a ∷ b ∷ c ∷ others) o
options_with-Asks a b c one [] o sets h = alone-Asks _ one o sets h
options_with-Asks a b c one (d ∷ []) o sets h = cc
options_with-Asks a b c one (d ∷ e ∷ []) o sets h = cc
options_with-Asks a b c one (d ∷ e ∷ f ∷ []) o sets h =
    let other = stepped (together one) (setting_of d e f) o h in
    together-Asks _ _ one other.0 o sets (setting_of-Sets d e f other.0 other.1) other.2
options_with-Asks a b c one (d ∷ e ∷ f ∷ g ∷ rest) o sets h = cc

options_of-Asks : (ws : List (List ℕ)) (o : Options) → options_of ws ≡ Some o → Asks ws o
options_of-Asks [] o h = let same : plain ≡ o = cc in subst (Asks []) same table.neither
options_of-Asks (a ∷ []) o h = cc
options_of-Asks (a ∷ b ∷ []) o h = cc
options_of-Asks (a ∷ b ∷ c ∷ others) o h =
    let one = stepped (λ s. options_with s others) (setting_of a b c) o h in
    options_with-Asks a b c one.0 others o (setting_of-Sets a b c one.0 one.1) one.2

-- and the other way: arguments that set something are read as that, whatever stands behind them
Sets-options_of : (ws : List (List ℕ)) (s : Setting) → Sets ws s → (others : List (List ℕ)) → options_of (ws ++ others) ≡ options_with s others
Sets-options_of ws s (table.shield {from = from} {to = to} {a = a} {b = b} first second) others = rw (number_of-Number from a first, number_of-Number to b second) refl
Sets-options_of ws s (table.ram {at = at} {words = words} {a = a} {n = n} first second few) others =
    let within : nat_le n 65536 ≡ true = grind (arith, nat_tests) in
    rw (number_of-Number at a first, number_of-Number words n second, within) refl

Sets-options_with : (one : Setting) (vs : List (List ℕ)) (s : Setting) → Sets vs s → options_with one vs ≡ together one s
Sets-options_with one vs s (table.shield {from = from} {to = to} {a = a} {b = b} first second) = rw (number_of-Number from a first, number_of-Number to b second) refl
Sets-options_with one vs s (table.ram {at = at} {words = words} {a = a} {n = n} first second few) =
    let within : nat_le n 65536 ≡ true = grind (arith, nat_tests) in
    rw (number_of-Number at a first, number_of-Number words n second, within) refl

one_set : (ws : List (List ℕ)) (s : Setting) → Sets ws s → options_of ws ≡ Some (alone s)
one_set ws s sets = subst (λ l. options_of l ≡ Some (alone s)) (append-nil ws) (Sets-options_of ws s sets [])

both_set : (ws vs : List (List ℕ)) (one other : Setting) → Sets ws one → Sets vs other → options_of (ws ++ vs) ≡ together one other
both_set ws vs one other first second = Sets-options_of ws one first vs ∙ Sets-options_with one vs other second

Asks-options_of : (ws : List (List ℕ)) (o : Options) → Asks ws o → options_of ws ≡ Some o
Asks-options_of ws o table.neither = refl
Asks-options_of ws o (table.shield {s = s} sets) = one_set ws (Shield s) sets
Asks-options_of ws o (table.ram {r = r} sets) = one_set ws (Ram r) sets
Asks-options_of us o (table.shield_first {ws = ws} {vs = vs} {s = s} {r = r} first second) = both_set ws vs (Shield s) (Ram r) first second
Asks-options_of us o (table.ram_first {ws = ws} {vs = vs} {s = s} {r = r} first second) = both_set ws vs (Ram r) (Shield s) first second

pub arguments_of-Names : (ws : List (List ℕ)) (t : Told) → arguments_of ws ≡ Some t → Names ws t
arguments_of-Names [] t h = cc
arguments_of-Names (file ∷ options) t h =
    let o = mapped (λ o. record { file = file; options = o }) (options_of options) t h in
    subst (Names (file ∷ options)) o.2 (named (options_of-Asks options o.0 o.1))

pub Names-arguments_of : (ws : List (List ℕ)) (t : Told) → Names ws t → arguments_of ws ≡ Some t
Names-arguments_of ws t (named {file = file} {options = options} {o = o} asks) = ap (option_map (λ p. record { file = file; options = p })) (Asks-options_of options o asks)

pub arguments_found : (ws : List (List ℕ)) (r : Option Told) → r ≡ arguments_of ws → Finds (Names ws) r
arguments_found ws r h = subst (Finds (Names ws)) (sym h) (record { found = arguments_of-Names ws; only = Names-arguments_of ws })
