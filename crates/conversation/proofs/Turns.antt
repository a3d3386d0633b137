-- The turns of a conversation.
use Rattle.std.proofs.Common.{◌≡◌, ◌∙◌, sym, ap, subst, refl, ℕ, ◌<◌, Bool, true, false, List, [], ◌∷◌, ◌++◌, length, append_assoc, append-nil, Some, None, Option}
use Rattle.std.specs.Prelude.{IfSome}
use Rattle.std.specs.Io.BufRead.{take_through, drop_through}
use Rattle.std.specs.Io.KnownBytes.{Keeps, Appends}
use Rattle.bench.specs.State.{State}
use Rattle.commands.specs.Lines.{first_line, after_first_line, lines, lines_of_first}
use Rattle.conversation.specs.Conversations.{conversation, led_to, followed, led, going_on, lines_taken, behind_lines, left_of, Partly, here, on, Turn}
use Rattle.conversation.specs.Replies.{reply, state_after}
use Rattle.conversation.proofs.Lines.{after_through, lines_read, nothing_read}

says_line : (s : State) (l : List ℕ) (ls : List (List ℕ)) → conversation s (l ∷ ls) ≡ followed (reply l s) (conversation (state_after l s) ls)
unfolding conversation
says_line s l ls = refl

leads_line : (s : State) (l : List ℕ) (ls : List (List ℕ)) → led_to s (l ∷ ls) ≡ led (reply l s) (state_after l s) (led_to (state_after l s) ls)
unfolding led_to
leads_line s l ls = refl

no_lines_said : (s : State) → conversation s (lines []) ≡ []
unfolding conversation lines_of_first
no_lines_said s = refl

no_lines_led : (s : State) → led_to s (lines []) ≡ s
unfolding led_to lines_of_first
no_lines_led s = refl

no_lines_left : (s : State) → left_of s [] ≡ []
unfolding lines_taken behind_lines lines_of_first
no_lines_left s = refl

takes_line : (s : State) (l : List ℕ) (ls : List (List ℕ)) (text : List ℕ) →
    behind_lines (lines_taken s (l ∷ ls)) text ≡ behind_lines (going_on (reply l s) (lines_taken (state_after l s) ls)) (after_first_line text)
unfolding lines_taken behind_lines
takes_line s l ls text = refl

none_behind : (text : List ℕ) → behind_lines 0 text ≡ text
unfolding behind_lines
none_behind text = refl

kept : (before : Option (List ℕ)) → Appends before before []
kept None = tt
kept (Some xs) = sym (append-nil xs)

flushed : (before written after : Option (List ℕ)) (sent : List ℕ) → Appends before written sent → Keeps written after → Appends before after sent
flushed None written after sent a k = tt
flushed (Some xs) None after sent a k = absurd a
flushed (Some xs) (Some ys) None sent a k = absurd k
flushed (Some xs) (Some ys) (Some zs) sent a k = k ∙ a

-- nothing was left to read
ended : (s : State) (bytes raw : List ℕ) (left before : Option (List ℕ)) → raw ≡ take_through 10 bytes → left ≡ Some (drop_through 10 bytes) → raw ≡ [] → Turn false s s bytes left before before
ended s bytes raw left before h left_none none =
    let empty : bytes ≡ [] = nothing_read bytes (sym none ∙ h) in
    record {
      rest = [];
      sent = [];
      reads = left_none ∙ ap (λ (b : List ℕ). Some (drop_through 10 b)) empty;
      wrote = kept before;
      says = ap (λ (b : List ℕ). conversation s (lines b)) empty ∙ no_lines_said s;
      leads = ap (λ (b : List ℕ). led_to s (lines b)) empty ∙ no_lines_led s;
      leaves = ap (left_of s) empty ∙ no_lines_left s;
      part = λ e u p. cc;
    }

pub turn_ended : (given left before : Option (List ℕ)) (s : State) (old raw : List ℕ) → old ≡ [] → IfSome given (λ xs. raw ≡ old ++ take_through 10 xs) →
    IfSome given (λ xs. left ≡ Some (drop_through 10 xs)) → raw ≡ [] → IfSome given (λ bytes. Turn false s s bytes left before before)
turn_ended None left before s old raw new read drops none = tt
turn_ended (Some bytes) left before s old raw new read drops none = ended s bytes raw left before (read ∙ ap (λ (o : List ℕ). o ++ take_through 10 bytes) new) drops none

-- what a line says, and what it leads to, by the answer to it
said : (s : State) (bytes raw line : List ℕ) (answer : Option (List ℕ)) → raw ≡ take_through 10 bytes → 0 < length raw → line ≡ first_line raw → answer ≡ reply line s →
    conversation s (lines bytes) ≡ followed answer (conversation (state_after line s) (lines (drop_through 10 bytes)))
said s bytes raw line answer read some first told =
    ap (conversation s) (lines_read bytes raw read some)
    ∙ ap (λ (l : List ℕ). conversation s (l ∷ lines (drop_through 10 bytes))) (sym first)
    ∙ says_line s line (lines (drop_through 10 bytes))
    ∙ ap (λ (a : Option (List ℕ)). followed a (conversation (state_after line s) (lines (drop_through 10 bytes)))) (sym told)

led_on : (s : State) (bytes raw line : List ℕ) (answer : Option (List ℕ)) → raw ≡ take_through 10 bytes → 0 < length raw → line ≡ first_line raw → answer ≡ reply line s →
    led_to s (lines bytes) ≡ led answer (state_after line s) (led_to (state_after line s) (lines (drop_through 10 bytes)))
led_on s bytes raw line answer read some first told =
    ap (led_to s) (lines_read bytes raw read some)
    ∙ ap (λ (l : List ℕ). led_to s (l ∷ lines (drop_through 10 bytes))) (sym first)
    ∙ leads_line s line (lines (drop_through 10 bytes))
    ∙ ap (λ (a : Option (List ℕ)). led a (state_after line s) (led_to (state_after line s) (lines (drop_through 10 bytes)))) (sym told)

left_on : (s : State) (bytes raw line : List ℕ) (answer : Option (List ℕ)) → raw ≡ take_through 10 bytes → 0 < length raw → line ≡ first_line raw → answer ≡ reply line s →
    left_of s bytes ≡ behind_lines (going_on answer (lines_taken (state_after line s) (lines (drop_through 10 bytes)))) (drop_through 10 bytes)
left_on s bytes raw line answer read some first told =
    let rest = drop_through 10 bytes in
    ap (λ (ls : List (List ℕ)). behind_lines (lines_taken s ls) bytes) (lines_read bytes raw read some)
    ∙ ap (λ (l : List ℕ). behind_lines (lines_taken s (l ∷ lines rest)) bytes) (sym first)
    ∙ takes_line s line (lines rest) bytes
    ∙ ap (λ (a : Option (List ℕ)). behind_lines (going_on a (lines_taken (state_after line s) (lines rest))) (after_first_line bytes)) (sym told)
    ∙ ap (behind_lines (going_on answer (lines_taken (state_after line s) (lines rest)))) (sym (after_through bytes))

part_on : (s t u : State) (bytes raw line : List ℕ) → raw ≡ take_through 10 bytes → 0 < length raw → line ≡ first_line raw → t ≡ state_after line s →
    Partly t (lines (drop_through 10 bytes)) u → Partly s (lines bytes) u
part_on s t u bytes raw line read some first after p =
    let rest = drop_through 10 bytes in
    subst (λ (ls : List (List ℕ)). Partly s ls u) (sym (lines_read bytes raw read some ∙ ap (λ (l : List ℕ). l ∷ lines rest) (sym first)))
    (on (subst (λ (v : State). Partly v (lines rest) u) after p))

-- a turn that is given up has read nothing, or a line
pub stopped_before : (given : Option (List ℕ)) (s t : State) → t ≡ s → IfSome given (λ bytes. Partly s (lines bytes) t)
stopped_before None s t same = tt
stopped_before (Some bytes) s t same = subst (Partly s (lines bytes)) (sym same) here

pub stopped_after : (given : Option (List ℕ)) (s t : State) (old raw line : List ℕ) → old ≡ [] → IfSome given (λ xs. raw ≡ old ++ take_through 10 xs) → 0 < length raw → line ≡ first_line raw →
    t ≡ state_after line s → IfSome given (λ bytes. Partly s (lines bytes) t)
stopped_after None s t old raw line new read some first after = tt
stopped_after (Some bytes) s t old raw line new read some first after =
    part_on s t t bytes raw line (read ∙ ap (λ (o : List ℕ). o ++ take_through 10 bytes) new) some first after here

-- some turns, and one that is given up
pub stopped_later : (given middle before after : Option (List ℕ)) (s t u : State) → IfSome given (λ bytes. Turn true s t bytes middle before after) →
    IfSome middle (λ rest. Partly t (lines rest) u) → IfSome given (λ bytes. Partly s (lines bytes) u)
stopped_later None middle before after s t u turns stopped = tt
stopped_later (Some bytes) None before after s t u turns stopped = absurd (let h = turns.reads in cc)
stopped_later (Some bytes) (Some rest) before after s t u turns stopped =
    let same : rest ≡ turns.rest = let h = turns.reads in cc in
    turns.part refl u (subst (λ (b : List ℕ). Partly t (lines b) u) same stopped)

pub stopped_now : (given middle before after : Option (List ℕ)) (s t : State) → IfSome given (λ bytes. Turn true s t bytes middle before after) → IfSome given (λ bytes. Partly s (lines bytes) t)
stopped_now None middle before after s t turns = tt
stopped_now (Some bytes) middle before after s t turns = turns.part refl t here

pub turn_quit : (given left before : Option (List ℕ)) (s t : State) (old raw line : List ℕ) → old ≡ [] → IfSome given (λ xs. raw ≡ old ++ take_through 10 xs) →
    IfSome given (λ xs. left ≡ Some (drop_through 10 xs)) → 0 < length raw → line ≡ first_line raw →
    None ≡ reply line s → t ≡ state_after line s → IfSome given (λ bytes. Turn false s t bytes left before before)
turn_quit None left before s t old raw line new read drops some first told after = tt
turn_quit (Some bytes) left before s t old raw line new read drops some first told after =
    let all : raw ≡ take_through 10 bytes = read ∙ ap (λ (o : List ℕ). o ++ take_through 10 bytes) new in
    record {
      rest = drop_through 10 bytes;
      sent = [];
      reads = drops;
      wrote = kept before;
      says = said s bytes raw line None all some first told;
      leads = led_on s bytes raw line None all some first told ∙ sym after;
      leaves = left_on s bytes raw line None all some first told ∙ none_behind (drop_through 10 bytes);
      part = λ e u p. cc;
    }

pub turn_answered : (given left before written after : Option (List ℕ)) (s t : State) (old raw line answer : List ℕ) → old ≡ [] → IfSome given (λ xs. raw ≡ old ++ take_through 10 xs) →
    IfSome given (λ xs. left ≡ Some (drop_through 10 xs)) → 0 < length raw → line ≡ first_line raw →
    Some answer ≡ reply line s → t ≡ state_after line s → Appends before written answer → Keeps written after → IfSome given (λ bytes. Turn true s t bytes left before after)
turn_answered None left before written after s t old raw line answer new read drops some first told moved wrote flush = tt
turn_answered (Some bytes) left before written after s t old raw line answer new read drops some first told moved wrote flush =
    let all : raw ≡ take_through 10 bytes = read ∙ ap (λ (o : List ℕ). o ++ take_through 10 bytes) new in
    record {
      rest = drop_through 10 bytes;
      sent = answer;
      reads = drops;
      wrote = flushed before written after answer wrote flush;
      says = said s bytes raw line (Some answer) all some first told ∙ ap (λ (u : State). answer ++ conversation u (lines (drop_through 10 bytes))) (sym moved);
      leads = led_on s bytes raw line (Some answer) all some first told ∙ ap (λ (u : State). led_to u (lines (drop_through 10 bytes))) (sym moved);
      leaves = left_on s bytes raw line (Some answer) all some first told ∙ ap (λ (u : State). left_of u (drop_through 10 bytes)) (sym moved);
      part = λ e u p. part_on s t u bytes raw line all some first moved p;
    }

appended : (before middle after : Option (List ℕ)) (a b : List ℕ) → Appends before middle a → Appends middle after b → Appends before after (a ++ b)
appended None middle after a b x y = tt
appended (Some xs) None after a b x y = absurd x
appended (Some xs) (Some ys) None a b x y = absurd y
appended (Some xs) (Some ys) (Some zs) a b x y = y ∙ ap (λ (t : List ℕ). t ++ b) x ∙ append_assoc xs a b

-- some turns and one more
pub turned : (more : Bool) (given middle left before written after : Option (List ℕ)) (s t u : State) → IfSome given (λ bytes. Turn true s t bytes middle before written) →
    IfSome middle (λ bytes. Turn more t u bytes left written after) → IfSome given (λ bytes. Turn more s u bytes left before after)
turned more None middle left before written after s t u one other = tt
turned more (Some bytes) None left before written after s t u one other = absurd (let h = one.reads in cc)
turned more (Some bytes) (Some rest) left before written after s t u one other =
    let same : rest ≡ one.rest = let h = one.reads in cc in
    record {
      rest = other.rest;
      sent = one.sent ++ other.sent;
      reads = other.reads;
      wrote = appended before written after one.sent other.sent one.wrote other.wrote;
      says = one.says ∙ ap (λ (b : List ℕ). one.sent ++ conversation t (lines b)) (sym same) ∙ ap (λ (x : List ℕ). one.sent ++ x) other.says ∙ sym (append_assoc one.sent other.sent _);
      leads = one.leads ∙ ap (λ (b : List ℕ). led_to t (lines b)) (sym same) ∙ other.leads;
      leaves = one.leaves ∙ ap (left_of t) (sym same) ∙ other.leaves;
      part = λ e v p. one.part refl v (subst (λ (b : List ℕ). Partly t (lines b) v) same (other.part e v p));
    }

-- none yet
pub begun : (given before : Option (List ℕ)) (s : State) → IfSome given (λ bytes. Turn true s s bytes given before before)
begun None before s = tt
begun (Some bytes) before s = record { rest = bytes; sent = []; reads = refl; wrote = kept before; says = refl; leads = refl; leaves = refl; part = λ e u p. p }
