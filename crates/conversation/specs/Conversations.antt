-- A conversation: the lines of a text answered one after another, up to one that ends it.
use Rattle.std.specs.Prelude.{◌≡◌, ℕ, zero, suc, Bool, true, if◌then◌else◌, List, [], ◌∷◌, ◌++◌, Some, None, Option}
use Rattle.std.specs.Io.KnownBytes.{Appends}
use Rattle.bench.specs.Law.{Kept}
use Rattle.bench.specs.State.{State}
use Rattle.commands.specs.Lines.{after_first_line, lines}
use Rattle.conversation.specs.Replies.{reply, state_after}

-- an answer, and what follows unless it ends the conversation
abbrev pub followed : Option (List ℕ) → List ℕ → List ℕ
followed None more = []
followed (Some bytes) more = bytes ++ more

-- what is sent for the lines, from a bench in this state
unfoldable pub conversation : State → List (List ℕ) → List ℕ
conversation s [] = []
conversation s (l ∷ ls) = followed (reply l s) (conversation (state_after l s) ls)

-- where the bench is after them
abbrev pub led : Option (List ℕ) → State → State → State
led None now later = now
led (Some bytes) now later = later

unfoldable pub led_to : State → List (List ℕ) → State
led_to s [] = s
led_to s (l ∷ ls) = led (reply l s) (state_after l s) (led_to (state_after l s) ls)

-- how many of them are read: up to the one that ends the conversation, and with it
abbrev pub going_on : Option (List ℕ) → ℕ → ℕ
going_on None more = 0
going_on (Some bytes) more = more

unfoldable pub lines_taken : State → List (List ℕ) → ℕ
lines_taken s [] = 0
lines_taken s (l ∷ ls) = suc (going_on (reply l s) (lines_taken (state_after l s) ls))

-- what stands behind the first n lines of a text
unfoldable pub behind_lines : ℕ → List ℕ → List ℕ
behind_lines zero text = text
behind_lines (suc n) text = behind_lines n (after_first_line text)

-- what the conversation leaves of a text
abbrev pub left_of : State → List ℕ → List ℕ
left_of s text = behind_lines (lines_taken s (lines text)) text

-- where the bench is after some of the lines, in order
pub data Partly : State → List (List ℕ) → State → Type 0 where
  here : {s : State} {ls : List (List ℕ)} → Partly s ls s
  on : {s t : State} {l : List ℕ} {ls : List (List ℕ)} → Partly (state_after l s) ls t → Partly s (l ∷ ls) t

-- after one turn or some: of the bytes that were to be read, what was sent, and what is left of the conversation if it goes on
pub record Turn (more : Bool) (s t : State) (bytes : List ℕ) (left before after : Option (List ℕ)) : Type 0 where
  pub rest : List ℕ
  pub sent : List ℕ
  pub reads : left ≡ Some rest
  pub wrote : Appends before after sent
  pub says : conversation s (lines bytes) ≡ sent ++ (if more then conversation t (lines rest) else [])
  pub leads : led_to s (lines bytes) ≡ (if more then led_to t (lines rest) else t)
  pub leaves : left_of s bytes ≡ (if more then left_of t rest else rest)
  pub part : more ≡ true → (u : State) → Partly t (lines rest) u → Partly s (lines bytes) u

-- whatever calls came before s, the law stands in t too, some calls later; the count says how these moved the instructions that stand
pub record StaysLawful (s t : State) : Type 0 where
  pub count : ℕ → ℕ
  pub kept : Kept count s t
