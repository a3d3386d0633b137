-- What a memory of the kinds K and the words W replies to an access, and what words it has afterwards.
use Rattle.std.specs.Prelude.{ℕ, Bool, true, false, Ok, Result}
use Rattle.memory.specs.Meaning.{read_of, write_of, patched}
use Rattle.memory.specs.declared.fault.MemoryFault.{MemoryFault}
use Rattle.memory.specs.declared.kind.Kind.{Kind}
use Rattle.processor.specs.declared.access.Access.{Access}
use Rattle.processor.specs.declared.access.Access.TheVariants as access
use Rattle.processor.specs.declared.access.Reply.{Reply}
use Rattle.processor.specs.declared.access.Reply.TheVariants as reply

abbrev pub replied : (ℕ → Kind) → (ℕ → ℕ) → Access → Reply
replied K W access.Nothing = reply.Nothing
replied K W (access.Read k) = reply.Read (read_of k (K k) (W k))
replied K W (access.Write k v mask) = reply.Written (write_of k mask (K k))

abbrev pub words_after : (ℕ → Kind) → (ℕ → ℕ) → Access → ℕ → ℕ
words_after K W access.Nothing = W
words_after K W (access.Read k) = W
words_after K W (access.Write k v mask) = patched K W k v mask

-- the reply is one to the access
abbrev pub suits : Access → Reply → Bool
suits access.Nothing reply.Nothing = true
suits access.Nothing (reply.Read r) = false
suits access.Nothing (reply.Written r) = false
suits (access.Read k) reply.Nothing = false
suits (access.Read k) (reply.Read r) = true
suits (access.Read k) (reply.Written r) = false
suits (access.Write k v mask) reply.Nothing = false
suits (access.Write k v mask) (reply.Read r) = false
suits (access.Write k v mask) (reply.Written r) = true

-- the answer to a read in a reply; 0 stands where there is none
abbrev pub word_in : Reply → Result ℕ MemoryFault
word_in reply.Nothing = Ok 0
word_in (reply.Read r) = r
word_in (reply.Written r) = Ok 0

-- the answer to a write in a reply
abbrev pub written_in : Reply → Result (Unit {0}) MemoryFault
written_in reply.Nothing = Ok tt
written_in (reply.Read r) = Ok tt
written_in (reply.Written r) = r
