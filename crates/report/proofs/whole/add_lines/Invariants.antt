use Rattle.std.proofs.Common.{◌≡◌, ◌+◌, ◌*◌, ◌%◌, ◌^◌, ◌≤◌, take, string_bytes}
use Rattle.report.specs.Listing.{Adds}
use Rattle.report.proofs.whole.add_lines.Given as goal

abbrev pub invariant-loop-word : goal.invariant-loop-word
invariant-loop-word l = record {
  few : l.instructions ≤ l.word-index;
  place : l.address ≡ (l.base + 4 * l.word-index) % 2 ^ 32;
  adds : Adds l.base (take l.word-index l.words) (string_bytes l.initial.text) (string_bytes l.text) l.instructions;
}
