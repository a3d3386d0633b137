use Rattle.std.proofs.Common.{◌≡◌, string_bytes}
use Rattle.bench.specs.Law.{Start}
use Rattle.setup.specs.Files.{cleared, contents_in, start_in}
use Rattle.playback.proofs.Starts.{same_start, thrice}
use Rattle.playback.specs.Plays.{image_span, bank_span, Plays}
use Rattle.playback.specs.Transcript.{Transcript}
use Rattle.playback.proofs.file.play.Goals as goal

-- each memory was loaded from the file
pub returns : goal.returns
unfolding Plays
returns c =
    let o = c.args.options in
    let file = contents_in c.args.file in
    let memory = c.in_ok-memory.ensures in
    let twin = c.in_ok-twin.ensures in
    let fresh = c.in_ok-fresh.ensures in
    thrice c.play_on.result (λ s z y x. Transcript s z y (image_span o file) (bank_span o) c.args.calls.now (string_bytes x)) (start_in o file) _ _ _
    (same_start _ _ memory.kinds (λ i. record { pc = file.start; registers = cleared; words = memory.words i }))
    (same_start _ _ twin.kinds (λ i. record { pc = file.start; registers = cleared; words = twin.words i }))
    (same_start _ _ fresh.kinds (λ i. record { pc = file.start; registers = cleared; words = fresh.words i }))
    c.play_on.ensures
