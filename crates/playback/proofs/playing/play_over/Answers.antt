use Rattle.std.proofs.Common.{◌≡◌, string_bytes, rules}
use Rattle.std.proofs.lemmas.Result.{IfOk-weaker}
use Rattle.bench.specs.Law.{start_over}
use Rattle.bench.specs.State.{state_of}
use Rattle.playback.proofs.Alike.{every, tells, lent_whole}
use Rattle.playback.specs.States.{state_text}
use Rattle.playback.specs.Transcript.{Transcript}
use Rattle.playback.specs.Whole.{whole_text}
use Rattle.setup.specs.Files.{cleared}
use Rattle.playback.proofs.playing.play_over.Goals as goal

pub returns : goal.returns
returns g c =
    let m = g.M.ReadMemory in
    let z = g.S.ReadMemory in
    let y = g.F.ReadMemory in
    let s = start_over m c.args.memory cleared c.args.start in
    let twin = start_over z c.args.twin cleared c.args.start in
    let start = start_over y c.args.fresh cleared c.args.start in
    let made = c.replay-replayed in
    let t = state_of m made.result.played in
    let u = state_of z made.result.straight in
    let f = state_of y c.new-fresh.result in
    let image = c.args.spans.image in
    let bank = c.args.spans.bank in
    let given = c.deref-2.result.now in
    let watched = c.in_ok-watched.watched.items in
    let was = c.in_ok-answers.answers.items in
    let law =
    every s twin c.args.calls.now watched made.result.made made.new.places was given made.result.standing t u
    c.in_ok-watched.ensures
    (search rules)
    (search rules)
    (search rules)
    (lent_whole _ _ was given (search rules) c.deref-2.ensures.value)
    (rw (c.cleared_registers-zero.ensures, c.deref.ensures.value) at made.ensures.law) in
    IfOk-weaker c.tell.result (λ x. string_bytes x ≡ whole_text c.args.calls.now given made.result.standing (state_text image bank t f) (state_text image bank u f))
    (λ x. Transcript s twin start image bank c.args.calls.now (string_bytes x)) (λ x e. tells s twin start image bank c.args.calls.now given made.result.standing t u f (string_bytes x) law (search rules) e) c.tell.ensures
