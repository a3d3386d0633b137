use Rattle.std.proofs.Common.{string_bytes}
use Rattle.std.proofs.lemmas.Result.{IfOk-equal}
use Rattle.bench.specs.State.{state_of}
use Rattle.bench.specs.declared.look.Look.TheVariants as look
use Rattle.playback.proofs.Growing.{six}
use Rattle.playback.specs.States.{look_text, registers_text, changed_in}
use Rattle.playback.proofs.states.add_state.Goals as goal

pub returns : goal.returns
returns g c =
    let t = state_of g.M.ReadMemory c.args.bench.now in
    let f = state_of g.F.ReadMemory c.args.fresh.now in
    let image = c.args.image in
    let bank = c.args.bank in
    let all = six (string_bytes c.add_registers.new.text) (string_bytes c.add_look.new.text) (string_bytes c.add_look-2.new.text) (string_bytes c.add_look-3.new.text) (string_bytes c.add_changed_in.new.text) (string_bytes c.args.text.now)
    (registers_text 32 0 t) (look_text look.Pc t) (look_text look.Clocks t) (look_text look.Retired t) (changed_in image.length image.from t f) (changed_in bank.length bank.from t f)
    c.in_ok-add_registers.ensures c.in_ok-add_look.ensures c.in_ok-add_look-2.ensures c.in_ok-add_look-3.ensures c.in_ok-add_changed_in.ensures in
    IfOk-equal c.add_changed_in-2.result _ _ _ c.add_changed_in-2.ensures all
