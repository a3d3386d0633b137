use Rattle.bench.specs.State.{state_of}
use Rattle.conversation.proofs.Turns.{turn_ended, turn_quit, turn_answered, stopped_after}
use Rattle.conversation.proofs.exchange.turn.Goals as goal

pub returns-in_default-clause-said : goal.returns-in_default-clause-said
returns-in_default-clause-said g c =
    turn_ended (g.R.Read.remaining c.args.input.now) (g.R.Read.remaining c.read_until.new.self) (g.W.Write.contents c.args.output.now)
    (state_of g.M.ReadMemory c.args.bench.now) c.new-raw.result.items c.read_until.new.buf.items c.new-raw.ensures.items c.in_ok-read_until.ensures.bytes c.in_ok-read_until.ensures.rest (let a = c.in_default.ensures.value in rw c.deref.ensures.value at a)

pub returns-in_default-2-clause-said : goal.returns-in_default-2-clause-said
returns-in_default-2-clause-said g c =
    turn_quit (g.R.Read.remaining c.args.input.now) (g.R.Read.remaining c.read_until.new.self) (g.W.Write.contents c.args.output.now)
    (state_of g.M.ReadMemory c.args.bench.now) (state_of g.M.ReadMemory c.reply_to.new.bench) c.new-raw.result.items c.read_until.new.buf.items c.in-Some.line.now
    c.new-raw.ensures.items c.in_ok-read_until.ensures.bytes c.in_ok-read_until.ensures.rest
    (let a = c.in-Some.ensures.value.0 in rw c.deref.ensures.value at a)
    (let a = c.in-Some.ensures.value.1 in rw c.deref.ensures.value at a)
    (let none = c.in_default-2.is in let a = c.in_ok-answer.ensures.bytes in rw none at a) c.reply_to.ensures.state

pub returns-clause-said : goal.returns-clause-said
returns-clause-said g c =
    turn_answered (g.R.Read.remaining c.args.input.now) (g.R.Read.remaining c.read_until.new.self) (g.W.Write.contents c.args.output.now)
    (g.W.Write.contents c.write_all.new.self) (g.W.Write.contents c.flush.new.self)
    (state_of g.M.ReadMemory c.args.bench.now) (state_of g.M.ReadMemory c.reply_to.new.bench) c.new-raw.result.items c.read_until.new.buf.items c.in-Some.line.now c.in-Some-2.answer.items
    c.new-raw.ensures.items c.in_ok-read_until.ensures.bytes c.in_ok-read_until.ensures.rest
    (let a = c.in-Some.ensures.value.0 in rw c.deref.ensures.value at a)
    (let a = c.in-Some.ensures.value.1 in rw c.deref.ensures.value at a)
    (let a = c.in_ok-answer.ensures.bytes in rw c.in-Some-2.is at a) c.reply_to.ensures.state
    (let a = c.in_ok-write_all.ensures.bytes in rw c.deref-2.ensures.value at a) c.in_ok-flush.ensures.bytes

pub returns-in_err-answer-clause-stopped : goal.returns-in_err-answer-clause-stopped
returns-in_err-answer-clause-stopped g c =
    stopped_after _ _ _ _ _ _ c.new-raw.ensures.items c.in_ok-read_until.ensures.bytes
    (let a = c.in-Some.ensures.value.0 in rw c.deref.ensures.value at a) (let a = c.in-Some.ensures.value.1 in rw c.deref.ensures.value at a) c.reply_to.ensures.state

pub returns-in_default-2-clause-stopped : goal.returns-in_default-2-clause-stopped
returns-in_default-2-clause-stopped g c =
    stopped_after _ _ _ _ _ _ c.new-raw.ensures.items c.in_ok-read_until.ensures.bytes
    (let a = c.in-Some.ensures.value.0 in rw c.deref.ensures.value at a) (let a = c.in-Some.ensures.value.1 in rw c.deref.ensures.value at a) c.reply_to.ensures.state

pub returns-in_err-write_all-clause-stopped : goal.returns-in_err-write_all-clause-stopped
returns-in_err-write_all-clause-stopped g c =
    stopped_after _ _ _ _ _ _ c.new-raw.ensures.items c.in_ok-read_until.ensures.bytes
    (let a = c.in-Some.ensures.value.0 in rw c.deref.ensures.value at a) (let a = c.in-Some.ensures.value.1 in rw c.deref.ensures.value at a) c.reply_to.ensures.state

pub returns-in_err-flush-clause-stopped : goal.returns-in_err-flush-clause-stopped
returns-in_err-flush-clause-stopped g c =
    stopped_after _ _ _ _ _ _ c.new-raw.ensures.items c.in_ok-read_until.ensures.bytes
    (let a = c.in-Some.ensures.value.0 in rw c.deref.ensures.value at a) (let a = c.in-Some.ensures.value.1 in rw c.deref.ensures.value at a) c.reply_to.ensures.state

pub returns-clause-stopped : goal.returns-clause-stopped
returns-clause-stopped g c =
    stopped_after _ _ _ _ _ _ c.new-raw.ensures.items c.in_ok-read_until.ensures.bytes
    (let a = c.in-Some.ensures.value.0 in rw c.deref.ensures.value at a) (let a = c.in-Some.ensures.value.1 in rw c.deref.ensures.value at a) c.reply_to.ensures.state
