-- `file_bench::load_line` meets its contract: each kind of line sets its part.
-- Assumes nothing.
use Rattle.file_bench.proofs.Loading as loading
use Rattle.file_bench.proofs.load_line.Goals as goal

pub returns-in-Titled : goal.returns-in-Titled
returns-in-Titled c =
    let a = c.args in
    let r = loading.load-nothing _ a.count a.m.now a.room.now c.in-Titled.is in
    record { value = r.0; m_after = r.1.0; room_after = r.1.1 }

pub returns-in-Word : goal.returns-in-Word
returns-in-Word c =
    let a = c.args in
    let r = loading.load_word _ a.count a.m.now a.room.now c.in-Word.is c.put.ensures in
    record { value = r.0; m_after = r.1.0; room_after = r.1.1 }

pub returns-in-Command : goal.returns-in-Command
returns-in-Command c =
    let a = c.args in
    let r = loading.load-command _ a.count a.m.now a.room.now c.in-Command.is c.put-in-Command.ensures in
    record { value = r.0; m_after = r.1.0; room_after = r.1.1 }
