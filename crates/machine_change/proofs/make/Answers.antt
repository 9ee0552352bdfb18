-- `machine_change::make` meets its contract: a change that is let through has room, and each is made.
-- Assumes nothing.
use mathlib.Core.Path.{refl}
use native.Mathlib.Omega.{arith}
use Rattle.machine_change.proofs.Branches.{more-changed, fewer-changed, register-changed, more_room, fewer-room, register-fits, sets-kind}
use Rattle.machine_change.proofs.make.Goals as goal

pub overflow_add-t : goal.overflow_add-t
overflow_add-t c = omega (arith, more_room c.args.m.now 4 0 0 refl (rw c.in-TickMore.is at c.requires.value_value))

pub returns-in-TickMore : goal.returns-in-TickMore
returns-in-TickMore c = rw c.in-TickMore.is (more-changed c.args.m.now 4 0 0 refl c.set_ticks.ensures)

pub overflow_sub-t : goal.overflow_sub-t
overflow_sub-t c = omega (arith, fewer-room c.args.m.now 5 0 0 (λ z. omega arith) refl (rw c.in-TickFewer.is at c.requires.value_value))

pub returns-in-TickFewer : goal.returns-in-TickFewer
returns-in-TickFewer c = rw c.in-TickFewer.is (fewer-changed c.args.m.now 5 0 0 (λ z. omega arith) refl c.set_ticks-in-TickFewer.ensures)

pub set_register-requires : goal.set_register-requires
set_register-requires c =
    let s = c.in-Sets in
    let no = sets-kind s.register in
    let fits = register-fits c.args.m.now _ s.generator s.value no.0 no.1 (rw s.is at c.requires.value_value) in
    record { m_len = c.requires.m_len; generator_lt_generators = (fits.1, fits.2) }

pub returns-in-Sets : goal.returns-in-Sets
returns-in-Sets c =
    let s = c.in-Sets in
    let no = sets-kind s.register in
    rw s.is (register-changed c.args.m.now _ s.generator s.value no.0 no.1 c.set_register.ensures)
