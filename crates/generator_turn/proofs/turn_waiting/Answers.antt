-- `generator_turn::turn_waiting` meets its contract by the text, which tells that it waits.
use Rattle.generator_turn.proofs.turn_waiting.Goals as goal

pub await_trigger-requires : goal.await_trigger-requires
await_trigger-requires c = record { ranged = c.requires.ranged; self_value = rw c.in-Of1978.is at c.requires.unit_value }

pub await_trigger-requires-in-Old : goal.await_trigger-requires-in-Old
await_trigger-requires-in-Old c = record { ranged = c.requires.ranged; unit_value = rw c.in-Old.is at c.requires.unit_value }

pub returns-in-Of1978 : goal.returns-in-Of1978
returns-in-Of1978 c = rw c.in-Of1978.is c.await_trigger.ensures

pub returns-in-Old : goal.returns-in-Old
returns-in-Old c = rw c.in-Old.is c.await_trigger-in-Old.ensures
