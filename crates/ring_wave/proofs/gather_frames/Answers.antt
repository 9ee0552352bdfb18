-- `ring_wave::gather_frames` meets its contract: what is gathered in the part behind the header is in the buffer behind it.
-- Assumes nothing.
use Rattle.ring_pass.specs.Benches.{ordering_in}
use Rattle.ring_steps.specs.AsCoded.{ringing_at}
use Rattle.ring_wave.proofs.Sounding.{behind-header}
use Rattle.ring_wave.proofs.gather_frames.Goals as goal

pub returns : goal.returns
returns c =
    let a = c.args in let both = behind-header a.bench.text (ordering_in a.bench) a.out.now (ringing_at a.at a.m.now a.memory.now a.bench.commands.now) c.requires c.gather.ensures.length_value c.gather.ensures.out_after c.gather.ensures.commands_after in record { length_value = both.0; out_after = both.1.0; refused_value = both.1.1 }
