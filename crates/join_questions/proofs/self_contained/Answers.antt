-- `join_questions::self_contained` meets its contract: its generators and its modifiers are as the definition asks.
-- Assumes nothing.
use Rattle.join_questions.proofs.Answers.{all-idle}
use Rattle.join_questions.proofs.self_contained.Goals as goal

pub returns : goal.returns
returns c = rw (c.own_generators.ensures, c.idle_modifiers.ensures, all-idle c.args.m.now)
