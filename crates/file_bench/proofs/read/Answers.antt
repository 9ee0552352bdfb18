-- `file_bench::read` meets its contract: a file that no question refuses is loaded, another changes nothing.
-- Assumes nothing.
use mathlib.Core.Path.{refl, sym, ◌∙◌}
use borrow.Author.Rules.{rules}
use Rattle.base_questions.proofs.Refusals.{numbered}
use Rattle.file_bench.proofs.WholeFile as whole
use Rattle.file_bench.proofs.read.Goals as goal

pub returns-in_err-contents : goal.returns-in_err-contents
returns-in_err-contents c =
    let a = c.args in
    whole.refused_on a.m.now a.room.now _ _ c.from_residual.ensures.1 ∙ whole.read-refused a.file.now c.in_err-contents.ensures a.m.now a.room.now (numbered _)

pub load_file-requires : goal.load_file-requires
load_file-requires c = record { file_value = sym (whole.said-number c.args.file.now c.in_ok-contents.ensures); m_len = search rules }

pub returns : goal.returns
returns c =
    let a = c.args in
    whole.read-loaded a.file.now c.in_ok-contents.ensures a.m.now a.room.now refl c.load_file.ensures.m_after c.load_file.ensures.room_after
