-- What a pass answers, beside what it leaves (document 01, "Questions at the door": a refused pass reads, writes and marks nothing).
-- Assumes nothing.
use Rattle.std.specs.Prelude.{Result, replicate}
use Rattle.base_questions.specs.declared.Refusal.{Refusal}
use Rattle.base_questions.specs.Refusals.{refused, answer_or}
use Rattle.layout.specs.Layout.{quadrant_words}
use Rattle.layout.specs.Machine.{Machine, Places, Memory}
use Rattle.pass_model.specs.Pass.{Outcome}
use Rattle.pass.specs.declared.Passed.{Passed}

-- What stands beside the number of a refusing question: no item read or written, and no mark set.
abbrev pub unpassed : Passed
unpassed = record { read = 0; written = 0; clipped = replicate quadrant_words 0 }

-- A pass's answer with the machine, the places and the delay memory that it leaves, as the definition of a pass has them together.
abbrev pub outcome_of : Result Passed Refusal → Machine → Places → Memory → Outcome
outcome_of answer machine places memory =
    let passed = answer_or unpassed answer in
    record {
      number = refused answer;
      read = passed.read;
      written = passed.written;
      clipped = passed.clipped;
      machine = machine;
      places = places;
      memory = memory;
    }
