-- When two passes differ in the marks alone (document 02, Q-6).
-- Assumes nothing.
use Rattle.std.specs.Prelude.{◌≡◌}
use Rattle.pass_model.specs.Pass.{Outcome}

-- All that two passes answer and leave is the same but for the marks: the first with the marks of the second is the second.
abbrev pub SameButMarks : Outcome → Outcome → Type 0
SameButMarks r s =
    ◌≡◌ {A = Outcome}
    (record {
      number = r.number;
      read = r.read;
      written = r.written;
      clipped = s.clipped;
      machine = r.machine;
      places = r.places;
      memory = r.memory;
    })
    s
