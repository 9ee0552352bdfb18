-- The questions by their numbers (document 01, "Questions at the door"; document 02 for 9 and from 13 on).
-- Assumes nothing.
use Rattle.std.specs.Prelude.{ℕ, Result, Ok, Err}
use Rattle.base_questions.specs.declared.Refusal.{Refusal}
use Rattle.base_questions.specs.declared.Refusal.TheVariants.{MachineLength, MachineWords, BuiltCommand, TicksNumber, OrderLength, OrderNumbers, ReadItems, WrittenPlaces, BenchFile, DelayMemory, DelayLines, DelayUnits, KnownText, ChainEntries, ChainNumbers, JoinedTicks, JoinedAlone, JoinedApart}

-- The number of a question.
abbrev pub number_of : Refusal → ℕ
number_of MachineLength = 1
number_of MachineWords = 2
number_of BuiltCommand = 3
number_of TicksNumber = 4
number_of OrderLength = 5
number_of OrderNumbers = 6
number_of ReadItems = 7
number_of WrittenPlaces = 8
number_of BenchFile = 9
number_of DelayMemory = 10
number_of DelayLines = 11
number_of DelayUnits = 12
number_of KnownText = 13
number_of ChainEntries = 14
number_of ChainNumbers = 15
number_of JoinedTicks = 16
number_of JoinedAlone = 17
number_of JoinedApart = 18

-- The number of the question that refuses a call, and 0 of a call that none refuses, whatever else that one answers.
abbrev pub refused : {A : Type 0} → Result A Refusal → ℕ
refused (Ok _) = 0
refused (Err refusal) = number_of refusal

-- What a call answers that none refuses, and of a refused one a given answer.
abbrev pub answer_or : {A : Type 0} → A → Result A Refusal → A
answer_or other (Ok answer) = answer
answer_or other (Err _) = other
