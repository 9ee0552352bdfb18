-- What an answer tells of the number that it stands for.
-- Assumes nothing.
use Rattle.std.proofs.Common.{◌≡◌, ◌≢◌, arith, refl}
use Rattle.std.specs.Prelude.{Result}
use Rattle.std.specs.Result.{IsErrAnd}
use Rattle.std.proofs.lemmas.Result.{err_from_is_err_and}
use Rattle.base_questions.specs.declared.Refusal.{Refusal}
use Rattle.base_questions.specs.declared.Refusal.TheVariants.{MachineLength, MachineWords, BuiltCommand, TicksNumber, OrderLength, OrderNumbers, ReadItems, WrittenPlaces, BenchFile, DelayMemory, DelayLines, DelayUnits, KnownText, ChainEntries, ChainNumbers, JoinedTicks, JoinedAlone, JoinedApart}
use Rattle.base_questions.specs.Refusals.{number_of, refused}

-- No question has the number 0.
pub numbered : (e : Refusal) → number_of e ≢ 0
numbered MachineLength p = omega arith
numbered MachineWords p = omega arith
numbered BuiltCommand p = omega arith
numbered TicksNumber p = omega arith
numbered OrderLength p = omega arith
numbered OrderNumbers p = omega arith
numbered ReadItems p = omega arith
numbered WrittenPlaces p = omega arith
numbered BenchFile p = omega arith
numbered DelayMemory p = omega arith
numbered DelayLines p = omega arith
numbered DelayUnits p = omega arith
numbered KnownText p = omega arith
numbered ChainEntries p = omega arith
numbered ChainNumbers p = omega arith
numbered JoinedTicks p = omega arith
numbered JoinedAlone p = omega arith
numbered JoinedApart p = omega arith

-- What a `?` hands on has the number of what it was given.
pub handed_on : {A : Type 0} (r : Result A Refusal) (e : Refusal) → IsErrAnd r (λ y. y ≡ e) → refused r ≡ number_of e
handed_on r e h = let p = err_from_is_err_and r h in rw (p.1, p.2) refl
