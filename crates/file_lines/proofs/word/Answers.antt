-- `file_lines::word` meets its contract: the colon, then a number on each side of it.
-- Assumes nothing.
use mathlib.Core.Path.{sym}
use Prim.Native.Nat.{◌+◌}
use native.Mathlib.Omega.{arith}
use lib.Seq.{length-take-le}
use Rattle.file_bytes.proofs.Searches.{rest_of}
use Rattle.file_lines.proofs.LineKinds as kinds
use Rattle.file_lines.proofs.word.Goals as goal

pub returns-then-file-k : goal.returns-then-file-k
returns-then-file-k c = kinds.word-no-colon c.args.file.now c.find-k.ensures c.if-file-k.true

pub slice_bounds-decimal-end : goal.slice_bounds-decimal-end
slice_bounds-decimal-end c = sym (length-take-le _ _ (omega arith))

pub returns-in_default : goal.returns-in_default
returns-in_default c = kinds.word-no-place c.args.file.now c.find-k.ensures c.if-file-k.false c.decimal.ensures c.in_default.is

pub returns-in_default-decimal : goal.returns-in_default-decimal
returns-in_default-decimal c =
    kinds.word-no-value
    c.args.file.now
    c.find-k.ensures
    c.if-file-k.false
    c.decimal.ensures
    c.in-Some.is
    (rest_of c.args.file.now (c.find-k.result + 1))
    c.decimal-2.ensures
    c.in_default-decimal.is

pub returns : goal.returns
returns c =
    kinds.word-is
    c.args.file.now
    c.find-k.ensures
    c.if-file-k.false
    c.decimal.ensures
    c.in-Some.is
    (rest_of c.args.file.now (c.find-k.result + 1))
    c.decimal-2.ensures
    c.in-Some-decimal.is
