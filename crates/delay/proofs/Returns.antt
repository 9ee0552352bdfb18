-- When words come back: a line's word Z+3 turns later, since Y comes back to its slot after Z+1, and a table's answer three.
-- Assumes nothing.
use mathlib.Core.Path.{◌≡◌, refl, sym, ◌∙◌, ap}
use mathlib.Core.Bool.{Bool, true, false, cond}
use mathlib.Core.Logic.{◌≢◌}
use Prim.Native.Nat.{ℕ, zero, suc, ◌+◌, ◌-◌, ◌≤◌, ◌<◌}
use native.Mathlib.Numerals.{add-one}
use native.Mathlib.Omega.{arith}
use borrow.Author.Tests.{leb-true, leb-false, le-leb, lt-leb, lt-ltb, le-ltb}
use lib.Dec.{leb, ltb}
use lib.ListN.{length, get_or}
use lib.Seq.{get_or-set_same, get_or-set_other}
use Rattle.layout.specs.Machine.{Memory}
use Rattle.delay.specs.declared.Delay.{Delay}
use Rattle.layout_codes.specs.BuiltCodes.{line}
use Rattle.delay.specs.Delay.{due, slot, address}
use Rattle.delay.specs.AsCoded.{Turns, OnlyTurnsWrite}
use Rattle.delay.proofs.Turn.{x-kept, z-kept, p-kept, second-moves, line-y, line_second, line-memory, table-second, table-third}

-- Y after i steps from y, i at most z+1: past z it goes on from 0.
unfoldable round : ℕ → ℕ → ℕ → ℕ
round z y i = cond (leb (y + i) z) (y + i) (y + i - suc z)

module _ (z y i : ℕ) where
  before-z : y + i ≤ z → round z y i ≡ y + i
  unfolding round
  before-z l = rw (le-leb (y + i) z l)

  after-z : z < y + i → round z y i ≡ y + i - suc z
  unfolding round
  after-z l = rw (lt-leb (y + i) z l)

-- One step more, and where it leads: to no number twice, and back after z+1.
round-next : (z y i : ℕ) → y ≤ z → i ≤ z → cond (ltb (round z y i) z) (round z y i + 1) 0 ≡ round z y (suc i)
round-next z y i h l = go (leb (y + i) z) (leb (y + suc i) z) refl refl
  where
    go : (a b : Bool) → leb (y + i) z ≡ a → leb (y + suc i) z ≡ b → cond (ltb (round z y i) z) (round z y i + 1) 0 ≡ round z y (suc i)
    go true true e f =
        let low = leb-true (y + suc i) z f in
        rw (before-z z y i (omega arith), before-z z y (suc i) low, lt-ltb (y + i) z (omega arith)) (omega arith)
    go true false e f =
        let high = leb-false (y + suc i) z f in
        rw (before-z z y i (leb-true (y + i) z e), after-z z y (suc i) high, le-ltb (y + i) z (omega arith)) (omega (arith, leb-true (y + i) z e))
    go false true e f = absurd (omega (arith, leb-false (y + i) z e, leb-true (y + suc i) z f))
    go false false e f =
        let high = leb-false (y + i) z e in
        rw (after-z z y i high, after-z z y (suc i) (omega arith), lt-ltb (y + i - suc z) z (omega arith)) (omega arith)

round-other : (z y i : ℕ) → y ≤ z → 0 < i → i ≤ z → round z y i ≢ y
round-other z y i h p l e = go (leb (y + i) z) refl
  where
    go : (a : Bool) → leb (y + i) z ≡ a → ⊥
    go true f = omega (arith, before-z z y i (leb-true (y + i) z f))
    go false f = omega (arith, leb-false (y + i) z f, after-z z y i (leb-false (y + i) z f))

round-back : (z y : ℕ) → y ≤ z → round z y (suc z) ≡ y
round-back z y h = after-z z y (suc z) (omega arith) ∙ omega arith

module _ (unit : ℕ → Delay) (memory : ℕ → Memory) (word : ℕ → ℕ) where
  -- X, Z and P stay over the turns.
  x-stays : (n : ℕ) → Turns n unit memory word → (i : ℕ) → i ≤ n → (unit i).x ≡ (unit 0).x
  x-stays n t zero h = refl
  x-stays n t (suc i) h =
      rw (← (add-one i)) (ap (λ (d : Delay). d.x) (t.unchanged i (omega arith)) ∙ x-kept (unit i) (memory i) (word i) ∙ x-stays n t i (omega arith))

  z-stays : (n : ℕ) → Turns n unit memory word → (i : ℕ) → i ≤ n → (unit i).z ≡ (unit 0).z
  z-stays n t zero h = refl
  z-stays n t (suc i) h =
      rw (← (add-one i)) (ap (λ (d : Delay). d.z) (t.unchanged i (omega arith)) ∙ z-kept (unit i) (memory i) (word i) ∙ z-stays n t i (omega arith))

  p-stays : (n : ℕ) → Turns n unit memory word → (i : ℕ) → i ≤ n → (unit i).p ≡ (unit 0).p
  p-stays n t zero h = refl
  p-stays n t (suc i) h =
      rw (← (add-one i)) (ap (λ (d : Delay). d.p) (t.unchanged i (omega arith)) ∙ p-kept (unit i) (memory i) (word i) ∙ p-stays n t i (omega arith))

  -- A table's answer is the third word after its turn, and then moves up twice.
  answer_back : (unit 0).p ≢ line → Turns 3 unit memory word → due (unit 3) ≡ get_or (memory 0) (address (unit 0) (word 0)) 0
  answer_back n t =
      ap (λ (d : Delay). d.first) (t.unchanged 2 (omega arith)) ∙ second-moves (unit 2) (memory 2) (word 2)
      ∙ ap (λ (d : Delay). d.second) (t.unchanged 1 (omega arith)) ∙ table-second (unit 1) (memory 1) (word 1) (λ e. n (sym (p-stays 3 t 1 (omega arith)) ∙ e))
      ∙ ap (λ (d : Delay). d.third) (t.unchanged 0 (omega arith)) ∙ table-third (unit 0) (memory 0) (word 0) n

  -- A line's word stays in its slot while Y goes round, and then leaves it.
  module _ (e : (unit 0).p ≡ line) (h : (unit 0).y ≤ (unit 0).z) (t : Turns ((unit 0).z + 3) unit memory word) where
    y-goes : (i : ℕ) → i ≤ suc (unit 0).z → (unit i).y ≡ round (unit 0).z (unit 0).y i
    y-goes zero l = sym (before-z (unit 0).z (unit 0).y 0 (omega arith) ∙ omega arith)
    y-goes (suc i) l =
        rw (← (add-one i))
        (ap (λ (d : Delay). d.y) (t.unchanged i (omega arith))
        ∙ line-y (unit i) (memory i) (word i) (p-stays _ t i (omega arith) ∙ e)
        ∙ rw (y-goes i (omega arith), z-stays _ t i (omega arith), add-one i) (round-next (unit 0).z (unit 0).y i h (omega arith)))

    slot-goes : (i : ℕ) → i ≤ suc (unit 0).z → slot (unit i) ≡ (unit 0).x + round (unit 0).z (unit 0).y i
    slot-goes i l = rw (y-goes i l, x-stays _ t i (omega arith))

    module _ (inside : slot (unit 0) < length (memory 0)) (u : OnlyTurnsWrite (slot (unit 0)) ((unit 0).z + 1) unit memory word) where
      word-stays : (i : ℕ) → i ≤ (unit 0).z → get_or (memory (suc i)) (slot (unit 0)) 0 ≡ word 0
      word-stays zero l =
          u.unwritten 0 (omega arith)
          ∙ rw (line-memory (unit 0) (memory 0) (word 0) e) (get_or-set_same (memory 0) (slot (unit 0)) (word 0) 0 inside)
      word-stays (suc i) l =
          rw (← (add-one (suc i)))
          (u.unwritten (suc i) (omega arith)
          ∙ rw (line-memory (unit (suc i)) (memory (suc i)) (word (suc i)) (p-stays _ t (suc i) (omega arith) ∙ e))
          (get_or-set_other (memory (suc i)) (slot (unit (suc i))) (slot (unit 0)) (word (suc i)) 0 other-slot ∙ word-stays i (omega arith)))
        where
          other-slot : slot (unit 0) ≢ slot (unit (suc i))
          other-slot q =
              round-other (unit 0).z (unit 0).y (suc i) h (omega arith) l (omega (arith, q, slot-goes (suc i) (omega arith)))

      comes_back : (unit ((unit 0).z + 3)).first ≡ word 0
      comes_back =
          let z = (unit 0).z in
          let last : unit (z + 3) ≡ unit (suc (suc z) + 1) = ap unit (omega arith) in
          let next : unit (suc (suc z)) ≡ unit (suc z + 1) = ap unit (omega arith) in
          ap (λ (d : Delay). d.first) (last ∙ t.unchanged (suc (suc z)) (omega arith))
          ∙ second-moves (unit (suc (suc z))) (memory (suc (suc z))) (word (suc (suc z)))
          ∙ ap (λ (d : Delay). d.second) (next ∙ t.unchanged (suc z) (omega arith))
          ∙ line_second (unit (suc z)) (memory (suc z)) (word (suc z)) (p-stays _ t (suc z) (omega arith) ∙ e)
          ∙ rw (slot-goes (suc z) (omega arith), round-back z (unit 0).y h) (word-stays z (omega arith))

-- A line's word comes back Z+3 turns later, if nothing else writes its slot before it leaves.
pub line-returns : (unit : ℕ → Delay) (memory : ℕ → Memory) (word : ℕ → ℕ) → (unit 0).p ≡ line → (unit 0).y ≤ (unit 0).z → slot (unit 0) < length (memory 0)
    → Turns ((unit 0).z + 3) unit memory word → OnlyTurnsWrite (slot (unit 0)) ((unit 0).z + 1) unit memory word → due (unit ((unit 0).z + 3)) ≡ word 0
line-returns unit memory word e h inside t u = comes_back unit memory word e h t inside u

-- A table's answer, looked up in its word's turn, comes back three turns later.
pub table-returns : (unit : ℕ → Delay) (memory : ℕ → Memory) (word : ℕ → ℕ) → (unit 0).p ≢ line → Turns 3 unit memory word
    → due (unit 3) ≡ get_or (memory 0) (address (unit 0) (word 0)) 0
table-returns unit memory word n t = answer_back unit memory word n t
