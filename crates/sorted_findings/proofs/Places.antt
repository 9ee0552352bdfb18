-- What is named of two passes from a machine's contents is a small number: a place of the machine, or of the places for written items.
-- Assumes nothing.
use mathlib.Core.Path.{◌≡◌, sym, ◌∙◌}
use mathlib.Core.List.{List, [], ◌∷◌}
use Prim.Native.Nat.{ℕ, suc, ◌^◌, ◌≤◌, ◌<◌}
use native.Mathlib.Omega.{arith}
use lib.Dec.{eqb, ltb}
use lib.ListN.{length}
use Rattle.base_lists.specs.Lists.{zeros}
use Rattle.base_lists.proofs.Choices.{of-cond}
use Rattle.base_lists.proofs.Zeros.{zeros-length}
use Rattle.layout.specs.Layout.{machine_length, generators}
use Rattle.layout.specs.Machine.{Machine, Order, Items}
use Rattle.layout_texts.specs.declared.Text.{Text}
use Rattle.pass_model.specs.Pass.{Call, Outcome, plain_call, written_data, pass_of}
use Rattle.pass_laws.proofs.Passing.{admitted, pass-by, let_through, refused-machine}
use Rattle.pass_laws.proofs.PassValid.{pass-valid}
use Rattle.parts_shown.specs.Shown.{first_different, difference_between, pass_by, difference_shown}
use Rattle.parts_shown.specs.declared.Difference.{Difference}
use Rattle.parts_shown.specs.declared.Difference.TheVariants.{Word, Written}
use Rattle.parts_shown.proofs.Passes.{written-within, written-length}
use Rattle.sorted_lines.specs.SortedLines.{difference_place}

-- Where two lists differ is a place of the first, or its end.
different-within : (xs ys : List ℕ) → first_different xs ys ≤ length xs
unfolding first_different
different-within [] ys = omega arith
different-within (x ∷ xs) [] = omega arith
different-within (x ∷ xs) (y ∷ ys) =
    of-cond (λ i. i ≤ suc (length xs)) (eqb x y) {x = suc (first_different xs ys)} {y = 0} (omega (arith, different-within xs ys)) (omega arith)

-- A pass keeps the length of its machine.
pass-length : (text : Text) (m : Machine) (call : Call) → length (pass_of text m call).machine ≡ length m
pass-length text m call =
    pass-by text m call (λ (r : Outcome). length r.machine ≡ length m) (rw (refused-machine text m call))
    (λ e. let good = (admitted text m call e).good in rw (← (let_through text m call e)) ((pass-valid text m call good).whole ∙ sym good.whole))

between-within : (r s : Outcome) (n : ℕ) → length r.machine ≤ n → length (written_data r) ≤ n → difference_place (difference_between r s) ≤ n
unfolding difference_between
between-within r s n hm hw =
    of-cond (λ (d : Difference). difference_place d ≤ n) (ltb (first_different r.machine s.machine) (length r.machine))
    {x = Word (first_different r.machine s.machine)} {y = Written (first_different (written_data r) (written_data s))}
    (omega (arith, hm, different-within r.machine s.machine)) (omega (arith, hw, different-within (written_data r) (written_data s)))

pub place-small : (text : Text) (contents : Machine) (items : Items) (o₁ o₂ : Order) → length contents ≡ machine_length
    → difference_place (difference_shown text contents items o₁ o₂) < 2 ^ 32
place-small text contents items o₁ o₂ e =
    let call = plain_call o₁ items (zeros generators) in
    let within = between-within (pass_by text contents items o₁) (pass_by text contents items o₂) machine_length
    (omega (arith, pass-length text contents call, e))
    (omega (arith, written-length text contents call, written-within text contents call, zeros-length generators)) in
    omega (arith, within)
