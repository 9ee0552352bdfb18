-- Commands taken one after the other: what is left to take, from the machine and the commands as they are now, is the whole.
-- Assumes nothing.
use mathlib.Core.Path.{◌≡◌, refl, ap, sym, ◌∙◌}
use mathlib.Core.Logic.{◌≢◌}
use mathlib.Core.Bool.{Bool, true, false, cond}
use mathlib.Core.List.{List, []}
use Prim.Native.Nat.{ℕ, zero, suc, ◌+◌, ◌-◌, ◌≤◌, ◌<◌}
use native.Mathlib.Omega.{arith}
use native.Mathlib.Nat.{sub-zero}
use native.Mathlib.Numerals.{add-one}
use borrow.Author.Tests.{eq-eqb, ne_eqb}
use lib.Dec.{eqb}
use lib.ListN.{length, get_or, drop, drop_of_length-le}
use lib.Seq.{drop-cons}
use Rattle.command_built.specs.Built.{command_refusal}
use Rattle.command.specs.Command.{done, waits, after_command, taken_waiting}
use Rattle.command.proofs.Turns.{refused-leaves, passed-waits, passed-does}
use Rattle.command_update.specs.Update.{outcome, commands_taken_by}

taken_none : (k : ℕ) (m : List ℕ) → commands_taken_by k m [] ≡ outcome 0 m []
unfolding commands_taken_by
taken_none zero m = refl
taken_none (suc k) m = refl

taken-all : (m cs : List ℕ) → commands_taken_by 0 m cs ≡ outcome 0 m cs
unfolding commands_taken_by
taken-all m cs = refl

-- The turn of the command at place i.
turn : (n i : ℕ) (m cs : List ℕ) → i < n → i < length cs →
    commands_taken_by (n - i) m (drop i cs)
    ≡ cond (eqb (command_refusal (get_or cs i 0)) 0)
    (cond (waits m (get_or cs i 0)) (outcome 0 (done m (get_or cs i 0)) (drop (i + 1) cs)) (commands_taken_by (n - (i + 1)) (done m (get_or cs i 0)) (drop (i + 1) cs)))
    (outcome (command_refusal (get_or cs i 0)) m (drop i cs))
unfolding commands_taken_by
turn n i m cs h l =
    let e : n - i ≡ suc (n - (i + 1)) = omega arith in
    rw (e, add-one, drop-cons cs i 0) refl

-- The loop's invariant.
pub record Going (m₀ cs : List ℕ) (most : ℕ) (m : List ℕ) (i : ℕ) : Type 0 where
  pub within : i ≤ most
  pub size : length m ≡ length m₀
  pub rest : commands_taken_by (most - i) m (drop i cs) ≡ commands_taken_by most m₀ cs

pub begins : (m cs : List ℕ) (most : ℕ) → Going m cs most m 0
begins m cs most = record { within = omega arith; size = refl; rest = rw sub-zero }

module _ {m₀ cs : List ℕ} {most : ℕ} {m : List ℕ} {i : ℕ} (g : Going m₀ cs most m i) where
  -- The most are taken.
  pub ends-most : i ≡ most → outcome 0 m (drop i cs) ≡ commands_taken_by most m₀ cs
  ends-most h =
      let z : most - i ≡ 0 = omega arith in
      sym (taken-all m (drop i cs)) ∙ ap (λ (k : ℕ). commands_taken_by k m (drop i cs)) (sym z) ∙ g.rest

  -- The words end.
  pub ends-empty : length cs ≤ i → outcome 0 m (drop (length cs) cs) ≡ commands_taken_by most m₀ cs
  ends-empty h =
      let z : drop i cs ≡ [] = drop_of_length-le cs h in
      let k : length cs ≤ length cs = omega arith in
      let y : drop (length cs) cs ≡ [] = drop_of_length-le cs k in
      rw y (sym (taken_none (most - i) m) ∙ ap (commands_taken_by (most - i) m) (sym z) ∙ g.rest)

  module _ (b : i ≢ most) (l : i < length cs) {n : ℕ} {w : Bool} {after : List ℕ}
      (en : n ≡ command_refusal (get_or cs i 0)) (ew : w ≡ taken_waiting m (get_or cs i 0)) (ea : after ≡ after_command m (get_or cs i 0)) where
    below : i < most
    below = omega (arith, b, g.within)

    -- A refused command is not taken.
    pub ends-refused : n ≢ 0 → outcome n after (drop i cs) ≡ commands_taken_by most m₀ cs
    ends-refused h =
        let r : command_refusal (get_or cs i 0) ≢ 0 = λ p. h (en ∙ p) in
        rw (en, ea, refused-leaves m (get_or cs i 0) r) (sym (turn most i m cs below l ∙ rw (ne_eqb (command_refusal (get_or cs i 0)) 0 r)) ∙ g.rest)

    module _ (h : n ≡ 0) where
      passed : command_refusal (get_or cs i 0) ≡ 0
      passed = sym en ∙ h

      waiting : waits m (get_or cs i 0) ≡ w
      waiting = sym (passed-waits m (get_or cs i 0) passed) ∙ sym ew

      by-waiting : commands_taken_by most m₀ cs ≡ cond w (outcome 0 (done m (get_or cs i 0)) (drop (i + 1) cs)) (commands_taken_by (most - (i + 1)) (done m (get_or cs i 0)) (drop (i + 1) cs))
      by-waiting = sym g.rest ∙ turn most i m cs below l ∙ rw (eq-eqb (command_refusal (get_or cs i 0)) 0 passed, waiting)

      -- A waiting one is taken, and no more.
      pub ends-waiting : w ≡ true → outcome 0 after (drop (i + 1) cs) ≡ commands_taken_by most m₀ cs
      ends-waiting t = rw (ea, passed-does m (get_or cs i 0) passed, by-waiting, t)

      -- Any other is taken.
      pub goes_on : w ≡ false → length after ≡ length m → Going m₀ cs most after (i + 1)
      goes_on f s =
          record {
            within = omega (arith, below);
            size = s ∙ g.size;
            rest = rw (ea, passed-does m (get_or cs i 0) passed, by-waiting, f);
          }
