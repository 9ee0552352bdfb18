-- What the turn of a generator keeps, whatever the text: the laws of a pass rest on it.
-- Assumes nothing.
use mathlib.Core.Path.{◌≡◌, refl, sym, ◌∙◌, ap}
use mathlib.Core.Logic.{◌≢◌}
use mathlib.Core.Bool.{Bool, true, false, cond, ◌&&◌, and-false, or-false}
use Prim.Native.Nat.{ℕ, ◌+◌, ◌/◌, ◌%◌, ◌^◌, ◌<◌}
use native.Mathlib.Nat.{mod-eq_of_lt}
use native.Mathlib.Omega.{arith}
use borrow.Author.Tests.{eqb-true, eq-eqb, ne_eqb, lt-ltb}
use lib.Dec.{eqb, lit<}
use lib.ListN.{get_or}
use Rattle.base_lists.specs.Lists.{is_one_of}
use Rattle.base_lists.proofs.Below.{and_first, and_second, and_both}
use Rattle.base_lists.proofs.Choices.{of-cond}
use Rattle.layout_modes.specs.Modes.{built_run, built_oscillator, wait, running_c, write_data, replaces, with_run_mode}
use Rattle.layout.specs.Layout.{generator_at, GN}
use Rattle.layout.specs.Widths.{word_bits}
use Rattle.layout.specs.Machine.{Machine, Sums, gmode_at}
use Rattle.layout_texts.specs.Texts.{run_mode_at, other_modes_at}
use Rattle.layout_texts.specs.declared.Text.{Text}
use Rattle.layout_texts.specs.declared.Text.TheVariants.{Of1978, Old}
use Rattle.machine.specs.Questions.{bits, good_gmode}
use Rattle.machine.proofs.Words.{gmode-from, gmode-oscillator}
use Rattle.pass_sums.specs.Sums.{f_at}
use Rattle.pass_sums.proofs.Memory.{word_low}
use Rattle.generator.specs.declared.Generator.{Generator}
use Rattle.generator.specs.Generator.{Ranged, run_mode, triggers, gmode_after, after}
use Rattle.generator.proofs.Registers.{after-ranged}
use Rattle.generator_turn.specs.AsCoded.{run_of}
use Rattle.layout_old_modes.specs.OldModes.{old_run, old_oscillator, old_oscillators, old_built_modes, old_run_mode}
use Rattle.generator_old.specs.OldGenerator.{switched as as_switched, with_old_run, old_gmode_after, old_after}
use Rattle.generator_old.proofs.OldTurns.{e-low}
use Rattle.generator_old.proofs.Registers.{old-after-ranged}
use Rattle.pass_model.specs.Generators.{Contribution, generator_of, turn1978, turn_old, generator_turn}
use Rattle.pass_model.proofs.Puts.{generator-ranged}

-- GMODE of generator g in r, as it was in m: the other modes are kept, and the run mode too unless it was 1001 or 1101, when it is one of these.
pub record ModeKept (text : Text) (m r : Machine) (g : ℕ) : Type 0 where
  pub rest : other_modes_at text r g ≡ other_modes_at text m g
  pub whole : run_mode_at text m g ≢ wait → run_mode_at text m g ≢ running_c → gmode_at r g ≡ gmode_at m g
  pub other : (mode : ℕ) → mode ≢ wait → mode ≢ running_c → eqb (run_mode_at text r g) mode ≡ eqb (run_mode_at text m g) mode

-- A run mode and the other modes are told by GMODE and GN.
pub same-run : (text : Text) (m r : Machine) (g : ℕ) → gmode_at r g ≡ gmode_at m g → get_or r (generator_at g + GN) 0 ≡ get_or m (generator_at g + GN) 0 → run_mode_at text r g ≡ run_mode_at text m g
same-run Of1978 m r g e n = ap (λ (x : ℕ). x / 2 ^ 6) e
same-run Old m r g e n = rw (e, n)

same_rest : (text : Text) (m r : Machine) (g : ℕ) → gmode_at r g ≡ gmode_at m g → other_modes_at text r g ≡ other_modes_at text m g
same_rest Of1978 m r g e = ap (λ (x : ℕ). x % 2 ^ 6) e
same_rest Old m r g e = ap (λ (x : ℕ). x % 2 ^ 5) e

pub mode-same : (text : Text) (m r : Machine) (g : ℕ) → gmode_at r g ≡ gmode_at m g → get_or r (generator_at g + GN) 0 ≡ get_or m (generator_at g + GN) 0 → ModeKept text m r g
mode-same text m r g e n =
    record { rest = same_rest text m r g e; whole = λ a b. e; other = λ mode a b. ap (λ (x : ℕ). eqb x mode) (same-run text m r g e n) }

-- From m to r and on to s.
pub mode-on : (text : Text) (m r s : Machine) (g : ℕ) → ModeKept text m r g → ModeKept text r s g → ModeKept text m s g
mode-on text m r s g a b =
    record {
      rest = b.rest ∙ a.rest;
      whole = λ n c. b.whole (λ e. n (sym (stays n c) ∙ e)) (λ e. c (sym (stays n c) ∙ e)) ∙ a.whole n c;
      other = λ mode n c. b.other mode n c ∙ a.other mode n c;
    }
  where
    stays : run_mode_at text m g ≢ wait → run_mode_at text m g ≢ running_c → run_mode_at text r g ≡ run_mode_at text m g
    stays n c = eqb-true (run_mode_at text r g) (run_mode_at text m g) (a.other (run_mode_at text m g) n c ∙ eq-eqb (run_mode_at text m g) (run_mode_at text m g) refl)

-- What the turn of generator g brings: registers within their widths, a good GMODE after a good one, whose run mode changes only between 1001 and 1101,
-- a word of 20 bits to send, one of 16 DACs; and it reads and writes data as its run mode does.
pub record TurnKeeps (text : Text) (words : Machine) (g : ℕ) (b : Contribution) : Type 0 where
  pub ranged : Ranged b.unit
  pub good : good_gmode text (generator_of words g).gmode ≡ true → good_gmode text b.unit.gmode ≡ true
  pub mode : (r : Machine) → (generator_of words g).gmode ≡ gmode_at words g → gmode_at r g ≡ b.unit.gmode
      → get_or r (generator_at g + GN) 0 ≡ get_or words (generator_at g + GN) 0 → ModeKept text words r g
  pub sends-low : b.sends < 2 ^ word_bits
  pub dac-low : b.dac < 16
  pub replaces : b.replaces ≡ replaces (run_of text (generator_of words g))
  pub writes : b.writes ≡ eqb (run_of text (generator_of words g)) write_data

-- In the 1978 text GMODE stays good, since run modes 1001 and 1101 are built and the oscillator mode is kept.
good-run : (r x : ℕ) → r < 16 → built_run r ≡ true → good_gmode Of1978 x ≡ true → good_gmode Of1978 (with_run_mode r x) ≡ true
good-run r x h b good =
    let y = with_run_mode r x in
    let low : y < 2 ^ 10 = omega arith in
    let top : y / 2 ^ 6 ≡ r = omega arith in
    let rest : y % 2 ^ 4 ≡ x % 2 ^ 4 = omega arith in
    gmode-from y low (ap built_run top ∙ b) (ap built_oscillator rest ∙ gmode-oscillator x good)

good-after : (u : Generator) (triggered_below : Bool) → good_gmode Of1978 u.gmode ≡ true → good_gmode Of1978 (gmode_after u triggered_below) ≡ true
unfolding gmode_after built_run is_one_of
good-after u triggered_below good =
    of-cond (λ (x : ℕ). good_gmode Of1978 x ≡ true) (eqb (run_mode u) running_c && triggers u) (good-run wait u.gmode (lit< tt) refl good)
    (of-cond (λ (x : ℕ). good_gmode Of1978 x ≡ true) (eqb (run_mode u) wait && triggered_below) (good-run running_c u.gmode (lit< tt) refl good) good)

-- A run mode that changes from one of the two to one of the two, the other modes kept: GMODE y after GMODE x.
record Switched (run rest : ℕ → ℕ) (x y : ℕ) : Type 0 where
  kept : rest y ≡ rest x
  whole : run x ≢ wait → run x ≢ running_c → y ≡ x
  other : (mode : ℕ) → mode ≢ wait → mode ≢ running_c → eqb (run y) mode ≡ eqb (run x) mode

between-two : (x y : ℕ) {a b : ℕ} → x ≡ a → y ≡ b → (mode : ℕ) → mode ≢ a → mode ≢ b → eqb y mode ≡ eqb x mode
between-two x y {a} {b} ex ey mode m n = ne_eqb y mode (λ e. n (sym e ∙ ey)) ∙ sym (ne_eqb x mode (λ e. m (sym e ∙ ex)))

-- GMODE w in run mode 1001 after one in 1101, GMODE c in 1101 after one in 1001.
module _ (run rest : ℕ → ℕ) (x w c : ℕ) (w_kept : rest w ≡ rest x) (c-kept : rest c ≡ rest x) (w-waits : run w ≡ wait) (c-runs : run c ≡ running_c) where
  switched : (a b : Bool) → (a ≡ true → run x ≡ running_c) → (b ≡ true → run x ≡ wait) → Switched run rest x (cond a w (cond b c x))
  switched true b runs waits =
      record { kept = w_kept; whole = λ n m. absurd (m (runs refl)); other = λ mode n m. between-two (run x) (run w) (runs refl) w-waits mode m n }
  switched false true runs waits =
      record { kept = c-kept; whole = λ n m. absurd (n (waits refl)); other = λ mode n m. between-two (run x) (run c) (waits refl) c-runs mode n m }
  switched false false runs waits = record { kept = refl; whole = λ n m. refl; other = λ mode n m. refl }

mode-after : (m r : Machine) (g : ℕ) (u : Generator) (triggered_below : Bool) → u.gmode ≡ gmode_at m g → gmode_at r g ≡ gmode_after u triggered_below → ModeKept Of1978 m r g
unfolding gmode_after
mode-after m r g u triggered_below before now =
    let x = u.gmode in
    let s = switched (λ y. y / 2 ^ 6) (λ y. y % 2 ^ 6) x (with_run_mode wait x) (with_run_mode running_c x) (omega arith) (omega arith) (omega arith) (omega arith)
    (eqb (run_mode u) running_c && triggers u) (eqb (run_mode u) wait && triggered_below)
    (λ e. eqb-true (run_mode u) running_c (and_first (eqb (run_mode u) running_c) (triggers u) e)) (λ e. eqb-true (run_mode u) wait (and_first (eqb (run_mode u) wait) triggered_below e)) in
    let k : Switched (λ y. y / 2 ^ 6) (λ y. y % 2 ^ 6) (gmode_at m g) (gmode_at r g) = rw (now, ← before) s in
    record { rest = k.kept; whole = k.whole; other = k.other }

-- In the older text too: its run modes 100 and 101 are switched as these, and a GMODE in one of them that is good has an oscillator mode that is built in all.
old-run : (r x : ℕ) → r < 8 → old_run (with_old_run r x) ≡ r
old-run r x h =
    let q : with_old_run r x / 2 ^ 5 ≡ r = omega arith in
    ap (λ (y : ℕ). y % 2 ^ 3) q ∙ mod-eq_of_lt {n = r} {m = 2 ^ 3} h

old-good : (r x : ℕ) → r < 8 → old_run x ≢ 0 → good_gmode Old x ≡ true → good_gmode Old (with_old_run r x) ≡ true
unfolding old_built_modes
old-good r x h n good =
    let low : with_old_run r x < 2 ^ 8 = omega arith in
    let same : old_oscillator (with_old_run r x) ≡ old_oscillator x = omega arith in
    let is : is_one_of (old_oscillator x) old_oscillators ≡ true = simp (ne_eqb (old_run x) 0 n, and-false, or-false) at (and_second (bits 8 x) (old_built_modes x) good) in
    and_both (bits 8 (with_old_run r x)) (old_built_modes (with_old_run r x)) (lt-ltb (with_old_run r x) (2 ^ 8) low) (rw (same, is) refl)

old-good-after : (u : Generator) (triggered_below : Bool) → good_gmode Old u.gmode ≡ true → good_gmode Old (old_gmode_after u triggered_below) ≡ true
unfolding old_gmode_after
old-good-after u triggered_below good =
    go (eqb (old_run u.gmode) 0b101 && triggers (as_switched u)) (eqb (old_run u.gmode) 0b100 && triggered_below) refl refl
  where
    go : (a b : Bool) → (eqb (old_run u.gmode) 0b101 && triggers (as_switched u)) ≡ a → (eqb (old_run u.gmode) 0b100 && triggered_below) ≡ b
        → good_gmode Old (cond a (with_old_run 0b100 u.gmode) (cond b (with_old_run 0b101 u.gmode) u.gmode)) ≡ true
    go true b ea eb =
        let from = eqb-true (old_run u.gmode) 0b101 (and_first (eqb (old_run u.gmode) 0b101) (triggers (as_switched u)) ea) in
        old-good 0b100 u.gmode (lit< tt) (λ e. omega (arith, e, from)) good
    go false true ea eb =
        let from = eqb-true (old_run u.gmode) 0b100 (and_first (eqb (old_run u.gmode) 0b100) triggered_below eb) in
        old-good 0b101 u.gmode (lit< tt) (λ e. omega (arith, e, from)) good
    go false false ea eb = good

as-wait : (x n : ℕ) → old_run x ≡ 0b100 → old_run_mode x n ≡ wait
unfolding old_run_mode
as-wait x n e = rw e refl

as-running : (x n : ℕ) → old_run x ≡ 0b101 → old_run_mode x n ≡ running_c
unfolding old_run_mode
as-running x n e = rw e refl

old-mode-after : (m r : Machine) (g : ℕ) (u : Generator) (triggered_below : Bool) → u.gmode ≡ gmode_at m g → gmode_at r g ≡ old_gmode_after u triggered_below
    → get_or r (generator_at g + GN) 0 ≡ get_or m (generator_at g + GN) 0 → ModeKept Old m r g
unfolding old_gmode_after
old-mode-after m r g u triggered_below before now sign =
    let x = u.gmode in
    let n = get_or m (generator_at g + GN) 0 in
    let s = switched (λ y. old_run_mode y n) (λ y. y % 2 ^ 5) x (with_old_run 0b100 x) (with_old_run 0b101 x) (omega arith) (omega arith)
    (as-wait (with_old_run 0b100 x) n (old-run 0b100 x (lit< tt))) (as-running (with_old_run 0b101 x) n (old-run 0b101 x (lit< tt)))
    (eqb (old_run x) 0b101 && triggers (as_switched u)) (eqb (old_run x) 0b100 && triggered_below)
    (λ e. as-running x n (eqb-true (old_run x) 0b101 (and_first (eqb (old_run x) 0b101) (triggers (as_switched u)) e)))
    (λ e. as-wait x n (eqb-true (old_run x) 0b100 (and_first (eqb (old_run x) 0b100) triggered_below e))) in
    let k : Switched (λ y. old_run_mode y n) (λ y. y % 2 ^ 5) (gmode_at m g) (gmode_at r g) = rw (now, ← before) s in
    record { rest = k.kept; whole = k.whole; other = λ mode a b. ap (λ (y : ℕ). eqb (old_run_mode (gmode_at r g) y) mode) sign ∙ k.other mode a b }

-- What a turn keeps.
pub turn-keeps : (text : Text) (words : Machine) (sums : Sums) (g : ℕ) (triggered_below : Bool) → TurnKeeps text words g (generator_turn text words sums g triggered_below)
unfolding turn1978 turn_old after old_after f_at
turn-keeps Of1978 words sums g triggered_below =
    let u = generator_of words g in
    record {
      ranged = after-ranged u (f_at sums u.gfm) triggered_below (generator-ranged words g);
      good = good-after u triggered_below;
      mode = λ r e f n. mode-after words r g u triggered_below e f;
      sends-low = word_low _ _;
      dac-low = omega arith;
      replaces = refl;
      writes = refl;
    }
turn-keeps Old words sums g triggered_below =
    let u = generator_of words g in
    record {
      ranged = old-after-ranged u (f_at sums u.gfm) triggered_below (generator-ranged words g);
      good = old-good-after u triggered_below;
      mode = λ r e f n. old-mode-after words r g u triggered_below e f n;
      sends-low = e-low u (f_at sums u.gfm) (generator-ranged words g);
      dac-low = omega arith;
      replaces = refl;
      writes = refl;
    }
