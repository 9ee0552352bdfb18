-- A delay unit and a modifier among a machine's words: they are told by these words, and a unit that is written back is read as it was written.
-- Assumes nothing.
use mathlib.Core.Path.{◌≡◌, sym, ◌∙◌}
use mathlib.Core.Logic.{◌≢◌}
use Prim.Native.Nat.{ℕ, ◌+◌, ◌≤◌, ◌<◌}
use native.Mathlib.Omega.{arith}
use native.Mathlib.Nat.{mod-eq_of_lt}
use lib.Dec.{lit<}
use lib.ListN.{length, get_or, set, drop, length-set}
use lib.Seq.{get_or-drop, get_or-set_same, get_or-set_other}
use Rattle.layout.specs.Layout.{modifier_at, modifier_words, delay_at, delay_words, delay_x, delay_y, delay_z, delay_p, delay_first, delay_second, delay_third}
use Rattle.layout.specs.Machine.{Machine}
use Rattle.modifier.specs.Modifier.{loaded as modifier_loaded}
use Rattle.delay.specs.declared.Delay.{Delay}
use Rattle.delay.specs.Delay.{loaded, stored, Ranged}
use Rattle.delay_questions.specs.Questions.{delay_of}
use Rattle.pass_model.specs.Modifiers.{modifier_of}
use Rattle.pass_model.proofs.Delays.{stored_other, stored-y}

-- Two units with the same seven words.
pub same-unit : (m n : Machine) (u : ℕ) → ((r : ℕ) → r < delay_words → get_or n (delay_at u + r) 0 ≡ get_or m (delay_at u + r) 0) → delay_of n u ≡ delay_of m u
unfolding loaded
same-unit m n u same =
    rw (at 0 (lit< tt), at 1 (lit< tt), at 2 (lit< tt), at 3 (lit< tt), at 4 (lit< tt), at 5 (lit< tt), at 6 (lit< tt))
  where
    at : (r : ℕ) → r < delay_words → get_or (drop (delay_at u) n) r 0 ≡ get_or (drop (delay_at u) m) r 0
    at r h = get_or-drop (delay_at u) n r 0 ∙ same r h ∙ sym (get_or-drop (delay_at u) m r 0)

-- Two modifiers with the same eight words.
pub same-modifier : (m n : Machine) (k : ℕ) → ((r : ℕ) → r < modifier_words → get_or n (modifier_at k + r) 0 ≡ get_or m (modifier_at k + r) 0) → modifier_of n k ≡ modifier_of m k
unfolding modifier_of modifier_loaded
same-modifier m n k same =
    rw (at 0 (lit< tt), at 1 (lit< tt), at 2 (lit< tt), at 3 (lit< tt), at 4 (lit< tt), at 5 (lit< tt), at 6 (lit< tt), at 7 (lit< tt))
  where
    at : (r : ℕ) → r < modifier_words → get_or (drop (modifier_at k) n) r 0 ≡ get_or (drop (modifier_at k) m) r 0
    at r h = get_or-drop (modifier_at k) n r 0 ∙ same r h ∙ sym (get_or-drop (modifier_at k) m r 0)

module _ (m : Machine) (u : ℕ) (d : Delay) (l : u < 32) (long : delay_at 32 ≤ length m) where
  abbrev at : ℕ
  at = delay_at u

  -- The words on their way are those of the unit.
  stored-first : get_or (stored m at d) (at + delay_first) 0 ≡ d.first
  unfolding stored
  stored-first =
      get_or-set_other (set (set (set m (at + delay_y) d.y) (at + delay_first) d.first) (at + delay_second) d.second) (at + delay_third) (at + delay_first) d.third 0 (λ e. omega arith)
      ∙ get_or-set_other (set (set m (at + delay_y) d.y) (at + delay_first) d.first) (at + delay_second) (at + delay_first) d.second 0 (λ e. omega arith)
      ∙ get_or-set_same (set m (at + delay_y) d.y) (at + delay_first) d.first 0 (rw length-set (omega arith))

  stored-second : get_or (stored m at d) (at + delay_second) 0 ≡ d.second
  unfolding stored
  stored-second =
      get_or-set_other (set (set (set m (at + delay_y) d.y) (at + delay_first) d.first) (at + delay_second) d.second) (at + delay_third) (at + delay_second) d.third 0 (λ e. omega arith)
      ∙ get_or-set_same (set (set m (at + delay_y) d.y) (at + delay_first) d.first) (at + delay_second) d.second 0 (simp length-set (omega arith))

  stored-third : get_or (stored m at d) (at + delay_third) 0 ≡ d.third
  unfolding stored
  stored-third =
      get_or-set_same (set (set (set m (at + delay_y) d.y) (at + delay_first) d.first) (at + delay_second) d.second) (at + delay_third) d.third 0 (simp length-set (omega arith))

  -- A word of the unit that is none of those written.
  stored-setting : (r : ℕ) → r < 4 → r ≢ 1 → get_or (drop at (stored m at d)) r 0 ≡ get_or (drop at m) r 0
  stored-setting r h n =
      get_or-drop at (stored m at d) r 0
      ∙ stored_other m at d (at + r) (λ e. n (omega arith)) (λ e. omega arith) (λ e. omega arith) (λ e. omega arith)
      ∙ sym (get_or-drop at m r 0)

  -- A unit within its widths that keeps X, Z and P is read as it was written.
  pub stored-unit : Ranged d → d.x ≡ (delay_of m u).x → d.z ≡ (delay_of m u).z → d.p ≡ (delay_of m u).p → delay_of (stored m at d) u ≡ d
  unfolding loaded
  stored-unit r x z p =
      same
      (rw (stored-setting delay_x (lit< tt) (λ e. omega arith)) (sym x))
      (rw (get_or-drop at (stored m at d) delay_y 0, stored-y m at d (omega arith)) (mod-eq_of_lt r.y-low))
      (rw (stored-setting delay_z (lit< tt) (λ e. omega arith)) (sym z))
      (rw (stored-setting delay_p (lit< tt) (λ e. omega arith)) (sym p))
      (rw (get_or-drop at (stored m at d) delay_first 0, stored-first) (mod-eq_of_lt r.first-low))
      (rw (get_or-drop at (stored m at d) delay_second 0, stored-second) (mod-eq_of_lt r.second-low))
      (rw (get_or-drop at (stored m at d) delay_third 0, stored-third) (mod-eq_of_lt r.third-low))
    where
      same : {x y z p a b c : ℕ} → x ≡ d.x → y ≡ d.y → z ≡ d.z → p ≡ d.p → a ≡ d.first → b ≡ d.second → c ≡ d.third
          → ◌≡◌ {A = Delay} (record { x = x; y = y; z = z; p = p; first = a; second = b; third = c }) d
      same ex ey ez ep ea eb ec = rw (ex, ey, ez, ep, ea, eb, ec)
