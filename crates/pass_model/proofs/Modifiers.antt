-- What the modifiers leave alone, and the widths of what they write.
-- Assumes nothing.
use mathlib.Core.Path.{◌≡◌, refl, ◌∙◌, ap}
use mathlib.Core.Logic.{◌≢◌}
use mathlib.Core.List.{List, []}
use Prim.Native.Nat.{ℕ, zero, suc, ◌+◌, ◌*◌, ◌^◌, ◌≤◌, ◌<◌}
use native.Mathlib.Omega.{arith}
use lib.ListN.{length, get_or}
use lib.Seq.{sets, length-sets}
use Rattle.layout.specs.Layout.{modifier_at, delay_at, delay_y, delay_z}
use Rattle.layout.specs.Machine.{Machine, Memory, Sums}
use Rattle.layout_texts.specs.declared.Text.{Text}
use Rattle.layout_texts.specs.declared.Text.TheVariants.{Of1978, Old}
use Rattle.modifier.specs.declared.Modifier.{Modifier}
use Rattle.modifier.specs.Modifier.{Ranged}
use Rattle.modifier.proofs.Low.{loaded-ranged}
use Rattle.modifier.proofs.Turns.{Low}
use Rattle.modifier_turn.proofs.Turns.{turn_low}
use Rattle.modifier_old.proofs.Turns.{old-turn-low}
use Rattle.delay.proofs.Low.{WordsLow}
use Rattle.pass_sums.proofs.Blocks.{Outside, get_d-outside}
use Rattle.pass_model.specs.Modifiers.{with_writes, early_view, late_view, modifier_turn, turn_seen, modifier_of, Held, delayed, modify, modified, modified_by}
use Rattle.pass_model.proofs.Registers.{registers, four, put_is}
use Rattle.pass_model.proofs.Views.{writes-snoc, writes-length, write_low, seen_low, beside-low}
use Rattle.pass_model.proofs.Delays.{OffUnits, off-below, off-setting, y_of, z_of, delayed-length, delayed-kept, delayed-memory-length, delayed-memory-low, delayed-within}

-- What a turn gives is within its widths; and of a modifier of a machine, whatever stands in it.
modifier-turn-low : (text : Text) (u : Modifier) (a b : ℕ) → Ranged u → a < 2 ^ 20 → b < 2 ^ 20 → Low (modifier_turn text u a b)
modifier-turn-low Of1978 = turn_low
modifier-turn-low Old = λ u a b r h l. old-turn-low u a b r h

pub turn-seen-low : (text : Text) (t : ℕ) (s : Sums) (early late : List ℕ) (words : Machine) (m : ℕ) → Low (turn_seen text t words s early late (modifier_of words m))
unfolding turn_seen modifier_of
turn-seen-low text t s early late words m = modifier-turn-low text _ _ _ (loaded-ranged _) (seen_low _ _ _) (beside-low text t words s early _)

module _ (text : Text) (t : ℕ) (h : Held) (s : Sums) where
  -- The words and delay memory after n modifiers.
  abbrev pub words_at : ℕ → Machine
  words_at n = (modified_by text t h s n).held.words

  abbrev pub memory_at : ℕ → Memory
  memory_at n = (modified_by text t h s n).held.memory

  -- What modifier n does: its registers are written, then its delay unit has its turn.
  record TurnTaken (n : ℕ) : Type 0 where
    unit : Modifier
    ranged : Ranged unit
    by : Modifier
    is : (modified_by text t h s (suc n)).held ≡ delayed text t (record { words = sets (words_at n) (2816 + 8 * n) (registers unit); memory = memory_at n }) by unit.l1

  taken : (n : ℕ) → TurnTaken n
  unfolding modified_by modified modify
  taken n =
      let v = modified text t h s n in
      let early = early_view (get_or s 2 []) n v.writes in
      let late = late_view (get_or s 2 []) n v.writes in
      let u = modifier_of v.held.words n in
      let turn = turn_seen text t v.held.words s early late u in
      record {
        unit = turn.unit;
        ranged = (turn-seen-low text t s early late v.held.words n).ranged;
        by = u;
        is = ap (λ (w : Machine). delayed text t (record { words = w; memory = v.held.memory }) u turn.unit.l1) (put_is v.held.words n turn.unit);
      }

  none-taken : (modified_by text t h s 0).held ≡ h
  unfolding modified_by modified
  none-taken = refl

  -- The machine and delay memory keep their lengths.
  pub words-length : (n : ℕ) → length (words_at n) ≡ length h.words
  words-length zero = ap (λ (k : Held). length k.words) none-taken
  words-length (suc n) =
      let a = taken n in
      ap (λ (k : Held). length k.words) a.is
      ∙ delayed-length text t (record { words = sets (words_at n) (2816 + 8 * n) (registers a.unit); memory = memory_at n }) a.by a.unit.l1
      ∙ length-sets (words_at n) (2816 + 8 * n) (registers a.unit)
      ∙ words-length n

  pub memory-length : (n : ℕ) → length (memory_at n) ≡ length h.memory
  memory-length zero = ap (λ (k : Held). length k.memory) none-taken
  memory-length (suc n) =
      let a = taken n in
      ap (λ (k : Held). length k.memory) a.is
      ∙ delayed-memory-length text t (record { words = sets (words_at n) (2816 + 8 * n) (registers a.unit); memory = memory_at n }) a.by a.unit.l1
      ∙ memory-length n

  -- The words of delay memory keep their width.
  pub memory-low : (n : ℕ) → WordsLow h.memory → WordsLow (memory_at n)
  memory-low zero low = rw (memory_at, none-taken) low
  memory-low (suc n) low =
      let a = taken n in
      rw (memory_at, a.is)
      (delayed-memory-low text t (record { words = sets (words_at n) (2816 + 8 * n) (registers a.unit); memory = memory_at n }) a.by a.unit.l1 a.ranged.l1-low
      (memory-low n low))

  -- Modifier n leaves the words outside its own M0, M1, L0 and L1, and outside what a delay unit's turn changes.
  outside_kept : (n i : ℕ) → Outside i (2816 + 8 * n) 4 → OffUnits i → get_or (words_at (suc n)) i 0 ≡ get_or (words_at n) i 0
  outside_kept n i o u =
      let a = taken n in
      ap (λ (k : Held). get_or k.words i 0) a.is
      ∙ delayed-kept text t (record { words = sets (words_at n) (2816 + 8 * n) (registers a.unit); memory = memory_at n }) a.by a.unit.l1 i u
      ∙ get_d-outside (registers a.unit) (words_at n) (2816 + 8 * n) i 0 (rw (four a.unit) o)

-- Place i has none of the registers M0, M1, L0 and L1 of the first n modifiers, and nothing that a delay unit's turn changes.
pub record Elsewhere (i n : ℕ) : Type 0 where
  pub not_at : (k j : ℕ) → k < n → j < 4 → i ≢ modifier_at k + j
  pub units : OffUnits i

module _ (text : Text) (t : ℕ) (h : Held) (s : Sums) where
  -- A word elsewhere is kept.
  pub words-kept : (n i : ℕ) → Elsewhere i n → get_or (words_at text t h s n) i 0 ≡ get_or h.words i 0
  words-kept zero i e = ap (λ (k : Held). get_or k.words i 0) (none-taken text t h s)
  words-kept (suc n) i e =
      outside_kept text t h s n i (record { out = λ j b. e.not_at n j (omega arith) b }) e.units
      ∙ words-kept n i (record { not_at = λ k j b. e.not_at k j (omega arith); units = e.units })

  -- A word between the modifiers and the delay units, and a delay unit's X, Z and P.
  pub words-between : (n i : ℕ) → n ≤ 128 → 3840 ≤ i → i < delay_at 0 → get_or (words_at text t h s n) i 0 ≡ get_or h.words i 0
  words-between n i b g l = words-kept n i (record { not_at = λ k j a c e. omega arith; units = off-below i l })

  pub unit-setting : (n u j : ℕ) → n ≤ 128 → u < 32 → j < 4 → j ≢ delay_y → get_or (words_at text t h s n) (delay_at u + j) 0 ≡ get_or h.words (delay_at u + j) 0
  unit-setting n u j b l c d = words-kept n (delay_at u + j) (record { not_at = λ k i a e f. omega arith; units = off-setting u j l c d })

  -- Y of a delay unit stays at most Z.
  pub units-within : (n u : ℕ) → n ≤ 128 → u < 32 → delay_at 32 ≤ length h.words → y_of h.words u ≤ z_of h.words u → y_of (words_at text t h s n) u ≤ z_of h.words u
  units-within zero u b l r e = rw (words_at, none-taken text t h s) e
  units-within (suc n) u b l r e =
      let a = taken text t h s n in
      let w : Held = record { words = sets (words_at text t h s n) (2816 + 8 * n) (registers a.unit); memory = memory_at text t h s n } in
      let y : get_or w.words (delay_at u + delay_y) 0 ≡ get_or (words_at text t h s n) (delay_at u + delay_y) 0 =
      get_d-outside (registers a.unit) (words_at text t h s n) (2816 + 8 * n) (delay_at u + delay_y) 0 (rw (four a.unit) (record { out = λ j c q. omega arith })) in
      let z : get_or w.words (delay_at u + delay_z) 0 ≡ get_or (words_at text t h s n) (delay_at u + delay_z) 0 =
      get_d-outside (registers a.unit) (words_at text t h s n) (2816 + 8 * n) (delay_at u + delay_z) 0 (rw (four a.unit) (record { out = λ j c q. omega arith })) in
      let z₀ = unit-setting n u delay_z (omega arith) l (omega arith) (λ q. omega arith) in
      let before = units-within n u (omega arith) l r e in
      let inside : delay_at u + delay_y < length w.words = omega (arith, length-sets (words_at text t h s n) (2816 + 8 * n) (registers a.unit), words-length text t h s n, r) in
      let same : z_of w.words u ≡ z_of h.words u = rw (z, z₀) in
      rw (words_at, a.is) (omega (arith, same, delayed-within text t w a.by a.unit.l1 u l inside (rw (y, same) before)))

  -- Modifier-this keeps its length.
  pub this-length : (n : ℕ) → length (modified_by text t h s n).this ≡ length (get_or s 2 [])
  unfolding modified_by
  this-length n = writes-length (get_or s 2 []) (modified text t h s n).writes

  -- A word of it stays one of 20 bits.
  pub this-low : (n i : ℕ) → get_or (get_or s 2 []) i 0 < 2 ^ 20 → get_or (modified_by text t h s n).this i 0 < 2 ^ 20
  unfolding modified_by modified modify with_writes
  this-low zero i b = b
  this-low (suc n) i b =
      let q = get_or s 2 [] in
      let v = modified text t h s n in
      rw (writes-snoc q v.writes _)
      (write_low (with_writes q v.writes) _ i (turn-seen-low text t s (early_view q n v.writes) (late_view q n v.writes) v.held.words n).s-low (this-low n i b))
