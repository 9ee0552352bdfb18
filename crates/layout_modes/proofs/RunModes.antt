-- The run modes' switches: what the table has at each place, what each switch tells, and how the switches go together.
-- Assumes nothing.
use mathlib.Core.Path.{◌≡◌, refl, ◌∙◌, sym}
use mathlib.Core.Bool.{Bool, true, false, cond, not, ◌||◌, or-false}
use mathlib.Core.List.{List, [], ◌∷◌}
use Prim.Native.Nat.{ℕ, ◌<◌}
use lib.Dec.{eqb}
use Rattle.std.proofs.Common.{nat_eq}
use lib.ListN.{get_or}
use borrow.Author.Tests.{eqb-true}
use Rattle.base_lists.specs.Lists.{is_one_of}
use Rattle.base_lists.proofs.Members.{is_one_of-append}
use Rattle.base_lists.proofs.Tables.{tabulate-at}
use Rattle.layout_modes.specs.declared.Output.TheVariants.{Silent, Adds, Replaces}
use Rattle.layout_modes.specs.Modes.{read_data, wait, running_a, running_b, running_c, oscillator_on, envelope_on, free, adds, replaces, switches_of, is_adds, output_by, row, rows}

pub row_at : (r : ℕ) → r < 16 → get_or rows r [] ≡ row r
unfolding rows
row_at r h = tabulate-at row 16 r [] h

-- A switch, and an output, are told from their numbers.
bit-told : (b : Bool) → not (nat_eq (cond b 1 0) 0) ≡ b
bit-told true = refl
bit-told false = refl

output-told : (a b : Bool) → output_by (cond a 1 (cond b 2 0)) ≡ cond a Adds (cond b Replaces Silent)
output-told true b = refl
output-told false true = refl
output-told false false = refl

-- What the numbers of a row tell.
pub row-tells : (r : ℕ) →
    (record { oscillator = not (nat_eq (get_or (row r) 0 0) 0); envelope = not (nat_eq (get_or (row r) 1 0) 0); free = not (nat_eq (get_or (row r) 2 0) 0); output = output_by (get_or (row r) 3 0) })
    ≡ switches_of r
unfolding row switches_of
row-tells r = rw (bit-told (oscillator_on r), bit-told (envelope_on r), bit-told (free r), output-told (adds r) (replaces r)) refl

running : List ℕ
running = running_a ∷ running_b ∷ running_c ∷ []

-- The envelope is on where the output adds or replaces.
pub envelope-output : (r : ℕ) → envelope_on r ≡ (adds r || replaces r)
unfolding envelope_on adds replaces running
envelope-output r = is_one_of-append r running (read_data ∷ [])

-- The oscillator is on where the output adds, and in wait.
pub oscillator-output : (r : ℕ) → oscillator_on r ≡ (adds r || eqb r wait)
unfolding oscillator_on adds running is_one_of
oscillator-output r = is_one_of-append r running (wait ∷ []) ∙ simp or-false

pub free-is : (r : ℕ) → free r ≡ (eqb r running_b || eqb r running_c)
unfolding free is_one_of
free-is r = rw or-false

pub replaces-is : (r : ℕ) → replaces r ≡ eqb r read_data
unfolding replaces is_one_of
replaces-is r = rw or-false

-- No mode both adds and replaces.
pub replaces-alone : (r : ℕ) → replaces r ≡ true → adds r ≡ false
unfolding adds is_one_of
replaces-alone r h = rw (eqb-true r read_data (sym (replaces-is r) ∙ h))

-- What the switches tell.
pub oscillator-tells : (r : ℕ) → (switches_of r).oscillator ≡ oscillator_on r
unfolding switches_of
oscillator-tells r = refl

pub envelope-tells : (r : ℕ) → (switches_of r).envelope ≡ envelope_on r
unfolding switches_of
envelope-tells r = refl

pub free-tells : (r : ℕ) → (switches_of r).free ≡ free r
unfolding switches_of
free-tells r = refl

adding : (a b : Bool) → is_adds (cond a Adds (cond b Replaces Silent)) ≡ a
adding true b = refl
adding false true = refl
adding false false = refl

pub adds-tells : (r : ℕ) → is_adds (switches_of r).output ≡ adds r
unfolding switches_of
adds-tells r = adding (adds r) (replaces r)
