-- The tests of one word.
-- Assumes nothing.
use mathlib.Core.Path.{◌≡◌, refl, sym, ap, ◌∙◌}
use mathlib.Core.Bool.{Bool, true, false, not, ◌&&◌}
use Prim.Native.Nat.{ℕ, ◌/◌, ◌%◌, ◌^◌, ◌<◌, ◌≤◌}
use native.Mathlib.Omega.{arith}
use native.Mathlib.Nat.{mod-eq_of_lt}
use borrow.Author.Tests.{ltb-true, ltb-false, lt-ltb, eq-eqb, ne_eqb}
use lib.Dec.{eqb, ltb}
use Rattle.base_lists.proofs.Below.{and_first, and_second, and_both}
use Rattle.layout_modes.specs.Modes.{built_run, built_oscillator}
use Rattle.layout_old_modes.specs.OldModes.{old_built_modes}
use Rattle.layout_codes.specs.BuiltCodes.{built_function, old_built_function, built_mode}
use Rattle.machine.specs.Questions.{bits, built_modes, good_gmode, built_source, good_address, mmode_built, good_mmode, test, delay_mode}
use Rattle.machine.specs.AsCoded.{modes_field, function_field, delay_field}
use Rattle.layout_texts.specs.declared.Text.{Text}
use Rattle.layout_texts.specs.declared.Text.TheVariants.{Of1978, Old}

-- Eight bits of which the top two are not 11 are the numbers below 192.
pub address_is : (x : ℕ) → ltb x 192 ≡ good_address x
address_is x = at (ltb x 192) refl where
  at : (b : Bool) → ltb x 192 ≡ b → b ≡ good_address x
  at true e =
      let h : x < 192 = ltb-true x 192 e in
      rw (lt-ltb x 256 (omega arith), ne_eqb (x / 64) 3 (λ q. omega arith))
  at false e = wide (ltb x 256) refl where
    wide : (w : Bool) → ltb x 256 ≡ w → false ≡ (w && not (eqb (x / 64) 3))
    wide false f = refl
    wide true f =
        let h : 192 ≤ x = ltb-false x 192 e in
        let l : x < 256 = ltb-true x 256 f in
        rw (eq-eqb (x / 64) 3 (omega arith))

pub address_below : (x : ℕ) → good_address x ≡ true → x < 192
address_below x e = ltb-true x 192 (address_is x ∙ e)

pub address-and : (x : ℕ) → good_address x ≡ (bits 8 x && ltb x 192)
address-and x = by_width (bits 8 x) refl where
  by_width : (b : Bool) → bits 8 x ≡ b → (b && built_source x) ≡ (b && ltb x 192)
  by_width false e = refl
  by_width true e = sym (address_is x ∙ rw e)

-- In a word within its width the modes are the whole word.
within : (w : ℕ) (p : ℕ → Bool) (x : ℕ) → (ltb x w && p x) ≡ (ltb x w && p (x % w))
within w p x = by_width (ltb x w) refl where
  by_width : (b : Bool) → ltb x w ≡ b → (b && p x) ≡ (b && p (x % w))
  by_width false e = refl
  by_width true e = ap p (sym (mod-eq_of_lt (ltb-true x w e)))

pub gmode-is : (x : ℕ) → good_gmode Of1978 x ≡ (bits 10 x && modes_field Of1978 x)
gmode-is x = within 1024 built_modes x

pub old-gmode-is : (x : ℕ) → good_gmode Old x ≡ (bits 8 x && modes_field Old x)
old-gmode-is x = within 256 old_built_modes x

-- A good GMODE has at most 10 bits, a good MMODE 9.
pub gmode-low : (text : Text) (x : ℕ) → good_gmode text x ≡ true → x < 2 ^ 10
gmode-low Of1978 x e = ltb-true x (2 ^ 10) (and_first (bits 10 x) _ e)
gmode-low Old x e = let h : x < 2 ^ 8 = ltb-true x (2 ^ 8) (and_first (bits 8 x) _ e) in omega arith

pub mmode-low : (text : Text) (x : ℕ) → good_mmode text x ≡ true → x < 2 ^ 9
mmode-low Of1978 x e = ltb-true x (2 ^ 9) (and_first (bits 9 x) _ e)
mmode-low Old x e = ltb-true x (2 ^ 9) (and_first (bits 9 x) _ e)

-- A good GMODE from its three parts, its run mode and its oscillator mode.
pub gmode-from : (x : ℕ) → x < 2 ^ 10 → built_run (x / 2 ^ 6) ≡ true → built_oscillator (x % 2 ^ 4) ≡ true → good_gmode Of1978 x ≡ true
gmode-from x h run oscillator =
    and_both (bits 10 x) (built_modes x) (lt-ltb x (2 ^ 10) h) (and_both (built_run (x / 2 ^ 6)) (built_oscillator (x % 2 ^ 4)) run oscillator)

pub gmode-run : (x : ℕ) → good_gmode Of1978 x ≡ true → built_run (x / 2 ^ 6) ≡ true
gmode-run x e = and_first (built_run (x / 2 ^ 6)) (built_oscillator (x % 2 ^ 4)) (and_second (bits 10 x) (built_modes x) e)

pub gmode-oscillator : (x : ℕ) → good_gmode Of1978 x ≡ true → built_oscillator (x % 2 ^ 4) ≡ true
gmode-oscillator x e = and_second (built_run (x / 2 ^ 6)) (built_oscillator (x % 2 ^ 4)) (and_second (bits 10 x) (built_modes x) e)

field_is : (p : ℕ → Bool) (x : ℕ) → (bits 9 x && p (x / 2 ^ 4)) ≡ (bits 9 x && p (x / 2 ^ 4 % 32))
field_is p x = by_width (bits 9 x) refl where
  by_width : (b : Bool) → bits 9 x ≡ b → (b && p (x / 2 ^ 4)) ≡ (b && p (x / 2 ^ 4 % 32))
  by_width false e = refl
  by_width true e =
      let h : x < 512 = ltb-true x 512 e in
      rw (mod-eq_of_lt {n = x / 16} {m = 32} (omega arith))

pub mmode-is : (text : Text) (x : ℕ) → good_mmode text x ≡ (bits 9 x && function_field text x)
mmode-is Of1978 x = field_is built_function x
mmode-is Old x = field_is old_built_function x

-- A good MMODE has a built function.
pub mmode-function : (x : ℕ) → good_mmode Of1978 x ≡ true → built_function (x / 2 ^ 4) ≡ true
mmode-function x e = and_second (bits 9 x) (mmode_built x) e

-- A word of 4 bits is a delay unit's mode.
pub delay-mode-is : (x : ℕ) → test delay_mode x ≡ (bits 4 x && delay_field x)
delay-mode-is x = within 16 built_mode x
