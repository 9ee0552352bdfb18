-- `trial_octets::put_word_at` meets its contract: the four bytes of a word, put in place of those before, are the definition's.
-- Assumes nothing.
use Rattle.std.proofs.Common.{sym, ◌∙◌, refl, arith, ◌≡◌, ◌<◌, ◌*◌, ◌^◌, ◌/◌, ◌%◌, ℕ}
use Rattle.std.proofs.lemmas.List.Edits.{sets-eq}
use Rattle.std.proofs.lemmas.Slice.{put_mid-paste}
use Rattle.trial_octets.specs.AsCoded.{bytes_of}
use Rattle.trial_octets.proofs.put_word_at.Goals as goal

-- A word's fourth byte is what its lowest 24 bits leave.
fourth : (x : ℕ) → x < 2 ^ 32 → x / 2 ^ 24 % 256 ≡ x / 2 ^ 24
fourth x h = omega (arith, h)

pub returns : goal.returns
unfolding bytes_of
returns c =
    let a = c.args in
    put_mid-paste (4 * a.i) _ a.b.now _ (bytes_of a.x) 4 (c.copy_from_slice.ensures.after ∙ rw (c.to_le_bytes.ensures, fourth a.x c.ranges.x.fits)) (omega arith) refl
    ∙ sym (sets-eq (bytes_of a.x) a.b.now (4 * a.i) (omega (arith, c.requires)))
