-- What writes leave on a quadrant, one write at a time, and what a modifier sees of sum memory while its modifier-this quadrant changes.
-- Assumes nothing.
use mathlib.Core.Path.{◌≡◌, refl, sym, ◌∙◌}
use mathlib.Core.Bool.{cond}
use mathlib.Core.List.{List, [], ◌∷◌, ◌++◌}
use Prim.Native.Nat.{ℕ, zero, suc, ◌/◌, ◌%◌, ◌^◌, ◌<◌}
use native.Mathlib.Omega.{arith}
use lib.Dec.{eqb, lit<}
use lib.ListN.{length, get_or, set, drop, length-set}
use lib.Seq.{get_or-set_other}
use Rattle.layout.specs.Layout.{delay_at}
use Rattle.layout.specs.Machine.{Machine}
use Rattle.layout_texts.specs.declared.Text.{Text}
use Rattle.modifier.specs.declared.Modifier.{Modifier}
use Rattle.modifier.specs.Modifier.{function_of}
use Rattle.base_words.proofs.Residues.{either-low, sum_low}
use Rattle.modifier_delay.specs.Invoke.{unit_of}
use Rattle.delay.specs.Delay.{runs}
use Rattle.delay.proofs.Low.{due-low}
use Rattle.delay_questions.specs.Questions.{delay_of}
use Rattle.pass_sums.proofs.Memory.{word_low}
use Rattle.pass_model.specs.Modifiers.{Write, with_write, with_writes, seen, given, modifier_reads_late, invokes_delay, second_input, turn_seen}

-- One write more.
pub writes-snoc : (q : List ℕ) (ws : List Write) (w : Write) → with_writes q (ws ++ (w ∷ [])) ≡ with_write (with_writes q ws) w
unfolding with_writes
writes-snoc q [] w = refl
writes-snoc q (v ∷ ws) w = writes-snoc (with_write q v) ws w

-- A quadrant keeps its length.
pub writes-length : (q : List ℕ) (ws : List Write) → length (with_writes q ws) ≡ length q
unfolding with_writes with_write
writes-length q [] = refl
writes-length q (w ∷ ws) = writes-length (with_write q w) ws ∙ simp length-set

-- A word of a quadrant stays one of 20 bits as a word of 20 bits is written.
pub set_below : (l : List ℕ) (i j v b : ℕ) → v < b → get_or l j 0 < b → get_or (set l i v) j 0 < b
set_below [] i j v b h g = g
set_below (x ∷ l) zero zero v b h g = h
set_below (x ∷ l) zero (suc j) v b h g = g
set_below (x ∷ l) (suc i) zero v b h g = g
set_below (x ∷ l) (suc i) (suc j) v b h g = set_below l i j v b h g

pub write_low : (q : List ℕ) (w : Write) (i : ℕ) → w.s < 2 ^ 20 → get_or q i 0 < 2 ^ 20 → get_or (with_write q w) i 0 < 2 ^ 20
unfolding with_write
write_low q w i h g =
    set_below q (w.msum % 64) i _ (2 ^ 20) (either-low (eqb (w.msum / 64) 0) (sum_low 20 _ _) h) g

-- Writes leave nothing on an empty quadrant, so that modifier-this in sum memory is what they leave on it, however many quadrants there are.
writes-nil : (ws : List Write) → with_writes [] ws ≡ []
unfolding with_writes with_write
writes-nil [] = refl
writes-nil (w ∷ ws) = writes-nil ws

pub this-at : (s : List (List ℕ)) (ws : List Write) → get_or (set s 2 (with_writes (get_or s 2 []) ws)) 2 [] ≡ with_writes (get_or s 2 []) ws
this-at [] ws = sym (writes-nil ws)
this-at (a ∷ []) ws = sym (writes-nil ws)
this-at (a ∷ b ∷ []) ws = sym (writes-nil ws)
this-at (a ∷ b ∷ c ∷ s) ws = refl

-- With a view of modifier-this in hand, the quadrant itself is not looked at.
seen-set : (s : List (List ℕ)) (q view : List ℕ) (address : ℕ) → seen (set s 2 q) view address ≡ seen s view address
unfolding seen
seen-set s q view address = rw (get_or-set_other s 2 1 q [] (λ e. omega arith), get_or-set_other s 2 3 q [] (λ e. omega arith))

pub turn-set : (text : Text) (t : ℕ) (words : Machine) (s : List (List ℕ)) (q early late : List ℕ) (u : Modifier) → turn_seen text t words (set s 2 q) early late u ≡ turn_seen text t words s early late u
unfolding turn_seen second_input
turn-set text t words s q early late u =
    rw (seen-set s q (cond (modifier_reads_late text (function_of u)) late early) u.min, seen-set s q early u.mrm)

-- A word that is seen is one of 20 bits.
pub seen_low : (s : List (List ℕ)) (view : List ℕ) (address : ℕ) → seen s view address < 2 ^ 20
unfolding seen
seen_low s view address =
    either-low (eqb (address / 64) 0) (word_low _ _) (either-low (eqb (address / 64) 1) (word_low _ _) (word_low _ _))

-- So is one that a delay unit gives, and the word beside A.
pub given-low : (t : ℕ) (words : Machine) (u : Modifier) → given t words u < 2 ^ 20
unfolding given
given-low t words u = either-low (runs t (unit_of u) (delay_of words (unit_of u))) (due-low (drop (delay_at (unit_of u)) words)) (lit< tt)

pub beside-low : (text : Text) (t : ℕ) (words : Machine) (s : List (List ℕ)) (early : List ℕ) (u : Modifier) → second_input text t words s early u < 2 ^ 20
unfolding second_input
beside-low text t words s early u = either-low (invokes_delay text u) (given-low t words u) (seen_low s early u.mrm)
