-- Words read from and put into two machines that differ in the counter's high bits alone: what is read elsewhere is the same, and what is put leaves two such machines.
-- Assumes nothing.
use mathlib.Core.Path.{◌≡◌, refl, sym, ap, ◌∙◌}
use mathlib.Core.Bool.{Bool, true, false, cond}
use mathlib.Core.Logic.{◌≢◌}
use mathlib.Core.List.{List, [], ◌∷◌}
use Prim.Native.Nat.{ℕ, zero, suc, ◌+◌, ◌%◌, ◌^◌, ◌<◌}
use native.Mathlib.Omega.{arith}
use native.Mathlib.Nat.{mod-add-mod}
use lib.Dec.{lit<, lit≤}
use lib.ListN.{length, get_or, set, drop, length-set}
use lib.Seq.{get_or-drop, get_or-set_same, get_or-set_other, ext_get_or, sets}
use Rattle.base_words.proofs.Residues.{wrapped}
use Rattle.layout.specs.Layout.{quadrant_at, counter_at, modifier_at, delay_at, generator_at, t_at}
use Rattle.layout.specs.Machine.{Machine, low_counter, ticks_of}
use Rattle.layout.specs.Widths.{counter_bits, linger_bits}
use Rattle.layout_texts.specs.declared.Text.{Text}
use Rattle.machine.proofs.NarrowCounter.{any-counter}
use Rattle.pass_sums.specs.Sums.{quadrant_of, sums_of}
use Rattle.pass_sums.proofs.Memory.{quadrant-word, quadrant-length}
use Rattle.delay.specs.Delay.{loaded as loaded_delay}
use Rattle.delay_questions.specs.Questions.{delay_of}
use Rattle.modifier.specs.Modifier.{loaded as loaded_modifier}
use Rattle.pass_model.specs.Generators.{generator_of}
use Rattle.pass_model.specs.Modifiers.{modifier_of}
use Rattle.pass_model.specs.Pass.{counted}
use Rattle.pass_laws.specs.Good.{Good}
use Rattle.pass_laws.proofs.TextTurns.{same-generator}
use Rattle.ring_counter.specs.SameButHigh.{SameButHigh}
use Rattle.ring_counter.specs.NarrowRinging.{narrow}

-- What a word is told by, after the same is put at the same place of two runs that are as long.
put_both : (f : ℕ → ℕ) (m n : List ℕ) (i v j : ℕ) → length m ≡ length n → f (get_or m j 0) ≡ f (get_or n j 0) → f (get_or (set m i v) j 0) ≡ f (get_or (set n i v) j 0)
put_both f [] [] i v j l e = e
put_both f [] (y ∷ n) i v j l e = absurd (omega arith)
put_both f (x ∷ m) [] i v j l e = absurd (omega arith)
put_both f (x ∷ m) (y ∷ n) zero v zero l e = refl
put_both f (x ∷ m) (y ∷ n) zero v (suc j) l e = e
put_both f (x ∷ m) (y ∷ n) (suc i) v zero l e = e
put_both f (x ∷ m) (y ∷ n) (suc i) v (suc j) l e = put_both f m n i v j (omega arith) e

-- A word put, words put from a place on, and a choice.
pub put : {m n : Machine} → SameButHigh m n → (i v : ℕ) → SameButHigh (set m i v) (set n i v)
put {m} {n} s i v =
    record {
      as_long = length-set m i v ∙ s.as_long ∙ sym (length-set n i v);
      low = put_both (λ (x : ℕ). x % 2 ^ linger_bits) m n i v counter_at s.as_long s.low;
      others = λ j d. put_both (λ (x : ℕ). x) m n i v j s.as_long (s.others j d);
    }

pub put_all : (vs : List ℕ) {m n : Machine} → SameButHigh m n → (i : ℕ) → SameButHigh (sets m i vs) (sets n i vs)
put_all [] s i = s
put_all (v ∷ vs) s i = put_all vs (put s i v) (suc i)

pub either : (b : Bool) {m n l k : Machine} → SameButHigh m n → SameButHigh l k → SameButHigh (cond b m l) (cond b n k)
either true s r = s
either false s r = r

-- The counter, 1 added: its low bits go on as those of a counter without others.
counted-low : (m : Machine) → counter_at < length m → low_counter (counted m) ≡ (low_counter m + 1) % 2 ^ linger_bits
unfolding counted
counted-low m h =
    ap (λ (x : ℕ). x % 2 ^ linger_bits) (get_or-set_same m counter_at ((get_or m counter_at 0 + 1) % 2 ^ counter_bits) 0 h)
    ∙ wrapped linger_bits (get_or m counter_at 0 + 1) (lit≤ tt) ∙ sym (mod-add-mod (get_or m counter_at 0) (2 ^ linger_bits) 1)

counted-length : (m : Machine) → length (counted m) ≡ length m
unfolding counted
counted-length m = length-set m counter_at ((get_or m counter_at 0 + 1) % 2 ^ counter_bits)

counted-other : (m : Machine) (i : ℕ) → i ≢ counter_at → get_or (counted m) i 0 ≡ get_or m i 0
unfolding counted
counted-other m i d = get_or-set_other m counter_at i ((get_or m counter_at 0 + 1) % 2 ^ counter_bits) 0 d

pub count : {m n : Machine} → SameButHigh m n → counter_at < length m → SameButHigh (counted m) (counted n)
count {m} {n} s inside =
    record {
      as_long = counted-length m ∙ s.as_long ∙ sym (counted-length n);
      low = counted-low m inside ∙ ap (λ (x : ℕ). (x + 1) % 2 ^ linger_bits) s.low ∙ sym (counted-low n (omega (arith, inside, s.as_long)));
      others = λ i d. counted-other m i d ∙ s.others i d ∙ sym (counted-other n i d);
    }

-- Words below the counter and past it are the same, and so are those that a generator, a modifier, a delay unit and a quadrant have.
module _ {m n : Machine} (s : SameButHigh m n) where
  pub below : (i : ℕ) → i < counter_at → get_or m i 0 ≡ get_or n i 0
  below i h = s.others i (λ e. omega arith)

  pub past : (i : ℕ) → counter_at < i → get_or m i 0 ≡ get_or n i 0
  past i h = s.others i (λ e. omega arith)

  pub same-ticks : ticks_of m ≡ ticks_of n
  same-ticks = below t_at (lit< tt)

  pub generator : (g : ℕ) → g < 256 → generator_of m g ≡ generator_of n g
  generator g h = same-generator m n g (λ j l. below (generator_at g + j) (omega arith))

  dropped : (at j : ℕ) → get_or m (at + j) 0 ≡ get_or n (at + j) 0 → get_or (drop at m) j 0 ≡ get_or (drop at n) j 0
  dropped at j e = get_or-drop at m j 0 ∙ e ∙ sym (get_or-drop at n j 0)

  pub modifier : (k : ℕ) → k < 128 → modifier_of m k ≡ modifier_of n k
  unfolding modifier_of loaded_modifier
  modifier k h = rw (at 0 (lit< tt), at 1 (lit< tt), at 2 (lit< tt), at 3 (lit< tt), at 4 (lit< tt), at 5 (lit< tt), at 6 (lit< tt), at 7 (lit< tt))
    where
      at : (j : ℕ) → j < 8 → get_or (drop (modifier_at k) m) j 0 ≡ get_or (drop (modifier_at k) n) j 0
      at j l = dropped (modifier_at k) j (below (modifier_at k + j) (omega arith))

  pub unit : (u : ℕ) → delay_of m u ≡ delay_of n u
  unfolding loaded_delay
  unit u = rw (at 0 (lit< tt), at 1 (lit< tt), at 2 (lit< tt), at 3 (lit< tt), at 4 (lit< tt), at 5 (lit< tt), at 6 (lit< tt))
    where
      at : (j : ℕ) → j < 7 → get_or (drop (delay_at u) m) j 0 ≡ get_or (drop (delay_at u) n) j 0
      at j l = dropped (delay_at u) j (past (delay_at u + j) (omega arith))

  pub sum-memory : counter_at < length m → sums_of m ≡ sums_of n
  unfolding sums_of
  sum-memory h = rw (quadrant 0 (lit< tt), quadrant 1 (lit< tt), quadrant 2 (lit< tt), quadrant 3 (lit< tt))
    where
      all : (l : Machine) → counter_at < length l → (q : ℕ) → q < 4 → length (quadrant_of l q) ≡ 64
      all l i q b = quadrant-length l q (omega arith)

      quadrant : (q : ℕ) → q < 4 → quadrant_of m q ≡ quadrant_of n q
      quadrant q b =
          let long : counter_at < length n = omega (arith, h, s.as_long) in
          ext_get_or 0 (quadrant_of m q) (quadrant_of n q) (all m h q b ∙ sym (all n long q b))
          (λ i l. let i64 : i < 64 = omega (arith, l, all m h q b) in
          quadrant-word m q i i64 ∙ below (quadrant_at q + i) (omega arith) ∙ sym (quadrant-word n q i i64))

-- From one machine to another, and on to a third.
pub same-own : (m : Machine) → SameButHigh m m
same-own m = record { as_long = refl; low = refl; others = λ i d. refl }

pub same-on : {l m n : Machine} → SameButHigh l m → SameButHigh m n → SameButHigh l n
same-on s r = record { as_long = s.as_long ∙ r.as_long; low = s.low ∙ r.low; others = λ i d. s.others i d ∙ r.others i d }

-- A machine and the same with its counter cut to 20 bits.
pub narrow-same : (m : Machine) → counter_at < length m → SameButHigh m (narrow m)
narrow-same m h =
    record {
      as_long = sym (length-set m counter_at _);
      low = sym (ap (λ (x : ℕ). x % 2 ^ linger_bits) (get_or-set_same m counter_at _ 0 h) ∙ omega arith);
      others = λ i d. sym (get_or-set_other m counter_at i _ 0 d);
    }

pub narrow_good : (text : Text) (m : Machine) → Good text m → Good text (narrow m)
narrow_good text m good =
    record { whole = length-set m counter_at _ ∙ good.whole; is-valid = any-counter text m good.is-valid _ (omega arith) }
