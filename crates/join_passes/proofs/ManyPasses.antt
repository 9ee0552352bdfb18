-- A bell alone and a machine that plays it, over any number of passes by number: it plays it still, and the bell uses what it used at first.
-- Assumes nothing.
use mathlib.Core.Path.{◌≡◌, ◌∙◌}
use mathlib.Core.Bool.{true}
use Prim.Native.Nat.{ℕ, zero, suc}
use lib.ListN.{replicate}
use Rattle.layout.specs.Machine.{Machine, Memory, ticks_of}
use Rattle.layout_texts.specs.declared.Text.TheVariants.{Of1978}
use Rattle.delay_questions.specs.Questions.{memory_good}
use Rattle.base_sequences.specs.Sequences.{by_number}
use Rattle.pass_model.specs.Pass.{pass_of}
use Rattle.pass_laws.specs.Good.{Good}
use Rattle.pass_laws.specs.Passes.{no_data}
use Rattle.pass_laws.proofs.PassValid.{pass-valid}
use Rattle.pass_laws.proofs.PassDelays.{pass-memory}
use Rattle.pass_laws.proofs.PassesInSequence.{rung-ticks, by-number-first, by-number-none}
use Rattle.join_model.specs.Join.{uses_word, uses_dac}
use Rattle.join_model.specs.AsCoded.{Bell}
use Rattle.join_passes.specs.TwoBells.{after}
use Rattle.join_passes.proofs.OwnPass.{number_call, one_pass}
use Rattle.join_passes.proofs.OnePass.{word_kept, dac-kept, bell-pass}

-- What a pass leaves of delay memory.
abbrev left : Machine → Memory → Memory
left m memory = (pass_of Of1978 m (number_call m memory)).memory

pub bell-rings : (n : ℕ) (a j : Machine) (at : ℕ) → Bell a j at → (own memory : Memory) → memory_good own ≡ true → memory_good memory ≡ true
    → Bell (after n a own) (after n j memory) at
bell-rings zero a j at bell own memory good-own good = rw (by-number-none Of1978 a own, by-number-none Of1978 j memory) bell
bell-rings (suc n) a j at bell own memory good-own good =
    rw (by-number-first Of1978 n a own, by-number-first Of1978 n j memory)
    (bell-rings n (one_pass a own) (one_pass j memory) at (bell-pass a j at bell own memory good-own good) (left a own) (left j memory)
    (pass-memory Of1978 a (number_call a own) good-own) (pass-memory Of1978 j (number_call j memory) good))

-- T and what is used.
pub ticks-after : (n : ℕ) (m : Machine) (memory : Memory) → ticks_of (after n m memory) ≡ ticks_of m
ticks-after n m memory = rung-ticks Of1978 (by_number (ticks_of m)) (replicate n no_data) m memory

pub word_after : (n : ℕ) (m : Machine) → Good Of1978 m → (memory : Memory) (w : ℕ) → uses_word (after n m memory) w ≡ uses_word m w
word_after zero m good memory w = rw (by-number-none Of1978 m memory)
word_after (suc n) m good memory w =
    rw (by-number-first Of1978 n m memory)
    (word_after n (one_pass m memory) (pass-valid Of1978 m (number_call m memory) good) (left m memory) w ∙ word_kept m good memory w)

pub dac-after : (n : ℕ) (m : Machine) → Good Of1978 m → (memory : Memory) (d : ℕ) → uses_dac (after n m memory) d ≡ uses_dac m d
dac-after zero m good memory d = rw (by-number-none Of1978 m memory)
dac-after (suc n) m good memory d =
    rw (by-number-first Of1978 n m memory)
    (dac-after n (one_pass m memory) (pass-valid Of1978 m (number_call m memory) good) (left m memory) d ∙ dac-kept m good memory d)
