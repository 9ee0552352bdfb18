-- What is claimed of delay units.
-- Assumes nothing.
use mathlib.Core.Path.{◌≡◌, sym, ap, ◌∙◌}
use mathlib.Core.Logic.{◌≢◌, ◌⊎◌, ⊎_elim}
use mathlib.Core.Bool.{true, false}
use Prim.Native.Nat.{ℕ, ◌+◌, ◌/◌, ◌<◌}
use lib.ListN.{get_or}
use Rattle.layout.specs.Layout.{delay_at, delay_words, delays}
use Rattle.layout.specs.Machine.{Machine, ticks_of}
use Rattle.layout_texts.specs.declared.Text.TheVariants.{Of1978}
use Rattle.delay_questions.specs.Questions.{invokes, named_by}
use Rattle.pass_model.specs.Pass.{Call, Outcome, pass_of}
use Rattle.pass_laws.proofs.Passing.{pass-by, pass-number, let_through, refused-machine, refused-memory}
use Rattle.pass_delay_laws.specs.InPasses.{after, acts, puts_word}
use Rattle.pass_delay_laws.specs.DelayClaims.{DelayClaims}
use Rattle.pass_delay_laws.proofs.OnePass.{rests, memory-after, l0-after, word-sent}
use Rattle.pass_delay_laws.proofs.Sequences.{memory-stays, line-comes-back, table-comes-back}
use Rattle.pass_delay_laws.proofs.NothingBetween.{alone-runs, alone-writes}
use Rattle.pass_delay_laws.proofs.Echo.{echo-heard, echo-looked-up}

module _ (m : Machine) (call : Call) where
  unit-rests : (u : ℕ) → u < delays → ((k : ℕ) → k < ticks_of m / 2 → invokes m k ≡ true → named_by m k ≢ u) ⊎ (acts m u ≡ false)
      → (r : ℕ) → r < delay_words → get_or (after m call) (delay_at u + r) 0 ≡ get_or m (delay_at u + r) 0
  unit-rests u l idle r c =
      pass-by Of1978 m call (λ (x : Outcome). get_or x.machine (delay_at u + r) 0 ≡ get_or m (delay_at u + r) 0)
      (ap (λ (w : Machine). get_or w (delay_at u + r) 0) (refused-machine Of1978 m call))
      (λ n. ap (λ (x : Outcome). get_or x.machine (delay_at u + r) 0) (sym (let_through Of1978 m call n)) ∙ rests m call (pass-number Of1978 m call ∙ n) u l idles r c)
    where
      idles : (k : ℕ) → k < ticks_of m / 2 → invokes m k ≡ true → named_by m k ≡ u → acts m u ≡ false
      idles k b i q =
          ⊎_elim (λ (none : (j : ℕ) → j < ticks_of m / 2 → invokes m j ≡ true → named_by m j ≢ u). absurd (none k b i q)) (λ (e : acts m u ≡ false). e) idle

  memory-rests : ((k : ℕ) → k < ticks_of m / 2 → puts_word m k ≡ false) → (pass_of Of1978 m call).memory ≡ call.memory
  memory-rests none =
      pass-by Of1978 m call (λ (x : Outcome). x.memory ≡ call.memory) (refused-memory Of1978 m call)
      (λ n. ap (λ (x : Outcome). x.memory) (sym (let_through Of1978 m call n)) ∙ memory-after m call (pass-number Of1978 m call ∙ n) ∙ memory-stays m call (ticks_of m / 2) none)

pub delay-claims : DelayClaims
delay-claims =
    record {
      line-comes-back = line-comes-back;
      table-comes-back = table-comes-back;
      alone-runs = alone-runs;
      alone-writes = alone-writes;
      echo-heard = echo-heard;
      echo-looked-up = echo-looked-up;
      word-sent = λ m call k n l i. word-sent m call n k l i;
      inactive-gives-0 = λ m call k n l i a. l0-after m call n k l i ∙ rw a;
      unit-rests = unit-rests;
      memory-after = memory-after;
      memory-rests = memory-rests;
    }
