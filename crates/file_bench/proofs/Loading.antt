-- The second sweep: what its steps do, and that it sets the words and the commands of all lines.
-- Assumes nothing.
use mathlib.Core.Path.{◌≡◌, refl, ap, sym, ◌∙◌}
use mathlib.Core.List.{List, [], ◌∷◌}
use Prim.Native.Nat.{ℕ, ◌+◌, ◌≤◌, ◌<◌}
use mathlib.Core.Bool.{true}
use mathlib.Core.Logic.{◌⊎◌, inl, inr}
use native.Mathlib.Omega.{arith}
use native.Mathlib.Nat.{add-zero}
use lib.ListN.{length, set}
use lib.Seq.{sets}
use Rattle.file_bytes.proofs.Puts.{sets-append}
use Rattle.file_lines.specs.Lines.{file_bytes, line_of, lines_of, ended}
use Rattle.std.specs.Prelude.{Option}
use Rattle.layout_texts.specs.declared.Text.{Text}
use Rattle.file_lines.specs.declared.Line.{Line}
use Rattle.file_lines.specs.declared.Line.TheVariants.{Titled, Passes, Word, Command, Other}
use Rattle.file_bench.specs.BenchFile.{with_word, commands_of}
use Rattle.file_bench.specs.AsCoded.{with_words, all_commands}
use Rattle.file_bench.proofs.Judging.{one-command, ended-few}

-- What a line leaves: how many commands there are, the machine, and the room.
abbrev pub Leaves : Line → ℕ → List ℕ → List ℕ → ℕ → List ℕ → List ℕ → Type 0
Leaves l count m room count' m' room' =
    (count' ≡ count + length (commands_of l)) × ((m' ≡ with_word m l) × (room' ≡ sets room count (commands_of l)))

-- The steps, by line.
module _ (l : Line) (count : ℕ) (m room : List ℕ) where
  load-titled : {t : Option Text} → l ≡ Titled t → Leaves l count m room count m room
  load-titled e = rw e (sym (add-zero count), (refl, refl))

  load-passes : {n : ℕ} → l ≡ Passes n → Leaves l count m room count m room
  load-passes e = rw e (sym (add-zero count), (refl, refl))

  pub load_word : {p v : ℕ} → l ≡ Word p v → {m' : List ℕ} → m' ≡ set m p v → Leaves l count m room count m' room
  load_word e s = rw e (sym (add-zero count), (s, refl))

  pub load-command : {c : ℕ} → l ≡ Command c → {room' : List ℕ} → room' ≡ set room count c → Leaves l count m room (count + 1) m room'
  load-command e s = rw e (refl, (refl, s))

  load-other : l ≡ Other → Leaves l count m room count m room
  load-other e = rw e (sym (add-zero count), (refl, refl))

  pub load-nothing : ((t : Option Text) × (l ≡ Titled t)) ⊎ (((n : ℕ) × (l ≡ Passes n)) ⊎ (l ≡ Other)) → Leaves l count m room count m room
  load-nothing (inl (t, e)) = load-titled e
  load-nothing (inr (inl (n, e))) = load-passes e
  load-nothing (inr (inr e)) = load-other e

-- The sweep under way: the lines that are left set what all lines set.
pub record Loading (file m₀ room₀ : List ℕ) (left : List (List ℕ)) (count : ℕ) (m room : List ℕ) : Type 0 where
  pub few : count + length left ≤ file_bytes
  pub words : with_words m left ≡ with_words m₀ (lines_of file)
  pub commands : sets room count (all_commands left) ≡ sets room₀ 0 (all_commands (lines_of file))

pub begins : (file m room : List ℕ) → ended file ≡ true → Loading file m room (lines_of file) 0 m room
begins file m room e = record { few = omega (arith, ended-few file e); words = refl; commands = refl }

module _ {file m₀ room₀ : List ℕ} {left : List (List ℕ)} {count : ℕ} {m room : List ℕ} (j : Loading file m₀ room₀ left count m room) where
  pub ends : left ≡ [] → (m ≡ with_words m₀ (lines_of file)) × (room ≡ sets room₀ 0 (all_commands (lines_of file)))
  unfolding with_words all_commands
  ends h =
      (sym (ap (with_words m) h) ∙ j.words, sym (ap (λ (ls : List (List ℕ)). sets room count (all_commands ls)) h) ∙ j.commands)

  module _ {l : List ℕ} {ls : List (List ℕ)} (h : left ≡ l ∷ ls) where
    pub room_for : count < file_bytes
    room_for = omega (arith, j.few, ap length h)

    pub goes_on : {count' : ℕ} {m' room' : List ℕ} → Leaves (line_of l) count m room count' m' room' → Loading file m₀ room₀ ls count' m' room'
    unfolding with_words all_commands
    goes_on s =
        let o = one-command (line_of l) in
        record {
          few = omega (arith, s.0, o, j.few, ap length h);
          words = rw s.1.0 (sym (ap (with_words m) h) ∙ j.words);
          commands =
              rw (s.1.1, s.0)
              (sets-append room count (commands_of (line_of l)) (all_commands ls)
              ∙ sym (ap (λ (ls : List (List ℕ)). sets room count (all_commands ls)) h)
              ∙ j.commands);
        }
