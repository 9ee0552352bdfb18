-- An update keeps a machine valid: so does the end of lingering and each command.
-- Assumes nothing.
use mathlib.Core.Path.{◌≡◌, refl}
use mathlib.Core.Bool.{true}
use mathlib.Core.List.{List, [], ◌∷◌}
use Prim.Native.Nat.{ℕ, zero, suc}
use borrow.Author.Tests.{eqb-true}
use lib.Dec.{eqb, lit<}
use lib.ListN.{set, length-set}
use Rattle.layout.specs.Layout.{lingering_at}
use Rattle.layout.specs.Machine.{Reaches}
use Rattle.layout_texts.specs.declared.Text.TheVariants.{Of1978}
use Rattle.layout.proofs.Reach.{same-reach}
use Rattle.machine.specs.Questions.{question1, question2, regions, valid}
use Rattle.command_built.specs.Built.{command_refusal}
use Rattle.command.specs.Command.{done, waits}
use Rattle.command_update.specs.Update.{UpdateOutcome, most_commands, still_lingering, commands_taken_by, update_of}
use Rattle.base_lists.proofs.Choices.{of-cond, of_test}
use Rattle.command_laws.proofs.ValidLoads.{Valid, later-keeps}
use Rattle.command_update.proofs.Updating.{passes-reach}
use Rattle.command_laws.proofs.Lengths.{done-length}
use Rattle.command_laws.proofs.ValidCommands.{done-valid}
use Rattle.base_questions.specs.Questions.{asked}

-- An outcome that leaves a valid machine.
abbrev ValidAfter : UpdateOutcome → Type 0
ValidAfter o = valid Of1978 o.machine ≡ true

taken-valid : (k : ℕ) (m cs : List ℕ) → Valid m → Reaches m → ValidAfter (commands_taken_by k m cs)
unfolding commands_taken_by
taken-valid zero m cs e r = e
taken-valid (suc k) m [] e r = e
taken-valid (suc k) m (c ∷ cs) e r =
    of_test ValidAfter (eqb (command_refusal c) 0)
    (λ t. let next = done-valid m e r c (eqb-true (command_refusal c) 0 t) in
    of-cond ValidAfter (waits m c) next (taken-valid k (done m c) cs next (same-reach (done-length m c) r)))
    (λ q. e)

-- A run of another length is refused and stays.
pub update-valid : (m cs : List ℕ) → valid Of1978 m ≡ true → valid Of1978 (update_of m cs).machine ≡ true
unfolding update_of regions
update-valid m cs e =
    of_test ValidAfter (eqb (asked (question1 m ∷ question2 Of1978 m ∷ [])) 0)
    (λ t. let r = passes-reach m (eqb-true (asked (question1 m ∷ question2 Of1978 m ∷ [])) 0 t) in
    of-cond ValidAfter (still_lingering m) e
    (taken-valid (most_commands m) (set m lingering_at 0) cs (later-keeps lingering_at 0 (lit< tt) (lit< tt) refl m e) (same-reach (length-set m lingering_at 0) r)))
    (λ q. e)
