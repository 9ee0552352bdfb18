-- The update by its questions and by lingering, and the part of the commands that it hands back.
-- Assumes nothing.
use mathlib.Core.Path.{◌≡◌, refl, ap, sym, ◌∙◌}
use mathlib.Core.Logic.{◌≢◌}
use mathlib.Core.Bool.{Bool, true, false, cond}
use mathlib.Core.List.{List, [], ◌∷◌}
use Prim.Native.Nat.{ℕ, zero, suc, ◌+◌, ◌-◌, ◌*◌, ◌≤◌}
use native.Mathlib.Omega.{arith}
use borrow.Author.Tests.{eq-eqb, ne_eqb}
use lib.Dec.{eqb}
use lib.ListN.{length, get_or, drop, take, set, length-drop}
use Rattle.base_lists.proofs.Choices.{of-cond}
use Rattle.base_lists.proofs.Parts.{part-from}
use Rattle.layout.specs.Layout.{lingering_at, update_ticks_at}
use Rattle.machine.specs.Questions.{question1, question2}
use Rattle.machine.proofs.ValidMachine.{reaches, valid-ticks}
use Rattle.command_built.specs.Built.{command_refusal}
use Rattle.command.specs.Command.{done, waits}
use Rattle.command_update.specs.Update.{UpdateOutcome, outcome, most_commands, still_lingering, commands_taken_by, update_of, taken_count, tail_at}
use Rattle.machine.proofs.Asked.{machine-passes}
use Rattle.layout.specs.Machine.{Reaches}
use Rattle.layout_texts.specs.declared.Text.TheVariants.{Of1978}
use Rattle.base_questions.specs.Questions.{asked}

-- A machine that passes question 1 reaches past each group of words.
pub passes-reach : (m : List ℕ) → asked (question1 m ∷ question2 Of1978 m ∷ []) ≡ 0 → Reaches m
passes-reach m e = reaches m (machine-passes Of1978 m e).0

module _ (m cs : List ℕ) where
  pub update-refused : {n : ℕ} → n ≡ asked (question1 m ∷ question2 Of1978 m ∷ []) → n ≢ 0 → outcome n m cs ≡ update_of m cs
  unfolding update_of
  update-refused {n} e h = rw (← e, ne_eqb n 0 h)

  module _ (e : asked (question1 m ∷ question2 Of1978 m ∷ []) ≡ 0) where
    pub update-lingers : still_lingering m ≡ true → outcome 0 m cs ≡ update_of m cs
    unfolding update_of
    update-lingers s = rw (eq-eqb (asked (question1 m ∷ question2 Of1978 m ∷ [])) 0 e, s)

    update-takes : {o : UpdateOutcome} → still_lingering m ≡ false → o ≡ commands_taken_by (most_commands m) (set m lingering_at 0) cs → o ≡ update_of m cs
    unfolding update_of
    update-takes s q = rw (eq-eqb (asked (question1 m ∷ question2 Of1978 m ∷ [])) 0 e, s) q

    -- The word of the update ticks has the most commands that are taken.
    most-commands : get_or m update_ticks_at 0 ≡ most_commands m
    most-commands = valid-ticks Of1978 m (machine-passes Of1978 m e).1

    pub update-ran : {most r n : ℕ} {l : List ℕ} → still_lingering m ≡ false → most ≡ get_or m update_ticks_at 0 →
        (r ≤ length cs) × (outcome n l (drop r cs) ≡ commands_taken_by most (set m lingering_at 0) cs) → (r ≤ length cs) × (outcome n l (drop r cs) ≡ update_of m cs)
    update-ran s b (h, q) = (h, update-takes s (q ∙ ap (λ (k : ℕ). commands_taken_by k (set m lingering_at 0) cs) (b ∙ most-commands)))

-- The part handed back is a tail of the commands.
pub record Tail (cs left : List ℕ) : Type 0 where
  pub shorter : length left ≤ length cs
  pub is-tail : drop (length cs - length left) cs ≡ left

whole : (cs : List ℕ) → Tail cs cs
whole cs = let z : length cs - length cs ≡ 0 = omega arith in record { shorter = omega arith; is-tail = rw z refl }

tail_more : (c : ℕ) (cs left : List ℕ) → Tail cs left → Tail (c ∷ cs) left
tail_more c cs left t =
    let h = t.shorter in
    let z : suc (length cs) - length left ≡ suc (length cs - length left) = omega arith in
    record { shorter = omega arith; is-tail = rw z t.is-tail }

-- What an outcome leaves is a tail.
abbrev Leaves : List ℕ → UpdateOutcome → Type 0
Leaves cs o = Tail cs o.rest

taken-tail : (k : ℕ) (m cs : List ℕ) → Leaves cs (commands_taken_by k m cs)
unfolding commands_taken_by
taken-tail zero m cs = whole cs
taken-tail (suc k) m [] = whole []
taken-tail (suc k) m (c ∷ cs) =
    of-cond (Leaves (c ∷ cs)) (eqb (command_refusal c) 0)
    (of-cond (Leaves (c ∷ cs)) (waits m c) (tail_more c cs cs (whole cs)) (tail_more c cs _ (taken-tail k (done m c) cs)))
    (whole (c ∷ cs))

update-tail : (m cs : List ℕ) → Leaves cs (update_of m cs)
unfolding update_of
update-tail m cs =
    of-cond (Leaves cs) (eqb (asked (question1 m ∷ question2 Of1978 m ∷ [])) 0)
    (of-cond (Leaves cs) (still_lingering m) (whole cs) (taken-tail (most_commands m) (set m lingering_at 0) cs))
    (whole cs)

-- An update that takes no command ends lingering at most.
stays : (k : ℕ) (m cs : List ℕ) → length (commands_taken_by k m cs).rest ≡ length cs → (commands_taken_by k m cs).machine ≡ m
unfolding commands_taken_by
stays zero m cs e = refl
stays (suc k) m [] e = refl
stays (suc k) m (c ∷ cs) e = go (eqb (command_refusal c) 0) (waits m c) e
  where
    next : UpdateOutcome
    next = commands_taken_by k (done m c) cs

    go : (a b : Bool) → length (cond a (cond b (outcome 0 (done m c) cs) next) (outcome (command_refusal c) m (c ∷ cs))).rest ≡ suc (length cs)
        → (cond a (cond b (outcome 0 (done m c) cs) next) (outcome (command_refusal c) m (c ∷ cs))).machine ≡ m
    go true true q = absurd (omega arith)
    go true false q = absurd (omega (arith, (taken-tail k (done m c) cs).shorter))
    go false b q = refl

pub none-taken : (P : List ℕ → Type 0) (m cs : List ℕ) → taken_count m cs ≡ 0 → P m → P (set m lingering_at 0) → P (update_of m cs).machine
unfolding update_of
none-taken P m cs e p q = go (eqb (asked (question1 m ∷ question2 Of1978 m ∷ [])) 0) (still_lingering m) (omega (arith, e, (update-tail m cs).shorter))
  where
    taken : UpdateOutcome
    taken = commands_taken_by (most_commands m) (set m lingering_at 0) cs

    chosen : Bool → Bool → UpdateOutcome
    chosen a b = cond a (cond b (outcome 0 m cs) taken) (outcome (asked (question1 m ∷ question2 Of1978 m ∷ [])) m cs)

    go : (a b : Bool) → length (chosen a b).rest ≡ length cs → P (chosen a b).machine
    go true true l = p
    go true false l = rw (stays (most_commands m) (set m lingering_at 0) cs l) q
    go false b l = p

-- No more are taken than the most.
taken-few : (k : ℕ) (m cs : List ℕ) → length cs ≤ length (commands_taken_by k m cs).rest + k
unfolding commands_taken_by
taken-few zero m cs = omega arith
taken-few (suc k) m [] = omega arith
taken-few (suc k) m (c ∷ cs) =
    of-cond (λ (o : UpdateOutcome). suc (length cs) ≤ length o.rest + suc k) (eqb (command_refusal c) 0)
    (of-cond (λ (o : UpdateOutcome). suc (length cs) ≤ length o.rest + suc k) (waits m c) (omega arith) (omega (arith, taken-few k (done m c) cs)))
    (omega arith)

pub at_most : (m cs : List ℕ) → taken_count m cs ≤ most_commands m
unfolding update_of
at_most m cs = omega (arith, few) where
  few : length cs ≤ length (update_of m cs).rest + most_commands m
  few =
      of-cond (λ (o : UpdateOutcome). length cs ≤ length o.rest + most_commands m) (eqb (asked (question1 m ∷ question2 Of1978 m ∷ [])) 0)
      (of-cond (λ (o : UpdateOutcome). length cs ≤ length o.rest + most_commands m) (still_lingering m) (omega arith) (taken-few (most_commands m) (set m lingering_at 0) cs))
      (omega arith)

-- What is left is the commands from the count on.
taken-rest : (m cs : List ℕ) → drop (taken_count m cs) cs ≡ (update_of m cs).rest
taken-rest m cs = (update-tail m cs).is-tail

-- Where the part handed back begins.
module _ (place : ℕ × ℕ) (m cs : List ℕ) {n : ℕ} {l : List ℕ} where
  pub place-whole : outcome n l cs ≡ update_of m cs → place ≡ tail_at place (taken_count m cs)
  place-whole e = ap (λ (k : ℕ). (place.0, k)) (omega (arith, ap (λ (o : UpdateOutcome). length o.rest) e))

  place-tail : (r : ℕ) → r ≤ length cs → outcome n l (drop r cs) ≡ update_of m cs → (place.0, r * 4 + place.1) ≡ tail_at place (taken_count m cs)
  place-tail r h e = ap (λ (k : ℕ). (place.0, k)) (omega (arith, ap (λ (o : UpdateOutcome). length o.rest) e, length-drop r cs))

-- The part handed back begins at the count of the commands taken.
pub handed-back : (place : ℕ × ℕ) (m cs : List ℕ) {r n : ℕ} {l : List ℕ} → (r ≤ length cs) × (outcome n l (drop r cs) ≡ update_of m cs) →
    (outcome n l (take (length cs - r) (drop r cs)) ≡ update_of m cs) × ((place.0, r * 4 + place.1) ≡ tail_at place (taken_count m cs))
handed-back place m cs {r} {n} {l} (h, q) = (ap (outcome n l) (part-from cs r) ∙ q, place-tail place m cs r h q)

-- From the part handed back to the count of the commands taken.
module _ (m cs : List ℕ) {n : ℕ} {l left : List ℕ} (e : outcome n l left ≡ update_of m cs) where
  left_is : left ≡ (update_of m cs).rest
  left_is = ap (λ (o : UpdateOutcome). o.rest) e

  pub left-within : length left ≤ length cs
  left-within = rw left_is (update-tail m cs).shorter

  pub count-is : length cs - length left ≡ taken_count m cs
  count-is = rw left_is

  pub tail_of : outcome n l (drop (length cs - length left) cs) ≡ update_of m cs
  tail_of = ap (outcome n l) (ap (λ (k : ℕ). drop k cs) count-is ∙ taken-rest m cs ∙ sym left_is) ∙ e
