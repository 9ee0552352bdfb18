-- Overrun stays, and the Linger pass is written by a Linger that waits and by nothing else: over a command, and over the commands of an update.
-- Assumes nothing.
use mathlib.Core.Path.{◌≡◌, refl, sym, ap, ◌∙◌}
use mathlib.Core.Logic.{◌⊎◌, inl, inr}
use mathlib.Core.Bool.{Bool, true, false, cond, true≢false}
use mathlib.Core.List.{List, [], ◌∷◌}
use Prim.Native.Nat.{ℕ, zero, suc, ◌-◌, ◌≤◌, ◌<◌}
use native.Mathlib.Omega.{arith}
use borrow.Author.Tests.{eqb-true, eqb-false, eq-eqb, ltb-true, ltb-false}
use lib.Dec.{eqb, ltb, lit<, lit≤}
use lib.ListN.{length, get_or, set, length-set, get_or-eq_default}
use lib.Seq.{get_or-set_same, get_or-set_other}
use Rattle.base_lists.proofs.Choices.{of-cond, of_test}
use Rattle.layout.specs.Layout.{counter_at, lingering_at, linger_pass_at, overrun_at}
use Rattle.layout.specs.Machine.{Reaches}
use Rattle.layout.proofs.Reach.{same-reach}
use Rattle.layout_texts.specs.declared.Text.TheVariants.{Of1978}
use Rattle.base_questions.specs.Questions.{asked}
use Rattle.machine.specs.Questions.{question1, question2}
use Rattle.command_fields.specs.Fields.{data_of, code5}
use Rattle.command_timer.specs.Timer.{counter_set, behind, waits_for, lingered, tt_of, timed, timer_waits}
use Rattle.command_built.specs.Built.{command_refusal}
use Rattle.command.specs.Command.{done, waits, after_command, taken_waiting}
use Rattle.command.proofs.Turns.{passed-waits, passed-does}
use Rattle.command_update.specs.Update.{UpdateOutcome, outcome, most_commands, still_lingering, commands_taken_by, update_of}
use Rattle.command_update.proofs.Updating.{passes-reach}
use Rattle.command_laws.specs.Lingering.{taken_from, last_taken, LastWaits}
use Rattle.command_laws.proofs.Writes.{Aside, done-keeps, update-keeps}
use Rattle.command_laws.proofs.Lengths.{done-length}

-- The word at place i is v.
record Holds (i v : ℕ) (m : List ℕ) : Type 0 where
  is : get_or m i 0 ≡ v

-- It stays where another word is put.
holds-other : (i v : ℕ) (m : List ℕ) → Holds i v m → (j w : ℕ) → eqb i j ≡ false → Holds i v (set m j w)
holds-other i v m h j w n = record { is = get_or-set_other m j i w 0 (eqb-false i j n) ∙ h.is }

holds-aside : (i v : ℕ) → counter_at < i → i ≤ overrun_at → (m : List ℕ) → Holds i v m → (j w : ℕ) → Aside j → Holds i v (set m j w)
holds-aside i v a b m h j w s = record { is = get_or-set_other m j i w 0 (λ e. omega (arith, s.off (omega arith))) ∙ h.is }

-- Overrun is 1.
abbrev Overrun : List ℕ → Type 0
Overrun = Holds overrun_at 1

overrun-inside : (m : List ℕ) → Overrun m → overrun_at < length m
overrun-inside m h = go (ltb overrun_at (length m)) refl
  where
    go : (b : Bool) → ltb overrun_at (length m) ≡ b → overrun_at < length m
    go true e = ltb-true overrun_at (length m) e
    go false e = absurd (omega (arith, h.is, get_or-eq_default m 0 {n = overrun_at} (ltb-false overrun_at (length m) e)))

lingered-overrun : (m : List ℕ) → Overrun m → (k : ℕ) → Overrun (lingered m k)
unfolding lingered
lingered-overrun m h k =
    of-cond Overrun (waits_for m k) (holds-other overrun_at 1 _ (holds-other overrun_at 1 m h lingering_at 1 refl) linger_pass_at k refl)
    (of-cond Overrun (eqb (behind m k) 0) h (record { is = get_or-set_same m overrun_at 1 0 (overrun-inside m h) }))

timed-overrun : (m : List ℕ) → Overrun m → (c : ℕ) → Overrun (timed m c)
unfolding timed counter_set
timed-overrun m h c =
    of-cond Overrun (eqb (tt_of c) 0b01) (holds-other overrun_at 1 m h counter_at _ refl)
    (of-cond Overrun (eqb (tt_of c) 0b10) (lingered-overrun m h _)
    (of-cond Overrun (eqb (tt_of c) 0b11) (lingered-overrun _ (holds-other overrun_at 1 m h counter_at 0 refl) _) h))

done-overrun : (m : List ℕ) → Overrun m → (c : ℕ) → Overrun (done m c)
done-overrun m h c = done-keeps Overrun (holds-aside overrun_at 1 (lit< tt) (lit≤ tt)) m h c (λ t. timed-overrun m h c)

-- A command and an update keep it.
pub command-overrun : (m : List ℕ) (c : ℕ) → get_or m overrun_at 0 ≡ 1 → get_or (after_command m c) overrun_at 0 ≡ 1
unfolding after_command
command-overrun m c e =
    let h : Overrun m = record { is = e } in
    (of-cond Overrun (eqb (command_refusal c) 0) (done-overrun m h c) h).is

pub update-overrun : (m cs : List ℕ) → get_or m overrun_at 0 ≡ 1 → get_or (update_of m cs).machine overrun_at 0 ≡ 1
update-overrun m cs e = (update-keeps Overrun done-overrun (λ k h. holds-other overrun_at 1 k h lingering_at 0 refl) m cs (record { is = e })).is

-- The words of Lingers: lingering is l and the Linger pass is p.
record Lingers (l p : ℕ) (m : List ℕ) : Type 0 where
  lingering : Holds lingering_at l m
  number : Holds linger_pass_at p m

lingers-other : (l p : ℕ) (m : List ℕ) → Lingers l p m → (j w : ℕ) → eqb lingering_at j ≡ false → eqb linger_pass_at j ≡ false → Lingers l p (set m j w)
lingers-other l p m h j w a b = record { lingering = holds-other lingering_at l m h.lingering j w a; number = holds-other linger_pass_at p m h.number j w b }

lingers-aside : (l p : ℕ) (m : List ℕ) → Lingers l p m → (j w : ℕ) → Aside j → Lingers l p (set m j w)
lingers-aside l p m h j w s =
    record { lingering = holds-aside lingering_at l (lit< tt) (lit≤ tt) m h.lingering j w s; number = holds-aside linger_pass_at p (lit< tt) (lit≤ tt) m h.number j w s }

-- A Linger that doesn't wait leaves them, one that waits sets both.
lingered-quiet : (l p : ℕ) (m : List ℕ) → Lingers l p m → (n : ℕ) → waits_for m n ≡ false → Lingers l p (lingered m n)
unfolding lingered
lingered-quiet l p m h n w = rw w (of-cond (Lingers l p) (eqb (behind m n) 0) h (lingers-other l p m h overrun_at 1 refl refl))

lingered-waits : (m : List ℕ) → Reaches m → (n : ℕ) → waits_for m n ≡ true → Lingers 1 n (lingered m n)
unfolding lingered
lingered-waits m r n w =
    rw w
    (record {
      lingering = holds-other lingering_at 1 (set m lingering_at 1) (record { is = get_or-set_same m lingering_at 1 0 (omega (arith, r.all)) }) linger_pass_at n refl;
      number = record { is = get_or-set_same (set m lingering_at 1) linger_pass_at n 0 (omega (arith, r.all, length-set m lingering_at 1)) };
    })

-- TIMER.
timed-quiet : (l p : ℕ) (m : List ℕ) → Lingers l p m → (c : ℕ) → timer_waits m c ≡ false → Lingers l p (timed m c)
unfolding timed timer_waits counter_set
timed-quiet l p m h c = go (eqb (tt_of c) 0b01) (eqb (tt_of c) 0b10) (eqb (tt_of c) 0b11)
  where
    cleared : (n : ℕ) → Lingers l p (set m counter_at n)
    cleared n = lingers-other l p m h counter_at n refl refl

    go : (a b d : Bool) → cond b (waits_for m (data_of c)) (cond d (waits_for (set m counter_at 0) (data_of c)) false) ≡ false
        → Lingers l p (cond a (set m counter_at (data_of c)) (cond b (lingered m (data_of c)) (cond d (lingered (set m counter_at 0) (data_of c)) m)))
    go true b d w = cleared (data_of c)
    go false true d w = lingered-quiet l p m h (data_of c) w
    go false false true w = lingered-quiet l p (set m counter_at 0) (cleared 0) (data_of c) w
    go false false false w = h

timed-10 : (m : List ℕ) (c : ℕ) → tt_of c ≡ 0b10 → timed m c ≡ lingered m (data_of c)
unfolding timed
timed-10 m c e = rw e

timed-11 : (m : List ℕ) (c : ℕ) → tt_of c ≡ 0b11 → timed m c ≡ lingered (counter_set m 0) (data_of c)
unfolding timed
timed-11 m c e = rw e

cleared-reach : (m : List ℕ) → Reaches m → Reaches (counter_set m 0)
unfolding counter_set
cleared-reach m r = same-reach (length-set m counter_at 0) r

timed-waits : (m : List ℕ) → Reaches m → (c : ℕ) → timer_waits m c ≡ true → Lingers 1 (data_of c) (timed m c)
unfolding timer_waits
timed-waits m r c = go (eqb (tt_of c) 0b10) refl (eqb (tt_of c) 0b11) refl
  where
    go : (b : Bool) → eqb (tt_of c) 0b10 ≡ b → (d : Bool) → eqb (tt_of c) 0b11 ≡ d
        → cond b (waits_for m (data_of c)) (cond d (waits_for (counter_set m 0) (data_of c)) false) ≡ true → Lingers 1 (data_of c) (timed m c)
    go true eb d ed w = rw (timed-10 m c (eqb-true (tt_of c) 0b10 eb)) (lingered-waits m r (data_of c) w)
    go false eb true ed w = rw (timed-11 m c (eqb-true (tt_of c) 0b11 ed)) (lingered-waits (counter_set m 0) (cleared-reach m r) (data_of c) w)
    go false eb false ed w = absurd (true≢false (sym w))

-- Any command.
waits-timer : (m : List ℕ) (c : ℕ) → eqb (code5 c) 0b00010 ≡ true → waits m c ≡ timer_waits m c
unfolding waits
waits-timer m c t = rw t

done-quiet : (l p : ℕ) (m : List ℕ) → Lingers l p m → (c : ℕ) → waits m c ≡ false → Lingers l p (done m c)
done-quiet l p m h c w = done-keeps (Lingers l p) (lingers-aside l p) m h c (λ t. timed-quiet l p m h c (sym (waits-timer m c t) ∙ w))

done-timer : (m : List ℕ) (c : ℕ) → code5 c ≡ 0b00010 → done m c ≡ timed m c
unfolding done
done-timer m c e = rw e

done-waits : (m : List ℕ) → Reaches m → (c : ℕ) → waits m c ≡ true → Lingers 1 (data_of c) (done m c)
unfolding waits
done-waits m r c = go (eqb (code5 c) 0b00010) refl
  where
    go : (b : Bool) → eqb (code5 c) 0b00010 ≡ b → cond b (timer_waits m c) false ≡ true → Lingers 1 (data_of c) (done m c)
    go true e w = rw (done-timer m c (eqb-true (code5 c) 0b00010 e)) (timed-waits m r c w)
    go false e w = absurd (true≢false (sym w))

-- A command that isn't taken or doesn't wait leaves both words; a Linger that is taken and waits sets them to 1 and its number.
pub command-quiet : (m : List ℕ) (c : ℕ) → taken_waiting m c ≡ false
    → (get_or (after_command m c) lingering_at 0 ≡ get_or m lingering_at 0) × (get_or (after_command m c) linger_pass_at 0 ≡ get_or m linger_pass_at 0)
unfolding after_command taken_waiting
command-quiet m c w = let h = go (eqb (command_refusal c) 0) w in (h.lingering.is, h.number.is)
  where
    l : ℕ
    l = get_or m lingering_at 0

    p : ℕ
    p = get_or m linger_pass_at 0

    now : Lingers l p m
    now = record { lingering = record { is = refl }; number = record { is = refl } }

    go : (b : Bool) → cond b (waits m c) false ≡ false → Lingers l p (cond b (done m c) m)
    go true e = done-quiet l p m now c e
    go false e = now

command-waiting : (m : List ℕ) → Reaches m → (c : ℕ) → taken_waiting m c ≡ true → Lingers 1 (data_of c) (after_command m c)
unfolding after_command taken_waiting
command-waiting m r c w = go (eqb (command_refusal c) 0) w
  where
    go : (b : Bool) → cond b (waits m c) false ≡ true → Lingers 1 (data_of c) (cond b (done m c) m)
    go true e = done-waits m r c e
    go false e = absurd (true≢false (sym e))

pub command-waits : (m : List ℕ) → Reaches m → (c : ℕ) → taken_waiting m c ≡ true
    → (get_or (after_command m c) lingering_at 0 ≡ 1) × (get_or (after_command m c) linger_pass_at 0 ≡ data_of c)
command-waits m r c w = let h = command-waiting m r c w in (h.lingering.is, h.number.is)

-- The commands of an update: both words are as they were, or the last one that is taken waits.
abbrev Ends : ℕ → ℕ → List ℕ → UpdateOutcome → Type 0
Ends l p cs o = Lingers l p o.machine ⊎ LastWaits cs o

-- One command before the others moves the last one by a place.
last_more : (c : ℕ) (cs : List ℕ) (o : UpdateOutcome) → 0 < taken_from cs o → last_taken (c ∷ cs) o ≡ last_taken cs o
last_more c cs o h = let next : suc (length cs) - length o.rest - 1 ≡ suc (length cs - length o.rest - 1) = omega arith in rw next refl

ends_more : (l p c : ℕ) (cs : List ℕ) (o : UpdateOutcome) → Ends l p cs o → Ends l p (c ∷ cs) o
ends_more l p c cs o (inl h) = inl h
ends_more l p c cs o (inr w) =
    let same = last_more c cs o w.some in
    inr (record {
      some = omega (arith, w.some);
      before = w.before;
      waits = ap (taken_waiting w.before) same ∙ w.waits;
      machine = w.machine ∙ ap (after_command w.before) (sym same);
      lingering = w.lingering;
      number = w.number ∙ ap (λ (x : ℕ). data_of x) (sym same);
    })

-- A waiting one is the last.
ends-waiting : (m : List ℕ) → Reaches m → (c : ℕ) (cs : List ℕ) → command_refusal c ≡ 0 → waits m c ≡ true → LastWaits (c ∷ cs) (outcome 0 (done m c) cs)
ends-waiting m r c cs e w =
    let h = done-waits m r c w in
    let last : last_taken (c ∷ cs) (outcome 0 (done m c) cs) ≡ c = at_first in
    record {
      some = omega arith;
      before = m;
      waits = ap (taken_waiting m) last ∙ passed-waits m c e ∙ w;
      machine = sym (passed-does m c e) ∙ ap (after_command m) (sym last);
      lingering = h.lingering.is;
      number = h.number.is ∙ ap (λ (x : ℕ). data_of x) (sym last);
    }
  where
    at_first : get_or (c ∷ cs) (suc (length cs) - length cs - 1) 0 ≡ c
    at_first = let none : suc (length cs) - length cs - 1 ≡ 0 = omega arith in rw none refl

taken-ends : (l p k : ℕ) (m cs : List ℕ) → Reaches m → Lingers l p m → Ends l p cs (commands_taken_by k m cs)
unfolding commands_taken_by
taken-ends l p zero m cs r h = inl h
taken-ends l p (suc k) m [] r h = inl h
taken-ends l p (suc k) m (c ∷ cs) r h =
    of_test (Ends l p (c ∷ cs)) (eqb (command_refusal c) 0)
    (λ t. of_test (Ends l p (c ∷ cs)) (waits m c) (λ w. inr (ends-waiting m r c cs (eqb-true (command_refusal c) 0 t) w))
    (λ w. ends_more l p c cs (commands_taken_by k (done m c) cs) (taken-ends l p k (done m c) cs (same-reach (done-length m c) r) (done-quiet l p m h c w))))
    (λ q. inl h)

-- An update that takes commands begins with lingering ended.
update-ends : (m cs : List ℕ) → asked (question1 m ∷ question2 Of1978 m ∷ []) ≡ 0 → still_lingering m ≡ false → Ends 0 (get_or m linger_pass_at 0) cs (update_of m cs)
unfolding update_of
update-ends m cs e s =
    let r = passes-reach m e in
    rw (eq-eqb (asked (question1 m ∷ question2 Of1978 m ∷ [])) 0 e, s)
    (taken-ends 0 (get_or m linger_pass_at 0) (most_commands m) (set m lingering_at 0) cs (same-reach (length-set m lingering_at 0) r)
    (record {
      lingering = record { is = get_or-set_same m lingering_at 0 0 (omega (arith, r.all)) };
      number = holds-other linger_pass_at (get_or m linger_pass_at 0) m (record { is = refl }) lingering_at 0 refl;
    }))

-- One that takes none leaves the machine.
update-rests : (m cs : List ℕ) → cond (eqb (asked (question1 m ∷ question2 Of1978 m ∷ [])) 0) (still_lingering m) true ≡ true → (update_of m cs).machine ≡ m
unfolding update_of
update-rests m cs = go (eqb (asked (question1 m ∷ question2 Of1978 m ∷ [])) 0) (still_lingering m)
  where
    taken : UpdateOutcome
    taken = commands_taken_by (most_commands m) (set m lingering_at 0) cs

    go : (a b : Bool) → cond a b true ≡ true → (cond a (cond b (outcome 0 m cs) taken) (outcome (asked (question1 m ∷ question2 Of1978 m ∷ [])) m cs)).machine ≡ m
    go true true e = refl
    go true false e = absurd (true≢false (sym e))
    go false b e = refl

-- Over an update the Linger pass is as it was, or the last command taken is a Linger that waits.
pub update-linger-pass : (m cs : List ℕ) → (get_or (update_of m cs).machine linger_pass_at 0 ≡ get_or m linger_pass_at 0) ⊎ LastWaits cs (update_of m cs)
update-linger-pass m cs = go (eqb (asked (question1 m ∷ question2 Of1978 m ∷ [])) 0) refl (still_lingering m) refl
  where
    ended : Ends 0 (get_or m linger_pass_at 0) cs (update_of m cs) → (get_or (update_of m cs).machine linger_pass_at 0 ≡ get_or m linger_pass_at 0) ⊎ LastWaits cs (update_of m cs)
    ended (inl h) = inl h.number.is
    ended (inr w) = inr w

    go : (a : Bool) → eqb (asked (question1 m ∷ question2 Of1978 m ∷ [])) 0 ≡ a → (b : Bool) → still_lingering m ≡ b
        → (get_or (update_of m cs).machine linger_pass_at 0 ≡ get_or m linger_pass_at 0) ⊎ LastWaits cs (update_of m cs)
    go true e false s = ended (update-ends m cs (eqb-true (asked (question1 m ∷ question2 Of1978 m ∷ [])) 0 e) s)
    go true e true s = inl (ap (λ (l : List ℕ). get_or l linger_pass_at 0) (update-rests m cs (rw (e, s))))
    go false e b s = inl (ap (λ (l : List ℕ). get_or l linger_pass_at 0) (update-rests m cs (rw e)))

-- One that lingering doesn't keep from taking commands and that ends with lingering 1 has taken such a Linger last.
pub update-lingers : (m cs : List ℕ) → asked (question1 m ∷ question2 Of1978 m ∷ []) ≡ 0 → still_lingering m ≡ false → get_or (update_of m cs).machine lingering_at 0 ≡ 1
    → LastWaits cs (update_of m cs)
update-lingers m cs e s one = ended (update-ends m cs e s)
  where
    ended : Ends 0 (get_or m linger_pass_at 0) cs (update_of m cs) → LastWaits cs (update_of m cs)
    ended (inl h) = absurd (omega (arith, one, h.lingering.is))
    ended (inr w) = w
