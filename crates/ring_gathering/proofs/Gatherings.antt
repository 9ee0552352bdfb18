-- Steps gathered in a buffer: the loop that gathers them, and that the gatherings, one after another, print what is to be printed.
-- Assumes nothing.
use mathlib.Core.Path.{◌≡◌, refl, sym, ◌∙◌, ap}
use mathlib.Core.Logic.{◌≢◌}
use mathlib.Core.Bool.{Bool, true, false, cond, not, true≢false}
use mathlib.Core.List.{List, [], ◌++◌, append_assoc, append-nil}
use Prim.Native.Nat.{ℕ, zero, suc, ◌+◌, ◌*◌, ◌-◌, ◌≤◌, ◌<◌}
use native.Mathlib.Omega.{arith}
use borrow.Author.Tests.{not-true, not-false, eq-eqb, ne_eqb, eqb-true, eqb-false, lt-ltb, le-ltb, ltb-false}
use lib.Dec.{eqb, ltb}
use lib.ListN.{length, take, length-append}
use lib.Seq.{sets, length-sets}
use Rattle.file_bytes.proofs.Puts.{done, then, first_part}
use Rattle.file_printed.specs.Text.{line_bytes, refusal_line, order_refusal_line}
use Rattle.file_bench.specs.BenchFile.{command_places, read_of}
use Rattle.ring_steps.specs.Ringing.{output_of}
use Rattle.ring_pass.specs.BenchPass.{Ordering, passed}
use Rattle.ring_order.specs.RungOrder.{ordering_by, order_refusal}
use Rattle.ring_order.specs.declared.By.{By}
use Rattle.ring_steps.specs.AsCoded.{Known, Ringing, Step, step_of, commands_taken, ringing_begun, rung_from}
use Rattle.ring_steps.specs.declared.Output.{Output}
use Rattle.ring_steps.specs.declared.Output.TheVariants.{Lines, Frames}
use Rattle.ring_steps.proofs.Printing.{onward, end_number, none_left, ended-number, step_falls, steps-are-given}
use Rattle.ring_steps.proofs.Keeping.{step-known}
use Rattle.ring_steps.proofs.RungFile.{rung-file}
use Rattle.ring_steps.proofs.Turns.{step-length, step-takes, frame_step}
use Rattle.ring_gathering.specs.AsCoded.{gathered_after, gathered, printed_by, printed_from}
use Rattle.layout_texts.specs.declared.Text.{Text}

-- What a step leaves to ring has fewer passes left.
pub step-lowers : (text : Text) (by : Ordering) (o : Output) (r : Ringing) {next : Ringing} → r.passes ≢ 0 → next ≡ (step_of text by o r).next → next.passes < r.passes
step-lowers text by o r n e = rw e (step_falls text by o r n).falls

-- What is known after a step of which question refuses the next pass, by the commands taken so far.
pub known-after : (text : Text) (by : Ordering) (o : Output) (r : Ringing) (from : ℕ) {next : Ringing} {n taken : ℕ} → r.passes ≢ 0 → n ≡ (passed text by r.machine r.memory).number → next ≡ (step_of text by o r).next
    → taken ≡ from + commands_taken r (step_of text by o r) → Known text by next.machine next.memory n (not (eqb taken from))
known-after text by o r from {next} {n} {taken} some en e et =
    rw e
    (step-known text by o r some en (λ t. omega (arith, et, eqb-true taken from (not-false (eqb taken from) t)))
    (λ t z. eqb-false taken from (not-true (eqb taken from) t) (omega (arith, et, z))))

-- The loop's invariant: from the bytes gathered so far and the ringing as it is now, as much is gathered as from its start.
pub record Gathering (text : Text) (by : Ordering) (o : Output) (out₀ : List ℕ) (r₀ : Ringing) (from : ℕ) (out : List ℕ) (size : ℕ) (r : Ringing) (taken : ℕ) : Type 0 where
  pub fuel : ℕ
  pub bytes : List ℕ
  pub enough : r.passes ≤ fuel
  pub size_is : size ≡ length bytes
  pub inside : size ≤ length out₀
  pub room : length out ≡ length out₀
  pub put : out ≡ sets out₀ 0 bytes
  pub rest : gathered_after text by o (length out₀) fuel bytes r ≡ gathered text by o (length out₀) r₀
  pub fewer : length r.commands ≤ length r₀.commands
  pub counted : taken ≡ from + (length r₀.commands - length r.commands)

pub gathering-begins : (text : Text) (by : Ordering) (o : Output) (out : List ℕ) (r : Ringing) (from : ℕ) → Gathering text by o out r from out 0 r from
unfolding gathered
gathering-begins text by o out r from =
    record {
      fuel = r.passes;
      bytes = [];
      enough = omega arith;
      size_is = refl;
      inside = omega arith;
      room = refl;
      put = refl;
      rest = refl;
      fewer = omega arith;
      counted = omega arith;
    }

-- What a gathering promises: its length, its bytes at the start of the buffer, what is left to ring, and the commands taken then.
abbrev pub Gathered : Text → Ordering → Output → List ℕ → Ringing → ℕ → List ℕ → ℕ → Ringing → ℕ → Type 0
Gathered text by o out₀ r₀ from out size r taken =
    let g = gathered text by o (length out₀) r₀ in
    (size ≡ length g.bytes) × ((out ≡ sets out₀ 0 g.bytes) × ((r ≡ g.next) × (taken ≡ from + commands_taken r₀ g)))

-- Where nothing more is gathered.
stays-none : (text : Text) (by : Ordering) (o : Output) (room k : ℕ) (bytes : List ℕ) (r : Ringing) → r.passes ≡ 0 → gathered_after text by o room k bytes r ≡ record { bytes = bytes; next = r }
unfolding gathered_after
stays-none text by o room zero bytes r z = refl
stays-none text by o room (suc k) bytes r z = rw (eq-eqb r.passes 0 z)

stays-full : (text : Text) (by : Ordering) (o : Output) (room k : ℕ) (bytes : List ℕ) (r : Ringing) → room < length bytes + line_bytes → gathered_after text by o room k bytes r ≡ record { bytes = bytes; next = r }
unfolding gathered_after
stays-full text by o room zero bytes r h = refl
stays-full text by o room (suc k) bytes r h = go (eqb r.passes 0)
  where
    s : Step
    s = step_of text by o r

    go : (b : Bool) → ◌≡◌ {A = Step} (cond b (record { bytes = bytes; next = r })
        (cond (ltb room (length bytes + line_bytes)) (record { bytes = bytes; next = r }) (gathered_after text by o room k (bytes ++ s.bytes) s.next)))
        (record { bytes = bytes; next = r })
    go true = refl
    go false = rw (lt-ltb room (length bytes + line_bytes) h)

goes : (text : Text) (by : Ordering) (o : Output) (room k : ℕ) (bytes : List ℕ) (r : Ringing) → r.passes ≢ 0 → length bytes + line_bytes ≤ room → let s = step_of text by o r in
    gathered_after text by o room (suc k) bytes r ≡ gathered_after text by o room k (bytes ++ s.bytes) s.next
unfolding gathered_after
goes text by o room k bytes r n h = rw (ne_eqb r.passes 0 n, le-ltb room (length bytes + line_bytes) h)

module _ (text : Text) (by : Ordering) {o : Output} {out₀ : List ℕ} {r₀ : Ringing} {from : ℕ} {out : List ℕ} {size : ℕ} {r : Ringing} {taken : ℕ} (g : Gathering text by o out₀ r₀ from out size r taken) where
  is-end : gathered_after text by o (length out₀) g.fuel g.bytes r ≡ record { bytes = g.bytes; next = r } → Gathered text by o out₀ r₀ from out size r taken
  is-end e = let q : gathered text by o (length out₀) r₀ ≡ record { bytes = g.bytes; next = r } = sym g.rest ∙ e in rw q (g.size_is, (g.put, (refl, g.counted)))

  pub gathering-ends : r.passes ≡ 0 → Gathered text by o out₀ r₀ from out size r taken
  gathering-ends z = is-end (stays-none text by o (length out₀) g.fuel g.bytes r z)

  pub gathering-full : length out < size + line_bytes → Gathered text by o out₀ r₀ from out size r taken
  gathering-full h = is-end (stays-full text by o (length out₀) g.fuel g.bytes r (omega (arith, g.size_is, g.room)))

  -- One more step.
  pub gathering-goes : r.passes ≢ 0 → size + line_bytes ≤ length out → {out' : List ℕ} {size' taken' : ℕ} {r' : Ringing} → let s = step_of text by o r in
      (size' ≡ size + length s.bytes) × ((out' ≡ sets out size s.bytes) × ((r' ≡ s.next) × (taken' ≡ taken + commands_taken r s)))
      → Gathering text by o out₀ r₀ from out' size' r' taken'
  gathering-goes n h {out'} {size'} {taken'} {r'} (es, (eo, (er, et))) =
      let s = step_of text by o r in
      let f = step_falls text by o r n in
      let k : g.fuel ≡ suc (g.fuel - 1) = omega (arith, g.enough) in
      rw er
      (record {
        fuel = g.fuel - 1;
        bytes = g.bytes ++ s.bytes;
        enough = omega (arith, g.enough, f.falls);
        size_is = omega (arith, es, g.size_is, length-append g.bytes s.bytes);
        inside = omega (arith, es, g.room, step-length text by o r);
        room = ap length eo ∙ length-sets out size s.bytes ∙ g.room;
        put = (then out₀ 0 g.bytes s.bytes (done (g.size_is ∙ omega arith, g.put)) (done (es, eo))).leaves;
        rest = sym (goes text by o (length out₀) (g.fuel - 1) g.bytes r n (omega (arith, g.size_is, g.room)))
            ∙ ap (λ (i : ℕ). gathered_after text by o (length out₀) i g.bytes r) (sym k) ∙ g.rest;
        fewer = omega (arith, g.fewer, step-takes text by o r);
        counted = omega (arith, et, g.counted, g.fewer, step-takes text by o r);
      })

-- The line of a step, as the first part of a line's buffer, put into a longer one.
module _ (text : Text) (by : Ordering) (o : Output) (r : Ringing) (line : List ℕ) {size : ℕ} {after : List ℕ} (room : length line ≡ line_bytes)
    (es : size ≡ length (step_of text by o r).bytes) (ea : after ≡ sets line 0 (step_of text by o r).bytes) where
  abbrev bytes : List ℕ
  bytes = (step_of text by o r).bytes

  pub part-within : size ≤ length after
  part-within = omega (arith, es, ap length ea, length-sets line 0 bytes, step-length text by o r)

  part-is : take size after ≡ bytes
  part-is = rw (es, ea) (first_part bytes line (omega (arith, step-length text by o r)))

  pub part-length : size ≡ length (take size after)
  part-length = es ∙ sym (ap length part-is)

  pub part-fits : (at n : ℕ) → at + line_bytes ≤ n → at + length (take size after) ≤ n
  part-fits at n h = rw part-is (omega (arith, step-length text by o r))

  pub part-put : (at : ℕ) (out : List ℕ) (from : ℕ) {i : ℕ} {out' : List ℕ} {next : Ringing} {taken : ℕ}
      → (i ≡ at + length (take size after)) × (out' ≡ sets out at (take size after)) → (next ≡ (step_of text by o r).next) × (taken ≡ from + commands_taken r (step_of text by o r))
      → (i ≡ at + length bytes) × ((out' ≡ sets out at bytes) × ((next ≡ (step_of text by o r).next) × (taken ≡ from + commands_taken r (step_of text by o r))))
  part-put at out from (ei, eo) en = (rw part-is at ei, (rw part-is at eo, en))

-- What a gathering has and what is printed after it is all that is printed, and no more passes are left than before.
record Prints (text : Text) (by : Ordering) (o : Output) (all : List ℕ) (passes : ℕ) (g : Step) : Type 0 where
  prints : g.bytes ++ onward text by o g.next ≡ all
  fewer : g.next.passes ≤ passes

prints-by : (text : Text) (by : Ordering) (o : Output) (a b : Bool) (bytes : List ℕ) (r : Ringing) (g : Step) → (a ≡ false → Prints text by o (bytes ++ onward text by o r) r.passes g)
    → Prints text by o (bytes ++ onward text by o r) r.passes (cond a (record { bytes = bytes; next = r }) (cond b (record { bytes = bytes; next = r }) g))
prints-by text by o true b bytes r g f = record { prints = refl; fewer = omega arith }
prints-by text by o false true bytes r g f = record { prints = refl; fewer = omega arith }
prints-by text by o false false bytes r g f = f refl

after-prints : (text : Text) (by : Ordering) (o : Output) (room k : ℕ) (bytes : List ℕ) (r : Ringing) → Prints text by o (bytes ++ onward text by o r) r.passes (gathered_after text by o room k bytes r)
unfolding gathered_after
after-prints text by o room zero bytes r = record { prints = refl; fewer = omega arith }
after-prints text by o room (suc k) bytes r =
    let s = step_of text by o r in
    let q = after-prints text by o room k (bytes ++ s.bytes) s.next in
    prints-by text by o (eqb r.passes 0) (ltb room (length bytes + line_bytes)) bytes r (gathered_after text by o room k (bytes ++ s.bytes) s.next)
    (λ e.
    let f = step_falls text by o r (eqb-false r.passes 0 e) in
    record {
      prints = q.prints ∙ append_assoc bytes s.bytes (onward text by o s.next) ∙ ap (λ (l : List ℕ). bytes ++ l) (sym f.prints);
      fewer = omega (arith, q.fewer, f.falls);
    })

-- What is gathered has room in the buffer.
length-by : (text : Text) (a b : Bool) (room : ℕ) (bytes : List ℕ) (r : Ringing) (g : Step) → length bytes ≤ room → (b ≡ false → length g.bytes ≤ room)
    → length (cond a (record { bytes = bytes; next = r }) (cond b (record { bytes = bytes; next = r }) g)).bytes ≤ room
length-by text true b room bytes r g h f = h
length-by text false true room bytes r g h f = h
length-by text false false room bytes r g h f = f refl

after-length : (text : Text) (by : Ordering) (o : Output) (room k : ℕ) (bytes : List ℕ) (r : Ringing) → length bytes ≤ room → length (gathered_after text by o room k bytes r).bytes ≤ room
unfolding gathered_after
after-length text by o room zero bytes r h = h
after-length text by o room (suc k) bytes r h =
    let s = step_of text by o r in
    length-by text (eqb r.passes 0) (ltb room (length bytes + line_bytes)) room bytes r (gathered_after text by o room k (bytes ++ s.bytes) s.next) h
    (λ e.
    after-length text by o room k (bytes ++ s.bytes) s.next
    (omega (arith, ltb-false room (length bytes + line_bytes) e, step-length text by o r, length-append bytes s.bytes)))

pub gathered-length : (text : Text) (by : Ordering) (o : Output) (room : ℕ) (r : Ringing) → length (gathered text by o room r).bytes ≤ room
unfolding gathered
gathered-length text by o room r = after-length text by o room r.passes [] r (omega arith)

pub gathered-prints : (text : Text) (by : Ordering) (o : Output) (room : ℕ) (r : Ringing) → (gathered text by o room r).bytes ++ onward text by o (gathered text by o room r).next ≡ onward text by o r
unfolding gathered
gathered-prints text by o room r = (after-prints text by o room r.passes [] r).prints

-- A gathering in a buffer of at least 64 bytes lowers the passes left.
pub gathered-falls : (text : Text) (by : Ordering) (o : Output) (room : ℕ) (r : Ringing) → line_bytes ≤ room → r.passes ≢ 0 → (gathered text by o room r).next.passes < r.passes
unfolding gathered
gathered-falls text by o room r h n =
    let s = step_of text by o r in
    let k : r.passes ≡ suc (r.passes - 1) = omega arith in
    let e : gathered_after text by o room r.passes [] r ≡ gathered_after text by o room (r.passes - 1) s.bytes s.next =
    ap (λ (i : ℕ). gathered_after text by o room i [] r) k ∙ goes text by o room (r.passes - 1) [] r n (omega arith) in
    rw e (omega (arith, (after-prints text by o room (r.passes - 1) s.bytes s.next).fewer, (step_falls text by o r n).falls))

-- Gatherings, one after another until no pass is left, give out all.
pub gatherings-are-given : (text : Text) (by : Ordering) (o : Output) (room k : ℕ) (r : Ringing) → line_bytes ≤ room → r.passes ≤ k → printed_by text by o room k r ≡ onward text by o r
unfolding printed_by
gatherings-are-given text by o room zero r h l = none_left text by o r (omega arith)
gatherings-are-given text by o room (suc k) r h l =
    by-passes (eqb r.passes 0) refl
    (λ n. gatherings-are-given text by o room k (gathered text by o room r).next h (omega (arith, gathered-falls text by o room r h n)))
  where
    by-passes : (b : Bool) → eqb r.passes 0 ≡ b → (r.passes ≢ 0 → printed_by text by o room k (gathered text by o room r).next ≡ onward text by o (gathered text by o room r).next)
        → cond b [] ((gathered text by o room r).bytes ++ printed_by text by o room k (gathered text by o room r).next) ≡ onward text by o r
    by-passes true e f = none_left text by o r (eqb-true r.passes 0 e)
    by-passes false e f = ap (λ (l : List ℕ). (gathered text by o room r).bytes ++ l) (f (eqb-false r.passes 0 e)) ∙ gathered-prints text by o room r

-- So do those of the whole program that prints, for every file.
pub gathered-file : (size : ℕ) (by : By) (order_file file m room : List ℕ) → line_bytes ≤ size → length room ≡ command_places → printed_from size by order_file (read_of file m room) ≡ output_of by order_file file
unfolding printed_from rung_from
gathered-file size by order_file file m room h l =
    let a = read_of file m room in
    let used = ordering_by by order_file a.machine in
    let other = order_refusal by order_file in
    ap (λ (p : List ℕ). cond (eqb a.number 0) (cond (eqb other 0) p (order_refusal_line other)) (refusal_line a.number))
    (gatherings-are-given a.text used Lines size a.passes (ringing_begun a) h (omega arith) ∙ sym (steps-are-given a.text used Lines a.passes (ringing_begun a) (omega arith)))
    ∙ rung-file file m room by order_file l

-- The number that ends a ringing stays while its steps are gathered.
end_by : (text : Text) (by : Ordering) (a b : Bool) (bytes : List ℕ) (r : Ringing) (g : Step) → (a ≡ false → end_number text by g.next ≡ end_number text by r)
    → end_number text by (cond a (record { bytes = bytes; next = r }) (cond b (record { bytes = bytes; next = r }) g)).next ≡ end_number text by r
end_by text by true b bytes r g f = refl
end_by text by false true bytes r g f = refl
end_by text by false false bytes r g f = f refl

after-end : (text : Text) (by : Ordering) (o : Output) (room k : ℕ) (bytes : List ℕ) (r : Ringing) → end_number text by (gathered_after text by o room k bytes r).next ≡ end_number text by r
unfolding gathered_after
after-end text by o room zero bytes r = refl
after-end text by o room (suc k) bytes r =
    let s = step_of text by o r in
    end_by text by (eqb r.passes 0) (ltb room (length bytes + line_bytes)) bytes r (gathered_after text by o room k (bytes ++ s.bytes) s.next)
    (λ e. after-end text by o room k (bytes ++ s.bytes) s.next ∙ sym (step_falls text by o r (eqb-false r.passes 0 e)).ends)

-- Frames are gathered to the end where a buffer has room for one of each pass and for a line.
done-by : (text : Text) (a b : Bool) (bytes : List ℕ) (r : Ringing) (g : Step) → eqb r.passes 0 ≡ a → b ≡ false → (a ≡ false → g.next.passes ≡ 0)
    → (cond a (record { bytes = bytes; next = r }) (cond b (record { bytes = bytes; next = r }) g)).next.passes ≡ 0
done-by text true b bytes r g e h f = eqb-true r.passes 0 e
done-by text false true bytes r g e h f = absurd (true≢false h)
done-by text false false bytes r g e h f = f refl

after-done : (text : Text) (by : Ordering) (room k : ℕ) (bytes : List ℕ) (r : Ringing) → r.passes ≤ k → length bytes + 6 * r.passes + line_bytes ≤ room → (gathered_after text by Frames room k bytes r).next.passes ≡ 0
unfolding gathered_after
after-done text by room zero bytes r l h = omega arith
after-done text by room (suc k) bytes r l h =
    let s = step_of text by Frames r in
    done-by text (eqb r.passes 0) (ltb room (length bytes + line_bytes)) bytes r (gathered_after text by Frames room k (bytes ++ s.bytes) s.next) refl
    (le-ltb room (length bytes + line_bytes) (omega arith))
    (λ e.
    let f = step_falls text by Frames r (eqb-false r.passes 0 e) in
    after-done text by room k (bytes ++ s.bytes) s.next (omega (arith, f.falls))
    (omega (arith, f.falls, frame_step text by r, length-append bytes s.bytes)))

-- Then they are all frames, and the number is the one that ends the ringing.
module _ (text : Text) (by : Ordering) (room : ℕ) (r : Ringing) (h : 6 * r.passes + line_bytes ≤ room) where
  frames-done : (gathered text by Frames room r).next.passes ≡ 0
  unfolding gathered
  frames-done = after-done text by room r.passes [] r (omega arith) (omega arith)

  pub frames-whole : (gathered text by Frames room r).bytes ≡ onward text by Frames r
  frames-whole =
      let g = gathered text by Frames room r in
      sym (append-nil g.bytes) ∙ ap (λ (l : List ℕ). g.bytes ++ l) (none_left text by Frames g.next frames-done) ∙ gathered-prints text by Frames room r

  pub frames-number : (gathered text by Frames room r).next.number ≡ end_number text by r
  unfolding gathered
  frames-number = sym (ended-number text by (gathered text by Frames room r).next frames-done) ∙ after-end text by Frames room r.passes [] r
