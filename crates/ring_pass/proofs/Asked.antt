-- The questions of a pass by an ordering, and that pass where none refuses it.
-- Assumes nothing.
use mathlib.Core.Path.{◌≡◌, refl, sym, ◌∙◌, ap}
use mathlib.Core.Logic.{◌≢◌}
use mathlib.Core.Bool.{Bool, true, false, cond}
use mathlib.Core.List.{List, [], ◌∷◌}
use Rattle.std.specs.Prelude.{Option, None, Some}
use Prim.Native.Nat.{ℕ, ◌≤◌, ◌<◌}
use native.Mathlib.Omega.{arith}
use borrow.Author.Tests.{le-leb, lt-leb, leb-true, leb-false, eqb-true, eqb-false}
use lib.Dec.{leb, eqb}
use lib.ListN.{length, take}
use lib.Seq.{take_all}
use Rattle.layout.specs.Machine.{Machine, Memory, Order, ticks_of}
use Rattle.layout_texts.specs.declared.Text.{Text}
use Rattle.base_questions.specs.Questions.{asked}
use Rattle.layout_modes.specs.Modes.{read_data, write_data}
use Rattle.machine.specs.Questions.{question1, question2}
use Rattle.pass_order.specs.Order.{question5, question6, question7, question8, in_mode}
use Rattle.pass_order.proofs.Entries.{order-passes}
use Rattle.delay_questions.specs.Questions.{memory_good}
use Rattle.pass_model.specs.Pass.{unit_questions, Call, Outcome, ran, pass_refusal}
use Rattle.pass_model.proofs.Asked.{Answered, refused-first, refused-second, refused-7, refused-8, refused-10, past_memory, passes, few-ticks}
use Rattle.pass_laws.proofs.Passing.{let_through, pass-number}
use Rattle.pass_generators.specs.AsCoded.{Ready, Numbers}
use Rattle.pass.proofs.Readiness.{is-ready, are-numbers}
use Rattle.base_sequences.specs.Sequences.{by_number}
use Rattle.base_sequences.proofs.ByNumber.{by-number-length, first-entries}
use Rattle.base_questions.proofs.Asked.{asked-first, asked-later}
use Rattle.ring_pass.specs.BenchPass.{Ordering, ordering_of, bench_call, passed, order_asked, refused_again}
use Rattle.ring_pass.specs.Benches.{entries_in}
use Rattle.ring_pass.proofs.ByNumber.{by-number-passes}

-- Questions 7 and 8 by the counts, with no items and no places.
module _ (text : Text) (m : Machine) where
  abbrev data_refusal : ℕ
  data_refusal = asked (question7 text m [] ∷ question8 text m [] ∷ [])

  pub data_reads : 0 < in_mode text m read_data → 7 ≡ data_refusal
  unfolding asked
  data_reads h = rw (lt-leb (in_mode text m read_data) 0 h)

  pub data-writes : in_mode text m read_data ≤ 0 → 0 < in_mode text m write_data → 8 ≡ data_refusal
  unfolding asked
  data-writes h k = rw (le-leb (in_mode text m read_data) 0 h, lt-leb (in_mode text m write_data) 0 k)

  pub data-none : in_mode text m read_data ≤ 0 → in_mode text m write_data ≤ 0 → 0 ≡ data_refusal
  unfolding asked
  data-none h k = rw (le-leb (in_mode text m read_data) 0 h, le-leb (in_mode text m write_data) 0 k)

  -- What they tell.
  pub data-tells : data_refusal ≡ 0 → (in_mode text m read_data ≤ 0) × (in_mode text m write_data ≤ 0)
  unfolding asked
  data-tells e = go (leb (in_mode text m read_data) 0) (leb (in_mode text m write_data) 0) refl refl e
    where
      go : (a b : Bool) → leb (in_mode text m read_data) 0 ≡ a → leb (in_mode text m write_data) 0 ≡ b → ◌≡◌ {A = ℕ} (cond a (cond b 0 8) 7) 0
          → (in_mode text m read_data ≤ 0) × (in_mode text m write_data ≤ 0)
      go true true ea eb q = (leb-true (in_mode text m read_data) 0 ea, leb-true (in_mode text m write_data) 0 eb)
      go true false ea eb q = absurd (omega arith)
      go false b ea eb q = absurd (omega arith)

  -- With 5 and 6 before them, and 11 and 12 after them.
  module _ (by : Ordering) where
    pub again-order : {n : ℕ} → n ≡ order_asked by m → n ≢ 0 → n ≡ refused_again text by m
    unfolding refused_again
    again-order e h = asked-first (question5 (ticks_of m) (by (ticks_of m))) (question6 (ticks_of m) (by (ticks_of m))) _ e h

    module _ (ordered : order_asked by m ≡ 0) where
      past-order : refused_again text by m ≡ asked (question7 text m [] ∷ question8 text m [] ∷ unit_questions text m)
      unfolding refused_again
      past-order =
          asked-later (question5 (ticks_of m) (by (ticks_of m))) (question6 (ticks_of m) (by (ticks_of m))) _ (λ e. omega arith) (λ e. omega arith) ordered

      pub again-data : {n : ℕ} → n ≡ data_refusal → n ≢ 0 → n ≡ refused_again text by m
      again-data e h = asked-first (question7 text m []) (question8 text m []) (unit_questions text m) e h ∙ sym past-order

      pub past-data : data_refusal ≡ 0 → refused_again text by m ≡ asked (unit_questions text m)
      past-data z = past-order ∙ asked-later (question7 text m []) (question8 text m []) (unit_questions text m) (λ e. omega arith) (λ e. omega arith) z

      pub again-units : data_refusal ≡ 0 → {n : ℕ} → n ≡ asked (unit_questions text m) → n ≡ refused_again text by m
      again-units z e = e ∙ sym (past-data z)

-- The order by number passes 5 and 6.
pub numbered-asked : (m : Machine) → order_asked by_number m ≡ 0
numbered-asked m = by-number-passes (ticks_of m)

module _ (text : Text) (by : Ordering) (m : Machine) (memory : Memory) where
  abbrev call : Call
  call = bench_call by m memory

  number_is : {n : ℕ} → n ≡ pass_refusal text m call → n ≡ (passed text by m memory).number
  number_is e = e ∙ sym (pass-number text m call)

  pub refused-machine : {n : ℕ} → n ≡ asked (question1 m ∷ question2 text m ∷ []) → n ≢ 0 → n ≡ (passed text by m memory).number
  refused-machine e h = number_is (refused-first text m call e h)

  -- A machine that passes questions 1 and 2.
  module _ (whole : asked (question1 m ∷ question2 text m ∷ []) ≡ 0) where
    pub refused-order : {n : ℕ} → n ≡ order_asked by m → n ≢ 0 → n ≡ (passed text by m memory).number
    refused-order e h = number_is (refused-second text m call whole e h)

    -- An order that passes 5 and 6.
    module _ (ordered : order_asked by m ≡ 0) where
      pub refused-data : {n : ℕ} → n ≡ data_refusal text m → n ≢ 0 → n ≡ (passed text by m memory).number
      unfolding asked
      refused-data {n} e h = number_is (e ∙ go (leb (in_mode text m read_data) 0) (leb (in_mode text m write_data) 0) refl refl (λ z. h (e ∙ z)))
        where
          go : (a b : Bool) → leb (in_mode text m read_data) 0 ≡ a → leb (in_mode text m write_data) 0 ≡ b → ◌≢◌ {A = ℕ} (cond a (cond b 0 8) 7) 0 → cond a (cond b 0 8) 7 ≡ pass_refusal text m call
          go true true ea eb q = absurd (q refl)
          go true false ea eb q = refused-8 text m call whole ordered (leb-true (in_mode text m read_data) 0 ea) (leb-false (in_mode text m write_data) 0 eb)
          go false b ea eb q = refused-7 text m call whole ordered (leb-false (in_mode text m read_data) 0 ea)

      module _ (z : data_refusal text m ≡ 0) where
        pub refused-memory : memory_good memory ≡ false → 10 ≡ (passed text by m memory).number
        refused-memory e = number_is (refused-10 text m call whole ordered (data-tells text m z).0 (data-tells text m z).1 e)

        pub units-decide : memory_good memory ≡ true → {n : ℕ} → n ≡ asked (unit_questions text m) → n ≡ (passed text by m memory).number
        units-decide e q = number_is (q ∙ sym (past_memory text m call whole ordered (data-tells text m z).0 (data-tells text m z).1 e))

    -- With a good memory the questions that commands can change decide.
    pub again-decides : memory_good memory ≡ true → {n : ℕ} → n ≡ refused_again text by m → n ≡ (passed text by m memory).number
    again-decides good {n} e = go (eqb (order_asked by m) 0) refl (eqb (data_refusal text m) 0) refl
      where
        go : (a : Bool) → eqb (order_asked by m) 0 ≡ a → (b : Bool) → eqb (data_refusal text m) 0 ≡ b → n ≡ (passed text by m memory).number
        go true ea true eb =
            let o = eqb-true (order_asked by m) 0 ea in
            let z = eqb-true (data_refusal text m) 0 eb in
            units-decide o z good (e ∙ past-data text m by o z)
        go true ea false eb =
            let o = eqb-true (order_asked by m) 0 ea in
            let h = eqb-false (data_refusal text m) 0 eb in
            e ∙ sym (again-data text m by o refl h) ∙ refused-data o refl h
        go false ea b eb = let h = eqb-false (order_asked by m) 0 ea in e ∙ sym (again-order text m by refl h) ∙ refused-order refl h

  -- A pass that none refuses.
  module _ (n : (passed text by m memory).number ≡ 0) where
    let_by : pass_refusal text m call ≡ 0
    let_by = sym (pass-number text m call) ∙ n

    pub answered : Answered text m call
    answered = passes text m call let_by

    pub ready : Ready m
    ready = is-ready text m answered.whole

    pub ticks-most : ticks_of m ≤ 256
    ticks-most = few-ticks text m [] answered.whole

-- The entries that such a pass goes by: the first T of a run.
module _ (text : Text) (o : Option Order) (m : Machine) (memory : Memory) where
  abbrev by : Ordering
  by = ordering_of o

  module _ (n : (passed text by m memory).number ≡ 0) {t : ℕ} (et : t ≡ ticks_of m) where
    -- Question 5 says that a given order has T entries; that by number has 256.
    first_t : (t ≡ length (take t (entries_in o))) × (take t (entries_in o) ≡ by (ticks_of m))
    first_t = go o refl (answered text by m memory n).ordered
      where
        go : (p : Option Order) → o ≡ p → order_asked (ordering_of p) m ≡ 0 → (t ≡ length (take t (entries_in p))) × (take t (entries_in p) ≡ ordering_of p (ticks_of m))
        go (Some order) e q =
            let l = (order-passes (ticks_of m) order q).entries in
            let f : take t order ≡ order = take_all t order (omega (arith, et, l)) in
            (omega (arith, et, l, ap length f), f)
        go None e q =
            let few = ticks-most text by m memory n in
            let f : take t (by_number 256) ≡ by_number (ticks_of m) = rw et (first-entries (ticks_of m) 256 few) in
            (omega (arith, et, ap length f, by-number-length (ticks_of m)), f)

    pub entries-there : t ≡ length (take t (entries_in o))
    entries-there = first_t.0

    pub numbers : Numbers (take t (entries_in o))
    numbers = rw first_t.1 (are-numbers text m (by (ticks_of m)) (answered text by m memory n).whole (answered text by m memory n).ordered)

    pub passed-so : {number read written : ℕ} {clipped after places memory' : List ℕ}
        → record { number = number; read = read; written = written; clipped = clipped; machine = after; places = places; memory = memory' }
        ≡ ran text m (record { order = take t (entries_in o); items = []; places = []; memory = memory })
        → (after ≡ (passed text by m memory).machine) × (memory' ≡ (passed text by m memory).memory)
    passed-so {number} {read} {written} {clipped} {after} {places} {memory'} e =
        let whole : record { number = number; read = read; written = written; clipped = clipped; machine = after; places = places; memory = memory' } ≡ passed text by m memory =
        e ∙ ap (λ (l : Order). ran text m (record { order = l; items = []; places = []; memory = memory })) first_t.1 ∙ sym (let_through text m (bench_call by m memory) (let_by text by m memory n)) in
        (ap (λ (r : Outcome). r.machine) whole, ap (λ (r : Outcome). r.memory) whole)
