-- Every claim that the demands, document 01 and the requests of document 02 make beyond the contracts of the calls. One value of this record, `claims` in proofs/Proved.antt, is the proof of all.
-- Assumes nothing.
use Rattle.std.specs.Prelude.{ℕ, suc, ◌+◌, ◌*◌, ◌/◌, ◌%◌, ◌^◌, ◌≤◌, ◌<◌, true, false, cond, List, [], ◌∷◌, ◌↔◌, ◌≢◌, ◌≡◌, pos, ◌*ℤ◌, length, get_or, set, replicate, Some}
use Rattle.base_words.specs.Words.{signed}
use Rattle.layout.specs.Layout.{counter_at, dx_at, lingering_at, quadrant_words, generators, machine_length, update_ticks_at, generator_at, GO, dacs}
use Rattle.layout.specs.Machine.{Machine, Order, Items, Commands, Memory, ticks_of, update_ticks, update_ticks_of, low_counter}
use Rattle.layout.specs.Widths.{counter_bits, linger_bits}
use Rattle.layout_texts.specs.declared.Text.{Text}
use Rattle.layout_texts.specs.declared.Text.TheVariants.{Of1978, Old}
use Rattle.base_questions.specs.Questions.{asked}
use Rattle.generator_sine.specs.Sine.{magnitude}
use Rattle.generator_exponential.specs.Exponential.{table_size, older_size, within, Largest, entry as exponential_entry, entries as exponential_entries, exponential}
use Rattle.generator_exponential.specs.OlderTable.{older_table}
use Rattle.layout_modes.specs.Modes.{read_data, write_data}
use Rattle.machine.specs.Questions.{question1, question2, fresh_machine}
use Rattle.machine.specs.NarrowCounter.{narrow_valid}
use Rattle.delay_questions.specs.Questions.{memory_good}
use Rattle.pass_order.specs.Order.{in_mode}
use Rattle.pass_sums.specs.Sums.{sums_of}
use Rattle.pass_model.specs.Generators.{generators_of, begun}
use Rattle.pass_model.specs.Clipped.{no_marks, SumLeft}
use Rattle.pass_model.specs.Pass.{unit_questions, Call, plain_call, pass_of}
use Rattle.pass_laws.specs.Good.{Good}
use Rattle.pass_laws.specs.Passes.{no_data, rung_by}
use Rattle.pass_laws.specs.Settings.{SettingsKept}
use Rattle.pass_delay_laws.specs.DelayClaims.{DelayClaims}
use Rattle.command_fields.specs.Fields.{data_of}
use Rattle.command_timer.specs.Timer.{waits_for, lingered, tt_of, timed}
use Rattle.command.specs.Command.{after_command}
use Rattle.command_update.specs.Update.{still_lingering, update_of, taken_count}
use Rattle.compare_agreement.specs.Agreement.{settings_of, Agree}
use Rattle.any_order_model.specs.Parting.{parting_orders}
use Rattle.compare.specs.Compare.{compare_of}
use Rattle.any_order.specs.AnyOrder.{any_order_of}
use Rattle.any_order_sums.specs.Places.{Kept, order_free_at}
use Rattle.any_order_counts.specs.Kept.{kept_of}
use Rattle.machine_change.specs.Change.{Change, dac_change, changed_by, is_of}
use Rattle.any_order_kept.specs.Keeping.{keep_of, change_of, changes_of}
use Rattle.any_order_kept.specs.Reasons.{Reason}
use Rattle.parts.specs.Parts.{parts_of}
use Rattle.parts_shown.specs.Shown.{pass_by, difference_shown, Differ}
use Rattle.pass_pitch.specs.Pitch.{by_pitch, SortedByPitch}
use Rattle.file_order.specs.OrderFile.{is_order_file, order_of}
use Rattle.sorted_lines.specs.SortedLines.{order_lines}
use Rattle.equal_orders.specs.Equal.{Equal}
use Rattle.equal_orders.specs.WorkedExamples.{WorkedExamples, forth, back}
use Rattle.equal_any_order.specs.EveryOrder.{Passes, EveryTwoEqual, Apart}
use Rattle.equal_any_order.specs.MarksApart.{up_and_down}
use Rattle.equal_parts.specs.Parting.{PartingContents}
use Rattle.chain_entries.specs.Entries.{Chain, size, is_early, names_in, name_of}
use Rattle.chain_entries.specs.Fits.{Fits}
use Rattle.chain_numbers.specs.Earliest.{modifiers}
use Rattle.chain_numbers.specs.Numberings.{Numbering, PassesLast}
use Rattle.chain.specs.Chain.{chain_of}
use Rattle.chain_views.specs.Sees.{Sees}
use Rattle.equal_ringings.specs.Ringings.{NoneWaits, EqualThroughout}
use Rattle.equal_ringings.specs.WokenLater.{woken_later, woken_first, woken_last}
use Rattle.join_passes.specs.TwoBells.{TwoBells}
use Rattle.ring_alike.specs.RungClaims.{RungClaims}
use Rattle.ring_block_laws.specs.BlockClaims.{BlockClaims}
use Rattle.claims.specs.OrderClaims.{OrderClaims}
use Rattle.claims.specs.PassClaims.{PassClaims}
use Rattle.claims.specs.TimerClaims.{TimerClaims}
use Rattle.file_printed.specs.Text.{line_bytes, decimal}
use Rattle.file_numbers.specs.Numbers.{decimal_in}
use Rattle.file_bench.specs.BenchFile.{command_places, file_of, read_of}
use Rattle.ring_pass.specs.BenchPass.{Ordering}
use Rattle.ring_order.specs.declared.By.{By}
use Rattle.ring_steps.specs.Heard.{update_after, heard}
use Rattle.ring_steps.specs.Ringing.{output_of}
use Rattle.ring_steps.specs.AsCoded.{rung_from}
use Rattle.ring_gathering.specs.AsCoded.{printed_from}
use Rattle.claims.specs.TableClaims.{TableClaims}
use Rattle.claims.specs.LowBitClaims.{LowBitClaims}
use Rattle.claims.specs.CounterClaims.{CounterClaims}
use Rattle.claims.specs.FileClaims.{FileClaims}
use Rattle.claims.specs.SoundClaims.{SoundClaims}

pub record Claims : Type 0 where
  -- Demand 3: on a machine that passes questions 1 and 2, two orders that pass 5 and 6 are equal exactly when they agree on the four points.
  pub demand-3 : (text : Text) (m : Machine) → Good text m → (o₁ o₂ : Order) → Passes m o₁ → Passes m o₂ → Equal text m o₁ o₂ ↔ Agree text m o₁ o₂
  -- A compare that passes the questions says yes exactly when its two orders are equal; a refused one says no.
  pub compare-says : (text : Text) (m : Machine) (o₁ o₂ : Order) → (compare_of text m o₁ o₂).number ≡ 0 → ((compare_of text m o₁ o₂).equal ≡ true) ↔ Equal text m o₁ o₂
  pub refused-says-no : (text : Text) (m : Machine) (o₁ o₂ : Order) → (compare_of text m o₁ o₂).number ≢ 0 → (compare_of text m o₁ o₂).equal ≡ false
  -- The call that asks whether every order leaves the same says yes, where it passes the questions, exactly when every two orders that pass 5 and 6 are equal; a refused one says no.
  pub any-order-says : (m : Machine) → (any_order_of m).number ≡ 0 → ((any_order_of m).alike ≡ true) ↔ EveryTwoEqual m
  pub any-order-refused : (m : Machine) → (any_order_of m).number ≢ 0 → (any_order_of m).alike ≡ false
  -- With T at 1 it says yes. Where it says no, two orders can be named that pass 5 and 6 and are not equal.
  pub one-order : (m : Machine) → (any_order_of m).number ≡ 0 → ticks_of m ≡ 1 → (any_order_of m).alike ≡ true
  pub orders-apart : (m : Machine) → (any_order_of m).number ≡ 0 → (any_order_of m).alike ≡ false
      → Apart m (parting_orders (settings_of Of1978 m)).first (parting_orders (settings_of Of1978 m)).second
  -- What keep makes, not refused, is the machine's own, and its answer is that of the call above.
  pub keep-own : (m : Machine) (k : Kept) → (keep_of m k).number ≡ 0 → ((keep_of m k).kept ≡ kept_of m) × (get_or (kept_of m) order_free_at 0 ≡ cond (any_order_of m).alike 1 0)
  -- From a machine's own words every change, refused or not, leaves the own words of the machine as it then is.
  pub change-own : (m : Machine) (c : Change) → (change_of m (kept_of m) c).kept ≡ kept_of (change_of m (kept_of m) c).machine
  -- So after every list of changes from a machine that passes questions 1 and 2, a fresh one among them, the kept answer is the one worked out from the machine as it then is.
  pub changes-answer : (m : Machine) → Good Of1978 m → (cs : List Change)
      → ((changes_of m (kept_of m) cs).kept ≡ kept_of (changes_of m (kept_of m) cs).machine)
      × (get_or (changes_of m (kept_of m) cs).kept order_free_at 0 ≡ cond (any_order_of (changes_of m (kept_of m) cs).machine).alike 1 0)
  pub changes-fresh : (cs : List Change)
      → get_or (changes_of fresh_machine (kept_of fresh_machine) cs).kept order_free_at 0 ≡ cond (any_order_of (changes_of fresh_machine (kept_of fresh_machine) cs).machine).alike 1 0
  -- A change is refused with 2 exactly for one of the reasons, and a refused one alters neither the machine nor what is kept.
  pub change-refused : (m : Machine) (k : Kept) (c : Change) → length m ≡ machine_length → ((change_of m k c).number ≡ 2) ↔ Reason m c
  pub change-leaves : (m : Machine) (k : Kept) (c : Change) → (change_of m k c).number ≢ 0 → ((change_of m k c).machine ≡ m) × ((change_of m k c).kept ≡ k)
  -- Not refused, the machine is the changed one, passes questions 1 and 2, and has every word as it was but those that the change is of;
  -- of GO it changes the low 4 bits alone.
  pub change-machine : (m : Machine) (k : Kept) (c : Change) → (change_of m k c).number ≡ 0
      → ((change_of m k c).machine ≡ changed_by m c) × Good Of1978 (changed_by m c) × ((i : ℕ) → is_of c i ≡ false → get_or (changed_by m c) i 0 ≡ get_or m i 0)
  pub change-dac : (m : Machine) (k : Kept) (c : Change) → (change_of m k c).number ≡ 0 → c.kind ≡ dac_change
      → (get_or (changed_by m c) (generator_at c.generator + GO) 0 % dacs ≡ c.value)
      × (get_or (changed_by m c) (generator_at c.generator + GO) 0 / dacs ≡ get_or m (generator_at c.generator + GO) 0 / dacs)
  -- Whatever is handed in as kept, number and machine are the same.
  pub change-any : (m : Machine) (k l : Kept) (c : Change) → ((change_of m k c).number ≡ (change_of m l c).number) × ((change_of m k c).machine ≡ (change_of m l c).machine)
  -- The call that says what parts two orders names no point, where it passes the questions, exactly when they are equal; where it names none, as in a refusal,
  -- the run and the read list for the contents stay. Where it names one, what they hold parts the orders: passes from it, over any delay memory that passes 10
  -- and with places enough, run by both orders and leave another machine or other written data.
  pub parts-says : (text : Text) (m : Machine) (o₁ o₂ : Order) (contents : Machine) (items : Items) → (parts_of text m o₁ o₂ contents items).number ≡ 0
      → ((parts_of text m o₁ o₂ contents items).point ≡ 0) ↔ Equal text m o₁ o₂
  pub none-shown : (text : Text) (m : Machine) (o₁ o₂ : Order) (contents : Machine) (items : Items) → (parts_of text m o₁ o₂ contents items).point ≡ 0
      → ((parts_of text m o₁ o₂ contents items).contents ≡ contents) × ((parts_of text m o₁ o₂ contents items).items ≡ items)
  pub contents-part : (text : Text) (m : Machine) (o₁ o₂ : Order) (contents : Machine) (items : Items) → (parts_of text m o₁ o₂ contents items).number ≡ 0
      → (parts_of text m o₁ o₂ contents items).point ≢ 0
      → PartingContents text m o₁ o₂ items (parts_of text m o₁ o₂ contents items).contents (parts_of text m o₁ o₂ contents items).items
  -- By what passes from those contents, over a delay memory of zeros and with a place for every generator, are said to differ is the first word by which the machines differ
  -- that the two orders leave; or these are the same, and it is the first item by which the written data differ.
  pub found-differs : (text : Text) (m : Machine) (o₁ o₂ : Order) (contents : Machine) (items : Items) → (parts_of text m o₁ o₂ contents items).number ≡ 0
      → (parts_of text m o₁ o₂ contents items).point ≢ 0
      → Differ (pass_by text (parts_of text m o₁ o₂ contents items).contents (parts_of text m o₁ o₂ contents items).items o₁)
      (pass_by text (parts_of text m o₁ o₂ contents items).contents (parts_of text m o₁ o₂ contents items).items o₂)
      (difference_shown text (parts_of text m o₁ o₂ contents items).contents (parts_of text m o₁ o₂ contents items).items o₁ o₂)
  -- Passes one after the other: on a machine that passes questions 1 and 2, with no generator below T in 1001 or 1101, two orders that pass 5 and 6, each used throughout,
  -- leave the same machine, delay memory and written data after every list of passes exactly when they agree on the four points; a compare's yes says so.
  pub whole-ringings : (text : Text) (m : Machine) → Good text m → NoneWaits text m → (o₁ o₂ : Order) → Passes m o₁ → Passes m o₂ → EqualThroughout text m o₁ o₂ ↔ Agree text m o₁ o₂
  pub compare-throughout : (text : Text) (m : Machine) (o₁ o₂ : Order) → (compare_of text m o₁ o₂).number ≡ 0 → NoneWaits text m
      → ((compare_of text m o₁ o₂).equal ≡ true) ↔ EqualThroughout text m o₁ o₂
  -- With a generator in 1001 that need not be: on a shown machine two orders agree and part in the second pass.
  pub throughout-apart : Agree Of1978 woken_later woken_first woken_last × (EqualThroughout Of1978 woken_later woken_first woken_last → ⊥)
  -- The order by pitch is sorted by pitch, no other order is, and it passes 5 and 6.
  pub sorted-by-pitch : (m : Machine) → SortedByPitch m (by_pitch m)
  pub sorted-alone : (m : Machine) (order : Order) → SortedByPitch m order → order ≡ by_pitch m
  pub sorted-passes : (m : Machine) → Passes m (by_pitch m)
  -- The printed lines of an order of 1 to 256 numbers of generators are an order file, which names that order.
  pub order-printed-read : (o : Order) → 0 < length o → length o ≤ generators → ((i : ℕ) → i < length o → get_or o i 0 < generators)
      → (is_order_file (order_lines o) ≡ true) × (order_of (order_lines o) ≡ o)
  -- The sine is never 0, so that the sum of cosines divides by no 0.
  pub sine-not-zero : (k : ℕ) → 0 < magnitude k
  -- Two bells in one ring.
  pub two-bells : TwoBells
  -- Two orders: what equal ones may differ in, what is named of two that are not, and the rule of every order.
  pub order-claims : OrderClaims
  -- The items and places of a pass.
  pub pass-claims : PassClaims
  -- Overrun and the Linger pass.
  pub timer-claims : TimerClaims
  -- What is heard without commands, from a machine that isn't lingering, are the machines of passes in sequence by the order for its T, up to the first refusal: where nothing is refused, as many as were asked for.
  pub heard-passes : (text : Text) (by : Ordering) (n : ℕ) (m : Machine) (memory : Memory) → get_or m lingering_at 0 ≡ 0 → (k : ℕ) → k < length (heard text by n m memory []).machines
      → get_or (heard text by n m memory []).machines k [] ≡ (rung_by text (by (ticks_of m)) m memory (replicate (suc k) no_data)).machine
  pub heard_all : (text : Text) (by : Ordering) (n : ℕ) (m : Machine) (memory : Memory) (commands : Commands) → (heard text by n m memory commands).number ≡ 0
      → length (heard text by n m memory commands).machines ≡ n
  -- A bench file rung by an order.
  pub rung : RungClaims
  -- Blocks of passes are what is heard, and they join.
  pub blocks : BlockClaims
  -- The twelve worked examples.
  pub worked-examples : WorkedExamples
  -- A fresh machine passes questions 1 and 2, and a pass, a command and an update keep them.
  pub fresh-good : (text : Text) → Good text fresh_machine
  pub pass-keeps : (text : Text) (m : Machine) (call : Call) → Good text m → Good text (pass_of text m call).machine
  pub command-keeps : (m : Machine) (c : ℕ) → Good Of1978 m → Good Of1978 (after_command m c)
  pub update-keeps : (m : Machine) (commands : Commands) → Good Of1978 m → Good Of1978 (update_of m commands).machine
  -- The count of update ticks is N-T-8 where N reaches T and the eight, and else 0.
  pub ticks-exact : (t n : ℕ) → t + 8 ≤ n → update_ticks t n + (t + 8) ≡ n
  pub ticks-none : (t n : ℕ) → n ≤ t + 8 → update_ticks t n ≡ 0
  -- The word of the update ticks has the count of T and N in every machine that passes questions 1 and 2, so also after a pass, a command and an update of such a machine;
  -- a machine whose word disagrees gets 2; and an update takes at most so many commands.
  pub ticks-written : (text : Text) (m : Machine) → Good text m → get_or m update_ticks_at 0 ≡ update_ticks_of m
  pub ticks-disagree : (text : Text) (m : Machine) → length m ≡ machine_length → get_or m update_ticks_at 0 ≢ update_ticks_of m → asked (question1 m ∷ question2 text m ∷ []) ≡ 2
  pub taken-at-most : (m : Machine) (commands : Commands) → Good Of1978 m → taken_count m commands ≤ get_or m update_ticks_at 0
  -- The machine that a file sets has the count of its own T and N, in or out of their ranges.
  pub file-ticks : (file : List ℕ) → get_or (file_of file).machine update_ticks_at 0 ≡ update_ticks_of (file_of file).machine
  -- Delay memory that passes question 10 passes it after a pass, and a machine that passes what its text asks of the delay units, 11 and 12 in 1978's, passes it after a pass.
  pub pass-keeps-memory : (text : Text) (m : Machine) (call : Call) → memory_good call.memory ≡ true → memory_good (pass_of text m call).memory ≡ true
  pub pass-keeps-units : (text : Text) (m : Machine) (call : Call) → Good text m → asked (unit_questions text m) ≡ 0
      → asked (unit_questions text (pass_of text m call).machine) ≡ 0
  -- A pass keeps all settings but the run modes of 1001 and 1101.
  pub pass-settings : (text : Text) (m : Machine) (call : Call) → SettingsKept text m (pass_of text m call).machine
  -- A pass of the older text leaves delay memory and every word that this text lacks as they were: all words past the DACs but the counter.
  pub old-memory-stays : (m : Machine) (call : Call) → (pass_of Old m call).memory ≡ call.memory
  pub old-words-stay : (m : Machine) (call : Call) (i : ℕ) → dx_at ≤ i → i ≢ counter_at → get_or (pass_of Old m call).machine i 0 ≡ get_or m i 0
  -- A pass that is not refused reads an item for each 0111 below T, writes one for each 0011 below T, and adds 1 to the counter.
  pub items-read : (text : Text) (m : Machine) (call : Call) → (pass_of text m call).number ≡ 0 → (pass_of text m call).read ≡ in_mode text m read_data
  pub items-written : (text : Text) (m : Machine) (call : Call) → (pass_of text m call).number ≡ 0 → (pass_of text m call).written ≡ in_mode text m write_data
  pub pass-counted : (text : Text) (m : Machine) (call : Call) → (pass_of text m call).number ≡ 0
      → get_or (pass_of text m call).machine counter_at 0 ≡ (get_or m counter_at 0 + 1) % 2 ^ counter_bits
  -- Question 2 lets every number of 32 bits through as the counter. A machine that passed it while the counter had 20 bits passes it as it stands, its counter's number unchanged.
  pub counter-any : (text : Text) (m : Machine) → Good text m → (n : ℕ) → n < 2 ^ counter_bits → Good text (set m counter_at n)
  pub narrow_good : (text : Text) (m : Machine) → length m ≡ machine_length → narrow_valid text m ≡ true → Good text m
  -- The low 20 bits of the counter, with which a Linger is compared, go on from pass to pass as a counter of 20 bits does. Nothing else of the counter decides
  -- whether lingering goes on, whether a Linger waits, and what it leaves in any other word, overrun among them.
  pub low-counted : (text : Text) (m : Machine) (call : Call) → (pass_of text m call).number ≡ 0 → low_counter (pass_of text m call).machine ≡ (low_counter m + 1) % 2 ^ linger_bits
  pub linger-low : (m : Machine) → Good Of1978 m → (n k : ℕ) → n % 2 ^ linger_bits ≡ k % 2 ^ linger_bits → (still_lingering (set m counter_at n) ≡ still_lingering (set m counter_at k))
      × ((number : ℕ) → (waits_for (set m counter_at n) number ≡ waits_for (set m counter_at k) number)
      × ((i : ℕ) → i ≢ counter_at → get_or (lingered (set m counter_at n) number) i 0 ≡ get_or (lingered (set m counter_at k) number) i 0))
  -- TIMER 01 sets the counter to its 20 bits of data, and TIMER 11 to 0: the high bits are cleared.
  pub timer-sets : (m : Machine) → Good Of1978 m → (c : ℕ) → tt_of c ≡ 0b01 → (get_or (timed m c) counter_at 0 ≡ data_of c) × (data_of c < 2 ^ linger_bits)
  pub timer-clears : (m : Machine) → Good Of1978 m → (c : ℕ) → tt_of c ≡ 0b11 → get_or (timed m c) counter_at 0 ≡ 0
  -- A number of 32 bits is printed whole: its digits are read as that number, without leading zeros.
  pub counter-printed : (n : ℕ) → n < 2 ^ counter_bits → decimal_in (2 ^ counter_bits) (decimal n) ≡ Some n
  -- A refused pass leaves the machine, the places and delay memory as they were.
  pub refused-leaves : (text : Text) (m : Machine) (call : Call) → (pass_of text m call).number ≢ 0
      → ((pass_of text m call).machine ≡ m) × ((pass_of text m call).places ≡ call.places) × ((pass_of text m call).memory ≡ call.memory)
  -- A pass answers 64 marks, each 0 or 1, and none is set in a refusal. Else the mark of a generator-this word is set exactly if some generator, taken in the call's order
  -- from the state that those before it left, made a signed sum in that word, by adding or replacing, that left its range.
  pub marks-64 : (text : Text) (m : Machine) (call : Call) → length (pass_of text m call).clipped ≡ quadrant_words
  pub mark-bits : (text : Text) (m : Machine) (call : Call) (w : ℕ) → w < quadrant_words → get_or (pass_of text m call).clipped w 0 ≤ 1
  pub refused-unmarked : (text : Text) (m : Machine) (call : Call) → (pass_of text m call).number ≢ 0 → (pass_of text m call).clipped ≡ no_marks
  pub mark-tells : (text : Text) (m : Machine) (call : Call) → (pass_of text m call).number ≡ 0 → (w : ℕ) → w < quadrant_words
      → (get_or (pass_of text m call).clipped w 0 ≡ 1) ↔ SumLeft (generators_of text) call.items (begun m (sums_of m) call.places) call.order w
  -- Equal orders may differ in the marks: of two that are equal on a machine one sets the mark of word 0, the other none.
  pub marks-equal : Equal Of1978 up_and_down forth back
  pub marks-forth : ((pass_of Of1978 up_and_down (plain_call forth [] [])).number ≡ 0) × ((pass_of Of1978 up_and_down (plain_call forth [] [])).clipped ≡ set no_marks 0 1)
  pub marks-back : ((pass_of Of1978 up_and_down (plain_call back [] [])).number ≡ 0) × ((pass_of Of1978 up_and_down (plain_call back [] [])).clipped ≡ no_marks)
  -- Delay units (Q-1): when a line's word and a table's answer come back, passes in sequence; which units rest; what a pass leaves in delay memory.
  pub delay-units : DelayClaims
  -- The numbers that a chain of modifiers is given rise along the list, each writer is at least 4 below an early reader and 1 below a late one, and none passes 127.
  pub chain-numbers : (c : Chain) (run : List ℕ) → length run ≡ modifiers → (chain_of c run).number ≡ 0
      → Numbering c (λ i. get_or (chain_of c run).numbers i 0) × ((i : ℕ) → i < size c → get_or (chain_of c run).numbers i 0 < modifiers)
  -- Every other numbering has at each entry a number at least as high, whether or not it passes 127.
  pub chain-least : (c : Chain) (run : List ℕ) → length run ≡ modifiers → (chain_of c run).number ≡ 0
      → (f : ℕ → ℕ) → Numbering c f → (i : ℕ) → i < size c → get_or (chain_of c run).numbers i 0 ≤ f i
  -- The number is 15 exactly where the chain fits and every numbering passes 127; and 14 exactly where it doesn't fit: some word or end is none of the form,
  -- or an entry names itself, a later one or a place outside the list.
  pub chain-none : (c : Chain) (run : List ℕ) → ((chain_of c run).number ≡ 15) ↔ (Fits c × ((f : ℕ → ℕ) → Numbering c f → PassesLast c f))
  pub chain-names : (c : Chain) (run : List ℕ) → ((chain_of c run).number ≡ 14) ↔ (¬ (Fits c))
  -- With these numbers the write of each entry that is named is among those that its reader sees, by the early view of a pass or by the late one.
  pub chain-sees : (c : Chain) (run : List ℕ) → length run ≡ modifiers → (chain_of c run).number ≡ 0 → (i k : ℕ) → i < size c → k < names_in c.entries i
      → Sees (is_early c.entries i) (get_or (chain_of c run).numbers i 0) (get_or (chain_of c run).numbers (name_of c i k) 0)
  -- Entry f of an exponential table of n is the largest of all e with e^n times 2^f at most 4,093^n, for every n. Entry 4f of the table is entry f of
  -- document 01's table of 256, and so the exponential of 4h is what document 01's was of h. Number by number that table is the one that `older_table` lists.
  pub entry-largest : (n f : ℕ) → 0 < n → Largest (within n f) (exponential_entry n f)
  pub older-entry : (f : ℕ) → exponential_entry table_size (4 * f) ≡ exponential_entry older_size f
  pub older-exponential : (h : ℕ) → exponential table_size (4 * h) ≡ exponential older_size h
  pub older-table : older_table ≡ exponential_entries older_size
  -- The steps of the bench program until no pass is left are its output, for every file, by number, by pitch or by an order file; and so are they where they are gathered in a buffer that has room for a line.
  pub steps-are-output : (by : By) (order_file file m room : List ℕ) → length room ≡ command_places → rung_from by order_file (read_of file m room) ≡ output_of by order_file file
  pub gathered-are-output : (size : ℕ) (by : By) (order_file file m room : List ℕ) → line_bytes ≤ size → length room ≡ command_places
      → printed_from size by order_file (read_of file m room) ≡ output_of by order_file file
  -- No update follows a pass of the older text: what is heard of an old file is what its passes alone leave.
  pub old-no-update : (m : Machine) (commands : Commands) → update_after Old m commands ≡ record { number = 0; machine = m; rest = commands }
  -- A sample is its signed word times 16, exactly.
  pub sample-exact : (w : ℕ) → w < 2 ^ 20 → signed 24 (16 * w) ≡ pos 16 *ℤ signed 20 w
  -- The tables of the sine and of the exponential; low bits at any width; the counter of 32 bits; the machines of files; the sound of files.
  pub tables : TableClaims
  pub low-bits : LowBitClaims
  pub counter : CounterClaims
  pub files : FileClaims
  pub sounds : SoundClaims
