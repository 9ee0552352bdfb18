-- All claims hold, each by the law that shows it.
-- Assumes nothing.
use mathlib.Core.Path.{◌≡◌, refl, sym, ◌∙◌}
use lib.ListN.{length-set}
use Rattle.layout.specs.Layout.{counter_at}
use Rattle.layout.specs.Machine.{Machine}
use Rattle.layout_texts.specs.declared.Text.{Text}
use Rattle.layout_texts.specs.declared.Text.TheVariants.{Of1978}
use Rattle.layout.proofs.UpdateTicks.{ticks-exact, ticks-none}
use Rattle.generator_sine.proofs.QuarterSine.{magnitude-positive}
use Rattle.generator_exponential.proofs.LargestEntries.{entry-largest}
use Rattle.generator_exponential.proofs.Sizes.{older-entry, older-exponential}
use Rattle.generator_exponential.proofs.OlderTable.{older-table}
use Rattle.machine.specs.Questions.{fresh_machine}
use Rattle.machine.proofs.FreshMachine.{fresh-length, fresh-valid}
use Rattle.machine.proofs.ValidMachine.{reaches, valid-controls, valid-ticks}
use Rattle.machine.proofs.Asked.{ticks-disagree}
use Rattle.machine.proofs.NarrowCounter.{narrow-valid, any-counter}
use Rattle.pass_model.specs.Pass.{Call, pass_of, pass_refusal}
use Rattle.pass_model.proofs.Asked.{refusal-leaves}
use Rattle.pass_laws.proofs.Passing.{pass-number}
use Rattle.pass_laws.proofs.PassValid.{pass-valid}
use Rattle.pass_laws.proofs.PassDelays.{pass-memory, pass-units}
use Rattle.pass_laws.proofs.PassSettings.{pass-settings}
use Rattle.pass_laws.proofs.PassCounts.{pass-counts, pass-counter, pass-low-counter}
use Rattle.pass_laws.proofs.OldPass.{old-pass-memory, old-pass-beyond}
use Rattle.pass_laws.proofs.PassClipped.{pass-marks, pass-mark-bits, refused-unmarked, pass-mark-tells}
use Rattle.pass_delay_laws.proofs.Claimed.{delay-claims}
use Rattle.command_update.proofs.Updating.{at_most}
use Rattle.command_laws.proofs.ValidCommands.{command-valid}
use Rattle.command_laws.proofs.UpdateValid.{update-valid}
use Rattle.command_laws.proofs.Lengths.{command-length, update-length}
use Rattle.command_laws.proofs.CounterAfter.{timer-sets, timer-clears, lingers-low}
use Rattle.equal_orders.proofs.Theorem.{demand-3, compare-says, refused-says-no}
use Rattle.equal_orders.proofs.WorkedExamples.{worked-examples}
use Rattle.equal_any_order.proofs.AnyOrder.{any-order-says, any-order-refused, one-order, orders-apart}
use Rattle.equal_any_order.proofs.MarksApart.{marks-equal, forth-sets, back-sets}
use Rattle.any_order_counts.specs.Kept.{kept_of}
use Rattle.any_order_kept.proofs.Laws.{keep-own, own-after, changes-answer, change-refused, refused-leaves, made-machine, made-whole, made-good, made-elsewhere, dac-changed, same-by-any}
use Rattle.equal_parts.proofs.Parts.{parts-says, none-shown, contents-part}
use Rattle.equal_parts.proofs.Shown.{found-differs}
use Rattle.chain.proofs.Claimed.{chain-numbers, chain-least, chain-none, chain-names}
use Rattle.chain_views.proofs.Seen.{chain-sees}
use Rattle.equal_ringings.proofs.Throughout.{whole-ringings, compare-throughout}
use Rattle.equal_ringings.proofs.WokenLater.{woken-agree, throughout-apart}
use Rattle.pass_pitch.proofs.Sorted.{by-pitch-sorted, by-pitch-passes, sorted-is-by-pitch}
use Rattle.file_wave.proofs.Samples.{sample-exact}
use Rattle.join_passes.proofs.TwoBells.{two-bells}
use Rattle.ring_alike.proofs.Files.{rung-claims}
use Rattle.ring_block_laws.proofs.Proved.{block-claims}
use Rattle.claims.proofs.OrderClaims.{order-claims}
use Rattle.claims.proofs.PassClaims.{pass-claims}
use Rattle.claims.proofs.TimerClaims.{timer-claims}
use Rattle.ring_steps.proofs.HeardPasses.{heard-passes, heard_all}
use Rattle.ring_steps.proofs.RungFile.{file-ticks, rung-file}
use Rattle.ring_gathering.proofs.Gatherings.{gathered-file}
use Rattle.claims.specs.Claims.{Claims}
use Rattle.claims.proofs.PrintedNumbers.{number-printed}
use Rattle.claims.proofs.PrintedOrders.{order-printed}
use Rattle.claims.proofs.TableClaims.{table-claims}
use Rattle.claims.proofs.LowBitClaims.{low-bit-claims}
use Rattle.claims.proofs.CounterClaims.{counter-claims}
use Rattle.claims.proofs.FileClaims.{file-claims}
use Rattle.claims.proofs.SoundClaims.{sound-claims}

-- A pass that answers 0 is refused by no question.
not-refused : (text : Text) (m : Machine) (call : Call) → (pass_of text m call).number ≡ 0 → pass_refusal text m call ≡ 0
not-refused text m call n = sym (pass-number text m call) ∙ n

pub claims : Claims
claims =
    record {
      demand-3 = demand-3;
      compare-says = compare-says;
      refused-says-no = refused-says-no;
      any-order-says = any-order-says;
      any-order-refused = any-order-refused;
      one-order = one-order;
      orders-apart = orders-apart;
      keep-own = keep-own;
      change-own = λ m c. own-after m c (kept_of m) refl;
      changes-answer = λ m good cs. changes-answer m good.whole good.is-valid cs;
      changes-fresh = λ cs. (changes-answer fresh_machine fresh-length (fresh-valid Of1978) cs).1;
      change-refused = λ m k c l. change-refused m c k l;
      change-leaves = λ m k c. refused-leaves m c k;
      change-machine = λ m k c z. (made-machine m c k z, record { whole = made-whole m c k z; is-valid = made-good m c k z }, made-elsewhere m c k z);
      change-dac = λ m k c z dac. dac-changed m c k z dac;
      change-any = λ m k l c. same-by-any m c k l;
      parts-says = parts-says;
      none-shown = none-shown;
      contents-part = contents-part;
      found-differs = found-differs;
      whole-ringings = whole-ringings;
      compare-throughout = compare-throughout;
      throughout-apart = (woken-agree, throughout-apart);
      sorted-by-pitch = by-pitch-sorted;
      sorted-alone = sorted-is-by-pitch;
      sorted-passes = by-pitch-passes;
      order-printed-read = order-printed;
      sine-not-zero = magnitude-positive;
      two-bells = two-bells;
      order-claims = order-claims;
      pass-claims = pass-claims;
      timer-claims = timer-claims;
      heard-passes = heard-passes;
      heard_all = heard_all;
      rung = rung-claims;
      blocks = block-claims;
      worked-examples = worked-examples;
      fresh-good = λ text. record { whole = fresh-length; is-valid = fresh-valid text };
      pass-keeps = pass-valid;
      command-keeps = λ m c good. record { whole = command-length m c ∙ good.whole; is-valid = command-valid m c (reaches m good.whole) good.is-valid };
      update-keeps = λ m cs good. record { whole = update-length m cs ∙ good.whole; is-valid = update-valid m cs good.is-valid };
      ticks-exact = ticks-exact;
      ticks-none = ticks-none;
      ticks-written = λ text m good. valid-ticks text m good.is-valid;
      ticks-disagree = ticks-disagree;
      taken-at-most = λ m cs good. rw (valid-ticks Of1978 m good.is-valid) (at_most m cs);
      file-ticks = file-ticks;
      pass-keeps-memory = pass-memory;
      pass-keeps-units = λ text m call good. pass-units text m call (valid-controls text m good.is-valid).t_high;
      pass-settings = pass-settings;
      old-memory-stays = old-pass-memory;
      old-words-stay = old-pass-beyond;
      items-read = λ text m call n. (pass-counts text m call (not-refused text m call n)).0;
      items-written = λ text m call n. (pass-counts text m call (not-refused text m call n)).1;
      pass-counted = λ text m call n. pass-counter text m call (not-refused text m call n);
      counter-any = λ text m good n l. record { whole = length-set m counter_at n ∙ good.whole; is-valid = any-counter text m good.is-valid n l };
      narrow_good = λ text m l e. record { whole = l; is-valid = narrow-valid text m e };
      low-counted = λ text m call n. pass-low-counter text m call (not-refused text m call n);
      linger-low = λ m good n k e. lingers-low m (reaches m good.whole) n k e;
      timer-sets = λ m good c e. timer-sets m (reaches m good.whole) c e;
      timer-clears = λ m good c e. timer-clears m (reaches m good.whole) c e;
      counter-printed = number-printed;
      refused-leaves = λ text m call n. refusal-leaves text m call (λ e. n (pass-number text m call ∙ e));
      marks-64 = pass-marks;
      mark-bits = pass-mark-bits;
      refused-unmarked = λ text m call n. refused-unmarked text m call (λ e. n (pass-number text m call ∙ e));
      mark-tells = λ text m call n. pass-mark-tells text m call (not-refused text m call n);
      marks-equal = marks-equal;
      marks-forth = forth-sets;
      marks-back = back-sets;
      delay-units = delay-claims;
      chain-numbers = chain-numbers;
      chain-least = chain-least;
      chain-none = chain-none;
      chain-names = chain-names;
      chain-sees = chain-sees;
      entry-largest = entry-largest;
      older-entry = older-entry;
      older-exponential = older-exponential;
      older-table = older-table;
      steps-are-output = λ by order_file file m room. rung-file file m room by order_file;
      gathered-are-output = gathered-file;
      old-no-update = λ m commands. refl;
      sample-exact = sample-exact;
      tables = table-claims;
      low-bits = low-bit-claims;
      counter = counter-claims;
      files = file-claims;
      sounds = sound-claims;
    }
