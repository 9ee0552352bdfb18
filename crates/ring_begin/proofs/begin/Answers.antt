-- `ring_begin::begin` meets its contract: what was read, cleared and filled, or the line of what is refused.
-- Assumes nothing.
use mathlib.Core.Path.{◌≡◌, refl}
use borrow.Author.Rules.{rules}
use lib.ListN.{length}
use Rattle.base_questions.proofs.Refusals.{numbered}
use Rattle.layout.specs.Layout.{memory_words}
use Rattle.file_bench.specs.BenchFile.{command_places}
use Rattle.ring_begin.specs.AsCoded.{printed_on}
use Rattle.ring_begin.proofs.Begun.{machine-read, room-read, file-line, file-some, file-output, order-line, order-some, order-output, no-line, begins, output-is, memory-cleared, room-cleared}
use Rattle.ring_begin.proofs.begin.Goals as goal

pub returns-in-Err : goal.returns-in-Err
unfolding printed_on
returns-in-Err c =
    let a = c.args in
    let wide : length a.memory.now ≡ memory_words = search rules in
    let long : length a.room.now ≡ command_places = search rules in
    let cleared = room-cleared a.room.now long (c.fill-2.ensures.after (λ y h. h)) in
    let zeros = memory-cleared a.memory.now wide (c.fill.ensures.after (λ y h. h)) in
    let some = numbered c.in-Err.refusal in
    record {
      machine_after = machine-read a.by a.listing.now a.file.now a.m.now cleared c.in-Err.ensures;
      room_after = room-read a.by a.listing.now a.file.now a.m.now cleared c.in-Err.ensures;
      memory_after = zeros;
      line_value = file-line a.by a.listing.now a.file.now a.m.now cleared c.in-Err.ensures some c.refused.ensures;
      refused_value = file-some a.by a.listing.now a.file.now a.m.now cleared c.in-Err.ensures some;
      begins = tt;
      by_index = λ size h. file-output a.by a.listing.now a.file.now a.m.now cleared c.in-Err.ensures some c.refused.ensures;
    }

pub returns-in-Err-fill : goal.returns-in-Err-fill
unfolding printed_on
returns-in-Err-fill c =
    let a = c.args in
    let wide : length a.memory.now ≡ memory_words = search rules in
    let long : length a.room.now ≡ command_places = search rules in
    let cleared = room-cleared a.room.now long (c.fill-2.ensures.after (λ y h. h)) in
    let zeros = memory-cleared a.memory.now wide (c.fill.ensures.after (λ y h. h)) in
    let told = c.in-Err-fill.ensures.number_value in
    let some = numbered c.in-Err-fill.refusal in
    record {
      machine_after = machine-read a.by a.listing.now a.file.now a.m.now cleared c.in-Ok.ensures;
      room_after = room-read a.by a.listing.now a.file.now a.m.now cleared c.in-Ok.ensures;
      memory_after = zeros;
      line_value = order-line a.by a.listing.now a.file.now a.m.now cleared c.in-Ok.ensures refl told some c.order_refused.ensures;
      refused_value = order-some a.by a.listing.now a.file.now a.m.now cleared c.in-Ok.ensures refl told some;
      begins = tt;
      by_index = λ size h. order-output a.by a.listing.now a.file.now a.m.now cleared c.in-Ok.ensures refl told some c.order_refused.ensures;
    }

pub returns : goal.returns
unfolding printed_on
returns c =
    let a = c.args in
    let wide : length a.memory.now ≡ memory_words = search rules in
    let long : length a.room.now ≡ command_places = search rules in
    let cleared = room-cleared a.room.now long (c.fill-2.ensures.after (λ y h. h)) in
    let zeros = memory-cleared a.memory.now wide (c.fill.ensures.after (λ y h. h)) in
    let told = c.in-Ok-fill.ensures.number_value in
    let used = c.in-Ok-fill.ensures.entries_value in
    record {
      machine_after = machine-read a.by a.listing.now a.file.now a.m.now cleared c.in-Ok.ensures;
      room_after = room-read a.by a.listing.now a.file.now a.m.now cleared c.in-Ok.ensures;
      memory_after = zeros;
      line_value = no-line a.by a.listing.now a.file.now a.m.now cleared c.in-Ok.ensures refl told refl;
      refused_value = tt;
      begins = begins a.by a.listing.now a.file.now a.m.now cleared c.in-Ok.ensures refl told refl c.in-Ok-fill.order used.0 used.1;
      by_index = output-is a.by a.listing.now a.file.now a.m.now cleared c.in-Ok.ensures refl told refl c.in-Ok-fill.order used.0 used.1 zeros;
    }
