-- `file_wave::put_header` meets its contract: four parts, one after another.
-- Assumes nothing.
use Rattle.file_wave.proofs.Numbers as numbers
use Rattle.file_wave.proofs.put_header.Goals as goal

pub returns : goal.returns
returns c =
    let a = c.args in
    numbers.put-header a.out.now a.rate a.bytes c.put_riff.ensures c.put_format_kind.ensures c.put_format_rates.ensures c.put_data_head.ensures
