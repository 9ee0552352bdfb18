-- What document 01 claims of the items and places of a pass ("A pass, and two orders of it").
-- Assumes nothing.
use Rattle.std.specs.Prelude.{ℕ, ◌≤◌, ◌≢◌, ◌≡◌, length, get_or}
use Rattle.layout.specs.Machine.{Machine}
use Rattle.layout_texts.specs.declared.Text.{Text}
use Rattle.pass_model.specs.Pass.{Call, pass_of}

pub record PassClaims : Type 0 where
  -- "It answers the items read and written (both 0 in a refusal)".
  pub refused-counts : (text : Text) (m : Machine) (call : Call) → (pass_of text m call).number ≢ 0 → ((pass_of text m call).read ≡ 0) × ((pass_of text m call).written ≡ 0)
  -- "Written places past the last item keep their contents", and there are as many places as before.
  pub places-kept : (text : Text) (m : Machine) (call : Call) (i : ℕ) → (pass_of text m call).written ≤ i → get_or (pass_of text m call).places i 0 ≡ get_or call.places i 0
  pub places-long : (text : Text) (m : Machine) (call : Call) → length (pass_of text m call).places ≡ length call.places
