-- What follows a pass keeps a machine good; and where it takes no command it changes nothing but that lingering may end.
-- Assumes nothing.
use mathlib.Core.Path.{◌≡◌, refl}
use mathlib.Core.Bool.{true}
use Prim.Native.Nat.{◌≤◌}
use native.Mathlib.Omega.{arith}
use lib.ListN.{length, set}
use Rattle.layout.specs.Layout.{lingering_at}
use Rattle.layout.specs.Machine.{Machine, Commands}
use Rattle.layout_texts.specs.declared.Text.{Text}
use Rattle.layout_texts.specs.declared.Text.TheVariants.{Of1978, Old}
use Rattle.machine.specs.Questions.{valid}
use Rattle.command_update.proofs.Updating.{none-taken, left-within}
use Rattle.command_laws.proofs.Lengths.{update-length}
use Rattle.command_laws.proofs.UpdateValid.{update-valid}
use Rattle.ring_steps.specs.Heard.{update_after}
use Rattle.ring_steps.specs.AsCoded.{taken_after}

pub update-after-valid : (text : Text) (m : Machine) (cs : Commands) → valid text m ≡ true → valid text (update_after text m cs).machine ≡ true
update-after-valid Of1978 m cs = update-valid m cs
update-after-valid Old m cs = λ s. s

pub update-after-length : (text : Text) (m : Machine) (cs : Commands) → length (update_after text m cs).machine ≡ length m
update-after-length Of1978 m cs = update-length m cs
update-after-length Old m cs = refl

pub none_after : (text : Text) (P : Machine → Type 0) (m : Machine) (cs : Commands) → taken_after text m cs ≡ 0 → P m → P (set m lingering_at 0) → P (update_after text m cs).machine
none_after Of1978 P m cs = none-taken P m cs
none_after Old P m cs = λ e p q. p

pub left_after : (text : Text) (m : Machine) (cs : Commands) → length (update_after text m cs).rest ≤ length cs
left_after Of1978 m cs = left-within m cs refl
left_after Old m cs = omega arith
