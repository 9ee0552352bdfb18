-- `any_order_kept::update` meets its contract: the generator is taken out by the machine before the change and put in by the one after it.
-- Assumes nothing.
use native.Mathlib.Omega.{arith}
use Rattle.layout_texts.specs.declared.Text.TheVariants.{Of1978}
use Rattle.machine.proofs.ValidMachine.{reaches, valid-controls}
use Rattle.any_order.proofs.Answers.{valid-countable}
use Rattle.machine_change.specs.Change.{changed_by}
use Rattle.machine_change.specs.Kinds.{change_of_kind}
use Rattle.any_order_kept.proofs.Changed.{changed-valid, changed-whole, concerned-below}
use Rattle.any_order_kept.proofs.Calls.{after-by, countable-as}
use Rattle.any_order_kept.proofs.update.Goals as goal

pub concerned-g-requires : goal.concerned-g-requires
concerned-g-requires c = record { reaches = reaches c.args.m.now c.requires.m_len.0; bound = (valid-controls Of1978 c.args.m.now c.requires.m_len.1).t_low }

pub shift_counted-requires : goal.shift_counted-requires
shift_counted-requires c =
    let a = c.args in
    let n = change_of_kind a.change in
    let q = c.requires in record {
      countable = valid-countable a.m.now q.m_len.0 q.m_len.1;
      g_lt_generators = omega (arith, c.concerned-g.ensures, concerned-below a.m.now q.m_len.0 q.m_len.1 n.kind n.generator n.value q.value_value);
    }

pub shift_counted-requires-2 : goal.shift_counted-requires-2
shift_counted-requires-2 c =
    let a = c.args in
    let n = change_of_kind a.change in
    let q = c.requires in record {
      countable = countable-as c.make.ensures
          (valid-countable (changed_by a.m.now n) (changed-whole a.m.now q.m_len.0 q.m_len.1 n.kind n.generator n.value q.value_value)
          (changed-valid a.m.now q.m_len.0 q.m_len.1 n.kind n.generator n.value q.value_value));
      g_lt_generators = omega (arith, c.concerned-g.ensures, concerned-below a.m.now q.m_len.0 q.m_len.1 n.kind n.generator n.value q.value_value);
    }

pub returns : goal.returns
returns c =
    let a = c.args in record {
      m_after = c.make.ensures;
      kept_after = after-by a.m.now _ _ a.kept.now c.concerned-g.ensures c.shift_counted.ensures c.shift_counted-2.ensures c.answer.ensures;
    }
