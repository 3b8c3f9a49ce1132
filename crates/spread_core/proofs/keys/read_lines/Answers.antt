use Rattle.spread_core.proofs.KeyLemmas.{goes_on, ends_all}
use Rattle.spread_core.proofs.keys.read_lines.Goals as goal

pub returns-then-not-branch : goal.returns-then-not-branch
returns-then-not-branch g c all =
    ends_all c.args.eol _ _ _ _ _ _ c.lines.invariant c.in_ok-read_line.field-0 c.if-not-branch.true c.in_ok-read_line.ensures

pub lines-preserved : goal.lines-preserved
lines-preserved g c =
    goes_on c.args.eol _ _ _ _ _ _ c.lines.invariant c.in_ok-read_line.field-0 c.if-not-branch.false c.in_ok-read_line.ensures
