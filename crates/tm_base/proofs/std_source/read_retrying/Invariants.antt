use Rattle.tm_base.specs.Visible.{Stays}
use Rattle.tm_base.proofs.std_source.read_retrying.Given as goal

abbrev pub invariant-loop : goal.invariant-loop
invariant-loop g l = Stays (g.R.Read.remaining l.fn.reader) (g.R.Read.remaining l.reader)
