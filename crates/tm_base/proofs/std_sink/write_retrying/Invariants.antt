use Rattle.tm_base.specs.Visible.{Stays}
use Rattle.tm_base.proofs.std_sink.write_retrying.Given as goal

abbrev pub invariant-loop : goal.invariant-loop
invariant-loop g l = Stays (g.T.Write.contents l.fn.writer) (g.T.Write.contents l.writer)
