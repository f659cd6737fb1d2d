use Rattle.tm_core.proofs.ClientTickets as tickets
use Rattle.tm_core.proofs.client_laws.batches_leave_at_fronts.Goals as goal

pub returns : goal.returns
returns g c = tickets.batches_leave_at_fronts g.S.Entrusted.kind
