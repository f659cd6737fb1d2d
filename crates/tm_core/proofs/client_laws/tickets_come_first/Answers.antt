use Rattle.tm_core.proofs.ClientTickets as tickets
use Rattle.tm_core.proofs.client_laws.tickets_come_first.Goals as goal

pub returns : goal.returns
returns g c = tickets.tickets_come_first g.S.Entrusted.kind
