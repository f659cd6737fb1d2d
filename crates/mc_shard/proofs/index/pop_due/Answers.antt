use Rattle.std.proofs.Common.{refl}
use Rattle.mc_shard.proofs.index.pop_due.Goals as goal

pub returns-clause-ripe : goal.returns-clause-ripe
returns-clause-ripe c =
    (c.in_ok-_due._due, rw c.in_ok-_due.ensures.removal at (c.if-not-is_ripe.ensures.ripe refl), c.in_ok-_due.ensures.member, λ moment q. c.in_ok-_due.ensures.updates.0 (moment, q))
