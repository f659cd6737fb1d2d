use Rattle.mc_shard.proofs.index.note.Goals as goal

pub returns-in_ok-insert-clause-gains : goal.returns-in_ok-insert-clause-gains
returns-in_ok-insert-clause-gains c = λ moment q. rw (c.in-At.is, ← c.in_ok-clone.ensures.cases) (c.in_ok-insert.ensures.updates.0 (moment, q))
