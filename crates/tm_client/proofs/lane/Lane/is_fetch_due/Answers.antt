use Rattle.tm_client.proofs.lane.Lane.is_fetch_due.Goals as goal

pub returns-then-not-self : goal.returns-then-not-self
returns-then-not-self g c = (λ t. (c.requires.waits, c.requires.bye, c.if-not-self.true, c.is_fetching.ensures.0 t), λ due. c.is_fetching.ensures.1 due.3)
