use Rattle.std.proofs.Common.{◌∷◌, [], ◌++◌, ap, ◌∙◌}
use Rattle.tm_reference.proofs.WorkGoesOn.{asked_told, ended_told}
use Rattle.tm_reference.proofs.place.ReferencePlace.resume.Goals as goal

pub returns-in-Asks-clause-ok : goal.returns-in-Asks-clause-ok
returns-in-Asks-clause-ok g c =
    asked_told g.S.Entrusted.kind _ _ _ _ _ _ _ c.self.view_is c.in-Asks.ensures _
    (ap (λ ready. record { served = c.self.inside.served; is_closed = c.self.inside.is_closed; gifts = c.self.inside.gifts.items; ready = ready }) c.reserve.ensures.items)

pub returns-in-Ends-clause-ok : goal.returns-in-Ends-clause-ok
returns-in-Ends-clause-ok g c =
    ended_told g.S.Entrusted.kind _ _ _ _ _ c.self.view_is c.in-Ends.ensures _
    (ap (λ ready. record { served = c.self.inside.served; is_closed = c.self.inside.is_closed; gifts = c.self.inside.gifts.items; ready = ready })
    ((rw c.unwrap.ensures at c.push.ensures.items) ∙ ap (λ ready. ready ++ record { ticket = c.in-Ends.ticket; reply = c.in-Ends.reply } ∷ []) c.reserve.ensures.items))
