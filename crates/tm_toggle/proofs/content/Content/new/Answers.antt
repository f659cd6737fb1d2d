use Rattle.std.proofs.Common.{[], ◌∷◌}
use Rattle.tm_batch.specs.declared.message.Request.TheVariants.{Bye}
use Rattle.tm_batch.specs.declared.message.Answer.TheVariants.{ByeDone}
use Rattle.tm_toggle.proofs.content.Content.new.Goals as goal

pub returns : goal.returns
returns g c =
    let one = c.blanks.ensures Bye (λ d e. e) in
    let two = c.blanks-2.ensures ByeDone (λ d e. e) in
    let three = c.blanks-3.ensures (record { id = 0; place = 0 }) (λ d e. λ j. record { id = e.0 j; place = e.1 j }) in
    let four = c.blanks-4.ensures (record { ticket = 0; reply = g.S.Entrusted.kind.no_memory }) (λ d e. λ j. record { ticket = e.0 j; reply = e.1 j }) in
    λ j. record {
      front = 0;
      room = c.new.ensures j;
      requests = record { items = one j };
      answers = record { items = two j };
      gifts = record { items = three j };
      completions = record { items = four j };
      counts = 0 ∷ 0 ∷ 0 ∷ 0 ∷ 0 ∷ 0 ∷ 0 ∷ 0 ∷ 0 ∷ 0 ∷ 0 ∷ 0 ∷ 0 ∷ 0 ∷ 0 ∷ 0 ∷ [];
    }
