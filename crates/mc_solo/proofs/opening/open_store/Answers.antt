use Rattle.std.proofs.Common.{map, subst}
use Rattle.tm_turns.specs.Making.{HasBuilt}
use Rattle.mc_next.specs.Parts.{store_kind}
use Rattle.mc_solo.specs.Serving.{store_config}
use Rattle.mc_solo.proofs.Dealt.{may_serve}
use Rattle.mc_solo.proofs.opening.open_store.Goals as goal

pub returns-in-Ok-clause-built : goal.returns-in-Ok-clause-built
returns-in-Ok-clause-built c =
    subst (λ xs. HasBuilt store_kind (store_config c.args.clients c.args.trustees) xs c.in-Ok.built.0 (map (λ l. l.items) c.in-Ok.built.1.items)) c.in_ok-first.ensures c.in-Ok.ensures.built

pub returns-in-Ok-clause-may : goal.returns-in-Ok-clause-may
returns-in-Ok-clause-may c =
    may_serve (store_config c.args.clients c.args.trustees) c.args.bound c.in-Ok.built.0 (map (λ l. l.items) c.in-Ok.built.1.items) (returns-in-Ok-clause-built c)
