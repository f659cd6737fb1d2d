use Rattle.std.proofs.Common.{subst, ap, arith, map, slice_get, ◌≡◌, ◌∷◌, []}
use Rattle.tm_turns.specs.Making.{HasBuilt}
use Rattle.mc_next.specs.Parts.{store_kind}
use Rattle.mc_route.specs.Places.{store_first}
use Rattle.mc_solo.specs.Serving.{MayServe, store_config}
use Rattle.mc_top.proofs.Endings.{nothing_answered, answered, one_dealt}
use Rattle.mc_top.proofs.serving.answer_all.Goals as goal
use Rattle.mc_top.proofs.serving.answer_all.Goals.{After-deref}

-- the trusts of the only client
dealt : (g : _) (c : After-deref g) → map (λ l. l.items) c.in-Ok.trusts.items ≡ c.deref.result.now ∷ []
dealt g c = one_dealt c.in-Ok.trusts.items c.index.result.now c.deref.result.now c.in-Ok.ensures.one c.index.ensures c.deref.ensures.value

may : (g : _) (c : After-deref g) → MayServe 0 c.deref.result.now c.in-Ok.turns
may g c = c.in-Ok.ensures.may 0 c.deref.result.now (ap (λ lists. slice_get lists 0) (dealt g c))

pub returns-in_default-clause-answered : goal.returns-in_default-clause-answered
returns-in_default-clause-answered g c = nothing_answered c.args.run.items c.args.run.max_bytes _

pub serve_in_turns-requires-clause-may : goal.serve_in_turns-requires-clause-may
serve_in_turns-requires-clause-may g c = may g (goal.at.serve_in_turns-requires-clause-may g c).After-deref

pub returns-clause-answered : goal.returns-clause-answered
returns-clause-answered g c =
    let before = (goal.at.returns-clause-answered g c).After-deref in
    answered c.one_client_meets_one_store.ensures c.args.run.trustees c.args.run.items c.args.run.max_bytes c.deref.result.now c.in-Ok.turns c.serve_in_turns.new.turns
    c.serve_in_turns.result _ _ _ _ _ _ c.requires.items.1 (omega (arith, c.requires.max_bytes.1))
    (subst (λ lists. HasBuilt store_kind (store_config 1 c.args.run.trustees) (store_first 1 c.args.run.trustees c.args.run.items) c.in-Ok.turns lists) (dealt g before) c.in-Ok.ensures.built)
    c.serve_in_turns.ensures.in_turn (may g before) c.serve_in_turns.ensures.again
