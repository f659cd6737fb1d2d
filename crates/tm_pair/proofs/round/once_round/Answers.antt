use Rattle.std.proofs.Common.{◌<◌, sym, ◌∙◌, subst}
use Rattle.tm_model.specs.State.{place_count}
use Rattle.tm_pair.specs.Sides.{IsGoodClient}
use Rattle.tm_pair.proofs.Returning.{finds_nothing}
use Rattle.tm_pair.proofs.round.once_round.Goals as goal

pub answer_free-requires-clause-mine : goal.answer_free-requires-clause-mine
answer_free-requires-clause-mine g c = c.ask_free.ensures.keeps.trustee _ c.requires.trustee

pub answer_free-requires-clause-in_range : goal.answer_free-requires-clause-in_range
answer_free-requires-clause-in_range g c =
    let opening = g.P.PairTable.theory.opening in
    let good = g.met.P.PairTable.laws.client_is_good c.args.table.now c.args.client.now c.requires.client in
    subst (λ s. c.args.place < place_count s.setup) (sym c.ask_free.ensures.keeps.opening)
    (subst (λ n. n < place_count (opening c.args.table.now).setup) c.requires.place good.in_range)

pub collect-requires : goal.collect-requires
collect-requires g c = (g.met.S.FitsBatches.fits_found, c.answer_free.ensures.keeps.clients _ c.ask_free.ensures.keeps.mine)

pub returns-clause-finds : goal.returns-clause-finds
returns-clause-finds g c =
    let opening = g.P.PairTable.theory.opening in
    let old = g.P.PairTable.theory.client_view c.args.client.now in
    let mid = g.P.PairTable.theory.client_view c.ask_free.new.side in
    let new = g.P.PairTable.theory.client_view c.collect.new.side in
    let good = g.met.P.PairTable.laws.client_is_good in
    let same = c.collect.ensures.keeps.opening ∙ c.answer_free.ensures.keeps.opening ∙ c.ask_free.ensures.keeps.opening in
    finds_nothing g.S.Entrusted.kind (opening c.args.table.now) old mid new c.collect.result (good c.args.table.now c.args.client.now c.requires.client)
    (subst (λ s. IsGoodClient g.S.Entrusted.kind s new) same (good c.collect.new.self c.collect.new.side c.collect.ensures.keeps.mine)) c.requires.out
    c.ask_free.ensures.asks c.collect.ensures.collects

pub returns-clause-same : goal.returns-clause-same
returns-clause-same g c =
    let laws = g.met.P.PairTable.laws in
    laws.same_trans _ _ _ c.ask_free.ensures.keeps.same (laws.same_trans _ _ _ c.answer_free.ensures.keeps.same c.collect.ensures.keeps.same)

pub returns-clause-trustee : goal.returns-clause-trustee
returns-clause-trustee g c = c.collect.ensures.keeps.trustee _ c.answer_free.ensures.keeps.mine

pub returns-clause-clients : goal.returns-clause-clients
returns-clause-clients g c = λ other ne has.
    let asked = c.ask_free.ensures.keeps.clients other (λ e. ne (e ∙ c.requires.place)) has in
    c.collect.ensures.keeps.clients other (λ e. ne (e ∙ c.ask_free.ensures.asks.place ∙ c.requires.place)) (c.answer_free.ensures.keeps.clients other asked)
