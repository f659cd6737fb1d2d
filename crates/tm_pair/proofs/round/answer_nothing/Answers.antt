use Rattle.std.proofs.Common.{◌≡◌, ◌+◌, ◌-◌, ◌^◌, ◌<◌, true, false, min, length, sym, ap, ◌∙◌, subst}
use Rattle.tm_model.specs.State.{place_count}
use Rattle.tm_model.specs.Serve.{state_after}
use Rattle.tm_pair.specs.Rounds.{NothingWaits}
use Rattle.tm_pair.proofs.Handing.{hand_in_range}
use Rattle.tm_pair.proofs.Keeping.{clients_kept_on}
use Rattle.tm_pair.proofs.Nothing as nothing
use Rattle.tm_pair.proofs.round.answer_nothing.Goals as goal

pub answer_empty-requires : goal.answer_empty-requires
answer_empty-requires g c =
    let kind = g.S.Entrusted.kind in
    let opening = g.P.PairTable.theory.opening c.args.table.now in
    let old = g.P.PairTable.theory.trustee_view c.args.side.now in
    let new = g.P.PairTable.theory.trustee_view c.see-seen.new.side in
    let good = g.met.P.PairTable.laws.trustee_is_good c.args.table.now c.args.side.now c.requires.mine in
    let is = c.see-seen.ensures.keeps.opening in
    let log = nothing.seeing_keeps_log kind opening c.args.client c.see-seen.result old new c.see-seen.ensures.sees in
    record {
      mine = c.see-seen.ensures.keeps.mine;
      in_range = subst (λ s. c.args.client < place_count s.setup) (sym is) c.requires.in_range;
      hand =
          nothing.nothing_taken kind opening c.args.client c.see-seen.result old new good c.requires.in_range c.see-seen.ensures.sees
          (c.is_nothing.ensures.0 c.if-is_nothing.true);
      waits =
          subst (λ s. NothingWaits (state_after kind s new.log) c.args.client) (sym is)
          (subst (λ l. NothingWaits (state_after kind opening l) c.args.client) (sym log) c.requires.waits);
      front = c.requires.front ∙ ap (λ l. min (length l + 1) (2 ^ 64 - 1)) (sym log);
    }

pub returns-then-is_nothing-clause-answers : goal.returns-then-is_nothing-clause-answers
returns-then-is_nothing-clause-answers g c =
    let kind = g.S.Entrusted.kind in
    let opening = g.P.PairTable.theory.opening c.args.table.now in
    let old = g.P.PairTable.theory.trustee_view c.args.side.now in
    let mid = g.P.PairTable.theory.trustee_view c.see-seen.new.side in
    let new = g.P.PairTable.theory.trustee_view c.answer_empty.new.side in
    let good = g.met.P.PairTable.laws.trustee_is_good c.args.table.now c.args.side.now c.requires.mine in
    let there = hand_in_range kind opening c.args.client old good c.requires.in_range in
    nothing.empty_answered kind opening c.args.client c.see-seen.result old new
    (nothing.found_answered kind opening c.args.client c.see-seen.result old mid new there c.see-seen.ensures.sees
    (c.is_nothing.ensures.0 c.if-is_nothing.true) c.answer_empty.ensures.looks c.answer_empty.ensures.answers)

pub returns-then-is_nothing-clause-keeps : goal.returns-then-is_nothing-clause-keeps
returns-then-is_nothing-clause-keeps g c =
    clients_kept_on g.P.PairTable.theory g.S.Entrusted.kind g.met.P.PairTable.laws c.args.table.now c.see-seen.new.self c.answer_empty.new.table
    c.see-seen.new.side c.answer_empty.new.side c.see-seen.ensures.keeps c.answer_empty.ensures.keeps

pub returns-else-is_nothing-clause-answers : goal.returns-else-is_nothing-clause-answers
returns-else-is_nothing-clause-answers g c = λ some. let e : false ≡ true = sym c.if-is_nothing.false ∙ c.is_nothing.ensures.1 some in absurd cc

pub returns-then-is_nothing-clause-found : goal.returns-then-is_nothing-clause-found
returns-then-is_nothing-clause-found g c =
    let kind = g.S.Entrusted.kind in
    let opening = g.P.PairTable.theory.opening c.args.table.now in
    let old = g.P.PairTable.theory.trustee_view c.args.side.now in
    let mid = g.P.PairTable.theory.trustee_view c.see-seen.new.side in
    let new = g.P.PairTable.theory.trustee_view c.answer_empty.new.side in
    let good = g.met.P.PairTable.laws.trustee_is_good c.args.table.now c.args.side.now c.requires.mine in
    let there = hand_in_range kind opening c.args.client old good c.requires.in_range in
    nothing.found_answered kind opening c.args.client c.see-seen.result old mid new there c.see-seen.ensures.sees
    (c.is_nothing.ensures.0 c.if-is_nothing.true) c.answer_empty.ensures.looks c.answer_empty.ensures.answers

pub returns-else-is_nothing-clause-found : goal.returns-else-is_nothing-clause-found
returns-else-is_nothing-clause-found g c =
    let kind = g.S.Entrusted.kind in
    let opening = g.P.PairTable.theory.opening c.args.table.now in
    let old = g.P.PairTable.theory.trustee_view c.args.side.now in
    let new = g.P.PairTable.theory.trustee_view c.see-seen.new.side in
    let good = g.met.P.PairTable.laws.trustee_is_good c.args.table.now c.args.side.now c.requires.mine in
    let there = hand_in_range kind opening c.args.client old good c.requires.in_range in
    nothing.found_kept kind opening c.args.client c.see-seen.result old new there c.see-seen.ensures.sees
    (λ some. let e : false ≡ true = sym c.if-is_nothing.false ∙ c.is_nothing.ensures.1 some in absurd cc)
