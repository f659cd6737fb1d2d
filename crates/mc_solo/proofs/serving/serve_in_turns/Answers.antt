use Rattle.std.proofs.Common.{[], length, refl, sym, subst, ◌∙◌}
use Rattle.tm_trustee.proofs.Elements.{same_element}
use Rattle.mc_next.specs.declared.ended.Ended.TheVariants.{NoMemory}
use Rattle.mc_next.specs.Runs.{Setting, HasRun, IsInTurn}
use Rattle.mc_next.specs.Sessions.{seen}
use Rattle.mc_next.specs.Steps.{IsCaused}
use Rattle.mc_next.specs.Works.{named_by}
use Rattle.mc_solo.specs.Serving.{store_view}
use Rattle.mc_solo.proofs.Endings.{end_caused, nothing_ran, nothing_in_turn}
use Rattle.mc_solo.proofs.Marking.{both_others, on_none}
use Rattle.mc_solo.proofs.Standing.{none_where, driven_ran, driven_in_turn, driven_rests, others_serve}
use Rattle.mc_solo.proofs.serving.serve_in_turns.Goals as goal

pub returns-in_default-clause-run : goal.returns-in_default-clause-run
returns-in_default-clause-run g c = λ s client becomes limit of of_client of_becomes.
    let first = seen store_view client.books (g.A.Source.left c.args.source.now) (g.W.Clock.readings c.args.clock.now) (g.B.Sink.written c.args.sink.now) in
    subst (λ x. HasRun s NoMemory first (seen store_view x.books (g.A.Source.left c.args.source.now) (g.W.Clock.readings c.args.clock.now) (g.B.Sink.written c.args.sink.now)))
    (sym (same_element c.args.turns.now.clients.items c.args.place client becomes of_client of_becomes)) (nothing_ran s first)

pub returns-in_default-clause-in_turn : goal.returns-in_default-clause-in_turn
returns-in_default-clause-in_turn g c = λ s client becomes limit of of_client of_becomes.
    let left = g.A.Source.left c.args.source.now in
    let readings = g.W.Clock.readings c.args.clock.now in
    let told = g.B.Sink.written c.args.sink.now in
    let first = seen store_view client.books left readings told in
    let (run, in_turn) = subst (λ x. (run : HasRun s NoMemory first (seen store_view x.books left readings told)) × IsInTurn s [] NoMemory first (seen store_view x.books left readings told) run)
    (sym (same_element c.args.turns.now.clients.items c.args.place client becomes of_client of_becomes)) (nothing_in_turn s first) in
    ([], [], run, in_turn, tt, on_none c.args.place c.args.turns.now)

pub loop-ended-init : goal.loop-ended-init
loop-ended-init g c =
    let fresh = c.in-Ok.ensures in record {
      stands = λ s client limit of of_client. c.begin.ensures s client _ _ _ (limit ∙ sym fresh.limit_is) of of_client;
      going = fresh.over;
      keeps = λ config first of. of;
      others = record { as_many = refl; others = λ k other. refl };
      cause = subst (λ o. IsCaused o (g.A.Source.faults c.args.source.now) (g.A.Source.faults c.args.source.now) (g.B.Sink.faults c.args.sink.now) (g.B.Sink.faults c.args.sink.now))
          (sym fresh.stopped) (refl, refl);
    }

pub step_on-requires-clause-stands : goal.step_on-requires-clause-stands
step_on-requires-clause-stands g c =
    let may = c.requires.may in
    let turns = c.args.turns.now in (
      record { named = named_by c.args.trusts.now; trustees = length turns.tables.items; limit = c.args.limit },
      _,
      _,
      c.loop-ended.invariant.stands (record { named = named_by c.args.trusts.now; trustees = length turns.tables.items; limit = c.args.limit }) may.client refl
          (record { names = refl; trustees_are = refl }) may.of_client,
    )

pub returns-in-Some-clause-run : goal.returns-in-Some-clause-run
returns-in-Some-clause-run g c = λ s client becomes limit of of_client of_becomes.
    driven_ran s _ _ c.args.place c.args.trusts.now c.step_on.new.session c.step_on.new.turns _ _ _ (c.step_on.ensures.stands s _ _ (c.loop-ended.invariant.stands s client limit of of_client))
    c.in-Some.ended (c.step_on.ensures.over ∙ c.in-Some.is) becomes of_becomes

pub returns-in-Some-clause-in_turn : goal.returns-in-Some-clause-in_turn
returns-in-Some-clause-in_turn g c = λ s client becomes limit of of_client of_becomes.
    let d = c.step_on.ensures.stands s _ _ (c.loop-ended.invariant.stands s client limit of of_client) in
    let (run, in_turn) = driven_in_turn s _ _ c.args.place c.args.trusts.now c.step_on.new.session c.step_on.new.turns _ _ _ d
    c.in-Some.ended (c.step_on.ensures.over ∙ c.in-Some.is) becomes of_becomes in
    (d.marks, d.marked.states, run, in_turn, d.marked.marked, d.marked.since)

pub returns-in-Some-clause-again : goal.returns-in-Some-clause-again
returns-in-Some-clause-again g c =
    let may = c.requires.may in
    let turns = c.args.turns.now in
    let s : Setting = record { named = named_by c.args.trusts.now; trustees = length turns.tables.items; limit = c.args.limit } in
    driven_rests s _ _ c.args.place c.args.trusts.now c.step_on.new.session c.step_on.new.turns _ _ _
    (c.step_on.ensures.stands s _ _ (c.loop-ended.invariant.stands s may.client refl (record { names = refl; trustees_are = refl }) may.of_client))
    c.in-Some.ended (c.step_on.ensures.over ∙ c.in-Some.is)

pub returns-in-Some-clause-others_may : goal.returns-in-Some-clause-others_may
returns-in-Some-clause-others_may g c =
    let i = c.loop-ended.invariant in
    others_serve c.args.place c.args.turns.now c.step_on.new.turns c.requires.are (λ config first of. c.step_on.ensures.keeps config first (i.keeps config first of))
    (both_others c.args.place c.args.turns.now c.loop-ended.turns c.step_on.new.turns i.others c.step_on.ensures.others)

pub returns-in-Some-clause-read_cause : goal.returns-in-Some-clause-read_cause
returns-in-Some-clause-read_cause g c =
    (end_caused _ _ _ _ c.in-Some.ended c.step_on.new.session (c.step_on.ensures.stopped c.in-Some.ended c.in-Some.is) (c.step_on.ensures.cause _ _ c.loop-ended.invariant.cause)).read

pub returns-in-Some-clause-write_cause : goal.returns-in-Some-clause-write_cause
returns-in-Some-clause-write_cause g c =
    (end_caused _ _ _ _ c.in-Some.ended c.step_on.new.session (c.step_on.ensures.stopped c.in-Some.ended c.in-Some.is) (c.step_on.ensures.cause _ _ c.loop-ended.invariant.cause)).write

pub returns-in-Some-clause-no_read_fault : goal.returns-in-Some-clause-no_read_fault
returns-in-Some-clause-no_read_fault g c =
    (end_caused _ _ _ _ c.in-Some.ended c.step_on.new.session (c.step_on.ensures.stopped c.in-Some.ended c.in-Some.is) (c.step_on.ensures.cause _ _ c.loop-ended.invariant.cause)).no_read

pub returns-in-Some-clause-no_write_fault : goal.returns-in-Some-clause-no_write_fault
returns-in-Some-clause-no_write_fault g c =
    (end_caused _ _ _ _ c.in-Some.ended c.step_on.new.session (c.step_on.ensures.stopped c.in-Some.ended c.in-Some.is) (c.step_on.ensures.cause _ _ c.loop-ended.invariant.cause)).no_write

pub loop-ended-preserved : goal.loop-ended-preserved
loop-ended-preserved g c =
    let i = c.loop-ended.invariant in record {
      stands = λ s client limit of of_client. c.step_on.ensures.stands s _ _ (i.stands s client limit of of_client);
      going = c.step_on.ensures.over ∙ none_where c.step_on.result c.in_default-step_on.not-Some;
      keeps = λ config first of. c.step_on.ensures.keeps config first (i.keeps config first of);
      others = both_others c.args.place c.args.turns.now c.loop-ended.turns c.step_on.new.turns i.others c.step_on.ensures.others;
      cause = c.step_on.ensures.cause _ _ i.cause;
    }
