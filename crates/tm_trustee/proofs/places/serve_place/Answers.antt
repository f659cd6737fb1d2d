use Rattle.std.proofs.Common.{◌<◌, ◌++◌, refl, sym, subst, inl, inr}
use Rattle.tm_model.specs.State.{place_count}
use Rattle.tm_pair.proofs.Keeping.{clients_kept_on}
use Rattle.tm_trustee.specs.Places.{HasReplied}
use Rattle.tm_trustee.specs.Serving.{GoesOn}
use Rattle.tm_trustee.proofs.Serving as serving
use Rattle.tm_trustee.proofs.Resuming as resuming
use Rattle.tm_trustee.proofs.places.serve_place.Goals as goal

pub see-requires : goal.see-requires
see-requires g c = (g.met.S.FitsBatches.fits_batch, (c.requires.mine, (c.requires.place, c.requires.free)))

pub answer_batch-requires : goal.answer_batch-requires
answer_batch-requires g c =
    let kind = g.S.Entrusted.kind in
    let theory = g.P.PairTable.theory in
    let opening = theory.opening c.args.table.now in
    let old = theory.trustee_view c.args.side.now in
    let mid = theory.trustee_view c.see.new.side in
    let good = g.met.P.PairTable.laws.trustee_is_good c.args.table.now c.args.side.now c.requires.mine in
    let keeps = c.in-Some.ensures.keeps in (
      g.met.S.FitsBatches.fits_batch,
      (
        keeps.mine,
        (
          resuming.current_as kind opening (theory.opening c.see.new.self) old.log mid.log c.args.since.now.items c.args.state.now keeps.opening
              c.in-Some.ensures.sees.log c.requires.current,
          (
            subst (λ s. c.args.place < place_count s.setup) (sym keeps.opening) c.requires.place,
            serving.taken_in_hand kind opening old mid c.args.place c.in-Some.batch good c.requires.place c.in-Some.ensures.sees,
          ),
        ),
      ),
    )

pub returns-in-Some-clause-serves : goal.returns-in-Some-clause-serves
returns-in-Some-clause-serves g c =
    let theory = g.P.PairTable.theory in
    inr (record {
      batch = c.in-Some.batch;
      between = c.see.new.self;
      mid = c.see.new.side;
      takes = c.in-Some.ensures.sees;
      saw = c.in-Some.ensures.did;
      keeps = c.in-Some.ensures.keeps;
      replied =
          subst (λ s. HasReplied theory g.S.Entrusted.kind s c.args.place c.see.new.self c.answer_batch.new.table c.see.new.side c.answer_batch.new.side)
          c.in-Some.ensures.keeps.opening c.answer_batch.ensures.replied;
    })

pub returns-in-Some-clause-found : goal.returns-in-Some-clause-found
returns-in-Some-clause-found g c =
    let theory = g.P.PairTable.theory in
    let good = g.met.P.PairTable.laws.trustee_is_good c.args.table.now c.args.side.now c.requires.mine in
    serving.found_told g.S.Entrusted.kind (theory.opening c.args.table.now) c.args.place _ (theory.trustee_view c.args.side.now) (theory.trustee_view c.see.new.side)
    (theory.trustee_view c.answer_batch.new.side) good c.requires.place c.in-Some.ensures.sees.looks c.answer_batch.ensures.replied.answered.looks

pub returns-in-Some-clause-current : goal.returns-in-Some-clause-current
returns-in-Some-clause-current g c =
    let theory = g.P.PairTable.theory in
    resuming.current_as g.S.Entrusted.kind (theory.opening c.see.new.self) (theory.opening c.args.table.now) _ _ c.answer_batch.new.since.items
    c.answer_batch.new.state (sym c.in-Some.ensures.keeps.opening) refl c.answer_batch.ensures.current

pub returns-in-Some-clause-goes_on : goal.returns-in-Some-clause-goes_on
returns-in-Some-clause-goes_on g c =
    let theory = g.P.PairTable.theory in
    let after = (theory.trustee_view c.answer_batch.new.side).log ++ c.answer_batch.new.since.items in
    subst (λ l. GoesOn (l ++ c.args.since.now.items) after) c.in-Some.ensures.sees.log c.answer_batch.ensures.goes_on

pub returns-in-Some-clause-keeps : goal.returns-in-Some-clause-keeps
returns-in-Some-clause-keeps g c =
    clients_kept_on g.P.PairTable.theory g.S.Entrusted.kind g.met.P.PairTable.laws c.args.table.now c.see.new.self c.answer_batch.new.table c.see.new.side
    c.answer_batch.new.side c.in-Some.ensures.keeps c.answer_batch.ensures.keeps

pub returns-in-None-clause-serves : goal.returns-in-None-clause-serves
returns-in-None-clause-serves g c =
    inl (record { sees = c.in-None.ensures.sees; saw = c.in-None.ensures.did; keeps = c.in-None.ensures.keeps })

pub returns-in-None-clause-found : goal.returns-in-None-clause-found
returns-in-None-clause-found g c =
    let theory = g.P.PairTable.theory in
    let good = g.met.P.PairTable.laws.trustee_is_good c.args.table.now c.args.side.now c.requires.mine in
    serving.found_told g.S.Entrusted.kind (theory.opening c.args.table.now) c.args.place _ (theory.trustee_view c.args.side.now) (theory.trustee_view c.see.new.side)
    (theory.trustee_view c.see.new.side) good c.requires.place c.in-None.ensures.sees.looks refl

pub returns-in-None-clause-current : goal.returns-in-None-clause-current
returns-in-None-clause-current g c =
    resuming.current_as g.S.Entrusted.kind _ _ _ _ c.args.since.now.items c.args.state.now refl c.in-None.ensures.sees.log c.requires.current

pub returns-in-None-clause-goes_on : goal.returns-in-None-clause-goes_on
returns-in-None-clause-goes_on g c = resuming.goes_as _ _ _ _ c.in-None.ensures.sees.log (resuming.goes_nowhere _)

pub returns-in-None-clause-keeps : goal.returns-in-None-clause-keeps
returns-in-None-clause-keeps g c = c.in-None.ensures.keeps
