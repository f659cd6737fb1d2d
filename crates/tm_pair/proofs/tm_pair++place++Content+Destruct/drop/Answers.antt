use Rattle.tm_pair.proofs.«tm_pair++place++Content+Destruct».drop.Goals as goal

pub drop-requires : goal.drop-requires
drop-requires g c = g.met.S.FitsBatches.fits_batch

pub drop-requires-2 : goal.drop-requires-2
drop-requires-2 g c = g.met.S.FitsAnswers.fits
