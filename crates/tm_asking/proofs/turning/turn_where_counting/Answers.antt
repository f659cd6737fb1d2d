use Rattle.std.proofs.Common.{refl, ◌∙◌}
use Rattle.tm_asking.proofs.Home.{below_none, below_more}
use Rattle.tm_asking.proofs.turning.turn_where_counting.Goals as goal

pub loop-trustee-init : goal.loop-trustee-init
loop-trustee-init g c = record {
  turned = below_none g.P.PairTable.theory g.S.Entrusted.kind c.args.tables.now c.args.client.now.books;
  home = λ openings h. h;
  asks = λ missing was asked replies h. h;
  held = refl;
}

pub turn_at-here-requires-clause-home : goal.turn_at-here-requires-clause-home
turn_at-here-requires-clause-home g c = let (openings, home) = c.requires.home in (openings, c.loop-trustee.invariant.home openings home)

pub loop-trustee-preserved : goal.loop-trustee-preserved
loop-trustee-preserved g c = record {
  turned = below_more g.P.PairTable.theory g.S.Entrusted.kind c.loop-trustee.trustee c.loop-trustee.told c.turn_at-here.result _ c.args.tables.now c.loop-trustee.tables
      c.turn_at-here.new.tables c.args.client.now.books c.loop-trustee.client.books c.turn_at-here.new.client.books c.loop-trustee.invariant.turned c.turn_at-here.ensures.turned
      c.with-told.ensures;
  home = λ openings h. c.turn_at-here.ensures.home openings (c.loop-trustee.invariant.home openings h);
  asks = λ missing was asked replies h. c.turn_at-here.ensures.asks missing was asked replies (c.loop-trustee.invariant.asks missing was asked replies h);
  held = c.turn_at-here.ensures.held ∙ c.loop-trustee.invariant.held;
}
