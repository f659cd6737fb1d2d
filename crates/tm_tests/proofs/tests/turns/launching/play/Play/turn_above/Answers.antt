use Rattle.std.proofs.Common.{◌+◌, sym, ◌∙◌, subst}
use Rattle.std.proofs.lemmas.List.{with_items_is}
use Rattle.tm_seq.specs.Counting.{counter_kind}
use Rattle.tm_trustee.specs.Tables.{IsReady, KeepsTables}
use Rattle.tm_tests.specs.Launching.{IsPlayed}
use Rattle.tm_tests.proofs.LaunchingKept.{greatest_turned}
use Rattle.tm_tests.proofs.tests.turns.launching.play.Play.turn_above.Goals as goal

pub serve_turn-requires : goal.serve_turn-requires
serve_turn-requires g c = record {
  ready = subst (λ ts. IsReady g.P.PairTable.theory counter_kind ts c.args.self.now.greatest) (sym c.as_mut_slice.ensures.value) c.requires.greatest.ready;
}

pub returns : goal.returns
returns g c =
    let theory = g.P.PairTable.theory in
    let play = c.args.self.now in
    let new = c.serve_turn.new.tables in
    let t = c.serve_turn.new.self in
    let keeps =
    subst (λ ts. KeepsTables theory ts new play.greatest.number (play.greatest.clients + play.greatest.number)) c.as_mut_slice.ensures.value c.serve_turn.ensures.tables in
    subst (λ ts. IsPlayed theory ts play.middle t play.client play.asked)
    (sym (with_items_is play.tables new (c.serve_turn.auto.tables ∙ c.as_mut_slice.ensures.len)))
    (greatest_turned theory play.tables.items play.middle play.greatest play.client play.asked c.requires new t c.serve_turn.ensures.ready c.serve_turn.ensures.parts keeps)
