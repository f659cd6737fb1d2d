use Rattle.std.proofs.Common.{◌≡◌, ◌+◌, ◌++◌, length, drop, take, sym, ◌∙◌, ap, subst, arith}
use Rattle.std.proofs.Math.Seq.{take-append_seam}
use Rattle.tm_trustee.specs.Tables.{IsReady, KeepsTables}
use Rattle.tm_client_tests.specs.Playing.{IsPlaying}
use Rattle.tm_client_tests.proofs.Played.{served}
use Rattle.tm_client_tests.proofs.tests.play.Play.serve.Goals as goal

pub serve_turn-requires : goal.serve_turn-requires
serve_turn-requires g c =
    let play = c.args.self.now in
    record { ready = subst (λ tables. IsReady g.P.PairTable.theory g.S.Entrusted.kind tables play.trustee) (sym c.deref_mut.ensures.value) c.requires.ready }

pub returns : goal.returns
returns g c =
    let theory = g.P.PairTable.theory in
    let kind = g.S.Entrusted.kind in
    let play = c.args.self.now in
    let now = c.serve_turn.new.tables in
    let rest = drop (length now) play.tables.items in
    let many : play.tables.len ≡ length now = omega arith in
    let all : take play.tables.len (now ++ rest) ≡ now = ap (λ n. take n (now ++ rest)) many ∙ take-append_seam now rest in
    subst (λ tables. IsPlaying theory kind tables c.serve_turn.new.self play.clients.items) (sym all)
    (served theory kind play.tables.items play.trustee play.clients.items c.requires now c.serve_turn.new.self (play.trustee.clients + play.trustee.number)
    c.serve_turn.ensures.ready
    (subst (λ tables. KeepsTables theory tables now play.trustee.number (play.trustee.clients + play.trustee.number)) c.deref_mut.ensures.value c.serve_turn.ensures.tables)
    c.serve_turn.ensures.parts)
