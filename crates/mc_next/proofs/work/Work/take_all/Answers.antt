use Rattle.std.proofs.Common.{◌≡◌, ◌≢◌, Bool, true, false, [], length, refl, sym, ap, arith}
use Rattle.std.proofs.lemmas.Bool.{false≢true}
use Rattle.mc_next.proofs.Clients.{keeps_taken, waits_taken}
use Rattle.mc_next.proofs.Working.{taken_none, taken_then}
use Rattle.mc_next.proofs.work.Work.take_all.Goals as goal

either : (b : Bool) (P : Type 0) → (b ≡ true → P) → (b ≡ false → P) → P
either true P f g = f refl
either false P f g = g refl

pub replies-init : goal.replies-init
replies-init g c = record {
  has = taken_none g.P.PairTable.theory.client_view c.args.self.now c.args.client.now.books;
  none = λ e. (refl, refl);
  some = λ e. absurd (false≢true e);
}

pub take-requires-clause-client : goal.take-requires-clause-client
take-requires-clause-client g c = let (openings, is) = c.requires.client in (openings, c.replies.invariant.has.client openings is)

pub take-requires-clause-asking : goal.take-requires-clause-asking
take-requires-clause-asking g c = let (was, asked, is) = c.requires.asking in (was, asked, c.replies.invariant.has.asks was asked is)

pub replies-preserved : goal.replies-preserved
replies-preserved g c =
    let view = g.P.PairTable.theory.client_view in
    let old = c.replies.client.books in
    let new = c.take.new.client.books in
    let n = c.in-Some.ensures.took in record {
      has = taken_then view c.args.self.now c.replies.self _ c.args.client.now.books old new c.replies.invariant.has (record {
        frame = refl;
        todo = refl;
        many = c.take.ensures.asked;
        replies = c.take.ensures.count;
        asks = c.take.ensures.asks;
        keeps = keeps_taken n.number n.got old new n.took c.take.ensures.held;
        waits = waits_taken n.number n.got old new n.took;
        client = c.take.ensures.client;
      });
      none = λ e. absurd (false≢true (sym e));
      some = λ _.
          either c.replies.took (c.args.client.now.books.arrived.items ≢ []) c.replies.invariant.some
          (λ none empty. let first = n.took.first in let was = ap (λ client. client.books.arrived.items) (c.replies.invariant.none none).0 in absurd cc);
    }

pub replies-smaller : goal.replies-smaller
replies-smaller g c =
    let first = ap length c.in-Some.ensures.took.took.first in omega (arith, first)
