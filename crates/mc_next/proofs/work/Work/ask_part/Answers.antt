use Rattle.std.proofs.Common.{◌∷◌, length, refl, sym, ap, ◌∙◌}
use Rattle.std.proofs.lemmas.Bool.{false≢true}
use Rattle.tm_batch.specs.declared.message.Request.TheVariants.{Apply}
use Rattle.tm_asking.specs.Asking.{operation}
use Rattle.mc_model.specs.declared.reply.ShardReply.TheVariants.{Missing}
use Rattle.mc_next.specs.declared.piece.Piece.TheVariants as piece
use Rattle.mc_next.specs.Works.{left_of}
use Rattle.mc_next.proofs.Asked.{trust_at, class_there, part_is, part_below, part_full, asked_piece}
use Rattle.mc_next.proofs.Clients.{may_ask}
use Rattle.mc_next.proofs.work.Work.ask_part.Goals as goal

pub ask-requires-clause-may : goal.ask-requires-clause-may
ask-requires-clause-may g c =
    let m = c.requires.may in
    let books = c.args.client.now.books in
    let at = class_there (length books.lanes.items) books c.args.trusts.now m.are_trusts c.args.part.class c.requires.class in
    may_ask g.P.PairTable.theory.client_view (length books.lanes.items) c.args.part.class _ c.args.trusts.now m.was m.asked c.args.self.now.asking.replies.items books m.are_trusts at
    (part_below (length books.lanes.items) books c.args.trusts.now m.are_trusts _ c.args.part.class c.requires.class at) m.asks

pub returns-in-Ok : goal.returns-in-Ok
returns-in-Ok g c =
    let m = c.requires.may in
    let books = c.args.client.now.books in
    let trust = trust_at c.args.trusts.now c.args.part.class in
    let at = class_there (length books.lanes.items) books c.args.trusts.now m.are_trusts c.args.part.class c.requires.class in record {
      asked = λ _. (
        asked_piece g.P.PairTable.theory.client_view c.args.trusts.now (piece.Part c.args.part) (operation trust c.args.part.op) trust.trustee (Apply trust.name c.args.part.op)
            c.args.self.now _ books c.ask.new.client.books (part_is (length books.lanes.items) books c.args.trusts.now m.are_trusts trust c.args.part.class c.args.part.op c.requires.class at)
            refl c.in-Ok.ensures.asked c.ask.ensures.replies (c.in-Ok.ensures.asks Missing) c.in-Ok.ensures.does c.ask.ensures.client,
        refl,
      );
      back = λ e. absurd (false≢true (sym e));
    }

pub returns-in-Err : goal.returns-in-Err
returns-in-Err g c =
    let m = c.requires.may in
    let books = c.args.client.now.books in
    let trust = trust_at c.args.trusts.now c.args.part.class in
    let at = class_there (length books.lanes.items) books c.args.trusts.now m.are_trusts c.args.part.class c.requires.class in
    let stays = c.in-Err.ensures.stays in record {
      asked = λ e. absurd (false≢true e);
      back = λ _. (
        c.put_back.ensures ∙ ap (λ op. piece.Part (record { class = c.args.part.class; op = op }) ∷ left_of c.args.self.now.todo) c.in-Err.ensures.back,
        stays.0,
        refl,
        ap (λ client. client.books) stays.1,
        part_full (length books.lanes.items) books c.args.trusts.now m.are_trusts trust c.args.part.class c.args.part.op c.requires.class at c.in-Err.ensures.full,
      );
    }
