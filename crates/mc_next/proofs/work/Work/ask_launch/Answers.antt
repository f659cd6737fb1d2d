use Rattle.std.proofs.Common.{◌∷◌, length, refl, sym, ap, ◌∙◌}
use Rattle.std.proofs.lemmas.Bool.{false≢true}
use Rattle.tm_seq.specs.declared.sum.Sum.TheVariants as sum
use Rattle.tm_batch.specs.declared.message.Request.TheVariants.{Launch}
use Rattle.tm_asking.specs.Asking.{launched}
use Rattle.mc_item.specs.declared.limits.TheConstants.{CLASSES}
use Rattle.mc_model.specs.declared.reply.ShardReply.TheVariants.{Missing}
use Rattle.mc_next.specs.declared.piece.Piece.TheVariants as piece
use Rattle.mc_next.specs.Works.{left_of}
use Rattle.mc_next.proofs.Asked.{trust_at, second_is, desk_there, launch_is, launch_below, launch_full, asked_piece}
use Rattle.mc_next.proofs.Clients.{may_ask}
use Rattle.mc_next.proofs.work.Work.ask_launch.Goals as goal

pub launch-requires-clause-may : goal.launch-requires-clause-may
launch-requires-clause-may g c =
    let m = c.requires.may in
    let books = c.args.client.now.books in
    let at = desk_there (length books.lanes.items) books c.args.trusts.now m.are_trusts in
    may_ask g.P.PairTable.theory.client_view (length books.lanes.items) CLASSES _ c.args.trusts.now m.was m.asked c.args.self.now.asking.replies.items books m.are_trusts at
    (launch_below (length books.lanes.items) books c.args.trusts.now m.are_trusts _ at) m.asks

pub returns-in-Ok : goal.returns-in-Ok
returns-in-Ok g c =
    let m = c.requires.may in
    let books = c.args.client.now.books in
    let trust = trust_at c.args.trusts.now CLASSES in
    let at = desk_there (length books.lanes.items) books c.args.trusts.now m.are_trusts in record {
      asked = λ _. (
        asked_piece g.P.PairTable.theory.client_view c.args.trusts.now (piece.Launch c.args.task) (launched trust (sum.Second c.args.task)) trust.trustee (Launch trust.name (sum.Second c.args.task))
            c.args.self.now _ books c.launch.new.client.books (launch_is (length books.lanes.items) books c.args.trusts.now m.are_trusts trust c.args.task at)
            refl c.in-Ok.ensures.asked c.launch.ensures.replies (c.in-Ok.ensures.asks Missing) c.in-Ok.ensures.does c.launch.ensures.client,
        refl,
      );
      back = λ e. absurd (false≢true (sym e));
    }

pub returns-in-Err : goal.returns-in-Err
returns-in-Err g c =
    let m = c.requires.may in
    let books = c.args.client.now.books in
    let trust = trust_at c.args.trusts.now CLASSES in
    let at = desk_there (length books.lanes.items) books c.args.trusts.now m.are_trusts in
    let stays = c.in-Err.ensures.stays in record {
      asked = λ e. absurd (false≢true e);
      back = λ _. (
        c.put_back.ensures ∙ ap (λ task. piece.Launch task ∷ left_of c.args.self.now.todo) (second_is (sym c.of_desk.ensures ∙ c.in-Err.ensures.back)),
        stays.0,
        refl,
        ap (λ client. client.books) stays.1,
        launch_full (length books.lanes.items) books c.args.trusts.now m.are_trusts trust c.args.task at c.in-Err.ensures.full,
      );
    }
