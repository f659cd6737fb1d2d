use Rattle.std.proofs.Common.{ℕ, List, Bor, subst}
use Rattle.std.specs.List.{flat_map}
use Rattle.std.proofs.lemmas.List.{take_all}
use Rattle.mc_grammar.specs.Reading.{IsRead}
use Rattle.mc_grammar.proofs.Piecewise.{start_unfinished, into_at, pieces_more, reading_of}
use Rattle.mc_grammar.proofs.pieces.read_pieces.Goals as goal

pub loop-piece-init : goal.loop-piece-init
loop-piece-init c = record { unfinished = rw c.new-reader.ensures.start start_unfinished; read = rw c.new-messages.ensures.items c.new-reader.ensures.reads }

pub loop-piece-preserved : goal.loop-piece-preserved
loop-piece-preserved c =
    let joined = into_at _ _ _ _ _ _ c.in_ok-read_piece.ensures.reads c.loop-piece.invariant.read in
    record {
      unfinished = c.in_ok-read_piece.ensures.unfinished;
      read = subst (λ (b : List ℕ). IsRead b c.read_piece.new.messages.items c.read_piece.new.reader) (pieces_more c.args.pieces.now c.loop-piece.piece-index _ c.loop-piece-test.true) joined;
    }

pub returns : goal.returns
returns c =
    let read = subst (λ (pieces : List (Bor (List ℕ))). IsRead (flat_map (λ p. p.now) pieces) c.loop-piece.messages.items c.loop-piece.reader) (take_all c.loop-piece.piece-index c.args.pieces.now c.loop-piece-test.false) c.loop-piece.invariant.read in
    reading_of _ c.loop-piece.messages.items c.loop-piece.reader _ read c.loop-piece.invariant.unfinished c.is_between-is_whole.ensures.held
