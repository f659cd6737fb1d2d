use Rattle.std.proofs.Common.{◌+◌, ◌-◌, ◌<◌, ◌≤◌, length, take, drop, arith}
use Rattle.std.proofs.lemmas.List.{length-take, length-drop}
use Rattle.mc_grammar.proofs.Piecewise.{into_none, into_more, still_unfinished, from_place, took}
use Rattle.mc_grammar.proofs.pieces.read_piece.Goals as goal
use Rattle.mc_grammar.proofs.pieces.read_piece.Goals.{In_ok-taken}

within : (c : In_ok-taken) → c.loop-at.at + c.in_ok-taken.taken ≤ length c.args.piece.now
within c = omega (arith, c.in_ok-taken.ensures.within, length-take (length c.args.piece.now - c.loop-at.at) (drop c.loop-at.at c.args.piece.now), length-drop c.loop-at.at c.args.piece.now)

some : (c : In_ok-taken) → 0 < c.in_ok-taken.taken
some c =
    let at = c.loop-at.at in
    let piece = c.args.piece.now in
    took (take (length piece - at) (drop at piece)) c.in_ok-taken.taken c.loop-at.reader (omega (arith, length-take (length piece - at) (drop at piece), length-drop at piece)) c.loop-at.invariant.unfinished c.in_ok-taken.ensures.takes

pub loop-at-init : goal.loop-at-init
loop-at-init c = record { within = omega arith; unfinished = c.requires; reads = into_none _ _ }

pub loop-at-smaller : goal.loop-at-smaller
loop-at-smaller c = let h = (goal.at.loop-at-smaller c).In_ok-taken in let k = some h in let m = within h in omega arith

pub loop-at-preserved : goal.loop-at-preserved
loop-at-preserved c =
    let h = (goal.at.loop-at-preserved c).In_ok-taken in
    rw (c.in_ok-keep.ensures, ← from_place c.loop-at.at c.in_ok-taken.taken c.args.piece.now) (record {
      within = within h;
      unfinished = still_unfinished _ _ _ c.next-next.ensures.comes;
      reads = into_more _ _ _ _ _ _ _ _ _ c.loop-at.invariant.reads c.in_ok-taken.ensures.reads c.next-next.ensures.comes c.next-next.ensures.reads;
    })
