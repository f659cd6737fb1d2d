use Rattle.std.proofs.Common.{◌≡◌, ◌+◌, suc, ◌++◌, refl, sym, ◌∙◌, ap, subst, arith}
use Rattle.std.specs.Prelude.{◌||◌}
use Rattle.tm_task.specs.Going.{HaveMadeTurns}
use Rattle.tm_task.specs.Progressing.{busy_at, busy_below}
use Rattle.tm_task.proofs.Busy.{same_busy_at}
use Rattle.tm_task.proofs.MadeTurns.{turns_none, turns_then}
use Rattle.tm_task.proofs.tasks.Tasks.turn_all.Goals as goal

pub loop-trustee-init : goal.loop-trustee-init
loop-trustee-init g c = (
  turns_none g.P.PairTable.theory g.S.Entrusted.kind g.T.Task.rules (busy_below c.args.client.now.books 0) c.args.self.now c.args.client.now.books
      c.args.tables.now refl,
  λ openings are is. (are, is),
)

pub turn_at-more-requires-clause-client : goal.turn_at-more-requires-clause-client
turn_at-more-requires-clause-client g c =
    let (openings, are, is) = c.requires.client in
    let (tables, client) = c.loop-trustee.invariant.1 openings are is in (openings, tables, client)

pub loop-trustee-preserved : goal.loop-trustee-preserved
loop-trustee-preserved g c =
    let was = c.args.client.now.books in
    let between = c.loop-trustee.client.books in
    let t = c.loop-trustee.trustee in
    let more =
    turns_then g.P.PairTable.theory g.S.Entrusted.kind g.T.Task.rules (busy_below was t) (busy_at between t) c.loop-trustee.went c.turn_at-more.result
    c.args.self.now c.loop-trustee.self c.turn_at-more.new.self was between c.turn_at-more.new.client.books c.args.tables.now c.loop-trustee.tables
    c.turn_at-more.new.tables c.loop-trustee.invariant.0 c.turn_at-more.ensures.turns in
    let here : busy_at between t ≡ busy_at was t = same_busy_at was between c.loop-trustee.invariant.0.counting t in
    let one : t + 1 ≡ suc t = omega arith in
    let busy : busy_below was t ++ busy_at between t ≡ busy_below was (t + 1) =
    ap (λ x. busy_below was t ++ x) here ∙ sym (ap (busy_below was) one) in (
      subst
          (λ b. HaveMadeTurns g.P.PairTable.theory g.S.Entrusted.kind g.T.Task.rules (busy_below was (t + 1)) b c.args.self.now c.turn_at-more.new.self was
          c.turn_at-more.new.client.books c.args.tables.now c.turn_at-more.new.tables)
          (sym c.is_either-went.ensures)
          (subst
          (λ x. HaveMadeTurns g.P.PairTable.theory g.S.Entrusted.kind g.T.Task.rules x (c.loop-trustee.went || c.turn_at-more.result) c.args.self.now
          c.turn_at-more.new.self was c.turn_at-more.new.client.books c.args.tables.now c.turn_at-more.new.tables)
          busy more),
      λ openings are is. let (tables, client) = c.loop-trustee.invariant.1 openings are is in c.turn_at-more.ensures.client openings tables client,
    )
