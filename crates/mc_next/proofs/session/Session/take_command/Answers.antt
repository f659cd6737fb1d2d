use Rattle.std.proofs.Common.{Bool, ap, subst, ◌∙◌}
use Rattle.mc_model.specs.Moments.{latest}
use Rattle.mc_next.specs.declared.session.Session.{Session}
use Rattle.mc_next.specs.Deeds.{HasBegun}
use Rattle.mc_next.proofs.session.Session.take_command.Goals as goal

pub returns : goal.returns
returns g c =
    let view = g.P.PairTable.theory.client_view in
    let old = c.args.self.now in
    let (reading, read, same) = c.tick.ensures in
    let quits : Session → Session = λ session. record session { quit = c.is_quit-self.result } in
    let moved : Bool → Session = λ quit. record old { moment = latest old.moment reading; quit = quit } in
    (reading, read, subst (λ session. HasBegun view c.args.command c.args.trustees session c.begin.new.self c.args.client.now.books) (ap quits same ∙ ap moved c.is_quit-self.ensures) c.begin.ensures)
