use Rattle.std.proofs.Common.{◌≡◌, List, Bool, sym, ap, subst, ◌∙◌}
use Rattle.std.specs.Prelude.{All, IsTrue}
use Rattle.tm_state.proofs.OpenedByes.{all_said_bye, all_are_closed}
use Rattle.tm_state.proofs.state.TrusteeState.is_closed.Goals as goal

pub returns : goal.returns
returns g c = λ opening log stands.
    let seen : c.as_slice.result.now ≡ c.args.self.now.closed = c.as_slice.ensures.value ∙ ap (λ h. h.closed) c.self.view_is in (
      λ is. all_said_bye g.S.Entrusted.kind opening log _ stands (subst (λ (l : List Bool). All IsTrue l) seen (c.are_all.ensures.0 is)),
      λ all. c.are_all.ensures.1 (subst (λ (l : List Bool). All IsTrue l) (sym seen) (all_are_closed g.S.Entrusted.kind opening log _ stands all)),
    )
