use Rattle.std.proofs.Common.{◌≡◌, sym, ◌∙◌, subst}
use Rattle.tm_model.specs.Opening.{IsBuildable, opening_of}
use Rattle.tm_model.specs.Laws.{first_of}
use Rattle.tm_pair.specs.Theory.{IsNewTable}
use Rattle.tm_pair.specs.Plain.{core_at, plain_theory}
use Rattle.tm_pair.specs.declared.plain.PlainTable.{PlainTable}
use Rattle.tm_pair.specs.declared.plain.PlainTrustee.{PlainTrustee}
use Rattle.tm_pair.proofs.Opening.{opened}
use Rattle.tm_pair.proofs.plain.PlainTable.new.Goals as goal

pub returns : goal.returns
returns g c =
    let config = c.args.config in
    let places = c.in_ok-places.places in
    let clients = c.in_ok-clients.clients in
    let table : PlainTable _ _ _ _ = record { places = places; number = c.args.number; config = config; first = c.told.result; past = c.opened.result } in
    let trustee : PlainTrustee _ _ _ _ = record { past = c.opened-2.result } in
    let (new, core) =
    opened g.S.Entrusted.kind table clients.items trustee (subst (λ l. IsBuildable config l) (sym c.told.ensures) c.requires.buildable)
    c.requires.number c.opened.ensures (sym places.ok.0 ∙ c.in_ok-places.ensures.count) c.in_ok-places.ensures.new
    (sym clients.ok.0 ∙ c.in_ok-clients.ensures.count) c.in_ok-clients.ensures.new c.opened-2.ensures in
    record {
      new = subst (λ l. IsNewTable (plain_theory g.S.Entrusted.kind) (opening_of c.args.number config l) table clients.items trustee) c.told.ensures new;
      core = subst (λ l. core_at table ≡ first_of (opening_of c.args.number config l)) c.told.ensures core;
    }
