use Rattle.std.proofs.Common.{refl, sym, ◌∙◌, subst}
use Rattle.std.proofs.lemmas.List.{with_items_is}
use Rattle.std.specs.Vec.{with_item, with_items}
use Rattle.tm_pair.specs.Plain.{plain_theory}
use Rattle.tm_trustee.specs.Tables.{IsReady}
use Rattle.tm_trustee.proofs.Elements.{read_at}
use Rattle.tm_turns.proofs.Steps.{served_at}
use Rattle.tm_turns.proofs.turns.Turns.serve.Goals as goal

pub serve_turn-requires : goal.serve_turn-requires
serve_turn-requires g c =
    let kind = g.S.Entrusted.kind in
    let trustee = c.index_mut-trustee.result.now in
    let of = read_at c.args.self.now.trustees.items c.args.trustee trustee c.requires.trustee c.index_mut-trustee.ensures.value in
    let (config, first, are) = c.requires.are in
    record { ready = subst (λ ts. IsReady (plain_theory kind) kind ts trustee) (sym c.as_mut_slice.ensures.value) (are.trustees c.args.trustee trustee of).1 }

pub returns-clause-serves : goal.returns-clause-serves
returns-clause-serves g c =
    let trustee = c.index_mut-trustee.result.now in
    served_at g.S.Entrusted.kind c.args.trustee c.serve_turn.result c.as_mut_slice.result.now c.serve_turn.new.tables trustee c.serve_turn.new.self c.args.self.now (record {
      clients = c.args.self.now.clients;
      tables = with_items c.args.self.now.tables c.serve_turn.new.tables;
      trustees = with_item c.args.self.now.trustees c.args.trustee c.serve_turn.new.self;
      counts = c.args.self.now.counts;
    })
    (record {
      same = c.as_mut_slice.ensures.value;
      same_new = with_items_is c.args.self.now.tables c.serve_turn.new.tables (c.serve_turn.ensures.tables.as_many ∙ c.as_mut_slice.ensures.len);
      of_trustee = read_at c.args.self.now.trustees.items c.args.trustee trustee c.requires.trustee c.index_mut-trustee.ensures.value;
      ready = c.serve_turn.ensures.ready;
      turned = c.serve_turn.ensures.turned;
      above = c.serve_turn.ensures.above;
      keeps = c.serve_turn.ensures.tables;
      parts = c.serve_turn.ensures.parts;
      trustees = refl;
      clients = refl;
      counts = refl;
    })

pub returns-clause-keeps : goal.returns-clause-keeps
returns-clause-keeps g c =
    let trustee = c.index_mut-trustee.result.now in
    let serves = served_at g.S.Entrusted.kind c.args.trustee c.serve_turn.result c.as_mut_slice.result.now c.serve_turn.new.tables trustee c.serve_turn.new.self c.args.self.now (record {
      clients = c.args.self.now.clients;
      tables = with_items c.args.self.now.tables c.serve_turn.new.tables;
      trustees = with_item c.args.self.now.trustees c.args.trustee c.serve_turn.new.self;
      counts = c.args.self.now.counts;
    })
    (record {
      same = c.as_mut_slice.ensures.value;
      same_new = with_items_is c.args.self.now.tables c.serve_turn.new.tables (c.serve_turn.ensures.tables.as_many ∙ c.as_mut_slice.ensures.len);
      of_trustee = read_at c.args.self.now.trustees.items c.args.trustee trustee c.requires.trustee c.index_mut-trustee.ensures.value;
      ready = c.serve_turn.ensures.ready;
      turned = c.serve_turn.ensures.turned;
      above = c.serve_turn.ensures.above;
      keeps = c.serve_turn.ensures.tables;
      parts = c.serve_turn.ensures.parts;
      trustees = refl;
      clients = refl;
      counts = refl;
    }) in serves.keeps
