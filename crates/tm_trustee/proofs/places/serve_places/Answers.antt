use Rattle.std.proofs.Common.{◌≡◌, ◌+◌, ◌<◌, ◌≤◌, cond, refl, ap, sym, ◌∙◌, subst, arith}
use Rattle.tm_model.specs.State.{place_count}
use Rattle.tm_pair.proofs.Keeping.{clients_kept_on}
use Rattle.tm_trustee.specs.Places.{ServesPlace, ServesBelow, found_below}
use Rattle.tm_trustee.proofs.Serving as serving
use Rattle.tm_trustee.proofs.Resuming as resuming
use Rattle.tm_trustee.proofs.places.serve_places.Goals as goal

pub loop-place-init : goal.loop-place-init
loop-place-init g c =
    let theory = g.P.PairTable.theory in record {
      current = c.requires.current;
      goes_on = resuming.goes_nowhere _;
      free = c.requires.free;
      serves = serving.serves_none theory g.S.Entrusted.kind (theory.opening c.args.table.now) c.args.table.now c.args.side.now;
      found = sym (serving.found_none (theory.trustee_view c.args.side.now));
      most = omega arith;
      keeps = record { same = g.met.P.PairTable.laws.same_refl c.args.table.now; opening = refl; mine = c.requires.mine; clients = λ other has. has };
    }

pub serve_place-more-requires : goal.serve_place-more-requires
serve_place-more-requires g c =
    let inv = c.loop-place.invariant in
    let theory = g.P.PairTable.theory in
    let lt : c.loop-place.place < place_count (theory.opening c.args.table.now).setup = omega (arith, c.loop-place-test.true, c.requires.places) in
    record {
      mine = inv.keeps.mine;
      current =
          resuming.current_as g.S.Entrusted.kind (theory.opening c.args.table.now) (theory.opening c.loop-place.table) _ _ c.loop-place.since.items
          c.loop-place.state inv.keeps.opening refl inv.current;
      place = subst (λ s. c.loop-place.place < place_count s.setup) (sym inv.keeps.opening) lt;
      free = inv.free c.loop-place.place;
    }

pub loop-place-preserved : goal.loop-place-preserved
loop-place-preserved g c =
    let inv = c.loop-place.invariant in
    let call = c.serve_place-more.ensures in
    let kind = g.S.Entrusted.kind in
    let theory = g.P.PairTable.theory in
    let n = c.loop-place.place in
    let opening = theory.opening c.args.table.now in
    let first = c.args.side.now in
    let mid = c.loop-place.side in
    let new = c.serve_place-more.new.side in
    let was = c.args.table.now in
    let between = c.loop-place.table in
    let now = c.serve_place-more.new.table in
    let serves : ServesPlace theory kind opening n between now mid new = subst (λ s. ServesPlace theory kind s n between now mid new) inv.keeps.opening call.serves in
    let one : cond c.serve_place-more.result 1 0 ≤ 1 = serving.at_most_one c.serve_place-more.result in record {
      current =
          resuming.current_as kind (theory.opening between) opening _ _ c.serve_place-more.new.since.items c.serve_place-more.new.state
          (sym inv.keeps.opening) refl call.current;
      goes_on = resuming.goes_far _ _ _ inv.goes_on call.goes_on;
      free = serving.served_frees theory kind opening n between now mid new serves inv.free;
      serves = serving.serves_one_more theory kind opening n was between now first mid new inv.serves inv.keeps.mine serves;
      found =
          c.count-found.ensures ∙ ap (λ k. k + cond c.serve_place-more.result 1 0) inv.found
          ∙ ap (λ b. found_below n (theory.trustee_view mid) + cond b 1 0) call.found
          ∙ sym (serving.found_one_more theory kind opening n between now mid new serves);
      most = omega (arith, c.count-found.ensures, one, inv.most);
      keeps = clients_kept_on theory kind g.met.P.PairTable.laws was between now mid new inv.keeps call.keeps;
    }

pub returns-clause-serves : goal.returns-clause-serves
returns-clause-serves g c =
    let theory = g.P.PairTable.theory in
    let e : c.loop-place.place ≡ c.args.places = omega (arith, c.loop-place-test.false, c.loop-place.auto.place-end) in
    subst (λ n. ServesBelow theory g.S.Entrusted.kind (theory.opening c.args.table.now) n c.args.table.now c.loop-place.table c.args.side.now c.loop-place.side) e
    c.loop-place.invariant.serves

pub returns-clause-found : goal.returns-clause-found
returns-clause-found g c =
    let e : c.loop-place.place ≡ c.args.places = omega (arith, c.loop-place-test.false, c.loop-place.auto.place-end) in
    subst (λ n. c.loop-place.found ≡ found_below n (g.P.PairTable.theory.trustee_view c.loop-place.side)) e c.loop-place.invariant.found
