use Rattle.std.proofs.Common.{◌≡◌, ◌+◌, ◌<◌, length, slice_index_or, refl, subst, arith}
use Rattle.std.proofs.lemmas.List.{length-map}
use Rattle.tm_trustee.proofs.Elements.{mapped, read_at}
use Rattle.tm_trustee.proofs.above.step_at.Goals as goal

pub go-requires-clause-asked : goal.go-requires-clause-asked
go-requires-clause-asked g c =
    let (place, is) = c.requires.above in
    let side = read_at c.args.above.now.items c.args.i c.index_mut.result.now c.requires.index c.index_mut.ensures.value in
    is.asked c.args.i _ (mapped g.P.PairTable.theory.client_view c.args.above.now.items c.args.i c.index_mut.result.now side)

pub go-requires-clause-at : goal.go-requires-clause-at
go-requires-clause-at g c =
    let (place, is) = c.requires.above in
    let side = read_at c.args.above.now.items c.args.i c.index_mut.result.now c.requires.index c.index_mut.ensures.value in
    let many = is.as_many in
    let sides = length-map c.args.above.now.items g.P.PairTable.theory.client_view in
    let within : c.args.i < length c.args.lanes.now.items = omega (arith, many, sides, c.requires.index) in
    let noted = read_at c.args.lanes.now.items c.args.i c.index_mut-2.result.now within c.index_mut-2.ensures.value in
    is.stages c.args.i _ _ noted (mapped g.P.PairTable.theory.client_view c.args.above.now.items c.args.i c.index_mut.result.now side)

pub go-requires-clause-needs : goal.go-requires-clause-needs
go-requires-clause-needs g c =
    let n = c.args.from + c.args.i in
    let (place, is) = c.requires.above in
    let many = is.as_many in
    let sides = length-map c.args.above.now.items g.P.PairTable.theory.client_view in
    let tables = c.requires.among.as_many in
    let within : n < length c.args.tables.now = omega (arith, tables, c.requires.index) in
    let lanes : c.args.i < length c.args.lanes.now.items = omega (arith, many, sides, c.requires.index) in
    let table = subst (λ x. x ≡ slice_index_or c.args.tables.now n x) c.index-tables-from.is c.index-tables-from.is in
    c.requires.needs _ _ _ (read_at c.args.tables.now n _ within table)
    (read_at c.args.above.now.items c.args.i c.index_mut.result.now c.requires.index c.index_mut.ensures.value)
    (read_at c.args.lanes.now.items c.args.i c.index_mut-2.result.now lanes c.index_mut-2.ensures.value)

pub returns : goal.returns
returns g c =
    let n = c.args.from + c.args.i in
    let was = slice_index_or c.args.tables.now n c.index-tables-from.result in
    let is = subst (λ x. x ≡ slice_index_or c.args.tables.now n x) c.index-tables-from.is c.index-tables-from.is in
    let tables = c.requires.among.as_many in
    let (place, above) = c.requires.above in
    let many = above.as_many in
    let sides = length-map c.args.above.now.items g.P.PairTable.theory.client_view in
    let within : n < length c.args.tables.now = omega (arith, tables, c.requires.index) in
    let lanes : c.args.i < length c.args.lanes.now.items = omega (arith, many, sides, c.requires.index) in
    record {
      was = was;
      becomes = c.go.new.table;
      before = c.index_mut.result.now;
      after = c.go.new.seat;
      lane = c.index_mut-2.result.now;
      lane_new = c.go.new.lane;
      of_table = read_at c.args.tables.now n was within is;
      of_side = read_at c.args.above.now.items c.args.i c.index_mut.result.now c.requires.index c.index_mut.ensures.value;
      of_lane = read_at c.args.lanes.now.items c.args.i c.index_mut-2.result.now lanes c.index_mut-2.ensures.value;
      tables = refl;
      sides = refl;
      lanes_are = refl;
      moves = c.go.ensures;
    }
