use Rattle.std.proofs.Common.{◌≡◌, ◌<◌, slice_index_or, length, refl, sym, subst, arith}
use Rattle.tm_table_tests.proofs.Pairs.{pair_of, first_side}
use Rattle.tm_table_tests.proofs.tests.sharing.two.Goals as goal

pub returns-clause-one : goal.returns-clause-one
returns-clause-one c =
    let new = c.in_ok-table.ensures in
    let x = c.in-Some-Some.least in
    let both = pair_of c.in_ok-table.clients.items c.pop.new.self.items c.pop-2.new.self.items x c.in-Some-Some.second c.in-Some-Some.ensures.items c.in-Some-Some.ensures'.items new.count in
    first_side _ c.in_ok-table.table c.in_ok-one.one c.in_ok-table.clients.items c.in_ok-table.side 0 x new c.in_ok-one.ensures
    (subst (λ l. 0 < length l) (sym both) (omega arith)) (subst (λ l. x ≡ slice_index_or l 0 x) (sym both) refl)

pub returns-clause-other : goal.returns-clause-other
returns-clause-other c =
    let new = c.in_ok-table.ensures in
    let y = c.in-Some-Some.second in
    let both = pair_of c.in_ok-table.clients.items c.pop.new.self.items c.pop-2.new.self.items c.in-Some-Some.least y c.in-Some-Some.ensures.items c.in-Some-Some.ensures'.items new.count in
    first_side _ c.in_ok-table.table c.in_ok-other.other c.in_ok-table.clients.items c.in_ok-table.side 1 y new c.in_ok-other.ensures
    (subst (λ l. 1 < length l) (sym both) (omega arith)) (subst (λ l. y ≡ slice_index_or l 1 y) (sym both) refl)
