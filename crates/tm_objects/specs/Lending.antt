-- What live objects end as, where a value of theirs is lent.
use Rattle.std.specs.Prelude.{ℕ}
use Rattle.std.specs.Borrow.{Lends, Fml, RattleType, MutBor}
use Rattle.tm_objects.specs.Live.{LiveList, change, with_value}
use Rattle.tm_objects.specs.contracts.live.LiveObjects.{the_row}

-- the objects with the value of one id changed
abbrev pub with_value_at : {V : Type 0} → ℕ → LiveList V → V → LiveList V
with_value_at id s v = record s { live = change id (λ o. with_value v o) s.live }

-- once the borrow r ends, the object of the id has the last value written through r
abbrev pub lends_value : (V : RattleType) → MutBor (LiveList V.Denot) → ℕ → MutBor V.Denot → Fml
lends_value V s id r = Lends (the_row V) V s r (with_value_at id s.now)
