-- What a trustee's objects end as, where a value of theirs is lent.
use Rattle.std.specs.Prelude.{ℕ}
use Rattle.std.specs.Borrow.{Lends, Fml, RattleType, MutBor}
use Rattle.tm_seq.specs.declared.kind.Entrusted.{Ghosts}
use Rattle.tm_objects.specs.Stock.{Stock, changed}
use Rattle.tm_objects.specs.contracts.objects.Objects.{the_row}

module _ (S O R T : RattleType) (kind : Ghosts S.Denot O.Denot R.Denot T.Denot) where
  -- once the borrow r ends, the object of the id has the last value written through r
  abbrev pub lends_object : MutBor (Stock S.Denot) → ℕ → MutBor S.Denot → Fml
  lends_object s id r = Lends (the_row S O R T kind) S s r (changed id s.now)
