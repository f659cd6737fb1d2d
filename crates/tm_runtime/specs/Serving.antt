-- What a trustee's thread has done that ended: turn after turn of the trustee, the last of which said so.
use Rattle.std.specs.Prelude.{◌≡◌, ◌≢◌, ℕ, zero, suc, ◌+◌, List, slice_get}
use Rattle.std.specs.declared.option.Option.TheVariants.{Some}
use Rattle.tm_seq.specs.Kind.{Kind}
use Rattle.tm_pair.specs.Theory.{Theory}
use Rattle.tm_trustee.specs.Tables.{KeepsTables}
use Rattle.tm_trustee.specs.Turn.{HasGoneUp, HasTurned, KeepsParts}
use Rattle.tm_trustee.specs.declared.served.Served.{Served}
use Rattle.tm_trustee.specs.declared.served.Served.TheVariants.{Ended}
use Rattle.tm_trustee.specs.declared.trustee.Trustee.{Trustee}

module _ {V O R T Table Client Owner : Type 0} (theory : Theory V O R T Table Client Owner) (kind : Kind V O R T) where
  -- a trustee made one turn among these tables, which said `served`
  pub record TurnsOnce (served : Served) (tables tables_new : List Table) (t u : Trustee V Table O R T Client Owner) : Type 0 where
    pub turned : (was now : Table) → slice_get tables t.number ≡ Some was → slice_get tables_new t.number ≡ Some now → HasTurned theory kind was now t u served
    pub above : HasGoneUp theory tables tables_new t u
    pub keeps : KeepsTables theory tables tables_new t.number (t.clients + t.number)
    pub parts : KeepsParts t u

  -- it made n turns, one after another, none of which said that it has ended
  unfoldable pub TurnsOn : ℕ → List Table → Trustee V Table O R T Client Owner → List Table → Trustee V Table O R T Client Owner → Type 0
  TurnsOn zero tables t tables_new u = (tables_new ≡ tables) × (u ≡ t)
  TurnsOn (suc n) tables t tables_new u =
      (between : List Table) × (mid : Trustee V Table O R T Client Owner) × (served : Served) × TurnsOn n tables t between mid
      × TurnsOnce served between tables_new mid u × (served ≢ Ended)

  -- and then one more, which said so
  pub record HasServed (tables : List Table) (t : Trustee V Table O R T Client Owner) (tables_new : List Table) (u : Trustee V Table O R T Client Owner) : Type 0 where
    pub turns : ℕ
    pub between : List Table
    pub mid : Trustee V Table O R T Client Owner
    pub before : TurnsOn turns tables t between mid
    pub last : TurnsOnce Ended between tables_new mid u
