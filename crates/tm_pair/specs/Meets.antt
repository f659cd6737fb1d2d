-- What sides of one table tell of each other.
use Rattle.std.specs.Prelude.{◌⊎◌}
use Rattle.tm_model.specs.Lists.{IsPrefix}
use Rattle.tm_model.specs.Ran.{ran}
use Rattle.tm_pair.specs.Views.{ClientView, TrusteeView}

module _ {V O R T : Type 0} where
  -- of two seen logs one begins the other, and what each ran for the other's place begins what the other sent
  pub record Meets (one other : ClientView V O R T) : Type 0 where
    pub begins : IsPrefix one.seen other.seen ⊎ IsPrefix other.seen one.seen
    pub one_sent : IsPrefix (ran one.place other.seen) one.sent
    pub other_sent : IsPrefix (ran other.place one.seen) other.sent

  -- a seen log begins that of the trustee, and what that ran for the place begins what the client sent
  pub record Follows (home : TrusteeView V O R T) (side : ClientView V O R T) : Type 0 where
    pub begins : IsPrefix side.seen home.log
    pub sent : IsPrefix (ran side.place home.log) side.sent
