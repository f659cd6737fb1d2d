-- What a class does that is asked a part.
use Rattle.std.proofs.Common.{◌≡◌, ℕ, List, refl}
use Rattle.mc_model.specs.Rows.{KeyOp, Store, Get, GetTouch, Change, Touch, Delete}
use Rattle.mc_model.specs.Class.{Class, key_step}
use Rattle.mc_shard.specs.Shard.{shard_step}
use Rattle.mc_route.specs.Plans.{shard_op}

pub part_step : (s : Class) (key : List ℕ) (op : KeyOp) (moment : ℕ) → shard_step s (shard_op key op moment) ≡ key_step s key op moment
part_step s key (Store how flags exptime value) moment = refl
part_step s key Get moment = refl
part_step s key (GetTouch exptime) moment = refl
part_step s key (Change up by) moment = refl
part_step s key (Touch exptime) moment = refl
part_step s key Delete moment = refl
