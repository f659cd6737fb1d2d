use Rattle.std.proofs.Common.{◌≡◌, true}
use Rattle.mc_item.specs.Keys.{is_key}
use Rattle.mc_item.proofs.KeyFacts.{is_key-few}
use Rattle.mc_item.proofs.key.Key.of.Goals as goal

pub of-requires : goal.of-requires
of-requires c =
    let lawful : is_key c.args.from.now ≡ true = cc in
    is_key-few c.args.from.now lawful
