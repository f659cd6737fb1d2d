use Rattle.std.proofs.Common.{◌≡◌, take, drop, map}
use Rattle.std.specs.List.{list_all}
use Rattle.mc_item.specs.Keys.{is_key}
use Rattle.mc_line.proofs.keyed.keys_of.Given as goal

abbrev pub invariant-loop-token : goal.invariant-loop-token
invariant-loop-token l = record {
  copied : l.keys ≡ map (λ t. t.now) (take l.token-index l.tokens);
  lawful : list_all is_key (map (λ t. t.now) l.tokens) ≡ list_all is_key (map (λ t. t.now) (drop l.token-index l.tokens));
}
