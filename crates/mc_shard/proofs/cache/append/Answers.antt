use Rattle.std.proofs.Common.{ap, ◌∙◌, sym}
use Rattle.std.specs.Map.{set_value}
use Rattle.lru.specs.LruCache.{promoted}
use Rattle.mc_model.specs.Items.{same_key}
use Rattle.mc_shard.specs.Kept.{appended}
use Rattle.mc_shard.proofs.CacheFacts.{on_err, set-same, wrote_then_first}
use Rattle.mc_shard.proofs.cache.append.Goals as goal

pub returns-in_err-append-clause-err : goal.returns-in_err-append-clause-err
returns-in_err-append-clause-err c =
    let v = c.in-Some.item.now in
    on_err c.from_residual.result (ap (λ w. set_value (same_key c.args.key.now) c.args.cache.now.entries w) c.in_err-append.ensures.err
    ∙ set-same c.args.cache.now.entries c.args.key.now v (sym c.in-Some.ensures.value))

pub returns-clause-put : goal.returns-clause-put
returns-clause-put c =
    let v = c.in-Some.item.now in
    let test = same_key c.args.key.now in
    let es = c.args.cache.now.entries in
    wrote_then_first es _ c.args.key.now (appended c.args.more.now c.args.cas) v c.requires c.in-Some.ensures.value
    (ap (λ l. l.entries) c.promote.ensures.entries ∙ ap (λ w. promoted test (set_value test es w)) c.in_ok-append.ensures.put)
