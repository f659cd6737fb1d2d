use Rattle.std.proofs.Common.{ap, subst, sym, refl, ◌∙◌}
use Rattle.mc_item.specs.declared.expiry.Expiry.TheVariants.{Never}
use Rattle.mc_shard.specs.Kept.{IsPaired, GainsEntry, LosesEntry, due_of}
use Rattle.mc_shard.proofs.CacheFacts.{put-first}
use Rattle.mc_shard.proofs.IndexFacts.{paired_first, paired_undone}
use Rattle.mc_shard.proofs.PutFacts.{displaced_is, displaced_none, none_there}
use Rattle.mc_shard.proofs.items.place.Goals as goal

pub returns-in-Ok-Some-clause-ok : goal.returns-in-Ok-Some-clause-ok
returns-in-Ok-Some-clause-ok c =
    let l = c.args.cache.now in
    ap (λ l. l.entries) c.in-Ok-Some.ensures.entries ∙ put-first l.entries l.cap c.args.bound c.args.key c.args.item c.requires.paired.apart c.requires.few c.requires.most c.requires.unbounded

pub returns-in-Ok-None-clause-ok : goal.returns-in-Ok-None-clause-ok
returns-in-Ok-None-clause-ok c =
    let l = c.args.cache.now in
    ap (λ l. l.entries) c.in-Ok-None.ensures.entries ∙ put-first l.entries l.cap c.args.bound c.args.key c.args.item c.requires.paired.apart c.requires.few c.requires.most c.requires.unbounded

pub returns-in-Ok-Some-clause-paired : goal.returns-in-Ok-Some-clause-paired
returns-in-Ok-Some-clause-paired c =
    let l = c.args.cache.now in
    let i = c.args.index.now.keys in
    let j = c.note.new.index.keys in
    let k = c.unnote.new.index.keys in
    let was = displaced_is l.entries l.cap c.args.bound c.args.key c.args.item (c.in-Ok-Some.key, c.in-Ok-Some.old) c.requires.few c.requires.most c.requires.unbounded (sym c.in-Ok-Some.field-0-is ∙ c.in-Ok-Some.ensures.old) in
    subst (λ es. IsPaired es k) (sym (ap (λ l. l.entries) c.in-Ok-Some.ensures.entries ∙ put-first l.entries l.cap c.args.bound c.args.key c.args.item c.requires.paired.apart c.requires.few c.requires.most c.requires.unbounded))
    (paired_first l.entries i j k c.args.key c.in-Ok-Some.old.due c.args.item c.requires.paired (ap due_of was.1) (subst (λ due. GainsEntry i j due c.args.key) c.due-due.ensures c.in_ok-note.ensures.gains)
    (subst (λ x. LosesEntry j k c.in-Ok-Some.old.due c.args.item.due x) was.0 (subst (λ d. LosesEntry j k d c.args.item.due c.in-Ok-Some.key) c.due-was.ensures (subst (λ d. LosesEntry j k c.due-was.result d c.in-Ok-Some.key) c.due-due.ensures c.unnote.ensures.gone))))

pub returns-in-Ok-None-clause-paired : goal.returns-in-Ok-None-clause-paired
returns-in-Ok-None-clause-paired c =
    let l = c.args.cache.now in
    let i = c.args.index.now.keys in
    let j = c.note.new.index.keys in
    let none = displaced_none l.entries l.cap c.args.key c.args.item (sym c.in-Ok-None.field-0-is ∙ c.in-Ok-None.ensures.old) in
    subst (λ es. IsPaired es j) (sym (ap (λ l. l.entries) c.in-Ok-None.ensures.entries ∙ put-first l.entries l.cap c.args.bound c.args.key c.args.item c.requires.paired.apart c.requires.few c.requires.most c.requires.unbounded))
    (paired_first l.entries i j j c.args.key Never c.args.item c.requires.paired (sym (ap due_of none)) (subst (λ due. GainsEntry i j due c.args.key) c.due-due.ensures c.in_ok-note.ensures.gains) (λ m q. refl))

pub returns-in-Err-clause-paired : goal.returns-in-Err-clause-paired
returns-in-Err-clause-paired c =
    let l = c.args.cache.now in
    let i = c.args.index.now.keys in
    let j = c.note.new.index.keys in
    let k = c.unnote-in-Err.new.index.keys in
    subst (λ es. IsPaired es k) (sym (ap (λ l. l.entries) c.in-Err.ensures.err))
    (paired_undone l.entries i j k c.args.key c.args.item.due c.requires.paired (none_there _ (λ there. cc (c.in-Err.ensures.succeeds there))) (subst (λ due. GainsEntry i j due c.args.key) c.due-due.ensures c.in_ok-note.ensures.gains)
    (subst (λ x. LosesEntry j k c.args.item.due Never x) (ap (λ p. p.0) c.in-Err.ensures.value_returned) (subst (λ d. LosesEntry j k d Never c.in-Err.failed.value.0) c.due-due.ensures c.unnote-in-Err.ensures.gone)))
