use Rattle.std.proofs.Common.{◌+◌, ◌∙◌, ap, length}
use Rattle.bench_counters.specs.Counting.{first_of, counting}
use Rattle.bench_counters.proofs.Opening.{begins}
use Rattle.bench_counters.proofs.open.trustee.Goals as goal

pub new-requires-3-clause-begins : goal.new-requires-3-clause-begins
new-requires-3-clause-begins c = (
  counting c.args.clients 1,
  first_of c.args.clients,
  rw c.config.ensures
      (begins c.args.clients _ _ _ c.requires.some c.requires.few c.in_ok-first.ensures c.new-2.ensures.items (ap (λ l. 2 + length l) c.new.ensures.items)),
)

pub returns-in-Ok-clause-serving : goal.returns-in-Ok-clause-serving
returns-in-Ok-clause-serving c =
    c.in-Ok.ensures.begun (counting c.args.clients 1) (first_of c.args.clients)
    (rw c.config.ensures
    (begins c.args.clients _ _ _ c.requires.some c.requires.few c.in_ok-first.ensures (c.in-Ok.ensures.nested ∙ c.new-2.ensures.items)
    (ap (λ l. 2 + length l) (c.in-Ok.ensures.above ∙ c.new.ensures.items))))
