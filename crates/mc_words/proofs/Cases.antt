-- Worked cases: each limit once more, as a number, how each option is spelled, and what some words say. The checker
-- computes them.
use Rattle.std.proofs.Common.{◌≡◌, ◌^◌, true, false, [], ◌∷◌, Some, None, refl, arith, inl, inr, codes}
use Rattle.mc_item.specs.declared.limits.TheConstants.{USUAL_ITEMS}
use Rattle.mc_item.specs.Numbers.{digits_below}
use Rattle.mc_words.specs.declared.limits.TheConstants.{LONGEST_VALUE, USUAL_TRUSTEES, USUAL_BYTES, USUAL_WORKERS, USUAL_SEED, USUAL_OPS, USUAL_CLIENTS}
use Rattle.mc_words.specs.declared.names.Name.TheVariants.{Trustees, MaxBytes, Items, Turns, Port, Workers, Connections, Seed, Ops, Clients}
use Rattle.mc_words.specs.declared.reading.Words.TheVariants.{Run, Serve, Load}
use Rattle.mc_words.specs.Spelling.{between, range_of, spelled, IsValue}
use Rattle.mc_words.specs.Options.{Alone, Apart, Joined, given}
use Rattle.mc_words.specs.Saying.{Says}

-- ---- limits

longest_value : LONGEST_VALUE ≡ 19
longest_value = refl

range_of_trustees : range_of Trustees ≡ between 2 32
range_of_trustees = refl

range_of_max_bytes : range_of MaxBytes ≡ between 1 (2 ^ 62)
range_of_max_bytes = refl

range_of_items : range_of Items ≡ between 1 65536
range_of_items = refl

range_of_turns : range_of Turns ≡ None
range_of_turns = refl

range_of_port : range_of Port ≡ between 0 65535
range_of_port = refl

range_of_workers : range_of Workers ≡ between 1 16
range_of_workers = refl

range_of_connections : range_of Connections ≡ between 0 (2 ^ 62)
range_of_connections = refl

range_of_seed : range_of Seed ≡ between 0 65535
range_of_seed = refl

range_of_ops : range_of Ops ≡ between 0 1000000
range_of_ops = refl

range_of_clients : range_of Clients ≡ between 1 16
range_of_clients = refl

-- ---- what is usual

usual_trustees : USUAL_TRUSTEES ≡ 5
usual_trustees = refl

usual_bytes : USUAL_BYTES ≡ 1099511627776
usual_bytes = refl

usual_items : USUAL_ITEMS ≡ 4096
usual_items = refl

usual_workers : USUAL_WORKERS ≡ 4
usual_workers = refl

usual_seed : USUAL_SEED ≡ 1
usual_seed = refl

usual_ops : USUAL_OPS ≡ 20000
usual_ops = refl

usual_clients : USUAL_CLIENTS ≡ 4
usual_clients = refl

-- ---- how options are spelled

spelled_trustees : spelled Trustees ≡ codes "--trustees"
spelled_trustees = refl

spelled_max_bytes : spelled MaxBytes ≡ codes "--max-bytes"
spelled_max_bytes = refl

spelled_items : spelled Items ≡ codes "--items"
spelled_items = refl

spelled_turns : spelled Turns ≡ codes "--turns"
spelled_turns = refl

spelled_port : spelled Port ≡ codes "--port"
spelled_port = refl

spelled_workers : spelled Workers ≡ codes "--workers"
spelled_workers = refl

spelled_connections : spelled Connections ≡ codes "--connections"
spelled_connections = refl

spelled_seed : spelled Seed ≡ codes "--seed"
spelled_seed = refl

spelled_ops : spelled Ops ≡ codes "--ops"
spelled_ops = refl

spelled_clients : spelled Clients ≡ codes "--clients"
spelled_clients = refl

-- ---- what words say

-- a value in one word, and a flag
run_with_two : Says (codes "run" ∷ codes "--trustees=2" ∷ codes "--turns" ∷ [])
    (Run (record { trustees = 2; max_bytes = 1099511627776; items = 4096; turns = true }))
unfolding digits_below
run_with_two = (
  refl,
  (
    given Trustees (Joined (codes "2")) 2 ∷ given Turns Alone 0 ∷ [],
    (refl, ((0, omega arith, refl), (refl, omega arith), inr (λ same. cc, refl), ((3, omega arith, refl), (refl, refl), refl, tt))),
    record {
      trustees = (Some 2, inl (refl, refl), refl);
      max_bytes = (None, inr (λ same. cc, inr (λ same. cc, refl)), refl);
      items = (None, inr (λ same. cc, inr (λ same. cc, refl)), refl);
      turns = (Some 0, inr (λ same. cc, inl (refl, refl)), refl);
    },
  ),
)

-- a value behind its option, with zeros before it
serve_at_a_port : Says (codes "serve" ∷ codes "--port" ∷ codes "007000" ∷ [])
    (Serve (record { port = 7000; workers = 4; trustees = 5; connections = None; max_bytes = 1099511627776; items = 4096 }))
unfolding digits_below
serve_at_a_port = (
  refl,
  (
    given Port (Apart (codes "007000")) 7000 ∷ [],
    (refl, ((0, omega arith, refl), (refl, omega arith), refl, tt)),
    record {
      port = inl (refl, refl);
      workers = (None, inr (λ same. cc, refl), refl);
      trustees = (None, inr (λ same. cc, refl), refl);
      connections = inr (λ same. cc, refl);
      max_bytes = (None, inr (λ same. cc, refl), refl);
      items = (None, inr (λ same. cc, refl), refl);
    },
  ),
)

-- no option at all
load_as_usual : Says (codes "load" ∷ []) (Load (record { seed = 1; ops = 20000; clients = 4; trustees = 5; turns = false }))
load_as_usual = (
  refl,
  (
    [],
    (refl, tt),
    record {
      seed = (None, refl, refl);
      ops = (None, refl, refl);
      clients = (None, refl, refl);
      trustees = (None, refl, refl);
      turns = (None, refl, refl);
    },
  ),
)

-- ---- texts at the edges of a range

too_few_trustees : IsValue (range_of Trustees) (codes "1") 1 → ⊥
too_few_trustees spells = absurd (omega (arith, spells.1))

most_trustees : IsValue (range_of Trustees) (codes "32") 32
unfolding digits_below
most_trustees = (refl, omega arith)

too_many_trustees : digits_below LONGEST_VALUE 33 (codes "33") ≡ None
unfolding digits_below
too_many_trustees = refl

nineteen_digits : digits_below LONGEST_VALUE 33 (codes "0000000000000000002") ≡ Some 2
unfolding digits_below
nineteen_digits = refl

twenty_digits : digits_below LONGEST_VALUE 33 (codes "00000000000000000002") ≡ None
unfolding digits_below
twenty_digits = refl

no_digits : digits_below LONGEST_VALUE 33 [] ≡ None
unfolding digits_below
no_digits = refl

a_sign : digits_below LONGEST_VALUE 65536 (codes "+1") ≡ None
unfolding digits_below
a_sign = refl
