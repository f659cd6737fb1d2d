-- What a serving turn did at a side above at which it moved nothing: it looked there, and sent nothing that its work asked.
use Rattle.std.proofs.Common.{◌≡◌, ℕ, ◌+◌, ◌≤◌, inl, inr, List, length, ap, arith}
use Rattle.std.specs.Prelude.{IsSome}
use Rattle.std.specs.declared.option.Option.{Option}
use Rattle.std.specs.declared.option.Option.TheVariants.{None, Some}
use Rattle.tm_seq.specs.Kind.{Kind}
use Rattle.tm_batch.specs.declared.message.AnswerBatch.{AnswerBatch}
use Rattle.tm_pair.specs.Views.{BatchView}
use Rattle.tm_pair.specs.Calls.{Collects, OnLook}
use Rattle.tm_pair.specs.Moves.{answers_found}
use Rattle.tm_pair.specs.Plain.{client_at, IsClientOf, HasDone, plain_theory}
use Rattle.tm_pair.specs.declared.table.Collected.{Collected}
use Rattle.tm_pair.specs.declared.table.Collected.TheVariants.{Answers, Pending, Idle}
use Rattle.tm_pair.specs.declared.moves.Move.TheVariants.{Collect}
use Rattle.tm_pair.specs.declared.plain.PlainTable.{PlainTable}
use Rattle.tm_pair.specs.declared.plain.PlainClient.{PlainClient}
use Rattle.tm_trustee.specs.Above.{one_if, moves_up, ExchangesAt, SaysByeAt, GoesUpAt}
use Rattle.tm_turns.proofs.WeightsUp.{one_most}

none_there : {X : Type 0} (o : Option X) → IsSome o → o ≡ None → ⊥
none_there None some e = absurd cc
none_there (Some x) some e = absurd cc

module _ {V O R T : Type 0} where
  module _ (kind : Kind V O R T) where
    -- a side above looked where a batch was out, and its table did so too, or stayed
    abbrev pub LookedUp : PlainTable V O R T → PlainTable V O R T → PlainClient V O R T → PlainClient V O R T → Type 0
    LookedUp was between old mid =
        (found : Collected V O R T) × Collects (client_at old) (client_at mid) found
        × OnLook found (between ≡ was) (λ answers. HasDone (Collect (client_at old).place answers) was between)

    -- and then it said Bye, or did not
    abbrev pub WentUp : Type 0 → PlainTable V O R T → PlainTable V O R T → PlainClient V O R T → PlainClient V O R T → Type 0
    WentUp all was now old new =
        (between : PlainTable V O R T) × (mid : PlainClient V O R T) × LookedUp was between old mid × IsClientOf kind between mid
        × SaysByeAt (plain_theory kind) all between now mid new

    looked_by :
        (found : Collected V O R T) (was between : PlainTable V O R T) (old mid : PlainClient V O R T) → IsSome (client_at old).out
        → Collects (client_at old) (client_at mid) found → HasDone (Collect (client_at old).place (answers_found found)) was between
        → LookedUp was between old mid
    looked_by Idle was between old mid some idle did = absurd (none_there (client_at old).out some idle.out)
    looked_by Pending was between old mid some pending did = (Pending, pending, did)
    looked_by (Answers a) was between old mid some gets did = (Answers a, gets, did)

    -- a side at which nothing was moved sent nothing that its work asked
    exchanged :
        (waits : List (ℕ × O)) (was between : PlainTable V O R T) (old mid : PlainClient V O R T) → one_if (client_at mid).out + length (client_at mid).got ≤ one_if (client_at old).out + length (client_at old).got
        → ExchangesAt (plain_theory kind) waits was between old mid → LookedUp was between old mid
    exchanged waits was between old mid few (inl (some, (found, collects, did, keeps))) = looked_by found was between old mid some collects did
    exchanged waits was between old mid few (inr (inl (free, ne, (batch, applies, first, room, publishes, did, keeps)))) =
        let none : one_if (client_at old).out ≡ 0 = ap (λ (o : Option (BatchView V O R T)). one_if o) free in
        let one : one_if (client_at mid).out ≡ 1 = ap (λ (o : Option (BatchView V O R T)). one_if o) publishes.out in
        let got : length (client_at mid).got ≡ length (client_at old).got = ap (λ (xs : List (AnswerBatch V O R T)). length xs) publishes.got in
        absurd (omega (arith, few, none, one, got))
    exchanged waits was between old mid few (inr (inr idle)) = (Idle, record { out = idle.0; kept = idle.3 }, idle.2)

    pub says_more :
        (all : Type 0) (between now : PlainTable V O R T) (mid after : PlainClient V O R T) → SaysByeAt (plain_theory kind) all between now mid after
        → one_if (client_at mid).out + length (client_at mid).got ≤ one_if (client_at after).out + length (client_at after).got
    says_more all between now mid after (inl (is, unsaid, (batch, requests, room, publishes, did, keeps))) =
        let one : one_if (client_at after).out ≡ 1 = ap (λ (o : Option (BatchView V O R T)). one_if o) publishes.out in
        let got : length (client_at after).got ≡ length (client_at mid).got = ap (λ (xs : List (AnswerBatch V O R T)). length xs) publishes.got in
        let most = one_most (client_at mid).out in
        omega (arith, one, got, most)
    says_more all between now mid after (inr none) =
        let out : one_if (client_at after).out ≡ one_if (client_at mid).out = ap (λ (x : PlainClient V O R T). one_if (client_at x).out) none.0 in
        let got : length (client_at after).got ≡ length (client_at mid).got = ap (λ (x : PlainClient V O R T). length (client_at x).got) none.0 in
        omega (arith, out, got)

    pub went_up :
        (waits : List (ℕ × O)) (all : Type 0) (was now : PlainTable V O R T) (old new : PlainClient V O R T) → moves_up (client_at old) (client_at new) ≡ 0
        → GoesUpAt (plain_theory kind) waits all was now old new → WentUp all was now old new
    went_up waits all was now old new none (between, mid, exchanges, mine, says) =
        let more = says_more all between now mid new says in
        (between, mid, exchanged waits was between old mid (omega (arith, more, none)) exchanges, mine, says)
