-- What holds of the launched work of each trustee, between any two turns: the statements, each proved as the contract of a function that cites it.
use Rattle.std.specs.Prelude.{◌≡◌, ℕ, ◌+◌, slice_get}
use Rattle.std.specs.declared.option.Option.TheVariants.{Some}
use Rattle.tm_seq.specs.Kind.{Kind}
use Rattle.tm_model.specs.Latched.{IsLatched}
use Rattle.tm_pair.specs.Plain.{opening_at, client_at, trustee_at, plain_theory}
use Rattle.tm_pair.specs.declared.plain.PlainTable.{PlainTable}
use Rattle.tm_pair.specs.declared.plain.PlainClient.{PlainClient}
use Rattle.tm_trustee.specs.NestedAsks.{IsTied}
use Rattle.tm_trustee.specs.Serving.{done_by}
use Rattle.tm_turns.specs.Whole.{OneTrustee, AreTurns}
use Rattle.tm_turns.specs.declared.turns.Turns.{Turns}

-- in all that a trustee has done, and in its log, launched work on each object is latched
abbrev pub AreAllLatched : {V O R T : Type 0} → Type 0 → Kind V O R T → Type 0
AreAllLatched {V} {O} {R} {T} C kind =
    (turns : Turns V C O R T) (t : ℕ) (trustee : OneTrustee V O R T) → AreTurns kind turns → slice_get turns.trustees.items t ≡ Some trustee
    → IsLatched (done_by (plain_theory kind) trustee) × IsLatched (trustee_at trustee.side).log

-- what trustee t has done is tied to each of its sides above, the one at i being of the table of trustee t + 1 + i
abbrev pub AreAllTied : {V O R T : Type 0} → Type 0 → Kind V O R T → Type 0
AreAllTied {V} {O} {R} {T} C kind =
    (turns : Turns V C O R T) (t i : ℕ) (trustee : OneTrustee V O R T) (table : PlainTable V O R T) (seat : PlainClient V O R T)
    → AreTurns kind turns → slice_get turns.trustees.items t ≡ Some trustee → slice_get turns.tables.items t ≡ Some table
    → slice_get trustee.above.items i ≡ Some seat
    → IsTied kind (opening_at table) (done_by (plain_theory kind) trustee) (t + 1 + i) (client_at seat)
