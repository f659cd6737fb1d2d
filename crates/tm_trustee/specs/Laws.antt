-- What holds of each trustee that is ready for a turn: the statements, each proved as the contract of a function that cites it.
use Rattle.std.specs.Prelude.{◌≡◌, ℕ, ◌+◌, List, slice_get}
use Rattle.std.specs.declared.option.Option.TheVariants.{Some}
use Rattle.tm_seq.specs.Kind.{Kind}
use Rattle.tm_model.specs.Latched.{IsLatched}
use Rattle.tm_pair.specs.Views.{ClientView}
use Rattle.tm_pair.specs.Theory.{Theory}
use Rattle.tm_trustee.specs.NestedAsks.{IsTied}
use Rattle.tm_trustee.specs.Serving.{done_by, ups_of}
use Rattle.tm_trustee.specs.Tables.{IsReady}
use Rattle.tm_trustee.specs.declared.trustee.Trustee.{Trustee}

module _ {V O R T Table Client Owner : Type 0} (theory : Theory V O R T Table Client Owner) (kind : Kind V O R T) where
  -- what a trustee has done is tied to each of its sides above
  abbrev pub AreTied : Type 0
  AreTied =
      (tables : List Table) (t : Trustee V Table O R T Client Owner) (own : Table) (i : ℕ) (up : ClientView V O R T)
      → IsReady theory kind tables t → slice_get tables t.number ≡ Some own → slice_get (ups_of theory t) i ≡ Some up
      → IsTied kind (theory.opening own) (done_by theory t) (t.number + 1 + i) up

  -- in what a trustee has done, and in its log, launched work on each object is latched
  abbrev pub AreLatched : Type 0
  AreLatched =
      (tables : List Table) (t : Trustee V Table O R T Client Owner) → IsReady theory kind tables t
      → IsLatched (done_by theory t) × IsLatched (theory.trustee_view t.side).log
