-- What a legal log tells alone of the holds of a place that has not said Bye.
use Rattle.std.proofs.Common.{◌∙◌, ap, arith}
use Rattle.tm_seq.specs.Kind.{Kind}
use Rattle.tm_model.specs.State.{object_of}
use Rattle.tm_model.specs.Serve.{state_after}
use Rattle.tm_model.specs.Holds.{has_bye}
use Rattle.tm_model.specs.ClientLaws.{LogsTellHolds}
use Rattle.tm_core.proofs.ClientAnswers.{answers_are_as_many}
use Rattle.tm_core.proofs.LogTallied.{log_tallied}
use Rattle.tm_core.proofs.Promised.{holds_one}
use Rattle.tm_core.proofs.Tallies.{bye_at}

module _ {V O R T : Type 0} (kind : Kind V O R T) where
  pub logs_tell_holds : LogsTellHolds kind
  logs_tell_holds opening log c got is legal lt cut still =
      let s = state_after kind opening log in
      let settled = (answers_are_as_many kind opening log c got cut).0 in
      let tallied = log_tallied kind opening c log is legal lt settled (λ before after e. absurd (still (ap has_bye e ∙ bye_at before after))) in
      record {
        holds = λ id. tallied.holds still id;
        most = λ id. let all = tallied.holds still id in omega (arith, all);
        live = λ id some. let all = tallied.holds still id in holds_one (object_of s.live id) c (omega (arith, all, some));
        launches = tallied.launches;
      }
