-- One turn of the whole, by what the calls say.
use Rattle.std.proofs.Common.{◌≡◌, ℕ, ◌+◌, List, sym, subst}
use Rattle.std.specs.Prelude.{slice_get, slice_set}
use Rattle.std.specs.declared.option.Option.TheVariants.{Some}
use Rattle.tm_seq.specs.Kind.{Kind}
use Rattle.tm_pair.specs.Plain.{plain_theory}
use Rattle.tm_pair.specs.declared.plain.PlainTable.{PlainTable}
use Rattle.tm_trustee.specs.Tables.{IsReady, KeepsTables}
use Rattle.tm_trustee.specs.Turn.{HasGoneUp, KeepsParts, HasTurned as HasServed}
use Rattle.tm_trustee.specs.declared.served.Served.{Served}
use Rattle.tm_client.specs.declared.answers.Turn.{Turn}
use Rattle.tm_turns.specs.Whole.{OneTrustee}
use Rattle.tm_turns.specs.Going.{TurnsAt, ServesAt}
use Rattle.tm_turns.specs.declared.turns.Turns.{Turns}
use Rattle.tm_turns.specs.Driving.{TurnedAt}
use Rattle.tm_turns.proofs.TurnKeeps.{turn_keeps}
use Rattle.tm_turns.proofs.ServeKeeps.{serve_keeps}

module _ {V C O R T : Type 0} (kind : Kind V O R T) where
  pub turned_at : (c t : ℕ) (answer : Turn) (old new : Turns V C O R T) → TurnedAt kind c t answer old new → TurnsAt kind c t answer old new
  turned_at c t answer old new is = record {
    client = is.client;
    becomes = is.becomes;
    was = is.was;
    now = is.now;
    of_client = is.of_client;
    of_table = is.of_table;
    turned = is.turned;
    clients = is.clients;
    tables = is.tables;
    trustees = is.trustees;
    counts = is.counts;
    keeps = turn_keeps kind c t answer old new is;
  }

  -- what a serving turn says of the tables that it was passed, and of what they became
  pub record IsServed (t : ℕ) (served : Served) (tables becomes_tables : List (PlainTable V O R T)) (trustee becomes : OneTrustee V O R T)
      (old new : Turns V C O R T) : Type 0 where
    pub same : tables ≡ old.tables.items
    pub same_new : new.tables.items ≡ becomes_tables
    pub of_trustee : slice_get old.trustees.items t ≡ Some trustee
    pub ready : IsReady (plain_theory kind) kind becomes_tables becomes
    pub turned : (was now : PlainTable V O R T) → slice_get tables trustee.number ≡ Some was → slice_get becomes_tables trustee.number ≡ Some now
        → HasServed (plain_theory kind) kind was now trustee becomes served
    pub above : HasGoneUp (plain_theory kind) tables becomes_tables trustee becomes
    pub keeps : KeepsTables (plain_theory kind) tables becomes_tables trustee.number (trustee.clients + trustee.number)
    pub parts : KeepsParts trustee becomes
    pub trustees : new.trustees.items ≡ slice_set old.trustees.items t becomes
    pub clients : new.clients ≡ old.clients
    pub counts : new.counts ≡ old.counts

  pub served_at :
      (t : ℕ) (served : Served) (tables becomes_tables : List (PlainTable V O R T)) (trustee becomes : OneTrustee V O R T) (old new : Turns V C O R T)
      → IsServed t served tables becomes_tables trustee becomes old new → ServesAt kind t served old new
  served_at t served tables becomes_tables trustee becomes old new is =
      let kept =
      subst (λ us. KeepsTables (plain_theory kind) old.tables.items us trustee.number (trustee.clients + trustee.number)) (sym is.same_new)
      (subst (λ ts. KeepsTables (plain_theory kind) ts becomes_tables trustee.number (trustee.clients + trustee.number)) is.same is.keeps) in
      record {
        trustee = trustee;
        becomes = becomes;
        of_trustee = is.of_trustee;
        turned = λ was now at e.
            is.turned was now (subst (λ ts. slice_get ts trustee.number ≡ Some was) (sym is.same) at)
            (subst (λ ts. slice_get ts trustee.number ≡ Some now) is.same_new e);
        above = subst (λ us. HasGoneUp (plain_theory kind) old.tables.items us trustee becomes) (sym is.same_new)
            (subst (λ ts. HasGoneUp (plain_theory kind) ts becomes_tables trustee becomes) is.same is.above);
        tables = kept;
        parts = is.parts;
        trustees = is.trustees;
        clients = is.clients;
        counts = is.counts;
        keeps = serve_keeps kind t old new
            (record {
              trustee = trustee;
              becomes = becomes;
              of_trustee = is.of_trustee;
              ready = subst (λ us. IsReady (plain_theory kind) kind us becomes) (sym is.same_new) is.ready;
              keeps = kept;
              parts = is.parts;
              trustees = is.trustees;
              clients = is.clients;
              counts = is.counts;
            });
      }
