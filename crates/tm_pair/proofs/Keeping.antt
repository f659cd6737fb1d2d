-- What calls one after the other keep of a table. Other crates import this file.
use Rattle.std.proofs.Common.{◌∙◌}
use Rattle.tm_seq.specs.Kind.{Kind}
use Rattle.tm_pair.specs.Theory.{Theory, KeepsClients, TheoryLaws}

module _ {V O R T Table Client Owner : Type 0} (theory : Theory V O R T Table Client Owner) (kind : Kind V O R T) (laws : TheoryLaws theory kind) where
  -- two calls at the trustee's side
  pub clients_kept_on :
      (was mid now : Table) (between after : Owner) → KeepsClients theory was mid between → KeepsClients theory mid now after
      → KeepsClients theory was now after
  clients_kept_on was mid now between after first then = record {
    same = laws.same_trans was mid now first.same then.same;
    opening = then.opening ∙ first.opening;
    mine = then.mine;
    clients = λ other has. then.clients other (first.clients other has);
  }
