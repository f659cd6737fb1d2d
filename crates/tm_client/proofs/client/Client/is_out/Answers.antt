use Rattle.std.proofs.Common.{◌≡◌, ◌≢◌, length, refl, sym, ◌∙◌, subst}
use Rattle.std.specs.Prelude.{IsSomeAnd}
use Rattle.std.specs.declared.option.Option.TheVariants.{None}
use Rattle.std.proofs.lemmas.Option.{slice_get_read}
use Rattle.tm_client.proofs.Looking.{some_out, none_out}
use Rattle.tm_client.proofs.client.Client.is_out.Goals as goal

pub returns-clause-out : goal.returns-clause-out
returns-clause-out g c = λ out.
    let theory = g.P.PairTable.theory in
    let books = c.args.self.now.books in
    let lane = c.index.result.now in
    let there = slice_get_read books.lanes.items (length books.lanes.items) c.args.trustee lane refl c.requires.trustee c.index.ensures in
    let (openings, is) = c.requires.client in
    subst (λ o. IsSomeAnd o (λ lane. (theory.client_view lane.side).out ≢ None)) (sym there)
    (some_out (theory.client_view lane.side).out (sym (is.lanes c.args.trustee lane there).out ∙ out))

pub returns-clause-free : goal.returns-clause-free
returns-clause-free g c = λ free.
    let theory = g.P.PairTable.theory in
    let books = c.args.self.now.books in
    let lane = c.index.result.now in
    let there = slice_get_read books.lanes.items (length books.lanes.items) c.args.trustee lane refl c.requires.trustee c.index.ensures in
    let (openings, is) = c.requires.client in
    subst (λ o. IsSomeAnd o (λ lane. (theory.client_view lane.side).out ≡ None)) (sym there)
    (none_out (theory.client_view lane.side).out (sym (is.lanes c.args.trustee lane there).out ∙ free))
