use Rattle.std.proofs.Common.{slice_set, arith, subst, sym}
use Rattle.tm_asking.specs.Asking.{IsAsking}
use Rattle.tm_asking.proofs.Taking.{within, gives, taking_goes_on}
use Rattle.tm_asking.proofs.asking.Asking.take.Goals as goal

pub noted-reply-requires : goal.noted-reply-requires
noted-reply-requires g c =
    let (was, asked, is) = c.requires.asking in
    gives g.P.PairTable.theory.client_view c.args.missing c.in-Some.number c.in-Some.got was asked c.args.self.now.replies.items c.args.client.now.books c.next.new.self.books is
    c.in-Some.ensures.next

pub index_mut-requires : goal.index_mut-requires
index_mut-requires g c =
    let (was, asked, is) = c.requires.asking in
    let lt = within g.P.PairTable.theory.client_view c.args.missing c.in-Some.number c.in-Some.got was asked c.args.self.now.replies.items c.args.client.now.books
    c.next.new.self.books is c.in-Some.ensures.next in
    let many = c.args.self.now.replies.ok.0 in
    omega (arith, lt, many)

pub returns-clause-asks : goal.returns-clause-asks
returns-clause-asks g c = λ was asked is.
    let view = g.P.PairTable.theory.client_view in
    let new = c.next.new.self.books in
    let replies = c.args.self.now.replies.items in
    let k = c.in-Some.number in
    let on = taking_goes_on view c.args.missing k c.in-Some.got was asked replies c.args.client.now.books new is c.in-Some.ensures.next in
    subst (λ r. IsAsking view c.args.missing was asked (slice_set replies k r) new) (sym c.noted-reply.ensures.reply) on
