use Rattle.std.proofs.Common.{◌≡◌, ◌≢◌, Bool, true, false, List, [], ◌∷◌, ◌++◌, refl, sym, ap, subst, ◌∙◌, append_assoc}
use Rattle.std.specs.Prelude.{◌↔◌}
use Rattle.std.specs.List.{AllByRecursion}
use Rattle.std.proofs.lemmas.Bool.{false≢true}
use Rattle.mc_next.specs.declared.piece.Piece.{Piece}
use Rattle.mc_next.specs.Works.{left_of, IsOfStore, HasAskedPieces}
use Rattle.mc_next.proofs.Clients.{same_client}
use Rattle.mc_next.proofs.Working.{all_behind, asked_none, asked_then, asked_still, may_then, may_still}
use Rattle.mc_next.proofs.work.Work.ask_on.Goals as goal

none_if : (b : Bool) (pieces : List Piece) → ((b ≡ true) ↔ (pieces ≢ [])) → b ≡ false → pieces ≡ []
none_if b [] h e = refl
none_if b (p ∷ pieces) h e = absurd (false≢true (sym e ∙ h.1 (λ n. absurd cc)))

some_more : (pieces : List Piece) (p : Piece) → pieces ++ p ∷ [] ≢ []
some_more [] p e = absurd cc
some_more (q ∷ pieces) p e = absurd cc

pub pieces-init : goal.pieces-init
pieces-init g c = record {
  pieces = [];
  left = refl;
  some = (λ e. absurd (false≢true e), λ some. absurd (some refl));
  has = asked_none g.P.PairTable.theory.client_view c.args.trusts.now c.args.self.now c.args.client.now.books;
  same = λ _. refl;
}

pub ask_one-requires-clause-may : goal.ask_one-requires-clause-may
ask_one-requires-clause-may g c =
    let view = g.P.PairTable.theory.client_view in
    let i = c.pieces.invariant in
    may_still view c.args.trusts.now c.pieces.self _ c.pieces.client.books refl
    (may_then view c.args.trusts.now i.pieces c.args.self.now c.pieces.self c.args.client.now.books c.pieces.client.books c.requires.may i.has)

pub ask_one-requires-clause-class : goal.ask_one-requires-clause-class
ask_one-requires-clause-class g c =
    let i = c.pieces.invariant in
    let behind = all_behind IsOfStore i.pieces (left_of c.pieces.self.todo) (subst (λ l. AllByRecursion IsOfStore l) i.left c.requires.classes) in
    (subst (λ l. AllByRecursion IsOfStore l) c.in-Some.ensures.left behind).0

pub returns-then-not-ask_one-clause-asked : goal.returns-then-not-ask_one-clause-asked
returns-then-not-ask_one-clause-asked g c =
    let view = g.P.PairTable.theory.client_view in
    let i = c.pieces.invariant in
    let back = c.if-not-ask_one.ensures.back refl in (
      i.pieces,
      i.left ∙ ap (λ l. i.pieces ++ l) (c.in-Some.ensures.left ∙ sym back.0),
      i.some,
      subst (λ b. HasAskedPieces view c.args.trusts.now i.pieces c.args.self.now c.ask_one.new.self c.args.client.now.books b) (sym back.3)
          (asked_still view c.args.trusts.now i.pieces c.args.self.now c.pieces.self c.ask_one.new.self c.args.client.now.books c.pieces.client.books back.1 back.2 i.has),
    )

pub returns-then-not-ask_one-clause-stays : goal.returns-then-not-ask_one-clause-stays
returns-then-not-ask_one-clause-stays g c = λ none.
    let i = c.pieces.invariant in
    let back = c.if-not-ask_one.ensures.back refl in (
      same_client c.ask_one.new.client c.args.client.now (back.3 ∙ ap (λ client. client.books) (i.same none)),
      back.0 ∙ sym c.in-Some.ensures.left ∙ sym (i.left ∙ ap (λ l. l ++ left_of c.pieces.self.todo) (none_if c.pieces.asked i.pieces i.some none)),
    )

pub pieces-preserved : goal.pieces-preserved
pieces-preserved g c =
    let view = g.P.PairTable.theory.client_view in
    let i = c.pieces.invariant in
    let went = c.if-not-ask_one.ensures.asked refl in record {
      pieces = i.pieces ++ c.in-Some.piece ∷ [];
      left =
          i.left ∙ ap (λ l. i.pieces ++ l) (c.in-Some.ensures.left ∙ ap (λ t. c.in-Some.piece ∷ left_of t) (sym went.1))
          ∙ sym (append_assoc i.pieces (c.in-Some.piece ∷ []) (left_of c.ask_one.new.self.todo));
      some = (λ _. some_more i.pieces c.in-Some.piece, λ _. refl);
      has = asked_then view c.args.trusts.now i.pieces (c.in-Some.piece ∷ []) c.args.self.now _ c.ask_one.new.self c.args.client.now.books c.pieces.client.books c.ask_one.new.client.books
          (asked_still view c.args.trusts.now i.pieces c.args.self.now c.pieces.self _ c.args.client.now.books c.pieces.client.books refl refl i.has) went.0;
      same = λ e. absurd (false≢true (sym e));
    }

pub returns-clause-stays : goal.returns-clause-stays
returns-clause-stays g c = λ none.
    let i = c.pieces.invariant in (
      i.same none,
      sym c.in_default.ensures.left ∙ sym (i.left ∙ ap (λ l. l ++ left_of c.pieces.self.todo) (none_if c.pieces.asked i.pieces i.some none)),
    )
