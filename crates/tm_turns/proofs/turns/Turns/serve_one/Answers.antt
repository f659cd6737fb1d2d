use Rattle.std.proofs.Common.{◌≡◌, ◌<◌, length, length-set, sym, ◌∙◌, ap, subst}
use Rattle.std.specs.Prelude.{nat_lt, slice_get}
use Rattle.std.specs.declared.option.Option.TheVariants.{Some}
use Rattle.tm_trustee.proofs.Elements.{read_at, set_here, same_element}
use Rattle.tm_turns.proofs.turns.Turns.serve_one.Goals as goal

pub returns : goal.returns
returns g c =
    let serves = c.serve.ensures.serves in
    let items = c.serve.new.self.trustees.items in
    let t = c.args.trustee in
    let within : t < length items =
    subst (λ n. t < n) (sym (ap (λ xs. length xs) serves.trustees ∙ length-set c.args.self.now.trustees.items t serves.becomes)) c.requires.trustee in
    let at = read_at items t c.index.result.now within c.index.ensures in
    let becomes : slice_get items t ≡ Some serves.becomes =
    subst (λ xs. slice_get xs t ≡ Some serves.becomes) (sym serves.trustees) (set_here c.args.self.now.trustees.items t serves.becomes c.requires.trustee) in
    let same = same_element items t serves.becomes c.index.result.now becomes at in
    (c.serve.result, serves, ap (λ n. nat_lt 0 n) (c.moved.ensures ∙ ap (λ x. x.moved) same))
