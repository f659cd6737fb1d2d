use Rattle.std.proofs.Common.{◌<◌, ◌++◌, [], ◌∷◌, length, refl, sym, ◌∙◌, ap, subst, arith, append_assoc, rules}
use Rattle.std.specs.List.{AllByRecursion}
use Rattle.std.proofs.lemmas.List.{length-map}
use Rattle.tm_build.proofs.Dealt.{all_middle, split_none, split_more, split_all}
use Rattle.tm_build.proofs.dealing.split.Goals as goal

pub loop-f-init : goal.loop-f-init
loop-f-init g c = record { dealt = split_none c.args.trustees c.in_ok-lists.lists.items (λ l. l.items) c.in_ok-lists.ensures; rest = search rules }

pub index_mut-list-requires : goal.index_mut-list-requires
index_mut-list-requires g c =
    let whole = ap (λ l. c.loop-f.yielded ++ l) (sym c.in-Some.ensures.steps.0) ∙ c.loop-f.invariant.rest in
    let lt : c.in-Some.f.trustee < c.args.trustees =
    all_middle (λ f. f.trustee < c.args.trustees) c.loop-f.yielded c.next.new.self.rest.items c.in-Some.f
    (subst (λ l. AllByRecursion (λ f. f.trustee < c.args.trustees) l) (sym whole) c.requires) in
    let many = c.loop-f.invariant.dealt.count in
    let same = length-map c.loop-f.lists.items (λ l. l.items) in
    let len = c.loop-f.lists.ok.0 in
    omega (arith, lt, many, same, len)

pub loop-f-preserved : goal.loop-f-preserved
loop-f-preserved g c =
    let more = ap (λ l. c.loop-f.yielded ++ l) (sym c.in-Some.ensures.steps.0) ∙ c.loop-f.invariant.rest in
    let below : c.in-Some.f.trustee < c.args.trustees =
    all_middle (λ f. f.trustee < c.args.trustees) c.loop-f.yielded c.next.new.self.rest.items c.in-Some.f
    (subst (λ l. AllByRecursion (λ f. f.trustee < c.args.trustees) l) (sym more) c.requires) in
    let many = c.loop-f.invariant.dealt.count in
    let same = length-map c.loop-f.lists.items (λ l. l.items) in
    let lt : c.in-Some.f.trustee < length c.loop-f.lists.items = omega (arith, below, many, same) in
    record {
      dealt =
          split_more c.args.trustees c.loop-f.yielded c.in-Some.f c.loop-f.lists.items _ c.index_mut-list.result.now c.push.new.self (λ l. l.items) lt c.index_mut-list.ensures.value
          c.in_ok-push.ensures.items refl c.loop-f.invariant.dealt;
      rest = append_assoc c.loop-f.yielded (c.in-Some.f ∷ []) c.next.new.self.rest.items ∙ more;
    }

pub returns : goal.returns
returns g c =
    let none = c.loop-f.f-iterator.rest.ok.0 in
    let end = c.in-None.ensures.steps.0 in
    split_all c.args.trustees c.loop-f.yielded c.args.first.items c.loop-f.f-iterator.rest.items _ (omega (arith, none, end)) c.loop-f.invariant.rest
    c.loop-f.invariant.dealt
