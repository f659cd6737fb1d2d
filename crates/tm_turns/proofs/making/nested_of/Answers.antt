use Rattle.std.proofs.Common.{◌+◌, length, map, ◌∙◌, ap, arith}
use Rattle.std.proofs.lemmas.List.{length-map, map_push, length_push}
use Rattle.tm_turns.proofs.Made.{nested_none, nested_more}
use Rattle.tm_turns.proofs.making.nested_of.Goals as goal

pub loop-number-init : goal.loop-number-init
loop-number-init g c =
    record {
      as_many = ap (λ xs. length xs) c.new-nested.ensures.items;
      each = nested_none c.args.config c.args.first.now.items _ (ap (λ l. map (λ v. v.items) l) c.new-nested.ensures.items);
    }

pub loop-number-preserved : goal.loop-number-preserved
loop-number-preserved g c =
    let many = c.loop-number.invariant.as_many in
    record {
      as_many = ap (λ xs. length xs) c.in_ok-push.ensures.items ∙ length_push c.loop-number.nested.items c.in_ok-held_by.field-0 ∙ ap (λ k. k + 1) many;
      each =
          nested_more c.args.config c.args.first.now.items c.loop-number.number (map (λ v. v.items) c.loop-number.nested.items) (map (λ v. v.items) c.push.new.self.items)
          c.in_ok-held_by.field-0.items (length-map c.loop-number.nested.items (λ v. v.items) ∙ many) c.loop-number.invariant.each
          (ap (λ l. map (λ v. v.items) l) c.in_ok-push.ensures.items ∙ map_push (λ v. v.items) c.loop-number.nested.items c.in_ok-held_by.field-0) c.in_ok-held_by.ensures;
    }

pub returns : goal.returns
returns g c =
    let past = c.loop-number-test.false in
    let end = c.loop-number.auto.number-end in
    let many = c.loop-number.invariant.as_many in
    let same = length-map c.loop-number.nested.items (λ v. v.items) in
    record { as_many = omega (arith, past, end, many, same); each = c.loop-number.invariant.each }
