use Rattle.std.proofs.Common.{rules, ◌≡◌, ◌+◌, ◌<◌, ◌≤◌, ◌++◌, [], ◌∷◌, ◌∙◌, length, ap, subst, arith, append-nil, sym, refl}
use Rattle.tm_trustee.specs.declared.lane.Lane.{Lane}
use Rattle.tm_trustee.specs.Lanes.{after_answers_lem}
use Rattle.tm_trustee.specs.NestedAsks.{replied_in}
use Rattle.tm_trustee.proofs.Fronts.{empty_of, removed}
use Rattle.tm_trustee.proofs.Replied.{noting, noting_room}
use Rattle.tm_trustee.proofs.lane.Lane.take_in.Goals as goal

pub loop-answers-init : goal.loop-answers-init
loop-answers-init g c = record {
  came = refl;
  capacity = refl;
  few = let none = ap (λ l. length l) c.requires.told in let room = c.requires.room in let few = c.requires.few in omega (arith, none, room, few);
  only = refl;
}

pub note-requires : goal.note-requires
note-requires g c =
    let some : 0 < length c.loop-answers.answers.items = search rules in
    let few = c.loop-answers.invariant.few in
    omega (arith, some, few)

pub loop-answers-preserved : goal.loop-answers-preserved
loop-answers-preserved g c =
    let some : 0 < length c.loop-answers.answers.items = search rules in
    let all : c.loop-answers.answers.items ≡ c.remove-answer.result ∷ c.remove-answer.new.self.items =
    removed c.loop-answers.answers.items c.remove-answer.new.self.items c.remove-answer.result some c.remove-answer.ensures.value c.remove-answer.ensures.items in
    let i = c.loop-answers.invariant in record {
      came = noting c.loop-answers.self.came.items c.note.new.self.came.items _ c.loop-answers.answers.items c.remove-answer.new.self.items
          c.remove-answer.result all c.note.ensures.came i.came;
      capacity = c.note.ensures.capacity ∙ i.capacity;
      few = subst (λ n. length c.note.new.self.came.items + length c.remove-answer.new.self.items ≤ n) (sym c.note.ensures.capacity)
          (noting_room c.loop-answers.self.came.items c.note.new.self.came.items c.loop-answers.answers.items c.remove-answer.new.self.items
          c.remove-answer.result c.loop-answers.self.came.capacity all c.note.ensures.came i.few);
      only = c.note.ensures.only ∙ ap (λ (x : Lane _ _ _ _). record x { came = c.note.new.self.came }) i.only;
    }

pub returns : goal.returns
returns g c =
    let none : c.loop-answers.answers.items ≡ [] = empty_of c.loop-answers.answers.items (sym c.loop-answers-test.false ∙ c.is_empty.ensures) in
    let i = c.loop-answers.invariant in record {
      stage = c.after_answers-self.ensures ∙ ap (λ (x : Lane _ _ _ _). after_answers_lem x.stage) i.only;
      names = ap (λ (x : Lane _ _ _ _). x.names) i.only;
      askers = ap (λ (x : Lane _ _ _ _). x.askers) i.only;
      waits = ap (λ (x : Lane _ _ _ _). x.waits) i.only;
      came = sym (append-nil c.loop-answers.self.came.items) ∙ ap (λ l. c.loop-answers.self.came.items ++ replied_in l) (sym none) ∙ i.came;
      room = i.capacity;
    }
