use Rattle.std.proofs.Common.{rules, ◌≡◌, ◌++◌, length, map, refl, sym, ◌∙◌, ap}
use Rattle.std.specs.Prelude.{slice_get, slice_set}
use Rattle.std.specs.declared.option.Option.TheVariants.{Some}
use Rattle.std.proofs.lemmas.Option.{slice_get_within}
use Rattle.tm_task.specs.declared.deed.Deed.TheVariants.{Resumed}
use Rattle.tm_task.specs.declared.stage.Stage.TheVariants.{Waits}
use Rattle.tm_task.specs.Stages.{stage_of}
use Rattle.tm_task.proofs.Places.{read_at, set_twice}
use Rattle.tm_task.proofs.tasks.Tasks.resume.Goals as goal

pub returns : goal.returns
returns g c =
    let stages = c.args.self.now.stages.items in
    let lt = slice_get_within stages c.args.number (Waits c.requires.0 c.requires.1) c.requires.2 in
    let at : slice_get stages c.args.number ≡ Some (Waits c.in-Waits.trust c.in-Waits.task) =
    read_at stages c.args.number c.index_mut.result.now lt c.index_mut.ensures.value ∙ ap (λ s. Some s) (sym c.in-Waits.ensures.value) in
    let many : c.len.result ≡ length c.args.self.now.trusts.items = search rules in
    let is : c.stage_of.result ≡ stage_of (length c.args.self.now.trusts.items) c.resume-next.result =
    c.stage_of.ensures ∙ ap (λ n. stage_of n c.resume-next.result) many in
    record {
      move = c.resume-next.result;
      told = c.resumed-self.ensures
          ∙ ap (λ l. c.args.self.now.told.items ++ map (λ got. Resumed c.args.number got c.resume-next.result) l) c.answer_of-answer.ensures;
      steps = record {
        trust = c.in-Waits.trust;
        task = c.in-Waits.task;
        was = at;
        goes_on = c.resume-next.ensures;
        now = set_twice stages c.args.number c.replace-stage.new.dest c.stage_of.result ∙ ap (slice_set stages c.args.number) is;
      };
      rest = record { trusts = refl; room = refl; stages_room = refl; outs = refl };
    }
