use Rattle.mc_alone.proofs.Alone as proof
use Rattle.mc_alone.proofs.laws.one_client_meets_one_store.Goals as goal

pub returns : goal.returns
returns c =
    proof.one_client_meets_one_store
    (record {
      found = c.classes_are_found.ensures;
      objects_run = c.objects_run.ensures;
      one_place = c.one_place_runs.ensures;
      values_are = c.values_are_classes.ensures;
      parts_run = c.parts_run.ensures;
      desk_replies = c.desk_courses_are_replies.ensures;
    })
    c.classes_run_as_one.ensures
