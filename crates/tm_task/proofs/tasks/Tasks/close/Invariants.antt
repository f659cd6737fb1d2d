use Rattle.std.proofs.Common.{◌≡◌, ◌≤◌, map, vec_capacity}
use Rattle.tm_task.specs.Stages.{out_of}
use Rattle.tm_task.proofs.tasks.Tasks.close.Given as goal

-- the outputs of the tasks so far, with room for all
abbrev pub invariant-loop-stage : goal.invariant-loop-stage
invariant-loop-stage g l = (l.outs.items ≡ map out_of l.yielded) × (vec_capacity l.initial.outs ≤ vec_capacity l.outs)
