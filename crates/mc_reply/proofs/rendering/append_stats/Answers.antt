use Rattle.std.proofs.Common.{append_assoc}
use Rattle.std.proofs.lemmas.List.{append-nil}
use Rattle.mc_model.specs.Rendering.{bytes_of}
use Rattle.mc_reply.proofs.rendering.append_stats.Goals as goal

pub returns-clause-ok : goal.returns-clause-ok
unfolding bytes_of
returns-clause-ok c =
    let h = simp (append-nil, c.as_bytes.ensures.value, c.format.ensures.text, c.as_bytes-2.ensures.value, c.format-2.ensures.text) at c.extend_all.ensures.ok in
    simp append_assoc h
