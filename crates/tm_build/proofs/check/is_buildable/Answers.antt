use Rattle.std.proofs.Common.{sym, ◌∙◌}
use Rattle.tm_build.proofs.Parts.{from_parts}
use Rattle.tm_build.proofs.check.is_buildable.Goals as goal
use Rattle.tm_build.proofs.check.is_buildable.Goals.{then-is_in_range, else-is_in_range, then-are_well_placed, else-are_well_placed}

pub returns-then-has_room : goal.returns-then-has_room
returns-then-has_room g c =
    let room = c.if-has_room.true in (
      λ few.
          elim c.if-are_well_placed.branch [
            | then-are_well_placed w ↦
                let placed = w.if-are_well_placed.true in
                elim c.if-is_in_range.branch [
                  | then-is_in_range v ↦
                      from_parts c.args.config c.args.first.now.items (c.is_in_range.ensures.0 v.if-is_in_range.true) (v.are_well_placed.ensures.0 (sym v.value-is ∙ placed))
                      (w.has_room.ensures.0 (sym w.value-is ∙ room)) (c.are_few.ensures.0 few)
                  | else-is_in_range v ↦ let no = v.value-is in absurd cc
                ]
            | else-are_well_placed w ↦ let no = w.value-is in absurd cc
          ],
      λ can. c.are_few.ensures.1 can.named,
    )
