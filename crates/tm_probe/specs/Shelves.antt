-- What a shelf does.
use Rattle.std.specs.Prelude.{Bool, true, false}
use Rattle.tm_seq.specs.Kind.{Kind}
use Rattle.tm_seq.specs.declared.kind.Next.TheVariants.{Done}
use Rattle.tm_probe.specs.declared.shelf.Shelf.{Shelf}
use Rattle.tm_probe.specs.declared.shelf.ShelfOp.{ShelfOp}
use Rattle.tm_probe.specs.declared.shelf.ShelfOp.TheVariants.{Put, Count}
use Rattle.tm_probe.specs.declared.shelf.ShelfReply.{ShelfReply}
use Rattle.tm_probe.specs.declared.shelf.ShelfReply.TheVariants.{Books, NotHere, NoMemory}
use Rattle.tm_probe.specs.declared.shelf.NoTask.{NoTask}

-- an operation of a shelf
abbrev pub shelf_step : Shelf → ShelfOp → Shelf × ShelfReply
shelf_step v (Put books) = (record { books = books }, Books books)
shelf_step v Count = (v, Books v.books)

-- whether a reply is for want of memory
abbrev pub is_no_memory : ShelfReply → Bool
is_no_memory NoMemory = true
is_no_memory (Books _) = false
is_no_memory NotHere = false

-- a shelf as a kind; no work is launched there
abbrev pub shelf_kind : Kind Shelf ShelfOp ShelfReply NoTask
shelf_kind = record {
  step = shelf_step;
  advance = λ v task event. (v, Done NotHere);
  left = λ task. 0;
  no_memory = NoMemory;
  lacks = is_no_memory;
}
