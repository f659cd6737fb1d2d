-- What a clerk does.
use Rattle.std.specs.Prelude.{ℕ, ◌+◌, ◌-◌, ◌^◌, min, zero, suc}
use Rattle.tm_seq.specs.Kind.{Kind}
use Rattle.tm_seq.specs.declared.kind.Event.{Event}
use Rattle.tm_seq.specs.declared.kind.Event.TheVariants.{Begin, Reply, NotAbove, NoObject}
use Rattle.tm_seq.specs.declared.kind.Next.{Next}
use Rattle.tm_seq.specs.declared.kind.Next.TheVariants.{Ask, Done}
use Rattle.tm_probe.specs.declared.shelf.ShelfOp.{ShelfOp}
use Rattle.tm_probe.specs.declared.shelf.ShelfOp.TheVariants.{Count}
use Rattle.tm_probe.specs.declared.shelf.ShelfReply.{ShelfReply}
use Rattle.tm_probe.specs.declared.shelf.ShelfReply.TheVariants.{Books, NotHere, NoMemory}
use Rattle.tm_probe.specs.declared.clerk.Clerk.{Clerk}
use Rattle.tm_probe.specs.declared.clerk.ClerkTask.{ClerkTask}
use Rattle.tm_probe.specs.Shelves.{is_no_memory}

-- so many shelves of a trustee are still to be asked, and so many books were found
abbrev pub ask_from : ℕ → ℕ → ℕ → Next ShelfOp ClerkTask ShelfReply
ask_from trustee zero books = Done (Books books)
ask_from trustee (suc n) books = Ask trustee n Count (record { trustee = trustee; shelves = n; books = books })

-- the next shelf is asked, from the last to the first
abbrev pub clerk_next : ClerkTask → Next ShelfOp ClerkTask ShelfReply
clerk_next task = ask_from task.trustee task.shelves task.books

-- what a task does when it is told an event; a reply that is no number of books ends it
abbrev pub clerk_told : ClerkTask → Event ShelfReply → Next ShelfOp ClerkTask ShelfReply
clerk_told task Begin = clerk_next task
clerk_told task (Reply (Books more)) = clerk_next (record task { books = min (task.books + more) (2 ^ 64 - 1) })
clerk_told task (Reply NotHere) = Done NotHere
clerk_told task (Reply NoMemory) = Done NoMemory
clerk_told task NotAbove = Done NotHere
clerk_told task NoObject = Done NotHere

-- a clerk as a kind; it answers no operation
abbrev pub clerk_kind : Kind Clerk ShelfOp ShelfReply ClerkTask
clerk_kind = record {
  step = λ v op. (v, NotHere);
  advance = λ v task event. (v, clerk_told task event);
  left = λ task. task.shelves;
  no_memory = NoMemory;
  lacks = is_no_memory;
}
