-- Shelves and clerks are lawful kinds.
use Rattle.std.specs.Prelude.{◌≡◌, ◌↔◌, ℕ, IsTrue, refl, zero, suc}
use Rattle.std.proofs.Common.{arith}
use Rattle.tm_seq.specs.Kind.{KindLaws, Falls}
use Rattle.tm_seq.specs.declared.kind.Event.{Event}
use Rattle.tm_seq.specs.declared.kind.Event.TheVariants.{Begin, Reply, NotAbove, NoObject}
use Rattle.tm_probe.specs.declared.shelf.Shelf.{Shelf}
use Rattle.tm_probe.specs.declared.shelf.ShelfOp.{ShelfOp}
use Rattle.tm_probe.specs.declared.shelf.ShelfOp.TheVariants.{Put, Count}
use Rattle.tm_probe.specs.declared.shelf.ShelfReply.{ShelfReply}
use Rattle.tm_probe.specs.declared.shelf.ShelfReply.TheVariants.{Books, NotHere, NoMemory}
use Rattle.tm_probe.specs.declared.clerk.ClerkTask.{ClerkTask}
use Rattle.tm_probe.specs.Shelves.{is_no_memory, shelf_kind, shelf_step}
use Rattle.tm_probe.specs.Clerks.{ask_from, clerk_kind, clerk_told}

lacks_is : (r : ShelfReply) → IsTrue (is_no_memory r) ↔ (r ≡ NoMemory)
lacks_is NoMemory = (λ _. refl, λ _. refl)
lacks_is (Books n) = (λ h. cc, λ e. cc)
lacks_is NotHere = (λ h. cc, λ e. cc)

kept : (v : Shelf) (op : ShelfOp) → (shelf_step v op).1 ≡ NoMemory → (shelf_step v op).0 ≡ v
kept v (Put books) e = cc
kept v Count e = refl

pub shelf_laws : KindLaws shelf_kind
shelf_laws = record {
  lacks_is = lacks_is;
  step_kept = kept;
  advance_kept = λ v task event e. refl;
  falls = λ v task event. tt;
}

asks : (task : ClerkTask) (trustee shelves books : ℕ) → task.shelves ≡ shelves → Falls (λ t. t.shelves) task (ask_from trustee shelves books)
asks task trustee zero books e = tt
asks task trustee (suc n) books e = omega (arith, e)

falls : (task : ClerkTask) (event : Event ShelfReply) → Falls (λ t. t.shelves) task (clerk_told task event)
falls task Begin = asks task _ _ _ refl
falls task (Reply (Books more)) = asks task _ _ _ refl
falls task (Reply NotHere) = tt
falls task (Reply NoMemory) = tt
falls task NotAbove = tt
falls task NoObject = tt

pub clerk_laws : KindLaws clerk_kind
clerk_laws = record {
  lacks_is = lacks_is;
  step_kept = λ v op e. refl;
  advance_kept = λ v task event e. refl;
  falls = λ v task event. falls task event;
}
