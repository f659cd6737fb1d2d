-- One question of a command is asked, by the trust of its object.
use Rattle.std.proofs.Common.{◌≡◌, ℕ, ◌+◌, ◌<◌, List, [], ◌∷◌, ◌++◌, length, sym, ap, subst, ◌∙◌, arith}
use Rattle.std.specs.Prelude.{slice_get, get_or}
use Rattle.std.proofs.lemmas.Option.{slice_get-get_or}
use Rattle.std.specs.declared.option.Option.TheVariants.{Some}
use Rattle.tm_seq.specs.declared.sum.Sum.TheVariants as sum
use Rattle.tm_batch.specs.declared.message.Name.{Name}
use Rattle.tm_batch.specs.declared.message.Request.{Request}
use Rattle.tm_batch.specs.declared.message.Request.TheVariants.{Apply, Launch}
use Rattle.tm_client.specs.declared.trust.Trust.{Trust}
use Rattle.tm_client.specs.Asking.{IsFull, HasAsked}
use Rattle.tm_client.specs.Clients.{IsClient}
use Rattle.tm_asking.specs.Asking.{IsAsking, operation, launched}
use Rattle.mc_item.specs.declared.limits.TheConstants.{CLASSES}
use Rattle.mc_model.specs.declared.reply.ShardReply.{ShardReply}
use Rattle.mc_model.specs.declared.reply.ShardReply.TheVariants.{Missing}
use Rattle.mc_shard.specs.declared.op.ShardOp.{ShardOp}
use Rattle.mc_route.specs.declared.desk.DeskTask.{DeskTask}
use Rattle.mc_route.specs.Places.{StoreValue}
use Rattle.mc_next.specs.declared.piece.Piece.{Piece}
use Rattle.mc_next.specs.declared.piece.Piece.TheVariants as piece
use Rattle.mc_next.specs.declared.work.Work.{Work}
use Rattle.mc_next.specs.Parts.{StoreTask, StoreView, StoreQuestion}
use Rattle.mc_next.specs.Clients.{StoreBooks, AreStoreTrusts}
use Rattle.mc_next.specs.Works.{StoreState, question_of, name_in, named_by, HasAskedPieces, IsFullFor}
use Rattle.mc_next.proofs.Clients.{keeps_asked}

-- a trust of a list, by its number
abbrev pub trust_at : List Trust → ℕ → Trust
trust_at trusts i = get_or trusts i (record { trustee = 0; name = record { id = 0; place = 0 }; client = 0; at = 0 })

pub second_is : {task other : DeskTask} → ◌≡◌ {A = StoreTask} (sum.Second task) (sum.Second other) → task ≡ other
second_is e = cc

module _ {D : Type 0} (trustees : ℕ) (books : StoreBooks D) (trusts : List Trust) (a : AreStoreTrusts trustees books trusts) where
  -- that of a class, and of the desk, is there
  pub class_there : (class : ℕ) → class < CLASSES → slice_get trusts class ≡ Some (trust_at trusts class)
  class_there class below = slice_get-get_or trusts class _ (let count = a.count in omega (arith, count, below))

  pub desk_there : slice_get trusts CLASSES ≡ Some (trust_at trusts CLASSES)
  desk_there = slice_get-get_or trusts CLASSES _ (let count = a.count in omega (arith, count))

module _ {D : Type 0} (trustees : ℕ) (books : StoreBooks D) (trusts : List Trust) (a : AreStoreTrusts trustees books trusts) (trust : Trust) where
  -- by the trust of its class, or of the desk
  pub part_is : (class : ℕ) (op : ShardOp) → class < CLASSES → slice_get trusts class ≡ Some trust
      → question_of (named_by trusts) trustees (piece.Part (record { class = class; op = op })) ≡ operation trust op
  part_is class op lt at =
      let Asks : ℕ → Name → StoreQuestion = λ t n. record { trustee = t; request = Apply n op } in
      ap (λ t. Asks t (named_by trusts class)) (sym (a.classes class trust lt at)) ∙ ap (λ o. Asks trust.trustee (name_in o)) at

  pub launch_is : (task : DeskTask) → slice_get trusts CLASSES ≡ Some trust
      → question_of (named_by trusts) trustees (piece.Launch task) ≡ launched trust (sum.Second task)
  launch_is task at =
      let Asks : ℕ → Name → StoreQuestion = λ t n. record { trustee = t; request = Launch n (sum.Second task) } in
      ap (λ t. Asks t (named_by trusts CLASSES)) (sym (a.desk trust at)) ∙ ap (λ o. Asks trust.trustee (name_in o)) at

  pub part_below : (class : ℕ) → class < CLASSES → slice_get trusts class ≡ Some trust → trust.trustee < trustees
  part_below class lt at =
      let is = a.classes class trust lt at in
      let few = a.fewest in
      omega (arith, is, few)

  pub launch_below : slice_get trusts CLASSES ≡ Some trust → trust.trustee < trustees
  launch_below at =
      let is = a.desk trust at in
      let few = a.fewest in
      omega (arith, is, few)

  pub part_full : (class : ℕ) (op : ShardOp) → class < CLASSES → slice_get trusts class ≡ Some trust → IsFull books trust.trustee
      → IsFullFor trustees (piece.Part (record { class = class; op = op })) books
  part_full class op lt at full = subst (λ t. IsFull books t) (a.classes class trust lt at) full

  pub launch_full : (task : DeskTask) → slice_get trusts CLASSES ≡ Some trust → IsFull books trust.trustee → IsFullFor trustees (piece.Launch task) books
  launch_full task at full = subst (λ t. IsFull books t) (a.desk trust at) full

module _ {D : Type 0} (view : D → StoreView) where
  pub asked_piece :
      (trusts : List Trust) (p : Piece) (q : StoreQuestion) (t : ℕ) (request : Request StoreValue ShardOp ShardReply StoreTask) (w w_new : Work) (books books_new : StoreBooks D)
      → question_of (named_by trusts) (length books.lanes.items) p ≡ q → w_new.frame ≡ w.frame → w_new.asking.asked ≡ w.asking.asked + 1 → w_new.asking.replies ≡ w.asking.replies
      → ((was : ℕ → StoreView) (asked : List StoreQuestion) → length asked ≡ w.asking.asked → IsAsking view Missing was asked w.asking.replies.items books
      → IsAsking view Missing was (asked ++ q ∷ []) w_new.asking.replies.items books_new)
      → HasAsked t request w.asking.asked 0 books books_new
      → ((openings : ℕ → StoreState) → IsClient view openings books → IsClient view openings books_new)
      → HasAskedPieces view trusts (p ∷ []) w w_new books books_new
  asked_piece trusts p q t request w w_new books books_new same frame many replies asks does client = record {
    frame = frame;
    many = many;
    replies = replies;
    asks = λ was asked of is. subst (λ x. IsAsking view Missing was (asked ++ x ∷ []) w_new.asking.replies.items books_new) (sym same) (asks was asked of is);
    keeps = keeps_asked t request w.asking.asked 0 books books_new does;
    client = client;
  }
