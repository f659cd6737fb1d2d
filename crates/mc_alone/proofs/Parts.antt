-- What a class was asked of the parts of a command, by what the client sent to the class's trustee and what was answered.
use Rattle.std.proofs.Common.{◌≡◌, ℕ, ◌+◌, ◌-◌, ◌*◌, ◌/◌, ◌%◌, ◌<◌, inl, inr, true, false, cond, List, [], ◌∷◌, length, map, refl, sym, ◌∙◌, ap, subst, arith, eq-eqb, ne_eqb}
use Rattle.std.specs.Prelude.{◌==◌}
use Rattle.std.specs.List.{AllByRecursion, AllZip}
use Rattle.std.proofs.lemmas.Bool.{cases_eq}
use Rattle.std.proofs.lemmas.Nat.{div-add-mod'}
use Rattle.tm_batch.specs.declared.message.Name.{Name}
use Rattle.tm_batch.specs.declared.message.Request.{Request}
use Rattle.tm_batch.specs.declared.message.Request.TheVariants.{Apply}
use Rattle.tm_batch.specs.declared.message.Answer.{Answer}
use Rattle.tm_batch.specs.declared.message.Answer.TheVariants.{Replied}
use Rattle.tm_model.specs.declared.entry.Entry.{Entry}
use Rattle.tm_model.specs.Fits.{Fits}
use Rattle.tm_laws.specs.Objects.{on_object}
use Rattle.tm_asking.specs.Questions.{requests_at, replies_at, IsReplyOf}
use Rattle.tm_rest.proofs.Runs.{runs_in}
use Rattle.tm_trustee.specs.NestedAsks.{IsApply}
use Rattle.mc_item.specs.declared.limits.TheConstants.{CLASSES}
use Rattle.mc_item.specs.Classes.{class_of}
use Rattle.mc_item.proofs.ClassFacts.{class_of-below}
use Rattle.mc_model.specs.declared.reply.ShardReply.{ShardReply}
use Rattle.mc_model.specs.declared.reply.ShardReply.TheVariants.{Missing}
use Rattle.mc_model.specs.Plain.{Part}
use Rattle.mc_shard.specs.declared.op.ShardOp.{ShardOp}
use Rattle.mc_route.specs.Places.{StoreValue, trustee_of, index_of}
use Rattle.mc_route.specs.Plans.{shard_op, shard_part}
use Rattle.mc_next.specs.Parts.{Named, StoreTask, StoreQuestion, part_asked}
use Rattle.mc_store_laws.specs.Parts.{runs_at}

-- trustee and index together tell the class
pub place_tells : (trustees c d : ℕ) → trustee_of c trustees ≡ trustee_of d trustees → index_of c trustees ≡ index_of d trustees → c ≡ d
place_tells trustees c d t i =
    let m : ℕ = trustees - 1 in
    let rest : c % m ≡ d % m = omega (arith, t) in
    sym (div-add-mod' c m) ∙ ap (λ q. q * m + c % m) i ∙ ap (λ r. (d / m) * m + r) rest ∙ div-add-mod' d m

-- an answer to an operation is its reply
one_answer :
    (grown : List (Entry StoreValue ShardOp ShardReply StoreTask)) (n : Name) (op : ShardOp) (a : Answer StoreValue ShardOp ShardReply StoreTask) (r : ShardReply)
    → Fits {V = StoreValue} {O = ShardOp} {R = ShardReply} {T = StoreTask} (Apply n op) a → IsReplyOf Missing grown a r → (a ≡ Replied r)
one_answer grown n op (Replied x) r fits is = ap Replied (sym is)
one_answer grown n op _ r fits is = absurd fits

module _ (named : Named) (trustees moment class : ℕ) (names : (c : ℕ) → c < CLASSES → (named c).id ≡ index_of c trustees + 1) (below : class < CLASSES) where
  -- the questions of some parts
  abbrev pub questions : List Part → List StoreQuestion
  questions parts = map (part_asked named trustees) (map (shard_part moment) parts)

  module _ (grown : List (Entry StoreValue ShardOp ShardReply StoreTask)) where
    -- the first part is of this trustee
    at_trustee :
        (part : Part) (op : ShardOp) (r : ShardReply) (others : List (ShardOp × ShardReply)) (requests : List (Request StoreValue ShardOp ShardReply StoreTask)) (answers : List (Answer StoreValue ShardOp ShardReply StoreTask))
        (replies : List ShardReply) → trustee_of (class_of part.0) trustees ≡ trustee_of class trustees
        → ((told : List (Answer StoreValue ShardOp ShardReply StoreTask)) → AllZip Fits requests told → AllZip (IsReplyOf Missing grown) told replies
        → on_object (index_of class trustees + 1) (runs_in requests told) ≡ others)
        → AllZip Fits (Apply (named (class_of part.0)) op ∷ requests) answers → AllZip (IsReplyOf Missing grown) answers (r ∷ replies)
        → on_object (index_of class trustees + 1) (runs_in (Apply (named (class_of part.0)) op ∷ requests) answers) ≡ cond (class_of part.0 == class) ((op, r) ∷ others) others
    at_trustee part op r others requests [] replies same later fits is = absurd fits
    at_trustee part op r others requests (a ∷ answers) replies same later fits is =
        let c = class_of part.0 in
        let reply : a ≡ Replied r = one_answer grown (named c) op a r fits.0 is.0 in
        let rest = later answers fits.1 is.1 in
        let id = names c (class_of-below part.0) in
        ap (λ x. on_object (index_of class trustees + 1) (runs_in (Apply (named c) op ∷ requests) (x ∷ answers))) reply
        ∙ ap (λ l. cond ((named c).id == index_of class trustees + 1) ((op, r) ∷ l) l) rest
        ∙ ap (λ t. cond t ((op, r) ∷ others) others)
        (elim (cases_eq c class) [
          | inl e ↦ eq-eqb (named c).id (index_of class trustees + 1) (id ∙ ap (λ k. index_of k trustees + 1) e) ∙ sym (eq-eqb c class e)
          | inr ne ↦
              ne_eqb (named c).id (index_of class trustees + 1) (λ e. ne (place_tells trustees c class same (let both : index_of c trustees + 1 ≡ index_of class trustees + 1 = sym id ∙ e in omega (arith, both))))
              ∙ sym (ne_eqb c class ne)
        ])

    pub parts_runs :
        (parts : List Part) (replies : List ShardReply) (answers : List (Answer StoreValue ShardOp ShardReply StoreTask)) → length replies ≡ length parts
        → AllZip Fits (requests_at (trustee_of class trustees) (questions parts)) answers
        → AllZip (IsReplyOf Missing grown) answers (replies_at (trustee_of class trustees) (questions parts) replies)
        → on_object (index_of class trustees + 1) (runs_in (requests_at (trustee_of class trustees) (questions parts)) answers) ≡ runs_at moment class parts replies
    parts_runs [] replies answers many fits is = refl
    parts_runs (part ∷ parts) [] answers many fits is = absurd (omega (arith, many))
    parts_runs (part ∷ parts) (r ∷ replies) answers many fits is =
        let t = trustee_of class trustees in
        let c = class_of part.0 in
        let op = shard_op part.0 part.1 moment in
        let requests = requests_at t (questions parts) in
        let others = replies_at t (questions parts) replies in
        elim (cases_eq (trustee_of c trustees) t) [
          | inl same ↦
              let here = eq-eqb (trustee_of c trustees) t same in
              let asked : requests_at t (questions (part ∷ parts)) ≡ Apply (named c) op ∷ requests = ap (λ b. cond b (Apply (named c) op ∷ requests) requests) here in
              let told : replies_at t (questions (part ∷ parts)) (r ∷ replies) ≡ r ∷ others = ap (λ b. cond b (r ∷ others) others) here in
              ap (λ l. on_object (index_of class trustees + 1) (runs_in l answers)) asked
              ∙ at_trustee part op r (runs_at moment class parts replies) requests answers others same
              (λ ts f i. parts_runs parts replies ts (omega (arith, many)) f i)
              (subst (λ l. AllZip Fits l answers) asked fits) (subst (λ l. AllZip (IsReplyOf Missing grown) answers l) told is)
          | inr apart ↦
              let there = ne_eqb (trustee_of c trustees) t apart in
              let asked : requests_at t (questions (part ∷ parts)) ≡ requests = ap (λ b. cond b (Apply (named c) op ∷ requests) requests) there in
              let told : replies_at t (questions (part ∷ parts)) (r ∷ replies) ≡ others = ap (λ b. cond b (r ∷ others) others) there in
              ap (λ l. on_object (index_of class trustees + 1) (runs_in l answers)) asked
              ∙ parts_runs parts replies answers (omega (arith, many)) (subst (λ l. AllZip Fits l answers) asked fits) (subst (λ l. AllZip (IsReplyOf Missing grown) answers l) told is)
              ∙ ap (λ b. cond b ((op, r) ∷ runs_at moment class parts replies) (runs_at moment class parts replies)) (sym (ne_eqb c class (λ e. apart (ap (λ k. trustee_of k trustees) e))))
        ]

-- questions of parts are operations, and none is to trustee 0
pub parts_apply : (named : Named) (trustees moment t : ℕ) (parts : List Part) → AllByRecursion IsApply (requests_at t (map (part_asked named trustees) (map (shard_part moment) parts)))
parts_apply named trustees moment t [] = tt
parts_apply named trustees moment t (part ∷ parts) =
    let rest = parts_apply named trustees moment t parts in
    elim (trustee_of (class_of part.0) trustees == t) as
    (λ b. AllByRecursion IsApply (cond b (Apply (named (class_of part.0)) (shard_op part.0 part.1 moment) ∷ requests_at t (map (part_asked named trustees) (map (shard_part moment) parts)))
    (requests_at t (map (part_asked named trustees) (map (shard_part moment) parts))))) [ true ↦ (tt, rest) | false ↦ rest ]

pub parts_elsewhere : (named : Named) (trustees moment : ℕ) (parts : List Part) → requests_at 0 (map (part_asked named trustees) (map (shard_part moment) parts)) ≡ []
parts_elsewhere named trustees moment [] = refl
parts_elsewhere named trustees moment (part ∷ parts) =
    ap (λ b. cond b (Apply (named (class_of part.0)) (shard_op part.0 part.1 moment) ∷ requests_at 0 (map (part_asked named trustees) (map (shard_part moment) parts)))
    (requests_at 0 (map (part_asked named trustees) (map (shard_part moment) parts)))) (ne_eqb (trustee_of (class_of part.0) trustees) 0 (λ e. omega (arith, e)))
    ∙ parts_elsewhere named trustees moment parts
