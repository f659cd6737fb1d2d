-- A command at work is answered: all of it was asked and replied, and what it shows is gathered.
use Rattle.std.proofs.Common.{◌≡◌, ℕ, ◌+◌, List, [], ◌∷◌, ◌++◌, length, Option, sym, ap, subst, ◌∙◌, arith, append_assoc, append-nil, length-append}
use Rattle.tm_client.proofs.Elements.{element_at}
use Rattle.tm_asking.specs.Questions.{requests_at, replies_at, HasAskedAll}
use Rattle.tm_asking.specs.Asking.{AreReplied, sides_of, side_in}
use Rattle.tm_asking.proofs.Joining.{all_joined, questions_joined}
use Rattle.mc_model.specs.declared.message.Command.{Command}
use Rattle.mc_model.specs.declared.message.Message.TheVariants as message
use Rattle.mc_model.specs.declared.reply.ShardReply.{ShardReply}
use Rattle.mc_model.specs.declared.reply.ShardReply.TheVariants.{Missing}
use Rattle.mc_model.specs.Moments.{moments_of}
use Rattle.mc_model.specs.Rendering.{bytes_of, rendered}
use Rattle.mc_model.specs.Showing.{commands_of, shown_of, shown_of_all}
use Rattle.mc_next.specs.Parts.{StoreView, questions_of, questions_each}
use Rattle.mc_next.specs.Clients.{StoreBooks}
use Rattle.mc_next.specs.Runs.{Setting, HaveReplies, asked_for, all_of}
use Rattle.mc_next.specs.Sessions.{Past, taken, latest_of, HasShown, HasReplied}
use Rattle.mc_next.proofs.Streams.{questions_last, questions_count, commands_more, moments_count, all_more, replies_more, replies_count, replies_in_all, shown_command}

-- the command at work is answered with these replies
abbrev pub answered_with : Past → List ShardReply → Past
answered_with p rs = record p { answered = p.answered ++ p.begun; begun = []; replies = p.replies ++ rs ∷ [] }

module _ (s : Setting) (p : Past) (command : Command) (begun : p.begun ≡ message.Command command ∷ []) where
  taken_is : taken p ≡ p.answered ++ message.Command command ∷ []
  taken_is = ap (λ b. p.answered ++ b) begun

  commands_are : commands_of (taken p) ≡ commands_of p.answered ++ command ∷ []
  commands_are = ap (λ ms. commands_of ms) taken_is ∙ commands_more p.answered command

  module _ (once : length p.readings ≡ length (commands_of (taken p))) where
    one_more : length p.readings ≡ length (commands_of p.answered) + 1
    one_more = once ∙ ap length commands_are ∙ length-append (commands_of p.answered) (command ∷ [])

    -- its questions stand behind those of the answered ones
    pub asked_with : asked_for s (taken p) p.readings ≡ asked_for s p.answered p.readings ++ questions_of s.named s.trustees command (latest_of 0 p.readings) ∷ []
    asked_with =
        ap (λ (cs : List Command). questions_each s.named s.trustees cs (moments_of p.readings)) commands_are
        ∙ questions_last s.named s.trustees (commands_of p.answered) command 0 p.readings one_more

    pub all_asked : all_of (asked_for s (taken p) p.readings) ≡ all_of (asked_for s p.answered p.readings) ++ questions_of s.named s.trustees command (latest_of 0 p.readings)
    all_asked = ap all_of asked_with ∙ all_more (asked_for s p.answered p.readings) (questions_of s.named s.trustees command (latest_of 0 p.readings))

    module _ (each : HaveReplies (asked_for s p.answered p.readings) p.replies) (rs : List ShardReply)
        (many : length (questions_of s.named s.trustees command (latest_of 0 p.readings)) ≡ length rs) where
      pub each_with : HaveReplies (asked_for s (taken p) p.readings) (p.replies ++ rs ∷ [])
      each_with =
          subst (λ qs. HaveReplies qs (p.replies ++ rs ∷ [])) (sym asked_with)
          (replies_more (asked_for s p.answered p.readings) p.replies (questions_of s.named s.trustees command (latest_of 0 p.readings)) rs each many)

      as_many : length p.replies ≡ length (commands_of p.answered)
      as_many =
          let moments = moments_count 0 p.readings in
          let more = one_more in
          replies_count (asked_for s p.answered p.readings) p.replies each
          ∙ questions_count s.named s.trustees (commands_of p.answered) (moments_of p.readings) (omega (arith, moments, more))

      -- at each trustee all were asked and replied
      pub replied_with : {D : Type 0} (view : D → StoreView) (books : StoreBooks D) (before was : ℕ → StoreView) → length books.lanes.items ≡ s.trustees
          → HasReplied s p before was → AreReplied view Missing was (questions_of s.named s.trustees command (latest_of 0 p.readings)) rs books
          → HasReplied s (answered_with p rs) before (sides_of view books)
      replied_with view books before was lanes answered replied = λ t below.
          let (lane, there) = element_at books.lanes.items t (omega (arith, below, lanes)) in
          let first = asked_for s p.answered p.readings in
          let last = questions_of s.named s.trustees command (latest_of 0 p.readings) in
          let here : sides_of view books t ≡ view lane.side = ap (λ o. side_in view t o) there in
          let joined = questions_joined t (all_of first) last (all_of p.replies) rs (replies_in_all first p.replies each) in
          let both = all_joined Missing (requests_at t (all_of first)) (requests_at t last) (replies_at t (all_of first) (all_of p.replies)) (replies_at t last rs)
          (before t) (was t) (view lane.side) (answered t below) (replied.at t lane there) in
          subst (λ side. HasAskedAll Missing (requests_at t (all_of (asked_for s (taken p) p.readings))) (replies_at t (all_of (asked_for s (taken p) p.readings)) (all_of (p.replies ++ rs ∷ []))) (before t) side)
          (sym here)
          (subst (λ qs. HasAskedAll Missing (requests_at t qs) (replies_at t qs (all_of (p.replies ++ rs ∷ []))) (before t) (view lane.side)) (sym all_asked)
          (subst (λ os. HasAskedAll Missing (requests_at t (all_of first ++ last)) (replies_at t (all_of first ++ last) os) (before t) (view lane.side)) (sym (all_more p.replies rs))
          (subst (λ qs. HasAskedAll Missing qs (replies_at t (all_of first ++ last) (all_of p.replies ++ rs)) (before t) (view lane.side)) (sym joined.0)
          (subst (λ os. HasAskedAll Missing (requests_at t (all_of first) ++ requests_at t last) os (before t) (view lane.side)) (sym joined.1) both))))

      -- what it shows is gathered
      pub shown_with : (gathered : List ℕ) (before now : Option (List ℕ)) → HasShown s p gathered before now
          → HasShown s (answered_with p rs) (gathered ++ bytes_of (shown_of command rs)) before now
      shown_with gathered before now h = record {
        each = each_with;
        is_written = h.is_written;
        gathered_is =
            sym (append_assoc p.written gathered (bytes_of (shown_of command rs)))
            ∙ ap (λ bytes. bytes ++ bytes_of (shown_of command rs)) h.gathered_is
            ∙ sym (shown_command p.answered p.replies command rs as_many)
            ∙ ap (λ ms. rendered (shown_of_all ms (p.replies ++ rs ∷ []))) (sym taken_is);
      }

  -- the rest stays
  pub same_taken : (rs : List ShardReply) → taken (answered_with p rs) ≡ taken p
  same_taken rs = append-nil (p.answered ++ p.begun)
