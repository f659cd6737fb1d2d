-- The items that the replies to some keys show, one key after another.
use Rattle.std.proofs.Common.{◌≡◌, ◌∙◌, ℕ, Bool, true, false, List, [], ◌∷◌, ◌++◌, Option, Some, None, refl, ap, sym, append_assoc}
use Rattle.std.specs.Prelude.{option_and_then}
use Rattle.std.specs.Option.{option_map}
use Rattle.std.proofs.lemmas.List.{append-nil}
use Rattle.mc_model.specs.declared.reply.ShardReply.{ShardReply}
use Rattle.mc_model.specs.declared.shown.ShownItem.{ShownItem}
use Rattle.mc_model.specs.Showing.{items_of, all_items_of}
use Rattle.mc_route.specs.Joins.{some_if}

-- those behind some items
abbrev pub behind : List ShownItem → Option (List ShownItem) → Option (List ShownItem)
behind items later = option_map (λ l. items ++ l) later

abbrev both : Option (List ShownItem) → Option (List ShownItem) → Option (List ShownItem)
both first others = option_and_then (λ f. option_and_then (λ o. Some (f ++ o)) others) first

same_items : (a b : List ShownItem) → Some a ≡ Some b → a ≡ b
same_items a b e = cc

both_known : (first others : Option (List ShownItem)) (items new : List ShownItem) → behind items first ≡ Some new → behind items (both first others) ≡ behind new others
both_known None others items new e = absurd cc
both_known (Some f) None items new e = refl
both_known (Some f) (Some o) items new e =
    ap (λ (l : List ShownItem). Some l) (sym (append_assoc items f o) ∙ ap (λ (l : List ShownItem). l ++ o) (same_items (items ++ f) new e))

both_unknown : (first others : Option (List ShownItem)) (items : List ShownItem) → behind items first ≡ None → behind items (both first others) ≡ None
both_unknown None others items e = refl
both_unknown (Some f) others items e = absurd cc

-- a key whose reply shows this
pub known_more : (key : List ℕ) (keys : List (List ℕ)) (r : ShardReply) (replies : List ShardReply) (items new : List ShownItem) → behind items (items_of key r) ≡ Some new → behind items (all_items_of (key ∷ keys) (r ∷ replies)) ≡ behind new (all_items_of keys replies)
known_more key keys r replies items new e = both_known (items_of key r) (all_items_of keys replies) items new e

-- a key whose reply no get has
pub unknown : (key : List ℕ) (keys : List (List ℕ)) (r : ShardReply) (replies : List ShardReply) (items : List ShownItem) → behind items (items_of key r) ≡ None → behind items (all_items_of (key ∷ keys) (r ∷ replies)) ≡ None
unknown key keys r replies items e = both_unknown (items_of key r) (all_items_of keys replies) items e

-- no key and no reply is left
pub none_left : (items : List ShownItem) → behind items (all_items_of [] []) ≡ Some items
none_left items = ap (λ (l : List ShownItem). Some l) (append-nil items)

-- before the first key
pub at_first : (later : Option (List ShownItem)) → later ≡ behind [] later
at_first None = refl
at_first (Some l) = refl

-- the rest of the keys and replies, and what they show behind the items so far

pub one_more : (all : Option (List ShownItem)) (keys keys_left : List (List ℕ)) (replies replies_left : List ShardReply) (key : List ℕ) (r : ShardReply) (items new : List ShownItem) (known : Bool)
    → all ≡ behind items (all_items_of keys replies) → keys ≡ key ∷ keys_left → replies ≡ r ∷ replies_left → behind items (items_of key r) ≡ some_if known new → known ≡ true
    → all ≡ behind new (all_items_of keys_left replies_left)
one_more all keys keys_left replies replies_left key r items new known before k rs here is =
    before ∙ ap (λ (l : List (List ℕ)). behind items (all_items_of l replies)) k ∙ ap (λ (l : List ShardReply). behind items (all_items_of (key ∷ keys_left) l)) rs
    ∙ known_more key keys_left r replies_left items new (here ∙ ap (λ (b : Bool). some_if b new) is)

pub no_get_reply : (all : Option (List ShownItem)) (keys keys_left : List (List ℕ)) (replies replies_left : List ShardReply) (key : List ℕ) (r : ShardReply) (items new : List ShownItem) (known : Bool)
    → all ≡ behind items (all_items_of keys replies) → keys ≡ key ∷ keys_left → replies ≡ r ∷ replies_left → behind items (items_of key r) ≡ some_if known new → known ≡ false
    → None ≡ all
no_get_reply all keys keys_left replies replies_left key r items new known before k rs here is =
    sym (before ∙ ap (λ (l : List (List ℕ)). behind items (all_items_of l replies)) k ∙ ap (λ (l : List ShardReply). behind items (all_items_of (key ∷ keys_left) l)) rs
    ∙ unknown key keys_left r replies_left items (here ∙ ap (λ (b : Bool). some_if b new) is))

pub no_reply : (all : Option (List ShownItem)) (keys keys_left : List (List ℕ)) (replies : List ShardReply) (key : List ℕ) (items : List ShownItem)
    → all ≡ behind items (all_items_of keys replies) → keys ≡ key ∷ keys_left → replies ≡ [] → None ≡ all
no_reply all keys keys_left replies key items before k rs =
    sym (before ∙ ap (λ (l : List (List ℕ)). behind items (all_items_of l replies)) k ∙ ap (λ (l : List ShardReply). behind items (all_items_of (key ∷ keys_left) l)) rs)

pub no_key : (all : Option (List ShownItem)) (keys : List (List ℕ)) (replies replies_left : List ShardReply) (r : ShardReply) (items : List ShownItem)
    → all ≡ behind items (all_items_of keys replies) → keys ≡ [] → replies ≡ r ∷ replies_left → None ≡ all
no_key all keys replies replies_left r items before k rs =
    sym (before ∙ ap (λ (l : List (List ℕ)). behind items (all_items_of l replies)) k ∙ ap (λ (l : List ShardReply). behind items (all_items_of [] l)) rs)

pub all_known : (all : Option (List ShownItem)) (keys : List (List ℕ)) (replies : List ShardReply) (items : List ShownItem)
    → all ≡ behind items (all_items_of keys replies) → keys ≡ [] → replies ≡ [] → Some items ≡ all
all_known all keys replies items before k rs =
    sym (before ∙ ap (λ (l : List (List ℕ)). behind items (all_items_of l replies)) k ∙ ap (λ (l : List ShardReply). behind items (all_items_of [] l)) rs ∙ none_left items)
