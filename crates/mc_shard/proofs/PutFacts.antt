-- A put, and the last item that it drives out.
use Rattle.std.proofs.Common.{◌≡◌, ℕ, zero, suc, ◌+◌, ◌-◌, ◌^◌, ◌<◌, ◌≤◌, Bool, true, false, cond, List, [], ◌∷◌, length, take, slice_get, Option, Some, None, IsSome, refl, sym, ap, subst, ◌∙◌, arith}
use Rattle.std.proofs.lemmas.Option.{slice_get_past, slice_get_within}
use Rattle.std.proofs.lemmas.List.{take_all}
use Rattle.std.specs.List.{IsDistinct}
use Rattle.std.specs.Option.{option_map_or}
use Rattle.lru.specs.LruCache.{lru_cache, last_entry, displaced}
use Rattle.mc_item.specs.declared.expiry.Expiry.{Expiry}
use Rattle.mc_item.specs.declared.expiry.Expiry.TheVariants.{Never}
use Rattle.mc_model.specs.declared.item.Item.{Item}
use Rattle.mc_model.specs.Items.{Items, same_key, item_at, without}
use Rattle.mc_model.proofs.ItemFacts.{same_key-refl}
use Rattle.mc_shard.specs.Kept.{due_of, IsPaired, LosesEntry}
use Rattle.mc_shard.proofs.CacheFacts.{AreApart, same_key-comm, absent_last, last_without, without-none}
use Rattle.mc_shard.proofs.IndexFacts.{paired_without}

-- ---- what a push hands back

abbrev handed : List ℕ → Option Item → Option (List ℕ × Item) → Option (List ℕ × Item)
handed key o other = option_map_or (λ (old : Item). Some (key, old)) o other

handed_is : (key : List ℕ) (o : Option Item) (other : Option (List ℕ × Item)) (e : List ℕ × Item) → other ≡ None → Some e ≡ handed key o other → (e.0 ≡ key) × (Some e.1 ≡ o)
handed_is key None other e none h = absurd (let g = h ∙ none in cc)
handed_is key (Some w) other e none h = let same : e ≡ (key, w) = cc in (ap (λ x. x.0) same, ap (λ x. Some x.1) same)

handed_none : (key : List ℕ) (o : Option Item) (other : Option (List ℕ × Item)) → None ≡ handed key o other → o ≡ None
handed_none key None other h = refl
handed_none key (Some w) other h = absurd cc

none_past : (es : Items) (cap bound : ℕ) → length es ≤ bound → bound ≤ 65536 → cap ≡ 2 ^ 64 - 1 → slice_get es (cap - 1) ≡ None
none_past es cap bound few most far = slice_get_past es (cap - 1) (omega arith)

-- what is handed back is the item that the key had
pub displaced_is : (es : Items) (cap bound : ℕ) (key : List ℕ) (v : Item) (e : List ℕ × Item) → length es ≤ bound → bound ≤ 65536 → cap ≡ 2 ^ 64 - 1
    → Some e ≡ displaced same_key (lru_cache es cap) key v → (e.0 ≡ key) × (Some e.1 ≡ item_at es key)
displaced_is es cap bound key v e few most far h = handed_is key (item_at es key) (slice_get es (cap - 1)) e (none_past es cap bound few most far) h

pub displaced_none : (es : Items) (cap : ℕ) (key : List ℕ) (v : Item) → None ≡ displaced same_key (lru_cache es cap) key v → item_at es key ≡ None
displaced_none es cap key v h = handed_none key (item_at es key) (slice_get es (cap - 1)) h

pub none_there : (o : Option Item) → (IsSome o → ⊥) → o ≡ None
none_there None h = refl
none_there (Some v) h = absurd (h refl)

-- ---- the last item

item_at-entry : (es : Items) (n : ℕ) (e : List ℕ × Item) → AreApart es → slice_get es n ≡ Some e → item_at es e.0 ≡ Some e.1
unfolding IsDistinct
item_at-entry [] n e apart at = absurd cc
item_at-entry (x ∷ es) zero e apart at = let same : x ≡ e = cc in rw (ap (λ y. same_key y.0 x.0) (sym same), same_key-refl x.0) (ap (λ y. Some y.1) same)
item_at-entry (x ∷ es) (suc n) e apart at = rw (same_key-comm e.0 x.0 ∙ absent_last x.0 es n e apart.0 at) (item_at-entry es n e apart.1 at)

pub paired_last : (es : Items) (i k : List (ℕ × List ℕ)) (e : List ℕ × Item) → IsPaired es i → Some e ≡ last_entry es → LosesEntry i k e.1.due Never e.0 → IsPaired (take (length es - 1) es) k
paired_last es i k e h last loses =
    let n = length es - 1 in
    let within : n < length es = slice_get_within es n e (sym last) in
    let is = last_without es n e h.apart (omega arith) (sym last) in
    subst (λ l. IsPaired l k) (sym is) (paired_without es i k e.0 e.1.due h (ap due_of (sym (item_at-entry es n e h.apart (sym last)))) loses)

last_of : (x : List ℕ × Item) (es : Items) (n : ℕ) → n < suc (length es) → slice_get (x ∷ es) n ≡ None → ⊥
last_of x es zero lt h = cc
last_of x [] (suc n) lt h = absurd (omega arith)
last_of x (y ∷ es) (suc n) lt h = last_of y es n (omega arith) h

pub paired_no_last : (es : Items) (i : List (ℕ × List ℕ)) → IsPaired es i → None ≡ last_entry es → IsPaired (take (length es - 1) es) i
paired_no_last [] i h last = subst (λ l. IsPaired l i) (sym (take_all (length {A = List ℕ × Item} [] - 1) [] (omega arith))) h
paired_no_last (x ∷ es) i h last = absurd (last_of x es (suc (length es) - 1) (omega arith) (sym last))

-- at most one too many
pub cut_last : (es : Items) (bound : ℕ) → length es ≤ bound + 1 → bound < length es → take (length es - 1) es ≡ take bound es
cut_last es bound few more = ap (λ n. take n es) (omega arith)
