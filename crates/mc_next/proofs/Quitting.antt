-- Messages up to the first `quit`.
use Rattle.std.proofs.Common.{◌≡◌, Bool, true, false, cond, ◌||◌, List, [], ◌∷◌, ◌++◌, refl, sym, ap, ◌∙◌}
use Rattle.std.proofs.lemmas.Bool.{false≢true}
use Rattle.std.proofs.lemmas.List.{append-nil}
use Rattle.std.proofs.lemmas.List.Folds.{list_any-append}
use Rattle.mc_model.specs.declared.message.Message.{Message}
use Rattle.mc_model.specs.Quits.{is_quit, has_quit, until_quit}

until_first : (b : Bool) (m : Message) (ms : List Message) → is_quit m ≡ b → until_quit (m ∷ ms) ≡ m ∷ cond b [] (until_quit ms)
until_first b m ms e = ap (λ (q : Bool). m ∷ cond q [] (until_quit ms)) e

neither : (a b : Bool) → (a || b) ≡ false → (a ≡ false) × (b ≡ false)
neither true b e = absurd (false≢true (sym e))
neither false b e = (refl, e)

or_false : (b : Bool) → (b || false) ≡ b
or_false true = refl
or_false false = refl

cond_same : (b : Bool) (ms : List Message) → cond b ms ms ≡ ms
cond_same true ms = refl
cond_same false ms = refl

-- one message more
pub has_more : (ms : List Message) (m : Message) → has_quit ms ≡ false → has_quit (ms ++ m ∷ []) ≡ is_quit m
has_more [] m e = or_false (is_quit m)
has_more (y ∷ ms) m e =
    let h = neither (is_quit y) (has_quit ms) e in
    ap (λ (q : Bool). q || has_quit (ms ++ m ∷ [])) h.0 ∙ has_more ms m h.1

pub until_more : (ms : List Message) (m : Message) → has_quit ms ≡ false → until_quit (ms ++ m ∷ []) ≡ ms ++ m ∷ []
until_more [] m e = ap (λ (t : List Message). m ∷ t) (cond_same (is_quit m) [])
until_more (y ∷ ms) m e =
    let h = neither (is_quit y) (has_quit ms) e in
    until_first false y (ms ++ m ∷ []) h.0 ∙ ap (λ (t : List Message). y ∷ t) (until_more ms m h.1)

-- others behind
FrontStays : List Message → List Message → Type 0
FrontStays ms others = until_quit (ms ++ others) ≡ ms ++ cond (has_quit ms) [] (until_quit others)

front_step : (b : Bool) (y : Message) (ms others : List Message) → is_quit y ≡ b → until_quit (y ∷ ms) ≡ y ∷ ms → (until_quit ms ≡ ms → FrontStays ms others) → FrontStays (y ∷ ms) others
unfolding FrontStays
front_step true y ms others q e stays =
    let ends : y ∷ [] ≡ y ∷ ms = sym (until_first true y ms q) ∙ e in
    let none : [] ≡ ms = cc in
    until_first true y (ms ++ others) q
    ∙ ap (λ (t : List Message). y ∷ t) (none ∙ sym (append-nil ms) ∙ ap (λ (b : Bool). ms ++ cond (b || has_quit ms) [] (until_quit others)) (sym q))
front_step false y ms others q e stays =
    let goes : y ∷ until_quit ms ≡ y ∷ ms = sym (until_first false y ms q) ∙ e in
    let same : until_quit ms ≡ ms = cc in
    until_first false y (ms ++ others) q
    ∙ ap (λ (t : List Message). y ∷ t) (stays same ∙ ap (λ (b : Bool). ms ++ cond (b || has_quit ms) [] (until_quit others)) (sym q))

pub until_front : (ms others : List Message) → until_quit ms ≡ ms → until_quit (ms ++ others) ≡ ms ++ cond (has_quit ms) [] (until_quit others)
unfolding FrontStays
until_front [] others e = refl
until_front (y ∷ ms) others e = front_step (is_quit y) y ms others refl e (until_front ms others)

-- a `quit` ends what others follow
pub until_there : (ms others : List Message) → has_quit ms ≡ true → until_quit ms ≡ ms → until_quit (ms ++ others) ≡ ms
until_there ms others h e = until_front ms others e ∙ ap (λ (b : Bool). ms ++ cond b [] (until_quit others)) h ∙ append-nil ms

pub has_front : (ms others : List Message) → has_quit ms ≡ true → has_quit (ms ++ others) ≡ true
has_front ms others h = list_any-append is_quit ms others ∙ ap (λ (b : Bool). b || has_quit others) h
