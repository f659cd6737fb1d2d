-- No spelling begins another.
use Rattle.std.proofs.Common.{◌≡◌, ℕ, ◌<◌, ◌≤◌, ◌≢◌, ◌⊎◌, List, [], ◌∷◌, ◌++◌, length, take, drop, replicate, zero, suc, ◌-◌, refl, sym, ap, subst, ◌∙◌, inl, inr, arith, append_assoc}
use Rattle.std.proofs.lemmas.List.{append_cancel_left, take_at, drop_at, append-nil, take-append-drop, length-take-le, length-replicate, length-append}
use Rattle.std.proofs.lemmas.Bool.{cases_lt}
use Rattle.mc_model.specs.declared.message.Message.{Message}
use Rattle.mc_model.specs.declared.line.Saying.{Saying}
use Rattle.mc_model.specs.declared.line.Saying.TheVariants.{Alone, Awaits}
use Rattle.mc_model.specs.Line.{IsLine, HasNoEnd, says}
use Rattle.mc_model.specs.Stream.{Spells, Completes, IsBlock, stored, OneSpelling, OneReading, Reads, Spelled, IsPartial, EachTextReads, ReadsExtend}
use Rattle.mc_grammar.proofs.LineFacts.{same_line, line_some, ended, first_line}

-- two blocks of one size that begin alike are one
pub same_block : (n : ℕ) (p q a b c d u v : List ℕ) → IsBlock n p a b → IsBlock n q c d → p ++ u ≡ q ++ v → (a ≡ c) × (b ≡ d) × (u ≡ v)
same_block n p q a b c d u v f g e =
    let whole : a ++ (b ++ u) ≡ c ++ (d ++ v) = sym (append_assoc a b u) ∙ ap (λ t. t ++ u) (sym f.parts) ∙ e ∙ ap (λ t. t ++ v) g.parts ∙ append_assoc c d v in
    let fronts : a ≡ c = sym (take_at a (b ++ u) n f.whole) ∙ ap (take n) whole ∙ take_at c (d ++ v) n g.whole in
    let rests : b ++ u ≡ d ++ v = sym (drop_at a (b ++ u) n f.whole) ∙ ap (drop n) whole ∙ drop_at c (d ++ v) n g.whole in
    let lines = same_line b d u v f.line g.line rests in
    (fronts, lines.0, lines.1)

pub same_completion : (s : Saying) (p q u v : List ℕ) (x y : Message) → Completes s p x → Completes s q y → p ++ u ≡ q ++ v → (p ≡ q) × (x ≡ y)
same_completion (Alone z) p q u v x y f g e = (f.0 ∙ sym g.0, f.1 ∙ sym g.1)
same_completion (Awaits h) p q u v x y f g e =
    let b = same_block h.size p q f.0 f.1 g.0 g.1 u v f.2 g.2 e in (
      f.2.parts ∙ ap (λ t. t ++ f.1) b.0 ∙ ap (λ t. g.0 ++ t) b.1 ∙ sym g.2.parts,
      f.3 ∙ ap (λ t. stored h t f.1) b.0 ∙ ap (stored h g.0) b.1 ∙ sym g.3,
    )

pub one_spelling : OneSpelling
one_spelling a b u v x y f g e =
    let whole : f.line ++ (f.rest ++ u) ≡ g.line ++ (g.rest ++ v) = sym (append_assoc f.line f.rest u) ∙ ap (λ t. t ++ u) (sym f.parts) ∙ e ∙ ap (λ t. t ++ v) g.parts ∙ append_assoc g.line g.rest v in
    let lines = same_line f.line g.line (f.rest ++ u) (g.rest ++ v) f.is_line g.is_line whole in
    let made : Completes (says g.line) f.rest x = subst (λ t. Completes (says t) f.rest x) lines.0 f.completes in
    let ends = same_completion (says g.line) f.rest g.rest u v x y made g.completes lines.1 in
    (f.parts ∙ ap (λ t. t ++ f.rest) lines.0 ∙ ap (λ t. g.line ++ t) ends.0 ∙ sym g.parts, ends.1)

-- a spelling has a byte
pub spelling_some : (a u : List ℕ) (x : Message) → Spells a x → a ++ u ≢ []
spelling_some a u x f e = line_some f.line (f.rest ++ u) f.is_line (sym (append_assoc f.line f.rest u) ∙ ap (λ t. t ++ u) (sym f.parts) ∙ e)

spelling_long : (a : List ℕ) (x : Message) → Spells a x → 0 < length a
spelling_long [] x f = absurd (spelling_some [] [] x f refl)
spelling_long (b ∷ a) x f = omega arith

append_none : (a b : List ℕ) → a ++ b ≡ a → b ≡ []
append_none a b e = append_cancel_left a b [] (e ∙ sym (append-nil a))

tail_none : (a b : List ℕ) → a ++ b ≡ [] → b ≡ []
tail_none [] b e = e
tail_none (x ∷ a) b e = absurd cc

-- what begins with a spelling is no part of one
pub not_partial : (a u : List ℕ) (x : Message) → Spells a x → IsPartial (a ++ u) → ⊥
not_partial a u x f p =
    let e : a ++ (u ++ p.0) ≡ ((a ++ u) ++ p.0) ++ [] = sym (append-nil _ ∙ append_assoc a u p.0) in
    let one = one_spelling a ((a ++ u) ++ p.0) (u ++ p.0) [] x p.1 f p.3 e in
    let whole : a ++ (u ++ p.0) ≡ a = sym (append_assoc a u p.0) ∙ sym one.0 in
    p.2 (tail_none u p.0 (append_none a (u ++ p.0) whole))

pub same_items : (xs ys : List Message) (f g u v : List ℕ) → Spelled f xs → Spelled g ys → IsPartial u → IsPartial v → f ++ u ≡ g ++ v → (xs ≡ ys) × (u ≡ v)
same_items [] [] f g u v p q a b e = (refl, rw (p, q) at e)
same_items [] (y ∷ ys) f g u v p q a b e =
    let whole : u ≡ q.0 ++ (q.1 ++ v) = ap (λ t. t ++ u) (sym p) ∙ e ∙ ap (λ t. t ++ v) q.2 ∙ append_assoc q.0 q.1 v in
    absurd (not_partial q.0 (q.1 ++ v) y q.3 (subst IsPartial whole a))
same_items (x ∷ xs) [] f g u v p q a b e =
    let whole : v ≡ p.0 ++ (p.1 ++ u) = ap (λ t. t ++ v) (sym q) ∙ sym e ∙ ap (λ t. t ++ u) p.2 ∙ append_assoc p.0 p.1 u in
    absurd (not_partial p.0 (p.1 ++ u) x p.3 (subst IsPartial whole b))
same_items (x ∷ xs) (y ∷ ys) f g u v p q a b e =
    let whole : p.0 ++ (p.1 ++ u) ≡ q.0 ++ (q.1 ++ v) = sym (append_assoc p.0 p.1 u) ∙ ap (λ t. t ++ u) (sym p.2) ∙ e ∙ ap (λ t. t ++ v) q.2 ∙ append_assoc q.0 q.1 v in
    let one = one_spelling p.0 q.0 (p.1 ++ u) (q.1 ++ v) x y p.3 q.3 whole in
    let rest : p.1 ++ u ≡ q.1 ++ v = append_cancel_left p.0 (p.1 ++ u) (q.1 ++ v) (whole ∙ ap (λ t. t ++ (q.1 ++ v)) (sym one.0)) in
    let more = same_items xs ys p.1 q.1 u v p.4 q.4 a b rest in
    (ap (λ t. x ∷ t) more.0 ∙ ap (λ z. z ∷ ys) one.1, more.1)

pub one_reading : OneReading
one_reading bytes xs ys u v f g = same_items xs ys f.front g.front u v f.spelled g.spelled f.partial g.partial (sym f.parts ∙ g.parts)

-- ---- each text reads

abbrev Front : List ℕ → Type 0
Front bytes = ((a : List ℕ) × (u : List ℕ) × (x : Message) × (bytes ≡ a ++ u) × Spells a x) ⊎ IsPartial bytes

-- some bytes that complete what a line asks for
filler : Saying → List ℕ
filler (Alone x) = []
filler (Awaits h) = replicate h.size 0 ++ 10 ∷ []

filler_is : (s : Saying) → (x : Message) × Completes s (filler s) x
unfolding filler
filler_is (Alone x) = (x, (refl, refl))
filler_is (Awaits h) = (stored h (replicate h.size 0) (10 ∷ []), (replicate h.size 0, 10 ∷ [], record { parts = refl; whole = length-replicate h.size 0; line = inl (refl, refl) }, refl))

pub part_of_line : (bytes : List ℕ) → HasNoEnd bytes → IsPartial bytes
part_of_line bytes h =
    let line = bytes ++ 10 ∷ [] in
    let f = filler_is (says line) in
    (10 ∷ filler (says line), f.0, (λ e. absurd cc), record { line = line; rest = filler (says line); parts = sym (append_assoc bytes (10 ∷ []) (filler (says line))); is_line = ended bytes h; completes = f.1 })

block_front : (n : ℕ) (rest : List ℕ) → ((block : List ℕ) × (tail : List ℕ) × (u : List ℕ) × (rest ≡ (block ++ tail) ++ u) × (length block ≡ n) × IsLine tail) ⊎ ((more : List ℕ) × (block : List ℕ) × (tail : List ℕ) × (more ≢ []) × IsBlock n (rest ++ more) block tail)
block_front n rest = elim (cases_lt (length rest) n) [
  | inl short ↦
      let gap = n - length rest in
      let zeros : List ℕ = replicate gap 0 in
      inr (zeros ++ 10 ∷ [], rest ++ zeros, 10 ∷ [], (λ e. omega (arith, ap length e, length-append zeros (10 ∷ []))), record { parts = sym (append_assoc rest zeros (10 ∷ [])); whole = omega (arith, length-append rest zeros, length-replicate {A = ℕ} gap 0); line = inl (refl, refl) })
  | inr long ↦ elim (first_line (drop n rest)) [
    | inl f ↦ inl (take n rest, f.0, f.1, sym (take-append-drop n rest) ∙ ap (λ t. take n rest ++ t) f.2 ∙ sym (append_assoc (take n rest) f.0 f.1), length-take-le n rest long, f.3)
    | inr none ↦ inr (10 ∷ [], take n rest, drop n rest ++ 10 ∷ [], (λ e. absurd cc), record { parts = ap (λ t. t ++ 10 ∷ []) (sym (take-append-drop n rest)) ∙ append_assoc (take n rest) (drop n rest) (10 ∷ []); whole = length-take-le n rest long; line = ended (drop n rest) none })
  ]
]

after_line : (line rest : List ℕ) → IsLine line → (s : Saying) → says line ≡ s → Front (line ++ rest)
after_line line rest l (Alone x) e = inl (line, rest, x, refl, record { line = line; rest = []; parts = sym (append-nil line); is_line = l; completes = subst (λ s. Completes s [] x) (sym e) (refl, refl) })
after_line line rest l (Awaits h) e = elim (block_front h.size rest) [
  | inl f ↦ inl (
    line ++ (f.0 ++ f.1),
    f.2,
    stored h f.0 f.1,
    ap (λ t. line ++ t) f.3 ∙ sym (append_assoc line (f.0 ++ f.1) f.2),
    record { line = line; rest = f.0 ++ f.1; parts = refl; is_line = l; completes = subst (λ s. Completes s (f.0 ++ f.1) (stored h f.0 f.1)) (sym e) (f.0, f.1, record { parts = refl; whole = f.4; line = f.5 }, refl) },
  )
  | inr f ↦ inr (f.0, stored h f.1 f.2, f.3, record { line = line; rest = rest ++ f.0; parts = append_assoc line rest f.0; is_line = l; completes = subst (λ s. Completes s (rest ++ f.0) (stored h f.1 f.2)) (sym e) (f.1, f.2, f.4, refl) })
]

front : (bytes : List ℕ) → Front bytes
front bytes = elim (first_line bytes) [
  | inl f ↦ subst Front (sym f.2) (after_line f.0 f.1 f.3 (says f.0) refl)
  | inr none ↦ inr (part_of_line bytes none)
]

no_front : Spelled [] []
no_front = refl

-- by how many bytes there may be
reads_some : (n : ℕ) (bytes : List ℕ) → length bytes ≤ n → (xs : List Message) × (rest : List ℕ) × Reads bytes xs rest
reads_some zero bytes le = (
  [],
  bytes,
  record {
    front = [];
    parts = refl;
    spelled = refl;
    partial = elim (front bytes) [
      | inl f ↦ absurd (omega (arith, ap length f.3, length-append f.0 f.1, spelling_long f.0 f.2 f.4))
      | inr p ↦ p
    ];
  },
)
reads_some (suc n) bytes le = elim (front bytes) [
  | inl f ↦
      let r = reads_some n f.1 (omega (arith, ap length f.3, length-append f.0 f.1, spelling_long f.0 f.2 f.4)) in
      (f.2 ∷ r.0, r.1, record { front = f.0 ++ r.2.front; parts = f.3 ∙ ap (λ t. f.0 ++ t) r.2.parts ∙ sym (append_assoc f.0 r.2.front r.1); spelled = (f.0, r.2.front, refl, f.4, r.2.spelled); partial = r.2.partial })
  | inr p ↦ ([], bytes, record { front = []; parts = refl; spelled = refl; partial = p })
]

pub each_text_reads : EachTextReads
each_text_reads bytes = reads_some (length bytes) bytes (omega arith)

-- messages, and then others
pub spelled_append : (ms ns : List Message) (f g : List ℕ) → Spelled f ms → Spelled g ns → Spelled (f ++ g) (ms ++ ns)
spelled_append [] ns f g s t = subst (λ (b : List ℕ). Spelled (b ++ g) ns) (sym s) t
spelled_append (y ∷ ms) ns f g s t = (s.0, s.1 ++ g, ap (λ b. b ++ g) s.2 ∙ append_assoc s.0 s.1 g, s.3, spelled_append ms ns s.1 g s.4 t)

-- one message more
pub spelled_more : (ms : List Message) (f g : List ℕ) (m : Message) → Spelled f ms → Spells g m → Spelled (f ++ g) (ms ++ m ∷ [])
spelled_more ms f g m s p = spelled_append ms (m ∷ []) f g s (g, [], sym (append-nil g), p, refl)

pub reads_extend : ReadsExtend
reads_extend bytes more messages rest r =
    let e = each_text_reads (rest ++ more) in (
      e.0,
      e.1,
      record {
        front = r.front ++ e.2.front;
        parts = ap (λ b. b ++ more) r.parts ∙ append_assoc r.front rest more ∙ ap (λ b. r.front ++ b) e.2.parts ∙ sym (append_assoc r.front e.2.front e.1);
        spelled = spelled_append messages e.0 r.front e.2.front r.spelled e.2.spelled;
        partial = e.2.partial;
      },
    )
