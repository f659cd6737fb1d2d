-- The plain program, by the definition.
use Rattle.std.proofs.Common.{◌≡◌, ℕ, ◌+◌, ◌-◌, ◌<◌, ◌≤◌, Bool, eqb, List, [], ◌∷◌, ◌++◌, length, take, drop, replicate, refl, sym, ap, subst, ◌∙◌, inl, arith, append_assoc}
use Rattle.std.proofs.Math.Seq.{take-add}
use Rattle.std.proofs.lemmas.List.{take-append-drop, length-take-le, length-drop, length-append, length-replicate, take_all}
use Rattle.mc_model.specs.declared.line.Header.{Header}
use Rattle.mc_model.specs.declared.line.Saying.TheVariants.{Awaits}
use Rattle.mc_model.specs.declared.message.Message.{Message}
use Rattle.mc_model.specs.Line.{IsLine, HasNoEnd, says}
use Rattle.mc_model.specs.Stream.{Spells, Spelled, IsPartial, Completes, stored}
use Rattle.mc_grammar.specs.Plain.{IsAwaited}
use Rattle.mc_grammar.specs.Pieces.{IsReading}
use Rattle.std.proofs.lemmas.Bool.{eqb-true, eq-eqb}
use Rattle.mc_grammar.proofs.LineFacts.{ended, none_of_length}
use Rattle.mc_grammar.proofs.Spellings.{spelled_more}

-- too few bytes for the block
pub awaits_block : (h : Header) (rest : List ℕ) → length rest < h.size → IsAwaited (Awaits h) rest
awaits_block h rest short =
    let gap = h.size - length rest in
    let zeros : List ℕ = replicate gap 0 in (
      zeros ++ 10 ∷ [],
      stored h (rest ++ zeros) (10 ∷ []),
      (λ e. omega (arith, ap length e, length-append zeros (10 ∷ []))),
      (
        rest ++ zeros,
        10 ∷ [],
        record {
          parts = sym (append_assoc rest zeros (10 ∷ []));
          whole = omega (arith, length-append rest zeros, length-replicate {A = ℕ} gap 0);
          line = inl (refl, refl);
        },
        refl,
      ),
    )

-- no line feed behind the block
pub awaits_tail : (h : Header) (rest : List ℕ) → h.size ≤ length rest → HasNoEnd (drop h.size rest) → IsAwaited (Awaits h) rest
awaits_tail h rest long none =
    let block = take h.size rest in
    let tail = drop h.size rest ++ 10 ∷ [] in (
      10 ∷ [],
      stored h block tail,
      (λ e. absurd cc),
      (
        block,
        tail,
        record {
          parts = ap (λ t. t ++ 10 ∷ []) (sym (take-append-drop h.size rest)) ∙ append_assoc block (drop h.size rest) (10 ∷ []);
          whole = length-take-le h.size rest long;
          line = ended (drop h.size rest) none;
        },
        refl,
      ),
    )

-- a block and its tail
pub completes_block : (h : Header) (rest : List ℕ) (n : ℕ) (m : Message) → h.size ≤ length rest → IsLine (take n (drop h.size rest)) → m ≡ stored h (take h.size rest) (take n (drop h.size rest)) → Completes (Awaits h) (take (h.size + n) rest) m
completes_block h rest n m long line e = (
  take h.size rest,
  take n (drop h.size rest),
  record { parts = take-add h.size n rest; whole = length-take-le h.size rest long; line = line },
  e,
)

pub partial_line : (text : List ℕ) (n : ℕ) → IsLine (take n text) → IsAwaited (says (take n text)) (drop n text) → IsPartial text
partial_line text n line w = (
  w.0,
  w.1,
  w.2,
  record {
    line = take n text;
    rest = drop n text ++ w.0;
    parts = ap (λ t. t ++ w.0) (sym (take-append-drop n text)) ∙ append_assoc (take n text) (drop n text) w.0;
    is_line = line;
    completes = w.3;
  },
)

pub spells_line : (text : List ℕ) (n k : ℕ) (m : Message) → IsLine (take n text) → Completes (says (take n text)) (take k (drop n text)) m → Spells (take (n + k) text) m
spells_line text n k m line c = record { line = take n text; rest = take k (drop n text); parts = take-add n k text; is_line = line; completes = c }

pub spelled_next : (text : List ℕ) (at n : ℕ) (messages : List Message) (m : Message) → Spelled (take at text) messages → Spells (take n (drop at text)) m → Spelled (take (at + n) text) (messages ++ m ∷ [])
spelled_next text at n messages m s p = subst (λ (b : List ℕ). Spelled b (messages ++ m ∷ [])) (sym (take-add at n text)) (spelled_more messages (take at text) (take n (drop at text)) m s p)

-- the bytes from a place on, as a slice has them
pub rest_is : (at : ℕ) (text : List ℕ) → take (length text - at) (drop at text) ≡ drop at text
rest_is at text = take_all (length text - at) (drop at text) (omega (arith, length-drop at text))

drop_none : (at : ℕ) (text : List ℕ) → length text ≤ at → drop at text ≡ []
drop_none at text le = none_of_length (drop at text) (omega (arith, length-drop at text))

pub plain_reading : (text : List ℕ) (at : ℕ) (messages : List Message) (b : Bool) → at ≤ length text → Spelled (take at text) messages → IsPartial (drop at text) → b ≡ eqb at (length text) → IsReading text messages b
plain_reading text at messages b le s p e = record {
  rest = drop at text;
  reads = record { front = take at text; parts = sym (take-append-drop at text); spelled = s; partial = p };
  whole = (
    (λ t. drop_none at text (omega (arith, eqb-true at (length text) (sym e ∙ t)))),
    λ none. e ∙ eq-eqb at (length text) (omega (arith, ap length none, length-drop at text)),
  );
}
