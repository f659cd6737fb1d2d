-- The rules of a command's options as `clap` builds them, and how it finds one.
use Rattle.std.proofs.Common.{◌≡◌, ◌∙◌, ◌||◌, ℕ, zero, suc, ◌<◌, Bool, true, false, cond, List, [], ◌∷◌, map, length, Option, Some, None, option_map, refl, sym, ap, arith, codes, Contains, true≢false}
use Rattle.std.specs.List.{find, slice_index_or}
use Rattle.std.specs.Str.{bytes_eq}
use Rattle.std.proofs.lemmas.Slice.Eq.{bytes_eq-Decides}
use Rattle.clap.specs.Walk.{Rule, Text, arg_by_id, arg_by_index, arg_by_long, arg_by_short}
use Rattle.clap.specs.declared.builder.value_parser.ValueParser.TheVariants as vp
use Rattle.mc_words.specs.declared.names.Name.{Name}
use Rattle.mc_words.specs.declared.names.Name.TheVariants.{Trustees, MaxBytes, Items, Turns, Port, Workers, Connections, Seed, Ops, Clients}
use Rattle.mc_words.specs.Spelling.{label, takes_value}
use Rattle.mc_words.specs.Commands.{action_by}

-- an argument of this name that takes a value, or is a flag
abbrev pub built_by : Text → Bool → Rule
built_by id takes = record {
  id = id;
  long = Some id;
  aliases = [];
  short = None;
  short_aliases = [];
  index = None;
  action = Some (action_by takes);
  range = Some (record { start_inclusive = cond takes 1 0; end_inclusive = cond takes 1 0 });
  value_names = 0;
  defaults = cond takes [] (codes "false" ∷ []);
  missing = cond takes [] (codes "true" ∷ []);
  trailing_var_arg = false;
  parser = Some (cond takes vp.String vp.Bool);
  ignore_case = false;
  required = false;
  is_simple = true;
  is_free = true;
}

abbrev pub built_rule : Name → Rule
built_rule name = built_by (label name) (takes_value name)

abbrev pub built_rules : List Name → List Rule
built_rules = map built_rule

-- ---- labels tell the names apart

abbrev or_else : List ℕ → Name → Option Name → Option Name
or_else text name other = cond (bytes_eq text (label name)) (Some name) other

abbrev name_of : List ℕ → Option Name
name_of text =
    or_else text Trustees (or_else text MaxBytes (or_else text Items (or_else text Turns (or_else text Port
    (or_else text Workers (or_else text Connections (or_else text Seed (or_else text Ops (or_else text Clients None)))))))))

name_of-label : (name : Name) → name_of (label name) ≡ Some name
name_of-label Trustees = refl
name_of-label MaxBytes = refl
name_of-label Items = refl
name_of-label Turns = refl
name_of-label Port = refl
name_of-label Workers = refl
name_of-label Connections = refl
name_of-label Seed = refl
name_of-label Ops = refl
name_of-label Clients = refl

pub label_injective : (one other : Name) → label one ≡ label other → one ≡ other
label_injective one other same =
    let read : name_of (label one) ≡ name_of (label other) = ap name_of same in
    let first = name_of-label one in
    let second = name_of-label other in
    cc

pub bytes_eq-refl : (text : List ℕ) → bytes_eq text text ≡ true
bytes_eq-refl text = (bytes_eq-Decides text text).1 refl

pub bytes_eq-true : (a b : List ℕ) → bytes_eq a b ≡ true → a ≡ b
bytes_eq-true a b = (bytes_eq-Decides a b).0

pub bytes_eq-ne : (a b : List ℕ) → (a ≡ b → ⊥) → bytes_eq a b ≡ false
bytes_eq-ne a b ne = go (bytes_eq a b) refl where
  go : (t : Bool) → bytes_eq a b ≡ t → bytes_eq a b ≡ false
  go true e = absurd (ne (bytes_eq-true a b e))
  go false e = e

-- ---- searches

-- the first of the names that is spelled so
abbrev pub named : List Name → Text → Option Name
named known text = find (λ name. bytes_eq (label name) text) known

pub arg_by_long-built : (known : List Name) (text : Text) → arg_by_long (built_rules known) text ≡ option_map built_rule (named known text)
arg_by_long-built [] text = refl
arg_by_long-built (name ∷ known) text = go (bytes_eq (label name) text) (arg_by_long-built known text) where
  go : (b : Bool) → arg_by_long (built_rules known) text ≡ option_map built_rule (named known text)
      → cond (b || false) (Some (built_rule name)) (arg_by_long (built_rules known) text) ≡ option_map built_rule (cond b (Some name) (named known text))
  go true e = refl
  go false e = e

pub arg_by_id-built : (known : List Name) (text : Text) → arg_by_id (built_rules known) text ≡ option_map built_rule (named known text)
arg_by_id-built [] text = refl
arg_by_id-built (name ∷ known) text = go (bytes_eq (label name) text) (arg_by_id-built known text) where
  go : (b : Bool) → arg_by_id (built_rules known) text ≡ option_map built_rule (named known text)
      → cond b (Some (built_rule name)) (arg_by_id (built_rules known) text) ≡ option_map built_rule (cond b (Some name) (named known text))
  go true e = refl
  go false e = e

pub named-known : (known : List Name) (name : Name) → Contains known name → named known (label name) ≡ Some name
named-known [] name member = absurd (omega (arith, member.1))
named-known (first ∷ known) name member = go (named-known known name) (bytes_eq (label first) (label name)) refl where
  later : (Contains known name → named known (label name) ≡ Some name) → (k : ℕ) → k < length (first ∷ known) → slice_index_or (first ∷ known) k name ≡ name
      → (first ≡ name → ⊥) → named known (label name) ≡ Some name
  later known_later zero below at differs = absurd (differs at)
  later known_later (suc k) below at differs = known_later (k, omega arith, at)

  go : (Contains known name → named known (label name) ≡ Some name) → (b : Bool) → bytes_eq (label first) (label name) ≡ b
      → cond b (Some first) (named known (label name)) ≡ Some name
  go known_later true e = ap Some (label_injective first name (bytes_eq-true (label first) (label name) e))
  go known_later false e =
      later known_later member.0 member.1 member.2
      (λ same. true≢false (sym (bytes_eq-refl (label name)) ∙ ap (λ n. bytes_eq (label n) (label name)) (sym same) ∙ e))

pub named-is : (known : List Name) (text : Text) (name : Name) → named known text ≡ Some name → Contains known name × (label name ≡ text)
named-is [] text name e = cc
named-is (first ∷ known) text name e = go (named-is known text name) (bytes_eq (label first) text) refl e where
  go : (named known text ≡ Some name → Contains known name × (label name ≡ text)) → (b : Bool) → bytes_eq (label first) text ≡ b
      → cond b (Some first) (named known text) ≡ Some name → Contains (first ∷ known) name × (label name ≡ text)
  go later true is e =
      let same : first ≡ name = cc in
      ((0, omega arith, same), ap label (sym same) ∙ bytes_eq-true (label first) text is)
  go later false is e =
      let rest = later e in
      ((suc rest.0.0, omega arith, rest.0.2), rest.1)

-- no option has a short name or a position
pub arg_by_short-built : (known : List Name) (x : ℕ) → arg_by_short (built_rules known) x ≡ None
arg_by_short-built [] x = refl
arg_by_short-built (name ∷ known) x = arg_by_short-built known x

pub arg_by_index-built : (known : List Name) (i : ℕ) → arg_by_index (built_rules known) i ≡ None
arg_by_index-built [] i = refl
arg_by_index-built (name ∷ known) i = arg_by_index-built known i
