-- What a run has done: where it began nothing, and where a session was served.
use Rattle.std.proofs.Common.{◌≡◌, ◌≢◌, ◌⊎◌, inl, inr, ℕ, ◌≤◌, ◌<◌, ◌^◌, true, List, [], ◌∷◌, Vec, length, map, take, Option, Some, None, String, slice_index_or, refl, sym, ap, ◌∙◌, arith, append-nil}
use Rattle.std.specs.Global.{Global}
use Rattle.tm_client.specs.declared.trust.Trust.{Trust}
use Rattle.tm_pair.specs.Views.{new_client}
use Rattle.tm_turns.specs.Making.{HasBuilt}
use Rattle.mc_item.specs.declared.limits.TheConstants.{MOST_ITEMS, USUAL_ITEMS}
use Rattle.mc_grammar.proofs.Spellings.{each_text_reads}
use Rattle.mc_model.specs.Plain.{new_store}
use Rattle.mc_model.specs.Quits.{until_quit}
use Rattle.mc_route.specs.Places.{store_first}
use Rattle.mc_next.specs.declared.ended.Ended.{Ended as SessionEnded}
use Rattle.mc_next.specs.declared.ended.Ended.TheVariants as ended
use Rattle.mc_next.specs.Parts.{store_kind}
use Rattle.mc_next.specs.Runs.{Setting, SessionView}
use Rattle.mc_next.specs.Sessions.{seen}
use Rattle.mc_next.specs.Works.{named_by}
use Rattle.mc_solo.specs.Serving.{StoreTurns, MayServe, HasServedInTurn, store_view, store_config}
use Rattle.mc_alone.specs.Laws.{OneClientMeetsOneStore}
use Rattle.mc_words.specs.declared.limits.TheConstants.{USUAL_BYTES, USUAL_TRUSTEES}
use Rattle.mc_words.specs.declared.run.Run.{Run}
use Rattle.mc_words.specs.RunWords.{IsRunInRange}
use Rattle.mc_top.specs.declared.status.Status.{Status}
use Rattle.mc_top.specs.declared.status.Status.TheVariants.{Ended, BadWords, NoMemory, ReadFault, WriteFault, TooMuch, EndedInside}
use Rattle.mc_top.specs.Runs.{AreLawful, DeviceViews, views, HasAnswered, Does}

-- a session that has no client yet
abbrev unmet : DeviceViews → SessionView
unmet devices = record { sides = λ t. new_client 0; input = devices.input; clock = devices.clock; output = devices.output }

-- memory was wanting before anything was read
pub nothing_answered : (items max_bytes : ℕ) (devices : DeviceViews) → HasAnswered items max_bytes ended.NoMemory devices devices
nothing_answered items max_bytes devices =
    let (messages, rest, reads) = each_text_reads (take max_bytes []) in
    record {
      s = record { named = named_by []; trustees = 0; limit = max_bytes };
      first = unmet devices;
      now = unmet devices;
      limit = refl;
      at_first = refl;
      at_end = refl;
      answered = record {
        text = [];
        messages = messages;
        rest = rest;
        has_read = record { came = λ bytes e. (bytes, refl, e); reads = reads };
        begun = record {
          seen = [];
          unseen = until_quit messages;
          parts = refl;
          readings = [];
          last_reading = [];
          once = omega arith;
          output = [];
          is_read = λ read e. e ∙ ap (λ l. Some l) (sym (append-nil read));
          outputs = record { replies = []; store = new_store items; runs = (refl, refl, refl); shows = refl };
          is_written = λ written e. (0, e ∙ ap (λ l. Some l) (sym (append-nil written)));
        };
      };
    }

-- a session was served by the only client of a new store
pub answered : OneClientMeetsOneStore
    → (trustees items max_bytes : ℕ) (trusts : List Trust) (turns new : StoreTurns) (how : SessionEnded) (left left_new readings readings_new written written_new : Option (List ℕ))
    → items ≤ MOST_ITEMS → max_bytes < 2 ^ 64
    → HasBuilt store_kind (store_config 1 trustees) (store_first 1 trustees items) turns (trusts ∷ [])
    → HasServedInTurn how 0 trusts max_bytes turns new left left_new readings readings_new written written_new
    → MayServe 0 trusts turns → MayServe 0 trusts new
    → HasAnswered items max_bytes how (views left readings written) (views left_new readings_new written_new)
answered law trustees items max_bytes trusts turns new how left left_new readings readings_new written written_new least most built served may again =
    let s : Setting = record { named = named_by trusts; trustees = trustees; limit = max_bytes } in
    record {
      s = s;
      first = seen store_view may.client.books left readings written;
      now = seen store_view again.client.books left_new readings_new written_new;
      limit = refl;
      at_first = refl;
      at_end = refl;
      answered =
          law trustees items max_bytes trusts turns new how left left_new readings readings_new written written_new least most built served
          s may.client again.client refl (record { names = refl; trustees_are = refl }) may.of_client again.of_client;
    }

-- the trusts of the only client, as they are read of a vector of vectors
pub one_dealt : (trusts : List (Vec Trust Global)) (read : Vec Trust Global) (list : List Trust) → length trusts ≡ 1 → read ≡ slice_index_or trusts 0 read
    → list ≡ read.items → map (λ l. l.items) trusts ≡ list ∷ []
one_dealt [] read list one value items = absurd (omega (arith, one))
one_dealt (of_client ∷ []) read list one value items = ap (λ l. l ∷ []) (sym (items ∙ ap (λ (v : Vec Trust Global). v.items) value))
one_dealt (of_client ∷ other ∷ more) read list one value items = absurd (omega (arith, one))

-- ---- words

-- what was to be done where words were refused, or could not be read
pub unrun : (said : List (String Global)) (why : Status) (devices : DeviceViews) → (why ≡ BadWords) ⊎ (why ≡ NoMemory)
    → (why ≡ BadWords → (run : Run) → AreLawful said run → ⊥) → (run : Run) → AreLawful said run → Does run.items run.max_bytes why devices devices
unrun said why devices (inl bad) refused run lawful = absurd (refused bad run lawful)
unrun said why devices (inr none) refused run lawful = rw none (nothing_answered run.items run.max_bytes devices)

abbrev usual_run : Run
usual_run = record { trustees = USUAL_TRUSTEES; max_bytes = USUAL_BYTES; items = USUAL_ITEMS; turns = true }

usual_range : IsRunInRange usual_run
usual_range = record { trustees = (omega arith, omega arith); max_bytes = (omega arith, omega arith); items = (omega arith, omega arith) }

-- some run, with numbers that words may say, did this
abbrev pub DoesSome : Status → DeviceViews → DeviceViews → Type 0
DoesSome status before after = (run : Run) × IsRunInRange run × Does run.items run.max_bytes status before after

pub did_nothing : (devices : DeviceViews) → DoesSome NoMemory devices devices
did_nothing devices = (usual_run, usual_range, nothing_answered USUAL_ITEMS USUAL_BYTES devices)

pub did_not_run : (status : Status) (devices : DeviceViews) → (status ≡ BadWords) ⊎ (status ≡ NoMemory) → DoesSome status devices devices
did_not_run status devices (inl bad) = (usual_run, usual_range, rw bad refl)
did_not_run status devices (inr none) = rw none (did_nothing devices)

pub no_read_fault : (why : Status) → (why ≡ BadWords) ⊎ (why ≡ NoMemory) → why ≢ ReadFault
no_read_fault why (inl bad) e = absurd (cc)
no_read_fault why (inr none) e = absurd (cc)

pub no_write_fault : (why : Status) → (why ≡ BadWords) ⊎ (why ≡ NoMemory) → why ≢ WriteFault
no_write_fault why (inl bad) e = absurd (cc)
no_write_fault why (inr none) e = absurd (cc)

is_bad : (status : Status) → (status ≡ BadWords) ⊎ (status ≢ BadWords)
is_bad BadWords = inl refl
is_bad Ended = inr (λ e. absurd (cc))
is_bad NoMemory = inr (λ e. absurd (cc))
is_bad ReadFault = inr (λ e. absurd (cc))
is_bad WriteFault = inr (λ e. absurd (cc))
is_bad TooMuch = inr (λ e. absurd (cc))
is_bad EndedInside = inr (λ e. absurd (cc))

pub did_as_said : {X Y Z : Type 0} (left : X → Option (List ℕ)) (written : Y → Option (List ℕ)) (input input_new : X) (output output_new : Y) (clock clock_new : Z)
    (said : List (String Global)) (status : Status)
    → ((run : Run) → AreLawful said run → Does run.items run.max_bytes status (views (left input) None (written output)) (views (left input_new) None (written output_new)))
    → (status ≡ BadWords → (input_new ≡ input) × (output_new ≡ output) × (clock_new ≡ clock))
    → (status ≢ BadWords → ((run : Run) × AreLawful said run × IsRunInRange run) ⊎ ((status ≡ NoMemory) × (input_new ≡ input) × (output_new ≡ output) × (clock_new ≡ clock)))
    → DoesSome status (views (left input) None (written output)) (views (left input_new) None (written output_new))
did_as_said left written input input_new output output_new clock clock_new said status does untouched lawful = elim (is_bad status) [
  | inl bad ↦ let (same_input, same_output, same_clock) = untouched bad in rw (bad, same_input, same_output) (did_not_run BadWords (views (left input) None (written output)) (inl refl))
  | inr good ↦ elim (lawful good) [
    | inl (run, is, range) ↦ (run, range, does run is)
    | inr (none, same_input, same_output, same_clock) ↦ rw (none, same_input, same_output) (did_nothing (views (left input) None (written output)))
  ]
]
