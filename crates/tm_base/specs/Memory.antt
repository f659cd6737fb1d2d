-- What the devices in memory stand for, and what a call does.
use Rattle.std.specs.Prelude.{ℕ, List, [], ◌∷◌, ◌++◌, length, drop, min, max}
use Rattle.std.specs.declared.alloc.Global.{Global}
use Rattle.std.specs.declared.sync.Arc.{Arc}
use Rattle.std.specs.declared.sync.Mutex.{Mutex}
use Rattle.tm_base.specs.Causes.{one_fault_more}
use Rattle.tm_base.specs.declared.gathered.Gathered.{Gathered}
use Rattle.tm_base.specs.Plan.{Plan, after_call, after_fault}

-- a source: the bytes still to come, the cuts of the reads to come, and which calls fail
pub record SourceState : Type 0 where
  pub left : List ℕ
  pub cuts : List ℕ
  pub plan : Plan

-- of this much room, what the first cut leaves; a cut of 0 counts as 1, and no cut leaves it all
abbrev pub within_cut : List ℕ → ℕ → ℕ
within_cut [] room = room
within_cut (cut ∷ _) room = min room (max cut 1)

-- how many bytes a read gives that does not fail
abbrev pub given_by : SourceState → ℕ → ℕ
given_by source room = within_cut source.cuts (min room (length source.left))

-- a source that gave so many bytes
abbrev pub after_read : ℕ → SourceState → SourceState
after_read n source = record { left = drop n source.left; cuts = drop 1 source.cuts; plan = after_call source.plan }

-- a sink: the bytes written, the most that a write takes, which calls fail, and the faults for want of memory
pub record SinkState : Type 0 where
  pub written : List ℕ
  pub most : ℕ
  pub plan : Plan
  pub lacked : ℕ

-- how many bytes of a piece of this length a write takes that does not fail; a most of 0 counts as 1
abbrev pub taken_by : SinkState → ℕ → ℕ
taken_by sink len = min len (max sink.most 1)

-- a sink that took these bytes
abbrev pub after_write : List ℕ → SinkState → SinkState
after_write bytes sink =
    record { written = sink.written ++ bytes; most = sink.most; plan = after_call sink.plan; lacked = sink.lacked }

-- a sink whose call failed as it was told to
abbrev pub after_failure : SinkState → SinkState
after_failure sink =
    record { written = sink.written; most = sink.most; plan = after_fault (after_call sink.plan); lacked = sink.lacked }

-- a sink whose call found no memory
abbrev pub after_lack : SinkState → SinkState
after_lack sink =
    record {
      written = sink.written;
      most = sink.most;
      plan = after_fault (after_call sink.plan);
      lacked = one_fault_more sink.lacked;
    }

-- a sink whose bytes stand under a lock: the most that a write takes, which calls fail, and the lock
pub record PostState : Type 0 where
  pub most : ℕ
  pub plan : Plan
  pub shared : Arc (Mutex Gathered) Global

-- a clock: the readings so far, the readings to come, and the last one, which is 0 at first
pub record ClockState : Type 0 where
  pub so_far : List ℕ
  pub coming : List ℕ
  pub last : ℕ

-- the first of the readings to come, or the last one again
abbrev pub next_reading : List ℕ → ℕ → ℕ
next_reading [] last = last
next_reading (reading ∷ _) last = reading

-- a clock that was read once more
abbrev pub after_reading : ClockState → ClockState
after_reading clock =
    let reading = next_reading clock.coming clock.last in
    record { so_far = clock.so_far ++ reading ∷ []; coming = drop 1 clock.coming; last = reading }
