-- The parts of the devices over std.
use Rattle.std.specs.Prelude.{◌≡◌, ℕ}
use Rattle.tm_base.specs.declared.link.Link.{Link}
use Rattle.tm_base.specs.declared.std_source.StdSource.{StdSource}
use Rattle.tm_base.specs.declared.std_sink.StdSink.{StdSink}
use Rattle.tm_base.specs.declared.system_clock.SystemClock.{SystemClock}

-- the reader of a source
abbrev pub reader_of : {R : Type 0} → StdSource R → R
reader_of source = source.reader

-- the faults of a source so far
abbrev pub source_faults : {R : Type 0} → StdSource R → ℕ
source_faults source = source.faults

-- the writer of a sink
abbrev pub writer_of : {T : Type 0} → StdSink T → T
writer_of sink = sink.writer

-- the faults of a sink so far
abbrev pub sink_faults : {T : Type 0} → StdSink T → ℕ
sink_faults sink = sink.faults

-- the runtime of a clock
abbrev pub runtime_of : {C : Type 0} → SystemClock C → C
runtime_of clock = clock.clock

-- the last good reading of a clock, or 0
abbrev pub last_reading : {C : Type 0} → SystemClock C → ℕ
last_reading clock = clock.last

-- a link that nothing was read from or written to: no fault was counted, and no reading taken
abbrev pub IsFresh : {R T C : Type 0} → Link (StdSource R) (StdSink T) (SystemClock C) → Type 0
IsFresh link = (source_faults link.source ≡ 0) × (sink_faults link.sink ≡ 0) × (last_reading link.clock ≡ 0)
