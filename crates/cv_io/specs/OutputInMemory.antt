-- A sink in memory: its bytes, and the puts at which it fails. Puts are numbered from 1.
use Rattle.std.specs.Prelude.{◌==◌, ℕ, List, ◌++◌, Option, Result, Ok, Err, take, unwrap_or}
use Rattle.std.specs.List.{find}
use Rattle.std.specs.Option.{option_map}
use Rattle.cv_io.specs.declared.memory_sink.FailingPut.{FailingPut}
use Rattle.cv_io.specs.declared.memory_sink.MemSink.{MemSink}
use Rattle.cv_io.specs.declared.sink.SinkError.{SinkError}
use Rattle.cv_io.specs.declared.sink.SinkError.TheVariants.{NoMemory, Failed}
use Rattle.cv_io.specs.Counts.{one_more}

-- what a sink in memory shows
pub record SinkInMemory : Type 0 where
  pub bytes : List ℕ
  -- the puts that fail, each with the number of bytes that it keeps
  pub failing : List FailingPut
  -- how many puts there were
  pub calls : ℕ
  pub faults : ℕ

abbrev pub sink_of : MemSink → SinkInMemory
sink_of sink = record {
  bytes = sink.bytes.items;
  failing = sink.failing.items;
  calls = sink.calls;
  faults = sink.faults;
}

-- how many bytes the put of this number keeps, by the first entry of that number; None where it doesn't fail
abbrev pub keep_of : List FailingPut → ℕ → Option ℕ
keep_of failing call = option_map (λ entry. entry.keep) (find (λ entry. entry.call == call) failing)

-- that, of the next put
abbrev pub next_keep : SinkInMemory → Option ℕ
next_keep sink = keep_of sink.failing (one_more sink.calls)

-- after a put of this piece that answers this
abbrev pub after_put : {T : Type 0} → Result T SinkError → List ℕ → SinkInMemory → SinkInMemory
after_put (Ok _) piece sink = record sink { bytes = sink.bytes ++ piece; calls = one_more sink.calls }
after_put (Err NoMemory) piece sink = record sink { calls = one_more sink.calls }
after_put (Err Failed) piece sink = record sink {
  bytes = sink.bytes ++ take (unwrap_or (next_keep sink) 0) piece;
  calls = one_more sink.calls;
  faults = one_more sink.faults;
}
