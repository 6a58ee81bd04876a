-- A releaser over a pad in memory, and the releases at which it fails. Releases are numbered from 1.
use Rattle.std.specs.Prelude.{ℕ, ◌<◌, ◌⊎◌, List, ◌++◌, Result, Ok, Err, Contains, drop, length}
use Rattle.cv_io.specs.declared.memory_releaser.XorPad.{XorPad}
use Rattle.cv_io.specs.Counts.{one_more}
use Rattle.cv_io.specs.Releasers.{Known, unasked}

-- what a releaser over a pad shows
pub record PadInMemory : Type 0 where
  -- all bytes of the pad, the used ones too
  pub pad : List ℕ
  -- the numbers of the releases that fail
  pub failing : List ℕ
  -- how many releases there were
  pub calls : ℕ
  pub known : Known

abbrev pub pad_of : XorPad → PadInMemory
pad_of releaser = record {
  pad = releaser.pad.items;
  failing = releaser.failing.items;
  calls = releaser.calls;
  known = record {
    heard = releaser.heard.items;
    told = releaser.told.items;
    failed_len = releaser.failed_len;
    faults = releaser.faults;
  };
}

-- one with this pad that nobody has asked
abbrev pub fresh_pad : List ℕ → List ℕ → PadInMemory
fresh_pad pad failing = record { pad = pad; failing = failing; calls = 0; known = unasked }

-- the bytes of the pad that no answer has used; each byte told has used one
abbrev pub unused : PadInMemory → List ℕ
unused releaser = drop (length releaser.known.told) releaser.pad

-- the next release, if it is of this many bytes, is one that fails
abbrev pub FailsNext : PadInMemory → ℕ → Type 0
FailsNext releaser len = Contains releaser.failing (one_more releaser.calls) ⊎ (length (unused releaser) < len)

-- after a release that was asked with the first bytes, and has ended with this answer and the second bytes
abbrev pub after_release : {T E : Type 0} → Result T E → List ℕ → List ℕ → PadInMemory → PadInMemory
after_release (Ok _) from to releaser = record releaser {
  calls = one_more releaser.calls;
  known = record releaser.known { heard = releaser.known.heard ++ from; told = releaser.known.told ++ to };
}
after_release (Err _) from to releaser = record releaser {
  calls = one_more releaser.calls;
  known = record releaser.known { failed_len = length from; faults = one_more releaser.known.faults };
}
