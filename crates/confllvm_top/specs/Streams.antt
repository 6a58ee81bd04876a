-- What a call has put to a sink.
use Rattle.std.specs.Prelude.{◌≡◌, ◌≤◌, ◌⊎◌, ℕ, suc, List, length, take, slice_get, Option, Some}
use Rattle.cv_io.specs.Counts.{HasRisen}
use Rattle.cv_io.specs.Output.{appended, AppendsFront}

-- A sink before and after a call, as it is seen: the bytes that it holds, where it tells them, and its count of faults.
pub record Stream : Type 0 where
  pub held_before : Option (List ℕ)
  pub held : Option (List ℕ)
  pub faults_before : ℕ
  pub faults : ℕ

-- a sink seen through what its type tells of it
abbrev pub stream : {T : Type 0} → (T → Option (List ℕ)) → (T → ℕ) → T → T → Stream
stream held faults before after = record {
  held_before = held before;
  held = held after;
  faults_before = faults before;
  faults = faults after;
}

-- it has got this piece, and nothing else
abbrev pub HasGot : List ℕ → Stream → Type 0
HasGot piece s = s.held ≡ appended s.held_before piece

abbrev pub HasGotNothing : Stream → Type 0
HasGotNothing s = s.held ≡ s.held_before

-- it has failed
abbrev pub HasFailed : Stream → Type 0
HasFailed s = HasRisen s.faults_before s.faults

-- it has failed, and got a front of this piece, from none to all of it
abbrev pub HasGotFront : List ℕ → Stream → Type 0
HasGotFront piece s = AppendsFront s.held_before piece s.held × HasFailed s

-- a place of the text where no line is cut: its beginning, its end, or behind a line feed
abbrev pub EndsLine : List ℕ → ℕ → Type 0
EndsLine text place = (place ≡ 0) ⊎ (length text ≤ place) ⊎ ((n : ℕ) × (place ≡ suc n) × (slice_get text n ≡ Some 10))

-- it has got whole lines of the text, from none to all, and nothing else
pub record HasGotLines (text : List ℕ) (s : Stream) : Type 0 where
  pub kept : ℕ
  pub whole : EndsLine text kept
  pub got : s.held ≡ appended s.held_before (take kept text)

-- After a put whose answer is not looked at: it has got the piece; or nothing, as where memory was refused, which nothing
-- shows; or a front of it, where it has failed.
abbrev pub MayHaveGot : List ℕ → Stream → Type 0
MayHaveGot piece s = HasGot piece s ⊎ HasGotNothing s ⊎ HasGotFront piece s
