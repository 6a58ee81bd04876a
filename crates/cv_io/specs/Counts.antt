-- Counts that never fall, and stay at 2 ^ 64 - 1.
use Rattle.std.specs.Prelude.{ℕ, ◌+◌, ◌-◌, ◌^◌, ◌≤◌, min}

-- one more, or 2 ^ 64 - 1, where a count stays
abbrev pub one_more : ℕ → ℕ
one_more count = min (count + 1) (2 ^ 64 - 1)

-- the count is greater than before, or stands at 2 ^ 64 - 1
abbrev pub HasRisen : ℕ → ℕ → Type 0
HasRisen before after = one_more before ≤ after
