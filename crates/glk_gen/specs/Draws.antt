-- The numbers that a world draws: those of a linear congruential generator, Knuth's MMIX one. A state has 64 bits,
-- and its upper 31 bits are drawn.
use Rattle.std.specs.Prelude.{ℕ, ◌+◌, ◌*◌, ◌/◌, ◌%◌, ◌^◌, zero, suc}

abbrev pub multiplier : ℕ
multiplier = 6364136223846793005

abbrev pub increment : ℕ
increment = 1442695040888963407

abbrev pub state_bits : ℕ
state_bits = 64

abbrev pub dropped_bits : ℕ
dropped_bits = 33

-- the state to which a draw goes on
unfoldable pub next_state : ℕ → ℕ
next_state state = (state * multiplier + increment) % 2 ^ state_bits

-- the state after k draws; before the first one it is the seed
unfoldable pub state_after : ℕ → ℕ → ℕ
state_after seed zero = seed
state_after seed (suc k) = next_state (state_after seed k)

-- draw k, from 0 on
unfoldable pub draw : ℕ → ℕ → ℕ
draw seed k = state_after seed (suc k) / 2 ^ dropped_bits
