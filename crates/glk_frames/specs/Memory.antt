-- Memory answers the n bytes from an address on, or none: here it is made of pieces, each an address with bytes.
use Rattle.std.specs.Prelude.{ℕ, ◌+◌, ◌-◌, List, [], ◌∷◌, length, take, drop, Option, Some, None, cond, nat_lt, Bool, not, ◌&&◌}

-- the n bytes from an address on are in the piece
abbrev pub covers : ℕ × List ℕ → ℕ → ℕ → Bool
covers piece at n = not (nat_lt at piece.0) && not (nat_lt (piece.0 + length piece.1) (at + n))

-- the bytes in the first piece that covers them
unfoldable pub read_in : List (ℕ × List ℕ) → ℕ → ℕ → Option (List ℕ)
read_in [] at n = None
read_in (piece ∷ pieces) at n =
    cond (covers piece at n) (Some (take n (drop (at - piece.0) piece.1))) (read_in pieces at n)
