-- What the tests vote on: ids in groups of one size, each a number that has its key and its vote.
use Rattle.std.specs.Prelude.{ℕ, ◌/◌, ◌%◌, ◌==◌, List, map, replicate, Option, Some, None, if◌then◌else◌}
use Rattle.glk_elect.specs.declared.ballot.Vote.{Vote}

-- the key is what the number has before its last three digits, and its last two bits are the hash
abbrev pub numbered_keys : List ℕ → List (ℕ × ℕ)
numbered_keys names = map (λ n. (n / 1000 % 4, n / 1000)) names

-- the last three digits are the rank, with none for 0; odd ones are strong
abbrev pub vote_in : ℕ → Option Vote
vote_in n = if n % 1000 == 0 then None else Some (record { rank = n % 1000; strong = n % 2 == 1 })

abbrev pub votes_of : List ℕ → List (Option Vote)
votes_of names = map vote_in names

-- groups of one size
abbrev pub even_groups : ℕ → ℕ → List ℕ
even_groups each count = replicate count each
