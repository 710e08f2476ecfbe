-- The ids of a table, each with its hash and the number of its key.
use Rattle.std.specs.Prelude.{◌≡◌, ℕ, ◌<◌, List, length, slice_index_or}

-- the hash of an id
abbrev pub hash_of : List (ℕ × ℕ) → ℕ → ℕ
hash_of ks id = (slice_index_or ks id (0, 0)).0

-- the key of an id
abbrev pub key_of : List (ℕ × ℕ) → ℕ → ℕ
key_of ks id = (slice_index_or ks id (0, 0)).1

-- ids of one key have one hash
abbrev pub IsLawful : List (ℕ × ℕ) → Type 0
IsLawful ks = (a b : ℕ) → a < length ks → b < length ks → key_of ks a ≡ key_of ks b → hash_of ks a ≡ hash_of ks b
