-- The hashes of keys, by which the key table places them. Of a long name only the length and both ends count, so that a name which
-- many rows share is not read whole for each of them.
use Rattle.std.specs.Prelude.{ℕ, ◌+◌, ◌-◌, ◌*◌, ◌/◌, ◌%◌, ◌^◌, zero, suc, min, nat_lt, List, [], ◌∷◌, length, bit_xor, if◌then◌else◌}
use Rattle.glk_base.specs.Bytes.{number_at}
use Rattle.glk_keys.specs.Keys.{Key, short, long, of_object, named}

-- an odd number of 64 bits, the golden ratio's, which spreads the bits of a word
abbrev pub multiplier : ℕ
multiplier = 0x9e37_79b9_7f4a_7c15

-- the upper half of a product also goes into its lower half, of which the table takes the place
unfoldable pub fold_halves : ℕ → ℕ
fold_halves product = bit_xor product (product / 2 ^ 32)

-- goes on over a word of eight bytes
unfoldable pub hash_step : ℕ → ℕ → ℕ
hash_step hash word = fold_halves ((bit_xor hash word * multiplier) % 2 ^ 64)

-- goes on over bytes, one by one
unfoldable pub bytes_hash : ℕ → List ℕ → ℕ
bytes_hash hash [] = hash
bytes_hash hash (byte ∷ later) = bytes_hash (hash_step hash byte) later

abbrev pub word_size : ℕ
word_size = 8

-- at most so many bytes count from each end of a name
abbrev pub end_size : ℕ
end_size = 64

-- goes on over word k from each end of a name
unfoldable pub ends_step : List ℕ → ℕ → ℕ → ℕ
ends_step name k hash =
    hash_step (hash_step hash (number_at 8 name (word_size * k))) (number_at 8 name (length name - word_size * (k + 1)))

-- and over the n words from word k on
unfoldable pub ends_hash : List ℕ → ℕ → ℕ → ℕ → ℕ
ends_hash name k zero hash = hash
ends_hash name k (suc n) hash = ends_hash name (k + 1) n (ends_step name k hash)

-- a short name by its bytes, another by its ends
unfoldable pub name_hash : List ℕ → ℕ → ℕ
name_hash name abi =
    if nat_lt (length name) word_size then bytes_hash (hash_step abi (length name)) name
    else ends_hash name 0 (min (length name) end_size / word_size) (hash_step abi (length name))

-- the first eight bytes, or 0 where there are fewer
unfoldable pub first_word : List ℕ → ℕ
first_word bytes = if nat_lt (length bytes) word_size then 0 else number_at 8 bytes 0

-- A hash of content counts by its first eight bytes.
abbrev pub key_hash : Key → ℕ
key_hash (short hash) = hash_step 1 (first_word hash)
key_hash (long hash) = hash_step 2 (first_word hash)
key_hash (of_object object local) = hash_step (hash_step 3 object) local
key_hash (named name abi) = name_hash name abi
