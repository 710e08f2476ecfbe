-- The table findfunctab, which says where a search for a function begins: for each 4096 bytes of text a bucket, which
-- has the index of the function at the first of them, and for each 256 bytes of them how much greater the index is there.
use Rattle.std.specs.Prelude.{ℕ, zero, suc, ◌+◌, ◌-◌, ◌*◌, ◌/◌, ◌%◌, ◌≡◌, ◌≤◌, ◌<◌, List, [], ◌∷◌, ◌++◌, Option, None, Some, cond, nat_lt}
use Rattle.glk_base.specs.Bytes.{number_at}
use Rattle.glk_base.specs.Fields.{fields_bytes, byte, u32}
use Rattle.glk_frames.specs.Region.{last_below, function_count, start_of, with_record}

-- ---- as it is written

abbrev pub or_first : Option ℕ → ℕ
or_first None = 0
or_first (Some i) = i

-- the index of the function at an offset; past the last start it is the last, and before the first it is 0
unfoldable pub index_at : (ℕ → ℕ) → ℕ → ℕ → ℕ
index_at start n off = or_first (last_below start off n)

-- how much greater than `first` the indices are at n offsets, each 256 above the one before
unfoldable pub parts : (ℕ → ℕ) → ℕ → ℕ → ℕ → List ℕ
parts index first off zero = []
parts index first off (suc more) = fields_bytes (byte (index off - first) ∷ []) ++ parts index first (off + 256) more

-- the bucket at an offset
unfoldable pub bucket_bytes : (ℕ → ℕ) → ℕ → List ℕ
bucket_bytes index off = fields_bytes (u32 (index off) ∷ []) ++ parts index (index off) off 16

-- n buckets from an offset on
unfoldable pub buckets_from : (ℕ → ℕ) → ℕ → ℕ → List ℕ
buckets_from index off zero = []
buckets_from index off (suc more) = bucket_bytes index off ++ buckets_from index (off + 4096) more

-- the whole table, for n functions and a text of this size
unfoldable pub findfunctab : (ℕ → ℕ) → ℕ → ℕ → List ℕ
findfunctab start n size = buckets_from (index_at start n) 0 ((size + 4095) / 4096)

-- ---- as it is read

-- the index at which the search for an offset begins: the sum of the bucket's first index and the part
abbrev pub begin_by : ℕ → Option (List ℕ) → Option ℕ
begin_by off None = None
begin_by off (Some bucket) = Some (number_at 4 bucket 0 + number_at 1 bucket (4 + off % 4096 / 256))

-- the same, of the bucket in memory
unfoldable pub begin_in : (ℕ → ℕ → Option (List ℕ)) → ℕ → ℕ → Option ℕ
begin_in memory table off = begin_by off (memory (table + 20 * (off / 4096)) 20)

-- the least of the n indices from j on whose next start is above the offset
unfoldable pub forward : (ℕ → ℕ) → ℕ → ℕ → ℕ → Option ℕ
forward start off zero j = None
forward start off (suc more) j = cond (nat_lt off (start (j + 1))) (Some j) (forward start off more (j + 1))

-- from an index on, below the number of functions
abbrev pub from_begin : (ℕ → ℕ) → ℕ → ℕ → Option ℕ → Option ℕ
from_begin start off n None = None
from_begin start off n (Some j) = forward start off (n - j) j

-- The function found by buckets, for an offset below the last entry: there is none where the bucket is not in memory, or
-- where the record is not in the region.
unfoldable pub bucket_found : List ℕ → (ℕ → ℕ → Option (List ℕ)) → ℕ → ℕ → Option ℕ
bucket_found r memory table off =
    cond (nat_lt off (start_of r (function_count r)))
    (with_record r (from_begin (start_of r) off (function_count r) (begin_in memory table off))) None

-- each start is at least 16 above the one before
abbrev pub AreApart : (ℕ → ℕ) → ℕ → Type 0
AreApart start n = (j : ℕ) → j + 1 < n → start j + 16 ≤ start (j + 1)

-- n starts that are apart and below the text's size, which is the entry after the last
pub record AreStarts (start : ℕ → ℕ) (n size : ℕ) : Type 0 where
  pub apart : AreApart start n
  pub below : (j : ℕ) → j < n → start j < size
  pub last : start n ≡ size
