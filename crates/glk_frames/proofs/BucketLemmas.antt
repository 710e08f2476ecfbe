-- The function found by buckets is the one found by the search from the top.
use Rattle.std.proofs.Common.{◌≡◌, ℕ, zero, suc, ◌+◌, ◌-◌, ◌*◌, ◌/◌, ◌%◌, ◌^◌, ◌<◌, ◌≤◌, List, [], ◌∷◌, ◌++◌, length, Some, refl, ap, subst, arith, true, false, inl, inr, length-append}
use Rattle.std.specs.Prelude.{nat_lt}
use Rattle.std.proofs.lemmas.Bool.{cases_lt}
use Rattle.glk_base.specs.Bytes.{number_at}
use Rattle.glk_base.specs.Fields.{fields_bytes, byte, u32}
use Rattle.glk_frames.specs.Memory.{read_in}
use Rattle.glk_frames.specs.Region.{last_below, function_count, start_of, found_in, with_record}
use Rattle.glk_frames.specs.Buckets.{index_at, parts, bucket_bytes, buckets_from, findfunctab, begin_in, from_begin, bucket_found, AreStarts}
use Rattle.glk_base.specs.BytesAt.{IsAt}
use Rattle.glk_frames.specs.Laws.{HasBuckets}
use Rattle.glk_base.proofs.BytesAt.{is_at_here, is_at_part, is_at_same, length_fields, field_read}
use Rattle.glk_frames.proofs.AtLemmas.{is_at_after}
use Rattle.glk_frames.proofs.TreeLemmas.{piece_read}
use Rattle.glk_frames.proofs.SearchLemmas.{last_some, last_cases, far_apart, index_below, index_rises, index_few, index_near, index_same, forward_is}

pub length_parts : (index : ℕ → ℕ) (first off n : ℕ) → length (parts index first off n) ≡ n
unfolding parts
length_parts index first off zero = refl
length_parts index first off (suc n) = omega (arith, length-append (fields_bytes (byte (index off - first) ∷ [])) (parts index first (off + 256) n), length_fields (byte (index off - first) ∷ []), length_parts index first (off + 256) n)

part_is_at : (index : ℕ → ℕ) (first off n k : ℕ) → k < n → IsAt (parts index first off n) k (fields_bytes (byte (index (off + 256 * k) - first) ∷ []))
unfolding parts
part_is_at index first off zero k inside = absurd (omega arith)
part_is_at index first off (suc n) zero inside =
    let e : off ≡ off + 256 * zero = omega arith in
    subst (λ (o : ℕ). IsAt (fields_bytes (byte (index off - first) ∷ []) ++ parts index first (off + 256) n) 0 (fields_bytes (byte (index o - first) ∷ []))) e
    (is_at_here [] (fields_bytes (byte (index off - first) ∷ [])) (parts index first (off + 256) n))
part_is_at index first off (suc n) (suc k) inside =
    let size = length_fields (byte (index off - first) ∷ []) in
    let e : off + 256 + 256 * k ≡ off + 256 * suc k = omega arith in
    let x = fields_bytes (byte (index off - first) ∷ []) in
    subst (λ (o : ℕ). IsAt (x ++ parts index first (off + 256) n) (suc k) (fields_bytes (byte (index o - first) ∷ []))) e
    (is_at_same (x ++ parts index first (off + 256) n) (length x + k) (suc k) _ (is_at_after x (parts index first (off + 256) n) k _ (part_is_at index first (off + 256) n k (omega arith))) (omega (arith, size)))

length_bucket : (index : ℕ → ℕ) (off : ℕ) → length (bucket_bytes index off) ≡ 20
unfolding bucket_bytes
length_bucket index off = omega (arith, length-append (fields_bytes (u32 (index off) ∷ [])) (parts index (index off) off 16), length_fields (u32 (index off) ∷ []), length_parts index (index off) off 16)

bucket_is_at : (index : ℕ → ℕ) (off n b : ℕ) → b < n → IsAt (buckets_from index off n) (20 * b) (bucket_bytes index (off + 4096 * b))
unfolding buckets_from
bucket_is_at index off zero b inside = absurd (omega arith)
bucket_is_at index off (suc n) zero inside =
    let e : off ≡ off + 4096 * zero = omega arith in
    subst (λ (o : ℕ). IsAt (bucket_bytes index off ++ buckets_from index (off + 4096) n) 0 (bucket_bytes index o)) e (is_at_here [] (bucket_bytes index off) (buckets_from index (off + 4096) n))
bucket_is_at index off (suc n) (suc b) inside =
    let size = length_bucket index off in
    let e : off + 4096 + 4096 * b ≡ off + 4096 * suc b = omega arith in
    let x = bucket_bytes index off in
    subst (λ (o : ℕ). IsAt (x ++ buckets_from index (off + 4096) n) (20 * suc b) (bucket_bytes index o)) e
    (is_at_same (x ++ buckets_from index (off + 4096) n) (length x + 20 * b) (20 * suc b) _ (is_at_after x (buckets_from index (off + 4096) n) (20 * b) _ (bucket_is_at index (off + 4096) n b (omega arith))) (omega (arith, size)))

module _ (start : ℕ → ℕ) (n size : ℕ) (are : AreStarts start n size) (few : n < 2 ^ 32) where
  -- what a bucket says of an offset in it
  bucket_says : (o k : ℕ) → k < 16 → number_at 4 (bucket_bytes (index_at start n) o) 0 + number_at 1 (bucket_bytes (index_at start n) o) (4 + k) ≡ index_at start n (o + 256 * k)
  unfolding bucket_bytes
  bucket_says o k inside =
      let ix = index_at start n in
      let before = fields_bytes (u32 (ix o) ∷ []) in
      let tail = parts ix (ix o) o 16 in
      let size4 : length before ≡ 4 = length_fields (u32 (ix o) ∷ []) in
      let base : number_at 4 (before ++ tail) 0 ≡ ix o = field_read [] [] 4 (ix o) (before ++ tail) 0 0 (is_at_here [] before tail) refl (omega (arith, index_few start n o, few)) in
      let stand : IsAt (before ++ tail) (4 + k) (fields_bytes (byte (ix (o + 256 * k) - ix o) ∷ [])) = is_at_same (before ++ tail) (length before + k) (4 + k) _ (is_at_after before tail k _ (part_is_at ix (ix o) o 16 k inside)) (omega (arith, size4)) in
      let near : ix (o + 256 * k) - ix o ≤ 240 = index_near start n o (o + 256 * k) are.apart (omega arith) in
      let part : number_at 1 (before ++ tail) (4 + k) ≡ ix (o + 256 * k) - ix o = field_read [] [] 1 (ix (o + 256 * k) - ix o) (before ++ tail) (4 + k) (4 + k) stand (omega arith) (omega (arith, near)) in
      let rises : ix o ≤ ix (o + 256 * k) = index_rises start n o (o + 256 * k) (omega arith) in
      omega (arith, base, part, rises)

  -- the search begins at the index of the offset's 256 bytes
  begin_is : (address : ℕ) (bytes : List ℕ) (ps : List (ℕ × List ℕ)) (at off : ℕ) → IsAt bytes at (findfunctab start n size) → off < size
      → begin_in (read_in ((address, bytes) ∷ ps)) (address + at) off ≡ Some (index_at start n (4096 * (off / 4096) + 256 * (off % 4096 / 256)))
  unfolding begin_in findfunctab
  begin_is address bytes ps at off is_at below =
      let ix = index_at start n in
      let b = off / 4096 in
      let zero' : 0 + 4096 * b ≡ 4096 * b = omega arith in
      let bucket : IsAt (buckets_from ix 0 ((size + 4095) / 4096)) (20 * b) (bucket_bytes ix (4096 * b)) = subst (λ (o : ℕ). IsAt (buckets_from ix 0 ((size + 4095) / 4096)) (20 * b) (bucket_bytes ix o)) zero' (bucket_is_at ix 0 ((size + 4095) / 4096) b (omega (arith, below))) in
      let here = is_at_part bytes at (20 * b) _ (bucket_bytes ix (4096 * b)) is_at bucket in
      let offset : address + (at + 20 * b) ≡ address + at + 20 * b = omega arith in
      let read : read_in ((address, bytes) ∷ ps) (address + at + 20 * b) 20 ≡ Some (bucket_bytes ix (4096 * b)) = subst (λ (k : ℕ). read_in ((address, bytes) ∷ ps) k 20 ≡ Some (bucket_bytes ix (4096 * b))) offset (piece_read address bytes ps (at + 20 * b) 20 (bucket_bytes ix (4096 * b)) here (length_bucket ix (4096 * b))) in
      rw read (ap (λ k. Some k) (bucket_says (4096 * b) (off % 4096 / 256) (omega arith)))

  -- starts up to i are not above what start i is not above
  starts_below : (off i m : ℕ) → i < n → start i ≤ off → m ≤ i → start m ≤ off
  starts_below off i m inside here low = omega (arith, here, far_apart start n are.apart m (i - m) i (omega arith) inside)

  next_above : (off i : ℕ) → last_below start off n ≡ Some i → off < size → off < start (i + 1)
  next_above off i is below =
      let l = last_some start off n i is in
      elim (cases_lt (i + 1) n) [
        | inl less ↦ l.2 (i + 1) (omega arith) less
        | inr more ↦ let e : n ≡ i + 1 = omega (arith, l.0, more) in subst (λ (k : ℕ). off < start k) e (omega (arith, are.last, below))
      ]

  pub same_found : (address : ℕ) (bytes : List ℕ) (ps : List (ℕ × List ℕ)) (at off : ℕ) → IsAt bytes at (findfunctab start n size) → off < size → start 0 ≤ off → 0 < n
      → from_begin start off n (begin_in (read_in ((address, bytes) ∷ ps)) (address + at) off) ≡ last_below start off n
  same_found address bytes ps at off is_at below first some =
      elim (last_cases start off n) [
        | inr none ↦ absurd (let above : off < start 0 = none.1 0 some in omega (arith, above, first))
        | inl found ↦
            let a = 4096 * (off / 4096) + 256 * (off % 4096 / 256) in
            let l = last_some start off n found.0 found.1 in
            let low : index_at start n a ≤ found.0 = index_below start n a off found.0 (omega arith) found.1 in
            let sum : index_at start n a + (n - index_at start n a) ≡ n = omega (arith, low, l.0) in
            rw (begin_is address bytes ps at off is_at below, found.1)
            (forward_is start off n (n - index_at start n a) (index_at start n a) found.0 sum low l.0 (λ m lower. starts_below off found.0 m l.0 l.1 lower) (next_above off found.0 found.1 below))
      ]

-- the function found by buckets is the one found by the search
pub bucket_is : (r : List ℕ) (address : ℕ) (bytes : List ℕ) (ps : List (ℕ × List ℕ)) (at size : ℕ) → HasBuckets r bytes at size
    → (off : ℕ) → bucket_found r (read_in ((address, bytes) ∷ ps)) (address + at) off ≡ found_in r off
unfolding bucket_found found_in
bucket_is r address bytes ps at size has off = elim (cases_lt off (start_of r (function_count r))) [
  | inl less ↦
      let in' : nat_lt off (start_of r (function_count r)) ≡ true = grind (arith, less) in
      let below : off < size = let e = has.starts.last in omega (arith, less, e) in
      let some : 0 < function_count r = elim (cases_lt 0 (function_count r)) [ inl h ↦ h | inr h ↦ absurd (let e : function_count r ≡ 0 = omega (arith, h) in let z : off < start_of r 0 = subst (λ (k : ℕ). off < start_of r k) e less in omega (arith, z, has.first)) ] in
      rw in' (ap (with_record r) (same_found (start_of r) (function_count r) size has.starts has.few address bytes ps at off has.is_at below (omega (arith, has.first)) some))
  | inr more ↦
      let out : nat_lt off (start_of r (function_count r)) ≡ false = grind (arith, more) in
      rw out refl
]

-- ---- the table is made of the indices alone
parts_same : (f g : ℕ → ℕ) (first off n : ℕ) → ((k : ℕ) → f k ≡ g k) → parts f first off n ≡ parts g first off n
unfolding parts
parts_same f g first off zero same = refl
parts_same f g first off (suc n) same = rw (same off, parts_same f g first (off + 256) n same) refl

bucket_same : (f g : ℕ → ℕ) (off : ℕ) → ((k : ℕ) → f k ≡ g k) → bucket_bytes f off ≡ bucket_bytes g off
unfolding bucket_bytes
bucket_same f g off same = rw (same off, parts_same f g (g off) off 16 same) refl

buckets_same : (f g : ℕ → ℕ) (off n : ℕ) → ((k : ℕ) → f k ≡ g k) → buckets_from f off n ≡ buckets_from g off n
unfolding buckets_from
buckets_same f g off zero same = refl
buckets_same f g off (suc n) same = rw (bucket_same f g off same, buckets_same f g (off + 4096) n same) refl

pub findfunctab_same : (s u : ℕ → ℕ) (n size : ℕ) → ((j : ℕ) → j < n → s j ≡ u j) → findfunctab s n size ≡ findfunctab u n size
unfolding findfunctab
findfunctab_same s u n size same = buckets_same (index_at s n) (index_at u n) 0 ((size + 4095) / 4096) (λ k. index_same s u n k same)
