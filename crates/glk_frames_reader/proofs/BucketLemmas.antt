-- Buckets that a file loads.
use Rattle.std.proofs.Common.{◌≡◌, ◌∙◌, ℕ, ◌+◌, ◌-◌, ◌*◌, ◌/◌, ◌<◌, List, [], ◌∷◌, Option, None, cond, refl, ap, true, false, inl, inr, arith}
use Rattle.std.specs.Prelude.{nat_lt}
use Rattle.std.proofs.lemmas.Bool.{cases_lt}
use Rattle.glk_elf.specs.ReaderSections.{loaded}
use Rattle.glk_frames.specs.Memory.{read_in}
use Rattle.glk_frames.specs.Region.{function_count, start_of, text_start, found_in, with_record}
use Rattle.glk_frames.specs.Buckets.{begin_by, begin_in, from_begin, bucket_found}
use Rattle.glk_frames.proofs.BucketLemmas.{bucket_is}
use Rattle.glk_frames_reader.specs.Opening.{FileModule}
use Rattle.glk_frames_reader.specs.Found.{in_buckets, index_found, index_found_by_bucket}
use Rattle.glk_frames_reader.specs.Laws.{LoadsBuckets, SearchesAgree}

-- only the bucket of the offset is read
same_begin : (a b : ℕ → ℕ → Option (List ℕ)) (table off : ℕ) → a (table + 20 * (off / 4096)) 20 ≡ b (table + 20 * (off / 4096)) 20 → begin_in a table off ≡ begin_in b table off
unfolding begin_in
same_begin a b table off same = ap (begin_by off) same

-- and none past the end of the text
same_found : (r : List ℕ) (a b : ℕ → ℕ → Option (List ℕ)) (table off : ℕ)
    → (off < start_of r (function_count r) → a (table + 20 * (off / 4096)) 20 ≡ b (table + 20 * (off / 4096)) 20)
    → bucket_found r a table off ≡ bucket_found r b table off
unfolding bucket_found
same_found r a b table off same = elim (cases_lt off (start_of r (function_count r))) [
  | inl less ↦
      let here : nat_lt off (start_of r (function_count r)) ≡ true = grind (arith, less) in
      rw here (ap (λ o. with_record r (from_begin (start_of r) off (function_count r) o)) (same_begin a b table off (same less)))
  | inr more ↦
      let past : nat_lt off (start_of r (function_count r)) ≡ false = grind (arith, more) in
      rw past refl
]

loaded_is : (m : FileModule) (table : ℕ) (bytes : List ℕ) (size : ℕ) → LoadsBuckets m table bytes size → (off : ℕ)
    → bucket_found m.region (loaded m.file) table off ≡ found_in m.region off
loaded_is m table bytes size has off =
    let place : table ≡ table + 0 = omega arith in
    let there : bucket_found m.region (loaded m.file) table off ≡ bucket_found m.region (read_in ((table, bytes) ∷ [])) table off =
    same_found m.region (loaded m.file) (read_in ((table, bytes) ∷ [])) table off (λ below.
    has.each (off / 4096) (let last = has.buckets.starts.last in omega (arith, below, last))) in
    there ∙ ap (λ (k : ℕ). bucket_found m.region (read_in ((table, bytes) ∷ [])) k off) place ∙ bucket_is m.region table bytes [] 0 size has.buckets off

pub searches_law : SearchesAgree
unfolding index_found index_found_by_bucket
searches_law m table bytes size has pc =
    let both : (off : ℕ) → in_buckets m m.buckets off ≡ found_in m.region off =
    λ off. ap (λ o. in_buckets m o off) has.address ∙ loaded_is m table bytes size has off in
    ap (λ o. cond (nat_lt pc (text_start m.region)) None o) (both (pc - text_start m.region))
