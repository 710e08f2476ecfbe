-- What the tests speak of: keys that are numbers. One key, one hash.
use Rattle.std.proofs.Common.{◌≡◌, ℕ, zero, suc, ◌%◌, ◌<◌, List, [], ◌∷◌, length, map, sym, ap, ◌∙◌, refl, arith}
use Rattle.std.specs.Prelude.{slice_index_or}
use Rattle.glk_table.specs.Keys.{hash_of, key_of, IsLawful}

-- ids whose key is a number, and whose hash is the rest of that number
abbrev pub numbered_keys : ℕ → List ℕ → List (ℕ × ℕ)
numbered_keys hashes names = map (λ n. (n % hashes, n)) names

key_at : (h : ℕ) (names : List ℕ) (id : ℕ) → id < length (numbered_keys h names) → slice_index_or (numbered_keys h names) id (0, 0) ≡ (slice_index_or names id 0 % h, slice_index_or names id 0)
key_at h [] id lt = absurd (omega arith)
key_at h (x ∷ xs) zero lt = refl
key_at h (x ∷ xs) (suc id) lt = key_at h xs id (omega arith)

hash_is : (h : ℕ) (names : List ℕ) (id : ℕ) → id < length (numbered_keys h names) → hash_of (numbered_keys h names) id ≡ slice_index_or names id 0 % h
hash_is h names id lt = ap (λ x. x.0) (key_at h names id lt)

key_is : (h : ℕ) (names : List ℕ) (id : ℕ) → id < length (numbered_keys h names) → key_of (numbered_keys h names) id ≡ slice_index_or names id 0
key_is h names id lt = ap (λ x. x.1) (key_at h names id lt)

pub numbered_lawful : (h : ℕ) (names : List ℕ) → IsLawful (numbered_keys h names)
numbered_lawful h names a b ha hb e =
    hash_is h names a ha ∙ (ap (λ n. n % h) (sym (key_is h names a ha) ∙ (e ∙ key_is h names b hb)) ∙ sym (hash_is h names b hb))
