-- What the key table and the election are told of a row.
use Rattle.std.proofs.Common.{◌≡◌, sym, ℕ, ◌<◌, length, get_or, ap, ◌∙◌, subst, arith, None}
use Rattle.std.specs.Prelude.{IsTrue, ◌↔◌}
use Rattle.std.proofs.lemmas.List.{get_or-map, length-map}
use Rattle.std.proofs.lemmas.List.FromFn.{get_or-map-range_with_len}
use Rattle.glk_table.specs.Keys.{hash_of, key_of}
use Rattle.glk_elect.specs.Answers.{IsLeastOf}
use Rattle.glk_elect.specs.Ballots.{vote_at}
use Rattle.glk_keys.specs.KeyHashes.{key_hash}
use Rattle.glk_keys.specs.KeyNumbers.{keys_of, key_at, keys_long, number_at, same_test, least_number, no_key, number_of, stands, is_at}
use Rattle.glk_keys.specs.Keys.{Key, row_key, row_keys, same_key, key_id}
use Rattle.glk_keys.specs.Programs.{Program}
use Rattle.glk_keys.specs.Rows.{rows_of, row_at, row_count, no_row}
use Rattle.glk_keys.specs.Votes.{votes_of, vote_of}

module _ (p : Program) where
  pub long_row_keys : length (row_keys p) ≡ row_count p
  long_row_keys = length-map (rows_of p) row_key

  pub nth_key : (a : ℕ) → a < row_count p → get_or (row_keys p) a no_key ≡ row_key (row_at p a)
  nth_key a h = get_or-map row_key (rows_of p) a no_row no_key h

  pub nth_hash : (a : ℕ) → a < row_count p → hash_of (keys_of p) a ≡ key_hash (row_key (row_at p a))
  nth_hash a h = ap (λ (x : ℕ × ℕ). x.0) (key_at (row_keys p) a (let l = long_row_keys in omega arith)) ∙ ap key_hash (nth_key a h)

  pub nth_number : (a : ℕ) → a < row_count p → key_of (keys_of p) a ≡ key_id p a
  nth_number a h = number_at (row_keys p) a (let l = long_row_keys in omega arith) ∙ ap (number_of (row_keys p)) (nth_key a h)

  pub nth_same : (a b : ℕ) → a < row_count p → b < row_count p → IsTrue (same_key (row_key (row_at p a)) (row_key (row_at p b))) ↔ (key_of (keys_of p) a ≡ key_of (keys_of p) b)
  nth_same a b ha hb =
      let l = long_row_keys in
      let P : Key × Key → Type 0 = λ x. IsTrue (same_key x.0 x.1) ↔ (key_of (keys_of p) a ≡ key_of (keys_of p) b) in
      let ka = nth_key a ha in
      let kb = nth_key b hb in
      subst P (λ z. (ka z, kb z)) (same_test (row_keys p) a b (omega arith) (omega arith))

  -- the least row of a key is the key's number
  pub least_is_key : (id k : ℕ) → id < row_count p → IsLeastOf (keys_of p) id k → k ≡ key_id p id
  least_is_key id k h l =
      let a = long_row_keys in
      let b = keys_long (row_keys p) in
      let inside = l.of_key.0 in
      least_number (row_keys p) id k (omega arith) (omega arith) l.of_key.1 (λ c hc e. l.least c (omega arith, e)) ∙ ap (number_of (row_keys p)) (nth_key id h)

  pub nth_vote : (a : ℕ) → a < row_count p → vote_at (votes_of p) a ≡ vote_of p a
  unfolding votes_of
  nth_vote a h = get_or-map-range_with_len (vote_of p) 0 (row_count p) a a None h (omega arith)

  -- the row that a key is has that key
  pub key_of_id : (id : ℕ) → id < row_count p → row_key (row_at p (key_id p id)) ≡ row_key (row_at p id)
  key_of_id id h =
      let l = long_row_keys in
      let inside : id < length (row_keys p) = omega arith in
      let same : number_of (row_keys p) (get_or (row_keys p) id no_key) ≡ key_id p id = ap (number_of (row_keys p)) (nth_key id h) in
      let there = stands (row_keys p) id inside in
      let hk : key_id p id < row_count p = omega (arith, there, same, l) in
      sym (nth_key (key_id p id) hk) ∙ ap (λ k. get_or (row_keys p) k no_key) (sym same) ∙ sym (is_at (row_keys p) id inside) ∙ nth_key id h

  -- and is a row
  pub key_within : (id : ℕ) → id < row_count p → key_id p id < row_count p
  key_within id h =
      let l = long_row_keys in
      let inside : id < length (row_keys p) = omega arith in
      let same : number_of (row_keys p) (get_or (row_keys p) id no_key) ≡ key_id p id = ap (number_of (row_keys p)) (nth_key id h) in
      let there = stands (row_keys p) id inside in
      omega (arith, there, same, l)
