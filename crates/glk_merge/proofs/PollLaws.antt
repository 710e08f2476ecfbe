-- What the poll of a program's rows answers, in words of the program.
use Rattle.std.proofs.Common.{◌≡◌, ℕ, ◌<◌, List, Option, subst, ap}
use Rattle.glk_elect.specs.Answers.{IsLeastOf, IsLeastRankOf, IsGreatestOf, OfVotes}
use Rattle.glk_elect.specs.Polls.{Poll}
use Rattle.glk_elect.proofs.Gaining.{of_own_keys}
use Rattle.glk_keys.specs.Definitions.{made_number, made_name_of}
use Rattle.glk_keys.specs.KeyLaws.{least_is_key, key_of_id, key_within}
use Rattle.glk_keys.specs.KeyNumbers.{keys_of}
use Rattle.glk_keys.specs.Keys.{Key, key_id, row_key, row_keys, same_key}
use Rattle.glk_keys.specs.Programs.{Program}
use Rattle.glk_keys.specs.Rows.{row_at, row_count}
use Rattle.glk_keys.specs.Votes.{votes_of}
use Rattle.glk_merge.specs.Mergings.{IsPollOf, IsKey}
use Rattle.std.specs.List.{position_or_len}

module _ (p : Program) (poll : Poll) (polled : IsPollOf p poll) where
  pub least_of_rows : (id : ℕ) (r : Option ℕ) → OfVotes poll (λ keys votes. IsLeastRankOf keys votes id r) → IsLeastRankOf (keys_of p) (votes_of p) id r
  least_of_rows id r f =
      let P : List (ℕ × ℕ) → Type 0 = λ l. IsLeastRankOf l (votes_of p) id r in
      subst P polled.keys_are (f (votes_of p) (of_own_keys (keys_of p) (votes_of p) poll polled))

  pub greatest_of_rows : (id : ℕ) (r : Option ℕ) → OfVotes poll (λ keys votes. IsGreatestOf keys votes id r) → IsGreatestOf (keys_of p) (votes_of p) id r
  greatest_of_rows id r f =
      let P : List (ℕ × ℕ) → Type 0 = λ l. IsGreatestOf l (votes_of p) id r in
      subst P polled.keys_are (f (votes_of p) (of_own_keys (keys_of p) (votes_of p) poll polled))

  pub key_of_row : (id k : ℕ) → id < row_count p → IsLeastOf poll.election.keys id k → k ≡ key_id p id
  key_of_row id k h l =
      let P : List (ℕ × ℕ) → Type 0 = λ keys. IsLeastOf keys id k in
      least_is_key p id k h (subst P polled.keys_are l)

-- the key of a row is a key, and a made name where the row's is
pub is_key : (p : Program) (id : ℕ) → id < row_count p → IsKey p (key_id p id)
is_key p id h = record { row = key_within p id h; own = ap (λ (k : Key). position_or_len (same_key k) (row_keys p)) (key_of_id p id h) }

pub made_of_row : (p : Program) (id : ℕ) → id < row_count p → made_name_of p (key_id p id) ≡ made_number (row_key (row_at p id))
made_of_row p id h = ap made_number (key_of_id p id h)
