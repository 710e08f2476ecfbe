-- Numbers as ids: their keys are lawful, and their groups are of one size.
use Rattle.std.proofs.Common.{◌≡◌, ℕ, zero, suc, ◌+◌, ◌*◌, ◌/◌, ◌%◌, ◌<◌, ◌≤◌, List, [], ◌∷◌, length, take, sym, ap, ◌∙◌, refl, arith}
use Rattle.std.specs.Prelude.{slice_index_or}
use Rattle.std.specs.List.{sum}
use Rattle.std.proofs.lemmas.List.Sums.{sum_by-cons}
use Rattle.glk_table.specs.Keys.{IsLawful}
use Rattle.glk_base.specs.Groups.{group_start}
use Rattle.glk_elect.specs.Ballots.{first_of, vote_at}
use Rattle.glk_elect.specs.Tested.{numbered_keys, votes_of, vote_in, even_groups}

numbered_at : (names : List ℕ) (id : ℕ) → id < length (numbered_keys names) → slice_index_or (numbered_keys names) id (0, 0) ≡ (slice_index_or names id 0 / 1000 % 4, slice_index_or names id 0 / 1000)
numbered_at [] id lt = absurd (omega arith)
numbered_at (x ∷ xs) zero lt = refl
numbered_at (x ∷ xs) (suc id) lt = numbered_at xs id (omega arith)

pub numbered_lawful : (names : List ℕ) → IsLawful (numbered_keys names)
numbered_lawful names a b ha hb e =
    ap (λ (x : ℕ × ℕ). x.0) (numbered_at names a ha)
    ∙ (ap (λ n. n % 4) (sym (ap (λ (x : ℕ × ℕ). x.1) (numbered_at names a ha)) ∙ (e ∙ ap (λ (x : ℕ × ℕ). x.1) (numbered_at names b hb)))
    ∙ sym (ap (λ (x : ℕ × ℕ). x.0) (numbered_at names b hb)))

pub voted_at : (names : List ℕ) (id : ℕ) → id < length names → vote_at (votes_of names) id ≡ vote_in (slice_index_or names id 0)
voted_at [] id lt = absurd (omega arith)
voted_at (x ∷ xs) zero lt = refl
voted_at (x ∷ xs) (suc id) lt = voted_at xs id (omega arith)

pub even_sum : (each count : ℕ) → sum (even_groups each count) ≡ count * each
even_sum each zero = let z : 0 * each ≡ 0 = omega arith in sym z
even_sum each (suc count) = sum_by-cons (λ n. n) each (even_groups each count) ∙ (ap (λ n. each + n) (even_sum each count) ∙ grind arith)

even_take : (each count k : ℕ) → k ≤ count → take k (even_groups each count) ≡ even_groups each k
even_take each count zero h = refl
even_take each zero (suc k) h = absurd (omega arith)
even_take each (suc count) (suc k) h = ap (λ l. each ∷ l) (even_take each count k (omega arith))

pub even_start : (each count k : ℕ) → k ≤ count → first_of (even_groups each count) k ≡ k * each
unfolding group_start
even_start each count k h = ap sum (even_take each count k h) ∙ even_sum each k

length_numbered : (names : List ℕ) → length (numbered_keys names) ≡ length names
length_numbered [] = refl
length_numbered (x ∷ xs) = ap suc (length_numbered xs)

pub grouped_names : (each count : ℕ) (names : List ℕ) → count * each ≡ length names → sum (even_groups each count) ≡ length (numbered_keys names)
grouped_names each count names whole = even_sum each count ∙ (whole ∙ sym (length_numbered names))
