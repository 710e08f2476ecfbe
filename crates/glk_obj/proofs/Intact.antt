-- What it says that the first rules are not broken.
use Rattle.std.proofs.Common.{◌≡◌, ◌≢◌, ◌+◌, ◌-◌, ◌*◌, ◌%◌, ◌<◌, ◌≤◌, inl, inr, ℕ, List, length, arith, subst, sym, refl, zero, suc}
use Rattle.std.proofs.lemmas.Bool.{cases_lt, cases_eq}
use Rattle.glk_base.specs.Rules.{IsIntact}
use Rattle.glk_obj.specs.Blocks.{header_offset, header_length, offset_of, width_of, count, extent_of, fill_of, hash, end}
use Rattle.glk_obj.specs.Layout.{HasLayout}
use Rattle.glk_obj.specs.Rules.{Breaks}

-- Rule 1: there is a header.
pub room : (b : List ℕ) (n : ℕ) → 1 ≤ n → IsIntact (Breaks b) n → header_length ≤ length b
room b n one intact = elim (cases_lt (length b) header_length) [
  | inl short ↦ absurd (intact.no 1 (length b) one (short, refl))
  | inr enough ↦ enough
]

-- Rule 3: the blocks follow the header, in order.
pub low : (b : List ℕ) (n k : ℕ) → 3 ≤ n → IsIntact (Breaks b) n → k ≤ end → header_length ≤ offset_of b k
low b n k three intact inside = elim (cases_lt (offset_of b k) header_length) [
  | inl below ↦ absurd (intact.no 3 (header_offset k) three (record { index = k; inside = omega arith; at = refl; bad = inl below }))
  | inr fine ↦ fine
]

after : (b : List ℕ) (k : ℕ) → offset_of b (k + 1) < offset_of b k → offset_of b (k + 1) < offset_of b (k + 1 - 1)
after b k below =
    let e : k ≡ k + 1 - 1 = omega arith in
    let P : ℕ → Type 0 = λ j. offset_of b (k + 1) < offset_of b j in subst P e below

pub ordered : (b : List ℕ) (n k : ℕ) → 3 ≤ n → IsIntact (Breaks b) n → k < end → offset_of b k ≤ offset_of b (k + 1)
ordered b n k three intact inside = elim (cases_lt (offset_of b (k + 1)) (offset_of b k)) [
  | inl below ↦ absurd (intact.no 3 (header_offset (k + 1)) three (record { index = k + 1; inside = omega arith; at = refl; bad = inr (omega arith, after b k below) }))
  | inr fine ↦ fine
]

-- no block begins after the last one
up_to_end : (b : List ℕ) (n d k : ℕ) → 3 ≤ n → IsIntact (Breaks b) n → k + d ≡ end → offset_of b k ≤ offset_of b end
up_to_end b n zero k three intact e =
    let same : k ≡ end = omega arith in
    let P : ℕ → Type 0 = λ j. offset_of b j ≤ offset_of b end in subst P (sym same) (omega arith)
up_to_end b n (suc d) k three intact e =
    let step : offset_of b k ≤ offset_of b (k + 1) = ordered b n k three intact (omega arith) in
    let rest : offset_of b (k + 1) ≤ offset_of b end = up_to_end b n d (k + 1) three intact (omega arith) in
    omega arith

-- Rule 4: they are in the file.
pub within : (b : List ℕ) (n k : ℕ) → 4 ≤ n → IsIntact (Breaks b) n → k ≤ end → offset_of b k ≤ length b
within b n k four intact inside =
    let last : offset_of b end ≤ length b = elim (cases_lt (length b) (offset_of b end)) [
      | inl late ↦ absurd (intact.no 4 (header_offset end) four (late, refl))
      | inr fine ↦ fine
    ] in
    let here : offset_of b k ≤ offset_of b end = up_to_end b n (end - k) k (omega arith) intact (omega arith) in
    omega arith

-- a record is not empty
pub width-pos : (k : ℕ) → k ≤ end → 0 < width_of k
unfolding width_of
width-pos k inside = grind arith

-- the records of a block but Hash fill it
pub count-fill : (b : List ℕ) (k : ℕ) → k < end → k ≢ hash → count b k ≡ fill_of b k
unfolding count
count-fill b k inside other = grind arith

-- Rule 5: there is a whole number of them.
pub whole : (b : List ℕ) (n k : ℕ) → 5 ≤ n → IsIntact (Breaks b) n → k < end → k ≢ hash → offset_of b (k + 1) ≡ offset_of b k + width_of k * count b k
whole b n k five intact inside other =
    let positive : 0 < width_of k = width-pos k (omega arith) in
    let up : offset_of b k ≤ offset_of b (k + 1) = ordered b n k (omega arith) intact inside in
    let filled : count b k ≡ fill_of b k = count-fill b k inside other in
    elim (cases_eq (extent_of b k % width_of k) 0) [
      | inl even ↦
          let e : offset_of b (k + 1) ≡ offset_of b k + width_of k * fill_of b k = omega arith in
          let P : ℕ → Type 0 = λ n. offset_of b (k + 1) ≡ offset_of b k + width_of k * n in subst P (sym filled) e
      | inr odd ↦ absurd (intact.no 5 (header_offset k) five (record { index = k; inside = inside; at = refl; bad = (other, odd) }))
    ]

-- The first five rules give the layout.
pub layout : (b : List ℕ) (n : ℕ) → 5 ≤ n → IsIntact (Breaks b) n → HasLayout b
layout b n five intact = record {
  room = room b n (omega arith) intact;
  low = λ k inside. low b n k (omega arith) intact inside;
  ordered = λ k inside. ordered b n k (omega arith) intact inside;
  within = λ k inside. within b n k (omega arith) intact inside;
  whole = λ k inside other. whole b n k five intact inside other;
}
