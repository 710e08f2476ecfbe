-- Numbers of four bytes in a row, and blocks in a row.
use Rattle.std.proofs.Common.{◌≡◌, ◌∙◌, ℕ, zero, suc, ◌+◌, ◌*◌, ◌^◌, ◌<◌, List, [], ◌∷◌, length, map, get_or, refl, sym, ap, arith}
use Rattle.byteorder.specs.Endian.{little_bytes}
use Rattle.byteorder.specs.Numbers.{length-bytes_low_first}
use Rattle.glk_base.specs.Bytes.{number_at}
use Rattle.glk_base.specs.BytesAt.{IsAt}
use Rattle.glk_base.specs.Fields.{fields_bytes}
use Rattle.glk_base.proofs.BytesAt.{is_at_same, is_at_first, is_at_second, number_here}
use Rattle.glk_objdesc.specs.Fields.{u32s_bytes, prefix_sums}
use Rattle.glk_objdesc.specs.FirstUse.{concat_of}

-- ---- numbers
pub u32_read : (r : List ℕ) (at : ℕ) (ns : List ℕ) (i : ℕ) → IsAt r at (u32s_bytes ns) → i < length ns → get_or ns i 0 < 2 ^ 32 → number_at 4 r (at + 4 * i) ≡ get_or ns i 0
unfolding fields_bytes
u32_read r at [] i s inside small = absurd (omega arith)
u32_read r at (n ∷ ns) zero s inside small = number_here 4 n r (at + 4 * 0) (is_at_same r at _ _ (is_at_first r at (little_bytes 4 n) (u32s_bytes ns) s) (omega arith)) (omega (arith, small))
u32_read r at (n ∷ ns) (suc i) s inside small =
    let size = length-bytes_low_first 0 4 n in
    let later : IsAt r (at + 4) (u32s_bytes ns) = is_at_same r _ (at + 4) _ (is_at_second r at (little_bytes 4 n) (u32s_bytes ns) s) (omega (arith, size)) in
    let offset : at + 4 + 4 * i ≡ at + 4 * suc i = omega arith in
    ap (λ (j : ℕ). number_at 4 r j) (sym offset) ∙ u32_read r (at + 4) ns i later (omega arith) small

-- ---- blocks
pub block_is_at : (r : List ℕ) (bs : List (List ℕ)) (at k : ℕ) → k < length bs → IsAt r at (concat_of bs) → IsAt r (get_or (prefix_sums at (map length bs)) k 0) (get_or bs k [])
unfolding concat_of prefix_sums
block_is_at r [] at k inside s = absurd (omega arith)
block_is_at r (b ∷ bs) at zero inside s = is_at_first r at b (concat_of bs) s
block_is_at r (b ∷ bs) at (suc k) inside s = block_is_at r bs (at + length b) k (omega arith) (is_at_second r at b (concat_of bs) s)

start_is : (at : ℕ) (ns : List ℕ) → get_or (prefix_sums at ns) 0 0 ≡ at
unfolding prefix_sums
start_is at [] = refl
start_is at (n ∷ ns) = refl

pub next_is : (bs : List (List ℕ)) (at k : ℕ) → k < length bs → get_or (prefix_sums at (map length bs)) (k + 1) 0 ≡ get_or (prefix_sums at (map length bs)) k 0 + length (get_or bs k [])
unfolding prefix_sums
next_is [] at k inside = absurd (omega arith)
next_is (b ∷ bs) at zero inside = start_is (at + length b) (map length bs)
next_is (b ∷ bs) at (suc k) inside =
    let offset : suc k + 1 ≡ suc (k + 1) = omega arith in
    ap (λ (j : ℕ). get_or (prefix_sums at (map length (b ∷ bs))) j 0) offset ∙ next_is bs (at + length b) k (omega arith)
