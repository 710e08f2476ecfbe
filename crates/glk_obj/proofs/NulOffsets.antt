-- A zero byte among some bytes of an object, by its offset there and by its offset among them.
use Rattle.std.proofs.Common.{◌≡◌, ◌+◌, ◌-◌, ◌*◌, ◌/◌, ◌<◌, ◌≤◌, ⊎_elim, ℕ, List, length, get_or, set, arith, subst}
use Rattle.std.proofs.Math.Nat.{eq-or-lt_of_le, le_of_mul-le-mul_right, mul-le-mul_right, lt-div-mul-add}
use Rattle.std.proofs.lemmas.Bool.{cases_lt}
use Rattle.std.proofs.lemmas.Grind.{common_steps}
use Rattle.std.proofs.lemmas.List.{get_or-set_same, get_or-set_other}
use Rattle.std.specs.List.{Contains, slice_range}
use Rattle.memchr.specs.Find.{NoneBefore, Nowhere, Passes, is_byte}
use Rattle.glk_obj.specs.NulIndex.{HasNul, IsNextNul}

-- byte k of a part, in the whole
part_byte : (b : List ℕ) (from to k : ℕ) → to ≤ length b → k < to - from → get_or (slice_range b from to) k 0 ≡ get_or b (from + k) 0
part_byte b from to k inside near = grind (arith, common_steps)

pub has_from_part : (b : List ℕ) (from to : ℕ) → from ≤ to → to ≤ length b → Contains (slice_range b from to) 0 → HasNul b from to
has_from_part b from to order inside (k, short, is) =
    let near : k < to - from = grind (arith, common_steps) in
    let same : get_or b (from + k) 0 ≡ 0 = grind (arith, common_steps) in
    record { offset = from + k; after = omega arith; before = omega arith; zero = same }

pub part_from_has : (b : List ℕ) (from to : ℕ) → from ≤ to → to ≤ length b → HasNul b from to → Contains (slice_range b from to) 0
part_from_has b from to order inside h =
    let k : ℕ = h.offset - from in
    let at : from + (h.offset - from) ≡ h.offset = omega (arith, h.after) in
    let short : h.offset - from < length (slice_range b from to) = grind (arith, common_steps, h.after, h.before) in
    let same : get_or (slice_range b from to) (h.offset - from) 0 ≡ 0 = grind (arith, common_steps, h.after, h.before, h.zero, at) in
    (h.offset - from, short, same)

-- before byte k of a part there is no zero
none_before : (b : List ℕ) (from to k : ℕ) → from + k ≤ to → to ≤ length b → Nowhere (Passes (is_byte 0) (slice_range b from to)) 0 k → HasNul b from (from + k) → ⊥
none_before b from to k near inside none h =
    let at : from + (h.offset - from) ≡ h.offset = omega (arith, h.after) in
    let short : h.offset - from < to - from = omega (arith, h.after, h.before) in
    none (h.offset - from) (omega arith) (omega (arith, h.after, h.before))
    (grind (arith, common_steps, part_byte b from to (h.offset - from) inside short, at, h.zero))

-- no byte of a part is zero
pub none_in_part : (b : List ℕ) (from to : ℕ) → from ≤ to → to ≤ length b → Nowhere (Passes (is_byte 0) (slice_range b from to)) 0 (length (slice_range b from to)) → HasNul b from to → ⊥
none_in_part b from to order inside none h =
    let size : length (slice_range b from to) ≡ to - from = grind (arith, common_steps) in
    none_before b from to (to - from) (omega arith) inside (λ k low high. none k low (omega arith))
    (record { offset = h.offset; after = h.after; before = omega (arith, h.before); zero = h.zero })

-- the first zero byte of a part
pub first_in_part : (b : List ℕ) (from to k : ℕ) → from ≤ to → to ≤ length b → NoneBefore (Passes (is_byte 0) (slice_range b from to)) 0 (length (slice_range b from to)) k → Passes (is_byte 0) (slice_range b from to) k → IsNextNul b from (from + k) × (from + k < to)
first_in_part b from to k order inside first passes =
    let size : length (slice_range b from to) ≡ to - from = grind (arith, common_steps) in
    let near : k < to - from = omega (arith, first.high) in
    let zero : get_or b (from + k) 0 ≡ 0 = grind (arith, common_steps, part_byte b from to k inside near, passes) in (
      record {
        after = omega arith;
        inside = omega arith;
        none_before = none_before b from to k (omega arith) inside first.before;
        zero = λ _. zero;
      },
      omega arith,
    )

-- where a part has no zero byte, the next one is that from its end on
pub next_before : (b : List ℕ) (from end next : ℕ) → from ≤ end → (HasNul b from end → ⊥) → IsNextNul b end next → IsNextNul b from next
next_before b from end next order none later = record {
  after = omega (arith, later.after);
  inside = later.inside;
  none_before = λ h. ⊎_elim
      (λ (below : h.offset < end). none (record { offset = h.offset; after = h.after; before = below; zero = h.zero }))
      (λ (past : end ≤ h.offset). later.none_before (record { offset = h.offset; after = past; before = h.before; zero = h.zero }))
      (cases_lt h.offset end);
  zero = later.zero;
}

-- A table that has the chunks from `end` on has also that before it, once its next zero byte is put in.
pub chunk_noted : (b table : List ℕ) (width end next : ℕ) → 0 < width → 0 < end → end ≤ length b → length b ≤ length table * width
    → IsNextNul b ((end - 1) / width * width) next
    → ((k : ℕ) → end ≤ k * width → k * width < length b → IsNextNul b (k * width) (get_or table k 0))
    → (k : ℕ) → (end - 1) / width * width ≤ k * width → k * width < length b → IsNextNul b (k * width) (get_or (set table ((end - 1) / width) next) k 0)
chunk_noted b table width end next positive some inside whole here each k from within =
    let d : ℕ = (end - 1) / width in
    let reached : d ≤ k = le_of_mul-le-mul_right from positive in
    let near : end - 1 < (end - 1) / width * width + width = lt-div-mul-add positive in
    ⊎_elim
    (λ (same : d ≡ k).
    let fits : k < length table = ⊎_elim (λ (lt : k < length table). lt) (λ (ge : length table ≤ k). absurd (let m : length table * width ≤ k * width = mul-le-mul_right width ge in omega arith)) (cases_lt k (length table)) in
    rw (same, get_or-set_same table k next 0 fits) (subst (λ j. IsNextNul b (j * width) next) same here))
    (λ (above : d < k).
    let up : d + 1 ≤ k = omega (arith, above) in
    let m : (d + 1) * width ≤ k * width = mul-le-mul_right width up in
    rw (get_or-set_other table d k next 0 (λ same. omega arith)) (each k (grind arith) within))
    (eq-or-lt_of_le reached)
