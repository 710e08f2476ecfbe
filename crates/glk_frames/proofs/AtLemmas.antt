-- Bytes at offsets of longer bytes, and numbers of four bytes in a row.
use Rattle.std.proofs.Common.{◌≡◌, ℕ, zero, suc, ◌+◌, ◌*◌, ◌^◌, ◌<◌, ◌≤◌, List, [], ◌∷◌, ◌++◌, length, drop, get_or, refl, sym, ap, subst, ◌∙◌, arith, append_assoc, length-append, length-drop}
use Rattle.std.proofs.lemmas.List.{drop_at, drop-drop, drop-append-le, append-nil}
use Rattle.glk_base.specs.Bytes.{number_at}
use Rattle.glk_base.specs.Fields.{fields_bytes, u32}
use Rattle.glk_base.specs.BytesAt.{IsAt}
use Rattle.glk_base.proofs.BytesAt.{is_at_here, is_at_part, is_at_same, length_fields, field_read}
use Rattle.glk_frames.specs.Written.{u32s_bytes}

-- with more bytes after
pub is_at_longer : (r more : List ℕ) (at : ℕ) (x : List ℕ) → IsAt r at x → IsAt (r ++ more) at x
is_at_longer r more at x s = record {
  inside = omega (arith, s.inside, length-append r more);
  rest = s.rest ++ more;
  is = drop-append-le at r more s.inside ∙ ap (λ t. t ++ more) s.is ∙ append_assoc x s.rest more;
}

-- with more bytes before
pub is_at_after : (before r : List ℕ) (at : ℕ) (x : List ℕ) → IsAt r at x → IsAt (before ++ r) (length before + at) x
is_at_after before r at x s = record {
  inside = omega (arith, s.inside, length-append before r);
  rest = s.rest;
  is = sym (drop-drop at (length before) (before ++ r)) ∙ ap (λ t. drop at t) (drop_at before r (length before) refl) ∙ s.is;
}

-- at the end
pub is_at_end : (before x : List ℕ) → IsAt (before ++ x) (length before) x
is_at_end before x = subst (λ (y : List ℕ). IsAt (before ++ y) (length before) x) (append-nil x) (is_at_here before x [])

-- a part ends inside
pub is_at_inside : (r : List ℕ) (at : ℕ) (x : List ℕ) → IsAt r at x → at + length x ≤ length r
is_at_inside r at x s = omega (arith, s.inside, ap length s.is, length-append x s.rest, length-drop at r)

-- numbers of four bytes in a row
pub length_u32s : (ns : List ℕ) → length (u32s_bytes ns) ≡ 4 * length ns
unfolding u32s_bytes
length_u32s [] = refl
length_u32s (n ∷ ns) = omega (arith, length-append (fields_bytes (u32 n ∷ [])) (u32s_bytes ns), length_fields (u32 n ∷ []), length_u32s ns)

pub u32_is_at : (ns : List ℕ) (i : ℕ) → i < length ns → IsAt (u32s_bytes ns) (4 * i) (fields_bytes (u32 (get_or ns i 0) ∷ []))
unfolding u32s_bytes
u32_is_at [] i inside = absurd (omega arith)
u32_is_at (n ∷ ns) zero inside = is_at_here [] (fields_bytes (u32 n ∷ [])) (u32s_bytes ns)
u32_is_at (n ∷ ns) (suc i) inside =
    let size = length_fields (u32 n ∷ []) in
    is_at_same (fields_bytes (u32 n ∷ []) ++ u32s_bytes ns) (length (fields_bytes (u32 n ∷ [])) + 4 * i) (4 * suc i) _ (is_at_after (fields_bytes (u32 n ∷ [])) (u32s_bytes ns) (4 * i) _ (u32_is_at ns i (omega arith))) (omega (arith, size))

pub u32_read : (r : List ℕ) (at : ℕ) (ns : List ℕ) (i : ℕ) → IsAt r at (u32s_bytes ns) → i < length ns → get_or ns i 0 < 2 ^ 32 → number_at 4 r (at + 4 * i) ≡ get_or ns i 0
u32_read r at ns i s inside small =
    field_read [] [] 4 (get_or ns i 0) r (at + 4 * i) (at + 4 * i) (is_at_part r at (4 * i) (u32s_bytes ns) _ s (u32_is_at ns i inside)) (omega arith) (omega (arith, small))
