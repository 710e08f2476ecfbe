-- Parts of bytes at their offsets, and the numbers of fields there.
use Rattle.std.proofs.Common.{◌≡◌, ◌∙◌, ℕ, ◌+◌, ◌-◌, ◌%◌, ◌^◌, ◌<◌, List, [], ◌∷◌, ◌++◌, length, drop, take, get_or, refl, sym, ap, subst, arith, append_assoc, length-append, length-drop}
use Rattle.std.specs.List.{slice_range}
use Rattle.std.proofs.lemmas.List.{drop_at, drop-drop, drop-append-le, take_at, get_or-drop, append-nil}
use Rattle.byteorder.specs.Endian.{little_bytes, little_number}
use Rattle.byteorder.specs.Numbers.{little_number-reads_back, length-bytes_low_first}
use Rattle.glk_base.specs.Bytes.{number_at}
use Rattle.glk_base.specs.Fields.{fields_bytes}
use Rattle.glk_base.specs.BytesAt.{IsAt}

-- a part is at the length of what is before it
pub is_at_here : (before x more : List ℕ) → IsAt (before ++ (x ++ more)) (length before) x
is_at_here before x more = record { inside = omega (arith, length-append before (x ++ more)); rest = more; is = drop_at before (x ++ more) (length before) refl }

-- a part of a part
pub is_at_part : (r : List ℕ) (at k : ℕ) (x y : List ℕ) → IsAt r at x → IsAt x k y → IsAt r (at + k) y
is_at_part r at k x y s p = record {
  inside = omega (arith, s.inside, p.inside, ap length s.is, length-append x s.rest, length-drop at r);
  rest = p.rest ++ s.rest;
  is = sym (drop-drop k at r) ∙ ap (λ t. drop k t) s.is ∙ drop-append-le k x s.rest p.inside ∙ ap (λ t. t ++ s.rest) p.is ∙ append_assoc y p.rest s.rest;
}

-- at an equal offset
pub is_at_same : (r : List ℕ) (at k : ℕ) (x : List ℕ) → IsAt r at x → at ≡ k → IsAt r k x
is_at_same r at k x s e = subst (λ (j : ℕ). IsAt r j x) e s

-- the first and the second of two
pub is_at_first : (r : List ℕ) (at : ℕ) (x y : List ℕ) → IsAt r at (x ++ y) → IsAt r at x
is_at_first r at x y s = record { inside = s.inside; rest = y ++ s.rest; is = s.is ∙ append_assoc x y s.rest }

pub is_at_second : (r : List ℕ) (at : ℕ) (x y : List ℕ) → IsAt r at (x ++ y) → IsAt r (at + length x) y
is_at_second r at x y s = is_at_part r at (length x) (x ++ y) y s (let h : IsAt (x ++ (y ++ [])) (length x) y = is_at_here x y [] in subst (λ (z : List ℕ). IsAt (x ++ z) (length x) y) (append-nil y) h)

-- ---- fields
abbrev pub widths : List (ℕ × ℕ) → ℕ
widths [] = 0
widths (f ∷ fs) = f.0 + widths fs

pub length_fields : (fs : List (ℕ × ℕ)) → length (fields_bytes fs) ≡ widths fs
unfolding fields_bytes
length_fields [] = refl
length_fields (f ∷ fs) =
    let all = length-append (little_bytes f.0 f.1) (fields_bytes fs) in
    let here = length-bytes_low_first 0 f.0 f.1 in
    let rest = length_fields fs in
    omega (arith, all, here, rest)

pub fields_append : (fs gs : List (ℕ × ℕ)) → fields_bytes (fs ++ gs) ≡ fields_bytes fs ++ fields_bytes gs
unfolding fields_bytes
fields_append [] gs = refl
fields_append (f ∷ fs) gs = ap (λ s. little_bytes f.0 f.1 ++ s) (fields_append fs gs) ∙ sym (append_assoc (little_bytes f.0 f.1) (fields_bytes fs) (fields_bytes gs))

-- a field among others
pub field_is_at : (before after : List (ℕ × ℕ)) (w n : ℕ) (r : List ℕ) (at k : ℕ) → IsAt r at (fields_bytes (before ++ (w, n) ∷ after)) → k ≡ at + widths before → IsAt r k (little_bytes w n)
unfolding fields_bytes
field_is_at before after w n r at k part e =
    let inner : IsAt (fields_bytes before ++ (little_bytes w n ++ fields_bytes after)) (length (fields_bytes before)) (little_bytes w n) = is_at_here (fields_bytes before) (little_bytes w n) (fields_bytes after) in
    let whole : IsAt r at (fields_bytes before ++ (little_bytes w n ++ fields_bytes after)) = subst (λ (x : List ℕ). IsAt r at x) (fields_append before ((w, n) ∷ after)) part in
    is_at_same r _ k _ (is_at_part r at (length (fields_bytes before)) _ (little_bytes w n) whole inner) (omega (arith, e, length_fields before))

pub number_here : (w n : ℕ) (r : List ℕ) (k : ℕ) → IsAt r k (little_bytes w n) → n < 256 ^ w → number_at w r k ≡ n
unfolding number_at
number_here w n r k s small = ap (λ t. little_number w t) s.is ∙ little_number-reads_back w n s.rest small

-- a field of fields that are in the bytes is read
pub field_read : (before after : List (ℕ × ℕ)) (w n : ℕ) (r : List ℕ) (at k : ℕ) → IsAt r at (fields_bytes (before ++ (w, n) ∷ after)) → k ≡ at + widths before → n < 256 ^ w → number_at w r k ≡ n
field_read before after w n r at k part e small = number_here w n r k (field_is_at before after w n r at k part e) small

-- the same of one byte
pub byte_read : (before after : List (ℕ × ℕ)) (n : ℕ) (r : List ℕ) (at k : ℕ) → IsAt r at (fields_bytes (before ++ (1, n) ∷ after)) → k ≡ at + widths before → n < 256 → get_or r k 0 ≡ n
byte_read before after n r at k part e small =
    let s = field_is_at before after 1 n r at k part e in
    let place : k + 0 ≡ k = omega arith in
    let low : n % 256 ≡ n = omega arith in
    ap (λ (j : ℕ). get_or r j 0) (sym place) ∙ sym (get_or-drop k r 0 0) ∙ ap (λ t. get_or t 0 0) s.is ∙ low

-- a part is read
pub range_read : (r : List ℕ) (from to : ℕ) (x : List ℕ) → IsAt r from x → to ≡ from + length x → slice_range r from to ≡ x
range_read r from to x s e =
    let size : to - from ≡ length x = omega arith in
    ap (λ (n : ℕ). take n (drop from r)) size ∙ ap (λ t. take (length x) t) s.is ∙ take_at x s.rest (length x) refl
