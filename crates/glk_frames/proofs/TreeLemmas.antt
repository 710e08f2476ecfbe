-- A tree in a piece of memory can be read, entry by entry.
use Rattle.std.proofs.Common.{◌≡◌, ℕ, zero, suc, ◌+◌, ◌-◌, ◌*◌, ◌<◌, ◌≤◌, List, [], ◌∷◌, ◌++◌, length, drop, take, Option, Some, None, cond, refl, ap, subst, ◌∙◌, arith, true, false, Bool, length-append, length-drop}
use Rattle.std.specs.Prelude.{nat_lt, not, ◌&&◌}
use Rattle.std.proofs.lemmas.List.{take_at}
use Rattle.glk_base.specs.Fields.{fields_bytes}
use Rattle.glk_frames.specs.Chain.{at_index}
use Rattle.glk_frames.specs.Memory.{read_in}
use Rattle.glk_base.specs.BytesAt.{IsAt}
use Rattle.glk_frames.specs.Written.{Entry, entry_fields, tree_bytes, EntryIn}
use Rattle.glk_base.proofs.BytesAt.{is_at_here, is_at_part, is_at_same, length_fields}
use Rattle.glk_frames.proofs.AtLemmas.{is_at_after}

pub entry_is_at : (es : List Entry) (i : ℕ) (e : Entry) → at_index es i ≡ Some e → IsAt (tree_bytes es) (16 * i) (fields_bytes (entry_fields e))
unfolding tree_bytes
entry_is_at [] i e is = absurd (let bad : None ≡ Some e = is in cc)
entry_is_at (d ∷ es) zero e is =
    let h : Some d ≡ Some e = is in
    let same : d ≡ e = cc in
    subst (λ (x : Entry). IsAt (fields_bytes (entry_fields d) ++ tree_bytes es) 0 (fields_bytes (entry_fields x))) same (is_at_here [] (fields_bytes (entry_fields d)) (tree_bytes es))
entry_is_at (d ∷ es) (suc i) e is =
    let size = length_fields (entry_fields d) in
    is_at_same (fields_bytes (entry_fields d) ++ tree_bytes es) (length (fields_bytes (entry_fields d)) + 16 * i) (16 * suc i) _ (is_at_after (fields_bytes (entry_fields d)) (tree_bytes es) (16 * i) _ (entry_is_at es i e is)) (omega (arith, size))

-- what is in the first piece is read there
pub piece_read : (base : ℕ) (bytes : List ℕ) (ps : List (ℕ × List ℕ)) (at n : ℕ) (x : List ℕ) → IsAt bytes at x → length x ≡ n → read_in ((base, bytes) ∷ ps) (base + at) n ≡ Some x
unfolding read_in
piece_read base bytes ps at n x s size =
    let long : at + n ≤ length bytes = omega (arith, s.inside, size, ap length s.is, length-append x s.rest, length-drop at bytes) in
    let low : nat_lt (base + at) base ≡ false = grind arith in
    let high : nat_lt (base + length bytes) (base + at + n) ≡ false = grind (arith, long) in
    let back : base + at - base ≡ at = omega arith in
    let before : take n (drop at bytes) ≡ x = ap (λ t. take n t) s.is ∙ take_at x s.rest n size in
    rw (low, high, back, before) refl

skip_by : (b : Bool) (x y : Option (List ℕ)) → cond (b && not true) x y ≡ y
skip_by true x y = refl
skip_by false x y = refl

-- a piece that ends before is skipped
pub piece_ends_before : (p : ℕ × List ℕ) (ps : List (ℕ × List ℕ)) (a n : ℕ) → p.0 + length p.1 < a + n → read_in (p ∷ ps) a n ≡ read_in ps a n
unfolding read_in
piece_ends_before p ps a n far =
    let high : nat_lt (p.0 + length p.1) (a + n) ≡ true = grind (arith, far) in
    rw high (skip_by (not (nat_lt a p.0)) (Some (take n (drop (a - p.0) p.1))) (read_in ps a n))

-- and so is one that begins after it
skip_low_by : (b : Bool) (x y : Option (List ℕ)) → cond (not true && b) x y ≡ y
skip_low_by b x y = refl

pub piece_begins_after : (p : ℕ × List ℕ) (ps : List (ℕ × List ℕ)) (a n : ℕ) → a < p.0 → read_in (p ∷ ps) a n ≡ read_in ps a n
unfolding read_in
piece_begins_after p ps a n far =
    let low : nat_lt a p.0 ≡ true = grind (arith, far) in
    rw low (skip_low_by (not (nat_lt (p.0 + length p.1) (a + n))) (Some (take n (drop (a - p.0) p.1))) (read_in ps a n))

-- each entry of a tree in the first piece can be read
pub tree_entry : (base : ℕ) (bytes : List ℕ) (ps : List (ℕ × List ℕ)) (at : ℕ) (es : List Entry) (i : ℕ) (e : Entry) → IsAt bytes at (tree_bytes es) → at_index es i ≡ Some e → EntryIn (read_in ((base, bytes) ∷ ps)) (base + at) i e
tree_entry base bytes ps at es i e is_at is =
    let offset : base + (at + 16 * i) ≡ base + at + 16 * i = omega arith in
    let here = is_at_part bytes at (16 * i) (tree_bytes es) (fields_bytes (entry_fields e)) is_at (entry_is_at es i e is) in
    subst (λ (k : ℕ). read_in ((base, bytes) ∷ ps) k 16 ≡ Some (fields_bytes (entry_fields e))) offset
    (piece_read base bytes ps (at + 16 * i) 16 (fields_bytes (entry_fields e)) here (length_fields (entry_fields e)))
