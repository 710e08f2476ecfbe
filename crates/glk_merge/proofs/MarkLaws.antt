-- Marks of keys, one step further.
use Rattle.std.proofs.Common.{◌≡◌, ℕ, zero, suc, ◌+◌, List, [], ◌∷◌, length, Bool, true, false, refl, sym, ap, ◌∙◌, arith}
use Rattle.std.specs.Prelude.{◌||◌, ◌&&◌, cond}
use Rattle.std.specs.List.{list_any, filter, range_with_len}
use Rattle.glk_obj.specs.Flags.{is_used_in_iface}
use Rattle.glk_arena.specs.World.{objects_of}
use Rattle.glk_keys.specs.Definitions.{defines, definitions_of}
use Rattle.glk_keys.specs.Interfaces.{iface_flag, is_marked_in}
use Rattle.glk_keys.specs.Programs.{Program}
use Rattle.glk_keys.specs.Rows.{row_at, row_count, positions}
use Rattle.glk_merge.specs.Marks.{some_below, row_marks}

or_assoc : (a b c : Bool) → ((a || b) || c) ≡ (a || (b || c))
or_assoc true b c = refl
or_assoc false b c = refl

or_false : (a : Bool) → (a || false) ≡ a
or_false true = refl
or_false false = refl

any_more : (test : ℕ → Bool) (a n : ℕ) → list_any test (range_with_len a (suc n)) ≡ (list_any test (range_with_len a n) || test (a + n))
any_more test a zero =
    let e : a ≡ a + 0 = omega arith in
    or_false (test a) ∙ ap test e
any_more test a (suc n) =
    let e : a + 1 + n ≡ a + suc n = omega arith in
    ap (λ b. test a || b) (any_more test (a + 1) n ∙ ap (λ i. list_any test (range_with_len (a + 1) n) || test i) e)
    ∙ sym (or_assoc (test a) (list_any test (range_with_len (a + 1) n)) (test (a + suc n)))

-- one more number
pub below_more : (test : ℕ → Bool) (n : ℕ) → some_below test (n + 1) ≡ (some_below test n || test n)
below_more test n =
    let e : n + 1 ≡ suc n = omega arith in
    let f : 0 + n ≡ n = omega arith in
    ap (λ i. list_any test (range_with_len 0 i)) e ∙ any_more test 0 n ∙ ap (λ i. list_any test (range_with_len 0 n) || test i) f

-- the marks of n numbers, and of one more
pub mark_more : (old now new : Bool) (test : ℕ → Bool) (n : ℕ) → now ≡ (old || some_below test n) → new ≡ (now || test n) → new ≡ (old || some_below test (n + 1))
mark_more old now new test n before step = step ∙ ap (λ b. b || test n) before ∙ or_assoc old (some_below test n) (test n) ∙ ap (λ b. old || b) (sym (below_more test n))

any_kept : (f g : ℕ → Bool) (x : ℕ) (xs : List ℕ) (b : Bool) → list_any f (filter g xs) ≡ list_any (λ y. g y && f y) xs → list_any f (cond b (x ∷ filter g xs) (filter g xs)) ≡ ((b && f x) || list_any (λ y. g y && f y) xs)
any_kept f g x xs true e = ap (λ b. f x || b) e
any_kept f g x xs false e = e

-- a test of those that pass another is a test of both
pub any_filter : (f g : ℕ → Bool) (xs : List ℕ) → list_any f (filter g xs) ≡ list_any (λ x. g x && f x) xs
any_filter f g [] = refl
any_filter f g (x ∷ xs) = any_kept f g x xs (g x) (any_filter f g xs)

-- what marks a key
pub flag_is : (p : Program) (k : ℕ) → iface_flag p k ≡ (some_below (row_marks p k) (row_count p) || some_below (is_marked_in p k) (length (objects_of p.world)))
unfolding iface_flag definitions_of
flag_is p k = ap (λ b. b || some_below (is_marked_in p k) (length (objects_of p.world))) (any_filter (λ r. is_used_in_iface (row_at p r).symbol) (defines p k) (positions p))
