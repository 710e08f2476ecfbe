-- Clamped numbers: a sum or a product of such numbers, clamped, is the sum or the product, clamped.
use Rattle.std.proofs.Common.{◌≡◌, ℕ, ◌+◌, ◌*◌, ◌-◌, ◌^◌, ◌<◌, arith, min, List, [], ◌∷◌, ◌++◌, length, length-append}
use Rattle.glk_objdesc.specs.Canonical.{clamped}
use Rattle.glk_objdesc.specs.Sizes.{total_of}
use Rattle.glk_objdesc.specs.declared.parts.Part.{Part}
use Rattle.glk_objdesc.specs.declared.desc.DefDesc.{DefDesc}

-- what is left of a sum is nothing
pub clamped_end : (t m n : ℕ) → clamped (t + m) ≡ clamped n → m ≡ 0 → t < 2 ^ 64 → t ≡ clamped n
unfolding clamped
clamped_end t m n e none small = omega arith

-- one more summand
pub clamped_more : (t a m n : ℕ) → clamped (t + (a + m)) ≡ clamped n → clamped (min (t + a) (2 ^ 64 - 1) + m) ≡ clamped n
unfolding clamped
clamped_more t a m n e = omega arith

pub clamped_sum : (a b m n : ℕ) → a ≡ clamped m → b ≡ clamped n → min (a + b) (2 ^ 64 - 1) ≡ clamped (m + n)
unfolding clamped
clamped_sum a b m n e f = omega arith

-- four summands
pub clamped_four : (a b c d m n o p : ℕ) → a ≡ clamped m → b ≡ clamped n → c ≡ clamped o → d ≡ clamped p
    → min (min (min (a + b) (2 ^ 64 - 1) + c) (2 ^ 64 - 1) + d) (2 ^ 64 - 1) ≡ clamped (m + (n + (o + p)))
unfolding clamped
clamped_four a b c d m n o p ea eb ec ed = omega arith

pub clamped_small : (n : ℕ) → n < 2 ^ 64 → n ≡ clamped n
unfolding clamped
clamped_small n h = omega arith

-- a number that is clamped to a small one is that number
pub clamped_exact : (n m : ℕ) → m ≡ clamped n → m < 2 ^ 64 - 1 → n ≡ m
unfolding clamped
clamped_exact n m e h = omega arith

pub total_append : (part : Part) (xs ys : List DefDesc) → total_of part (xs ++ ys) ≡ total_of part xs + total_of part ys
unfolding total_of
total_append part [] ys = omega arith
total_append part (x ∷ xs) ys = let h = total_append part xs ys in omega (arith, h)

pub total_four : (part : Part) (a b c d : List DefDesc) → total_of part (a ++ (b ++ (c ++ d))) ≡ total_of part a + (total_of part b + (total_of part c + total_of part d))
total_four part a b c d = omega (arith, total_append part a (b ++ (c ++ d)), total_append part b (c ++ d), total_append part c d)

pub length_four : (a b c d : List DefDesc) → length (a ++ (b ++ (c ++ d))) ≡ length a + (length b + (length c + length d))
length_four a b c d = omega (arith, length-append a (b ++ (c ++ d)), length-append b (c ++ d), length-append c d)

pub table_clamped : (t n : ℕ) → t ≡ clamped n → min (4 * min (t + 1) (2 ^ 64 - 1)) (2 ^ 64 - 1) ≡ clamped (4 * (n + 1))
unfolding clamped
table_clamped t n e = omega arith

pub relocs_clamped : (t n : ℕ) → t ≡ clamped n → min (23 * t) (2 ^ 64 - 1) ≡ clamped (23 * n)
unfolding clamped
relocs_clamped t n e = omega arith

pub auxes_clamped : (t n : ℕ) → t ≡ clamped n → min (9 * t) (2 ^ 64 - 1) ≡ clamped (9 * n)
unfolding clamped
auxes_clamped t n e = omega arith
