-- The search of functab, from the top, by halves, and forward from an index.
use Rattle.std.proofs.Common.{◌≡◌, ℕ, zero, suc, ◌+◌, ◌-◌, ◌<◌, ◌≤◌, Some, None, Option, refl, arith, true, false}
use Rattle.std.specs.Prelude.{nat_lt}
use Rattle.glk_frames.specs.Region.{last_below}
use Rattle.glk_frames.specs.Buckets.{forward}

-- one step from the top
pub last_skips : (start : ℕ → ℕ) (off n : ℕ) → off < start n → last_below start off (n + 1) ≡ last_below start off n
unfolding last_below
last_skips start off n above = rw (let e : n + 1 ≡ suc n = omega arith in e) (let far : nat_lt off (start n) ≡ true = grind (arith, above) in rw far refl)

pub last_here : (start : ℕ → ℕ) (off n : ℕ) → start n ≤ off → last_below start off (n + 1) ≡ Some n
unfolding last_below
last_here start off n near = rw (let e : n + 1 ≡ suc n = omega arith in e) (let here : nat_lt off (start n) ≡ false = grind (arith, near) in rw here refl)

pub last_of_none : (start : ℕ → ℕ) (off : ℕ) → last_below start off 0 ≡ None
unfolding last_below
last_of_none start off = refl

-- all starts are above
pub last_none : (start : ℕ → ℕ) (off n : ℕ) → ((j : ℕ) → j < n → off < start j) → ◌≡◌ {A = Option ℕ} None (last_below start off n)
unfolding last_below
last_none start off zero above = refl
last_none start off (suc n) above =
    let far : off < start n = above n (omega arith) in
    let skip : nat_lt off (start n) ≡ true = grind (arith, far) in
    rw skip (last_none start off n (λ j below. above j (omega arith)))

-- one step forward
pub forward_skips : (start : ℕ → ℕ) (off n j : ℕ) → j < n → start (j + 1) ≤ off → forward start off (n - j) j ≡ forward start off (n - (j + 1)) (j + 1)
unfolding forward
forward_skips start off n j inside near =
    let e : n - j ≡ suc (n - (j + 1)) = omega arith in
    let past : nat_lt off (start (j + 1)) ≡ false = grind (arith, near) in
    rw (e, past) refl

pub forward_here : (start : ℕ → ℕ) (off n j : ℕ) → j < n → off < start (j + 1) → forward start off (n - j) j ≡ Some j
unfolding forward
forward_here start off n j inside far =
    let e : n - j ≡ suc (n - (j + 1)) = omega arith in
    let stop : nat_lt off (start (j + 1)) ≡ true = grind (arith, far) in
    rw (e, stop) refl

pub forward_ends : (start : ℕ → ℕ) (off n j : ℕ) → n ≤ j → ◌≡◌ {A = Option ℕ} None (forward start off (n - j) j)
unfolding forward
forward_ends start off n j past = let e : n - j ≡ 0 = omega arith in rw e refl
