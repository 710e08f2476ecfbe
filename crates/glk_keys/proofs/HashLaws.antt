-- The hash of a name, word by word from both ends.
use Rattle.std.proofs.Common.{◌≡◌, ℕ, suc, ◌+◌, ◌-◌, ◌<◌, List, ap, arith}
use Rattle.glk_keys.specs.KeyHashes.{ends_hash, ends_step}

pub ends_next : (name : List ℕ) (k m hash next : ℕ) → k < m → next ≡ ends_step name k hash → ends_hash name (k + 1) (m - (k + 1)) next ≡ ends_hash name k (m - k) hash
unfolding ends_hash
ends_next name k m hash next h e =
    let left : m - k ≡ suc (m - (k + 1)) = omega arith in
    rw left (ap (λ n. ends_hash name (k + 1) (m - (k + 1)) n) e)

pub ends_last : (name : List ℕ) (k m hash : ℕ) → m - k ≡ 0 → ends_hash name k (m - k) hash ≡ hash
unfolding ends_hash
ends_last name k m hash e = ap (λ n. ends_hash name k n hash) e
