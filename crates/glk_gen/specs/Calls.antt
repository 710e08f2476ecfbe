-- The calls that functions make. Function i makes calls 2i and 2i + 1, and each call goes to the function that is drawn
-- for it.
use Rattle.std.specs.Prelude.{ℕ, ◌+◌, ◌*◌, ◌%◌, ◌==◌, not, List, map, filter}
use Rattle.std.specs.List.{range_with_len}
use Rattle.glk_gen.specs.Draws.{draw}
use Rattle.glk_gen.specs.Packages.{package_of, first_function, function_count}
use Rattle.glk_gen.specs.Uses.{first_uses}

abbrev pub calls_each : ℕ
calls_each = 2

abbrev pub callee : ℕ → ℕ → ℕ → ℕ
callee seed n call = draw seed call % n

abbrev pub first_callee : ℕ → ℕ → ℕ → ℕ
first_callee seed n i = callee seed n (calls_each * i)

abbrev pub second_callee : ℕ → ℕ → ℕ → ℕ
second_callee seed n i = callee seed n (calls_each * i + 1)

-- the functions to which the calls of package k go, in the order of the calls
abbrev pub callees : ℕ → ℕ → ℕ → List ℕ
callees seed n k = map (callee seed n) (range_with_len (calls_each * first_function k) (calls_each * function_count n k))

-- the packages of PkgIdx: those other than k that its calls go to, in the order of first use
abbrev pub imports_by : ℕ → List ℕ → List ℕ
imports_by k called = first_uses (filter (λ p. not (p == k)) (map package_of called))

unfoldable pub imports : ℕ → ℕ → ℕ → List ℕ
imports seed n k = imports_by k (callees seed n k)
