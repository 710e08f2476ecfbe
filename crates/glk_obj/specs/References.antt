-- References: a string is named by its length and its offset, a symbol by its package's number and its index.
use Rattle.std.specs.Prelude.{◌≡◌, ◌+◌, ◌<◌, ◌==◌, ℕ, Bool, true, false, List, length, Contains, nat_lt, if◌then◌else◌}
use Rattle.glk_base.specs.Bytes.{number_at}
use Rattle.glk_obj.specs.Blocks.{count, pkg_idx, symdef, hashed64def, hasheddef, nonpkgdef, nonpkgref}
use Rattle.glk_obj.specs.Packages.{nil_package, none_package, hashed64_package, hashed_package, builtin_package, self_package}
use Rattle.glk_obj.specs.Records.{SymbolRef, ref_at, text_at}

-- the string that is named here ends past the object's end
unfoldable pub PassesEnd : List ℕ → ℕ → Type 0
PassesEnd b at = length b < number_at 4 b (at + 4) + number_at 4 b at

-- the string that is named here has a zero byte
unfoldable pub HoldsNul : List ℕ → ℕ → Type 0
HoldsNul b at = Contains (text_at b at) 0

-- a reference is in range: nothing has index 0 alone, the special packages count their blocks, and
-- any other package is an entry of PkgIdx
unfoldable pub in_range : List ℕ → SymbolRef → Bool
in_range b r =
    if r.pkg == nil_package then r.sym == 0
    else (if r.pkg == none_package then nat_lt r.sym (count b nonpkgdef + count b nonpkgref)
    else (if r.pkg == hashed64_package then nat_lt r.sym (count b hashed64def)
    else (if r.pkg == hashed_package then nat_lt r.sym (count b hasheddef)
    else (if r.pkg == builtin_package then true
    else (if r.pkg == self_package then nat_lt r.sym (count b symdef) else nat_lt r.pkg (count b pkg_idx))))))

-- the symbol that is meant here is out of range
unfoldable pub IsOutOfRangeAt : List ℕ → ℕ → Type 0
IsOutOfRangeAt b at = in_range b (ref_at b at) ≡ false
